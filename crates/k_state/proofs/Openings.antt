-- The opening state has its shape.
use Rattle.std.proofs.Common.{◌≡◌, refl, ℕ, zero, suc, ◌<◌, lit<, length, map, replicate, Option, None, List, [], ◌∷◌, arith, false, inl, inr}
use Rattle.std.proofs.lemmas.List.{length-replicate}
use Rattle.std.specs.List.{AllByRecursion}
use Rattle.std.proofs.lemmas.Bool.{false≢true, or_cases}
use Rattle.k_types.specs.Names.{directory, name_eq}
use Rattle.k_laws.proofs.NameTests.{name_eq-true}
use Rattle.k_types.specs.declared.names.Name.{Name}
use Rattle.k_types.specs.declared.names.Phase.{Phase}
use Rattle.k_types.specs.declared.names.Phase.TheVariants.{Unmade}
use Rattle.k_types.specs.declared.setup.LimitRow.{LimitRow}
use Rattle.k_types.specs.Bounds.{maximum_below}
use Rattle.k_types.specs.Known.{IsKnownPhase}
use Rattle.k_types.specs.Limits.{max_of}
use Rattle.k_types.specs.State.{Content, ExitItem, Object, Refers, Sharing, State, opening}
use Rattle.k_types.specs.Sound.{AreNumbered}
use Rattle.k_laws.proofs.Sizes.{opening_sized}
use Rattle.k_types.specs.Trace.{Trace}
use Rattle.k_state.specs.Machines.{IsPlain}
use Rattle.k_laws.specs.Setups.{AreSetupRules}

unmade_known : (setup : Trace) (n : ℕ) → AllByRecursion (IsKnownPhase setup) (replicate n Unmade)
unmade_known setup zero = tt
unmade_known setup (suc n) = (tt, unmade_known setup n)

small_maxima : (rows : List LimitRow) → ((m : ℕ) → m < length rows → max_of rows m < maximum_below) →
    AllByRecursion (λ max. max < maximum_below) (map (λ (row : LimitRow). row.max) rows)
small_maxima [] small = tt
small_maxima (row ∷ rows) small = (small 0 (omega arith), small_maxima rows (λ m inside. small (suc m) (omega arith)))

opening_is_numbered : (setup : Trace) → AreNumbered (opening setup).objects (opening setup).made
opening_is_numbered setup n there =
    elim (or_cases (name_eq directory n) false there) [
      | inl t ↦ let same = name_eq-true directory n t in rw (← same) (omega arith)
      | inr t ↦ absurd (false≢true t)
    ]

pub opening_is_plain : (setup : Trace) → AreSetupRules setup → IsPlain (record { setup = setup; state = opening setup })
opening_is_plain setup rules = record {
  setup = rules;
  sized = opening_sized setup;
  few = lit< tt;
  few_exits = lit< tt;
  names = record { ordered = tt; numbered = opening_is_numbered setup };
  declared = (record { ty = tt; fields = let long = length-replicate {A = Content} setup.dir_fields (Refers None) in let few = rules.directory in omega arith; seg = omega arith }, tt);
  phases = unmade_known setup setup.shared_heaps;
  maxima = small_maxima setup.limits rules.limits.small;
}

-- what has the lists of the opening state is that state
pub opening_shown : (setup : Trace) (objects : List Object) (made : List ℕ) (registers : List (List (Option Name))) (done : List ℕ)
    (exits : List ExitItem) (shares : List Sharing) (phases : List Phase) (ended : List ℕ) (maxima : List ℕ) →
    objects ≡ (opening setup).objects → made ≡ (opening setup).made → registers ≡ (opening setup).registers → done ≡ (opening setup).done →
    exits ≡ [] → shares ≡ [] → phases ≡ (opening setup).phases → ended ≡ [] → maxima ≡ (opening setup).maxima →
    ◌≡◌ {A = State} (record {
      objects = objects;
      made = made;
      registers = registers;
      done = done;
      exits = exits;
      shares = shares;
      phases = phases;
      ended = ended;
      scans = [];
      closed = false;
      maxima = maxima;
    }) (opening setup)
opening_shown setup objects made registers done exits shares phases ended maxima b d e f g h i j l = rw (b, d, e, f, g, h, i, j, l) refl
