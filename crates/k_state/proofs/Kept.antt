-- The shape of the lists after a change.
use Rattle.std.proofs.Common.{◌≡◌, ℕ, ◌+◌, ◌<◌, ◌≤◌, ◌^◌, true, false, cond, refl, ap, sym, ◌∙◌, inl, inr, Bool, List, [], ◌∷◌, length, length-set, map, get_or, get_or-set_same, set, subst, arith}
use Rattle.std.proofs.lemmas.Bool.{false_from_ne_true, or_cases}
use Rattle.std.proofs.lemmas.List.{length-map}
use Rattle.std.specs.List.{AllByRecursion}
use Rattle.k_types.specs.declared.names.Name.{Name}
use Rattle.k_types.specs.Names.{name_eq, name_lt}
use Rattle.k_types.specs.Owners.{object_bytes}
use Rattle.k_types.specs.Sound.{AreNames, AreNumbered}
use Rattle.k_types.specs.State.{Content, ExitItem, Object, has}
use Rattle.k_types.specs.Trace.{Trace}
use Rattle.k_types.specs.Updates.{object_after_write, with_object}
use Rattle.k_laws.proofs.Lists.{get_or-set_cases}
use Rattle.k_laws.proofs.NameTests.{name_eq-true}
use Rattle.k_laws.proofs.Objects.{has-placed, has-written, length-placed}
use Rattle.k_state.specs.Machines.{AreTotals, IsDeclared, IsKept, Machine}
use Rattle.k_state.specs.Marks.{marked}
use Rattle.k_state.proofs.Marked.{all_marked, length_marked}
use Rattle.k_state.proofs.Placed.{has_marked, ordered_marked}
use Rattle.k_state.proofs.Totals.{totals_placed, totals_written}
use Rattle.k_laws.proofs.Ordered.{ordered-placed, ordered-written}

pub kept_exits : (m : Machine) (totals : List ℕ) (exits : List ExitItem) → IsKept m totals → length exits ≤ length m.state.exits →
    IsKept (record m { state = record m.state { exits = exits } }) totals
kept_exits m totals exits kept fewer = record {
  plain = record {
    setup = kept.plain.setup;
    sized = record {
      made = kept.plain.sized.made;
      registers = kept.plain.sized.registers;
      each = kept.plain.sized.each;
      done = kept.plain.sized.done;
      phases = kept.plain.sized.phases;
      maxima = kept.plain.sized.maxima;
    };
    few = kept.plain.few;
    few_exits = omega (arith, fewer, kept.plain.few_exits);
    names = kept.plain.names;
    declared = kept.plain.declared;
    phases = kept.plain.phases;
    maxima = kept.plain.maxima;
  };
  counted = kept.counted;
  bytes = kept.bytes;
}

kept_objects : (m : Machine) (totals totals' : List ℕ) (objects : List Object) (made : List ℕ) → IsKept m totals → length objects < 2 ^ 32 →
    AreNames objects made → AllByRecursion (IsDeclared m.setup) objects → length made ≡ length m.state.made → length totals' ≡ length totals →
    AreTotals objects totals' → IsKept (record m { state = record m.state { objects = objects; made = made } }) totals'
kept_objects m totals totals' objects made kept few names declared long same are = record {
  plain = record {
    setup = kept.plain.setup;
    sized = record {
      made = long ∙ kept.plain.sized.made;
      registers = kept.plain.sized.registers;
      each = kept.plain.sized.each;
      done = kept.plain.sized.done;
      phases = kept.plain.sized.phases;
      maxima = kept.plain.sized.maxima;
    };
    few = few;
    few_exits = kept.plain.few_exits;
    names = names;
    declared = declared;
    phases = kept.plain.phases;
    maxima = kept.plain.maxima;
  };
  counted = same ∙ kept.counted;
  bytes = are;
}

marked_kept : (m : Machine) (totals totals' : List ℕ) (marks : List Bool) → IsKept m totals → length totals' ≡ length totals →
    AreTotals (marked marks m.state.objects) totals' → IsKept (record m { state = record m.state { objects = marked marks m.state.objects } }) totals'
marked_kept m totals totals' marks kept same are =
    let xs = m.state.objects in
    kept_objects m totals totals' (marked marks xs) m.state.made kept
    (omega (arith, length_marked marks xs, kept.plain.few))
    (record {
      ordered = ordered_marked marks xs kept.plain.names.ordered;
      numbered = λ n there. kept.plain.names.numbered n (has_marked marks xs n there);
    })
    (all_marked (IsDeclared m.setup) marks xs kept.plain.declared) refl same are

pub kept_marked : (m : Machine) (totals totals' : List ℕ) (objects : List Object) (marks : List Bool) → IsKept m totals →
    objects ≡ marked marks m.state.objects → length totals' ≡ length totals → AreTotals objects totals' →
    IsKept (record m { state = record m.state { objects = objects } }) totals'
kept_marked m totals totals' objects marks kept is same are =
    subst (λ xs. IsKept (record m { state = record m.state { objects = xs } }) totals') (sym is)
    (marked_kept m totals totals' marks kept same (subst (λ xs. AreTotals xs totals') is are))

written_declared : (setup : Trace) (n : Name) (i : ℕ) (c : Content) (o : Object) → IsDeclared setup o → IsDeclared setup (object_after_write n i c o)
written_declared setup n i c o is =
    elim (name_eq o.name n) as (λ b. IsDeclared setup (cond b (record o { fields = set o.fields i c }) o)) [
      | true ↦ record { ty = is.ty; fields = omega (arith, is.fields, length-set o.fields i c); seg = is.seg }
      | false ↦ is
    ]

declared_written : (setup : Trace) (n : Name) (i : ℕ) (c : Content) (xs : List Object) → AllByRecursion (IsDeclared setup) xs →
    AllByRecursion (IsDeclared setup) (map (object_after_write n i c) xs)
declared_written setup n i c [] all = tt
declared_written setup n i c (x ∷ xs) all = (written_declared setup n i c x all.0, declared_written setup n i c xs all.1)

written_kept : (m : Machine) (totals : List ℕ) (n : Name) (i : ℕ) (c : Content) → IsKept m totals →
    IsKept (record m { state = record m.state { objects = map (object_after_write n i c) m.state.objects } }) totals
written_kept m totals n i c kept =
    let xs = m.state.objects in
    kept_objects m totals totals (map (object_after_write n i c) xs) m.state.made kept
    (omega (arith, length-map xs (object_after_write n i c), kept.plain.few))
    (record {
      ordered = ordered-written n i c xs kept.plain.names.ordered;
      numbered = λ y there. kept.plain.names.numbered y (sym (has-written n i c xs y) ∙ there);
    })
    (declared_written m.setup n i c xs kept.plain.declared) refl refl (totals_written n i c xs totals kept.bytes)

pub kept_written : (m : Machine) (totals : List ℕ) (objects : List Object) (n : Name) (i : ℕ) (c : Content) → IsKept m totals →
    objects ≡ map (object_after_write n i c) m.state.objects → IsKept (record m { state = record m.state { objects = objects } }) totals
kept_written m totals objects n i c kept is =
    subst (λ xs. IsKept (record m { state = record m.state { objects = xs } }) totals) (sym is) (written_kept m totals n i c kept)

declared_placed : (setup : Trace) (o : Object) (xs : List Object) → IsDeclared setup o → AllByRecursion (IsDeclared setup) xs →
    AllByRecursion (IsDeclared setup) (with_object o xs)
declared_placed setup o [] is all = (is, tt)
declared_placed setup o (x ∷ xs) is all =
    elim (name_lt x.name o.name) as (λ b. AllByRecursion (IsDeclared setup) (cond b (x ∷ with_object o xs) (o ∷ x ∷ xs))) [
      | true ↦ (all.0, declared_placed setup o xs is all.1)
      | false ↦ (is, all)
    ]

-- the segment's next object is new, and its serial is the last that the segment has given
pub next_is_new : (xs : List Object) (made : List ℕ) (n : Name) → AreNumbered xs made → n.serial.0 ≡ get_or made n.seg.0 0 + 1 → has xs n ≡ false
next_is_new xs made n numbered next = false_from_ne_true (has xs n) (λ there. let low = numbered n there in omega (arith, low, next))

numbered_placed : (o : Object) (xs : List Object) (made : List ℕ) → AreNumbered xs made → o.name.seg.0 < length made →
    o.name.serial.0 ≡ get_or made o.name.seg.0 0 + 1 → AreNumbered (with_object o xs) (set made o.name.seg.0 (get_or made o.name.seg.0 0 + 1))
numbered_placed o xs made numbered inside next n there =
    let seg = o.name.seg.0 in
    let v = get_or made seg 0 + 1 in
    elim (or_cases (name_eq o.name n) (has xs n) (sym (has-placed o xs n) ∙ there)) [
      | inl t ↦
          let same = name_eq-true o.name n t in
          let serial = ap (λ (k : Name). k.serial.0) same in
          let at = ap (λ (k : Name). get_or (set made seg v) k.seg.0 0) same in
          let here = get_or-set_same made seg v 0 inside in
          omega (arith, next, serial, at, here)
      | inr t ↦
          let low = numbered n t in
          elim (get_or-set_cases made seg n.seg.0 v 0) [
            | inl same ↦ omega (arith, low, same)
            | inr here ↦ let was = ap (λ k. get_or made k 0) here.0 in omega (arith, low, here.1, was)
          ]
    ]

placed_kept : (m : Machine) (totals : List ℕ) (o : Object) (n : ℕ) → IsKept m totals → 1 + length m.state.objects < 2 ^ 32 → IsDeclared m.setup o →
    o.name.serial.0 ≡ get_or m.state.made o.name.seg.0 0 + 1 → n ≡ get_or totals o.name.seg.0 0 →
    IsKept (record m {
      state = record m.state {
        objects = with_object o m.state.objects;
        made = set m.state.made o.name.seg.0 (get_or m.state.made o.name.seg.0 0 + 1);
      };
    }) (set totals o.name.seg.0 (n + object_bytes o))
placed_kept m totals o n kept room is next total =
    let xs = m.state.objects in
    let made = m.state.made in
    let seg = o.name.seg.0 in
    kept_objects m totals _ (with_object o xs) _ kept
    (omega (arith, length-placed o xs, room))
    (record {
      ordered = ordered-placed o xs (next_is_new xs made o.name kept.plain.names.numbered next) kept.plain.names.ordered;
      numbered = numbered_placed o xs made kept.plain.names.numbered (omega (arith, is.seg, kept.plain.sized.made)) next;
    })
    (declared_placed m.setup o xs is kept.plain.declared)
    (length-set made seg (get_or made seg 0 + 1))
    (length-set totals seg (n + object_bytes o))
    (totals_placed o xs totals n kept.bytes total)

pub kept_placed : (m : Machine) (totals totals' : List ℕ) (o : Object) (objects : List Object) (made : List ℕ) (n : ℕ) → IsKept m totals →
    1 + length m.state.objects < 2 ^ 32 → IsDeclared m.setup o → o.name.serial.0 ≡ get_or m.state.made o.name.seg.0 0 + 1 →
    n ≡ get_or totals o.name.seg.0 0 → objects ≡ with_object o m.state.objects →
    made ≡ set m.state.made o.name.seg.0 (get_or m.state.made o.name.seg.0 0 + 1) → totals' ≡ set totals o.name.seg.0 (n + object_bytes o) →
    IsKept (record m { state = record m.state { objects = objects; made = made } }) totals'
kept_placed m totals totals' o objects made n kept room is next total objects_are made_are totals_are =
    let goal : List Object → List ℕ → List ℕ → Type 0 = λ xs ks ts. IsKept (record m { state = record m.state { objects = xs; made = ks } }) ts in
    subst (λ xs. goal xs made totals') (sym objects_are)
    (subst (λ ks. goal (with_object o m.state.objects) ks totals') (sym made_are)
    (subst (λ ts. goal (with_object o m.state.objects) (set m.state.made o.name.seg.0 (get_or m.state.made o.name.seg.0 0 + 1)) ts) (sym totals_are)
    (placed_kept m totals o n kept room is next total)))
