-- How far a reading has come: what is said so far, and that it can be completed.
use Rattle.std.proofs.Common.{◌≡◌, ◌∙◌, ℕ, zero, suc, ◌-◌, ◌^◌, ◌<◌, ◌≤◌, Bool, false, List, [], ◌∷◌, ◌++◌, length, map, replicate, get_or, Option, Some, None, ap, arith, length-append}
use Rattle.std.specs.Prelude.{IfSome}
use Rattle.std.specs.List.{AllByRecursion}
use Rattle.std.proofs.lemmas.List.{length-replicate}
use Rattle.k_types.specs.declared.names.Heap.{Heap}
use Rattle.k_types.specs.declared.names.Name.{Name}
use Rattle.k_types.specs.declared.names.Phase.{Phase}
use Rattle.k_types.specs.declared.names.Phase.TheVariants.{Unmade}
use Rattle.k_types.specs.Bounds.{maximum_below}
use Rattle.k_types.specs.Sound.{IsOrdered, IsOrderedFrom}
use Rattle.k_types.specs.State.{ExitItem, Object, Sharing}
use Rattle.k_types.specs.Trace.{IsHeap, Trace, process_count, segment_count}
use Rattle.k_audit.specs.Claims.{Snap}
use Rattle.k_audit.specs.Grammar.{AreExitsFrom, AreRisingFrom, IsAfter, IsNumber, IsSpelledExit, IsSpelledName, IsSpelledObject, IsSpelledPhase, IsSpelledShare, IsSpelledSnap, share_place}

-- ---- parts that can be said

pub record GoodEnded (trace : Trace) (ps : List ℕ) : Type 0 where
  pub rising : AreRisingFrom 0 ps
  pub known : AllByRecursion (λ p. p < process_count trace) ps

pub record GoodMade (trace : Trace) (ns : List ℕ) : Type 0 where
  pub small : AllByRecursion (λ n. n < 2 ^ 32) ns
  pub few : length ns ≤ segment_count trace

-- the objects come after that one, in their order
abbrev pub AreAfter : Option Name → List Object → Type 0
AreAfter last [] = Unit {0}
AreAfter last (o ∷ objects) = IsAfter last o.name × AreAfter (Some o.name) objects

pub record GoodObjects (trace : Trace) (owners : List Heap) (objects : List Object) : Type 0 where
  pub after : AreAfter None objects
  pub spelled : AllByRecursion (IsSpelledObject trace) objects
  pub same : length owners ≡ length objects
  pub known : AllByRecursion (IsHeap trace) owners

pub record GoodRegisters (trace : Trace) (rows : List (List (Option Name))) : Type 0 where
  pub long : length rows ≡ process_count trace
  pub each : AllByRecursion (λ row. length row ≡ 16) rows
  pub spelled : AllByRecursion (AllByRecursion (λ r. IfSome r (IsSpelledName trace))) rows

pub record GoodExits (trace : Trace) (exits : List ExitItem) : Type 0 where
  pub ordered : AreExitsFrom trace 0 None exits
  pub spelled : AllByRecursion (IsSpelledExit trace) exits

pub record GoodShares (trace : Trace) (shares : List Sharing) : Type 0 where
  pub rising : AreRisingFrom 0 (map (share_place trace) shares)
  pub spelled : AllByRecursion (IsSpelledShare trace) shares

pub record GoodLimits (trace : Trace) (uses maxima : List ℕ) : Type 0 where
  pub same : length maxima ≡ length uses
  pub few : length uses ≤ length trace.limits
  pub small : AllByRecursion IsNumber uses
  pub below : AllByRecursion (λ max. max < maximum_below) maxima

pub record GoodCharges (trace : Trace) (charges : List ℕ) : Type 0 where
  pub few : length charges ≤ process_count trace
  pub small : AllByRecursion IsNumber charges

pub record GoodHeaps (trace : Trace) (bytes : List ℕ) (phases : List Phase) : Type 0 where
  pub same : length phases ≡ length bytes
  pub few : length bytes ≤ trace.shared_heaps
  pub small : AllByRecursion IsNumber bytes
  pub spelled : AllByRecursion (IsSpelledPhase trace) phases

pub record GoodRest (trace : Trace) (done : List ℕ) (closed : Bool) (kernel ceiling : ℕ) : Type 0 where
  pub done_is : done ≡ replicate (process_count trace) 0
  pub open_is : closed ≡ false
  pub kernel_small : IsNumber kernel
  pub ceiling_small : IsNumber ceiling

-- what was said can stand in a snapshot's text
pub record IsGood (trace : Trace) (snap : Snap) : Type 0 where
  pub ended : GoodEnded trace snap.state.ended
  pub made : GoodMade trace snap.state.made
  pub objects : GoodObjects trace snap.claims.owners snap.state.objects
  pub registers : GoodRegisters trace snap.state.registers
  pub exits : GoodExits trace snap.state.exits
  pub shares : GoodShares trace snap.state.shares
  pub limits : GoodLimits trace snap.claims.uses snap.state.maxima
  pub charges : GoodCharges trace snap.claims.charges
  pub heaps : GoodHeaps trace snap.claims.shared_bytes snap.state.phases
  pub rest : GoodRest trace snap.state.done snap.state.closed snap.claims.kernel snap.claims.ceiling
  pub scans : snap.state.scans ≡ []

-- ---- completed by zeros

abbrev more : ℕ → List ℕ → List ℕ
more all ns = replicate (all - length ns) 0

abbrev more_phases : ℕ → List Phase → List Phase
more_phases all phases = replicate (all - length phases) Unmade

-- the snapshot with zeros for what is not said yet
abbrev pub completed : Trace → Snap → Snap
completed trace snap = record {
  state = record snap.state {
    made = snap.state.made ++ more (segment_count trace) snap.state.made;
    maxima = snap.state.maxima ++ more (length trace.limits) snap.state.maxima;
    phases = snap.state.phases ++ more_phases trace.shared_heaps snap.state.phases;
  };
  claims = record snap.claims {
    uses = snap.claims.uses ++ more (length trace.limits) snap.claims.uses;
    charges = snap.claims.charges ++ more (process_count trace) snap.claims.charges;
    shared_bytes = snap.claims.shared_bytes ++ more trace.shared_heaps snap.claims.shared_bytes;
  };
}

filled : (all : ℕ) (ns : List ℕ) → length ns ≤ all → length (ns ++ more all ns) ≡ all
filled all ns few = let sum = length-append ns (more all ns) in let rest = length-replicate {A = ℕ} (all - length ns) 0 in omega (arith, few, sum, rest)

phases_filled : (all : ℕ) (phases : List Phase) → length phases ≤ all → length (phases ++ more_phases all phases) ≡ all
phases_filled all phases few = let sum = length-append phases (more_phases all phases) in let rest = length-replicate {A = Phase} (all - length phases) Unmade in omega (arith, few, sum, rest)

all_more : {A : Type 0} (holds : A → Type 0) (xs : List A) (x : A) (n : ℕ) → AllByRecursion holds xs → holds x → AllByRecursion holds (xs ++ replicate n x)
all_more holds [] x zero all one = tt
all_more holds [] x (suc n) all one = (one, all_more holds [] x n tt one)
all_more holds (y ∷ xs) x n all one = (all.0, all_more holds xs x n all.1 one)

sixteen_at : (rows : List (List (Option Name))) → AllByRecursion (λ row. length row ≡ 16) rows → (p : ℕ) → p < length rows → length (get_or rows p []) ≡ 16
sixteen_at [] all p inside = absurd (omega (arith, inside))
sixteen_at (row ∷ rows) all zero inside = all.0
sixteen_at (row ∷ rows) all (suc p) inside = sixteen_at rows all.1 p (omega (arith, inside))

ordered_after : (n : Name) (objects : List Object) → AreAfter (Some n) objects → IsOrderedFrom n objects
ordered_after n [] after = tt
ordered_after n (o ∷ objects) after = (after.0, ordered_after o.name objects after.1)

ordered_first : (objects : List Object) → AreAfter None objects → IsOrdered objects
ordered_first [] after = tt
ordered_first (o ∷ objects) after = ordered_after o.name objects after.1

-- what can stand in a text is, completed, what a text can say
pub completed_spelled : (trace : Trace) (snap : Snap) → IsGood trace snap → IsSpelledSnap trace (completed trace snap)
completed_spelled trace snap good =
    let st = snap.state in
    let cl = snap.claims in
    let rows = good.registers.long in
    record {
      state = record {
        sized = record {
          made = filled (segment_count trace) st.made good.made.few;
          registers = good.registers.long;
          each = λ p known. sixteen_at st.registers good.registers.each p (omega (arith, known, rows));
          done = ap length good.rest.done_is ∙ length-replicate {A = ℕ} (process_count trace) 0;
          phases = phases_filled trace.shared_heaps st.phases (let same = good.heaps.same in let few = good.heaps.few in omega (arith, same, few));
          maxima = filled (length trace.limits) st.maxima (let same = good.limits.same in let few = good.limits.few in omega (arith, same, few));
        };
        ended = good.ended.rising;
        ended_known = good.ended.known;
        made = all_more (λ n. n < 2 ^ 32) st.made 0 (segment_count trace - length st.made) good.made.small (omega arith);
        ordered = ordered_first st.objects good.objects.after;
        objects = good.objects.spelled;
        registers = good.registers.spelled;
        exits_ordered = good.exits.ordered;
        exits = good.exits.spelled;
        shares_ordered = good.shares.rising;
        shares = good.shares.spelled;
        maxima = all_more (λ max. max < maximum_below) st.maxima 0 (length trace.limits - length st.maxima) good.limits.below (omega arith);
        phases = all_more (IsSpelledPhase trace) st.phases Unmade (trace.shared_heaps - length st.phases) good.heaps.spelled tt;
        done = good.rest.done_is;
        scans = good.scans;
        closed = good.rest.open_is;
      };
      claims = record {
        owners = good.objects.same;
        owners_known = good.objects.known;
        kernel = good.rest.kernel_small;
        ceiling = good.rest.ceiling_small;
        uses = filled (length trace.limits) cl.uses good.limits.few;
        uses_small = all_more IsNumber cl.uses 0 (length trace.limits - length cl.uses) good.limits.small (omega arith);
        charges = filled (process_count trace) cl.charges good.charges.few;
        charges_small = all_more IsNumber cl.charges 0 (process_count trace - length cl.charges) good.charges.small (omega arith);
        shared_bytes = filled trace.shared_heaps cl.shared_bytes good.heaps.few;
        shared_small = all_more IsNumber cl.shared_bytes 0 (trace.shared_heaps - length cl.shared_bytes) good.heaps.small (omega arith);
      };
    }
