-- What the book gives up is there, and goes one by one.
use Rattle.std.proofs.Common.{◌≡◌, ℕ, zero, suc, length, ◌+◌, ◌<◌, ◌≤◌, ◌==◌, ◌&&◌, not, Bool, true, false, cond, refl, sym, ap, ◌∙◌, inl, inr, List, [], ◌∷◌, get_or, arith, Option, eq-eqb}
use Rattle.std.proofs.lemmas.Bool.{false≢true, and_parts, false_from_ne_true, cases_eq}
use Rattle.k_laws.specs.k_types.declared.names.Heap.{Heap}
use Rattle.k_laws.specs.k_types.declared.names.Heap.TheVariants.{Kernel}
use Rattle.k_laws.specs.k_types.declared.names.Name.{Name}
use Rattle.k_laws.specs.k_types.Agree.{BookValue, CellValue}
use Rattle.k_laws.specs.k_types.Counted.{counted}
use Rattle.k_laws.specs.k_types.Cells.{BookPart, Cell, ShownPart, part, book_part, pins_of}
use Rattle.k_laws.specs.k_types.Limits.{direct_by}
use Rattle.k_laws.specs.k_types.Names.{heap_eq, leads_to, name_among, name_eq}
use Rattle.k_laws.specs.k_types.Numbers.{numbers_from}
use Rattle.k_laws.specs.k_types.Owners.{charge_of, owner_of, user}
use Rattle.k_laws.specs.k_types.Reach.{is_shared_heap}
use Rattle.k_laws.specs.k_types.Sound.{IsSound}
use Rattle.k_laws.specs.k_types.State.{State}
use Rattle.k_laws.specs.k_types.Totals.{total}
use Rattle.k_laws.specs.k_types.Trace.{Trace, limit_of, process_count}
use Rattle.k_laws.specs.k_types.TraceRules.{AreLimits}
use Rattle.k_tie.proofs.NameTests.{heap_eq-true, heap_eq_refl, name_eq-true}
use Rattle.k_laws.specs.k_types.Distinct.{AreDistinctNames}
use Rattle.k_laws.specs.Changes.{MayExit}
use Rattle.k_laws.specs.BookChanges.{registers_in}
use Rattle.k_laws.proofs.EndsOnBook.{charge_told}
use Rattle.k_agree.specs.Agreement.{Shows, BookShows}
use Rattle.k_agree.specs.Ending.{HasLeft}
use Rattle.k_agree.specs.GivingOnTheBook.{HasEntered, HasUnpinned, charged, leading_into, new_to_kernel}
use Rattle.k_agree.proofs.Credited.{kept_distinct, left_bit}
use Rattle.k_agree.proofs.GivenOnTheBook.{charge_as_told}
use Rattle.k_agree.proofs.Swept.{among_kept}
use Rattle.k_tie.proofs.Lists.{get_mapped}
use Rattle.k_tie.proofs.Sums.{passing_within}
use Rattle.k_tie.proofs.Exits.{exit_counted}

-- a number of a list is at most their sum, also of those that pass a test
member_within : (f : ℕ → ℕ) (p first n : ℕ) → first ≤ p → p < first + n → f p ≤ total f (numbers_from first n)
member_within f p first zero low high = absurd (omega (arith, low, high))
member_within f p first (suc n) low high =
    elim (cases_eq first p) [
      | inl e ↦ let same = ap f e in omega (arith, same)
      | inr ne ↦ let rest = member_within f p (suc first) n (omega (arith, low, ne)) (omega (arith, high)) in omega (arith, rest)
    ]

pub left_there : (trace : Trace) (st : State) (cell : Cell) (value : CellValue) (book : BookValue) (n : Name) → BookShows trace st book → Shows trace st cell value → name_among n value.exits ≡ true → 0 < counted book.entries n
unfolding book_part part
left_there trace st cell value book n seen shows t =
    let there = exit_counted st.exits cell n (sym (ap (λ (s : ShownPart). s.exits n) shows.part) ∙ t) in
    let was = ap (λ (b : BookPart). b.entries n) seen.part in
    omega (arith, there, was)

pub cut_there : (trace : Trace) (st : State) (g : Heap) (heap kernel : CellValue) (before drained : BookValue) (n : Name) → IsSound trace st → BookShows trace st before → Shows trace st g heap →
    Shows trace st Kernel kernel → HasLeft heap.exits before drained → name_among n (leading_into (owner_of trace st) g kernel) ≡ true → 0 < counted drained.entries n
unfolding part
cut_there trace st g heap kernel before drained n sound seen shows kernel_shows left t =
    let both = and_parts (name_among n kernel.exits) (heap_eq (owner_of trace st n.seg.0) g) (sym (among_kept (λ m. heap_eq (owner_of trace st m.seg.0) g) kernel.exits n) ∙ t) in
    let there = left_there trace st Kernel kernel before n seen kernel_shows both.0 in
    let inside = heap_eq-true (owner_of trace st n.seg.0) g both.1 in
    let apart : name_among n heap.exits ≡ false =
    false_from_ne_true _ (λ u.
    false≢true (sym (sound.exits.leave g n (sym (ap (λ (s : ShownPart). s.exits n) shows.part) ∙ u)) ∙ ap (heap_eq g) inside ∙ heap_eq_refl g)) in
    let none : ◌≡◌ {A = ℕ} (cond (name_among n heap.exits) 1 0) 0 = ap (λ b. cond b 1 0) apart in
    let one = left n in
    omega (arith, there, none, one)

pub pins_there : (trace : Trace) (st : State) (p : ℕ) (value : CellValue) (book : BookValue) (n : Name) → p < process_count trace → BookShows trace st book → Shows trace st (user p) value →
    heap_eq (user p) (owner_of trace st n.seg.0) ≡ false → pins_of (registers_in value.process) n ≤ counted book.pins n
unfolding book_part part
pins_there trace st p value book n known seen shows apart =
    let within = member_within (λ q. cond (heap_eq (user q) (owner_of trace st n.seg.0)) 0 (pins_of (get_or st.registers q []) n)) p 0 (process_count trace) (omega arith) (omega (arith, known)) in
    let mine : ◌≡◌ {A = ℕ} (cond (heap_eq (user p) (owner_of trace st n.seg.0)) 0 (pins_of (get_or st.registers p []) n)) (pins_of (get_or st.registers p []) n) =
    ap (λ b. cond b 0 (pins_of (get_or st.registers p []) n)) apart in
    let row = ap (λ (s : ShownPart). pins_of (registers_in s.process) n) shows.part in
    let was = ap (λ (b : BookPart). b.pins n) seen.part in
    omega (arith, within, mine, row, was)

pub charge_there : (trace : Trace) (st : State) (p : ℕ) (value : CellValue) (book : BookValue) → AreLimits trace → IsSound trace st → MayExit trace st p → BookShows trace st book → Shows trace st (user p) value →
    charged trace book value p ≤ get_or book.direct (limit_of trace p) 0
unfolding book_part
charge_there trace st p value book limits sound may seen shows =
    let told = charge_as_told trace st p value book seen shows in
    let same = charge_told trace st p sound may.lives in
    let direct = ap (λ (b : BookPart). get_or b.direct (limit_of trace p) 0) seen.part in
    let at = get_mapped (direct_by trace (charge_of trace st)) 0 (length trace.limits) (limit_of trace p) (limits.limited p may.known) in
    let here = ap (direct_by trace (charge_of trace st)) (number_from (limit_of trace p)) in
    let within = passing_within (charge_of trace st) (λ q. limit_of trace q == limit_of trace p) p 0 (process_count trace) (eq-eqb (limit_of trace p) (limit_of trace p) refl) (omega arith) (omega (arith, may.known)) in
    omega (arith, told, same, direct, at, here, within)
  where
    number_from : (m : ℕ) → 0 + m ≡ m
    number_from m = omega arith

pub entered_none : (book : BookValue) → HasEntered [] book book
entered_none book n = omega arith

pub entered_more : (first last after : BookValue) (n : Name) (come : List Name) → HasEntered (n ∷ []) first last → HasEntered come last after → name_among n come ≡ false → HasEntered (n ∷ come) first after
entered_more first last after n come one rest apart m =
    let a = one m in
    let b = rest m in
    let both = left_bit (name_eq n m) (name_among m come) (λ same. ap (λ k. name_among k come) (sym (name_eq-true n m same)) ∙ apart) in
    omega (arith, a, b, both)

pub cut_distinct : (own : ℕ → Heap) (g : Heap) (value : CellValue) → AreDistinctNames value.exits → AreDistinctNames (leading_into own g value)
cut_distinct own g value = kept_distinct (λ n. heap_eq (own n.seg.0) g) value.exits

pub passed_distinct : (own : ℕ → Heap) (heap kernel : CellValue) → AreDistinctNames heap.exits → AreDistinctNames (new_to_kernel own heap kernel)
passed_distinct own heap kernel = kept_distinct (λ n. is_shared_heap (own n.seg.0) && not (name_among n kernel.exits)) heap.exits

unpinned_step : (b : Bool) (first last after x y : ℕ) → last + cond b 0 (x + 0) ≡ first → after + cond b 0 y ≡ last → after + cond b 0 (x + y) ≡ first
unpinned_step true first last after x y one rest = omega (arith, one, rest)
unpinned_step false first last after x y one rest = omega (arith, one, rest)

unpinned_nothing : (b : Bool) (x : ℕ) → x + cond b 0 0 ≡ x
unpinned_nothing true x = omega arith
unpinned_nothing false x = omega arith

pub unpinned_none : (own : ℕ → Heap) (p : ℕ) (book : BookValue) → HasUnpinned own p [] book book
unpinned_none own p book n = unpinned_nothing (heap_eq (user p) (own n.seg.0)) (counted book.pins n)

pub unpinned_more : (own : ℕ → Heap) (p : ℕ) (first last after : BookValue) (r : Option Name) (rest : List (Option Name)) → HasUnpinned own p (r ∷ []) first last → HasUnpinned own p rest last after →
    HasUnpinned own p (r ∷ rest) first after
unpinned_more own p first last after r rest one others n =
    unpinned_step (heap_eq (user p) (own n.seg.0)) (counted first.pins n) (counted last.pins n) (counted after.pins n) (cond (leads_to r n) 1 0) (pins_of rest n) (one n) (others n)
