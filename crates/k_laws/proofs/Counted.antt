-- What is let go was counted.
use Rattle.std.proofs.Common.{◌≡◌, ℕ, zero, suc, length, ◌+◌, ◌<◌, ◌≤◌, ◌==◌, ◌&&◌, ◌||◌, not, Bool, true, false, cond, refl, sym, ap, ◌∙◌, List, [], ◌∷◌, get_or, arith, Option, Some, None, eq-eqb, IsTrue, IsFalse}
use Rattle.std.proofs.lemmas.Bool.{false≢true}
use Rattle.k_types.specs.declared.names.Heap.{Heap}
use Rattle.k_types.specs.declared.names.Name.{Name}
use Rattle.k_types.specs.Cells.{BookPart, part, book_part, pins_of}
use Rattle.k_types.specs.Limits.{direct_by}
use Rattle.k_types.specs.Names.{heap_eq, leads_to, name_eq, among}
use Rattle.k_types.specs.Numbers.{numbers_below}
use Rattle.k_types.specs.Owners.{charge_of, owner_of, user}
use Rattle.k_types.specs.Sound.{IsSound}
use Rattle.k_types.specs.State.{ExitItem, State, has_exit}
use Rattle.k_types.specs.Totals.{total}
use Rattle.k_types.specs.Trace.{Trace, limit_of, process_count}
use Rattle.k_types.specs.TraceRules.{AreLimits}
use Rattle.k_types.proofs.NameTests.{heap_eq-true, name_eq_refl}
use Rattle.k_laws.proofs.Counting.{total_fewer}
use Rattle.k_laws.specs.BookChanges.{owner_in, has_way_into, shared_by}
use Rattle.k_laws.proofs.EndsOnBook.{charge_told}
use Rattle.k_laws.proofs.OnBook.{owner_told}
use Rattle.k_laws.specs.Owed.{PinsAreCounted, EntriesAreCounted, ChargesAreCounted}
use Rattle.k_types.proofs.Sums.{total_at_most, passing_within}
use Rattle.k_types.proofs.Lists.{get_mapped}
use Rattle.k_types.proofs.Exits.{exit_counted}

pub within_all : (f : ℕ → ℕ) (p n : ℕ) → p < n → f p ≤ total f (numbers_below n)
within_all f p n low =
    let some = passing_within f (λ q. true) p 0 n refl (omega arith) (omega (arith, low)) in
    let all = total_fewer f (λ q. true) (numbers_below n) in
    omega (arith, some, all)

-- a register that holds the object is counted
held_counted : (row : List (Option Name)) (r : ℕ) (n : Name) → get_or row r None ≡ Some n → 0 < pins_of row n
held_counted [] r n e = absurd (cc e)
held_counted (v ∷ row) zero n e =
    let one : ◌≡◌ {A = ℕ} (cond (leads_to v n) 1 0) 1 = ap (λ w. cond (leads_to w n) 1 0) e ∙ ap (λ b. cond b 1 0) (name_eq_refl n) in
    omega (arith, one)
held_counted (v ∷ row) (suc r) n e = let rest = held_counted row r n e in omega (arith, rest)

module _ (trace : Trace) (st : State) (p : ℕ) (known : p < process_count trace) where
  all_counted : (n : Name) → IsFalse (heap_eq (user p) (owner_of trace st n.seg.0)) → pins_of (get_or st.registers p []) n ≤ (book_part trace st).pins n
  unfolding book_part
  all_counted n apart =
      let within = within_all (λ q. cond (heap_eq (user q) (owner_of trace st n.seg.0)) 0 (pins_of (get_or st.registers q []) n)) p (process_count trace) known in
      let mine : ◌≡◌ {A = ℕ} (cond (heap_eq (user p) (owner_of trace st n.seg.0)) 0 (pins_of (get_or st.registers p []) n)) (pins_of (get_or st.registers p []) n) =
      ap (λ b. cond b 0 (pins_of (get_or st.registers p []) n)) apart in
      omega (arith, within, mine)

  apart_of : (n : Name) → IsFalse (heap_eq (user p) (owner_in trace (book_part trace st) n.seg.0)) → IsFalse (heap_eq (user p) (owner_of trace st n.seg.0))
  apart_of n apart = ap (λ (own : ℕ → Heap). heap_eq (user p) (own n.seg.0)) (sym (owner_told trace st)) ∙ apart

  pub pins_counted : PinsAreCounted trace st p
  unfolding part
  pins_counted = record {
    one = λ r n held apart.
        let least = held_counted (get_or st.registers p []) r n held in
        let all = all_counted n (apart_of n apart) in
        omega (arith, least, all);
    all = λ n apart. all_counted n (apart_of n apart);
  }

-- of two heaps the first exit item is of one at most, so that the other's is among the rest
two_counted : (exits : List ExitItem) (h g : Heap) (n : Name) → IsFalse (heap_eq h g) → has_exit exits h n ≡ true → has_exit exits g n ≡ true → 1 < total (λ (e : ExitItem). cond (name_eq e.target n) 1 0) exits
two_counted [] h g n apart t u = absurd (false≢true t)
two_counted (e ∷ exits) h g n apart t u =
    go (name_eq e.target n) (heap_eq e.heap h) (heap_eq e.heap g) (has_exit exits h n) (has_exit exits g n) (exit_counted exits h n) (exit_counted exits g n) (two_counted exits h g n apart) both t u
  where
    both : IsTrue (heap_eq e.heap h) → IsTrue (heap_eq e.heap g) → ⊥
    both a b = false≢true (sym apart ∙ ap (λ k. heap_eq k g) (sym (heap_eq-true e.heap h a)) ∙ b)

    go : (here of_h of_g later_h later_g : Bool) → (later_h ≡ true → 0 < total (λ (e : ExitItem). cond (name_eq e.target n) 1 0) exits) → (later_g ≡ true → 0 < total (λ (e : ExitItem). cond (name_eq e.target n) 1 0) exits) →
        (later_h ≡ true → later_g ≡ true → 1 < total (λ (e : ExitItem). cond (name_eq e.target n) 1 0) exits) → (IsTrue of_h → IsTrue of_g → ⊥) →
        ((of_h && here) || later_h) ≡ true → ((of_g && here) || later_g) ≡ true → 1 < cond here 1 0 + total (λ (e : ExitItem). cond (name_eq e.target n) 1 0) exits
    go here of_h of_g true true one other two apart t u = let least = two refl refl in omega (arith, least)
    go true of_h of_g true false one other two apart t u = let least = one refl in omega (arith, least)
    go true of_h of_g false true one other two apart t u = let least = other refl in omega (arith, least)
    go true true true false false one other two apart t u = absurd (apart refl refl)
    go true true false false false one other two apart t u = absurd (false≢true u)
    go true false of_g false false one other two apart t u = absurd (false≢true t)
    go false of_h true true false one other two apart t u = absurd (false≢true u)
    go false of_h false true false one other two apart t u = absurd (false≢true u)
    go false true of_g false later_g one other two apart t u = absurd (false≢true t)
    go false false of_g false later_g one other two apart t u = absurd (false≢true t)

pub entries_counted : (trace : Trace) (st : State) → EntriesAreCounted trace st
unfolding book_part part
entries_counted trace st = record {
  one = λ h n t. exit_counted st.exits h n t;
  two = λ h g n apart t u. two_counted st.exits h g n apart t u;
}

fewer_bytes : (trace : Trace) (b : BookPart) (p : ℕ) (test : ℕ → Bool) → shared_by trace b p test ≤ shared_by trace b p (λ t. true)
fewer_bytes trace b p test =
    total_at_most (λ t. cond (b.shares p t && test t) (get_or b.shared_bytes t 0) 0) (λ t. cond (b.shares p t && true) (get_or b.shared_bytes t 0) 0)
    (λ t. one (b.shares p t) (test t) (get_or b.shared_bytes t 0)) (numbers_below trace.shared_heaps)
  where
    one : (x y : Bool) (bytes : ℕ) → cond (x && y) bytes 0 ≤ cond (x && true) bytes 0
    one true true bytes = omega arith
    one true false bytes = omega arith
    one false y bytes = omega arith

pub charge_within : (trace : Trace) (st : State) (p : ℕ) → AreLimits trace → p < process_count trace → charge_of trace st p ≤ get_or (book_part trace st).direct (limit_of trace p) 0
unfolding book_part
charge_within trace st p limits known =
    let at = get_mapped (direct_by trace (charge_of trace st)) 0 (length trace.limits) (limit_of trace p) (limits.limited p known) in
    let here = ap (direct_by trace (charge_of trace st)) (number_from (limit_of trace p)) in
    let within = passing_within (charge_of trace st) (λ q. limit_of trace q == limit_of trace p) p 0 (process_count trace) (eq-eqb (limit_of trace p) (limit_of trace p) refl) (omega arith) (omega (arith, known)) in
    omega (arith, at, here, within)
  where
    number_from : (m : ℕ) → 0 + m ≡ m
    number_from m = omega arith

pub charges_counted : (trace : Trace) (st : State) (p : ℕ) → AreLimits trace → IsSound trace st → p < process_count trace → IsFalse (among p st.ended) → ChargesAreCounted trace st p
charges_counted trace st p limits sound known lives =
    let told = charge_told trace st p sound lives in
    let direct = charge_within trace st p limits known in
    let fewer = fewer_bytes trace (book_part trace st) p (λ t. not (has_way_into (owner_in trace (book_part trace st)) (book_part trace st) (part trace st (user p)) p t)) in
    record { whole = omega (arith, told, direct); freed = omega (arith, told, direct, fewer) }
