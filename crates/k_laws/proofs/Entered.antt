-- An object is entered exactly where its entries or its pins are above 0.
use Rattle.std.proofs.Common.{◌≡◌, ℕ, ◌+◌, ◌&&◌, ◌||◌, not, nat_lt, arith, Bool, true, false, cond, refl, sym, ap, ap₂, ◌∙◌, List, [], ◌∷◌, get_or, IsTrue, IsFalse}
use Rattle.std.specs.List.{list_any}
use Rattle.std.proofs.lemmas.Bool.{or_left, or_right, and_from}
use Rattle.std.proofs.lemmas.Bool.Decides.{nat_tests}
use Rattle.k_types.specs.declared.names.Name.{Name}
use Rattle.k_types.specs.declared.names.Heap.{Heap}
use Rattle.k_types.specs.Names.{heap_eq, name_eq, leads_to}
use Rattle.k_types.specs.Totals.{total}
use Rattle.k_types.specs.Numbers.{numbers_below}
use Rattle.k_types.specs.Trace.{Trace, process_count}
use Rattle.k_types.specs.State.{State, ExitItem, has_exit, in_registers}
use Rattle.k_types.specs.Owners.{owner_of, user}
use Rattle.k_types.specs.Reach.{is_entered, has_entry}
use Rattle.k_types.specs.Cells.{entries, pins, pins_of}
use Rattle.k_types.specs.Sound.{IsSound}
use Rattle.k_types.proofs.NameTests.{name_eq-true, name_eq_refl, heap_eq_refl}
use Rattle.k_types.proofs.Sums.{bit}

either_above : (a b : ℕ) → nat_lt 0 (a + b) ≡ (nat_lt 0 a || nat_lt 0 b)
either_above a b = grind (arith, nat_tests)

-- a sum is above 0 where some part is
sum_above : {A : Type 0} (f : A → ℕ) (q : A → Bool) → ((x : A) → nat_lt 0 (f x) ≡ q x) → (xs : List A) → nat_lt 0 (total f xs) ≡ list_any q xs
sum_above f q above [] = refl
sum_above f q above (x ∷ xs) = either_above (f x) (total f xs) ∙ ap₂ (λ a b. a || b) (above x) (sum_above f q above xs)

bit_above : (b : Bool) → nat_lt 0 (bit b) ≡ b
bit_above true = refl
bit_above false = refl

foreign_above : (own : Bool) (k : ℕ) (q : Bool) → nat_lt 0 k ≡ q → nat_lt 0 (cond own 0 k) ≡ (not own && q)
foreign_above true k q e = refl
foreign_above false k q e = e

-- each exit item leaves its heap, so one to the object is an entry
entry_is : (own : ℕ → Heap) (n : Name) (exits : List ExitItem) → ((h : Heap) (m : Name) → IsTrue (has_exit exits h m) → IsFalse (heap_eq h (own m.seg.0))) →
    list_any (λ (e : ExitItem). name_eq e.target n) exits ≡ has_entry own exits n
entry_is own n [] leave = refl
entry_is own n (e ∷ exits) leave =
    ap₂ (λ a b. a || b) (here (name_eq e.target n) refl) (entry_is own n exits (λ h m t. leave h m (or_right _ _ t)))
  where
    here : (b : Bool) → name_eq e.target n ≡ b → b ≡ (not (heap_eq e.heap (own n.seg.0)) && b)
    here false t = sym (and_none (not (heap_eq e.heap (own n.seg.0))))
      where
        and_none : (b : Bool) → (b && false) ≡ false
        and_none true = refl
        and_none false = refl
    here true t =
        let out = leave e.heap e.target (or_left _ _ (and_from _ _ (heap_eq_refl e.heap) (name_eq_refl e.target))) in
        sym (ap (λ b. not b && true) (ap (λ (m : Name). heap_eq e.heap (own m.seg.0)) (sym (name_eq-true e.target n t)) ∙ out))

pub entered_counted : (trace : Trace) (st : State) (n : Name) → IsSound trace st → is_entered trace st n ≡ (nat_lt 0 (entries st n) || nat_lt 0 (pins trace st n))
unfolding is_entered
entered_counted trace st n sound =
    ap₂ (λ a b. a || b)
    (sym (sum_above (λ (e : ExitItem). bit (name_eq e.target n)) (λ (e : ExitItem). name_eq e.target n) (λ e. bit_above (name_eq e.target n)) st.exits ∙ entry_is (owner_of trace st) n st.exits sound.exits.leave))
    (sym (sum_above (λ p. cond (heap_eq (user p) (owner_of trace st n.seg.0)) 0 (pins_of (get_or st.registers p []) n)) (λ p. not (heap_eq (user p) (owner_of trace st n.seg.0)) && in_registers st.registers p n)
    (λ p. foreign_above (heap_eq (user p) (owner_of trace st n.seg.0)) (pins_of (get_or st.registers p []) n) (in_registers st.registers p n)
    (sum_above (λ r. bit (leads_to r n)) (λ r. leads_to r n) (λ r. bit_above (leads_to r n)) (get_or st.registers p []))) (numbers_below (process_count trace))))
