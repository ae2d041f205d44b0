-- What a register that is set changes in the book's pins.
use Rattle.std.proofs.Common.{◌≡◌, ◌≢◌, ℕ, zero, suc, ◌+◌, ◌≤◌, ◌<◌, Bool, true, false, cond, refl, ap, ap₂, inl, inr, List, [], ◌∷◌, length, Option, None, get_or, set, get_or-set_same, get_or-set_other, arith}
use Rattle.std.proofs.Math.Path.{fun_ext}
use Rattle.std.proofs.lemmas.Bool.{cases_eq}
use Rattle.k_types.specs.declared.names.Name.{Name}
use Rattle.k_types.specs.Names.{heap_eq, leads_to}
use Rattle.k_types.specs.Totals.{total}
use Rattle.k_types.specs.Numbers.{numbers_from}
use Rattle.k_types.specs.Trace.{Trace, process_count}
use Rattle.k_types.specs.State.{State, register}
use Rattle.k_types.specs.Owners.{owner_of, user}
use Rattle.k_types.specs.Updates.{set_register}
use Rattle.k_types.specs.Cells.{book_part, pins, pins_of}
use Rattle.k_types.specs.Sound.{IsSized}
use Rattle.k_laws.specs.BookChanges.{pins_by, with_pin_moved}
use Rattle.k_types.proofs.Sums.{bit}

-- a sum of which one number's part changes
above_same : (f g : ℕ → ℕ) (p first n : ℕ) → p < first → ((q : ℕ) → q ≢ p → g q ≡ f q) → total g (numbers_from first n) ≡ total f (numbers_from first n)
above_same f g p first zero low same = refl
above_same f g p first (suc n) low same = ap₂ (λ a b. a + b) (same first (λ e. absurd (omega (arith, e)))) (above_same f g p (suc first) n (omega arith) same)

pub one_changed : (f g : ℕ → ℕ) (p first n : ℕ) → first ≤ p → p < first + n → ((q : ℕ) → q ≢ p → g q ≡ f q) → total g (numbers_from first n) + f p ≡ total f (numbers_from first n) + g p
one_changed f g p first zero low high same = absurd (omega arith)
one_changed f g p first (suc n) low high same =
    elim (cases_eq first p) [
      | inl e ↦
          let rest = above_same f g p (suc first) n (omega (arith, e)) same in
          let here : f first ≡ f p = ap f e in
          let there : g first ≡ g p = ap g e in
          omega (arith, rest, here, there)
      | inr ne ↦
          let rest = one_changed f g p (suc first) n (omega (arith, ne, low)) (omega arith) same in
          let here = same first ne in
          omega (arith, rest, here)
    ]

row_changed : (row : List (Option Name)) (r : ℕ) (v : Option Name) (n : Name) → r < length row → pins_of (set row r v) n + bit (leads_to (get_or row r None) n) ≡ pins_of row n + bit (leads_to v n)
row_changed [] r v n lt = absurd (omega arith)
row_changed (x ∷ row) zero v n lt = omega arith
row_changed (x ∷ row) (suc r) v n lt = let h = row_changed row r v n (omega arith) in omega (arith, h)

module _ (trace : Trace) (st : State) (p r : ℕ) (v : Option Name) (sized : IsSized trace st) (known : p < process_count trace) (small : r < 16) where
  part_of : Name → List (List (Option Name)) → ℕ → ℕ
  part_of n registers q = cond (heap_eq (user q) (owner_of trace st n.seg.0)) 0 (pins_of (get_or registers q []) n)

  rows : List (List (Option Name))
  rows = set st.registers p (set (get_or st.registers p []) r v)

  at_p : (a b c d : ℕ) (own : Bool) → a + b ≡ c + d → cond own 0 a + cond own 0 b ≡ cond own 0 c + cond own 0 d
  at_p a b c d true e = refl
  at_p a b c d false e = e

  pins_moved : (n : Name) → pins trace (set_register p r v st) n + pins_by (owner_of trace st) p (register st.registers p r) n ≡ pins trace st n + pins_by (owner_of trace st) p v n
  unfolding set_register part_of rows
  pins_moved n =
      let inside : p < length st.registers = omega (arith, known, sized.registers) in
      let wide : r < length (get_or st.registers p []) = let w = sized.each p known in omega (arith, small, w) in
      let now = get_or-set_same st.registers p (set (get_or st.registers p []) r v) [] inside in
      let all = one_changed (part_of n st.registers) (part_of n rows) p 0 (process_count trace) (omega arith) (omega (arith, known))
      (λ q ne. ap (λ row. cond (heap_eq (user q) (owner_of trace st n.seg.0)) 0 (pins_of row n)) (get_or-set_other st.registers p q (set (get_or st.registers p []) r v) [] (λ e. ne e))) in
      let one = at_p _ _ _ _ (heap_eq (user p) (owner_of trace st n.seg.0)) (row_changed (get_or st.registers p []) r v n wide) in
      let is : part_of n rows p ≡ cond (heap_eq (user p) (owner_of trace st n.seg.0)) 0 (pins_of (set (get_or st.registers p []) r v) n) = ap (λ row. cond (heap_eq (user p) (owner_of trace st n.seg.0)) 0 (pins_of row n)) now in
      omega (arith, all, one, is)

  pub set_register_on_book : book_part trace (set_register p r v st) ≡ with_pin_moved (owner_of trace st) p (register st.registers p r) v (book_part trace st)
  unfolding book_part set_register
  set_register_on_book = ap (λ held. record (book_part trace st) { pins = held }) (fun_ext (λ n. let moved = pins_moved n in omega (arith, moved)))

  -- what a register holds is among the pins
  pub held_is_pinned : (n : Name) → pins_by (owner_of trace st) p (register st.registers p r) n ≤ pins trace st n + pins_by (owner_of trace st) p v n
  held_is_pinned n = let moved = pins_moved n in omega (arith, moved)
