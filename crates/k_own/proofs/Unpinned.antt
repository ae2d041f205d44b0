-- Registers whose pins are let go one by one.
use Rattle.std.proofs.Common.{◌≡◌, ℕ, zero, suc, ◌+◌, ◌≤◌, ◌==◌, Bool, true, false, cond, refl, sym, ap, ◌∙◌, List, [], ◌∷◌, take, get_or, Option, None, Some, arith, ne_eqb, add-one}
use Rattle.k_types.specs.declared.names.Name.{Name}
use Rattle.k_types.specs.Cells.{ProcessPart, pins_of}
use Rattle.k_types.specs.Counted.{counted}
use Rattle.k_types.specs.Names.{leads_to}
use Rattle.k_types.specs.Totals.{total}
use Rattle.k_laws.specs.BookChanges.{registers_in}
use Rattle.k_laws.specs.PartUpdates.{held_in}
use Rattle.k_commit.specs.k_book.Books.{BookRecord}
use Rattle.k_commit.specs.k_book.Calls.{ChangesPins}
use Rattle.k_own.specs.Registers.{ArePinned, HasLetGo}

taken_more : (f : Option Name → ℕ) (xs : List (Option Name)) (i : ℕ) → f None ≡ 0 → total f (take (suc i) xs) ≡ total f (take i xs) + f (get_or xs i None)
taken_more f [] zero none = omega (arith, none)
taken_more f [] (suc i) none = omega (arith, none)
taken_more f (x ∷ xs) zero none = omega arith
taken_more f (x ∷ xs) (suc i) none = omega (arith, taken_more f xs i none)

taken_within : (f : Option Name → ℕ) (xs : List (Option Name)) (i : ℕ) → total f (take i xs) ≤ total f xs
taken_within f [] zero = omega arith
taken_within f [] (suc i) = omega arith
taken_within f (x ∷ xs) zero = omega arith
taken_within f (x ∷ xs) (suc i) = omega (arith, taken_within f xs i)

-- what a register holds stands among the registers
pub held_listed : (process : Option ProcessPart) (r : ℕ) → held_in process r ≡ get_or (registers_in process) r None
held_listed None r = refl
held_listed (Some q) r = refl

-- the pins of the first registers are gone
pub record IsUnpinning (own : ℕ) (registers : List (Option Name)) (r : ℕ) (before b : BookRecord) : Type 0 where
  pub gone : HasLetGo own (take r registers) before.value b.value
  pub book_is : ChangesPins before b

module _ (own : ℕ) (registers : List (Option Name)) (r : ℕ) (before b : BookRecord) (p : IsUnpinning own registers r before b) where
  one_more : (n : Name) → pins_of (take (suc r) registers) n ≡ pins_of (take r registers) n + pins_of (get_or registers r None ∷ []) n
  one_more n =
      let more = taken_more (λ x. cond (leads_to x n) 1 0) registers r refl in
      omega (arith, more)

  pub still_pinned : ArePinned own registers before.value → ArePinned own (get_or registers r None ∷ []) b.value
  still_pinned pinned n outside =
      let all = pinned n outside in
      let within = taken_within (λ x. cond (leads_to x n) 1 0) registers (suc r) in
      let more = one_more n in
      let was : counted b.value.pins n + pins_of (take r registers) n ≡ counted before.value.pins n =
      ap (λ t. counted b.value.pins n + cond t 0 (pins_of (take r registers) n)) (sym (ne_eqb n.seg.0 own outside)) ∙ p.gone n in
      omega (arith, all, within, more, was)

  pub unpinning_goes_on : (c : BookRecord) → HasLetGo own (get_or registers r None ∷ []) b.value c.value → ChangesPins b c → IsUnpinning own registers (r + 1) before c
  unpinning_goes_on c gone rest = record {
    gone = λ n.
        ap (λ k. counted c.value.pins n + cond (n.seg.0 == own) 0 (pins_of (take k registers) n)) (add-one r)
        ∙ both (n.seg.0 == own) (counted before.value.pins n) (counted b.value.pins n) (counted c.value.pins n) (pins_of (take r registers) n) (pins_of (get_or registers r None ∷ []) n)
        (pins_of (take (suc r) registers) n) (one_more n) (p.gone n) (gone n);
    book_is = rest ∙ ap (λ (k : BookRecord). record k { value = record k.value { pins = c.value.pins } }) p.book_is;
  }
    where
      both : (t : Bool) (first last after x y z : ℕ) → z ≡ x + y → last + cond t 0 x ≡ first → after + cond t 0 y ≡ last → after + cond t 0 z ≡ first
      both true first last after x y z sum one two = omega (arith, one, two)
      both false first last after x y z sum one two = omega (arith, sum, one, two)
