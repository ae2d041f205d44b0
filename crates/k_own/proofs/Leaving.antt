-- Exit items that are left one by one, and those that the kernel takes on.
use Rattle.std.proofs.Common.{◌≡◌, ℕ, ◌+◌, ◌<◌, ◌≤◌, ◌==◌, ◌&&◌, ◌||◌, not, Bool, true, false, cond, refl, sym, ap, ◌∙◌, List, [], ◌∷◌, length, arith, IsFalse, inl, inr}
use Rattle.std.specs.List.{list_any}
use Rattle.std.proofs.Math.Bool.{and-true}
use Rattle.std.proofs.lemmas.Bool.{and_parts, cases_Bool, false≢true, false_from_ne_true}
use Rattle.k_types.specs.declared.names.Heap.{Heap}
use Rattle.k_types.specs.declared.names.Name.{Name}
use Rattle.k_types.specs.Agree.{CellValue}
use Rattle.k_types.specs.Counted.{counted}
use Rattle.k_types.specs.Names.{name_among, name_eq}
use Rattle.k_types.proofs.Lists.{any_weaker}
use Rattle.k_types.proofs.NameTests.{name_eq-true}
use Rattle.k_laws.specs.Counts.{one_if}
use Rattle.k_commit.specs.k_cell.Changes.{HasDroppedExit}
use Rattle.k_agree.specs.Ending.{HasLeft}
use Rattle.k_agree.proofs.Swept.{among_kept}
use Rattle.k_commit.specs.k_book.Books.{BookRecord}
use Rattle.k_commit.specs.k_book.Calls.{ChangesEntries}
use Rattle.k_own.specs.Exits.{EntriesFollow, HasCut, into_segment, is_passed}

-- some exit items of the cell are left on the book, and the rest is still there
pub record IsLeaving (old now : CellValue) (before b : BookRecord) : Type 0 where
  pub value_is : now ≡ record old { exits = now.exits; black_exits = now.black_exits }
  pub there : (n : Name) → name_among n now.exits ≡ true → name_among n old.exits ≡ true
  pub left : (n : Name) → counted b.value.entries n + one_if (name_among n old.exits) ≡ counted before.value.entries n + one_if (name_among n now.exits)
  pub book_is : ChangesEntries before b

-- the same of those into the segment
pub record IsCutting (seg : ℕ) (old now : CellValue) (before b : BookRecord) : Type 0 where
  pub leaving : IsLeaving old now before b
  pub others : (n : Name) → (n.seg.0 == seg) ≡ false → name_among n now.exits ≡ name_among n old.exits
  pub fewer : length now.exits ≤ length old.exits

-- some exit items of the heap are left or have become the kernel's, and the rest is still there
pub record IsPassing (homes : List Heap) (old now kernel k : CellValue) (before b : BookRecord) : Type 0 where
  pub value_is : now ≡ record old { exits = now.exits; black_exits = now.black_exits }
  pub kernel_is : k ≡ record kernel { exits = k.exits }
  pub there : (n : Name) → name_among n now.exits ≡ true → name_among n old.exits ≡ true
  pub passed : (n : Name) → name_among n k.exits ≡ (name_among n kernel.exits || ((name_among n old.exits && not (name_among n now.exits)) && is_passed homes n))
  pub entries : (n : Name) → counted b.value.entries n + (one_if (name_among n old.exits) + one_if (name_among n kernel.exits))
      ≡ counted before.value.entries n + (one_if (name_among n now.exits) + one_if (name_among n k.exits))
  pub within : length now.exits + length k.exits ≤ length old.exits + length kernel.exits
  pub book_is : ChangesEntries before b

dropped_bit : (same was : Bool) → (same ≡ true → was ≡ true) → one_if (was && not same) + cond same 1 0 ≡ one_if was
dropped_bit true true there = refl
dropped_bit true false there = absurd (false≢true (there refl))
dropped_bit false true there = refl
dropped_bit false false there = refl

pub at_most_one : (b : Bool) → one_if b ≤ 1
at_most_one true = omega arith
at_most_one false = omega arith

pub split_bit : (t b : Bool) → one_if (b && t) + one_if (b && not t) ≡ one_if b
split_bit true true = refl
split_bit true false = refl
split_bit false true = refl
split_bit false false = refl

pub or_none : (b : Bool) → (b || false) ≡ b
or_none true = refl
or_none false = refl

pub and_none : (b : Bool) → (b && false) ≡ false
and_none true = refl
and_none false = refl

pub entries_change : (a b c : BookRecord) → ChangesEntries a b → ChangesEntries b c → ChangesEntries a c
entries_change a b c first second = second ∙ ap (λ (k : BookRecord). record k { value = record k.value { entries = c.value.entries } }) first

-- one exit item is taken from the cell
module _ (now next : CellValue) (n : Name) (d : HasDroppedExit now next n) where
  same_there : (m : Name) → name_eq n m ≡ true → name_among m now.exits ≡ true
  same_there m e = ap (λ k. name_among k now.exits) (sym (name_eq-true n m e)) ∙ d.was

  still : (m : Name) → name_among m next.exits ≡ true → name_among m now.exits ≡ true
  still m t = (and_parts (name_among m now.exits) (not (name_eq n m)) (sym (d.exits m) ∙ t)).0

  one_gone : (m : Name) → one_if (name_among m next.exits) + cond (name_eq n m) 1 0 ≡ one_if (name_among m now.exits)
  one_gone m = ap (λ b. one_if b + cond (name_eq n m) 1 0) (d.exits m) ∙ dropped_bit (name_eq n m) (name_among m now.exits) (same_there m)

  here : ◌≡◌ {A = ℕ} (one_if (name_among n now.exits)) 1
  here = ap one_if d.was

  without : (old : CellValue) → now ≡ record old { exits = now.exits; black_exits = now.black_exits } → next ≡ record old { exits = next.exits; black_exits = next.black_exits }
  without old is = d.rest ∙ ap (λ (v : CellValue). record v { exits = next.exits; black_exits = next.black_exits }) is

  module _ (old : CellValue) (before b : BookRecord) (p : IsLeaving old now before b) where
    pub still_entered : 0 < counted before.value.entries n → 0 < counted b.value.entries n
    still_entered h =
        let was = p.left n in
        let one = here in
        let most = at_most_one (name_among n old.exits) in
        omega (arith, h, was, one, most)

  module _ (homes : List Heap) (old kernel k : CellValue) (before b : BookRecord) (p : IsPassing homes old now kernel k before b) where
    passed_step : (same K o w P Q : Bool) → (same ≡ true → w ≡ true) → (same ≡ true → o ≡ true) → (same ≡ true → Q ≡ P) →
        ((K || ((o && not w) && P)) || (same && Q)) ≡ (K || ((o && not (w && not same)) && P))
    passed_step true true o w P Q f g h = refl
    passed_step true false true true P Q f g h = h refl
    passed_step true false false w P Q f g h = absurd (false≢true (g refl))
    passed_step true false true false P Q f g h = absurd (false≢true (f refl))
    passed_step false true o w P Q f g h = refl
    passed_step false false false w P Q f g h = refl
    passed_step false false true true P Q f g h = refl
    passed_step false false true false true Q f g h = refl
    passed_step false false true false false Q f g h = refl

    pub passing_goes_on : (x : CellValue) (c : BookRecord) → x ≡ record k { exits = x.exits } → length x.exits ≤ length k.exits + 1 →
        ((m : Name) → name_among m x.exits ≡ (name_among m k.exits || (name_eq n m && is_passed homes n))) →
        EntriesFollow (n ∷ []) k.exits x.exits b.value c.value → ChangesEntries b c → IsPassing homes old next kernel x before c
    passing_goes_on x c is more passed follow rest = record {
      value_is = without old p.value_is;
      kernel_is = is ∙ ap (λ (v : CellValue). record v { exits = x.exits }) p.kernel_is;
      there = λ m t. p.there m (still m t);
      passed = λ m.
          passed m
          ∙ ap (λ t. t || (name_eq n m && is_passed homes n)) (p.passed m)
          ∙ passed_step (name_eq n m) (name_among m kernel.exits) (name_among m old.exits) (name_among m now.exits) (is_passed homes m) (is_passed homes n)
          (same_there m) (λ e. p.there m (same_there m e)) (λ e. ap (is_passed homes) (name_eq-true n m e))
          ∙ ap (λ t. name_among m kernel.exits || ((name_among m old.exits && not t) && is_passed homes m)) (sym (d.exits m));
      entries = λ m.
          let was = p.entries m in
          let step = follow m in
          let gone = one_gone m in
          let alone : ◌≡◌ {A = ℕ} (one_if (name_eq n m || false)) (cond (name_eq n m) 1 0) = ap one_if (or_none (name_eq n m)) in
          omega (arith, was, step, gone, alone);
      within = let less = d.fewer in let was = p.within in omega (arith, less, was, more);
      book_is = entries_change before b c p.book_is rest;
    }

module _ (seg : ℕ) (old now : CellValue) (before b : BookRecord) (p : IsCutting seg old now before b) (none : IsFalse (list_any (λ n. n.seg.0 == seg) now.exits)) where
  gone : (n : Name) → (n.seg.0 == seg) ≡ true → name_among n now.exits ≡ false
  gone n inside =
      false_from_ne_true (name_among n now.exits) (λ t.
      false≢true (sym none ∙ any_weaker (λ m. name_eq m n) (λ m. m.seg.0 == seg) (λ m e. ap (λ (k : Name). k.seg.0 == seg) (name_eq-true m n e) ∙ inside) now.exits t))

  exits_now : (n : Name) → name_among n now.exits ≡ (name_among n old.exits && not (n.seg.0 == seg))
  exits_now n =
      elim (cases_Bool (n.seg.0 == seg)) [
        | inl inside ↦ gone n inside ∙ sym (ap (λ t. name_among n old.exits && not t) inside ∙ and_none (name_among n old.exits))
        | inr outside ↦ p.others n outside ∙ sym (ap (λ t. name_among n old.exits && not t) outside ∙ and-true (name_among n old.exits))
      ]

  pub all_cut : HasCut seg old now
  all_cut = record { rest = p.leaving.value_is; exits = exits_now; fewer = p.fewer }

  pub cut_left : HasLeft (into_segment seg old.exits) before.value b.value
  cut_left n =
      let was = p.leaving.left n in
      let parts = ap (λ t. one_if t + one_if (name_among n old.exits && not (n.seg.0 == seg))) (among_kept (λ m. m.seg.0 == seg) old.exits n) ∙ split_bit (n.seg.0 == seg) (name_among n old.exits) in
      let here = ap one_if (exits_now n) in
      omega (arith, was, parts, here)
