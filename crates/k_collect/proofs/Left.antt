-- Exit items that are left one by one until the marked ones alone are there.
use Rattle.std.proofs.Common.{◌≡◌, ◌+◌, ◌-◌, ◌≤◌, ◌||◌, ◌&&◌, not, Bool, true, false, cond, refl, sym, ap, ◌∙◌, List, [], ◌∷◌, map, filter, length, arith}
use Rattle.std.proofs.lemmas.Bool.{and_from}
use Rattle.k_types.specs.declared.names.Heap.TheVariants.{Kernel}
use Rattle.k_types.specs.declared.names.Name.{Name}
use Rattle.k_types.specs.Agree.{BookValue, CellValue}
use Rattle.k_types.specs.Counted.{counted}
use Rattle.k_types.specs.Names.{name_among, name_eq, heap_eq}
use Rattle.k_types.specs.Sound.{AreDistinctExits}
use Rattle.k_types.specs.State.{ExitItem, has_exit}
use Rattle.k_types.specs.Totals.{total}
use Rattle.k_types.specs.Distinct.{AreDistinctNames}
use Rattle.k_types.proofs.Sums.{ones}
use Rattle.k_types.proofs.Tests.{same_test}
use Rattle.k_laws.proofs.Distinct.{targets_sum}
use Rattle.k_agree.specs.Ending.{HasLeft, dropped, dropped_exits}
use Rattle.k_agree.proofs.Credited.{kept_distinct}
use Rattle.k_agree.proofs.Swept.{among_kept}

-- some exit items that are not black are gone, each with one entry
pub record IsLeaving (old now : CellValue) (before after : BookValue) : Type 0 where
  pub rest : now ≡ record old { exits = now.exits; black_exits = now.black_exits }
  pub kept : (n : Name) → name_among n now.exits ≡ true → name_among n old.exits ≡ true
  pub stays : (n : Name) → (name_among n old.exits && name_among n old.black_exits) ≡ true → name_among n now.exits ≡ true
  pub black : (n : Name) → name_among n now.black_exits ≡ name_among n old.black_exits
  pub counts : (n : Name) → counted after.entries n + cond (name_among n old.exits && not (name_among n now.exits)) 1 0 ≡ counted before.entries n

-- names as exit items of one heap
as_items : List Name → List ExitItem
as_items names = map (λ n. record { heap = Kernel; target = n }) names

items_have : (names : List Name) (n : Name) → has_exit (as_items names) Kernel n ≡ name_among n names
unfolding as_items
items_have [] n = refl
items_have (x ∷ names) n = ap (λ b. name_eq x n || b) (items_have names n)

items_distinct : (names : List Name) → AreDistinctNames names → AreDistinctExits (as_items names)
unfolding as_items
items_distinct [] distinct = tt
items_distinct (x ∷ names) distinct = (items_have names x ∙ distinct.0, items_distinct names distinct.1)

items_are_all : (names : List Name) → total (λ (e : ExitItem). cond (heap_eq e.heap Kernel) 1 0) (as_items names) ≡ length names
unfolding as_items
items_are_all [] = refl
items_are_all (x ∷ names) = let rest = items_are_all names in omega (arith, rest)

-- distinct names that are the same ones are as many
pub same_size : (xs ys : List Name) → AreDistinctNames xs → AreDistinctNames ys → ((n : Name) → name_among n ys ≡ name_among n xs) → length ys ≡ length xs
same_size xs ys first second same =
    sym (ones ys)
    ∙ targets_sum (λ n. 1) Kernel (as_items xs) ys (items_distinct xs first) second (λ n. same n ∙ sym (items_have xs n))
    ∙ items_are_all xs

split_length : (p : Name → Bool) (xs : List Name) → length (filter p xs) + length (filter (λ x. not (p x)) xs) ≡ length xs
split_length p [] = omega arith
split_length p (x ∷ xs) = elim (p x) as (λ b. length (cond b (x ∷ filter p xs) (filter p xs)) + length (cond (not b) (x ∷ filter (λ y. not (p y)) xs) (filter (λ y. not (p y)) xs)) ≡ length (x ∷ xs)) [
  | true ↦ let rest = split_length p xs in omega (arith, rest)
  | false ↦ let rest = split_length p xs in omega (arith, rest)
]

and_not_both : (a b : Bool) → (a && not (a && b)) ≡ (a && not b)
and_not_both true b = refl
and_not_both false b = refl

module _ (old now : CellValue) (before after : BookValue) (is : IsLeaving old now before after)
    (none : (n : Name) → name_among n now.exits ≡ true → name_among n now.black_exits ≡ true) where
  marked_alone : (n : Name) → name_among n now.exits ≡ (name_among n old.exits && name_among n old.black_exits)
  marked_alone n = same_test _ _ (λ there. and_from _ _ (is.kept n there) (sym (is.black n) ∙ none n there)) (is.stays n)

  pub book_left : HasLeft (dropped old) before after
  book_left n =
      ap (λ b. counted after.entries n + cond b 1 0)
      (among_kept (λ m. not (name_among m old.black_exits)) old.exits n
      ∙ sym (ap (λ b. name_among n old.exits && not b) (marked_alone n) ∙ and_not_both (name_among n old.exits) (name_among n old.black_exits)))
      ∙ is.counts n

  pub left_counted : AreDistinctNames old.exits → AreDistinctNames now.exits → length old.exits - length now.exits ≡ dropped_exits old
  left_counted first second =
      let size = same_size (filter (λ m. name_among m old.black_exits) old.exits) now.exits (kept_distinct (λ m. name_among m old.black_exits) old.exits first) second
      (λ n. marked_alone n ∙ sym (among_kept (λ m. name_among m old.black_exits) old.exits n)) in
      let split = split_length (λ m. name_among m old.black_exits) old.exits in
      omega (arith, size, split)

  pub fewer_left : AreDistinctNames old.exits → AreDistinctNames now.exits → length now.exits ≤ length old.exits
  fewer_left first second =
      let size = same_size (filter (λ m. name_among m old.black_exits) old.exits) now.exits (kept_distinct (λ m. name_among m old.black_exits) old.exits first) second
      (λ n. marked_alone n ∙ sym (among_kept (λ m. name_among m old.black_exits) old.exits n)) in
      let split = split_length (λ m. name_among m old.black_exits) old.exits in
      omega (arith, size, split)
