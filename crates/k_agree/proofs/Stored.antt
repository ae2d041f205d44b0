-- What a store of a reference makes of the book and of the object's cell, by cases.
use Rattle.std.proofs.Common.{◌≡◌, ◌+◌, ℕ, not, ap, ap₂, ◌∙◌, cond, Some, IsTrue, IsFalse, true, false, arith}
use Rattle.std.proofs.Math.Path.{fun_ext}
use Rattle.k_types.specs.declared.names.Heap.{Heap}
use Rattle.k_types.specs.declared.names.Name.{Name}
use Rattle.k_types.specs.Cells.{BookPart, CellPart}
use Rattle.k_types.specs.Names.{heap_eq}
use Rattle.k_laws.specs.BookChanges.{with_entry}
use Rattle.k_laws.specs.CellChanges.{with_exit_to}
use Rattle.k_laws.specs.BookAfter.{book_stored}
use Rattle.k_laws.specs.CellAfter.{with_exit_for}
use Rattle.k_agree.specs.Shown.{part_alone}

module _ (own : ℕ → Heap) (x y : Name) (c : CellPart) (b : BookPart) where
  pub inside : IsTrue (heap_eq (own x.seg.0) (own y.seg.0)) → book_stored own (Some x) (Some y) (part_alone c) b ≡ b
  inside same = ap (λ t. cond t b (with_entry (not (c.exits y)) y b)) same

  no_more : with_entry false y b ≡ b
  no_more = ap (λ (entries : Name → ℕ). record b { entries = entries }) (fun_ext (λ n. let zero_more : b.entries n + 0 ≡ b.entries n = omega arith in zero_more))

  pub entered_already : IsFalse (heap_eq (own x.seg.0) (own y.seg.0)) → IsTrue (c.exits y) → book_stored own (Some x) (Some y) (part_alone c) b ≡ b
  entered_already other there = ap₂ (λ t u. cond t b (with_entry (not u) y b)) other there ∙ no_more

  pub entered : IsFalse (heap_eq (own x.seg.0) (own y.seg.0)) → IsFalse (c.exits y) → book_stored own (Some x) (Some y) (part_alone c) b ≡ with_entry true y b
  entered other new = ap₂ (λ t u. cond t b (with_entry (not u) y b)) other new

module _ (own : ℕ → Heap) (x y : Name) (c : CellPart) where
  pub no_exit : IsTrue (heap_eq (own x.seg.0) (own y.seg.0)) → with_exit_for own x (Some y) c ≡ c
  no_exit same = ap (λ t. cond t c (with_exit_to y c)) same

  pub an_exit : IsFalse (heap_eq (own x.seg.0) (own y.seg.0)) → with_exit_for own x (Some y) c ≡ with_exit_to y c
  an_exit other = ap (λ t. cond t c (with_exit_to y c)) other
