-- Roots that were copied into the row of noted ones.
use Rattle.std.proofs.Common.{◌≡◌, ℕ, ◌||◌, Bool, true, false, refl, sym, ap, ◌∙◌, List}
use Rattle.std.proofs.lemmas.Bool.{or_left}
use Rattle.k_types.specs.declared.names.Heap.{Heap}
use Rattle.k_types.specs.declared.names.Name.{Name}
use Rattle.k_types.specs.Agree.{CellValue}
use Rattle.k_types.specs.Names.{name_among}
use Rattle.k_agree.specs.Marking.{begun}
use Rattle.k_commit.specs.k_cell.Changes.{HasBegun, HasGrayed}
use Rattle.k_commit.proofs.Grayed.{among_more, grays_both, grays_more, grays_same}
use Rattle.k_entry.specs.Copies.{IsCopied}
use Rattle.k_entry.specs.Entries.{AreEntries, EntryValue, items_of, objects}
use Rattle.k_entry.proofs.Copied.{copied_whole}
use Rattle.k_entry.proofs.WholeWalks.{walk_has}
use Rattle.k_collect.specs.Graying.{is_counted_at}

-- the row of the cell v, taken out, and put back into w with what was copied
module _ (v : EntryValue) (heap : Heap) (are : AreEntries v) (room : ℕ) (all : Bool) (w x y : CellValue) (taken put : List Name) (out : x ≡ begun x.gray w) (was : HasGrayed (λ n. name_among n taken) x w)
    (copied : IsCopied room taken put (objects (items_of v heap)) all) (now : HasGrayed (λ n. name_among n put) x y) where
  written_gray : HasGrayed (λ n. name_among n copied.written) w y
  written_gray = grays_more (λ n. name_among n copied.written) w x y taken put out was now (λ n. ap (name_among n) copied.row ∙ among_more n taken copied.written)

  pub copied_begun : HasBegun y
  copied_begun = now.rest ∙ sym (ap (λ (u : CellValue). begun y.gray u) now.rest)

  pub all_copied : all ≡ true → HasGrayed (is_counted_at v heap) w y
  all_copied whole =
      grays_same (λ n. name_among n (objects (items_of v heap))) (is_counted_at v heap) w y (λ n. walk_has v heap n are)
      (grays_more (λ n. name_among n (objects (items_of v heap))) w x y taken put out was now
      (λ n. ap (name_among n) (copied_whole room taken put (objects (items_of v heap)) all copied whole) ∙ among_more n taken (objects (items_of v heap))))

  written_counted : (n : Name) → name_among n copied.written ≡ true → is_counted_at v heap n ≡ true
  written_counted n there =
      sym (walk_has v heap n are) ∙ ap (name_among n) copied.parts ∙ among_more n copied.written copied.left ∙ or_left (name_among n copied.written) (name_among n copied.left) there

  absorbed : (a b : Bool) → (a ≡ true → b ≡ true) → (a || b) ≡ b
  absorbed true b more = sym (more refl)
  absorbed false b more = refl

  pub walked_too : (z : CellValue) → HasGrayed (is_counted_at v heap) y z → HasGrayed (is_counted_at v heap) w z
  walked_too z walked =
      grays_same (λ n. name_among n copied.written || is_counted_at v heap n) (is_counted_at v heap) w z
      (λ n. absorbed (name_among n copied.written) (is_counted_at v heap n) (written_counted n))
      (grays_both (λ n. name_among n copied.written) (is_counted_at v heap) w y z written_gray walked)
