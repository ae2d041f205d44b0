-- A shared heap that an operation reaches is one of the trace's.
use Rattle.std.proofs.Common.{◌≡◌, ◌<◌, nat_lt, ℕ, refl, sym, ap, ◌∙◌, subst, [], ◌∷◌, Bool, true, false, cond, Option, Some, None, arith}
use Rattle.std.proofs.lemmas.Bool.{and_parts}
use Rattle.std.proofs.lemmas.Bool.Decides.{nat_tests}
use Rattle.k_types.specs.declared.names.Heap.{Heap}
use Rattle.k_types.specs.declared.names.Heap.TheVariants.{Kernel, Shared, User}
use Rattle.k_types.specs.declared.names.Name.{Name}
use Rattle.k_types.specs.declared.names.SharedId.{SharedId}
use Rattle.k_types.specs.declared.op.Op.{Op}
use Rattle.k_types.specs.declared.op.Op.TheVariants.{SNew, Store, Load, Put, Get, Share, Freeze, Attach, Kill}
use Rattle.k_types.specs.Agree.{book_shown_by}
use Rattle.k_types.specs.Cells.{BookPart, CellPart, book_part}
use Rattle.k_types.specs.State.{has_share}
use Rattle.k_types.specs.Steps.{in_range}
use Rattle.k_types.specs.Trace.{Trace}
use Rattle.k_laws.specs.Touches.{access_cell_in, base_cell_in, ends_other_in, other_cells_in}
use Rattle.k_agree.proofs.AtTheEnd.{book_sound}
use Rattle.k_laws.specs.PartUpdates.{held_in}
use Rattle.k_laws.specs.BookChanges.{owner_in}
use Rattle.k_process.specs.k_book.Books.{BookRecord}
use Rattle.k_process.specs.Standing.{BookStands}
use Rattle.k_agree.proofs.Killing.{never_one}

below : (a b : ℕ) → nat_lt a b ≡ true → a < b
below a b t = grind (arith, nat_tests)

module _ (trace : Trace) (b : BookRecord) (stands : BookStands trace b) (p : ℕ) (s : SharedId) where
  sharer_known : has_share b.value.shares p s.0 ≡ true → s.0 < trace.shared_heaps
  unfolding book_part
  sharer_known t =
      (book_sound trace b.journal b.value stands.keeps.limits stands.agrees).shape.known.shared p s.0
      (sym (ap (λ (k : BookPart). k.shares p s.0) stands.agrees.shows.part) ∙ t)

  by_share : (t : SharedId) (shares : Bool) → has_share b.value.shares p t.0 ≡ shares → cond shares (Shared t ∷ []) [] ≡ Shared s ∷ [] → s.0 < trace.shared_heaps
  by_share t true e is = let same : t ≡ s = cc in sharer_known (ap (λ (u : SharedId). has_share b.value.shares p u.0) (sym same) ∙ e)
  by_share t false e is = absurd cc

  by_owner : (h : Heap) → base_cell_in (book_shown_by b.value) p h ≡ Shared s ∷ [] → s.0 < trace.shared_heaps
  by_owner Kernel is = absurd cc
  by_owner (User q) is = absurd cc
  by_owner (Shared t) is = by_share t (has_share b.value.shares p t.0) refl is

  by_access : (held : Option Name) → access_cell_in trace (book_shown_by b.value) p held ≡ Shared s ∷ [] → s.0 < trace.shared_heaps
  by_access None is = absurd cc
  by_access (Some x) is = by_owner (owner_in trace (book_shown_by b.value) x.seg.0) is

  pub heap_reached : (own : CellPart) (op : Op) → in_range trace op ≡ true → other_cells_in trace (book_shown_by b.value) own p op ≡ Shared s ∷ [] → s.0 < trace.shared_heaps
  unfolding other_cells_in in_range
  heap_reached own (SNew r h ty) t is =
      let same : h ≡ s = cc in
      subst (λ (u : SharedId). u.0 < trace.shared_heaps) same (below h.0 trace.shared_heaps (and_parts (nat_lt r.0 16) _ (and_parts _ _ t).0).1)
  heap_reached own (Store base i value) t is = by_access (held_in own.process base.0) is
  heap_reached own (Load r base i) t is = by_access (held_in own.process base.0) is
  heap_reached own (Put base i number) t is = by_access (held_in own.process base.0) is
  heap_reached own (Get base i) t is = by_access (held_in own.process base.0) is
  heap_reached own (Share h) t is = let same : h ≡ s = cc in subst (λ (u : SharedId). u.0 < trace.shared_heaps) same (below h.0 trace.shared_heaps t)
  heap_reached own (Freeze h root) t is = let same : h ≡ s = cc in subst (λ (u : SharedId). u.0 < trace.shared_heaps) same (below h.0 trace.shared_heaps (and_parts _ _ t).0)
  heap_reached own (Attach r h) t is = let same : h ≡ s = cc in subst (λ (u : SharedId). u.0 < trace.shared_heaps) same (below h.0 trace.shared_heaps (and_parts _ _ t).1)
  heap_reached own (Kill q) t is = absurd (never_one (ends_other_in trace (book_shown_by b.value) p q.0) q (Shared s) is)
  heap_reached own _ t is = absurd cc
