use Rattle.std.proofs.Common.{◌≡◌, ap, subst, ◌∙◌, vec_capacity}
use Rattle.k_types.specs.declared.names.Heap.TheVariants.{User}
use Rattle.k_types.specs.declared.names.Pid.{Pid}
use Rattle.k_commit.specs.k_book.Books.{book_entries}
use Rattle.k_commit.specs.k_cell.Changes.{HasGrayed}
use Rattle.k_entry.specs.Copies.{IsCopied}
use Rattle.k_entry.specs.Entries.{items_of, objects}
use Rattle.k_commit.specs.k_heap.Heaps.{HeapRecord}
use Rattle.k_collect.specs.Graying.{is_counted_at}
use Rattle.k_collect.proofs.Copied.{all_copied, walked_too}
use Rattle.k_collect.proofs.graying.gray_entered.Goals as goal

pub returns-then-not-all-clause-gray : goal.returns-then-not-all-clause-gray
returns-then-not-all-clause-gray c =
    let copied =
    subst (λ (pid : Pid). IsCopied (vec_capacity c.take_roots-roots.result) c.take_roots-roots.result.items c.copy_entered-all.new.row.items (objects (items_of (book_entries c.args.book.now) (User pid))) c.copy_entered-all.result) c.pid.ensures
    c.copy_entered-all.ensures.copied in
    let same : c.put_roots.new.self.pid ≡ c.args.cell.now.pid = ap (λ (h : HeapRecord). h.pid) c.put_roots.ensures.rest ∙ ap (λ (h : HeapRecord). h.pid) c.take_roots-roots.ensures.rest in
    walked_too (book_entries c.args.book.now) (User c.args.cell.now.pid) c.copy_entered-all.ensures.items (vec_capacity c.take_roots-roots.result) c.copy_entered-all.result c.args.cell.now.value c.take_roots-roots.new.self.value c.put_roots.new.self.value c.take_roots-roots.result.items
    c.copy_entered-all.new.row.items c.take_roots-roots.ensures.begun c.take_roots-roots.ensures.roots copied c.put_roots.ensures.roots c.walk_entered.new.cell.value
    (subst (λ (pid : Pid). HasGrayed (is_counted_at (book_entries c.args.book.now) (User pid)) c.put_roots.new.self.value c.walk_entered.new.cell.value) same c.walk_entered.ensures.gray)

pub returns-else-not-all-clause-gray : goal.returns-else-not-all-clause-gray
returns-else-not-all-clause-gray c =
    let copied =
    subst (λ (pid : Pid). IsCopied (vec_capacity c.take_roots-roots.result) c.take_roots-roots.result.items c.copy_entered-all.new.row.items (objects (items_of (book_entries c.args.book.now) (User pid))) c.copy_entered-all.result) c.pid.ensures
    c.copy_entered-all.ensures.copied in
    all_copied (book_entries c.args.book.now) (User c.args.cell.now.pid) c.copy_entered-all.ensures.items (vec_capacity c.take_roots-roots.result) c.copy_entered-all.result c.args.cell.now.value c.take_roots-roots.new.self.value c.put_roots.new.self.value c.take_roots-roots.result.items
    c.copy_entered-all.new.row.items c.take_roots-roots.ensures.begun c.take_roots-roots.ensures.roots copied c.put_roots.ensures.roots c.if-not-all.false
