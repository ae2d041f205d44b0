use Rattle.std.proofs.Common.{vec_capacity}
use Rattle.k_types.specs.declared.names.Heap.TheVariants.{Kernel}
use Rattle.k_commit.specs.k_book.Books.{book_pins}
use Rattle.k_collect.proofs.Copied.{all_copied, walked_too}
use Rattle.k_collect.proofs.graying.gray_kernel_pinned.Goals as goal

pub returns-then-not-all-clause-gray : goal.returns-then-not-all-clause-gray
returns-then-not-all-clause-gray c =
    walked_too (book_pins c.args.book.now) Kernel c.copy_pinned-all.ensures.items (vec_capacity c.take_roots-roots.result) c.copy_pinned-all.result c.args.kernel.now.value c.take_roots-roots.new.self.value c.put_roots.new.self.value c.take_roots-roots.result.items
    c.copy_pinned-all.new.row.items c.take_roots-roots.ensures.begun c.take_roots-roots.ensures.roots c.copy_pinned-all.ensures.copied c.put_roots.ensures.roots c.walk_kernel_pinned.new.kernel.value c.walk_kernel_pinned.ensures.gray

pub returns-else-not-all-clause-gray : goal.returns-else-not-all-clause-gray
returns-else-not-all-clause-gray c =
    all_copied (book_pins c.args.book.now) Kernel c.copy_pinned-all.ensures.items (vec_capacity c.take_roots-roots.result) c.copy_pinned-all.result c.args.kernel.now.value c.take_roots-roots.new.self.value c.put_roots.new.self.value c.take_roots-roots.result.items
    c.copy_pinned-all.new.row.items c.take_roots-roots.ensures.begun c.take_roots-roots.ensures.roots c.copy_pinned-all.ensures.copied c.put_roots.ensures.roots c.if-not-all.false
