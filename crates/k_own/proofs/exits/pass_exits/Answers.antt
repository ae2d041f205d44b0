use Rattle.std.proofs.Common.{◌≡◌, ◌&&◌, ◌||◌, ◌∙◌, List, ap, sym, subst}
use Rattle.k_types.specs.declared.names.Heap.{Heap}
use Rattle.k_types.specs.declared.names.Name.{Name}
use Rattle.k_types.specs.Agree.{CellValue}
use Rattle.k_types.specs.Names.{name_among, name_eq}
use Rattle.k_commit.specs.k_book.Books.{BookRecord}
use Rattle.k_commit.specs.k_cell.Holdings.{HoldingsValue}
use Rattle.k_commit.specs.k_heap.Heaps.{HeapRecord}
use Rattle.k_own.specs.Exits.{is_passed}
use Rattle.k_own.proofs.Leaving.{passing_goes_on}
use Rattle.k_own.proofs.exits.pass_exits.Goals as goal

pub loop-target-preserved : goal.loop-target-preserved
loop-target-preserved c =
    let n = c.in-Some.target in
    let k = c.loop-target.kernel in
    let x = c.pass_exit.new.kernel in
    let b = c.loop-target.book in
    let before = c.args.book.now in
    let p = c.loop-target.invariant.2 in
    let e = c.pass_exit.ensures.kernel in (
      c.take_first.ensures.rest ∙ ap (λ (h : HeapRecord). record h { value = c.take_first.new.self.value }) c.loop-target.invariant.0,
      e ∙ ap (λ (v : CellValue). record k { value = v }) (sym (ap (λ (h : HoldingsValue). h.value) e)) ∙ ap (λ (h : HoldingsValue). record h { value = x.value }) c.loop-target.invariant.1,
      passing_goes_on c.loop-target.cell.value c.take_first.new.self.value n c.in-Some.ensures.some before.value.homes c.args.cell.now.value c.args.kernel.now.value k.value before b p x.value c.pass_exit.new.book
          (ap (λ (h : HoldingsValue). h.value) e) c.pass_exit.ensures.more
          (subst (λ (homes : List Heap). (m : Name) → name_among m x.value.exits ≡ (name_among m k.value.exits || (name_eq n m && is_passed homes n))) (ap (λ (l : BookRecord). l.value.homes) p.book_is) c.pass_exit.ensures.passed)
          c.pass_exit.ensures.entries c.pass_exit.ensures.rest,
    )
