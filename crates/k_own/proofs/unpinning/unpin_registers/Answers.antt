use Rattle.std.proofs.Common.{◌+◌, ◌∙◌, [], ◌∷◌, Option, option_map, sym, subst}
use Rattle.k_types.specs.declared.names.Name.{Name}
use Rattle.k_types.specs.declared.names.Pid.{Pid}
use Rattle.k_types.specs.Names.{name_of}
use Rattle.k_laws.specs.BookChanges.{registers_in}
use Rattle.k_commit.specs.k_heap.Heaps.{own_segment}
use Rattle.k_own.specs.Registers.{ArePinned, HasLetGo}
use Rattle.k_own.proofs.Unpinned.{held_listed, still_pinned, unpinning_goes_on}
use Rattle.k_own.proofs.unpinning.unpin_registers.Goals as goal

pub unpin-requires : goal.unpin-requires
unpin-requires c =
    let cell = c.args.cell.now in
    let b = c.loop-r.book in
    subst (λ (p : Pid). ArePinned (p.0 + 1) (option_map name_of c.reg.result ∷ []) b.value) (sym c.pid.ensures)
    (subst (λ (h : Option Name). ArePinned (own_segment cell.pid) (h ∷ []) b.value) (sym (c.reg.ensures ∙ held_listed cell.value.process c.loop-r.r))
    (still_pinned (own_segment cell.pid) (registers_in cell.value.process) c.loop-r.r c.args.book.now b c.loop-r.invariant c.requires.pinned))

pub loop-r-preserved : goal.loop-r-preserved
loop-r-preserved c =
    let cell = c.args.cell.now in
    let b = c.loop-r.book in
    let k = c.unpin.new.book in
    unpinning_goes_on (own_segment cell.pid) (registers_in cell.value.process) c.loop-r.r c.args.book.now b c.loop-r.invariant k
    (subst (λ (h : Option Name). HasLetGo (own_segment cell.pid) (h ∷ []) b.value k.value) (c.reg.ensures ∙ held_listed cell.value.process c.loop-r.r)
    (subst (λ (p : Pid). HasLetGo (p.0 + 1) (option_map name_of c.reg.result ∷ []) b.value k.value) c.pid.ensures c.unpin.ensures.gone))
    c.unpin.ensures.rest
