use Rattle.std.proofs.Common.{sym, ap, ◌∙◌, subst, set, Option, Some, None}
use Rattle.k_types.specs.declared.names.Pid.{Pid}
use Rattle.k_tie.specs.Values.{NoteValue}
use Rattle.k_process.specs.declared.process.Process.{Process}
use Rattle.k_locks.specs.Places.{HasPlaced}
use Rattle.k_locks.proofs.Gathered.{one_number, placed_process}
use Rattle.k_process.proofs.Looped.{found_at}
use Rattle.k_locks.proofs.placing.place_process.Goals as goal

pub apart-requires : goal.apart-requires
apart-requires g c =
    let found =
    found_at c.args.places.now.items _ c.pid-at.result.0 c.args.process.cell.pid.0 c.index_mut.result.now (Some c.in-Some.other) c.requires.places.count c.requires.process.cell.agrees.there (ap (λ (p : Pid). p.0) c.pid-at.ensures)
    c.index_mut.ensures.value (sym c.in-Some.is ∙ c.take.ensures.value) in (
      ap (λ (n : NoteValue). n.table) c.note_mut.ensures.value ∙ c.requires.process.cell.table ∙ sym c.requires.table,
      ap (λ (n : NoteValue). n.table) c.note_mut-in-Some.ensures.value ∙ (c.requires.places.each c.args.process.cell.pid.0 c.in-Some.other found).cell.table ∙ sym c.requires.table,
    )

pub unreachable-requires : goal.unreachable-requires
unreachable-requires g c =
    let found =
    found_at c.args.places.now.items _ c.pid-at.result.0 c.args.process.cell.pid.0 c.index_mut.result.now (Some c.in-Some.other) c.requires.places.count c.requires.process.cell.agrees.there (ap (λ (p : Pid). p.0) c.pid-at.ensures)
    c.index_mut.ensures.value (sym c.in-Some.is ∙ c.take.ensures.value) in
    c.apart.ensures.apart
    (
    ap (λ (n : NoteValue). n.cell) c.note_mut.ensures.value
    ∙ one_number g.world' c.args.places.now.items c.args.process c.in-Some.other c.requires.places c.requires.process found
    ∙ ap (λ (n : NoteValue). n.cell) (sym c.note_mut-in-Some.ensures.value)
    )

pub returns : goal.returns
returns g c =
    let found =
    found_at c.args.places.now.items _ c.pid-at.result.0 c.args.process.cell.pid.0 c.index_mut.result.now None c.requires.places.count c.requires.process.cell.agrees.there (ap (λ (p : Pid). p.0) c.pid-at.ensures)
    c.index_mut.ensures.value (sym c.in-None.is ∙ c.take.ensures.value) in
    subst (λ (x : Option Process). HasPlaced g.world' c.args.places.now.items (set (set c.args.places.now.items c.pid-at.result.0 x) c.pid-at.result.0 (Some c.args.process)) c.args.book.now c.args.book.now) (sym c.take.ensures.after)
    (subst (λ (n : Pid). HasPlaced g.world' c.args.places.now.items (set (set c.args.places.now.items n.0 None) n.0 (Some c.args.process)) c.args.book.now c.args.book.now) (sym c.pid-at.ensures)
    (placed_process g.world' c.args.places.now.items c.args.process c.args.book.now c.requires.places c.requires.process found))
