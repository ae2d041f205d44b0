use Rattle.std.proofs.Common.{sym, ap, ◌∙◌, subst, set, Option, Some, None}
use Rattle.k_types.specs.declared.names.SharedId.{SharedId}
use Rattle.k_tie.specs.Values.{NoteValue}
use Rattle.k_process.specs.k_shared.SharedHeaps.{SharedRecord}
use Rattle.k_locks.specs.Places.{HasPlacedShared}
use Rattle.k_locks.proofs.Gathered.{one_shared_number, placed_shared}
use Rattle.k_process.proofs.Looped.{found_at}
use Rattle.k_locks.proofs.placing.place_shared.Goals as goal

pub apart-requires : goal.apart-requires
apart-requires g c =
    let found =
    found_at c.args.places.now.items _ c.id-at.result.0 c.args.shared.id.0 c.index_mut.result.now (Some c.in-Some.other) c.requires.places.count c.requires.shared.agrees.there (ap (λ (p : SharedId). p.0) c.id-at.ensures)
    c.index_mut.ensures.value (sym c.in-Some.is ∙ c.take.ensures.value) in (
      ap (λ (n : NoteValue). n.table) c.note_mut.ensures.value ∙ c.requires.shared.table ∙ sym c.requires.table,
      ap (λ (n : NoteValue). n.table) c.note_mut-in-Some.ensures.value ∙ (c.requires.places.each c.args.shared.id.0 c.in-Some.other found).table ∙ sym c.requires.table,
    )

pub unreachable-requires : goal.unreachable-requires
unreachable-requires g c =
    let found =
    found_at c.args.places.now.items _ c.id-at.result.0 c.args.shared.id.0 c.index_mut.result.now (Some c.in-Some.other) c.requires.places.count c.requires.shared.agrees.there (ap (λ (p : SharedId). p.0) c.id-at.ensures)
    c.index_mut.ensures.value (sym c.in-Some.is ∙ c.take.ensures.value) in
    c.apart.ensures.apart
    (
    ap (λ (n : NoteValue). n.cell) c.note_mut.ensures.value
    ∙ one_shared_number g.world' c.args.places.now.items c.args.shared c.in-Some.other c.requires.places c.requires.shared found
    ∙ ap (λ (n : NoteValue). n.cell) (sym c.note_mut-in-Some.ensures.value)
    )

pub returns : goal.returns
returns g c =
    let found =
    found_at c.args.places.now.items _ c.id-at.result.0 c.args.shared.id.0 c.index_mut.result.now None c.requires.places.count c.requires.shared.agrees.there (ap (λ (p : SharedId). p.0) c.id-at.ensures)
    c.index_mut.ensures.value (sym c.in-None.is ∙ c.take.ensures.value) in
    subst (λ (x : Option SharedRecord). HasPlacedShared g.world' c.args.places.now.items (set (set c.args.places.now.items c.id-at.result.0 x) c.id-at.result.0 (Some c.args.shared)) c.args.book.now c.args.book.now) (sym c.take.ensures.after)
    (subst (λ (n : SharedId). HasPlacedShared g.world' c.args.places.now.items (set (set c.args.places.now.items n.0 None) n.0 (Some c.args.shared)) c.args.book.now c.args.book.now) (sym c.id-at.ensures)
    (placed_shared g.world' c.args.places.now.items c.args.shared c.args.book.now c.requires.places c.requires.shared found))
