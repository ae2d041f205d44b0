use Rattle.std.proofs.Common.{◌≡◌, [], ◌∷◌, ◌++◌, None, refl, ap, ◌∙◌}
use Rattle.std.proofs.lemmas.Bool.{false≢true}
use Rattle.k_mark.specs.k_types.declared.names.CellPhase.TheVariants.{Idle}
use Rattle.k_mark.specs.k_space.Areas.{AreaValue}
use Rattle.k_cell.proofs.Moved.{fresh_kept, fresh_seen}
use Rattle.k_cell.proofs.Carried.{idle_carried}
use Rattle.k_cell.proofs.holding.Holdings.make.Goals as goal

pub invariant_of-result : goal.invariant_of-result
invariant_of-result c =
    let is : c.in_ok-segment.segment ≡ record { number = c.args.seg.0; room = c.args.rooms.objects; rows = None ∷ [] } = c.in_ok-segment.ensures in
    let empty : c.in_ok-area.area ≡ record { segments = []; room = c.args.rooms.segments } = c.in_ok-area.ensures in
    let area : c.add.new.self ≡ record { segments = c.in_ok-segment.segment ∷ []; room = c.args.rooms.segments } = c.add.ensures.added ∙ ap (λ (a : AreaValue). record a { segments = a.segments ++ c.in_ok-segment.segment ∷ [] }) empty in
    record {
      tables =
          fresh_kept c.args.seg.0 c.args.rooms c.in_ok-segment.segment is c.requires.seg c.add.new.self c.in_ok-exits.exits.items area c.add.ensures.distinct;
      carried =
          idle_carried Idle c.add.new.self c.in_ok-exits.exits.items _ refl (λ t. absurd (false≢true t));
    }

pub returns : goal.returns
returns c =
    let is : c.in_ok-segment.segment ≡ record { number = c.args.seg.0; room = c.args.rooms.objects; rows = None ∷ [] } = c.in_ok-segment.ensures in
    let empty : c.in_ok-area.area ≡ record { segments = []; room = c.args.rooms.segments } = c.in_ok-area.ensures in
    let area : c.add.new.self ≡ record { segments = c.in_ok-segment.segment ∷ []; room = c.args.rooms.segments } = c.add.ensures.added ∙ ap (λ (a : AreaValue). record a { segments = a.segments ++ c.in_ok-segment.segment ∷ [] }) empty in
    let exits : c.in_ok-exits.exits ≡ record { items = []; room = c.args.rooms.exits } = c.in_ok-exits.ensures in
    fresh_seen c.args.seg.0 c.args.rooms c.in_ok-segment.segment is c.requires.seg c.add.new.self c.in_ok-exits.exits c.args.note area exits
