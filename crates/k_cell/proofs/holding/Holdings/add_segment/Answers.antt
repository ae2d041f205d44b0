use Rattle.std.proofs.Common.{false, ◌≡◌, ◌<◌, None, get_or, ap, ◌∙◌, arith}
use Rattle.std.proofs.lemmas.Bool.{false≢true}
use Rattle.k_mark.specs.k_types.declared.names.CellPhase.TheVariants.{Idle}
use Rattle.k_mark.specs.k_types.Owners.{object_bytes}
use Rattle.k_mark.specs.k_types.Totals.{total}
use Rattle.k_mark.specs.k_space.Areas.{segment_at}
use Rattle.k_cell.specs.Holdings.{HoldingsValue}
use Rattle.k_cell.proofs.Moved.{joined_kept, joined_seen, joined_there, none_there, room_left}
use Rattle.k_cell.proofs.Carried.{idle_carried}
use Rattle.k_cell.proofs.holding.Holdings.add_segment.Goals as goal

pub overflow_add-self : goal.overflow_add-self
overflow_add-self c =
    let heavy = ap (λ (h : HoldingsValue). total object_bytes h.value.objects) c.self.view_is in
    omega (arith, heavy, c.self.invariant.tables.weighed, c.requires.bytes, c.bytes.ensures.value)

pub add-requires-clause-room : goal.add-requires-clause-room
add-requires-clause-room c =
    let none : segment_at c.self.inside.area.segments c.args.segment.number ≡ None = none_there c.self.inside.area.segments c.self.inside.bound c.args.segment.number c.self.invariant.tables.numbered.none (ap (λ (h : HoldingsValue). get_or h.value.made c.args.segment.number None) c.self.view_is ∙ c.requires.new) in
    let bound = ap (λ (h : HoldingsValue). h.bound) c.self.view_is in
    let below : c.args.segment.number < c.self.inside.bound = omega (arith, bound, c.requires.number) in
    let room = ap (λ (h : HoldingsValue). h.segment_room) c.self.view_is in
    room_left c.self.inside.area c.self.inside.bound c.args.segment.number c.self.invariant.tables.numbered below none (omega (arith, bound, room, c.requires.room))

pub add-requires-clause-new : goal.add-requires-clause-new
add-requires-clause-new c =
    let none : segment_at c.self.inside.area.segments c.args.segment.number ≡ None = none_there c.self.inside.area.segments c.self.inside.bound c.args.segment.number c.self.invariant.tables.numbered.none (ap (λ (h : HoldingsValue). get_or h.value.made c.args.segment.number None) c.self.view_is ∙ c.requires.new) in
    none

pub invariant_of-self : goal.invariant_of-self
invariant_of-self c =
    let idle : c.self.inside.phase ≡ Idle = ap (λ (h : HoldingsValue). h.value.collection) c.self.view_is ∙ c.requires.idle in
    let none : segment_at c.self.inside.area.segments c.args.segment.number ≡ None = none_there c.self.inside.area.segments c.self.inside.bound c.args.segment.number c.self.invariant.tables.numbered.none (ap (λ (h : HoldingsValue). get_or h.value.made c.args.segment.number None) c.self.view_is ∙ c.requires.new) in
    let bound = ap (λ (h : HoldingsValue). h.bound) c.self.view_is in
    let below : c.args.segment.number < c.self.inside.bound = omega (arith, bound, c.requires.number) in
    record {
      tables =
          rw c.bytes.ensures.value
          (joined_kept c.self.inside.bound c.self.inside.bytes c.self.inside.phase c.self.inside.area c.add.new.self c.self.inside.exits.items c.args.segment c.self.invariant.tables idle none below c.add.ensures.added c.add.ensures.distinct (omega (arith, c.bytes.ensures.sound.begun)));
      carried =
          idle_carried c.self.inside.phase c.add.new.self c.self.inside.exits.items (record c.self.inside.carried { whole = false }) idle (λ t. absurd (false≢true t));
    }

pub returns-clause-added : goal.returns-clause-added
returns-clause-added c =
    let idle : c.self.inside.phase ≡ Idle = ap (λ (h : HoldingsValue). h.value.collection) c.self.view_is ∙ c.requires.idle in
    let none : segment_at c.self.inside.area.segments c.args.segment.number ≡ None = none_there c.self.inside.area.segments c.self.inside.bound c.args.segment.number c.self.invariant.tables.numbered.none (ap (λ (h : HoldingsValue). get_or h.value.made c.args.segment.number None) c.self.view_is ∙ c.requires.new) in
    let bound = ap (λ (h : HoldingsValue). h.bound) c.self.view_is in
    let below : c.args.segment.number < c.self.inside.bound = omega (arith, bound, c.requires.number) in
    rw (← c.self.view_is)
    (joined_seen c.self.inside.bound c.self.inside.bytes c.self.inside.phase c.self.inside.area c.add.new.self c.self.inside.exits c.self.inside.note c.args.segment c.self.invariant.tables idle none below c.add.ensures.added)

pub returns-clause-there : goal.returns-clause-there
returns-clause-there c =
    let none : segment_at c.self.inside.area.segments c.args.segment.number ≡ None = none_there c.self.inside.area.segments c.self.inside.bound c.args.segment.number c.self.invariant.tables.numbered.none (ap (λ (h : HoldingsValue). get_or h.value.made c.args.segment.number None) c.self.view_is ∙ c.requires.new) in
    let bound = ap (λ (h : HoldingsValue). h.bound) c.self.view_is in
    let below : c.args.segment.number < c.self.inside.bound = omega (arith, bound, c.requires.number) in
    joined_there c.self.inside.bound c.self.inside.area c.add.new.self c.args.segment c.self.invariant.tables.numbered.none none below c.add.ensures.added
