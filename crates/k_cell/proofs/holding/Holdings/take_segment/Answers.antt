use Rattle.std.proofs.Common.{false, ◌≡◌, None, option_map, sym, ap, subst, ◌∙◌, arith}
use Rattle.std.proofs.lemmas.Bool.{false≢true}
use Rattle.k_mark.specs.k_types.declared.names.CellPhase.TheVariants.{Idle}
use Rattle.k_mark.specs.k_space.Segments.{made}
use Rattle.k_mark.specs.k_space.Areas.{AreaValue, segment_at}
use Rattle.k_mark.proofs.Named.{made_listed}
use Rattle.k_cell.specs.Carried.{IsCarried}
use Rattle.k_cell.specs.Holdings.{HoldingsValue, AreHoldings}
use Rattle.k_cell.proofs.Moved.{IsTakenBy, left_kept, left_most, left_seen}
use Rattle.k_cell.proofs.Carried.{idle_carried}
use Rattle.k_cell.proofs.holding.Holdings.take_segment.Goals as goal

pub invariant_of-self : goal.invariant_of-self
invariant_of-self c =
    record {
      tables =
          subst (λ (x : AreaValue). AreHoldings c.self.inside.bound c.self.inside.bytes c.self.inside.phase x c.self.inside.exits.items) (sym c.in_err-segment.ensures.kept) c.self.invariant.tables;
      carried =
          subst (λ (x : AreaValue). IsCarried c.self.inside.phase x c.self.inside.exits.items c.self.inside.carried) (sym c.in_err-segment.ensures.kept) c.self.invariant.carried;
    }

pub returns-in_err-segment-clause-none : goal.returns-in_err-segment-clause-none
returns-in_err-segment-clause-none c =
    let gone : None ≡ segment_at c.self.inside.area.segments c.args.seg.0 = c.in_err-segment.ensures.value in
    rw (c.from_residual.ensures, ← c.self.view_is)
    (made_listed c.self.inside.area.segments c.self.inside.bound c.args.seg.0 c.self.invariant.tables.numbered.none ∙ ap (option_map made) (sym gone))

pub overflow_sub-self : goal.overflow_sub-self
overflow_sub-self c =
    let idle : c.self.inside.phase ≡ Idle = ap (λ (h : HoldingsValue). h.value.collection) c.self.view_is ∙ c.requires.idle in
    let e = c.in_ok-segment.ensures in
    let t : IsTakenBy c.self.inside.area c.take.new.self c.args.seg.0 c.in_ok-segment.segment = record { there = sym e.value; room = e.room; distinct = e.distinct; gone = e.gone; others = e.others } in
    let most = left_most c.self.inside.bound c.self.inside.bytes c.self.inside.phase c.self.inside.area c.take.new.self c.self.inside.exits c.args.seg.0 c.in_ok-segment.segment c.self.invariant.tables idle t in
    omega (arith, most, c.bytes.ensures.value)

pub invariant_of-self-2 : goal.invariant_of-self-2
invariant_of-self-2 c =
    let idle : c.self.inside.phase ≡ Idle = ap (λ (h : HoldingsValue). h.value.collection) c.self.view_is ∙ c.requires.idle in
    let e = c.in_ok-segment.ensures in
    let t : IsTakenBy c.self.inside.area c.take.new.self c.args.seg.0 c.in_ok-segment.segment = record { there = sym e.value; room = e.room; distinct = e.distinct; gone = e.gone; others = e.others } in
    let most = left_most c.self.inside.bound c.self.inside.bytes c.self.inside.phase c.self.inside.area c.take.new.self c.self.inside.exits c.args.seg.0 c.in_ok-segment.segment c.self.invariant.tables idle t in
    record {
      tables =
          left_kept c.self.inside.bound c.self.inside.bytes c.self.inside.phase c.self.inside.area c.take.new.self c.self.inside.exits c.args.seg.0 c.in_ok-segment.segment c.self.invariant.tables idle t _ (omega (arith, most, c.bytes.ensures.value));
      carried =
          idle_carried c.self.inside.phase c.take.new.self c.self.inside.exits.items (record c.self.inside.carried { whole = false }) idle (λ t. absurd (false≢true t));
    }

pub returns-clause-some : goal.returns-clause-some
returns-clause-some c =
    let idle : c.self.inside.phase ≡ Idle = ap (λ (h : HoldingsValue). h.value.collection) c.self.view_is ∙ c.requires.idle in
    let e = c.in_ok-segment.ensures in
    let t : IsTakenBy c.self.inside.area c.take.new.self c.args.seg.0 c.in_ok-segment.segment = record { there = sym e.value; room = e.room; distinct = e.distinct; gone = e.gone; others = e.others } in
    rw (← c.self.view_is)
    (left_seen c.self.inside.bound c.self.inside.bytes c.self.inside.phase c.self.inside.area c.take.new.self c.self.inside.exits c.args.seg.0 c.in_ok-segment.segment c.self.invariant.tables idle t c.self.inside.note)
