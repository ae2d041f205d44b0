use Rattle.std.proofs.Common.{◌≡◌, ◌+◌, List, false, refl, sym, ap, subst, ◌∙◌, arith}
use Rattle.k_exit.proofs.BaseLists.{some_one}
use Rattle.k_laws.specs.k_types.State.{Content}
use Rattle.k_space.specs.Visiting.{AreHeld}
use Rattle.k_space.specs.Areas.{AreaValue, gray_at, unmarked, HasDistinct}
use Rattle.k_mark.proofs.Left.{left, black_work}
use Rattle.k_mark.proofs.Marked.{demands, IsMarking, begun, stepped, less_left, more_work, fields_now, marked_is, exits_is, still_live, demand_now, looked_now}
use Rattle.k_space.specs.Segments.{Black}
use Rattle.k_space.proofs.AreaRows.{found, after_distinct}
use Rattle.k_mark.proofs.Work.{none_black, work_is}
use Rattle.k_mark.proofs.marking.mark.Goals as goal

pub loop-found-init : goal.loop-found-init
loop-found-init g c = record {
  marking = begun (λ n. false) c.args.area.now c.args.exits.now.items c.requires.distinct c.requires.clean c.requires.unmarked;
  steps = omega (arith, none_black c.args.area.now c.requires.distinct c.requires.clean);
  room = refl;
}

pub trace-requires-clause-live : goal.trace-requires-clause-live
trace-requires-clause-live g c =
    let t = c.in-Some.ensures.some.black in
    still_live (λ n. false) c.args.area.now c.loop-found.area c.visit_gray.new.self c.visit_gray.new.self c.args.exits.now.items c.loop-found.exits.items c.loop-found.exits.items c.in-Some.found.name t.row c.loop-found.invariant.marking t.there t.was t.now (demands c.args.area.now c.args.exits.now.items c.requires.exits)

pub trace-requires-clause-held : goal.trace-requires-clause-held
trace-requires-clause-held g c = λ fields is.
    let t = c.in-Some.ensures.some.black in
    let now = fields_now (λ n. false) c.args.area.now c.loop-found.area c.visit_gray.new.self c.visit_gray.new.self c.args.exits.now.items c.loop-found.exits.items c.loop-found.exits.items c.in-Some.found.name t.row c.loop-found.invariant.marking t.there t.was t.now (demands c.args.area.now c.args.exits.now.items c.requires.exits) in
    subst (λ (f : List Content). AreHeld f c.in-Some.found.fields c.visit_gray.new.into) (some_one (sym now ∙ is)) c.in-Some.ensures.some.held

pub trace-requires-clause-exits : goal.trace-requires-clause-exits
trace-requires-clause-exits g c =
    let t = c.in-Some.ensures.some.black in
    demand_now (λ n. false) c.args.area.now c.loop-found.area c.visit_gray.new.self c.visit_gray.new.self c.args.exits.now.items c.loop-found.exits.items c.loop-found.exits.items c.in-Some.found.name t.row c.loop-found.invariant.marking t.there t.was t.now (demands c.args.area.now c.args.exits.now.items c.requires.exits)

pub loop-found-smaller : goal.loop-found-smaller
loop-found-smaller g c =
    let t = c.in-Some.ensures.some.black in
    let looked = looked_now (λ n. false) c.args.area.now c.loop-found.area c.visit_gray.new.self c.trace.new.area c.args.exits.now.items c.loop-found.exits.items c.trace.new.exits.items c.in-Some.found.name t.row c.loop-found.invariant.marking t.there t.was t.now (demands c.args.area.now c.args.exits.now.items c.requires.exits) c.trace.ensures.looked in
    let less : left c.trace.new.area + 1 ≡ left c.loop-found.area = less_left (λ n. false) c.args.area.now c.loop-found.area c.trace.new.area c.args.exits.now.items c.loop-found.exits.items c.trace.new.exits.items c.in-Some.found.name t.row t.row.fields c.loop-found.invariant.marking t.there t.was (demands c.args.area.now c.args.exits.now.items c.requires.exits) looked (λ k e. e) (λ e. refl) in
    omega (arith, less)

pub loop-found-preserved : goal.loop-found-preserved
loop-found-preserved g c =
    let t = c.in-Some.ensures.some.black in
    let looked = looked_now (λ n. false) c.args.area.now c.loop-found.area c.visit_gray.new.self c.trace.new.area c.args.exits.now.items c.loop-found.exits.items c.trace.new.exits.items c.in-Some.found.name t.row c.loop-found.invariant.marking t.there t.was t.now (demands c.args.area.now c.args.exits.now.items c.requires.exits) c.trace.ensures.looked in
    let worked = more_work (λ n. false) c.args.area.now c.loop-found.area c.trace.new.area c.args.exits.now.items c.loop-found.exits.items c.trace.new.exits.items c.in-Some.found.name t.row t.row.fields c.loop-found.invariant.marking t.there t.was (demands c.args.area.now c.args.exits.now.items c.requires.exits) looked (λ k e. e) (λ e. refl) in
    let traced = c.trace.ensures.steps t.row.fields (fields_now (λ n. false) c.args.area.now c.loop-found.area c.visit_gray.new.self c.trace.new.area c.args.exits.now.items c.loop-found.exits.items c.trace.new.exits.items c.in-Some.found.name t.row c.loop-found.invariant.marking t.there t.was t.now (demands c.args.area.now c.args.exits.now.items c.requires.exits)) in
    record {
      marking = stepped (λ n. false) c.args.area.now c.loop-found.area c.trace.new.area c.args.exits.now.items c.loop-found.exits.items c.trace.new.exits.items c.in-Some.found.name t.row t.row.fields c.loop-found.invariant.marking t.there t.was (demands c.args.area.now c.args.exits.now.items c.requires.exits) looked (λ k e. e) (λ e. refl);
      steps = omega (arith, worked, traced, c.tick.ensures, c.loop-found.invariant.steps);
      room = c.trace.ensures.room ∙ c.loop-found.invariant.room;
    }

pub returns-clause-reached : goal.returns-clause-reached
returns-clause-reached g c =
    marked_is c.args.area.now c.visit_gray.new.self c.args.exits.now.items c.loop-found.exits.items
    (subst (λ (a : AreaValue). IsMarking (λ n. false) c.args.area.now a c.args.exits.now.items c.loop-found.exits.items) (sym c.in_default.ensures.kept) c.loop-found.invariant.marking)
    (λ n. ap (λ (a : AreaValue). gray_at a n) c.in_default.ensures.kept ∙ c.in_default.ensures.none n)

pub returns-clause-exits : goal.returns-clause-exits
returns-clause-exits g c = exits_is c.args.area.now c.loop-found.area c.args.exits.now.items c.loop-found.exits.items c.loop-found.invariant.marking c.in_default.ensures.none

pub returns-clause-kept : goal.returns-clause-kept
returns-clause-kept g c = ap (λ (a : AreaValue). unmarked a) c.in_default.ensures.kept ∙ c.loop-found.invariant.marking.same

pub returns-clause-targets : goal.returns-clause-targets
returns-clause-targets g c = c.loop-found.invariant.marking.names

pub returns-clause-steps : goal.returns-clause-steps
returns-clause-steps g c =
    c.loop-found.invariant.steps
    ∙ ap (λ n. c.args.steps.now + n)
    (ap (λ (a : AreaValue). black_work a) (sym c.in_default.ensures.kept)
    ∙ work_is c.visit_gray.new.self (subst (λ (a : AreaValue). HasDistinct a.segments) (sym c.in_default.ensures.kept) c.loop-found.invariant.marking.distinct)
    (λ n. ap (λ (a : AreaValue). gray_at a n) c.in_default.ensures.kept ∙ c.in_default.ensures.none n))

pub trace-requires-clause-distinct : goal.trace-requires-clause-distinct
trace-requires-clause-distinct g c =
    let t = c.in-Some.ensures.some.black in
    subst (λ (a : AreaValue). HasDistinct a.segments) (sym t.now)
    (after_distinct c.loop-found.area c.in-Some.found.name t.row (record t.row { color = Black }) (found c.loop-found.area c.in-Some.found.name t.row t.there) c.loop-found.invariant.marking.distinct)

pub visit_gray-requires-clause-distinct : goal.visit_gray-requires-clause-distinct
visit_gray-requires-clause-distinct g c = c.loop-found.invariant.marking.distinct
