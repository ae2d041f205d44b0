use Rattle.std.proofs.Common.{List, map, ap, sym, ◌∙◌, Vec, Global}
use Rattle.std.proofs.lemmas.Bool.{false≢true}
use Rattle.k_types.specs.declared.op.Op.{Op}
use Rattle.k_scan.specs.k_state.Machines.{Machine}
use Rattle.k_plain.proofs.Completed.{complete_of, done_of, over_of, quiet_of}
use Rattle.k_plain.proofs.complete.is_complete.Goals as goal

pub returns-then-not-have_done : goal.returns-then-not-have_done
returns-then-not-have_done c =
    let m : Machine = c.lists-lists.result.now in
    let lists : List (List Op) = map (λ (list : Vec Op Global). list.items) c.args.ops.now in
    λ trace setup ops led. (
      λ on. absurd (false≢true on),
      λ complete. absurd (false≢true (sym c.if-not-have_done.true ∙ c.have_done.ensures.1 (done_of trace m lists c.args.events.now (setup ∙ ap (λ (n : Machine). n.setup) (sym c.lists-lists.ensures.same)) ops
          (led ∙ ap (λ (n : Machine). n.state) (sym c.lists-lists.ensures.same)) complete))),
    )

pub returns-then-not-is_quiet : goal.returns-then-not-is_quiet
returns-then-not-is_quiet c =
    let m : Machine = c.lists-lists.result.now in
    let lists : List (List Op) = map (λ (list : Vec Op Global). list.items) c.args.ops.now in
    λ trace setup ops led. (
      λ on. absurd (false≢true on),
      λ complete. absurd (false≢true (sym c.if-not-is_quiet.true ∙ c.is_quiet.ensures.1 (quiet_of trace m lists c.args.events.now (setup ∙ ap (λ (n : Machine). n.setup) (sym c.lists-lists.ensures.same)) ops
          (led ∙ ap (λ (n : Machine). n.state) (sym c.lists-lists.ensures.same)) complete))),
    )

pub returns : goal.returns
returns c =
    let m : Machine = c.lists-lists.result.now in
    let lists : List (List Op) = map (λ (list : Vec Op Global). list.items) c.args.ops.now in
    λ trace setup ops led.
    let setup' = setup ∙ ap (λ (n : Machine). n.setup) (sym c.lists-lists.ensures.same) in
    let led' = led ∙ ap (λ (n : Machine). n.state) (sym c.lists-lists.ensures.same) in (
      λ on. complete_of trace m lists c.args.events.now setup' ops led' (c.have_done.ensures.0 c.if-not-have_done.false) (c.is_quiet.ensures.0 c.if-not-is_quiet.false) (c.is_over.ensures.0 on),
      λ complete. c.is_over.ensures.1 (over_of trace m lists c.args.events.now setup' ops led' complete),
    )
