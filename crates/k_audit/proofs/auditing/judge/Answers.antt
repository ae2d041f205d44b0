use Rattle.std.proofs.Common.{◌∙◌, ◌<◌, ◌^◌, [], length, subst, sym, refl, arith}
use Rattle.std.proofs.lemmas.Bool.{false≢true}
use Rattle.k_types.specs.Sound.{AreNumbered}
use Rattle.k_types.specs.Trace.{trace_of}
use Rattle.k_state.specs.Machines.{Machine}
use Rattle.k_audit.specs.Claims.{Snap}
use Rattle.k_audit.specs.Grammar.{IsSpelledSnap}
use Rattle.k_audit.specs.Judged.{AreHeld, IsJudged}
use Rattle.k_audit.proofs.Judged.{lowest}
use Rattle.k_audit.proofs.PlainOf.{plain_of}
use Rattle.k_audit.proofs.auditing.judge.Goals as goal

pub returns-then-not-are_numbered : goal.returns-then-not-are_numbered
returns-then-not-are_numbered c =
    lowest (trace_of c.args.setup.now [] []) c.args.snapshot 1 (omega arith) (omega arith)
    (record {
      names = λ lt. absurd (omega (arith, lt));
      no_dangling = λ lt. absurd (omega (arith, lt));
      guarded = λ lt. absurd (omega (arith, lt));
      exits = λ lt. absurd (omega (arith, lt));
      gone = λ lt. absurd (omega (arith, lt));
      phases = λ lt. absurd (omega (arith, lt));
      uses = λ lt. absurd (omega (arith, lt));
      claims = λ lt. absurd (omega (arith, lt));
    })
    (λ holds. false≢true (sym c.if-not-are_numbered.true ∙ c.are_numbered.ensures.1 (subst (λ (s : Snap). AreNumbered s.state.objects s.state.made) (sym c.snapshot.view_is) (holds.names refl).numbered)))

pub of-requires : goal.of-requires
of-requires c =
    let trace = trace_of c.args.setup.now [] [] in
    let snap : Snap = record { state = c.snapshot.inside.state; claims = c.snapshot.inside.claims } in
    let spelled = subst (IsSpelledSnap trace) (sym c.snapshot.view_is) c.requires.spelled in
    let few = subst (λ (s : Snap). (length s.state.objects < 2 ^ 32) × (length s.state.exits < 2 ^ 32)) (sym c.snapshot.view_is) c.requires.few in
    plain_of trace snap c.requires.rules spelled (c.are_numbered.ensures.0 c.if-not-are_numbered.false) few.0 few.1

pub lowest_false-requires : goal.lowest_false-requires
lowest_false-requires c =
    let trace = trace_of c.args.setup.now [] [] in
    let spelled = subst (IsSpelledSnap trace) (sym c.snapshot.view_is) c.requires.spelled in
    subst (λ (m : Machine). AreHeld m c.snapshot.inside.claims) (sym c.in_ok-lists.ensures)
    (record {
      names = record { ordered = spelled.state.ordered; numbered = c.are_numbered.ensures.0 c.if-not-are_numbered.false };
      exits = spelled.state.exits_ordered;
      claimed = spelled.claims;
      scans = spelled.state.scans;
    })

pub returns : goal.returns
returns c =
    let trace = trace_of c.args.setup.now [] [] in
    subst (λ (s : Snap). IsJudged trace s c.lowest_false.result) c.snapshot.view_is
    (subst (λ (m : Machine). IsJudged m.setup (record { state = m.state; claims = c.snapshot.inside.claims }) c.lowest_false.result) c.in_ok-lists.ensures c.lowest_false.ensures)
