use Rattle.std.proofs.Common.{sym, ◌∙◌, refl, arith}
use Rattle.std.proofs.lemmas.Bool.{false≢true}
use Rattle.k_audit.specs.Claims.{Snap}
use Rattle.k_audit.proofs.Judged.{all_hold, lowest}
use Rattle.k_audit.proofs.auditing.lowest_false.Goals as goal

pub returns-then-not-has_no_dangling : goal.returns-then-not-has_no_dangling
returns-then-not-has_no_dangling c =
    let m = c.args.lists.now in
    let snap : Snap = record { state = m.state; claims = c.args.claims.now } in
    lowest m.setup snap 2 (omega arith) (omega arith)
    (record {
      names = λ lt. c.requires.names;
      no_dangling = λ lt. absurd (omega (arith, lt));
      guarded = λ lt. absurd (omega (arith, lt));
      exits = λ lt. absurd (omega (arith, lt));
      gone = λ lt. absurd (omega (arith, lt));
      phases = λ lt. absurd (omega (arith, lt));
      uses = λ lt. absurd (omega (arith, lt));
      claims = λ lt. absurd (omega (arith, lt));
    })
    (λ holds. false≢true (sym c.if-not-has_no_dangling.true ∙ c.has_no_dangling.ensures.1 (holds.no_dangling refl)))

pub returns-then-not-are_guarded : goal.returns-then-not-are_guarded
returns-then-not-are_guarded c =
    let m = c.args.lists.now in
    let snap : Snap = record { state = m.state; claims = c.args.claims.now } in
    lowest m.setup snap 3 (omega arith) (omega arith)
    (record {
      names = λ lt. c.requires.names;
      no_dangling = λ lt. c.has_no_dangling.ensures.0 c.if-not-has_no_dangling.false;
      guarded = λ lt. absurd (omega (arith, lt));
      exits = λ lt. absurd (omega (arith, lt));
      gone = λ lt. absurd (omega (arith, lt));
      phases = λ lt. absurd (omega (arith, lt));
      uses = λ lt. absurd (omega (arith, lt));
      claims = λ lt. absurd (omega (arith, lt));
    })
    (λ holds. false≢true (sym c.if-not-are_guarded.true ∙ c.are_guarded.ensures.1 (holds.guarded refl)))

pub returns-then-not-are_exits : goal.returns-then-not-are_exits
returns-then-not-are_exits c =
    let m = c.args.lists.now in
    let snap : Snap = record { state = m.state; claims = c.args.claims.now } in
    lowest m.setup snap 4 (omega arith) (omega arith)
    (record {
      names = λ lt. c.requires.names;
      no_dangling = λ lt. c.has_no_dangling.ensures.0 c.if-not-has_no_dangling.false;
      guarded = λ lt. c.are_guarded.ensures.0 c.if-not-are_guarded.false;
      exits = λ lt. absurd (omega (arith, lt));
      gone = λ lt. absurd (omega (arith, lt));
      phases = λ lt. absurd (omega (arith, lt));
      uses = λ lt. absurd (omega (arith, lt));
      claims = λ lt. absurd (omega (arith, lt));
    })
    (λ holds. false≢true (sym c.if-not-are_exits.true ∙ c.are_exits.ensures.1 (holds.exits refl)))

pub returns-then-not-are_gone : goal.returns-then-not-are_gone
returns-then-not-are_gone c =
    let m = c.args.lists.now in
    let snap : Snap = record { state = m.state; claims = c.args.claims.now } in
    lowest m.setup snap 5 (omega arith) (omega arith)
    (record {
      names = λ lt. c.requires.names;
      no_dangling = λ lt. c.has_no_dangling.ensures.0 c.if-not-has_no_dangling.false;
      guarded = λ lt. c.are_guarded.ensures.0 c.if-not-are_guarded.false;
      exits = λ lt. c.are_exits.ensures.0 c.if-not-are_exits.false;
      gone = λ lt. absurd (omega (arith, lt));
      phases = λ lt. absurd (omega (arith, lt));
      uses = λ lt. absurd (omega (arith, lt));
      claims = λ lt. absurd (omega (arith, lt));
    })
    (λ holds. false≢true (sym c.if-not-are_gone.true ∙ c.are_gone.ensures.1 (holds.gone refl)))

pub returns-then-not-are_phases : goal.returns-then-not-are_phases
returns-then-not-are_phases c =
    let m = c.args.lists.now in
    let snap : Snap = record { state = m.state; claims = c.args.claims.now } in
    lowest m.setup snap 6 (omega arith) (omega arith)
    (record {
      names = λ lt. c.requires.names;
      no_dangling = λ lt. c.has_no_dangling.ensures.0 c.if-not-has_no_dangling.false;
      guarded = λ lt. c.are_guarded.ensures.0 c.if-not-are_guarded.false;
      exits = λ lt. c.are_exits.ensures.0 c.if-not-are_exits.false;
      gone = λ lt. c.are_gone.ensures.0 c.if-not-are_gone.false;
      phases = λ lt. absurd (omega (arith, lt));
      uses = λ lt. absurd (omega (arith, lt));
      claims = λ lt. absurd (omega (arith, lt));
    })
    (λ holds. false≢true (sym c.if-not-are_phases.true ∙ c.are_phases.ensures.1 (holds.phases refl)))

pub returns-then-not-uses_fit : goal.returns-then-not-uses_fit
returns-then-not-uses_fit c =
    let m = c.args.lists.now in
    let snap : Snap = record { state = m.state; claims = c.args.claims.now } in
    lowest m.setup snap 7 (omega arith) (omega arith)
    (record {
      names = λ lt. c.requires.names;
      no_dangling = λ lt. c.has_no_dangling.ensures.0 c.if-not-has_no_dangling.false;
      guarded = λ lt. c.are_guarded.ensures.0 c.if-not-are_guarded.false;
      exits = λ lt. c.are_exits.ensures.0 c.if-not-are_exits.false;
      gone = λ lt. c.are_gone.ensures.0 c.if-not-are_gone.false;
      phases = λ lt. c.are_phases.ensures.0 c.if-not-are_phases.false;
      uses = λ lt. absurd (omega (arith, lt));
      claims = λ lt. absurd (omega (arith, lt));
    })
    (λ holds. false≢true (sym c.if-not-uses_fit.true ∙ c.uses_fit.ensures.1 (holds.uses refl)))

pub returns-then-not-claims_are : goal.returns-then-not-claims_are
returns-then-not-claims_are c =
    let m = c.args.lists.now in
    let snap : Snap = record { state = m.state; claims = c.args.claims.now } in
    lowest m.setup snap 8 (omega arith) (omega arith)
    (record {
      names = λ lt. c.requires.names;
      no_dangling = λ lt. c.has_no_dangling.ensures.0 c.if-not-has_no_dangling.false;
      guarded = λ lt. c.are_guarded.ensures.0 c.if-not-are_guarded.false;
      exits = λ lt. c.are_exits.ensures.0 c.if-not-are_exits.false;
      gone = λ lt. c.are_gone.ensures.0 c.if-not-are_gone.false;
      phases = λ lt. c.are_phases.ensures.0 c.if-not-are_phases.false;
      uses = λ lt. c.uses_fit.ensures.0 c.if-not-uses_fit.false;
      claims = λ lt. absurd (omega (arith, lt));
    })
    (λ holds. false≢true (sym c.if-not-claims_are.true ∙ c.claims_are.ensures.1 (holds.claims refl)))

pub returns-else-not-claims_are : goal.returns-else-not-claims_are
returns-else-not-claims_are c =
    let m = c.args.lists.now in
    let snap : Snap = record { state = m.state; claims = c.args.claims.now } in
    all_hold m.setup snap
    (record {
      names = λ lt. c.requires.names;
      no_dangling = λ lt. c.has_no_dangling.ensures.0 c.if-not-has_no_dangling.false;
      guarded = λ lt. c.are_guarded.ensures.0 c.if-not-are_guarded.false;
      exits = λ lt. c.are_exits.ensures.0 c.if-not-are_exits.false;
      gone = λ lt. c.are_gone.ensures.0 c.if-not-are_gone.false;
      phases = λ lt. c.are_phases.ensures.0 c.if-not-are_phases.false;
      uses = λ lt. c.uses_fit.ensures.0 c.if-not-uses_fit.false;
      claims = λ lt. c.claims_are.ensures.0 c.if-not-claims_are.false;
    })
