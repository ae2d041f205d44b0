use Rattle.std.proofs.Common.{◌≡◌, ◌∙◌, ◌++◌, ◌∷◌, [], refl, sym, ap, subst, arith}
use Rattle.k_words.specs.Words.{Text, words_of}
use Rattle.k_trace.specs.Named.{DeclaredNames, NamedTrace}
use Rattle.k_trace.specs.Rules.{IsTrace}
use Rattle.k_reports.specs.Reading.{event_of}
use Rattle.k_reports.specs.Begun.{IsBegun}
use Rattle.k_check.proofs.LinesRead.{begins, no_event_line, wrong_event_line, one_more}
use Rattle.k_check.proofs.lines.read_events.Goals as goal

names_are : (t u : NamedTrace) (names : DeclaredNames) → names ≡ u.names → u ≡ t → names ≡ t.names
names_are t u names is same = is ∙ ap (λ (x : NamedTrace). x.names) same

read_by : (names other : DeclaredNames) (line : Text) → names ≡ other → event_of other (words_of line) ≡ event_of names (words_of line)
read_by names other line same = ap (λ (ns : DeclaredNames). event_of ns (words_of line)) (sym same)

pub loop-rest-init : goal.loop-rest-init
loop-rest-init c =
    begins _ _ _ c.next_line.result.1.now c.args.walk.now refl c.requires.begin c.next_line.ensures.lines (sym c.is.ensures ∙ c.if-not-is.false) (omega (arith, c.next_line.ensures.shorter))

pub returns-in_default-clause-stop : goal.returns-in_default-clause-stop
returns-in_default-clause-stop c =
    let same = names_are c.args.walk.now.trace c.loop-rest.walk.trace c.names.result.now c.names.ensures.names c.loop-rest.invariant.trace in
    no_event_line c.args.walk.now.trace c.args.report.now c.loop-rest.walk c.next_line-in-loop-rest.result.0.now c.loop-rest.rest.now c.next_line-in-loop-rest.result.1.now c.loop-rest.number
    (subst IsTrace c.loop-rest.invariant.trace c.names.ensures.good) c.loop-rest.invariant c.next_line-in-loop-rest.ensures.lines (sym c.is-in-loop-rest.ensures ∙ c.if-is.false)
    (read_by c.names.result.now c.args.walk.now.trace.names c.next_line-in-loop-rest.result.0.now same ∙ sym c.read_event.ensures ∙ c.in_default.is)

pub returns-then-not-branch-clause-stop : goal.returns-then-not-branch-clause-stop
returns-then-not-branch-clause-stop c =
    let same = names_are c.args.walk.now.trace c.loop-rest.walk.trace c.names.result.now c.names.ensures.names c.loop-rest.invariant.trace in
    wrong_event_line c.args.walk.now.trace c.args.report.now c.loop-rest.walk c.next_line-in-loop-rest.result.0.now c.loop-rest.rest.now c.next_line-in-loop-rest.result.1.now c.loop-rest.number c.in-Some.event
    (subst IsTrace c.loop-rest.invariant.trace c.names.ensures.good) c.loop-rest.invariant c.next_line-in-loop-rest.ensures.lines (sym c.is-in-loop-rest.ensures ∙ c.if-is.false)
    (read_by c.names.result.now c.args.walk.now.trace.names c.next_line-in-loop-rest.result.0.now same ∙ sym c.read_event.ensures ∙ c.in-Some.is)
    (λ begun. let taken = c.in_ok-take.ensures.next.1 (subst (λ (t : NamedTrace). IsBegun t.trace (c.loop-rest.walk.history ++ c.in-Some.event ∷ [])) (sym c.loop-rest.invariant.trace) begun) in absurd (cc (taken, c.if-not-branch.true)))

pub overflow_add-number : goal.overflow_add-number
overflow_add-number c = omega (arith, c.loop-rest.invariant.few, c.next_line-in-loop-rest.ensures.shorter, c.requires.few)

pub loop-rest-preserved : goal.loop-rest-preserved
loop-rest-preserved c =
    let same = names_are c.args.walk.now.trace c.loop-rest.walk.trace c.names.result.now c.names.ensures.names c.loop-rest.invariant.trace in
    one_more c.args.walk.now.trace c.args.report.now c.loop-rest.walk c.take.new.self c.next_line-in-loop-rest.result.0.now c.loop-rest.rest.now c.next_line-in-loop-rest.result.1.now c.loop-rest.number c.in-Some.event
    c.loop-rest.invariant c.next_line-in-loop-rest.ensures.lines
    (read_by c.names.result.now c.args.walk.now.trace.names c.next_line-in-loop-rest.result.0.now same ∙ sym c.read_event.ensures ∙ c.in-Some.is)
    (subst (λ (t : NamedTrace). IsBegun t.trace (c.loop-rest.walk.history ++ c.in-Some.event ∷ [])) c.loop-rest.invariant.trace (c.in_ok-take.ensures.next.0 c.if-not-branch.false))
    c.take.ensures.trace (c.in_ok-take.ensures.taken c.if-not-branch.false) (omega (arith, c.loop-rest.invariant.few, c.next_line-in-loop-rest.ensures.shorter))
