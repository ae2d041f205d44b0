use Rattle.std.proofs.Common.{◌∙◌, length, take, drop, ◌-◌, sym, arith, refl, inl, inr}
use Rattle.std.specs.Str.{bytes_eq}
use Rattle.k_reports.proofs.Parted.{found_inside, found_outside, not_found, next_word, word_fits}
use Rattle.k_history.proofs.words.parted.Goals.{then-at-eq0-via-then-at-eq0, then-at-eq0-via-else-at-eq0+then-end-rest}
use Rattle.k_history.proofs.words.parted.Goals as goal

pub returns-then-at-eq0-clause-none : goal.returns-then-at-eq0-clause-none
returns-then-at-eq0-clause-none c =
    found_outside (λ w. bytes_eq w c.args.wanted.now) c.args.line.now (take (length c.args.line.now - c.words.at) (drop c.words.at c.args.line.now)) c.words.at c.find-end.result
    refl c.words.invariant c.find-end.ensures (sym c.eq.ensures ∙ c.if-eq.true) (elim c.then-at-eq0.branch [
      | then-at-eq0-via-then-at-eq0 w ↦ inl w.if-at-eq0.true
      | then-at-eq0-via-else-at-eq0+then-end-rest w ↦ inr (omega (arith, w.if-end-rest.true))
    ])

pub returns-then-eq-clause-some : goal.returns-then-eq-clause-some
returns-then-eq-clause-some c =
    found_inside (λ w. bytes_eq w c.args.wanted.now) c.args.line.now (take (length c.args.line.now - c.words.at) (drop c.words.at c.args.line.now)) c.words.at c.find-end.result
    refl c.words.invariant c.find-end.ensures (sym c.eq.ensures ∙ c.if-eq.true) (omega (arith, c.if-at-eq0.false)) (omega (arith, c.if-end-rest.false, word_fits (take (length c.args.line.now - c.words.at) (drop c.words.at c.args.line.now)) c.find-end.result c.find-end.ensures))

pub returns-then-end-rest-2-clause-none : goal.returns-then-end-rest-2-clause-none
returns-then-end-rest-2-clause-none c =
    inr (not_found (λ w. bytes_eq w c.args.wanted.now) c.args.line.now (take (length c.args.line.now - c.words.at) (drop c.words.at c.args.line.now)) c.words.at c.find-end.result
    refl c.words.invariant c.find-end.ensures (sym c.eq.ensures ∙ c.if-eq.false) (omega (arith, c.if-end-rest-2.true)))

pub words-preserved : goal.words-preserved
words-preserved c =
    next_word (λ w. bytes_eq w c.args.wanted.now) c.args.line.now (take (length c.args.line.now - c.words.at) (drop c.words.at c.args.line.now)) c.words.at c.find-end.result
    refl c.words.invariant c.find-end.ensures (sym c.eq.ensures ∙ c.if-eq.false) (omega (arith, c.if-end-rest-2.false, word_fits (take (length c.args.line.now - c.words.at) (drop c.words.at c.args.line.now)) c.find-end.result c.find-end.ensures))
