use Rattle.std.proofs.Common.{◌≡◌, arith, ◌∙◌, sym, ap, length}
use Rattle.std.proofs.lemmas.Bool.{eqb-true}
use Rattle.k_reader.proofs.Judging.{one_more, bad_line, none_left}
use Rattle.k_reader.proofs.reading.read_lines.Goals as goal
use Rattle.k_words.proofs.Feeds.{no_lines}

pub returns-in-Err-Bad : goal.returns-in-Err-Bad
returns-in-Err-Bad c =
    let bad = rw c.in-Err-Bad.field-0-is at c.in-Err-Bad.ensures in
    rw (c.number.ensures, c.in-Err-Bad.reason-is) (c.loop-rest.invariant.judged ∙ bad_line c.loop-rest.number c.in-Err-Bad.reason _ _ _ _ c.next_line.ensures.lines bad)

pub loop-rest-preserved : goal.loop-rest-preserved
loop-rest-preserved c = record {
  judged = c.loop-rest.invariant.judged ∙ one_more c.loop-rest.number _ _ _ _ _ c.next_line.ensures.lines c.in-Ok.ensures;
  counted = omega (arith, ap length c.next_line.ensures.lines);
  few = omega arith;
}

pub returns : goal.returns
returns c =
    let none : length c.loop-rest.rest.now ≡ 0 = eqb-true _ _ (sym c.loop-rest-test.ensures) in
    (c.loop-rest.invariant.judged ∙ none_left c.loop-rest.number _ c.loop-rest.rest.now none, omega (arith, no_lines c.loop-rest.rest.now none))
