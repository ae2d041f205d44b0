use Rattle.std.proofs.Common.{◌≡◌, ◌∙◌, ◌+◌, ◌-◌, ◌<◌, [], true, false, ap, sym, take, drop, length, eqb-true, arith}
use Rattle.std.proofs.lemmas.Bool.Decides.{nat_tests}
use Rattle.k_types.specs.Trace.{trace_of}
use Rattle.k_audit.specs.Reading.{Reading, is_over, read_line}
use Rattle.k_audit.proofs.FedLines.{fits_then, line_fits, line_refused, line_unfed, lines_end, over_then, refused_then, taken_few}
use Rattle.k_audit.proofs.reader.Reader.take_lines.Goals as goal

pub returns-then-end-rest-clause-refused : goal.returns-then-end-rest-clause-refused
returns-then-end-rest-clause-refused c =
    let some : 0 < length c.loop-rest.rest.now = grind (arith, nat_tests, c.is_empty.ensures, c.loop-rest-test.true) in
    c.loop-rest.invariant.read
    ∙ line_unfed c.args.names.now (trace_of c.args.setup.now [] []) c.loop-rest.self c.loop-rest.number c.loop-rest.rest.now c.find-end.result c.find-end.ensures c.if-end-rest.true some

pub returns-then-not-branch-clause-refused : goal.returns-then-not-branch-clause-refused
returns-then-not-branch-clause-refused c =
    let names = c.args.names.now in
    let trace = trace_of c.args.setup.now [] [] in
    let rd : Reading = c.loop-rest.self in
    let bytes = c.loop-rest.rest.now in
    let end = c.find-end.result in
    c.loop-rest.invariant.read
    ∙ line_refused names trace rd c.loop-rest.number bytes end c.find-end.ensures c.if-end-rest.false
    (refused_then c.in_ok-take_line.field-0 rd c.take_line.new.self (read_line names trace rd (take end bytes)) c.in_ok-take_line.ensures c.if-not-branch.true)

pub loop-rest-preserved : goal.loop-rest-preserved
loop-rest-preserved c =
    let names = c.args.names.now in
    let trace = trace_of c.args.setup.now [] [] in
    let rd : Reading = c.loop-rest.self in
    let bytes = c.loop-rest.rest.now in
    let end = c.find-end.result in
    let fits = fits_then c.in_ok-take_line.field-0 rd c.take_line.new.self (read_line names trace rd (take end bytes)) c.in_ok-take_line.ensures c.if-not-branch.false in
    record {
      read = c.loop-rest.invariant.read ∙ line_fits names trace rd c.loop-rest.number bytes end c.find-end.ensures c.if-end-rest.false c.take_line.new.self fits.0;
      sized = fits.1 ∙ c.loop-rest.invariant.sized;
      few = let l = taken_few (length bytes - (end + 1)) (drop (end + 1) bytes) in omega (arith, l, c.loop-rest.invariant.few, c.if-end-rest.false);
    }

pub returns-clause-fits : goal.returns-clause-fits
returns-clause-fits c =
    let none : length c.loop-rest.rest.now ≡ 0 = eqb-true _ _ (sym c.loop-rest-test.ensures) in
    let over : is_over c.loop-rest.self.place ≡ true = ap (λ (r : Reading). is_over r.place) (sym c.self.view_is) ∙ sym c.is_over.ensures ∙ c.if-not-is_over.false in
    c.loop-rest.invariant.read
    ∙ lines_end c.args.names.now (trace_of c.args.setup.now [] []) c.loop-rest.self c.loop-rest.number c.loop-rest.rest.now none
    ∙ over_then c.loop-rest.self c.loop-rest.number true over

pub returns-then-not-is_over-clause-refused : goal.returns-then-not-is_over-clause-refused
returns-then-not-is_over-clause-refused c =
    let none : length c.loop-rest.rest.now ≡ 0 = eqb-true _ _ (sym c.loop-rest-test.ensures) in
    let over : is_over c.loop-rest.self.place ≡ false = ap (λ (r : Reading). is_over r.place) (sym c.self.view_is) ∙ sym c.is_over.ensures ∙ c.if-not-is_over.true in
    c.loop-rest.invariant.read
    ∙ lines_end c.args.names.now (trace_of c.args.setup.now [] []) c.loop-rest.self c.loop-rest.number c.loop-rest.rest.now none
    ∙ over_then c.loop-rest.self c.loop-rest.number false over
