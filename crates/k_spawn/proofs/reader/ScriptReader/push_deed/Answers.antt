use Rattle.std.proofs.Common.{◌≡◌, ◌≤◌, ◌∙◌, ◌+◌, ◌&&◌, nat_le, true, false, refl, sym, ap, subst, arith}
use Rattle.std.proofs.lemmas.Bool.{le-leb}
use Rattle.k_spawn.specs.declared.errors.ScriptLineError.{ScriptLineError}
use Rattle.k_spawn.specs.Courses.{Course, reaped_by}
use Rattle.k_spawn.specs.Families.{Family}
use Rattle.k_spawn.specs.Judgement.{deed_line}
use Rattle.k_spawn.specs.Outcome.{ReaderState, RefusesLine, so_far}
use Rattle.k_spawn.specs.Scripts.{family}
use Rattle.k_spawn.specs.Timely.{weight, has_left, operations_so_far, is_of_parent, is_running, is_due}
use Rattle.k_spawn.proofs.Deeds.{as_tested, line_taken, still_ready, with_more}
use Rattle.k_spawn.proofs.Marks.{weight_is}
use Rattle.k_spawn.proofs.reader.ScriptReader.push_deed.Goals as goal
use Rattle.k_spawn.proofs.reader.ScriptReader.push_deed.Goals.{then-not-is_running-via-then-not-is_running, then-not-is_running-via-else-not-is_running+then-not-is_due}

pub returns-then-has_left-clause-judged : goal.returns-then-has_left-clause-judged
returns-then-has_left-clause-judged c name named =
    let r = c.args.self.now in
    let s = (so_far r).said in
    let pid = c.args.pid in
    let course : c.self.inside.course ≡ r.course = ap (λ (x : ReaderState). x.course) c.self.view_is in
    let own : r.course.family ≡ family s = ap (λ n. let f : Family = record { first = n; parents = r.course.family.parents } in f) c.requires.ready.behind in
    let whole : c.self.inside.course.family ≡ family s = ap (λ (x : Course). x.family) course ∙ own in
    let weighs : c.weight_of.result ≡ weight (family s) c.args.deed =
    c.weight_of.ensures ∙ weight_is (family s) c.args.deed c.args.reaped.now (c.requires.list ∙ ap (λ f. reaped_by f c.args.deed) own) in
    let count : c.operation_count.result ≡ operations_so_far (family s) s.lines =
    c.operation_count.ensures.count ∙ ap (λ (x : Course). operations_so_far x.family x.lines) course ∙ ap (λ f. operations_so_far f s.lines) own in
    let few : operations_so_far (family s) s.lines + weight (family s) c.args.deed ≤ 200000 = omega (arith, weighs, count, c.operation_count.ensures.few) in
    let room : nat_le (operations_so_far (family s) s.lines + weight (family s) c.args.deed) 200000 ≡ true = le-leb _ _ few in
    let left = sym (c.if-has_left.ensures ∙ ap (λ (x : Course). has_left x.lines pid.0) course) in
    subst (λ (e : ScriptLineError). RefusesLine e (deed_line s name c.args.deed)) (sym c.bad-then-has_left.ensures)
    (as_tested s name c.args.deed pid named true true _ _ room left refl refl)

pub returns-then-not-is_of_parent-clause-judged : goal.returns-then-not-is_of_parent-clause-judged
returns-then-not-is_of_parent-clause-judged c name named =
    let r = c.args.self.now in
    let s = (so_far r).said in
    let pid = c.args.pid in
    let course : c.self.inside.course ≡ r.course = ap (λ (x : ReaderState). x.course) c.self.view_is in
    let own : r.course.family ≡ family s = ap (λ n. let f : Family = record { first = n; parents = r.course.family.parents } in f) c.requires.ready.behind in
    let whole : c.self.inside.course.family ≡ family s = ap (λ (x : Course). x.family) course ∙ own in
    let weighs : c.weight_of.result ≡ weight (family s) c.args.deed =
    c.weight_of.ensures ∙ weight_is (family s) c.args.deed c.args.reaped.now (c.requires.list ∙ ap (λ f. reaped_by f c.args.deed) own) in
    let count : c.operation_count.result ≡ operations_so_far (family s) s.lines =
    c.operation_count.ensures.count ∙ ap (λ (x : Course). operations_so_far x.family x.lines) course ∙ ap (λ f. operations_so_far f s.lines) own in
    let few : operations_so_far (family s) s.lines + weight (family s) c.args.deed ≤ 200000 = omega (arith, weighs, count, c.operation_count.ensures.few) in
    let room : nat_le (operations_so_far (family s) s.lines + weight (family s) c.args.deed) 200000 ≡ true = le-leb _ _ few in
    let left = sym (c.if-has_left.ensures ∙ ap (λ (x : Course). has_left x.lines pid.0) course) in
    let parent = sym (c.if-not-is_of_parent.ensures ∙ ap (λ f. is_of_parent f pid.0 c.args.deed) whole) in
    as_tested s name c.args.deed pid named true false false _ room left parent refl

pub returns-then-not-is_running-clause-judged : goal.returns-then-not-is_running-clause-judged
returns-then-not-is_running-clause-judged c name named =
    let r = c.args.self.now in
    let s = (so_far r).said in
    let pid = c.args.pid in
    let course : c.self.inside.course ≡ r.course = ap (λ (x : ReaderState). x.course) c.self.view_is in
    let own : r.course.family ≡ family s = ap (λ n. let f : Family = record { first = n; parents = r.course.family.parents } in f) c.requires.ready.behind in
    let whole : c.self.inside.course.family ≡ family s = ap (λ (x : Course). x.family) course ∙ own in
    let weighs : c.weight_of.result ≡ weight (family s) c.args.deed =
    c.weight_of.ensures ∙ weight_is (family s) c.args.deed c.args.reaped.now (c.requires.list ∙ ap (λ f. reaped_by f c.args.deed) own) in
    let count : c.operation_count.result ≡ operations_so_far (family s) s.lines =
    c.operation_count.ensures.count ∙ ap (λ (x : Course). operations_so_far x.family x.lines) course ∙ ap (λ f. operations_so_far f s.lines) own in
    let few : operations_so_far (family s) s.lines + weight (family s) c.args.deed ≤ 200000 = omega (arith, weighs, count, c.operation_count.ensures.few) in
    let room : nat_le (operations_so_far (family s) s.lines + weight (family s) c.args.deed) 200000 ≡ true = le-leb _ _ few in
    let left = sym (c.if-has_left.ensures ∙ ap (λ (x : Course). has_left x.lines pid.0) course) in
    let parent = sym (c.if-not-is_of_parent.ensures ∙ ap (λ f. is_of_parent f pid.0 c.args.deed) whole) in
    let over : (is_running (family s) s.lines pid.0 && is_due (family s) s.lines c.args.deed) ≡ false = elim c.then-not-is_running.branch [
      | then-not-is_running-via-then-not-is_running w ↦ ap (λ b. b && is_due (family s) s.lines c.args.deed) (sym (w.if-not-is_running.ensures ∙ ap (λ (x : Course). is_running x.family x.lines pid.0) course ∙ ap (λ f. is_running f s.lines pid.0) own))
      | then-not-is_running-via-else-not-is_running+then-not-is_due w ↦
          ap (λ b. b && is_due (family s) s.lines c.args.deed) (sym (w.if-not-is_running.ensures ∙ ap (λ (x : Course). is_running x.family x.lines pid.0) course ∙ ap (λ f. is_running f s.lines pid.0) own)) ∙ sym (w.if-not-is_due.ensures ∙ ap (λ (x : Course). is_due x.family x.lines c.args.deed) course ∙ ap (λ f. is_due f s.lines c.args.deed) own)
    ] in
    as_tested s name c.args.deed pid named true false true false room left parent over

pub returns-clause-judged : goal.returns-clause-judged
returns-clause-judged c name named =
    let r = c.args.self.now in
    let s = (so_far r).said in
    let pid = c.args.pid in
    let course : c.self.inside.course ≡ r.course = ap (λ (x : ReaderState). x.course) c.self.view_is in
    let own : r.course.family ≡ family s = ap (λ n. let f : Family = record { first = n; parents = r.course.family.parents } in f) c.requires.ready.behind in
    let whole : c.self.inside.course.family ≡ family s = ap (λ (x : Course). x.family) course ∙ own in
    let weighs : c.weight_of.result ≡ weight (family s) c.args.deed =
    c.weight_of.ensures ∙ weight_is (family s) c.args.deed c.args.reaped.now (c.requires.list ∙ ap (λ f. reaped_by f c.args.deed) own) in
    let count : c.operation_count.result ≡ operations_so_far (family s) s.lines =
    c.operation_count.ensures.count ∙ ap (λ (x : Course). operations_so_far x.family x.lines) course ∙ ap (λ f. operations_so_far f s.lines) own in
    let few : operations_so_far (family s) s.lines + weight (family s) c.args.deed ≤ 200000 = omega (arith, weighs, count, c.operation_count.ensures.few) in
    let room : nat_le (operations_so_far (family s) s.lines + weight (family s) c.args.deed) 200000 ≡ true = le-leb _ _ few in
    let left = sym (c.if-has_left.ensures ∙ ap (λ (x : Course). has_left x.lines pid.0) course) in
    let parent = sym (c.if-not-is_of_parent.ensures ∙ ap (λ f. is_of_parent f pid.0 c.args.deed) whole) in
    let now : (is_running (family s) s.lines pid.0 && is_due (family s) s.lines c.args.deed) ≡ true =
    ap (λ b. b && is_due (family s) s.lines c.args.deed) (sym (c.if-not-is_running.ensures ∙ ap (λ (x : Course). is_running x.family x.lines pid.0) course ∙ ap (λ f. is_running f s.lines pid.0) own)) ∙ sym (c.if-not-is_due.ensures ∙ ap (λ (x : Course). is_due x.family x.lines c.args.deed) course ∙ ap (λ f. is_due f s.lines c.args.deed) own) in
    let new : ReaderState = record { begun = c.self.inside.begun; header = c.self.inside.header; child_names = c.self.inside.child_names; course = c.push.new.self } in
    let grown : new ≡ with_more c.args.pid c.args.deed c.args.self.now = ap (λ (k : Course). let x : ReaderState = record { begun = c.self.inside.begun; header = c.self.inside.header; child_names = c.self.inside.child_names; course = k } in x) c.in_ok-push.ensures
    ∙ ap (with_more c.args.pid c.args.deed) c.self.view_is in
    as_tested s name c.args.deed pid named true false true true room left parent now ∙ line_taken r new pid c.args.deed grown c.requires.begun

pub returns-clause-ready : goal.returns-clause-ready
returns-clause-ready c =
    let new : ReaderState = record { begun = c.self.inside.begun; header = c.self.inside.header; child_names = c.self.inside.child_names; course = c.push.new.self } in
    let grown : new ≡ with_more c.args.pid c.args.deed c.args.self.now = ap (λ (k : Course). let x : ReaderState = record { begun = c.self.inside.begun; header = c.self.inside.header; child_names = c.self.inside.child_names; course = k } in x) c.in_ok-push.ensures
    ∙ ap (with_more c.args.pid c.args.deed) c.self.view_is in
    still_ready c.args.self.now new c.args.pid c.args.deed grown c.requires.begun c.requires.ready
