use Rattle.std.proofs.Common.{◌≡◌, ◌∙◌, false, length, sym, ap, subst, arith}
use Rattle.k_trace.specs.Words.{words_of}
use Rattle.k_trace.specs.Named.{DeclaredNames}
use Rattle.k_spawn.specs.Courses.{Course}
use Rattle.k_spawn.specs.Outcome.{ReaderState, IsReader, so_far}
use Rattle.k_spawn.proofs.Headers.{header_kept, procs_kept, has_begun, is_shared, still_late}
use Rattle.k_spawn.proofs.reader.ScriptReader.header_line.Goals as goal

pub returns-then-child_count-eq0-clause-ready : goal.returns-then-child_count-eq0-clause-ready
returns-then-child_count-eq0-clause-ready c =
    let ready = subst IsReader (sym c.self.view_is) c.requires.ready in
    let begun : c.self.inside.begun ≡ false → ⊥ = λ e. has_begun c.args.self.now c.requires.place (sym (ap (λ (r : ReaderState). r.begun) c.self.view_is) ∙ e) in
    let kept = header_kept c.self.inside.header c.line_in-answer.new.self (words_of c.args.line.now) ready.header c.in-Ok.ensures in
    record {
      past = kept.0;
      begins = λ e. absurd (begun e);
      waits = λ e. absurd (begun e);
      header = kept.1;
      behind = ap (λ (x : Course). x.family.first) c.set_first.ensures ∙ c.proc_count.ensures.count ∙ ap (λ (n : DeclaredNames). length n.procs) c.names.ensures ∙ kept.1.procs;
      named = omega (arith, ready.named, c.child_count.ensures.count, c.if-child_count-eq0.true, ap (λ (x : Course). length x.family.parents) c.set_first.ensures);
      grown = λ e. ap (λ (x : Course). length x.family.parents) c.set_first.ensures;
    }

pub returns-else-child_count-eq0-clause-ready : goal.returns-else-child_count-eq0-clause-ready
returns-else-child_count-eq0-clause-ready c =
    let ready = subst IsReader (sym c.self.view_is) c.requires.ready in
    let begun : c.self.inside.begun ≡ false → ⊥ = λ e. has_begun c.args.self.now c.requires.place (sym (ap (λ (r : ReaderState). r.begun) c.self.view_is) ∙ e) in
    let kept = header_kept c.self.inside.header c.line_in-answer.new.self (words_of c.args.line.now) ready.header c.in-Ok.ensures in
    let parents : c.child_count.result ≡ length c.args.self.now.course.family.parents = c.child_count.ensures.count ∙ ap (λ (r : ReaderState). length r.course.family.parents) c.self.view_is in
    let shared = is_shared (so_far c.args.self.now).said (words_of c.args.line.now) c.requires.line (λ e. c.if-child_count-eq0.false (parents ∙ e)) in
    record {
      past = kept.0;
      begins = λ e. absurd (begun e);
      waits = λ e. absurd (begun e);
      header = kept.1;
      behind = ready.behind ∙ sym (ap length (procs_kept c.self.inside.header c.line_in-answer.new.self (words_of c.args.line.now) ready.header shared c.in-Ok.ensures));
      named = ready.named;
      grown = λ e. absurd (still_late c.self.inside.header c.line_in-answer.new.self (words_of c.args.line.now) ready.header (λ none. c.if-child_count-eq0.false (c.child_count.ensures.count ∙ ready.grown none)) c.in-Ok.ensures e);
    }
