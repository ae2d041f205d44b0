use Rattle.std.proofs.Common.{◌≡◌, ◌∙◌, ◌+◌, ap, arith, length}
use Rattle.k_trace.specs.Named.{DeclaredNames}
use Rattle.k_trace.specs.Names.{numbered}
use Rattle.k_spawn.specs.Outcome.{ReaderState}
use Rattle.k_spawn.proofs.Numbering.{in_first, in_second, pid_in}
use Rattle.k_spawn.proofs.reader.ScriptReader.process_named.Goals as goal

pub returns-in-Some-clause-number : goal.returns-in-Some-clause-number
returns-in-Some-clause-number c =
    let r = c.args.self.now in
    let names = c.names.ensures ∙ ap (λ (x : ReaderState). x.header.said.names) c.self.view_is in
    in_first r.header.said.names.procs r.child_names c.args.name.now c.in-Some.pid (c.in-Some.ensures.number ∙ ap (λ (n : DeclaredNames). pid_in n.procs c.args.name.now) names)

pub returns-in-Some-number-clause-number : goal.returns-in-Some-number-clause-number
returns-in-Some-number-clause-number c =
    let r = c.args.self.now in
    let names = c.names.ensures ∙ ap (λ (x : ReaderState). x.header.said.names) c.self.view_is in
    let behind : c.child_at.result.0 ≡ length r.header.said.names.procs + c.in-Some-number.place =
    omega (arith, c.child_at.ensures.process, ap (λ (x : ReaderState). x.course.family.first) c.self.view_is, c.requires.behind, c.requires.header.procs) in
    in_second r.header.said.names.procs r.child_names c.args.name.now c.child_at.result c.in-Some-number.place
    (c.in-None.ensures.number ∙ ap (λ (n : DeclaredNames). pid_in n.procs c.args.name.now) names)
    (c.in-Some-number.ensures.number ∙ ap (λ (x : ReaderState). numbered x.child_names c.args.name.now) c.self.view_is) behind
