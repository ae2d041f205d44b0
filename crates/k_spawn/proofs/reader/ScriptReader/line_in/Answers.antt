use Rattle.std.proofs.Common.{◌≡◌, ◌∙◌, sym}
use Rattle.k_trace.specs.Words.{words_of}
use Rattle.k_trace.specs.declared.place.Place.TheVariants.{Version, Operations}
use Rattle.k_spawn.specs.Outcome.{place_now}
use Rattle.k_spawn.proofs.Headers.{begun_at, no_child_early}
use Rattle.k_spawn.proofs.reader.ScriptReader.line_in.Goals as goal

pub header_line-requires-clause-line : goal.header_line-requires-clause-line
header_line-requires-clause-line c = no_child_early c.args.self.now c.place.result (words_of c.args.line.now) c.requires c.place.ensures c.in-Kernel.is

pub operation_line-requires-clause-begun : goal.operation_line-requires-clause-begun
operation_line-requires-clause-begun c =
    let at : place_now c.args.self.now ≡ Operations = sym c.place.ensures ∙ c.in-Operations.is in
    begun_at c.args.self.now (λ e. let no : Operations ≡ Version = sym at ∙ e in absurd cc)
