use Rattle.std.proofs.Common.{arith, drop, ◌+◌, ◌∙◌, ap, sym}
use Rattle.std.proofs.lemmas.List.{drop_all}
use Rattle.k_io.specs.Memory.{SourceState}
use Rattle.k_io.proofs.Fronts.{read_front}
use Rattle.k_io.proofs.mem_source.MemSourceSource.read.Goals as goal

pub returns-clause-bytes : goal.returns-clause-bytes
returns-clause-bytes c = (
  ap (λ (v : SourceState). v.left) (sym c.self.view_is) ∙ read_front c.self.inside.bytes.items c.self.inside.at c.min-count.result c.copy_from_slice.new.self (drop c.min-count.result c.args.into.now) (omega (arith, c.deref-2.ensures, c.min-count.ensures)) (grind arith),
  λ none room. drop_all (c.self.inside.at + c.min-count.result) c.self.inside.bytes.items (omega (arith, c.requires, c.min-count.ensures)),
)
