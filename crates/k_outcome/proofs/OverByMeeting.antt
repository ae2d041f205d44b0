-- A run whose cells have all met the journal has an end.
use Rattle.std.proofs.Common.{◌≡◌, ◌∙◌}
use Rattle.std.proofs.lemmas.List.{length-map}
use Rattle.k_types.specs.Trace.{Trace}
use Rattle.k_laws.specs.Setups.{setup_of}
use Rattle.k_process.specs.declared.process.Process.{Process}
use Rattle.k_process.specs.Heaps.{HeapsValue}
use Rattle.k_process.specs.Worlds.{WorldValue}
use Rattle.k_process.specs.Over.{AllMet, cells_of}
use Rattle.k_process.proofs.Over.{outcome}
use Rattle.k_outcome.specs.Ends.{EndsRun}

pub met_ends : (world : WorldValue) (setup : Trace) (heaps : HeapsValue) → AllMet world heaps → setup ≡ setup_of world.trace → EndsRun world.trace setup (cells_of heaps)
met_ends world setup heaps met same = record {
  rules = met.ended.processes.book.stands.keeps;
  same_setup = same;
  outcome = outcome world heaps met;
  of_trace = met.ended.processes.book.stands.of_trace;
  kept = met.ended.processes.book.kept;
  processes = length-map heaps.processes (λ (p : Process). p.cell) ∙ met.ended.processes.processes.count;
  shared = met.ended.shared.count;
}
