use Rattle.std.proofs.Common.{◌≡◌, [], map}
use Rattle.k_words.specs.Words.{text_of}
use Rattle.k_text.specs.Writing.{HasWritten}
use Rattle.k_types.specs.Numbers.{numbers_below}
use Rattle.k_work.specs.Lines.{process_line}
use Rattle.k_work.proofs.writing.put_processes.Given as goal

abbrev pub invariant-loop-pid : goal.invariant-loop-pid
invariant-loop-pid g l = record {
  written : HasWritten (g.K.Sink.Holds l.fn.out) (g.K.Sink.Holds l.out) (g.K.Sink.faults l.fn.out) (g.K.Sink.faults l.out) (text_of (map (process_line l.names l.table) (numbers_below l.pid)));
  empty : l.line ≡ [];
}
