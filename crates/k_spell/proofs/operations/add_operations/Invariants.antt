use Rattle.std.proofs.Common.{◌≡◌, ◌≤◌, ℕ, [], ◌++◌, drop, length, map, get_or}
use Rattle.k_types.specs.Trace.{operations_of}
use Rattle.k_words.specs.Words.{text_of}
use Rattle.k_trace.specs.Meaning.{meaning_of}
use Rattle.k_trace.specs.Spelling.{operation_lines}
use Rattle.k_spell.proofs.Ordered.{behind}
use Rattle.k_spell.proofs.operations.add_operations.Given as goal

abbrev pub invariant-loop-pid : goal.invariant-loop-pid
invariant-loop-pid l = record {
  empty : l.line ≡ [];
  sized : length l.done ≡ 64;
  few : (p : ℕ) → get_or l.done p 0 ≤ l.pid-index;
  left : l.text.items ++ text_of (operation_lines l.trace.names (behind (operations_of (meaning_of l.trace).trace) l.done) (map (λ pid. pid.0) (drop l.pid-index l.trace.order.items)))
      ≡ l.initial.text.items ++ text_of (operation_lines l.trace.names (operations_of (meaning_of l.trace).trace) (meaning_of l.trace).trace.order);
}
