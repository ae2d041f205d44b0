use Rattle.k_history.proofs.Differences.{no_difference, same_text, behind_front}
use Rattle.k_history.proofs.laws.differences_are_counted_by_lines.Goals as goal

pub returns : goal.returns
returns c = record {
  same = λ text bytes. (same_text 1 text bytes, λ e. rw e (no_difference 1 bytes));
  pieces = λ front text bytes. behind_front 1 front text bytes;
}
