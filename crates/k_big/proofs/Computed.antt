-- The smallest trace and its summary, and words that are read, computed.
use Rattle.std.proofs.Common.{◌≡◌, refl}
use Rattle.std.specs.Fmt.{digits}
use Rattle.k_trace.specs.Spelling.{op_words, text}
use Rattle.k_text.proofs.Machine.{machine}
use Rattle.k_big.specs.Workload.{big_trace, operations_for}
use Rattle.k_big.specs.Worked.{WordsAreRead, file_order_summary, smallest_summary, smallest_text}

pub smallest_trace_is : text (big_trace 1) ≡ smallest_text
unfolding digits op_words operations_for
smallest_trace_is = refl

pub smallest_summary_is : file_order_summary 1 ≡ smallest_summary
unfolding machine operations_for
smallest_summary_is = refl

pub words_are : WordsAreRead
words_are = record { least = refl; ten = refl; most = refl; none = refl; too_many = refl; zeros_before = refl; sign = refl; letter = refl; empty = refl; wide = refl }
