-- The laws of the reader: what is spelled is read, and what was read can be completed to what is spelled.
use Rattle.k_types.specs.Trace.{Trace}
use Rattle.k_trace.specs.Named.{DeclaredNames}
use Rattle.k_audit.proofs.Completes.{read_is_completed}
use Rattle.k_audit.proofs.ItsLines.{its_lines}
use Rattle.k_audit.proofs.Plainly.{IsHeader}
use Rattle.k_audit.proofs.Runs.{AreReaderLaws}
use Rattle.k_audit.proofs.ReadsSpelled.{spelled_is_read}

pub reader_laws : (names : DeclaredNames) (trace : Trace) → IsHeader names trace → AreReaderLaws names trace
reader_laws names trace header = record {
  complete = spelled_is_read names trace header;
  sound = read_is_completed names trace header;
  lines = its_lines names trace header;
}
