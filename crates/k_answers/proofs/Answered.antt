-- What the source tells, from what its bytes tell, and these from the parts that they are split in.
use Rattle.std.proofs.Common.{ℕ, ◌-◌, ◌<◌, ◌^◌, length, ap, arith, length-append}
use Rattle.k_words.specs.Words.{Text}
use Rattle.k_trace.specs.Named.{NamedTrace}
use Rattle.k_status.specs.declared.status.Status.{Status}
use Rattle.k_status.specs.declared.status.Status.TheVariants.{Good, BadTrace, Usage, WantOfMemory, ReadFault, WriteFault, Refused}
use Rattle.k_status.specs.Ends.{Input}
use Rattle.k_status.specs.Readings.{WasRead}
use Rattle.k_status.specs.Telling.{TellsOfSource}
use Rattle.k_answers.specs.Inputs.{AreTraceAnd, AreTraceAndReport, AreTraceAndSnapshot}
use Rattle.k_answers.specs.Parts.{TellsOfAudit, TellsOfReport, TellsOfCheck, TellsOfSnapshot}

-- What the report tells, the bytes tell that are its trace and the report.
pub check_tells : (bytes : Text) (t : NamedTrace) (report : Text) → AreTraceAndReport bytes t report → (status : Status) (text : Text) → TellsOfReport t report status text → TellsOfCheck bytes status text
check_tells bytes t report parts Good text h = (t, report, parts, h)
check_tells bytes t report parts Refused text h = (t, report, parts, h)
check_tells bytes t report parts WantOfMemory text h = h
check_tells bytes t report parts BadTrace text h = absurd h
check_tells bytes t report parts Usage text h = absurd h
check_tells bytes t report parts ReadFault text h = absurd h
check_tells bytes t report parts WriteFault text h = absurd h

-- What the bytes tell of a trace and a report, the source that gave them tells.
pub checked_source_tells : (limit : ℕ) (input : Input) (bytes : Text) → WasRead limit input bytes
    → (status : Status) (text : Text) → TellsOfCheck bytes status text → TellsOfSource limit TellsOfCheck input status text
checked_source_tells limit input bytes read Good text h = (bytes, read, h)
checked_source_tells limit input bytes read Refused text h = (bytes, read, h)
checked_source_tells limit input bytes read BadTrace text h = (bytes, read, h)
checked_source_tells limit input bytes read WantOfMemory text h = h
checked_source_tells limit input bytes read Usage text h = absurd h
checked_source_tells limit input bytes read ReadFault text h = absurd h
checked_source_tells limit input bytes read WriteFault text h = absurd h

-- ---- a snapshot

-- What the snapshot tells, the bytes tell that are its trace and the snapshot.
pub audit_tells : (bytes : Text) (t : NamedTrace) (snapshot : Text) → AreTraceAndSnapshot bytes t snapshot → (status : Status) (text : Text) → TellsOfSnapshot t snapshot status text → TellsOfAudit bytes status text
audit_tells bytes t snapshot parts Good text h = (t, snapshot, parts, h)
audit_tells bytes t snapshot parts Refused text h = (t, snapshot, parts, h)
audit_tells bytes t snapshot parts WantOfMemory text h = h
audit_tells bytes t snapshot parts BadTrace text h = absurd h
audit_tells bytes t snapshot parts Usage text h = absurd h
audit_tells bytes t snapshot parts ReadFault text h = absurd h
audit_tells bytes t snapshot parts WriteFault text h = absurd h

-- What the bytes tell of a trace and a snapshot, the source that gave them tells.
pub audited_source_tells : (limit : ℕ) (input : Input) (bytes : Text) → WasRead limit input bytes
    → (status : Status) (text : Text) → TellsOfAudit bytes status text → TellsOfSource limit TellsOfAudit input status text
audited_source_tells limit input bytes read Good text h = (bytes, read, h)
audited_source_tells limit input bytes read Refused text h = (bytes, read, h)
audited_source_tells limit input bytes read BadTrace text h = (bytes, read, h)
audited_source_tells limit input bytes read WantOfMemory text h = h
audited_source_tells limit input bytes read Usage text h = absurd h
audited_source_tells limit input bytes read ReadFault text h = absurd h
audited_source_tells limit input bytes read WriteFault text h = absurd h

-- What stands behind a trace is short enough that its lines have numbers of 32 bits.
pub few_behind : (opening bytes : Text) (t : NamedTrace) (behind : Text) → AreTraceAnd opening bytes t behind → length behind < 2 ^ 32 - 1
few_behind opening bytes t behind parts =
    omega (arith, ap length parts.parts.split.whole, length-append parts.front behind, parts.parts.few)
