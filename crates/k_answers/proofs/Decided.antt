-- Which status comes where source and sink have no fault: what it means of the words and the bytes leaves one, or want of memory.
use Rattle.std.proofs.Common.{◌≡◌, ◌⊎◌, ◌∙◌, ℕ, ◌≤◌, List, ◌++◌, length, Option, Some, None, inl, inr, refl, sym, ap, subst, arith, length-append, Ok}
use Rattle.std.proofs.lemmas.List.{append-nil}
use Rattle.std.specs.Io.KnownBytes.{Consumes, IsAtEnd}
use Rattle.std.specs.Prelude.{◌≢◌, codes}
use Rattle.k_types.specs.Bounds.{most_check_bytes}
use Rattle.k_words.specs.Words.{Text}
use Rattle.k_trace.specs.Named.{NamedTrace}
use Rattle.k_trace.specs.Rules.{IsTrace, Spells}
use Rattle.k_reader.proofs.Exact.{apart, one}
use Rattle.k_history.specs.Good.{IsGoodReport, IsRefusedAt}
use Rattle.k_reports.proofs.Proper.{proper}
use Rattle.k_state.specs.Setups.{setup_of}
use Rattle.k_check.proofs.Lines.{setup_rules}
use Rattle.k_check.proofs.Splits.{one_split}
use Rattle.k_audit.specs.Verdicts.{IsVerdict}
use Rattle.k_audit.specs.declared.verdicts.Verdict.{Verdict}
use Rattle.k_audit.specs.declared.verdicts.Verdict.TheVariants.{Sound}
use Rattle.k_audit.proofs.Plainly.{IsHeader}
use Rattle.k_audit.proofs.VerdictLaws.{one_verdict}
use Rattle.k_spawn.specs.Judgement.{judgement}
use Rattle.k_spawn.specs.Scripts.{Script}
use Rattle.k_spawn.proofs.Judging.{script_few, script_not_bad}
use Rattle.k_answers.specs.declared.commands.Command.{Command}
use Rattle.k_answers.specs.declared.commands.Command.TheVariants.{Run, Replay, Check, Big, Watch, Work, Snap, Audit, Tree}
use Rattle.k_status.specs.declared.status.Status.{Status}
use Rattle.k_status.specs.declared.status.Status.TheVariants.{Good, BadTrace, Usage, WantOfMemory, ReadFault, WriteFault, Refused}
use Rattle.k_answers.specs.Answers.{IsAccomplished, IsAudited, IsBadInput, IsChecked, IsDone, IsFaulted, IsFoundWrong, IsRefusedReport, IsSampled, IsSnapped, IsSummed, IsTranslated, IsWorked}
use Rattle.k_status.specs.Readings.{WasRead}
use Rattle.k_answers.specs.Commands.{command_of, IsNoCommand, ReadsSource, ReadsTrace, RunsTrace}
use Rattle.k_status.specs.Ends.{Input, SourceFailed}
use Rattle.k_answers.specs.Inputs.{most_bytes, AreParts, AreTraceAnd, AreTraceAndReport, AreTraceAndSnapshot, IsBadFor, IsBadPart}
use Rattle.k_answers.specs.Parts.{Means}

-- ---- words

-- The words are one command.
one_command : (words : List Text) (command other : Command) → command_of words ≡ Some command → command_of words ≡ Some other → other ≡ command
one_command words command other said also = let both : Some other ≡ Some command = sym also ∙ said in cc

-- Words that are a command are not none.
is_command : (words : List Text) (command : Command) → command_of words ≡ Some command → IsNoCommand words → ⊥
is_command words command said none = let clash : (let c : Option Command = None in c) ≡ Some command = sym none ∙ said in absurd cc

-- A command that runs a trace and writes its report alone reads a trace alone.
runs_read : (command : Command) → RunsTrace command → ReadsTrace command
runs_read Run runs = tt
runs_read Replay runs = tt
runs_read Check runs = absurd runs
runs_read (Big objects) runs = absurd runs
runs_read (Watch count) runs = absurd runs
runs_read Work runs = absurd runs
runs_read Snap runs = absurd runs
runs_read Audit runs = absurd runs
runs_read Tree runs = absurd runs

-- A command that reads a trace alone is none that does not.
runs_not : (words : List Text) (command other : Command) → command_of words ≡ Some command → ReadsTrace command → command_of words ≡ Some other → ¬ ReadsTrace other → ⊥
runs_not words command other said runs also more = more (subst ReadsTrace (one_command words other command also said) runs)

-- The command that checks is not the one that audits.
check_not_audit : (words : List Text) → command_of words ≡ Some Check → command_of words ≡ Some Audit → ⊥
check_not_audit words check audit = let clash : Check ≡ Audit = one_command words Audit Check audit check in absurd cc

-- Nor is either the one of scripts.
check_not_tree : (words : List Text) → command_of words ≡ Some Check → command_of words ≡ Some Tree → ⊥
check_not_tree words check tree = let clash : Check ≡ Tree = one_command words Tree Check tree check in absurd cc

audit_not_tree : (words : List Text) → command_of words ≡ Some Audit → command_of words ≡ Some Tree → ⊥
audit_not_tree words audit tree = let clash : Audit ≡ Tree = one_command words Tree Audit tree audit in absurd cc

-- The command of the workload runs no trace that is read, and does not check.
big_not : (words : List Text) (command : Command) (objects : ℕ) → command_of words ≡ Some command → ReadsSource command → command_of words ≡ Some (Big objects) → ⊥
big_not words command objects said reads big = subst ReadsSource (one_command words (Big objects) command big said) reads

-- A command whose input is bad reads the source.
reads_bad : (command : Command) (bytes : Text) (line reason : ℕ) → IsBadFor command bytes line reason → ReadsSource command
reads_bad Run bytes line reason bad = tt
reads_bad Replay bytes line reason bad = tt
reads_bad Check bytes line reason bad = tt
reads_bad (Big objects) bytes line reason bad = absurd bad
reads_bad (Watch count) bytes line reason bad = tt
reads_bad Work bytes line reason bad = tt
reads_bad Snap bytes line reason bad = tt
reads_bad Audit bytes line reason bad = tt
reads_bad Tree bytes line reason bad = tt

-- ---- bytes

-- A source that told its bytes was read to the last of them, if it is at its end.
read_whole : (bytes given : Text) (rest : Option Text) → Consumes (Some bytes) rest given → IsAtEnd rest → bytes ≡ given
read_whole bytes given None c e = absurd c
read_whole bytes given (Some left) c e = c ∙ ap (λ (t : Text). given ++ t) e ∙ append-nil given

-- What was read is no longer than what was there.
read_few : (bytes given : Text) (rest : Option Text) (n : ℕ) → Consumes (Some bytes) rest given → length bytes ≤ n → length given ≤ n
read_few bytes given None n c few = absurd c
read_few bytes given (Some left) n c few = omega (arith, ap length c, length-append given left, few)

-- Few bytes, which the source told, are those that were read.
same_bytes : (limit : ℕ) (bytes given : Text) (input : Input) → input.left ≡ Some bytes → WasRead limit input given → length given ≤ limit → bytes ≡ given
same_bytes limit bytes given input known read few =
    read_whole bytes given input.rest (subst (λ (l : Option Text). Consumes l input.rest given) known read.given) (read.ended few)

-- The same of bytes that are known to be few themselves.
same_few : (limit : ℕ) (bytes given : Text) (input : Input) → input.left ≡ Some bytes → WasRead limit input given → length bytes ≤ limit → bytes ≡ given
same_few limit bytes given input known read few =
    same_bytes limit bytes given input known read (read_few bytes given input.rest limit (subst (λ (l : Option Text). Consumes l input.rest given) known read.given) few)

-- Bytes that spell a trace are few enough for a command that reads a trace alone.
few_for : (command : Command) (bytes : Text) (t : NamedTrace) → ReadsTrace command → Spells bytes t → length bytes ≤ most_bytes command
few_for Run bytes t runs spells = spells.few
few_for Replay bytes t runs spells = spells.few
few_for Check bytes t runs spells = absurd runs
few_for (Big objects) bytes t runs spells = absurd runs
few_for (Watch count) bytes t runs spells = spells.few
few_for Work bytes t runs spells = spells.few
few_for Snap bytes t runs spells = spells.few
few_for Audit bytes t runs spells = absurd runs
few_for Tree bytes t runs spells = absurd runs

-- ---- what is a trace is no bad input

spelled_not_bad : (command : Command) (bytes : Text) (t : NamedTrace) (line reason : ℕ) → ReadsTrace command → Spells bytes t → IsBadFor command bytes line reason → ⊥
spelled_not_bad Run bytes t line reason runs spells bad = apart bytes t line reason spells bad
spelled_not_bad Replay bytes t line reason runs spells bad = apart bytes t line reason spells bad
spelled_not_bad Check bytes t line reason runs spells bad = absurd runs
spelled_not_bad (Big objects) bytes t line reason runs spells bad = absurd runs
spelled_not_bad (Watch count) bytes t line reason runs spells bad = apart bytes t line reason spells bad
spelled_not_bad Work bytes t line reason runs spells bad = apart bytes t line reason spells bad
spelled_not_bad Snap bytes t line reason runs spells bad = apart bytes t line reason spells bad
spelled_not_bad Audit bytes t line reason runs spells bad = absurd runs
spelled_not_bad Tree bytes t line reason runs spells bad = absurd runs

-- The bytes have one trace part, and one part behind it.
same_front : (opening bytes front behind other rest : Text) → AreParts opening bytes front behind → AreParts opening bytes other rest → (front ≡ other) × (behind ≡ rest)
same_front opening bytes front behind other rest parts more = one_split opening bytes front behind other rest parts.split more.split

parts_not_bad : (opening bytes : Text) (t : NamedTrace) (behind : Text) (line reason : ℕ) → AreTraceAnd opening bytes t behind → IsBadPart opening bytes line reason → ⊥
parts_not_bad opening bytes t behind line reason parts (inl many) = absurd (omega (arith, parts.parts.few, many.many))
parts_not_bad opening bytes t behind line reason parts (inr bad) =
    let same = same_front opening bytes parts.front behind bad.front bad.behind parts.parts bad.parts in
    apart bad.front t line reason (subst (λ (front : Text). Spells front t) same.0 parts.spelled) bad.bad

-- They spell one trace.
same_parts : (opening bytes : Text) (t u : NamedTrace) (behind rest : Text) → AreTraceAnd opening bytes t behind → AreTraceAnd opening bytes u rest → (t ≡ u) × (behind ≡ rest)
same_parts opening bytes t u behind rest parts more =
    let same = same_front opening bytes parts.front behind more.front rest parts.parts more.parts in
    (one more.front t u (subst (λ (front : Text). Spells front t) same.0 parts.spelled) more.spelled, same.1)

-- ---- each status

-- What is shown of each command that was done.
by_command : (wanted : Type 0) (words : List Text) (input : Input) (text : Text)
    → (IsDone words input text → wanted) → (IsChecked words input text → wanted) → (IsSummed words text → wanted) → (IsSampled words input text → wanted)
    → (IsWorked words input text → wanted) → (IsSnapped words input text → wanted) → (IsAudited words input Sound text → wanted)
    → (IsTranslated words input text → wanted) → IsAccomplished words input text → wanted
by_command wanted words input text done checked summed sampled worked snapped audited translated (inl h) = done h
by_command wanted words input text done checked summed sampled worked snapped audited translated (inr (inl h)) = checked h
by_command wanted words input text done checked summed sampled worked snapped audited translated (inr (inr (inl h))) = summed h
by_command wanted words input text done checked summed sampled worked snapped audited translated (inr (inr (inr (inl h)))) = sampled h
by_command wanted words input text done checked summed sampled worked snapped audited translated (inr (inr (inr (inr (inl h))))) = worked h
by_command wanted words input text done checked summed sampled worked snapped audited translated (inr (inr (inr (inr (inr (inl h)))))) = snapped h
by_command wanted words input text done checked summed sampled worked snapped audited translated (inr (inr (inr (inr (inr (inr (inl h))))))) = audited h
by_command wanted words input text done checked summed sampled worked snapped audited translated (inr (inr (inr (inr (inr (inr (inr h))))))) = translated h

-- The command of a text that was found wrong is one of two.
by_wrong : (wanted : Type 0) (words : List Text) (input : Input) (text : Text) → (IsRefusedReport words input text → wanted) → (IsFaulted words input text → wanted) → IsFoundWrong words input text → wanted
by_wrong wanted words input text refused faulted (inl h) = refused h
by_wrong wanted words input text refused faulted (inr h) = faulted h

-- What is shown of a status from what it means, where the words are a command and the source did not fail.
by_status : (wanted : Status → Type 0) (words : List Text) (input : Input) (command : Command) → command_of words ≡ Some command → ¬ SourceFailed input → wanted WantOfMemory
    → ((text : Text) → IsAccomplished words input text → wanted Good) → ((text : Text) → IsFoundWrong words input text → wanted Refused)
    → ((text : Text) → IsBadInput words input text → wanted BadTrace)
    → (status : Status) (text : Text) → Means words input status text → wanted status
by_status wanted words input command said steady memory good wrong bad Good text h = good text h
by_status wanted words input command said steady memory good wrong bad Refused text h = wrong text h
by_status wanted words input command said steady memory good wrong bad BadTrace text h = bad text h
by_status wanted words input command said steady memory good wrong bad WantOfMemory text h = memory
by_status wanted words input command said steady memory good wrong bad ReadFault text h = absurd (steady h.1)
by_status wanted words input command said steady memory good wrong bad Usage text h = absurd (is_command words command said h.no_command)
by_status wanted words input command said steady memory good wrong bad WriteFault text h = absurd h

-- The words of a command that was done are a command.
said_done : (words : List Text) (input : Input) (text : Text) → IsNoCommand words → IsAccomplished words input text → ⊥
said_done words input text none =
    by_command ⊥ words input text
    (λ h. is_command words h.command h.said none)
    (λ h. is_command words Check h.said none)
    (λ h. is_command words (Big h.objects) h.said none)
    (λ h. is_command words (Watch h.count) h.said none)
    (λ h. is_command words Work h.said none)
    (λ h. is_command words Snap h.said none)
    (λ h. is_command words Audit h.said none)
    (λ h. is_command words Tree h.said none)

said_wrong : (words : List Text) (input : Input) (text : Text) → IsNoCommand words → IsFoundWrong words input text → ⊥
said_wrong words input text none =
    by_wrong ⊥ words input text (λ h. is_command words Check h.said none) (λ h. is_command words Audit h.audited.said none)

pub of_no_command : (words : List Text) (input : Input) → IsNoCommand words → (status : Status) (text : Text) → Means words input status text → status ≡ Usage
of_no_command words input none Usage text h = refl
of_no_command words input none Good text h = absurd (said_done words input text none h)
of_no_command words input none Refused text h = absurd (said_wrong words input text none h)
of_no_command words input none BadTrace text h = absurd (is_command words h.command h.said none)
of_no_command words input none WantOfMemory text h = absurd (is_command words h.0.0 h.0.1 none)
of_no_command words input none ReadFault text h = absurd (is_command words h.0.0 h.0.1 none)
of_no_command words input none WriteFault text h = absurd h

-- ---- a trace alone

trace_not_bad : (words : List Text) (input : Input) (command : Command) (bytes : Text) (t : NamedTrace) (text : Text) → command_of words ≡ Some command → ReadsTrace command → input.left ≡ Some bytes → Spells bytes t
    → IsBadInput words input text → ⊥
trace_not_bad words input command bytes t text said runs known spells h =
    let read = subst (λ (c : Command). WasRead (most_bytes c) input h.bytes) (one_command words command h.command said h.said) h.read in
    let same = same_few (most_bytes command) bytes h.bytes input known read (few_for command bytes t runs spells) in
    spelled_not_bad command h.bytes t h.line h.reason runs (subst (λ (b : Text). Spells b t) same spells)
    (subst (λ (c : Command). IsBadFor c h.bytes h.line h.reason) (one_command words command h.command said h.said) h.bad)

trace_not_wrong : (words : List Text) (input : Input) (command : Command) (text : Text) → command_of words ≡ Some command → ReadsTrace command → IsFoundWrong words input text → ⊥
trace_not_wrong words input command text said runs =
    by_wrong ⊥ words input text
    (λ h. runs_not words command Check said runs h.said (λ none. none))
    (λ h. runs_not words command Audit said runs h.audited.said (λ none. none))

pub of_trace : (words : List Text) (input : Input) (command : Command) (bytes : Text) (t : NamedTrace) → command_of words ≡ Some command → ReadsTrace command → input.left ≡ Some bytes → Spells bytes t → ¬ SourceFailed input
    → (status : Status) (text : Text) → Means words input status text → (status ≡ Good) ⊎ (status ≡ WantOfMemory)
of_trace words input command bytes t said runs known spells steady =
    by_status (λ (s : Status). (s ≡ Good) ⊎ (s ≡ WantOfMemory)) words input command said steady (inr refl)
    (λ text h. inl refl)
    (λ text h. absurd (trace_not_wrong words input command text said runs h))
    (λ text h. absurd (trace_not_bad words input command bytes t text said runs known spells h))

-- ---- a script

script_no_bad_input : (words : List Text) (input : Input) (bytes : Text) (s : Script) (text : Text) → command_of words ≡ Some Tree → input.left ≡ Some bytes → judgement bytes ≡ Ok s → IsBadInput words input text → ⊥
script_no_bad_input words input bytes s text said known judged h =
    let read = subst (λ (c : Command). WasRead (most_bytes c) input h.bytes) (one_command words Tree h.command said h.said) h.read in
    let same = same_few (most_bytes Tree) bytes h.bytes input known read (script_few bytes s judged) in
    script_not_bad h.bytes s h.line h.reason (subst (λ (b : Text). judgement b ≡ Ok s) same judged)
    (subst (λ (c : Command). IsBadFor c h.bytes h.line h.reason) (one_command words Tree h.command said h.said) h.bad)

script_not_wrong : (words : List Text) (input : Input) (text : Text) → command_of words ≡ Some Tree → IsFoundWrong words input text → ⊥
script_not_wrong words input text said =
    by_wrong ⊥ words input text (λ h. check_not_tree words h.said said) (λ h. audit_not_tree words h.audited.said said)

pub of_script : (words : List Text) (input : Input) (bytes : Text) (s : Script) → command_of words ≡ Some Tree → input.left ≡ Some bytes → judgement bytes ≡ Ok s → ¬ SourceFailed input
    → (status : Status) (text : Text) → Means words input status text → (status ≡ Good) ⊎ (status ≡ WantOfMemory)
of_script words input bytes s said known judged steady =
    by_status (λ (s : Status). (s ≡ Good) ⊎ (s ≡ WantOfMemory)) words input Tree said steady (inr refl)
    (λ text h. inl refl)
    (λ text h. absurd (script_not_wrong words input text said h))
    (λ text h. absurd (script_no_bad_input words input bytes s text said known judged h))

-- ---- a trace and what stands behind it

-- What was read is what the source told.
read_same : (opening bytes given : Text) (t : NamedTrace) (behind : Text) (input : Input) → input.left ≡ Some bytes → WasRead most_check_bytes input given → AreTraceAnd opening bytes t behind
    → AreTraceAnd opening given t behind
read_same opening bytes given t behind input known read parts =
    subst (λ (b : Text). AreTraceAnd opening b t behind) (same_few most_check_bytes bytes given input known read parts.parts.few) parts

-- Such bytes are no bad input of a command that reads both.
parts_not_bad_for : (words : List Text) (input : Input) (command : Command) (opening bytes : Text) (t : NamedTrace) (behind text : Text) → command_of words ≡ Some command → input.left ≡ Some bytes
    → AreTraceAnd opening bytes t behind → most_bytes command ≡ most_check_bytes → ((given : Text) (line reason : ℕ) → IsBadFor command given line reason → IsBadPart opening given line reason)
    → IsBadInput words input text → ⊥
parts_not_bad_for words input command opening bytes t behind text said known parts most part h =
    let same = one_command words command h.command said h.said in
    let read = subst (λ (n : ℕ). WasRead n input h.bytes) most (subst (λ (c : Command). WasRead (most_bytes c) input h.bytes) same h.read) in
    parts_not_bad opening h.bytes t behind h.line h.reason (read_same opening bytes h.bytes t behind input known read parts)
    (part h.bytes h.line h.reason (subst (λ (c : Command). IsBadFor c h.bytes h.line h.reason) same h.bad))

-- ---- a trace and a report

report_not_bad : (words : List Text) (input : Input) (bytes : Text) (t : NamedTrace) (report text : Text) → command_of words ≡ Some Check → input.left ≡ Some bytes → AreTraceAndReport bytes t report
    → IsBadInput words input text → ⊥
report_not_bad words input bytes t report text said known parts =
    parts_not_bad_for words input Check (codes "report 1") bytes t report text said known parts refl (λ given line reason bad. bad)

good_not_refused : (words : List Text) (input : Input) (bytes : Text) (t : NamedTrace) (report text : Text) → input.left ≡ Some bytes → AreTraceAndReport bytes t report → IsGoodReport t report
    → IsRefusedReport words input text → ⊥
good_not_refused words input bytes t report text known parts good h =
    let same = same_parts (codes "report 1") h.bytes t h.trace report h.report (read_same (codes "report 1") bytes h.bytes t report input known h.read parts) h.parts in
    h.refused.not_good (subst (IsGoodReport h.trace) same.1 (subst (λ (u : NamedTrace). IsGoodReport u report) same.0 good))

good_not_wrong : (words : List Text) (input : Input) (bytes : Text) (t : NamedTrace) (report text : Text) → command_of words ≡ Some Check → input.left ≡ Some bytes → AreTraceAndReport bytes t report → IsGoodReport t report
    → IsFoundWrong words input text → ⊥
good_not_wrong words input bytes t report text said known parts good =
    by_wrong ⊥ words input text (λ h. good_not_refused words input bytes t report text known parts good h) (λ h. check_not_audit words said h.audited.said)

pub of_good_report : (words : List Text) (input : Input) (bytes : Text) (t : NamedTrace) (report : Text) → command_of words ≡ Some Check → input.left ≡ Some bytes → AreTraceAndReport bytes t report → IsGoodReport t report
    → ¬ SourceFailed input → (status : Status) (text : Text) → Means words input status text → (status ≡ Good) ⊎ (status ≡ WantOfMemory)
of_good_report words input bytes t report said known parts good steady =
    by_status (λ (s : Status). (s ≡ Good) ⊎ (s ≡ WantOfMemory)) words input Check said steady (inr refl)
    (λ text h. inl refl)
    (λ text h. absurd (good_not_wrong words input bytes t report text said known parts good h))
    (λ text h. absurd (report_not_bad words input bytes t report text said known parts h))

refused_not_good : (words : List Text) (input : Input) (bytes : Text) (t : NamedTrace) (report text : Text) (n : ℕ) → input.left ≡ Some bytes → AreTraceAndReport bytes t report → IsRefusedAt t report n
    → IsChecked words input text → ⊥
refused_not_good words input bytes t report text n known parts refused h =
    let same = same_parts (codes "report 1") h.bytes t h.trace report h.report (read_same (codes "report 1") bytes h.bytes t report input known h.read parts) h.parts in
    h.nowhere_refused n (subst (λ (r : Text). IsRefusedAt h.trace r n) same.1 (subst (λ (u : NamedTrace). IsRefusedAt u report n) same.0 refused))

refused_not_done : (words : List Text) (input : Input) (bytes : Text) (t : NamedTrace) (report text : Text) (n : ℕ) → command_of words ≡ Some Check → input.left ≡ Some bytes → AreTraceAndReport bytes t report → IsRefusedAt t report n
    → IsAccomplished words input text → ⊥
refused_not_done words input bytes t report text n said known parts refused =
    by_command ⊥ words input text
    (λ h. runs_not words h.command Check h.said (runs_read h.command h.runs) said (λ none. none))
    (λ h. refused_not_good words input bytes t report text n known parts refused h)
    (λ h. big_not words Check h.objects said tt h.said)
    (λ h. runs_not words (Watch h.count) Check h.said tt said (λ none. none))
    (λ h. runs_not words Work Check h.said tt said (λ none. none))
    (λ h. runs_not words Snap Check h.said tt said (λ none. none))
    (λ h. check_not_audit words said h.said)
    (λ h. check_not_tree words said h.said)

pub of_wrong_report : (words : List Text) (input : Input) (bytes : Text) (t : NamedTrace) (report : Text) (n : ℕ) → command_of words ≡ Some Check → input.left ≡ Some bytes → AreTraceAndReport bytes t report
    → IsRefusedAt t report n → ¬ SourceFailed input → (status : Status) (text : Text) → Means words input status text → (status ≡ Refused) ⊎ (status ≡ WantOfMemory)
of_wrong_report words input bytes t report n said known parts refused steady =
    by_status (λ (s : Status). (s ≡ Refused) ⊎ (s ≡ WantOfMemory)) words input Check said steady (inr refl)
    (λ text h. absurd (refused_not_done words input bytes t report text n said known parts refused h))
    (λ text h. inl refl)
    (λ text h. absurd (report_not_bad words input bytes t report text said known parts h))

-- ---- a trace and a snapshot

snapshot_not_bad : (words : List Text) (input : Input) (bytes : Text) (t : NamedTrace) (snapshot text : Text) → command_of words ≡ Some Audit → input.left ≡ Some bytes → AreTraceAndSnapshot bytes t snapshot
    → IsBadInput words input text → ⊥
snapshot_not_bad words input bytes t snapshot text said known parts =
    parts_not_bad_for words input Audit (codes "snapshot 1") bytes t snapshot text said known parts refl (λ given line reason bad. bad)

-- The setup of a trace keeps the rules, and what it declares has names that can be told apart.
pub header_of : (t : NamedTrace) → IsTrace t → IsHeader t.names (setup_of t.trace)
header_of t is = record {
  rules = setup_rules t.trace is.rules;
  named = record { types = is.types_named; limits = is.limits_named; procs = is.procs_named; shared = is.shared_named };
  proper = proper t is;
}

-- The verdict that was told is the one that the snapshot deserves.
same_verdict : (words : List Text) (input : Input) (bytes : Text) (t : NamedTrace) (snapshot : Text) (due told : Verdict) (text : Text) → input.left ≡ Some bytes → AreTraceAndSnapshot bytes t snapshot
    → IsVerdict t.names (setup_of t.trace) snapshot due → IsAudited words input told text → told ≡ due
same_verdict words input bytes t snapshot due told text known parts deserved h =
    let same = same_parts (codes "snapshot 1") h.bytes t h.trace snapshot h.snapshot (read_same (codes "snapshot 1") bytes h.bytes t snapshot input known h.read parts) h.parts in
    one_verdict h.trace.names (setup_of h.trace.trace) (header_of h.trace h.parts.spelled.is_trace) h.snapshot told due h.deserved
    (subst (λ (s : Text). IsVerdict h.trace.names (setup_of h.trace.trace) s due) same.1 (subst (λ (u : NamedTrace). IsVerdict u.names (setup_of u.trace) snapshot due) same.0 deserved))

sound_not_wrong : (words : List Text) (input : Input) (bytes : Text) (t : NamedTrace) (snapshot text : Text) → command_of words ≡ Some Audit → input.left ≡ Some bytes → AreTraceAndSnapshot bytes t snapshot
    → IsVerdict t.names (setup_of t.trace) snapshot Sound → IsFoundWrong words input text → ⊥
sound_not_wrong words input bytes t snapshot text said known parts sound =
    by_wrong ⊥ words input text
    (λ h. check_not_audit words h.said said)
    (λ h. h.not_sound (same_verdict words input bytes t snapshot Sound h.verdict text known parts sound h.audited))

pub of_sound_snapshot : (words : List Text) (input : Input) (bytes : Text) (t : NamedTrace) (snapshot : Text) → command_of words ≡ Some Audit → input.left ≡ Some bytes → AreTraceAndSnapshot bytes t snapshot
    → IsVerdict t.names (setup_of t.trace) snapshot Sound → ¬ SourceFailed input → (status : Status) (text : Text) → Means words input status text → (status ≡ Good) ⊎ (status ≡ WantOfMemory)
of_sound_snapshot words input bytes t snapshot said known parts sound steady =
    by_status (λ (s : Status). (s ≡ Good) ⊎ (s ≡ WantOfMemory)) words input Audit said steady (inr refl)
    (λ text h. inl refl)
    (λ text h. absurd (sound_not_wrong words input bytes t snapshot text said known parts sound h))
    (λ text h. absurd (snapshot_not_bad words input bytes t snapshot text said known parts h))

faulty_not_done : (words : List Text) (input : Input) (bytes : Text) (t : NamedTrace) (snapshot : Text) (verdict : Verdict) (text : Text) → command_of words ≡ Some Audit → input.left ≡ Some bytes → AreTraceAndSnapshot bytes t snapshot
    → IsVerdict t.names (setup_of t.trace) snapshot verdict → verdict ≢ Sound → IsAccomplished words input text → ⊥
faulty_not_done words input bytes t snapshot verdict text said known parts deserved other =
    by_command ⊥ words input text
    (λ h. runs_not words h.command Audit h.said (runs_read h.command h.runs) said (λ none. none))
    (λ h. check_not_audit words h.said said)
    (λ h. big_not words Audit h.objects said tt h.said)
    (λ h. runs_not words (Watch h.count) Audit h.said tt said (λ none. none))
    (λ h. runs_not words Work Audit h.said tt said (λ none. none))
    (λ h. runs_not words Snap Audit h.said tt said (λ none. none))
    (λ h. other (sym (same_verdict words input bytes t snapshot verdict Sound text known parts deserved h)))
    (λ h. audit_not_tree words said h.said)

pub of_faulty_snapshot : (words : List Text) (input : Input) (bytes : Text) (t : NamedTrace) (snapshot : Text) (verdict : Verdict) → command_of words ≡ Some Audit → input.left ≡ Some bytes → AreTraceAndSnapshot bytes t snapshot
    → IsVerdict t.names (setup_of t.trace) snapshot verdict → verdict ≢ Sound → ¬ SourceFailed input → (status : Status) (text : Text) → Means words input status text → (status ≡ Refused) ⊎ (status ≡ WantOfMemory)
of_faulty_snapshot words input bytes t snapshot verdict said known parts deserved other steady =
    by_status (λ (s : Status). (s ≡ Refused) ⊎ (s ≡ WantOfMemory)) words input Audit said steady (inr refl)
    (λ text h. absurd (faulty_not_done words input bytes t snapshot verdict text said known parts deserved other h))
    (λ text h. inl refl)
    (λ text h. absurd (snapshot_not_bad words input bytes t snapshot text said known parts h))

-- ---- bad input

bad_not_spelled : (words : List Text) (input : Input) (command other : Command) (bytes given : Text) (line reason : ℕ) (t : NamedTrace) → command_of words ≡ Some command → input.left ≡ Some bytes → IsBadFor command bytes line reason
    → command_of words ≡ Some other → ReadsTrace other → WasRead (most_bytes other) input given → Spells given t → ⊥
bad_not_spelled words input command other bytes given line reason t said known bad also runs read spelled =
    let same = same_bytes (most_bytes other) bytes given input known read (few_for other given t runs spelled) in
    spelled_not_bad other given t line reason runs spelled
    (subst (λ (b : Text). IsBadFor other b line reason) same (subst (λ (c : Command). IsBadFor c bytes line reason) (one_command words other command also said) bad))

bad_not_parts : (words : List Text) (input : Input) (command other : Command) (opening bytes given : Text) (line reason : ℕ) (t : NamedTrace) (behind : Text) → command_of words ≡ Some command → input.left ≡ Some bytes
    → IsBadFor command bytes line reason → command_of words ≡ Some other → ((b : Text) → IsBadFor other b line reason → IsBadPart opening b line reason)
    → WasRead most_check_bytes input given → AreTraceAnd opening given t behind → ⊥
bad_not_parts words input command other opening bytes given line reason t behind said known bad also part read parts =
    let same = same_bytes most_check_bytes bytes given input known read parts.parts.few in
    parts_not_bad opening given t behind line reason parts
    (part given (subst (λ (b : Text). IsBadFor other b line reason) same (subst (λ (c : Command). IsBadFor c bytes line reason) (one_command words other command also said) bad)))

bad_no_script : (words : List Text) (input : Input) (command : Command) (bytes given : Text) (line reason : ℕ) (s : Script) → command_of words ≡ Some command → input.left ≡ Some bytes → IsBadFor command bytes line reason
    → command_of words ≡ Some Tree → WasRead (most_bytes Tree) input given → judgement given ≡ Ok s → ⊥
bad_no_script words input command bytes given line reason s said known bad tree read judged =
    let same = same_bytes (most_bytes Tree) bytes given input known read (script_few given s judged) in
    script_not_bad given s line reason judged
    (subst (λ (b : Text). IsBadFor Tree b line reason) same (subst (λ (c : Command). IsBadFor c bytes line reason) (one_command words Tree command tree said) bad))

module _ (words : List Text) (input : Input) (command : Command) (bytes : Text) (line reason : ℕ) (said : command_of words ≡ Some command) (known : input.left ≡ Some bytes) (bad : IsBadFor command bytes line reason) where
  not_report : (given : Text) (t : NamedTrace) (report : Text) → command_of words ≡ Some Check → WasRead most_check_bytes input given → AreTraceAndReport given t report → ⊥
  not_report given t report check = bad_not_parts words input command Check (codes "report 1") bytes given line reason t report said known bad check (λ b h. h)

  not_snapshot : (given : Text) (t : NamedTrace) (snapshot : Text) → command_of words ≡ Some Audit → WasRead most_check_bytes input given → AreTraceAndSnapshot given t snapshot → ⊥
  not_snapshot given t snapshot audit = bad_not_parts words input command Audit (codes "snapshot 1") bytes given line reason t snapshot said known bad audit (λ b h. h)

  not_done : (text : Text) → IsAccomplished words input text → ⊥
  not_done text =
      by_command ⊥ words input text
      (λ h. bad_not_spelled words input command h.command bytes h.bytes line reason h.trace said known bad h.said (runs_read h.command h.runs) h.read h.spelled)
      (λ h. not_report h.bytes h.trace h.report h.said h.read h.parts)
      (λ h. big_not words command h.objects said (reads_bad command bytes line reason bad) h.said)
      (λ h. bad_not_spelled words input command (Watch h.count) bytes h.bytes line reason h.trace said known bad h.said tt h.read h.spelled)
      (λ h. bad_not_spelled words input command Work bytes h.bytes line reason h.trace said known bad h.said tt h.read h.spelled)
      (λ h. bad_not_spelled words input command Snap bytes h.bytes line reason h.trace said known bad h.said tt h.read h.spelled)
      (λ h. not_snapshot h.bytes h.trace h.snapshot h.said h.read h.parts)
      (λ h. bad_no_script words input command bytes h.bytes line reason h.script said known bad h.said h.read h.judged)

  not_wrong : (text : Text) → IsFoundWrong words input text → ⊥
  not_wrong text =
      by_wrong ⊥ words input text
      (λ h. not_report h.bytes h.trace h.report h.said h.read h.parts)
      (λ h. not_snapshot h.audited.bytes h.audited.trace h.audited.snapshot h.audited.said h.audited.read h.audited.parts)

pub of_bad_input : (words : List Text) (input : Input) (command : Command) (bytes : Text) (line reason : ℕ) → command_of words ≡ Some command → input.left ≡ Some bytes → IsBadFor command bytes line reason → ¬ SourceFailed input
    → (status : Status) (text : Text) → Means words input status text → (status ≡ BadTrace) ⊎ (status ≡ WantOfMemory)
of_bad_input words input command bytes line reason said known bad steady =
    by_status (λ (s : Status). (s ≡ BadTrace) ⊎ (s ≡ WantOfMemory)) words input command said steady (inr refl)
    (λ text h. absurd (not_done words input command bytes line reason said known bad text h))
    (λ text h. absurd (not_wrong words input command bytes line reason said known bad text h))
    (λ text h. inl refl)

-- ---- the workload

-- What is read of a bad input is not that of the workload, which has none.
big_not_bad : (words : List Text) (input : Input) (objects : ℕ) (text : Text) → command_of words ≡ Some (Big objects) → IsBadInput words input text → ⊥
big_not_bad words input objects text said h = big_not words h.command objects h.said (reads_bad h.command h.bytes h.line h.reason h.bad) said

big_not_wrong : (words : List Text) (input : Input) (objects : ℕ) (text : Text) → command_of words ≡ Some (Big objects) → IsFoundWrong words input text → ⊥
big_not_wrong words input objects text said =
    by_wrong ⊥ words input text (λ h. big_not words Check objects h.said tt said) (λ h. big_not words Audit objects h.audited.said tt said)

pub of_big : (words : List Text) (input : Input) (objects : ℕ) → command_of words ≡ Some (Big objects) → (status : Status) (text : Text) → Means words input status text → (status ≡ Good) ⊎ (status ≡ WantOfMemory)
of_big words input objects said Good text h = inl refl
of_big words input objects said WantOfMemory text h = inr refl
of_big words input objects said Refused text h = absurd (big_not_wrong words input objects text said h)
of_big words input objects said BadTrace text h = absurd (big_not_bad words input objects text said h)
of_big words input objects said ReadFault text h = absurd (big_not words h.0.0 objects h.0.1 h.0.2 said)
of_big words input objects said Usage text h = absurd (is_command words (Big objects) said h.no_command)
of_big words input objects said WriteFault text h = absurd h
