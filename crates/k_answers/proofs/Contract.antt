-- The contract of the top call, from what the status whose text was written means.
use Rattle.std.proofs.Common.{◌≡◌, ◌⊎◌, ◌∙◌, List, [], inl, inr, sym, subst}
use Rattle.std.specs.Prelude.{◌≢◌}
use Rattle.k_words.specs.Words.{Text}
use Rattle.k_status.specs.declared.status.Status.{Status}
use Rattle.k_status.specs.declared.status.Status.TheVariants.{Good, BadTrace, Usage, WantOfMemory, ReadFault, WriteFault, Refused}
use Rattle.k_answers.specs.Answers.{IsDecided, IsDue, IsAnswered}
use Rattle.k_status.specs.Telling.{IsUnwritten, Answers, IsWritten}
use Rattle.k_status.specs.Ends.{Input, Output, SinkFailed, Took, TookFront, TookNothing}
use Rattle.k_answers.specs.Parts.{Means}
use Rattle.k_answers.proofs.Decided.{of_no_command, of_trace, of_script, of_big, of_good_report, of_wrong_report, of_sound_snapshot, of_faulty_snapshot, of_bad_input}

-- ---- the answer and the status whose text was written

-- Where the answer is not that of a fault of the sink, it is that status, and its text was taken.
took_as : (output : Output) (status answer : Status) (text : Text) → IsWritten output status text answer → answer ≢ WriteFault → (answer ≡ status) × Took output text
took_as output status answer text (inl w) other = (w.0, w.1)
took_as output status answer text (inr w) other = absurd (other w.0)

-- Without a fault of the sink the answer is that status.
settled : (output : Output) (status answer : Status) (text : Text) → IsWritten output status text answer → ¬ SinkFailed output → answer ≡ status
settled output status answer text (inl w) steady = w.0
settled output status answer text (inr w) steady = absurd (steady w.2.failed)

-- What the answer means, where it is this one.
meant_as : (words : List Text) (input : Input) (output : Output) (status answer : Status) (text : Text) → Means words input status text → IsWritten output status text answer
    → (this : Status) → this ≢ WriteFault → answer ≡ this → Means words input this text × Took output text
meant_as words input output status answer text told written this other e =
    let w = took_as output status answer text written (λ (f : answer ≡ WriteFault). other (sym e ∙ f)) in
    (subst (λ (s : Status). Means words input s text) (sym w.0 ∙ e) told, w.1)

-- A text that a status means to be written is due.
due_of : (words : List Text) (input : Input) (status : Status) (text : Text) → Means words input status text → ¬ IsUnwritten status → IsDue words input text
due_of words input Good text h some = inl h
due_of words input Refused text h some = inr (inl h)
due_of words input BadTrace text h some = inr (inr (inl h))
due_of words input Usage text h some = inr (inr (inr h))
due_of words input WantOfMemory text h some = absurd (some tt)
due_of words input ReadFault text h some = absurd (some tt)
due_of words input WriteFault text h some = absurd h

-- Where the sink failed, a front of a text was taken that was due.
due_as : (words : List Text) (input : Input) (output : Output) (status answer : Status) (text : Text) → Means words input status text → IsWritten output status text answer → answer ≡ WriteFault
    → (due : Text) × IsDue words input due × TookFront output due
due_as words input output status answer text told (inl w) e = absurd (subst (λ (s : Status). Means words input s text) (sym w.0 ∙ e) told)
due_as words input output status answer text told (inr w) e = (text, due_of words input status text told w.1, w.2)

-- ---- the contract

took_nothing : (output : Output) (text : Text) → text ≡ [] → Took output text → TookNothing output
took_nothing output text e took = subst (Took output) e took

-- Which answer comes without a fault of the sink is which status is meant.
decided : (words : List Text) (input : Input) (output : Output) (status answer : Status) (text : Text) → Means words input status text → IsWritten output status text answer → IsDecided words input output answer
decided words input output status answer text told written = record {
  of_no_command = λ none kept. settled output status answer text written kept ∙ of_no_command words input none status text told;
  of_trace = λ command bytes t said runs known spells steady kept.
      subst (λ (s : Status). (s ≡ Good) ⊎ (s ≡ WantOfMemory)) (sym (settled output status answer text written kept))
      (of_trace words input command bytes t said runs known spells steady status text told);
  of_script = λ bytes s said known judged steady kept.
      subst (λ (s : Status). (s ≡ Good) ⊎ (s ≡ WantOfMemory)) (sym (settled output status answer text written kept))
      (of_script words input bytes s said known judged steady status text told);
  of_big = λ objects said kept.
      subst (λ (s : Status). (s ≡ Good) ⊎ (s ≡ WantOfMemory)) (sym (settled output status answer text written kept))
      (of_big words input objects said status text told);
  of_good_report = λ bytes t report said known parts good steady kept.
      subst (λ (s : Status). (s ≡ Good) ⊎ (s ≡ WantOfMemory)) (sym (settled output status answer text written kept))
      (of_good_report words input bytes t report said known parts good steady status text told);
  of_wrong_report = λ bytes t report n said known parts refused steady kept.
      subst (λ (s : Status). (s ≡ Refused) ⊎ (s ≡ WantOfMemory)) (sym (settled output status answer text written kept))
      (of_wrong_report words input bytes t report n said known parts refused steady status text told);
  of_sound_snapshot = λ bytes t snapshot said known parts sound steady kept.
      subst (λ (s : Status). (s ≡ Good) ⊎ (s ≡ WantOfMemory)) (sym (settled output status answer text written kept))
      (of_sound_snapshot words input bytes t snapshot said known parts sound steady status text told);
  of_faulty_snapshot = λ bytes t snapshot verdict said known parts deserved other steady kept.
      subst (λ (s : Status). (s ≡ Refused) ⊎ (s ≡ WantOfMemory)) (sym (settled output status answer text written kept))
      (of_faulty_snapshot words input bytes t snapshot verdict said known parts deserved other steady status text told);
  of_bad_input = λ command bytes line reason said known bad steady kept.
      subst (λ (s : Status). (s ≡ BadTrace) ⊎ (s ≡ WantOfMemory)) (sym (settled output status answer text written kept))
      (of_bad_input words input command bytes line reason said known bad steady status text told);
}

pub contract : (words : List Text) (input : Input) (output : Output) (answer : Status) → Answers (Means words input) output answer → IsAnswered words input output answer
contract words input output answer a =
    let meant = meant_as words input output a.status answer a.text a.told a.written in
    record {
      good = λ e. let m = meant Good (λ (f : Good ≡ WriteFault). absurd cc) e in (a.text, m.0, m.1);
      bad_trace = λ e. let m = meant BadTrace (λ (f : BadTrace ≡ WriteFault). absurd cc) e in (a.text, m.0, m.1);
      usage = λ e. let m = meant Usage (λ (f : Usage ≡ WriteFault). absurd cc) e in (m.0.no_command, subst (Took output) m.0.says m.1);
      want_of_memory = λ e. let m = meant WantOfMemory (λ (f : WantOfMemory ≡ WriteFault). absurd cc) e in (m.0.0, took_nothing output a.text m.0.1 m.1);
      read_fault = λ e. let m = meant ReadFault (λ (f : ReadFault ≡ WriteFault). absurd cc) e in (m.0.0, m.0.1, took_nothing output a.text m.0.2 m.1);
      write_fault = λ e. due_as words input output a.status answer a.text a.told a.written e;
      refused = λ e. let m = meant Refused (λ (f : Refused ≡ WriteFault). absurd cc) e in (a.text, m.0, m.1);
      complete = decided words input output a.status answer a.text a.told a.written;
    }
