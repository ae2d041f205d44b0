-- What a source or sink over a reader or writer of the standard library keeps of what these promise.
use Rattle.std.proofs.Common.{◌≡◌, ◌∙◌, ℕ, zero, suc, ◌≤◌, List, [], Option, Some, None, Result, Ok, Err, sym, ap, subst, arith}
use Rattle.std.proofs.lemmas.List.{append-nil}
use Rattle.std.specs.Io.KnownBytes.{Appends, WriteAppends}
use Rattle.k_io.specs.Counting.{read_answer, write_answer}
use Rattle.k_io.specs.Causes.{HasCause}
use Rattle.k_io.specs.Known.{IsKnown}
use Rattle.k_io.specs.Memory.{one_more}
use Rattle.k_io.specs.Taking.{WriteTakes}
use Rattle.k_io.specs.declared.errors.ReadFailed.{ReadFailed}
use Rattle.k_io.specs.declared.errors.WriteFailed.{WriteFailed}
use Rattle.k_io.proofs.Takings.{known_keeps, known_takes}

abbrev Seen : Type 0 → Type 0
Seen E = Result ℕ E × ℕ

caused : {E : Type 0} (before : ℕ) → Seen E → Type 0
caused {E} before seen = HasCause {T = ℕ} {E = E} before seen.1 seen.0

good_cause : {E : Type 0} (n before : ℕ) → HasCause {T = ℕ} {E = E} before before (Ok n)
good_cause n before = record { later = omega arith; failed = tt }

fault_cause : {E : Type 0} (e : E) (before : ℕ) → before ≤ one_more before → HasCause {T = ℕ} {E = E} before (one_more before) (Err e)
fault_cause e before small = record { later = small; failed = omega arith }

pub read_cause : {E : Type 0} (told : Result ℕ E) (before after : ℕ) (result : Result ℕ ReadFailed) → before ≤ after → (result, after) ≡ read_answer told before → HasCause {T = ℕ} before after result
unfolding caused
read_cause (Ok n) before after result small e = subst (caused before) (sym e) (good_cause n before)
read_cause (Err d) before after result small e = subst (caused before) (sym e) (fault_cause (record {}) before (omega (arith, small, ap (λ (s : Seen ReadFailed). s.1) e)))

pub write_cause : {E : Type 0} (told : Result ℕ E) (before after : ℕ) (result : Result ℕ WriteFailed) → before ≤ after → (result, after) ≡ write_answer told before → HasCause {T = ℕ} before after result
unfolding caused
write_cause (Ok zero) before after result small e = subst (caused before) (sym e) (fault_cause (record {}) before (omega (arith, small, ap (λ (s : Seen WriteFailed). s.1) e)))
write_cause (Ok (suc n)) before after result small e = subst (caused before) (sym e) (good_cause (suc n) before)
write_cause (Err d) before after result small e = subst (caused before) (sym e) (fault_cause (record {}) before (omega (arith, small, ap (λ (s : Seen WriteFailed). s.1) e)))

kept_known : (old new : Option (List ℕ)) → Appends old new [] → (given xs : List ℕ) → IsKnown old xs → IsKnown new xs
kept_known None new h given xs e = absurd cc
kept_known (Some ys) None h given xs e = absurd h
kept_known (Some ys) (Some zs) h given xs e = ap Some (h ∙ append-nil ys) ∙ e

pub write_takes : {E : Type 0} (told : Result ℕ E) (before after : ℕ) (result : Result ℕ WriteFailed) (old new : Option (List ℕ)) (piece : List ℕ)
    → (result, after) ≡ write_answer told before → WriteAppends old new told piece
    → WriteTakes (λ given xs. IsKnown old xs) (λ given xs. IsKnown new xs) result piece
write_takes (Ok zero) before after result old new piece e h =
    subst (λ (r : Result ℕ WriteFailed). WriteTakes (λ given xs. IsKnown old xs) (λ given xs. IsKnown new xs) r piece) (sym (ap (λ (s : Seen WriteFailed). s.0) e)) (kept_known old new h)
write_takes (Ok (suc n)) before after result old new piece e h =
    subst (λ (r : Result ℕ WriteFailed). WriteTakes (λ given xs. IsKnown old xs) (λ given xs. IsKnown new xs) r piece) (sym (ap (λ (s : Seen WriteFailed). s.0) e)) (known_takes _ _ _ h)
write_takes (Err d) before after result old new piece e h =
    subst (λ (r : Result ℕ WriteFailed). WriteTakes (λ given xs. IsKnown old xs) (λ given xs. IsKnown new xs) r piece) (sym (ap (λ (s : Seen WriteFailed). s.0) e)) (known_keeps old new h)
