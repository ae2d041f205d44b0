-- Bytes spell one trace or have one first bad line.
use Rattle.std.proofs.Common.{◌≡◌, ◌∙◌, ◌⊎◌, ℕ, Result, Ok, Err, refl, sym, inl, inr}
use Rattle.k_words.specs.Words.{Text}
use Rattle.k_trace.specs.Named.{NamedTrace}
use Rattle.k_trace.specs.Rules.{Spells}
use Rattle.k_trace.specs.Judgement.{BadLine, judgement, IsBad}
use Rattle.k_reader.proofs.Sound.{sound}
use Rattle.k_reader.proofs.Whole.{complete}

ok_same : (t u : NamedTrace) → (let r : Result NamedTrace BadLine = Ok t in r) ≡ Ok u → t ≡ u
ok_same t u e = cc

ok_bad : (t : NamedTrace) (bad : BadLine) → (let r : Result NamedTrace BadLine = Ok t in r) ≡ Err bad → ⊥
ok_bad t bad e = absurd cc

pub one : (bytes : Text) (t u : NamedTrace) → Spells bytes t → Spells bytes u → t ≡ u
one bytes t u a b = ok_same t u (sym (complete bytes t a) ∙ complete bytes u b)

pub apart : (bytes : Text) (t : NamedTrace) (line reason : ℕ) → Spells bytes t → IsBad bytes line reason → ⊥
apart bytes t line reason a b = ok_bad t (record { line = line; reason = reason }) (sym (complete bytes t a) ∙ b)

either_of : (bytes : Text) (r : Result NamedTrace BadLine) → judgement bytes ≡ r → ((t : NamedTrace) × Spells bytes t) ⊎ ((line : ℕ) × (reason : ℕ) × IsBad bytes line reason)
either_of bytes (Ok t) e = inl (t, sound bytes t e)
either_of bytes (Err bad) e = inr (bad.line, bad.reason, e)

pub either : (bytes : Text) → ((t : NamedTrace) × Spells bytes t) ⊎ ((line : ℕ) × (reason : ℕ) × IsBad bytes line reason)
either bytes = either_of bytes (judgement bytes) refl
