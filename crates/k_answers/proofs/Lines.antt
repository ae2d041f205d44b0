-- The lines of a refused report and of a snapshot that is not sound, as they are put together.
use Rattle.std.proofs.Common.{◌≡◌, ℕ, [], ◌∷◌, ◌++◌, refl, append_assoc}
use Rattle.std.specs.Prelude.{codes, decimal}
use Rattle.k_words.specs.Words.{Text}
use Rattle.k_answers.specs.Texts.{refused_text, unsound_text}

-- The line of a refused report, as it is put together.
pub refused_line : (t0 t1 t2 : Text) (line : ℕ) → t0 ≡ [] → t1 ≡ t0 ++ codes "refused" → t2 ≡ t1 ++ 32 ∷ decimal line → t2 ++ 10 ∷ [] ≡ refused_text line
unfolding refused_text
refused_line t0 t1 t2 line e0 e1 e2 = rw (e2, e1, e0) (simp append_assoc refl)

-- The line of a snapshot that is not sound, as it is put together.
pub unsound_line : (t0 t1 t2 : Text) (point : ℕ) → t0 ≡ [] → t1 ≡ t0 ++ codes "unsound" → t2 ≡ t1 ++ 32 ∷ decimal point → t2 ++ 10 ∷ [] ≡ unsound_text point
unfolding unsound_text
unsound_line t0 t1 t2 point e0 e1 e2 = rw (e2, e1, e0) (simp append_assoc refl)
