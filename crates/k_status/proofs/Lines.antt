-- The line of a bad trace, as it is put together.
use Rattle.std.proofs.Common.{◌≡◌, ℕ, [], ◌∷◌, ◌++◌, refl, append_assoc}
use Rattle.std.specs.Prelude.{codes, decimal}
use Rattle.k_words.specs.Words.{Text}
use Rattle.k_status.specs.Texts.{bad_trace_text}

pub bad_line : (t0 t1 t2 t3 t4 : Text) (line reason : ℕ) → t0 ≡ [] → t1 ≡ t0 ++ codes "bad trace: line" → t2 ≡ t1 ++ 32 ∷ decimal line → t3 ≡ t2 ++ codes " reason" → t4 ≡ t3 ++ 32 ∷ decimal reason
    → t4 ++ 10 ∷ [] ≡ bad_trace_text line reason
unfolding bad_trace_text
bad_line t0 t1 t2 t3 t4 line reason e0 e1 e2 e3 e4 = rw (e4, e3, e2, e1, e0) (simp append_assoc refl)
