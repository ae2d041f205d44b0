-- Words that are no reply.
use Rattle.std.proofs.Common.{◌≡◌, ◌<◌, true, false, eqb, List, [], ◌∷◌, length, None, refl, ap, arith, codes}
use Rattle.std.proofs.lemmas.Bool.{false_from_ne_true, eqb-true}
use Rattle.std.specs.Str.{bytes_eq}
use Rattle.k_types.specs.declared.op.Op.{Op}
use Rattle.k_words.specs.Words.{Text, word_at, words_of}
use Rattle.k_words.proofs.Lines.{is_space}
use Rattle.std.proofs.lemmas.List.Splits.{length-slice_split}
use Rattle.k_trace.specs.Named.{DeclaredNames}
use Rattle.k_reports.specs.Reading.{fault_of, reply_of}

-- Several words, of which the first isn't `fault`.
pub several_words : (names : DeclaredNames) (op : Op) (ws : List Text) (w : Text) (rest : Text) → ws ≡ w ∷ words_of rest → bytes_eq (word_at ws 0) (codes "fault") ≡ false → None ≡ reply_of names op ws
unfolding reply_of
several_words names op ws w rest e fails =
    let more : 0 < length (words_of rest) = omega (arith, length-slice_split is_space rest) in
    let other : eqb (length ws) 1 ≡ false = false_from_ne_true _ (λ h. absurd (omega (arith, eqb-true (length ws) 1 h, ap length e))) in
    rw (fails, other) refl

-- The word `fault` alone.
pub bare_word : (names : DeclaredNames) (op : Op) (ws : List Text) (w : Text) → ws ≡ w ∷ [] → bytes_eq (word_at ws 0) (codes "fault") ≡ true → None ≡ reply_of names op ws
unfolding reply_of fault_of
bare_word names op ws w e passes = rw passes (rw e refl)
