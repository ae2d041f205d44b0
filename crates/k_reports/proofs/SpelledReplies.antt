-- A reply is read as it is spelled.
use Rattle.std.proofs.Common.{◌≡◌, ◌∙◌, ℕ, ◌<◌, ◌^◌, Bool, true, false, cond, ◌&&◌, eqb, List, [], ◌∷◌, length, drop, Some, None, refl, sym, ap, subst, arith, codes, decimal}
use Rattle.std.specs.Char.{is_ascii_digit}
use Rattle.std.specs.List.{list_any, list_all}
use Rattle.std.specs.Str.{bytes_eq}
use Rattle.std.proofs.lemmas.Bool.{eqb-true}
use Rattle.k_types.specs.declared.names.Name.{Name}
use Rattle.k_types.specs.declared.op.Op.{Op}
use Rattle.k_types.specs.declared.event.Fault.{Fault}
use Rattle.k_types.specs.declared.event.Reply.{Reply}
use Rattle.k_types.specs.declared.event.Reply.TheVariants.{Done, Made, Loaded, Value, Refused}
use Rattle.k_words.specs.Words.{Text, word_at}
use Rattle.k_words.specs.Numbers.{is_below, value}
use Rattle.k_words.proofs.Spelled.{same, number_word}
use Rattle.k_words.proofs.Again.{value-decimal, is_below-decimal}
use Rattle.k_trace.specs.Named.{DeclaredNames}
use Rattle.k_reader.proofs.OpForms.{one}
use Rattle.k_text.specs.Named.{name_word, segment_names}
use Rattle.k_text.specs.EventLines.{reply_words, fault_words}
use Rattle.k_reports.specs.Spelled.{AreProper, IsSpelledName, IsSpelledReply, makes}
use Rattle.k_reports.specs.Reading.{is_dot, name_of_word, fault_of, reply_with, word_reply, reply_of}
use Rattle.k_reports.proofs.Options.{some_is, map_some, branch, nothing}
use Rattle.k_reports.proofs.SpelledWords.{told_apart, decimal_is_not, object_has_dot, name_word_read, read_name_word}
use Rattle.k_reports.proofs.SpelledFaults.{read_fault_words, fault_words_read}

-- The words spell the reply behind the operation.
abbrev SpellsReply : DeclaredNames → Op → List Text → Reply → Type 0
SpellsReply names op ws reply = IsSpelledReply names op reply × (reply_words names reply ≡ ws)

-- A name as reply.
name_reply : (names : DeclaredNames) (op : Op) (w : Text) (n : Name) (t : Bool) → makes op ≡ t → IsSpelledName names n × (name_word names n ≡ w) → SpellsReply names op (w ∷ []) (cond t (Made n) (Loaded (Some n)))
unfolding reply_words
name_reply names op w n true e h = ((e, h.0), ap (λ (v : Text). v ∷ []) h.1)
name_reply names op w n false e h = ((e, h.0), ap (λ (v : Text). v ∷ []) h.1)

read_word : (names : DeclaredNames) (op : Op) (w : Text) (reply : Reply) → word_reply names op w ≡ Some reply → SpellsReply names op (w ∷ []) reply
unfolding word_reply reply_words
read_word names op w reply e =
    branch (SpellsReply names op (w ∷ [])) reply (bytes_eq w (codes "ok")) _ _
    (λ is made. subst (SpellsReply names op (w ∷ [])) (some_is Done reply made) (tt, ap (λ (v : Text). v ∷ []) (sym (same w (codes "ok") is))))
    (branch (SpellsReply names op (w ∷ [])) reply (bytes_eq w (codes "null")) _ _
    (λ is made. subst (SpellsReply names op (w ∷ [])) (some_is (Loaded None) reply made) (tt, ap (λ (v : Text). v ∷ []) (sym (same w (codes "null") is))))
    (branch (SpellsReply names op (w ∷ [])) reply (is_below (2 ^ 64) w) _ _
    (λ is made. let n = number_word (2 ^ 64) w (omega arith) is in subst (SpellsReply names op (w ∷ [])) (some_is (Value (value w)) reply made) (n.1, ap (λ (v : Text). v ∷ []) n.0))
    (λ made. let m = map_some (reply_with op) (name_of_word names w) reply made in
    subst (SpellsReply names op (w ∷ [])) m.made (name_reply names op w m.from (makes op) refl (read_name_word names w m.from m.is))))) e

behind_fault : (names : DeclaredNames) (ws : List Text) (f : Fault) → bytes_eq (word_at ws 0) (codes "fault") ≡ true → fault_words names f ≡ drop 1 ws → codes "fault" ∷ fault_words names f ≡ ws
behind_fault names [] f is e = absurd cc
behind_fault names (w ∷ ws) f is e = rw (e, same w (codes "fault") is) refl

-- What is read as a reply spells it.
pub read_reply_words : (names : DeclaredNames) (op : Op) (ws : List Text) (reply : Reply) → reply_of names op ws ≡ Some reply → IsSpelledReply names op reply × (reply_words names reply ≡ ws)
unfolding reply_of reply_words
read_reply_words names op ws reply e =
    branch (SpellsReply names op ws) reply (bytes_eq (word_at ws 0) (codes "fault")) _ _
    (λ is made. let m = map_some Refused (fault_of names (drop 1 ws)) reply made in
    let f = read_fault_words names (drop 1 ws) m.from m.is in
    subst (SpellsReply names op ws) m.made (f.0, behind_fault names ws m.from is f.1))
    (branch (SpellsReply names op ws) reply (eqb (length ws) 1) _ _
    (λ is made. subst (λ (us : List Text). SpellsReply names op us reply) (sym (one ws (eqb-true _ _ is))) (read_word names op (word_at ws 0) reply made))
    (nothing (SpellsReply names op ws) reply)) e

-- ---- the other way

and_false : (b : Bool) → (b && false) ≡ false
and_false true = refl
and_false false = refl

dot_or_digit : (b : ℕ) (w : Text) (t : Bool) → eqb b 46 ≡ t → list_any is_dot (b ∷ w) ≡ true → (list_any is_dot w ≡ true → list_all is_ascii_digit w ≡ false) → list_all is_ascii_digit (b ∷ w) ≡ false
dot_or_digit b w true e h ih = rw (eqb-true b 46 e) refl
dot_or_digit b w false e h ih = rw (ih (rw e at h)) (and_false (is_ascii_digit b))

no_digit_dot : (w : Text) → list_any is_dot w ≡ true → list_all is_ascii_digit w ≡ false
no_digit_dot [] h = absurd cc
no_digit_dot (b ∷ w) h = dot_or_digit b w (eqb b 46) refl h (no_digit_dot w)

-- The word of an object's name is no number.
no_number : (w : Text) → list_all is_ascii_digit w ≡ false → is_below (2 ^ 64) w ≡ false
no_number w h = rw h refl

word_from : (names : DeclaredNames) (op : Op) (w : Text) (n : Name) → bytes_eq w (codes "ok") ≡ false → bytes_eq w (codes "null") ≡ false → is_below (2 ^ 64) w ≡ false → name_of_word names w ≡ Some n
    → word_reply names op w ≡ Some (reply_with op n)
unfolding word_reply
word_from names op w n ok null number e = rw (ok, null, number, e) refl

object_word : (names : DeclaredNames) (op : Op) (n : Name) → AreProper names → IsSpelledName names n → word_reply names op (name_word names n) ≡ Some (reply_with op n)
object_word names op n proper h =
    let dot = object_has_dot (word_at (segment_names names) n.seg.0) (decimal n.serial.0) in
    let ok = told_apart (list_any is_dot) (name_word names n) (codes "ok") dot refl in
    let null = told_apart (list_any is_dot) (name_word names n) (codes "null") dot refl in
    let number = no_number (name_word names n) (no_digit_dot (name_word names n) dot) in
    word_from names op (name_word names n) n ok null number (name_word_read names n proper h)

number_reply : (names : DeclaredNames) (op : Op) (number : ℕ) → number < 2 ^ 64 → reply_of names op (decimal number ∷ []) ≡ Some (Value number)
unfolding reply_of word_reply
number_reply names op number lt =
    rw (decimal_is_not number (codes "fault") lt refl, decimal_is_not number (codes "ok") lt refl, decimal_is_not number (codes "null") lt refl, is_below-decimal number (2 ^ 64) lt (omega arith), value-decimal number lt) refl

one_reply : (names : DeclaredNames) (op : Op) (w : Text) (reply : Reply) → bytes_eq w (codes "fault") ≡ false → word_reply names op w ≡ Some reply → reply_of names op (w ∷ []) ≡ Some reply
unfolding reply_of
one_reply names op w reply other e = rw (other, e) refl

object_reply : (names : DeclaredNames) (op : Op) (n : Name) → AreProper names → IsSpelledName names n → reply_of names op (name_word names n ∷ []) ≡ Some (reply_with op n)
object_reply names op n proper h =
    let dot = object_has_dot (word_at (segment_names names) n.seg.0) (decimal n.serial.0) in
    one_reply names op (name_word names n) (reply_with op n) (told_apart (list_any is_dot) (name_word names n) (codes "fault") dot refl) (object_word names op n proper h)

done_reply : (names : DeclaredNames) (op : Op) → reply_of names op (codes "ok" ∷ []) ≡ Some Done
unfolding reply_of word_reply
done_reply names op = refl

null_reply : (names : DeclaredNames) (op : Op) → reply_of names op (codes "null" ∷ []) ≡ Some (Loaded None)
unfolding reply_of word_reply
null_reply names op = refl

fault_reply : (names : DeclaredNames) (op : Op) (fault : Fault) → fault_of names (fault_words names fault) ≡ Some fault → reply_of names op (codes "fault" ∷ fault_words names fault) ≡ Some (Refused fault)
unfolding reply_of
fault_reply names op fault e = rw e refl

-- A reply is read as it is spelled.
pub reply_words_read : (names : DeclaredNames) (op : Op) (reply : Reply) → AreProper names → IsSpelledReply names op reply → reply_of names op (reply_words names reply) ≡ Some reply
unfolding reply_words
reply_words_read names op Done proper h = done_reply names op
reply_words_read names op (Made n) proper h = object_reply names op n proper h.1 ∙ rw h.0 refl
reply_words_read names op (Loaded None) proper h = null_reply names op
reply_words_read names op (Loaded (Some n)) proper h = object_reply names op n proper h.1 ∙ rw h.0 refl
reply_words_read names op (Value number) proper h = number_reply names op number h
reply_words_read names op (Refused fault) proper h = fault_reply names op fault (fault_words_read names fault proper h)
