-- A comparison, byte by byte.
use Rattle.std.proofs.Common.{◌≡◌, ◌∙◌, ℕ, suc, ◌+◌, ◌<◌, ◌≤◌, Bool, true, false, cond, eqb, ltb, [], ◌∷◌, ◌++◌, length, take, drop, get_or, Some, None, refl, sym, ap, arith, add-one, drop-cons, append_assoc}
use Rattle.std.proofs.lemmas.Bool.{ltb-true, ltb-false}
use Rattle.std.proofs.lemmas.List.{append-nil, drop_all, take_more}
use Rattle.k_words.specs.Words.{Text}
use Rattle.k_history.specs.Difference.{difference_from, difference, Compared, difference_next, Compares, compared}

same_step : (bytes : Text) (at line : ℕ) (b : ℕ) (more : Text) (equal : Bool) → ltb at (length bytes) ≡ true → eqb b (get_or bytes at 0) ≡ equal → drop at bytes ≡ get_or bytes at 0 ∷ drop (suc at) bytes
    → difference_next (record { bytes = bytes; at = at; line = line; same = true }) (b ∷ more) ≡ difference_next (compared (record { bytes = bytes; at = at; line = line; same = true }) b) more
same_step bytes at line b more true e f d = rw (e, f, d, f) (simp add-one refl)
same_step bytes at line b more false e f d = rw (e, f, d, f) refl

byte_step : (bytes : Text) (at line : ℕ) (same : Bool) (b : ℕ) (more : Text) (within equal : Bool) → ltb at (length bytes) ≡ within → eqb b (get_or bytes at 0) ≡ equal
    → difference_next (record { bytes = bytes; at = at; line = line; same = same }) (b ∷ more) ≡ difference_next (compared (record { bytes = bytes; at = at; line = line; same = same }) b) more
byte_step bytes at line false b more within equal e f = refl
byte_step bytes at line true b more false equal e f = let past : length bytes ≤ at = ltb-false _ _ e in rw (e, drop_all at bytes past) refl
byte_step bytes at line true b more true equal e f =
    let lt : at < length bytes = ltb-true _ _ e in
    same_step bytes at line b more equal e f (drop-cons bytes at 0 lt)

-- One more byte changes nothing of what is told.
next_byte : (s : Compared) (b : ℕ) (more : Text) → difference_next s (b ∷ more) ≡ difference_next (compared s b) more
next_byte s b more = byte_step s.bytes s.at s.line s.same b more (ltb s.at (length s.bytes)) (eqb b (get_or s.bytes s.at 0)) refl refl

same_bytes : (s : Compared) (b : ℕ) (t : Bool) → (cond t (record s { at = s.at + 1; line = cond (eqb b 10) (s.line + 1) s.line }) (record s { same = false })).bytes ≡ s.bytes
same_bytes s b true = refl
same_bytes s b false = refl

-- One more byte was written.
pub compares_more : (s : Compared) (b : ℕ) (given xs : Text) → Compares s given xs → Compares (compared s b) given (xs ++ b ∷ [])
compares_more s b given xs h = (same_bytes s b _ ∙ h.0, λ more. ap (λ (t : Text). difference t given) (append_assoc xs (b ∷ []) more) ∙ h.1 (b ∷ more) ∙ next_byte s b more)

-- What the sink tells when no more comes.
pub told : (s : Compared) (given xs : Text) → Compares s given xs → difference xs given ≡ cond s.same (difference_from s.line [] (drop s.at s.bytes)) (Some s.line)
told s given xs h = ap (λ (t : Text). difference t given) (sym (append-nil xs)) ∙ h.1 []

-- All came, and is the same.
pub told_same : (bytes : Text) (at line : ℕ) (same : Bool) (given xs : Text) → Compares (record { bytes = bytes; at = at; line = line; same = same }) given xs → same ≡ true → at ≡ length bytes
    → None ≡ difference xs given
told_same bytes at line same given xs h passes all =
    sym (told (record { bytes = bytes; at = at; line = line; same = same }) given xs h ∙ rw (passes, drop_all at bytes (omega arith)) refl)

-- It is not the same, or more is to come.
pub told_other : (bytes : Text) (at line : ℕ) (same : Bool) (given xs : Text) → Compares (record { bytes = bytes; at = at; line = line; same = same }) given xs → (same ≡ true → at < length bytes)
    → Some line ≡ difference xs given
told_other bytes at line true given xs h left =
    let s : Compared = record { bytes = bytes; at = at; line = line; same = true } in
    sym (told s given xs h ∙ rw (drop-cons bytes at 0 (left refl)) refl)
told_other bytes at line false given xs h left = sym (told (record { bytes = bytes; at = at; line = line; same = false }) given xs h)

-- One more byte of the piece was written.
pub written_more : (s t : Compared) (given xs piece : Text) (i : ℕ) → i < length piece → Compares s given (xs ++ take i piece) → t ≡ compared s (get_or piece i 0) → Compares t given (xs ++ take (i + 1) piece)
written_more s t given xs piece i lt h e =
    rw (e, take_more piece i 0 lt, ← append_assoc xs (take i piece) (get_or piece i 0 ∷ [])) (compares_more s (get_or piece i 0) given (xs ++ take i piece) h)
