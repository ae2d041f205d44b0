-- Lines and their line feeds.
use Rattle.std.proofs.Common.{◌≡◌, ℕ, Bool, true, false, eqb, List, [], ◌∷◌, ◌++◌, refl, ap, inl, inr, length}
use Rattle.std.specs.List.{flat_map, onto_first}
use Rattle.std.proofs.lemmas.Bool.{eqb-true}
use Rattle.k_words.specs.Words.{Text, lines_of, AreText}

-- the lines, each with its line feed
abbrev pub fed : List Text → Text
fed lines = flat_map (λ line. line ++ 10 ∷ []) lines

abbrev pub Joined : Text → Type 0
Joined bytes = AreText bytes (fed (lines_of bytes))

onto : (b : ℕ) (bytes : Text) (lines : List Text) → AreText bytes (fed lines) → AreText (b ∷ bytes) (fed (onto_first b lines))
onto b [] [] (inl e) = inr refl
onto b [] [] (inr e) = absurd cc
onto b (c ∷ bytes) [] (inl e) = absurd cc
onto b (c ∷ bytes) [] (inr e) = absurd cc
onto b bytes (l ∷ ls) (inl e) = inl (ap (λ (t : Text). b ∷ t) e)
onto b bytes (l ∷ ls) (inr e) = inr (ap (λ (t : Text). b ∷ t) e)

joined_cons : (b : ℕ) (bytes : Text) (t : Bool) → eqb b 10 ≡ t → Joined bytes → Joined (b ∷ bytes)
joined_cons b bytes true e (inl h) = rw e (inl (rw (eqb-true b 10 e) (ap (λ (t : Text). 10 ∷ t) h)))
joined_cons b bytes true e (inr h) = rw e (inr (rw (eqb-true b 10 e) (ap (λ (t : Text). 10 ∷ t) h)))
joined_cons b bytes false e h = rw e (onto b bytes (lines_of bytes) h)

pub joined : (bytes : Text) → Joined bytes
joined [] = inl refl
joined (b ∷ bytes) = joined_cons b bytes (eqb b 10) refl (joined bytes)

-- no bytes have no line
pub no_lines : (bytes : Text) → length bytes ≡ 0 → length (lines_of bytes) ≡ 0
no_lines [] e = refl
no_lines (b ∷ bytes) e = absurd cc
