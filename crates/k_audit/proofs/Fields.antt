-- The fields of an object, one by one.
use Rattle.std.proofs.Common.{◌≡◌, ◌∙◌, ◌==◌, ℕ, ◌+◌, ◌<◌, ◌≤◌, true, false, cond, List, [], ◌∷◌, ◌++◌, length, drop, get_or, Option, Some, None, refl, sym, ap, append_assoc, append-nil, arith}
use Rattle.std.specs.Prelude.{option_and_then, option_map}
use Rattle.std.proofs.lemmas.List.{drop_more}
use Rattle.k_types.specs.declared.names.Field.{Field}
use Rattle.k_types.specs.declared.names.Field.TheVariants.{Ref}
use Rattle.k_types.specs.State.{Content}
use Rattle.k_words.specs.Words.{Text, word_at}
use Rattle.k_types.proofs.Numbered.{drop_all}
use Rattle.k_trace.specs.Named.{DeclaredNames}
use Rattle.k_audit.specs.Reading.{content_of, contents_at}

-- what was read before stands before the rest
abbrev pub behind : List Content → Option (List Content) → Option (List Content)
behind xs rest = option_map (λ more. xs ++ more) rest

behind_one : (xs : List Content) (c : Content) (rest : Option (List Content)) → behind xs (option_map (λ more. c ∷ more) rest) ≡ behind (xs ++ c ∷ []) rest
behind_one xs c None = refl
behind_one xs c (Some more) = ap Some (sym (append_assoc xs (c ∷ []) more))

pub behind_none : (rest : Option (List Content)) → rest ≡ behind [] rest
behind_none None = refl
behind_none (Some more) = refl

contents_none : (names : DeclaredNames) (kind : Field) (kinds : List Field) (ws : List Text) (at : ℕ) → content_of names kind (word_at ws at) ≡ None → contents_at names (kind ∷ kinds) ws at ≡ None
unfolding contents_at
contents_none names kind kinds ws at e =
    ap (λ (o : Option Content). option_and_then (λ content. option_map (λ contents. content ∷ contents) (contents_at names kinds ws (at + 1))) o) e

contents_some : (names : DeclaredNames) (kind : Field) (kinds : List Field) (ws : List Text) (at : ℕ) (c : Content) → content_of names kind (word_at ws at) ≡ Some c →
    contents_at names (kind ∷ kinds) ws at ≡ option_map (λ contents. c ∷ contents) (contents_at names kinds ws (at + 1))
unfolding contents_at
contents_some names kind kinds ws at c e =
    ap (λ (o : Option Content). option_and_then (λ content. option_map (λ contents. content ∷ contents) (contents_at names kinds ws (at + 1))) o) e

module _ (names : DeclaredNames) (kinds : List Field) (ws : List Text) (whole : Option (List Content)) (xs : List Content) (i : ℕ) where
  -- a field that is none
  pub field_none : whole ≡ behind xs (contents_at names (drop i kinds) ws (3 + i)) → i < length kinds → content_of names (get_or kinds i Ref) (word_at ws (3 + i)) ≡ None → whole ≡ None
  field_none read inside e =
      read ∙ ap (λ (ks : List Field). behind xs (contents_at names ks ws (3 + i))) (drop_more kinds i Ref inside)
      ∙ ap (behind xs) (contents_none names (get_or kinds i Ref) (drop (i + 1) kinds) ws (3 + i) e)

  -- a field more
  pub field_some : (c : Content) → whole ≡ behind xs (contents_at names (drop i kinds) ws (3 + i)) → i < length kinds → content_of names (get_or kinds i Ref) (word_at ws (3 + i)) ≡ Some c →
      whole ≡ behind (xs ++ c ∷ []) (contents_at names (drop (i + 1) kinds) ws (3 + (i + 1)))
  field_some c read inside e =
      let next : 3 + i + 1 ≡ 3 + (i + 1) = omega arith in
      read ∙ ap (λ (ks : List Field). behind xs (contents_at names ks ws (3 + i))) (drop_more kinds i Ref inside)
      ∙ ap (behind xs) (contents_some names (get_or kinds i Ref) (drop (i + 1) kinds) ws (3 + i) c e)
      ∙ behind_one xs c (contents_at names (drop (i + 1) kinds) ws (3 + i + 1))
      ∙ ap (λ n. behind (xs ++ c ∷ []) (contents_at names (drop (i + 1) kinds) ws n)) next

  -- all fields, and the end of the line
  pub fields_all : whole ≡ behind xs (contents_at names (drop i kinds) ws (3 + i)) → length kinds ≤ i → (length ws == 3 + i) ≡ true → whole ≡ Some xs
  unfolding contents_at
  fields_all read past last =
      read ∙ ap (λ (ks : List Field). behind xs (contents_at names ks ws (3 + i))) (drop_all kinds i past)
      ∙ ap (λ b. behind xs (cond b (Some []) None)) last ∙ ap Some (append-nil xs)

  -- more words than fields, or fewer
  pub fields_other : whole ≡ behind xs (contents_at names (drop i kinds) ws (3 + i)) → length kinds ≤ i → (length ws == 3 + i) ≡ false → whole ≡ None
  unfolding contents_at
  fields_other read past last =
      read ∙ ap (λ (ks : List Field). behind xs (contents_at names ks ws (3 + i))) (drop_all kinds i past)
      ∙ ap (λ b. behind xs (cond b (Some []) None)) last
