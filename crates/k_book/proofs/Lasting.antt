-- The last events of a journal that grows.
use Rattle.std.specs.Prelude.{◌≡◌, ℕ, zero, suc, ◌+◌, ◌-◌, ◌<◌, ◌≤◌, List, [], ◌∷◌, ◌++◌, drop, length, slice_get}
use Rattle.std.proofs.Common.{refl, sym, ap, ◌∙◌, arith, length-append}
use Rattle.std.proofs.lemmas.List.{drop-append-le, drop-drop, length-drop}
use Rattle.circular_buffer.specs.Buffer.{keep_last}

module _ {A : Type 0} where
  -- some of the first are left out, and of what is held and some more the last ones are kept: those of the longer list
  pub held_on : (k gone : ℕ) (xs items more : List A) → items ≡ drop gone xs → gone ≤ length xs →
      keep_last k (items ++ more) ≡ drop (gone + (length items + length more - k)) (xs ++ more)
  held_on k gone xs items more is low =
      let less = length items + length more - k in
      ap (λ n. drop (n - k) (items ++ more)) (length-append items more) ∙ ap (λ ys. drop less (ys ++ more)) is
      ∙ ap (drop less) (sym (drop-append-le gone xs more low)) ∙ drop-drop less gone (xs ++ more)

  -- what is found in a list past those that are left out
  at_after : (k : ℕ) (xs : List A) (i j : ℕ) → j ≡ k + i → slice_get (drop k xs) i ≡ slice_get xs j
  at_after zero xs i j e = let same : i ≡ j = omega arith in ap (slice_get xs) same
  at_after (suc k) [] i j e = refl
  at_after (suc k) (x ∷ xs) i zero e = absurd (omega arith)
  at_after (suc k) (x ∷ xs) i (suc j) e = at_after k xs i j (omega arith)

  -- one of those that are held stands among them by its number less those that are gone
  pub held_at : (gone number : ℕ) (xs items : List A) → items ≡ drop gone xs → gone ≤ number → number < length xs →
      slice_get items (number - (length xs - length items)) ≡ slice_get xs number
  held_at gone number xs items is late there =
      let left : length items ≡ length xs - gone = ap (λ ys. length ys) is ∙ length-drop gone xs in
      ap (λ ys. slice_get ys (number - (length xs - length items))) is ∙ at_after gone xs (number - (length xs - length items)) number (omega (arith, left, late, there))
