-- A list with one element more, somewhere.
use Rattle.std.proofs.Common.{◌≡◌, ℕ, zero, suc, ◌+◌, ◌<◌, true, refl, sym, ap, subst, ◌∙◌, List, [], ◌∷◌, ◌++◌, append_assoc, length, map, set, get_or, arith, length-append}
use Rattle.std.proofs.lemmas.List.{map-append}
use Rattle.std.specs.List.{concat}
use Rattle.k_types.proofs.Sums.{total_append}
use Rattle.k_types.specs.Totals.{total}
use Rattle.k_lists.specs.Lists.{is_in, without}
use Rattle.k_entry.proofs.Members.{Once, split, once_after, without_split}

pub record IsWith {X : Type 0} (x : X) (xs ys : List X) : Type 0 where
  pub before : List X
  pub after : List X
  pub less : xs ≡ before ++ after
  pub more : ys ≡ before ++ x ∷ after

pub with_front : {X : Type 0} (x : X) (xs : List X) → IsWith x xs (x ∷ xs)
with_front x xs = record { before = []; after = xs; less = refl; more = refl }

pub with_map : {X Y : Type 0} (f : X → Y) (x : X) (xs ys : List X) → IsWith x xs ys → IsWith (f x) (map f xs) (map f ys)
with_map f x xs ys w = record {
  before = map f w.before;
  after = map f w.after;
  less = ap (λ zs. map f zs) w.less ∙ map-append f w.before w.after;
  more = ap (λ zs. map f zs) w.more ∙ map-append f w.before (x ∷ w.after);
}

pub with_left : {X : Type 0} (x : X) (zs xs ys : List X) → IsWith x xs ys → IsWith x (zs ++ xs) (zs ++ ys)
with_left x zs xs ys w = record {
  before = zs ++ w.before;
  after = w.after;
  less = ap (λ rest. zs ++ rest) w.less ∙ sym (append_assoc zs w.before w.after);
  more = ap (λ rest. zs ++ rest) w.more ∙ sym (append_assoc zs w.before (x ∷ w.after));
}

pub with_right : {X : Type 0} (x : X) (xs ys zs : List X) → IsWith x xs ys → IsWith x (xs ++ zs) (ys ++ zs)
with_right x xs ys zs w = record {
  before = w.before;
  after = w.after ++ zs;
  less = ap (λ front. front ++ zs) w.less ∙ append_assoc w.before w.after zs;
  more = ap (λ front. front ++ zs) w.more ∙ append_assoc w.before (x ∷ w.after) zs;
}

pub with_total : {X : Type 0} (f : X → ℕ) (x : X) (xs ys : List X) → IsWith x xs ys → total f ys ≡ f x + total f xs
with_total f x xs ys w =
    let more : total f ys ≡ total f w.before + total f (x ∷ w.after) = ap (λ zs. total f zs) w.more ∙ total_append f w.before (x ∷ w.after) in
    let less : total f xs ≡ total f w.before + total f w.after = ap (λ zs. total f zs) w.less ∙ total_append f w.before w.after in
    omega (arith, more, less)

pub with_length : {X : Type 0} (x : X) (xs ys : List X) → IsWith x xs ys → length ys ≡ length xs + 1
with_length x xs ys w =
    let more : length ys ≡ length w.before + length (x ∷ w.after) = ap (λ zs. length zs) w.more ∙ length-append w.before (x ∷ w.after) in
    let less : length xs ≡ length w.before + length w.after = ap (λ zs. length zs) w.less ∙ length-append w.before w.after in
    omega (arith, more, less)

pub with_without : (x : ℕ) (xs : List ℕ) → Once xs → is_in xs x ≡ true → IsWith x (without x xs) xs
with_without x xs once e =
    let s = split xs x e in
    record {
      before = s.before;
      after = s.after;
      less = ap (λ zs. without x zs) s.whole ∙ without_split x s.before s.after s.absent (once_after s.before s.after x (subst (λ zs. Once zs) s.whole once));
      more = s.whole;
    }

-- one list of several
pub concat_more : (ls : List (List ℕ)) (k x : ℕ) (zs : List ℕ) → k < length ls → IsWith x (get_or ls k []) zs → IsWith x (concat ls) (concat (set ls k zs))
concat_more [] k x zs within w = absurd (omega arith)
concat_more (l ∷ ls) zero x zs within w = with_right x l zs (concat ls) w
concat_more (l ∷ ls) (suc k) x zs within w = with_left x l (concat ls) (concat (set ls k zs)) (concat_more ls k x zs (omega arith) w)

pub concat_less : (ls : List (List ℕ)) (k x : ℕ) (zs : List ℕ) → k < length ls → IsWith x zs (get_or ls k []) → IsWith x (concat (set ls k zs)) (concat ls)
concat_less [] k x zs within w = absurd (omega arith)
concat_less (l ∷ ls) zero x zs within w = with_right x zs l (concat ls) w
concat_less (l ∷ ls) (suc k) x zs within w = with_left x l (concat (set ls k zs)) (concat ls) (concat_less ls k x zs (omega arith) w)
