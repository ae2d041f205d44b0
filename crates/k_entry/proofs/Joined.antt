-- Lists that are joined: which members they have, and what a change of one of them changes.
use Rattle.std.proofs.Common.{◌≡◌, ◌≢◌, ◌==◌, ◌||◌, ℕ, zero, suc, Bool, true, false, refl, sym, ap, ap₂, subst, ◌∙◌, List, [], ◌∷◌, ◌++◌, append_assoc, map, get_or, eqb-true, arith}
use Rattle.std.proofs.lemmas.Bool.{false_from_ne_true, or_left, or_right}
use Rattle.std.specs.List.{concat}
use Rattle.k_lists.specs.Lists.{is_in}
use Rattle.k_lists.proofs.Members.{in_head, in_differs}
use Rattle.k_entry.proofs.Members.{Once, split, once_after, is_in_append, cons_in}
use Rattle.k_entry.proofs.With.{IsWith}

abbrev pub joined : (ℕ → List ℕ) → List ℕ → List ℕ
joined g xs = concat (map g xs)

-- the number stands in one place
pub record Single (xs : List ℕ) (s : ℕ) : Type 0 where
  pub before : List ℕ
  pub after : List ℕ
  pub whole : xs ≡ before ++ s ∷ after
  pub absent : is_in before s ≡ false
  pub gone : is_in after s ≡ false

pub or_cases : (a b : Bool) → (a || b) ≡ true → (P : Type 0) → (a ≡ true → P) → (b ≡ true → P) → P
or_cases true b e P left right = left refl
or_cases false b e P left right = right e

none_in : (xs ys : List ℕ) (s : ℕ) → is_in xs s ≡ false → is_in ys s ≡ false → is_in (xs ++ ys) s ≡ false
none_in xs ys s a b = is_in_append xs ys s ∙ ap₂ (λ c d. c || d) a b

pub none_left : (xs ys : List ℕ) (s : ℕ) → is_in (xs ++ ys) s ≡ false → is_in xs s ≡ false
none_left xs ys s e = false_from_ne_true (is_in xs s) (λ t. let bad : true ≡ false = sym (or_left (is_in xs s) (is_in ys s) t) ∙ sym (is_in_append xs ys s) ∙ e in absurd (cc))

pub none_right : (xs ys : List ℕ) (s : ℕ) → is_in (xs ++ ys) s ≡ false → is_in ys s ≡ false
none_right xs ys s e = false_from_ne_true (is_in ys s) (λ t. let bad : true ≡ false = sym (or_right (is_in xs s) (is_in ys s) t) ∙ sym (is_in_append xs ys s) ∙ e in absurd (cc))

-- members of joined lists
pub in_concat : (ls : List (List ℕ)) (i : ℕ) → is_in (concat ls) i ≡ true → (k : ℕ) × (is_in (get_or ls k []) i ≡ true)
in_concat [] i e = absurd (cc)
in_concat (l ∷ ls) i e = by_test (is_in l i) refl (in_concat ls i)
  where
    by_test : (b : Bool) → is_in l i ≡ b → (is_in (concat ls) i ≡ true → (k : ℕ) × (is_in (get_or ls k []) i ≡ true)) → (k : ℕ) × (is_in (get_or (l ∷ ls) k []) i ≡ true)
    by_test true here ih = (0, here)
    by_test false gone ih = let k = ih (ap (λ b. b || is_in (concat ls) i) (sym gone) ∙ sym (is_in_append l (concat ls) i) ∙ e) in (suc k.0, k.1)

pub concat_in : (ls : List (List ℕ)) (k i : ℕ) → is_in (get_or ls k []) i ≡ true → is_in (concat ls) i ≡ true
concat_in [] k i e = e
concat_in (l ∷ ls) zero i e = is_in_append l (concat ls) i ∙ or_left (is_in l i) (is_in (concat ls) i) e
concat_in (l ∷ ls) (suc k) i e = is_in_append l (concat ls) i ∙ or_right (is_in l i) (is_in (concat ls) i) (concat_in ls k i e)

pub record IsJoined (g : ℕ → List ℕ) (xs : List ℕ) (i : ℕ) : Type 0 where
  pub list : ℕ
  pub listed : is_in xs list ≡ true
  pub there : is_in (g list) i ≡ true

pub in_joined : (g : ℕ → List ℕ) (xs : List ℕ) (i : ℕ) → is_in (joined g xs) i ≡ true → IsJoined g xs i
in_joined g [] i e = absurd (cc)
in_joined g (x ∷ xs) i e = by_test (is_in (g x) i) refl (in_joined g xs i)
  where
    by_test : (b : Bool) → is_in (g x) i ≡ b → (is_in (joined g xs) i ≡ true → IsJoined g xs i) → IsJoined g (x ∷ xs) i
    by_test true here ih = record { list = x; listed = in_head x xs; there = here }
    by_test false gone ih =
        let found = ih (ap (λ b. b || is_in (joined g xs) i) (sym gone) ∙ sym (is_in_append (g x) (joined g xs) i) ∙ e) in
        record { list = found.list; listed = cons_in x found.list xs found.listed; there = found.there }

pub joined_in : (g : ℕ → List ℕ) (xs : List ℕ) (s i : ℕ) → is_in xs s ≡ true → is_in (g s) i ≡ true → is_in (joined g xs) i ≡ true
joined_in g [] s i e there = absurd (cc)
joined_in g (x ∷ xs) s i e there =
    is_in_append (g x) (joined g xs) i ∙ by_test (x == s) refl (λ t. joined_in g xs s i t there)
  where
    by_test : (b : Bool) → (x == s) ≡ b → (is_in xs s ≡ true → is_in (joined g xs) i ≡ true) → (is_in (g x) i || is_in (joined g xs) i) ≡ true
    by_test true is ih = or_left (is_in (g x) i) (is_in (joined g xs) i) (ap (λ n. is_in (g n) i) (eqb-true x s is) ∙ there)
    by_test false off ih = or_right (is_in (g x) i) (is_in (joined g xs) i) (ih (ap (λ b. b || is_in xs s) (sym off) ∙ e))

-- what is joined
pub joined_append : (g : ℕ → List ℕ) (xs ys : List ℕ) → joined g (xs ++ ys) ≡ joined g xs ++ joined g ys
joined_append g [] ys = refl
joined_append g (x ∷ xs) ys = ap (λ zs. g x ++ zs) (joined_append g xs ys) ∙ sym (append_assoc (g x) (joined g xs) (joined g ys))

pub joined_same : (g h : ℕ → List ℕ) (xs : List ℕ) → ((s : ℕ) → is_in xs s ≡ true → g s ≡ h s) → joined g xs ≡ joined h xs
joined_same g h [] same = refl
joined_same g h (x ∷ xs) same = ap₂ (λ a b. a ++ b) (same x (in_head x xs)) (joined_same g h xs (λ s e. same s (cons_in x s xs e)))

pub map_same : {X : Type 0} (f h : ℕ → X) (xs : List ℕ) → ((s : ℕ) → is_in xs s ≡ true → f s ≡ h s) → map f xs ≡ map h xs
map_same f h [] same = refl
map_same f h (x ∷ xs) same = ap₂ (λ a b. a ∷ b) (same x (in_head x xs)) (map_same f h xs (λ s e. same s (cons_in x s xs e)))

-- one list has one number more
pub joined_with : (g h : ℕ → List ℕ) (xs : List ℕ) (s i : ℕ) → Single xs s → ((t : ℕ) → (t ≢ s) → g t ≡ h t) → IsWith i (g s) (h s) → IsWith i (joined g xs) (joined h xs)
joined_with g h xs s i single same w =
    let front : joined g single.before ≡ joined h single.before = joined_same g h single.before (λ t e. same t (in_differs single.before s t single.absent e)) in
    let back : joined g single.after ≡ joined h single.after = joined_same g h single.after (λ t e. same t (in_differs single.after s t single.gone e)) in
    record {
      before = joined g single.before ++ w.before;
      after = w.after ++ joined g single.after;
      less =
          ap (λ ys. joined g ys) single.whole ∙ joined_append g single.before (s ∷ single.after)
          ∙ ap (λ ys. joined g single.before ++ (ys ++ joined g single.after)) w.less
          ∙ ap (λ ys. joined g single.before ++ ys) (append_assoc w.before w.after (joined g single.after))
          ∙ sym (append_assoc (joined g single.before) w.before (w.after ++ joined g single.after));
      more =
          ap (λ ys. joined h ys) single.whole ∙ joined_append h single.before (s ∷ single.after)
          ∙ ap₂ (λ xs ys. xs ++ (h s ++ ys)) (sym front) (sym back)
          ∙ ap (λ ys. joined g single.before ++ (ys ++ joined g single.after)) w.more
          ∙ ap (λ ys. joined g single.before ++ ys) (append_assoc w.before (i ∷ w.after) (joined g single.after))
          ∙ sym (append_assoc (joined g single.before) w.before (i ∷ (w.after ++ joined g single.after)));
    }

-- an empty list more changes nothing
pub joined_empty : (g : ℕ → List ℕ) (s : ℕ) (xs ys : List ℕ) → IsWith s xs ys → g s ≡ [] → joined g ys ≡ joined g xs
joined_empty g s xs ys w empty =
    ap (λ zs. joined g zs) w.more ∙ joined_append g w.before (s ∷ w.after)
    ∙ ap (λ zs. joined g w.before ++ (zs ++ joined g w.after)) empty
    ∙ sym (joined_append g w.before w.after) ∙ sym (ap (λ zs. joined g zs) w.less)

pub single_with : (s : ℕ) (xs ys : List ℕ) → IsWith s xs ys → is_in xs s ≡ false → Single ys s
single_with s xs ys w off =
    let none : is_in (w.before ++ w.after) s ≡ false = ap (λ zs. is_in zs s) (sym w.less) ∙ off in
    record { before = w.before; after = w.after; whole = w.more; absent = none_left w.before w.after s none; gone = none_right w.before w.after s none }

-- a number of lists that no two share stands in one place of what is joined
pub single_concat : (ls : List (List ℕ)) (k s : ℕ) → ((a b : ℕ) → is_in (get_or ls a []) s ≡ true → is_in (get_or ls b []) s ≡ true → a ≡ b) → ((a : ℕ) → Once (get_or ls a [])) → is_in (get_or ls k []) s ≡ true → Single (concat ls) s
single_concat [] k s apart once e = absurd (cc)
single_concat (l ∷ ls) zero s apart once e =
    let at = split l s e in
    let rest : is_in (concat ls) s ≡ false = false_from_ne_true (is_in (concat ls) s) (λ t. let k = in_concat ls s t in let same : 0 ≡ suc k.0 = apart 0 (suc k.0) e k.1 in absurd (omega arith)) in
    record {
      before = at.before;
      after = at.after ++ concat ls;
      whole = ap (λ ys. ys ++ concat ls) at.whole ∙ append_assoc at.before (s ∷ at.after) (concat ls);
      absent = at.absent;
      gone = none_in at.after (concat ls) s (once_after at.before at.after s (subst (λ ys. Once ys) at.whole (once 0))) rest;
    }
single_concat (l ∷ ls) (suc k) s apart once e =
    let at = single_concat ls k s (λ a b x y. let same : suc a ≡ suc b = apart (suc a) (suc b) x y in omega arith) (λ a. once (suc a)) e in
    let first : is_in l s ≡ false = false_from_ne_true (is_in l s) (λ t. let same : 0 ≡ suc k = apart 0 (suc k) t e in absurd (omega arith)) in
    record {
      before = l ++ at.before;
      after = at.after;
      whole = ap (λ ys. l ++ ys) at.whole ∙ sym (append_assoc l at.before (s ∷ at.after));
      absent = none_in l at.before s first at.absent;
      gone = at.gone;
    }
