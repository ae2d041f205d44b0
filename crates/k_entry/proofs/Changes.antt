-- What lists have after a number was put into one of them, or taken out.
use Rattle.std.proofs.Common.{◌≡◌, ◌≢◌, ◌==◌, ℕ, ◌<◌, Bool, true, false, refl, sym, ap, subst, ◌∙◌, ◌∷◌, length, set, eqb-true, eq-eqb, length-set}
use Rattle.std.proofs.lemmas.Bool.{false_from_ne_true}
use Rattle.std.specs.List.{concat}
use Rattle.k_lists.specs.Lists.{ListsValue, AreApart, IsFree, members, is_in, without}
use Rattle.k_lists.proofs.Apart.{apart_one}
use Rattle.k_lists.proofs.Members.{in_head}
use Rattle.k_entry.proofs.Members.{members_here, members_there, cons_in, in_cons, without_in, in_without, once_of}
use Rattle.k_entry.proofs.With.{IsWith, with_front, with_without, concat_more, concat_less}

-- two numbers are one, or they are not
pub same_or_not : (a b : ℕ) (P : Type 0) → (a ≡ b → P) → ((a ≢ b) → P) → P
same_or_not a b P one two = by_test (a == b) refl
  where
    by_test : (t : Bool) → (a == b) ≡ t → P
    by_test true e = one (eqb-true a b e)
    by_test false e = two (λ same. let bad : true ≡ false = sym (eq-eqb a b same) ∙ e in absurd (cc))

-- the number came to the front of a list
pub record IsPut (v w : ListsValue) (list i : ℕ) : Type 0 where
  pub within : list < length v.lists
  pub is : w ≡ record v { lists = set v.lists list (i ∷ members v list) }

pub put_here : (v w : ListsValue) (list i : ℕ) → IsPut v w list i → members w list ≡ i ∷ members v list
put_here v w list i p = ap (λ (u : ListsValue). members u list) p.is ∙ members_here v list (i ∷ members v list) p.within

pub put_there : (v w : ListsValue) (list i other : ℕ) → IsPut v w list i → (other ≢ list) → members w other ≡ members v other
put_there v w list i other p ne = ap (λ (u : ListsValue). members u other) p.is ∙ members_there v list other (i ∷ members v list) ne

pub put_old : (v w : ListsValue) (list i other x : ℕ) → IsPut v w list i → is_in (members v other) x ≡ true → is_in (members w other) x ≡ true
put_old v w list i other x p e = same_or_not other list (is_in (members w other) x ≡ true)
    (λ same. subst (λ l. is_in (members w l) x ≡ true) (sym same) (ap (λ xs. is_in xs x) (put_here v w list i p) ∙ cons_in i x (members v list) (subst (λ l. is_in (members v l) x ≡ true) same e)))
    (λ ne. ap (λ xs. is_in xs x) (put_there v w list i other p ne) ∙ e)

pub put_new : (v w : ListsValue) (list i : ℕ) → IsPut v w list i → is_in (members w list) i ≡ true
put_new v w list i p = ap (λ xs. is_in xs i) (put_here v w list i p) ∙ in_head i (members v list)

pub put_cases : (v w : ListsValue) (list i other x : ℕ) (P : Type 0) → IsPut v w list i → is_in (members w other) x ≡ true → (is_in (members v other) x ≡ true → P) → (other ≡ list → x ≡ i → P) → P
put_cases v w list i other x P p e old new = same_or_not other list P
    (λ same. same_or_not x i P (λ is. new same is)
    (λ ne. old (subst (λ l. is_in (members v l) x ≡ true) (sym same) (in_cons i x (members v list) (sym (ap (λ xs. is_in xs x) (put_here v w list i p)) ∙ subst (λ l. is_in (members w l) x ≡ true) same e) (λ t. ne (sym t))))))
    (λ ne. old (sym (ap (λ xs. is_in xs x) (put_there v w list i other p ne)) ∙ e))

pub put_size : (v w : ListsValue) (list i : ℕ) → IsPut v w list i → (length w.lists ≡ length v.lists) × (w.room ≡ v.room)
put_size v w list i p = (ap (λ (u : ListsValue). length u.lists) p.is ∙ length-set v.lists list (i ∷ members v list), ap (λ (u : ListsValue). u.room) p.is)

-- the number went out of a list
pub record IsOut (v w : ListsValue) (list i : ℕ) : Type 0 where
  pub within : list < length v.lists
  pub is : w ≡ record v { lists = set v.lists list (without i (members v list)) }

pub out_here : (v w : ListsValue) (list i : ℕ) → IsOut v w list i → members w list ≡ without i (members v list)
out_here v w list i p = ap (λ (u : ListsValue). members u list) p.is ∙ members_here v list (without i (members v list)) p.within

pub out_there : (v w : ListsValue) (list i other : ℕ) → IsOut v w list i → (other ≢ list) → members w other ≡ members v other
out_there v w list i other p ne = ap (λ (u : ListsValue). members u other) p.is ∙ members_there v list other (without i (members v list)) ne

pub out_old : (v w : ListsValue) (list i other x : ℕ) → IsOut v w list i → is_in (members w other) x ≡ true → is_in (members v other) x ≡ true
out_old v w list i other x p e = same_or_not other list (is_in (members v other) x ≡ true)
    (λ same. subst (λ l. is_in (members v l) x ≡ true) (sym same) (without_in i x (members v list) (sym (ap (λ xs. is_in xs x) (out_here v w list i p)) ∙ subst (λ l. is_in (members w l) x ≡ true) same e)).1)
    (λ ne. sym (ap (λ xs. is_in xs x) (out_there v w list i other p ne)) ∙ e)

pub out_other : (v w : ListsValue) (list i other x : ℕ) → IsOut v w list i → is_in (members v other) x ≡ true → (x ≢ i) → is_in (members w other) x ≡ true
out_other v w list i other x p e off = same_or_not other list (is_in (members w other) x ≡ true)
    (λ same. subst (λ l. is_in (members w l) x ≡ true) (sym same) (ap (λ xs. is_in xs x) (out_here v w list i p) ∙ in_without i x (members v list) (subst (λ l. is_in (members v l) x ≡ true) same e) (λ t. off (sym t))))
    (λ ne. ap (λ xs. is_in xs x) (out_there v w list i other p ne) ∙ e)

-- it is in that list no more
pub out_gone : (v w : ListsValue) (list i : ℕ) → IsOut v w list i → is_in (members w list) i ≡ true → ⊥
out_gone v w list i p e = (without_in i i (members v list) (sym (ap (λ xs. is_in xs i) (out_here v w list i p)) ∙ e)).0 refl

-- and in no other
pub out_free : (v w : ListsValue) (list i : ℕ) → AreApart v → IsOut v w list i → is_in (members v list) i ≡ true → IsFree w i
out_free v w list i apart p there = λ other. false_from_ne_true (is_in (members w other) i) (λ e.
    let same : other ≡ list = apart_one v other list i apart (out_old v w list i other i p e) there in
    out_gone v w list i p (subst (λ l. is_in (members w l) i ≡ true) same e))

pub out_size : (v w : ListsValue) (list i : ℕ) → IsOut v w list i → (length w.lists ≡ length v.lists) × (w.room ≡ v.room)
out_size v w list i p = (ap (λ (u : ListsValue). length u.lists) p.is ∙ length-set v.lists list (without i (members v list)), ap (λ (u : ListsValue). u.room) p.is)

-- the lists joined
pub put_joined : (v w : ListsValue) (list i : ℕ) → IsPut v w list i → IsWith i (concat v.lists) (concat w.lists)
put_joined v w list i p = subst (λ (u : ListsValue). IsWith i (concat v.lists) (concat u.lists)) (sym p.is) (concat_more v.lists list i (i ∷ members v list) p.within (with_front i (members v list)))

pub out_with : (v w : ListsValue) (list i : ℕ) → AreApart v → IsOut v w list i → is_in (members v list) i ≡ true → IsWith i (members w list) (members v list)
out_with v w list i apart p e = subst (λ xs. IsWith i xs (members v list)) (sym (out_here v w list i p)) (with_without i (members v list) (once_of v list apart) e)

pub out_joined : (v w : ListsValue) (list i : ℕ) → AreApart v → IsOut v w list i → is_in (members v list) i ≡ true → IsWith i (concat w.lists) (concat v.lists)
out_joined v w list i apart p e = subst (λ (u : ListsValue). IsWith i (concat u.lists) (concat v.lists)) (sym p.is) (concat_less v.lists list i (without i (members v list)) p.within (with_without i (members v list) (once_of v list apart) e))
