-- A segment that came onto a walk, or went off it, where its list was empty.
use Rattle.std.proofs.Common.{◌≡◌, ◌≢◌, ℕ, ◌<◌, true, false, refl, sym, ap, subst, ◌∙◌, List, [], ◌∷◌, length, arith}
use Rattle.std.specs.List.{concat}
use Rattle.k_lists.specs.Lists.{ListsValue, AreApart, IsFree, members, is_in}
use Rattle.k_entry.specs.Slots.{entered, left}
use Rattle.k_lists.proofs.Apart.{apart_one}
use Rattle.k_lists.proofs.Members.{in_head}
use Rattle.k_entry.proofs.Members.{once_of, in_within}
use Rattle.k_entry.proofs.Joined.{Single, joined, joined_empty, single_with, single_concat, in_concat}
use Rattle.k_entry.proofs.Changes.{IsPut, put_old, put_new, put_cases, put_size, put_joined, IsOut, out_old, out_other, out_gone, out_size, out_joined}
use Rattle.std.proofs.lemmas.Bool.{false_from_ne_true}

-- the segment is on the walk, where its list was that
pub record IsEntered (v w : ListsValue) (walk s : ℕ) (xs : List ℕ) : Type 0 where
  pub there : is_in (members w walk) s ≡ true
  pub old : (a x : ℕ) → is_in (members v a) x ≡ true → is_in (members w a) x ≡ true
  pub others : (a x : ℕ) → is_in (members w a) x ≡ true → (x ≢ s) → is_in (members v a) x ≡ true
  pub only : (a : ℕ) → is_in (members w a) s ≡ true → a ≡ walk
  pub single : Single (concat w.lists) s
  pub same : (g : ℕ → List ℕ) → g s ≡ xs → joined g (concat w.lists) ≡ joined g (concat v.lists)
  pub size : length w.lists ≡ length v.lists
  pub room : w.room ≡ v.room

pub entered_of : (v w : ListsValue) (walk s : ℕ) (xs : List ℕ) → walk < length v.lists → AreApart v → w ≡ entered v walk s xs → (xs ≡ [] → IsFree v s) → ((j : ℕ) → is_in xs j ≡ true → is_in (members v walk) s ≡ true) → IsEntered v w walk s xs
entered_of v w walk s [] within apart e free on =
    let p : IsPut v w walk s = record { within = within; is = e } in
    let off = free refl in
    record {
      there = put_new v w walk s p;
      old = λ a x t. put_old v w walk s a x p t;
      others = λ a x t ne. put_cases v w walk s a x (is_in (members v a) x ≡ true) p t (λ o. o) (λ la is. absurd (ne is));
      only = λ a t. put_cases v w walk s a s (a ≡ walk) p t (λ o. let bad : true ≡ false = sym o ∙ off a in absurd (cc)) (λ la is. la);
      single = single_with s (concat v.lists) (concat w.lists) (put_joined v w walk s p) (false_from_ne_true (is_in (concat v.lists) s) (λ t. let k = in_concat v.lists s t in let bad : true ≡ false = sym k.1 ∙ off k.0 in absurd (cc)));
      same = λ g empty. joined_empty g s (concat v.lists) (concat w.lists) (put_joined v w walk s p) empty;
      size = (put_size v w walk s p).0;
      room = (put_size v w walk s p).1;
    }
entered_of v w walk s (j ∷ js) within apart e free on =
    let there : is_in (members v walk) s ≡ true = on j (in_head j js) in
    record {
      there = ap (λ (u : ListsValue). is_in (members u walk) s) e ∙ there;
      old = λ a x t. ap (λ (u : ListsValue). is_in (members u a) x) e ∙ t;
      others = λ a x t ne. sym (ap (λ (u : ListsValue). is_in (members u a) x) e) ∙ t;
      only = λ a t. apart_one v a walk s apart (sym (ap (λ (u : ListsValue). is_in (members u a) s) e) ∙ t) there;
      single = subst (λ (u : ListsValue). Single (concat u.lists) s) (sym e) (single_concat v.lists walk s (λ a b x y. apart_one v a b s apart x y) (λ a. once_of v a apart) there);
      same = λ g full. ap (λ (u : ListsValue). joined g (concat u.lists)) e;
      size = ap (λ (u : ListsValue). length u.lists) e;
      room = ap (λ (u : ListsValue). u.room) e;
    }

-- the segment is off the walk, where its list is empty now
pub record IsLeft (v w : ListsValue) (walk s : ℕ) (xs : List ℕ) : Type 0 where
  pub old : (a x : ℕ) → is_in (members w a) x ≡ true → is_in (members v a) x ≡ true
  pub others : (a x : ℕ) → is_in (members v a) x ≡ true → (x ≢ s) → is_in (members w a) x ≡ true
  pub stays : (j : ℕ) → is_in xs j ≡ true → is_in (members w walk) s ≡ true
  pub some : (a : ℕ) → is_in (members w a) s ≡ true → 0 < length xs
  pub same : (g : ℕ → List ℕ) → g s ≡ xs → joined g (concat v.lists) ≡ joined g (concat w.lists)
  pub size : length w.lists ≡ length v.lists
  pub room : w.room ≡ v.room

pub left_of : (v w : ListsValue) (walk s : ℕ) (xs : List ℕ) → AreApart v → w ≡ left v walk s xs → is_in (members v walk) s ≡ true → IsLeft v w walk s xs
left_of v w walk s [] apart e on =
    let p : IsOut v w walk s = record { within = in_within v walk s on; is = e } in
    record {
      old = λ a x t. out_old v w walk s a x p t;
      others = λ a x t ne. out_other v w walk s a x p t ne;
      stays = λ j t. absurd (cc);
      some = λ a t.
          let same : a ≡ walk = apart_one v a walk s apart (out_old v w walk s a s p t) on in
          absurd (out_gone v w walk s p (subst (λ l. is_in (members w l) s ≡ true) same t));
      same = λ g empty. joined_empty g s (concat w.lists) (concat v.lists) (out_joined v w walk s apart p on) empty;
      size = (out_size v w walk s p).0;
      room = (out_size v w walk s p).1;
    }
left_of v w walk s (j ∷ js) apart e on =
    record {
      old = λ a x t. sym (ap (λ (u : ListsValue). is_in (members u a) x) e) ∙ t;
      others = λ a x t ne. ap (λ (u : ListsValue). is_in (members u a) x) e ∙ t;
      stays = λ k t. ap (λ (u : ListsValue). is_in (members u walk) s) e ∙ on;
      some = λ a t. omega arith;
      same = λ g full. sym (ap (λ (u : ListsValue). joined g (concat u.lists)) e);
      size = ap (λ (u : ListsValue). length u.lists) e;
      room = ap (λ (u : ListsValue). u.room) e;
    }
