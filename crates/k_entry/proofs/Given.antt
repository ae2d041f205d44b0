-- The slot that is taken for an item.
use Rattle.std.proofs.Common.{◌≡◌, ◌≢◌, ℕ, get_or, inl, inr, ◌<◌, true, false, refl, sym, ap, ◌∙◌, List, [], ◌∷◌, ◌++◌, length, set, slice_get, Option, Some, None, length-append, length-set, get_or-set_same, get_or-set_other, arith}
use Rattle.std.proofs.Math.Seq.{get_or-append_seam}
use Rattle.std.proofs.lemmas.List.{get_or_append_left, get_or_past}
use Rattle.std.proofs.lemmas.Bool.{cases_lt, false_from_ne_true}
use Rattle.std.specs.Option.{is_some}
use Rattle.k_lists.specs.Lists.{ListsValue, AreApart, members, is_in}
use Rattle.k_entry.specs.declared.item.Item.{Item}
use Rattle.k_entry.specs.Slots.{blank, GivesSlot}
use Rattle.k_lists.proofs.Members.{in_at, in_head}
use Rattle.k_entry.proofs.With.{with_length}
use Rattle.k_entry.proofs.Changes.{IsOut, out_there, out_old, out_free, out_size, out_with}

pub given_again : (slots : List Item) (v w : ListsValue) (free i : ℕ) (item : Item) → AreApart v → IsOut v w free i → is_in (members v free) i ≡ true → i < length slots → GivesSlot slots (set slots i item) v w free i item
given_again slots v w free i item apart out there within = record {
  here = get_or-set_same slots i item blank within;
  others = λ j ne. get_or-set_other slots i j item blank ne;
  within = omega (arith, within, length-set slots i item);
  grows = omega (arith, length-set slots i item);
  by_one = omega (arith, length-set slots i item);
  again = λ some. length-set slots i item;
  count = omega (arith, length-set slots i item, with_length i (members w free) (members v free) (out_with v w free i apart out there));
  same = λ list ne. out_there v w free i list out ne;
  rest = λ j e. out_old v w free i free j out e;
  unlisted = out_free v w free i apart out there;
  size = (out_size v w free i out).0;
  room = (out_size v w free i out).1;
}

-- past the last slot there is none, before and after
elsewhere : (slots : List Item) (item : Item) (j : ℕ) → (j ≡ length slots → ⊥) → get_or (slots ++ item ∷ []) j blank ≡ get_or slots j blank
elsewhere slots item j ne =
    elim (cases_lt j (length slots)) [
      | inl below ↦ get_or_append_left slots (item ∷ []) blank j below
      | inr past ↦ get_or_past (slots ++ item ∷ []) j blank (let apart : j ≢ length slots = ne in omega (arith, past, apart, length-append slots (item ∷ []))) ∙ sym (get_or_past slots j blank past)
    ]

pub given_new : (slots : List Item) (v : ListsValue) (free : ℕ) (item : Item) → ((list i : ℕ) → is_in (members v list) i ≡ true → i < length slots) → length (members v free) ≡ 0 → GivesSlot slots (slots ++ item ∷ []) v v free (length slots) item
given_new slots v free item fresh none = record {
  here = get_or-append_seam slots item [] blank;
  others = λ j ne. elsewhere slots item j ne;
  within = omega (arith, length-append slots (item ∷ []));
  grows = omega (arith, length-append slots (item ∷ []));
  by_one = omega (arith, length-append slots (item ∷ []));
  again = λ some. absurd (omega (arith, some, none));
  count = omega (arith, length-append slots (item ∷ []), none);
  same = λ list ne. refl;
  rest = λ j e. e;
  unlisted = λ list. false_from_ne_true (is_in (members v list) (length slots)) (λ e. absurd (omega (arith, fresh list (length slots) e)));
  size = refl;
  room = refl;
}

-- a list has a first member, or is empty
pub first_in : (xs : List ℕ) (i : ℕ) → Some i ≡ slice_get xs 0 → is_in xs i ≡ true
first_in xs i e = in_at xs 0 i (sym e)

pub first_none : (xs : List ℕ) → None ≡ slice_get xs 0 → xs ≡ []
first_none [] e = refl
first_none (x ∷ xs) e = absurd (cc)

pub some_first : (xs : List ℕ) (o : Option ℕ) → o ≡ slice_get xs 0 → is_some o ≡ true → 0 < length xs
some_first [] o e is = absurd (let bad : false ≡ true = sym (ap (λ (m : Option ℕ). is_some m) e) ∙ is in cc)
some_first (x ∷ xs) o e is = omega arith

pub some_in : (xs : List ℕ) → 0 < length xs → (j : ℕ) × (is_in xs j ≡ true)
some_in [] some = absurd (omega arith)
some_in (x ∷ xs) some = (x, in_head x xs)
