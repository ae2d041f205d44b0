-- What is noted of references, exit item by exit item.
use Rattle.std.proofs.Common.{◌≡◌, ℕ, ◌<◌, ◌||◌, Bool, true, false, refl, sym, ap, subst, ◌∙◌, inl, inr, List, get_or, set, length, length-set, replicate, get_or-set_same, get_or-set_other, arith}
use Rattle.std.proofs.lemmas.Bool.{and_from, and_parts, cases_eq, cases_lt, false≢true, false_from_ne_true}
use Rattle.std.proofs.lemmas.List.{get_or-replicate, length-replicate}
use Rattle.std.proofs.lemmas.List.Folds.{list_any_at}
use Rattle.k_types.specs.declared.names.Heap.{Heap}
use Rattle.k_types.specs.declared.names.Name.{Name}
use Rattle.k_types.specs.Names.{heap_eq, name_eq}
use Rattle.k_types.specs.State.{ExitItem, has_exit}
use Rattle.k_types.proofs.NameTests.{name_eq-same, name_eq-true, name_eq_refl}
use Rattle.k_state.specs.Links.{IsExitAt}
use Rattle.k_state.proofs.Linked.{exit_there, is_exit}
use Rattle.k_scan.specs.Notes.{AreNoted, HasNoted}

or_true : (a : Bool) → (a || true) ≡ true
or_true true = refl
or_true false = refl

pub or_false : (a : Bool) → (a || false) ≡ a
or_false true = refl
or_false false = refl

module _ (exits : List ExitItem) (h : Heap) where
  -- some item, where one is needed
  abbrev item : Name → ExitItem
  item n = record { heap = h; target = n }

  target_is : (n : Name) (at : ℕ) → IsExitAt exits h n at → (get_or exits at (item n)).target ≡ n
  target_is n at is =
      let e = get_or exits at (item n) in
      name_eq-true e.target n (and_parts (heap_eq e.heap h) (name_eq e.target n) (is.is (item n))).1

  -- no two places are a target's last
  one_place : (n : Name) (at k : ℕ) → IsExitAt exits h n at → IsExitAt exits h n k → at ≡ k
  one_place n at k a b =
      elim (cases_eq at k) [
        | inl same ↦ same
        | inr ne ↦
            elim (cases_lt at k) [
              | inl less ↦ absurd (false≢true (sym (a.last k (item n) less b.within) ∙ b.is (item n)))
              | inr more ↦ absurd (false≢true (sym (b.last at (item n) (omega (arith, more, ne)) a.within) ∙ a.is (item n)))
            ]
      ]

  pub noted_one : (name : Name) (old : List Bool) (at : ℕ) → length old ≡ length exits → IsExitAt exits h name at → HasNoted exits h (λ n. name_eq name n) old (set old at true)
  noted_one name old at long found = record {
    size = length-set old at true;
    marks = λ n k is.
        elim (cases_eq at k) [
          | inl same ↦
              let here : get_or (set old at true) k false ≡ true
              = ap (λ i. get_or (set old at true) i false) (sym same) ∙ get_or-set_same old at true false (omega (arith, long, found.within)) in
              let one : name ≡ n
              = sym (target_is name at found) ∙ ap (λ i. (get_or exits i (item name)).target) same
              ∙ name_eq-true (get_or exits k (item name)).target n (and_parts (heap_eq (get_or exits k (item name)).heap h) (name_eq (get_or exits k (item name)).target n) (is.is (item name))).1 in
              here ∙ sym (ap (λ b. get_or old k false || b) (name_eq-same name n one) ∙ or_true (get_or old k false))
          | inr ne ↦
              let other : name_eq name n ≡ false
              = false_from_ne_true (name_eq name n) (λ t. ne (one_place n at k (subst (λ m. IsExitAt exits h m at) (name_eq-true name n t) found) is)) in
              get_or-set_other old at k true false (λ e. ne (sym e)) ∙ sym (ap (λ b. get_or old k false || b) other ∙ or_false (get_or old k false))
        ];
  }

  pub noted_absent : (name : Name) (old : List Bool) → has_exit exits h name ≡ false → HasNoted exits h (λ n. name_eq name n) old old
  noted_absent name old none = record {
    size = refl;
    marks = λ n k is.
        let other : name_eq name n ≡ false
        = false_from_ne_true (name_eq name n) (λ t.
        let one = name_eq-true name n t in
        false≢true (sym none ∙ ap (has_exit exits h) one ∙ exit_there exits h n k (item n) is)) in
        sym (ap (λ b. get_or old k false || b) other ∙ or_false (get_or old k false));
  }

  pub noted_none : (test : Name → Bool) (old : List Bool) → ((n : Name) → test n ≡ false) → HasNoted exits h test old old
  noted_none test old none = record {
    size = refl;
    marks = λ n k is. sym (ap (λ b. get_or old k false || b) (none n) ∙ or_false (get_or old k false));
  }

  both : (a s t : Bool) → ((a || s) || t) ≡ (a || (s || t))
  both true s t = refl
  both false s t = refl

  pub noted_more : (first then all : Name → Bool) (old now new : List Bool) → ((n : Name) → all n ≡ (first n || then n)) →
      HasNoted exits h first old now → HasNoted exits h then now new → HasNoted exits h all old new
  noted_more first then all old now new is a b = record {
    size = b.size ∙ a.size;
    marks = λ n k found.
        b.marks n k found
        ∙ ap (λ m. m || then n) (a.marks n k found)
        ∙ both (get_or old k false) (first n) (then n)
        ∙ ap (λ m. get_or old k false || m) (sym (is n));
  }

  pub noted_same : (test other : Name → Bool) (old new : List Bool) → ((n : Name) → other n ≡ test n) → HasNoted exits h test old new → HasNoted exits h other old new
  noted_same test other old new same noted = record {
    size = noted.size;
    marks = λ n k found. noted.marks n k found ∙ ap (λ b. get_or old k false || b) (sym (same n));
  }

  pub noted_all : (test : Name → Bool) (none marks : List Bool) → none ≡ replicate (length exits) false → HasNoted exits h test none marks → AreNoted exits h test marks
  noted_all test none marks clear noted = record {
    size = noted.size ∙ ap (λ (ms : List Bool). length ms) clear ∙ length-replicate (length exits) false;
    marks = λ n k found.
        noted.marks n k found
        ∙ ap (λ b. b || test n) (ap (λ (ms : List Bool). get_or ms k false) clear ∙ get_or-replicate (length exits) k false false found.within);
  }

  -- an item of the heap is one to its target
  pub own_there : (i : ℕ) (e : ExitItem) → i < length exits → e ≡ get_or exits i e → heap_eq e.heap h ≡ true → has_exit exits h e.target ≡ true
  own_there i e inside is own =
      list_any_at (is_exit h e.target) exits i e inside
      (ap (is_exit h e.target) (sym is) ∙ and_from (heap_eq e.heap h) (name_eq e.target e.target) own (name_eq_refl e.target))
