-- Exit items on their chains, as they are linked and looked for.
use Rattle.std.proofs.Common.{◌≡◌, ◌≢◌, ◌&&◌, ℕ, ◌+◌, ◌-◌, ◌<◌, ◌≤◌, Bool, true, false, refl, sym, ap, subst, ◌∙◌, inl, inr, List, [], ◌∷◌, ◌++◌, length, get_or, set, get_or-set_same, get_or-set_other, arith}
use Rattle.std.specs.Prelude.{Option, Some, None, IfNone, IfSome, IsFalse, is_some}
use Rattle.std.proofs.lemmas.Bool.{and_parts, cases_eq, cases_lt, false_from_ne_true}
use Rattle.std.proofs.lemmas.List.{get_or_append_left}
use Rattle.std.proofs.lemmas.List.Folds.{list_any_at, list_any_none}
use Rattle.k_types.specs.declared.names.Heap.{Heap}
use Rattle.k_types.specs.declared.names.Name.{Name}
use Rattle.k_types.specs.Names.{heap_eq, name_eq}
use Rattle.k_types.specs.State.{ExitItem, has_exit}
use Rattle.k_laws.proofs.NameTests.{name_eq-true}
use Rattle.k_lists.specs.Hash.{bucket}
use Rattle.k_state.specs.Links.{AreLinked, IsExitAt, IsUpTo, Links}
use Rattle.k_state.specs.Marks.{marked}
use Rattle.k_state.proofs.Marked.{length_marked}

-- whether an item is the heap's to that target
abbrev pub is_exit : Heap → Name → ExitItem → Bool
is_exit h n e = heap_eq e.heap h && name_eq e.target n

-- the items behind so many are not looked for, and what stands there is of the chain of the target
pub record IsWalk (chains : ℕ) (items : List ExitItem) (h : Heap) (n : Name) (up_to : ℕ) : Type 0 where
  pub within : up_to ≤ length items
  pub last : (d : ExitItem) → 0 < up_to → bucket chains (get_or items (up_to - 1) d).target ≡ bucket chains n
  pub none : (k : ℕ) (d : ExitItem) → up_to ≤ k → k < length items → is_exit h n (get_or items k d) ≡ false

other_chain : (chains : ℕ) (h : Heap) (n : Name) (e : ExitItem) → bucket chains e.target ≢ bucket chains n → is_exit h n e ≡ false
other_chain chains h n e other =
    false_from_ne_true (is_exit h n e) (λ is. other (ap (bucket chains) (name_eq-true e.target n (and_parts (heap_eq e.heap h) (name_eq e.target n) is).1)))

pub walk_begins : (chains : ℕ) (items : List ExitItem) (h : Heap) (n : Name) (links : Links) → bucket chains n < chains →
    AreLinked items (length items) chains links → IsWalk chains items h n (get_or links.lasts (bucket chains n) 0)
walk_begins chains items h n links low linked =
    let up = linked.lasts (bucket chains n) low in
    record {
      within = up.within;
      last = up.last;
      none = λ k d from there. other_chain chains h n (get_or items k d) (up.others k d from there);
    }

pub walk_goes : (chains : ℕ) (items : List ExitItem) (h : Heap) (n : Name) (links : Links) (up_to : ℕ) (e : ExitItem) → 0 < up_to →
    AreLinked items (length items) chains links → IsWalk chains items h n up_to →
    ((d : ExitItem) → is_exit h n (get_or items (up_to - 1) d) ≡ false) → IsWalk chains items h n (get_or links.befores (up_to - 1) 0)
walk_goes chains items h n links up_to e some linked walk not_this =
    let at = up_to - 1 in
    let within : at < length items = let all = walk.within in omega (arith, all, some) in
    let back = linked.befores at e within in
    let here = walk.last e some in
    let before = back.within in
    record {
      within = omega (arith, before, within);
      last = λ d more. back.last d more ∙ here;
      none = λ k d from there.
          elim (cases_lt k at) [
            | inl less ↦ other_chain chains h n (get_or items k d) (λ same. back.others k d from less (same ∙ sym here))
            | inr more ↦
                elim (cases_eq at k) [
                  | inl same ↦ subst (λ i. is_exit h n (get_or items i d) ≡ false) same (not_this d)
                  | inr ne ↦ walk.none k d (omega (arith, more, ne, some)) there
                ]
          ];
    }

pub walk_finds : (chains : ℕ) (items : List ExitItem) (h : Heap) (n : Name) (up_to : ℕ) → 0 < up_to → IsWalk chains items h n up_to →
    ((d : ExitItem) → is_exit h n (get_or items (up_to - 1) d) ≡ true) → IsExitAt items h n (up_to - 1)
walk_finds chains items h n up_to some walk this =
    let all = walk.within in
    record {
      within = omega (arith, all, some);
      is = this;
      last = λ k d above there. walk.none k d (omega (arith, above, some)) there;
    }

pub walk_ends : (chains : ℕ) (items : List ExitItem) (h : Heap) (n : Name) (up_to : ℕ) → up_to ≤ 0 → IsWalk chains items h n up_to → has_exit items h n ≡ false
walk_ends chains items h n up_to over walk = list_any_none (is_exit h n) items (λ k d there. walk.none k d (omega (arith, over)) there)

pub exit_there : (items : List ExitItem) (h : Heap) (n : Name) (at : ℕ) (e : ExitItem) → IsExitAt items h n at → has_exit items h n ≡ true
exit_there items h n at e is = list_any_at (is_exit h n) items at e is.within (is.is e)

-- what is found says whether there is one
pub found_is : (items : List ExitItem) (h : Heap) (n : Name) (found : Option ℕ) → IfSome found (λ at. IsExitAt items h n at) → IfNone found (IsFalse (has_exit items h n)) →
    is_some found ≡ has_exit items h n
found_is items h n (Some at) some none = sym (exit_there items h n at (record { heap = h; target = n }) some)
found_is items h n None some none = sym none

module _ (chains : ℕ) (items : List ExitItem) where
  up_to_more : (chain at r : ℕ) → IsUpTo chains items chain at r → ((d : ExitItem) → bucket chains (get_or items at d).target ≢ chain) → IsUpTo chains items chain (at + 1) r
  up_to_more chain at r up other = record {
    within = let low = up.within in omega (arith, low);
    last = up.last;
    others = λ k d from there.
        elim (cases_eq at k) [
          | inl same ↦ subst (λ i. bucket chains (get_or items i d).target ≢ chain) same (other d)
          | inr ne ↦ up.others k d from (omega (arith, there, ne))
        ];
  }

  up_to_this : (chain at : ℕ) → ((d : ExitItem) → bucket chains (get_or items at d).target ≡ chain) → IsUpTo chains items chain (at + 1) (at + 1)
  up_to_this chain at this = record {
    within = omega arith;
    last = λ d some. let back : at ≡ at + 1 - 1 = omega arith in subst (λ i. bucket chains (get_or items i d).target ≡ chain) back (this d);
    others = λ k d from there. absurd (omega (arith, from, there));
  }

  -- one item more on its chain
  pub linked_next : (at c : ℕ) (lasts befores : List ℕ) → ((d : ExitItem) → bucket chains (get_or items at d).target ≡ c) → c < chains → chains ≡ length lasts → at < length befores →
      AreLinked items at chains (record { lasts = lasts; befores = befores }) →
      AreLinked items (at + 1) chains (record { lasts = set lasts c (at + 1); befores = set befores at (get_or lasts c 0) })
  linked_next at c lasts befores is low long room linked =
      let was = get_or lasts c 0 in record {
        lasts = λ chain there.
            elim (cases_eq c chain) [
              | inl same ↦
                  let now : at + 1 ≡ get_or (set lasts c (at + 1)) chain 0
                  = sym (get_or-set_same lasts c (at + 1) 0 (omega (arith, low, long))) ∙ ap (λ i. get_or (set lasts c (at + 1)) i 0) same in
                  subst (λ r. IsUpTo chains items chain (at + 1) r) now (up_to_this chain at (λ d. is d ∙ same))
              | inr ne ↦
                  subst (λ r. IsUpTo chains items chain (at + 1) r) (sym (get_or-set_other lasts c chain (at + 1) 0 (λ e. ne (sym e))))
                  (up_to_more chain at (get_or lasts chain 0) (linked.lasts chain there) (λ d e. ne (sym (is d) ∙ e)))
            ];
        befores = λ k d there.
            elim (cases_eq at k) [
              | inl same ↦
                  let now : was ≡ get_or (set befores at was) at 0 = sym (get_or-set_same befores at was 0 room) in
                  let here : IsUpTo chains items (bucket chains (get_or items at d).target) at (get_or (set befores at was) at 0)
                  = subst (λ r. IsUpTo chains items (bucket chains (get_or items at d).target) at r) now
                  (subst (λ chain. IsUpTo chains items chain at was) (sym (is d)) (linked.lasts c low)) in
                  subst (λ i. IsUpTo chains items (bucket chains (get_or items i d).target) i (get_or (set befores at was) i 0)) same here
              | inr ne ↦
                  subst (λ r. IsUpTo chains items (bucket chains (get_or items k d).target) k r) (sym (get_or-set_other befores at k was 0 (λ e. ne (sym e))))
                  (linked.befores k d (omega (arith, there, ne)))
            ];
      }

  -- chains without items
  pub linked_none : (lasts befores : List ℕ) → ((chain : ℕ) → chain < chains → get_or lasts chain 0 ≡ 0) → AreLinked items 0 chains (record { lasts = lasts; befores = befores })
  linked_none lasts befores empty = record {
    lasts = λ chain low. subst (λ r. IsUpTo chains items chain 0 r) (sym (empty chain low)) (record {
      within = omega arith;
      last = λ d some. absurd (omega (arith, some));
      others = λ k d from there. absurd (omega (arith, there));
    });
    befores = λ k d there. absurd (omega (arith, there));
  }

  -- only what is said of the items that are linked matters
  pub linked_same : (count : ℕ) (lasts befores befores' : List ℕ) → ((k : ℕ) → k < count → get_or befores' k 0 ≡ get_or befores k 0) →
      AreLinked items count chains (record { lasts = lasts; befores = befores }) → AreLinked items count chains (record { lasts = lasts; befores = befores' })
  linked_same count lasts befores befores' same linked = record {
    lasts = linked.lasts;
    befores = λ k d there. subst (λ r. IsUpTo chains items (bucket chains (get_or items k d).target) k r) (sym (same k there)) (linked.befores k d there);
  }

-- and items that stand behind them do not
up_to_pushed : (chains : ℕ) (items more : List ExitItem) (chain count r : ℕ) → count ≤ length items → IsUpTo chains items chain count r → IsUpTo chains (items ++ more) chain count r
up_to_pushed chains items more chain count r low up =
    let within = up.within in
    record {
      within = within;
      last = λ d some. subst (λ (e : ExitItem). bucket chains e.target ≡ chain) (sym (get_or_append_left items more d (r - 1) (omega (arith, low, within, some)))) (up.last d some);
      others = λ k d from there. subst (λ (e : ExitItem). bucket chains e.target ≢ chain) (sym (get_or_append_left items more d k (omega (arith, low, there)))) (up.others k d from there);
    }

pub linked_pushed : (chains : ℕ) (items more : List ExitItem) (links : Links) → AreLinked items (length items) chains links → AreLinked (items ++ more) (length items) chains links
linked_pushed chains items more links linked = record {
  lasts = λ chain low. up_to_pushed chains items more chain (length items) (get_or links.lasts chain 0) (omega arith) (linked.lasts chain low);
  befores = λ k d there.
      subst (λ (e : ExitItem). IsUpTo chains (items ++ more) (bucket chains e.target) k (get_or links.befores k 0)) (sym (get_or_append_left items more d k there))
      (up_to_pushed chains items more (bucket chains (get_or items k d).target) k (get_or links.befores k 0) (omega (arith, there)) (linked.befores k d there));
}

-- where no item goes all stay as they are
pub marked_all : {A : Type 0} (marks : List Bool) (xs : List A) → length xs ≤ length (marked marks xs) → marked marks xs ≡ xs
marked_all [] [] all = refl
marked_all [] (x ∷ xs) all = absurd (omega (arith, all))
marked_all (mark ∷ marks) [] all = refl
marked_all (true ∷ marks) (x ∷ xs) all = ap (λ ys. x ∷ ys) (marked_all marks xs (omega (arith, all)))
marked_all (false ∷ marks) (x ∷ xs) all = let few = length_marked marks xs in absurd (omega (arith, all, few))
