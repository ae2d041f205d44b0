-- What a removal does to the lists.
use Rattle.std.proofs.Common.{◌≡◌, ◌≢◌, ◌<◌, ℕ, suc, true, refl, sym, ap, subst, ◌∙◌, inl, inr, List, length, get_or, arith}
use Rattle.std.proofs.lemmas.Bool.{cases_eq}
use Rattle.std.proofs.lemmas.List.{length-map, get_or-set_same, get_or_default}
use Rattle.k_lists.specs.declared.lists.Links.{Links}
use Rattle.k_lists.specs.Lists.{ListsValue, members, is_in, without}
use Rattle.k_lists.specs.Linked.{at, blank, walk, lists_of, IsList, AreLinked, with_prev, with_next, with_head}
use Rattle.k_lists.proofs.Members.{without_in, distinct_without}
use Rattle.k_lists.proofs.Apart.{apart_in, apart_one, apart_distinct, apart_with, with_list}
use Rattle.k_lists.proofs.Walks.{IsSameAt, leads_to, head_in, next_in, prev_in, list_removed, past, past_i, past_others}
use Rattle.k_lists.proofs.Writes.{prev_length, prev_here, prev_other, prev_on, next_length, next_here, next_other, next_back, head_length, head_other}
use Rattle.k_lists.proofs.Steps.{AreLists, lists_with, member_list}

-- the links where the neighbours of a number lead past it
abbrev pub closed : List Links → ℕ → List Links
closed links i = with_prev (with_next links (at links i).prev (at links i).next) (at links i).next (at links i).prev

-- the links of a number to which i doesn't lead
pub closed_other : (links : List Links) (i j : ℕ) → (at links i).prev ≢ suc j → (at links i).next ≢ suc j → IsSameAt links (closed links i) j
closed_other links i j not_next not_prev =
    let mid = with_next links (at links i).prev (at links i).next in (
      prev_other mid (at links i).next (at links i).prev j not_prev ∙ next_back links (at links i).prev (at links i).next j,
      prev_on mid (at links i).next (at links i).prev j ∙ next_other links (at links i).prev (at links i).next j not_next,
    )

-- each member of the list leads past i
module _ (links : List Links) (link : ℕ) (xs : List ℕ) (i : ℕ) (list : IsList links 0 link xs) (is : is_in xs i ≡ true) where
  closed_back : (j : ℕ) → is_in xs j ≡ true → j < length links → (at (closed links i) j).prev ≡ past i (at links i).prev (at links j).prev
  closed_back j within low =
      let mid = with_next links (at links i).prev (at links i).next in
      elim (cases_eq (at links i).next (suc j)) [
        | inl leads ↦
            prev_here mid (at links i).next (at links i).prev j leads (omega (arith, low, next_length links (at links i).prev (at links i).next))
            ∙ sym (past_i i (at links i).prev (at links j).prev (next_in links 0 link xs i j list is leads).1)
        | inr apart ↦
            prev_other mid (at links i).next (at links i).prev j apart ∙ next_back links (at links i).prev (at links i).next j
            ∙ sym (past_others i (at links i).prev (at links j).prev (λ e. apart (prev_in links link xs j i list within e).1))
      ]

  closed_on : (j : ℕ) → is_in xs j ≡ true → j < length links → (at (closed links i) j).next ≡ past i (at links i).next (at links j).next
  closed_on j within low =
      let mid = with_next links (at links i).prev (at links i).next in
      prev_on mid (at links i).next (at links i).prev j
      ∙ elim (cases_eq (at links i).prev (suc j)) [
        | inl leads ↦
            next_here links (at links i).prev (at links i).next j leads low
            ∙ sym (past_i i (at links i).next (at links j).next (prev_in links link xs i j list is leads).1)
        | inr apart ↦
            next_other links (at links i).prev (at links i).next j apart
            ∙ sym (past_others i (at links i).next (at links j).next (λ e. apart (next_in links 0 link xs j i list within e).1))
      ]

  -- so does the head
  closed_head : (heads : List ℕ) (a next : ℕ) → a < length heads → get_or heads a 0 ≡ link → get_or (with_head heads a (at links i).prev next) a 0 ≡ past i next link
  closed_head heads a next low head = elim (leads_to links 0 link xs i list is) [
    | inl first ↦
        ap (λ p. get_or (with_head heads a p next) a 0) first.0 ∙ get_or-set_same heads a next 0 low ∙ sym (past_i i next link first.1)
    | inr later ↦
        ap (λ p. get_or (with_head heads a p next) a 0) later.2 ∙ head
        ∙ sym (past_others i next link (λ e. omega (arith, later.2, (head_in links 0 link xs i list e).1)))
  ]

  list_closed : ((j : ℕ) → is_in xs j ≡ true → j < length links) → IsList (closed links i) 0 (past i (at links i).next link) (without i xs)
  list_closed low =
      subst (λ p. IsList (closed links i) p (past i (at links i).next link) (without i xs)) (past_others i (at links i).prev 0 (λ e. omega (arith, e)))
      (list_removed links (closed links i) i 0 link xs list (λ j within _. closed_back j within (low j within)) (λ j within _. closed_on j within (low j within)))

lists_closed : (links : List Links) (heads : List ℕ) (list i : ℕ) → AreLinked links heads → is_in (members (lists_of links heads) list) i ≡ true →
    AreLists (closed links i) (with_head heads list (at links i).prev (at links i).next) (with_list (lists_of links heads) list (without i (members (lists_of links heads) list)))
lists_closed links heads list i old is =
    lists_with links (closed links i) heads (with_head heads list (at links i).prev (at links i).next) list (without i xs) old within
    (prev_length (with_next links (at links i).prev (at links i).next) (at links i).next (at links i).prev ∙ next_length links (at links i).prev (at links i).next)
    (head_length heads list (at links i).prev (at links i).next) (λ a differs. head_other heads list (at links i).prev (at links i).next a differs)
    (λ a j differs there.
    closed_other links i j
    (λ e. differs (apart_one v a list j old.apart there (prev_in links link xs i j was is e).0))
    (λ e. differs (apart_one v a list j old.apart there (next_in links 0 link xs i j was is e).0)))
    (subst (λ top. IsList (closed links i) 0 top (without i xs)) (sym (closed_head links link xs i was is heads list (at links i).next within refl))
    (list_closed links link xs i was is (λ j there. apart_in v list j old.apart there)))
    (apart_with v list (without i xs) old.apart (omega (arith, within, length-map heads (walk links (length links)))) (distinct_without xs i (apart_distinct v list old.apart))
    (λ j there. inl (without_in xs i j there)))
  where
    v : ListsValue
    v = lists_of links heads

    xs : List ℕ
    xs = members v list

    link : ℕ
    link = get_or heads list 0

    within : list < length heads
    within = member_list links heads list i is

    was : IsList links 0 link xs
    was = old.linked list within

-- the same from what the call knows: the value that it saw, and the links that it read
pub removed : (links mid new : List Links) (heads new_heads : List ℕ) (v : ListsValue) (list i : ℕ) (was : Links) → AreLinked links heads → lists_of links heads ≡ v →
    is_in (members v list) i ≡ true → was ≡ get_or links i was → mid ≡ with_next links was.prev was.next → new_heads ≡ with_head heads list was.prev was.next →
    new ≡ with_prev mid was.next was.prev → AreLists new new_heads (with_list v list (without i (members v list)))
removed links mid new heads new_heads v list i was old value within read mid_is heads_is new_is =
    let is = ap (λ (w : ListsValue). is_in (members w list) i) value ∙ within in
    let low : i < length links = apart_in (lists_of links heads) list i old.apart is in
    let here : at links i ≡ was = sym (read ∙ get_or_default links i was blank low) in
    subst (λ w. AreLists new new_heads (with_list w list (without i (members w list)))) value
    (subst (λ ls. AreLists ls new_heads (with_list (lists_of links heads) list (without i (members (lists_of links heads) list)))) (sym (new_is ∙ ap (λ ls. with_prev ls was.next was.prev) mid_is))
    (subst (λ hs. AreLists (with_prev (with_next links was.prev was.next) was.next was.prev) hs (with_list (lists_of links heads) list (without i (members (lists_of links heads) list)))) (sym heads_is)
    (subst (λ (y : Links). AreLists (with_prev (with_next links y.prev y.next) y.next y.prev) (with_head heads list y.prev y.next) (with_list (lists_of links heads) list (without i (members (lists_of links heads) list))))
    here (lists_closed links heads list i old is))))
