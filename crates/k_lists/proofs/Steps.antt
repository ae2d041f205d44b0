-- The lists of new links and heads, and what is below the room.
use Rattle.std.proofs.Common.{◌≡◌, ◌≢◌, ◌<◌, ◌≤◌, ◌^◌, ℕ, zero, suc, true, refl, sym, ap, subst, ◌∙◌, inl, inr, List, [], length, map, get_or, replicate, arith}
use Rattle.std.proofs.lemmas.Bool.{cases_eq, cases_lt, false≢true}
use Rattle.std.proofs.lemmas.List.{length-map, length-set, length-replicate, get_or-map, get_or-replicate, get_or_past, get_or_default, ext_get_or}
use Rattle.k_lists.specs.declared.lists.Links.{Links}
use Rattle.k_lists.specs.Lists.{ListsValue, AreApart, members, is_in}
use Rattle.k_lists.specs.Linked.{at, blank, walk, lists_of, IsList, AreLinked}
use Rattle.k_lists.proofs.Members.{AreDistinct}
use Rattle.k_lists.proofs.Apart.{apart_in, apart_length, apart_from, with_list, with_here, with_other}
use Rattle.k_lists.proofs.Walks.{walk_is, IsSameAt, list_stays, leads_to, leads_on, head_in}

-- the links and the heads are these lists
pub record AreLists (links : List Links) (heads : List ℕ) (v : ListsValue) : Type 0 where
  pub value : lists_of links heads ≡ v
  pub linked : AreLinked links heads

pub lists_from : (links : List Links) (heads : List ℕ) (v : ListsValue) → length links < 2 ^ 32 → v.room ≡ length links → length v.lists ≡ length heads →
    ((a : ℕ) → a < length heads → IsList links 0 (get_or heads a 0) (members v a)) → AreApart v → AreLists links heads v
lists_from links heads v small room long list apart = record {
  value = value;
  linked = record {
    small = small;
    linked = λ a within. subst (λ w. IsList links 0 (get_or heads a 0) (members w a)) (sym value) (list a within);
    apart = subst AreApart (sym value) apart;
  };
}
  where
    each : (a : ℕ) → a < length (map (walk links (length links)) heads) → get_or (map (walk links (length links)) heads) a [] ≡ get_or v.lists a []
    each a within =
        let low : a < length heads = omega (arith, within, length-map heads (walk links (length links))) in
        get_or-map (walk links (length links)) heads a 0 [] low
        ∙ walk_is links (length links) 0 (get_or heads a 0) (members v a) (list a low) (omega (arith, apart_length v a apart, room))

    value : lists_of links heads ≡ v
    value =
        ap (λ ls. record { lists = ls; room = length links }) (ext_get_or [] (map (walk links (length links)) heads) v.lists (length-map heads (walk links (length links)) ∙ sym long) each)
        ∙ ap (λ n. record { lists = v.lists; room = n }) (sym room)

pub lists_length : (links : List Links) (heads : List ℕ) (v : ListsValue) → lists_of links heads ≡ v → length v.lists ≡ length heads
lists_length links heads v value = ap (λ (w : ListsValue). length w.lists) (sym value) ∙ length-map heads (walk links (length links))

-- one list changes, and the members of the others keep their links
pub lists_with : (links new : List Links) (heads new_heads : List ℕ) (list : ℕ) (ys : List ℕ) → AreLinked links heads → list < length heads →
    length new ≡ length links → length new_heads ≡ length heads → ((a : ℕ) → a ≢ list → get_or new_heads a 0 ≡ get_or heads a 0) →
    ((a i : ℕ) → a ≢ list → is_in (members (lists_of links heads) a) i ≡ true → IsSameAt links new i) →
    IsList new 0 (get_or new_heads list 0) ys → AreApart (with_list (lists_of links heads) list ys) → AreLists new new_heads (with_list (lists_of links heads) list ys)
lists_with links new heads new_heads list ys old within long long_heads others same there apart =
    let v = lists_of links heads in
    let lists : length v.lists ≡ length heads = length-map heads (walk links (length links)) in
    lists_from new new_heads (with_list v list ys) (omega (arith, old.small, long)) (sym long) (length-set v.lists list ys ∙ lists ∙ sym long_heads)
    (λ a low. elim (cases_eq a list) [
      | inl is ↦
          subst (λ b. IsList new 0 (get_or new_heads b 0) (members (with_list v list ys) b)) (sym is)
          (subst (λ xs. IsList new 0 (get_or new_heads list 0) xs) (sym (with_here v list ys (omega (arith, within, lists)))) there)
      | inr differs ↦
          subst (λ xs. IsList new 0 (get_or new_heads a 0) xs) (sym (with_other v list ys a differs))
          (subst (λ link. IsList new 0 link (members v a)) (sym (others a differs))
          (list_stays links new 0 (get_or heads a 0) (members v a) (λ i is. same a i differs is) (old.linked a (omega (arith, low, long_heads)))))
    ]) apart

-- empty lists
pub lists_empty : (n room : ℕ) (blank : Links) → room < 2 ^ 32 → AreLists (replicate room blank) (replicate n 0) (record { lists = replicate n []; room = room })
lists_empty n room blank small =
    let v : ListsValue = record { lists = replicate n []; room = room } in
    lists_from (replicate room blank) (replicate n 0) v (omega (arith, small, length-replicate room blank)) (sym (length-replicate room blank))
    (length-replicate {A = List ℕ} n [] ∙ sym (length-replicate {A = ℕ} n 0))
    (λ a within.
    let low : a < n = omega (arith, within, length-replicate {A = ℕ} n 0) in
    subst (λ xs. IsList (replicate room blank) 0 (get_or (replicate n 0) a 0) xs) (sym (empty n room a)) (get_or-replicate n a 0 0 low))
    (apart_from v (λ a i is. absurd (none n room a i is)) (λ a. subst AreDistinct (sym (empty n room a)) tt) (λ a b i is _. absurd (none n room a i is)))
  where
    empty : (n room a : ℕ) → members (record { lists = replicate n []; room = room }) a ≡ []
    empty n room a = elim (cases_lt a n) [
      | inl low ↦ get_or-replicate {A = List ℕ} n a [] [] low
      | inr past_all ↦ get_or_past (replicate {A = List ℕ} n []) a [] (omega (arith, past_all, length-replicate {A = List ℕ} n []))
    ]

    none : (n room a i : ℕ) → is_in (members (record { lists = replicate n []; room = room }) a) i ≡ true → ⊥
    none n room a i is = false≢true (ap (λ xs. is_in xs i) (sym (empty n room a)) ∙ is)

-- a link leads to a number below the room, if it leads to one
pub head_within : (links : List Links) (heads : List ℕ) (list : ℕ) → AreLinked links heads → list < length heads → get_or heads list 0 ≤ length links
head_within links heads list old within = by_link (get_or heads list 0) refl
  where
    by_link : (link : ℕ) → get_or heads list 0 ≡ link → link ≤ length links
    by_link zero e = omega arith
    by_link (suc i) e =
        let is = head_in links 0 (get_or heads list 0) (members (lists_of links heads) list) i (old.linked list within) e in
        omega (arith, apart_in (lists_of links heads) list i old.apart is.0)

pub member_list : (links : List Links) (heads : List ℕ) (list i : ℕ) → is_in (members (lists_of links heads) list) i ≡ true → list < length heads
member_list links heads list i is = elim (cases_lt list (length heads)) [
  | inl within ↦ within
  | inr past_all ↦
      let none = get_or_past (lists_of links heads).lists list [] (omega (arith, past_all, length-map heads (walk links (length links)))) in
      absurd (false≢true (ap (λ xs. is_in xs i) (sym none) ∙ is))
]

pub member_within : (links : List Links) (heads : List ℕ) (v : ListsValue) (list i : ℕ) → AreLinked links heads → lists_of links heads ≡ v → is_in (members v list) i ≡ true → i < length links
member_within links heads v list i old value is = apart_in (lists_of links heads) list i old.apart (ap (λ (w : ListsValue). is_in (members w list) i) value ∙ is)

pub links_within : (links : List Links) (heads : List ℕ) (v : ListsValue) (list i : ℕ) (was : Links) → AreLinked links heads → lists_of links heads ≡ v → is_in (members v list) i ≡ true →
    was ≡ get_or links i was → (was.prev ≤ length links) × (was.next ≤ length links)
links_within links heads v list i was old value is read =
    subst (λ (y : Links). (y.prev ≤ length links) × (y.next ≤ length links)) (sym (read ∙ get_or_default links i was blank (member_within links heads v list i old value is))) (back, on)
  where
    within : is_in (members (lists_of links heads) list) i ≡ true
    within = ap (λ (w : ListsValue). is_in (members w list) i) value ∙ is

    whole : IsList links 0 (get_or heads list 0) (members (lists_of links heads) list)
    whole = old.linked list (member_list links heads list i within)

    back : (at links i).prev ≤ length links
    back = elim (leads_to links 0 (get_or heads list 0) (members (lists_of links heads) list) i whole within) [
      | inl first ↦ omega (arith, first.0)
      | inr later ↦ omega (arith, later.2, apart_in (lists_of links heads) list later.0 old.apart later.1)
    ]

    on : (at links i).next ≤ length links
    on = elim (leads_on links 0 (get_or heads list 0) (members (lists_of links heads) list) i whole within) [
      | inl end ↦ omega (arith, end)
      | inr later ↦ omega (arith, later.2, apart_in (lists_of links heads) list later.0 old.apart later.1)
    ]
