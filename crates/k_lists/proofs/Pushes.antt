-- What a push does to the lists.
use Rattle.std.proofs.Common.{◌≡◌, ◌≢◌, ◌<◌, ◌+◌, ℕ, suc, refl, sym, ap, subst, ◌∙◌, inl, inr, List, ◌∷◌, length, get_or, set, add-one, arith}
use Rattle.std.proofs.lemmas.List.{length-map, length-set, get_or_default, get_or-set_same, get_or-set_other}
use Rattle.k_lists.specs.declared.lists.Links.{Links}
use Rattle.k_lists.specs.Lists.{ListsValue, IsFree, members}
use Rattle.k_lists.specs.Linked.{at, walk, lists_of, IsList, AreLinked, with_prev}
use Rattle.k_lists.proofs.Members.{in_cases, in_differs}
use Rattle.k_lists.proofs.Apart.{apart_in, apart_one, apart_distinct, apart_with, with_list}
use Rattle.k_lists.proofs.Walks.{head_in, list_pushed}
use Rattle.k_lists.proofs.Writes.{set_here, set_other, prev_length, prev_here, prev_other, prev_on}
use Rattle.k_lists.proofs.Steps.{AreLists, lists_length, lists_with}

-- a number in front of a list
pub lists_pushed : (links : List Links) (heads : List ℕ) (list i link up : ℕ) → AreLinked links heads → list < length heads → i < length links → IsFree (lists_of links heads) i →
    link ≡ get_or heads list 0 → up ≡ suc i →
    AreLists (with_prev (set links i (record { prev = 0; next = link })) link up) (set heads list up) (with_list (lists_of links heads) list (i ∷ members (lists_of links heads) list))
lists_pushed links heads list i link up old within low free head above =
    lists_with links new heads (set heads list up) list (i ∷ xs) old within (prev_length mid link up ∙ length-set links i here) (length-set heads list up)
    (λ a differs. get_or-set_other heads list a up 0 differs)
    (λ a j differs is.
    let not_led : link ≢ suc j = λ e. differs (apart_one v a list j old.apart is (head_in links 0 link xs j was e).0) in
    (prev_other mid link up j not_led ∙ ap (λ (y : Links). y.prev) (set_other links i here j (in_differs (members v a) i j (free a) is)), on j (in_differs (members v a) i j (free a) is)))
    (subst (λ top. IsList new 0 top (i ∷ xs)) (sym (get_or-set_same heads list up 0 within ∙ above))
    (list_pushed links new i link xs was (apart_distinct v list old.apart)
    (prev_other mid link up i (λ e. in_differs xs i i (free list) (head_in links 0 link xs i was e).0 refl) ∙ ap (λ (y : Links). y.prev) (set_here links i here low))
    (prev_on mid link up i ∙ ap (λ (y : Links). y.next) (set_here links i here low))
    (λ j is leads. prev_here mid link up j leads (omega (arith, apart_in v list j old.apart is, length-set links i here)) ∙ above)
    (λ j is leads. prev_other mid link up j leads ∙ ap (λ (y : Links). y.prev) (set_other links i here j (in_differs xs i j (free list) is)))
    (λ j is. on j (in_differs xs i j (free list) is))))
    (apart_with v list (i ∷ xs) old.apart (omega (arith, within, length-map heads (walk links (length links)))) (free list, apart_distinct v list old.apart)
    (λ j is. elim (in_cases i xs j is) [ inl same ↦ inr (subst (λ k. IsFree v k × (k < length links)) same (free, low)) | inr was_in ↦ inl was_in ]))
  where
    v : ListsValue
    v = lists_of links heads

    xs : List ℕ
    xs = members v list

    here : Links
    here = record { prev = 0; next = link }

    mid : List Links
    mid = set links i here

    new : List Links
    new = with_prev mid link up

    was : IsList links 0 link xs
    was = subst (λ top. IsList links 0 top xs) (sym head) (old.linked list within)

    on : (j : ℕ) → j ≢ i → (at new j).next ≡ (at links j).next
    on j differs = prev_on mid link up j ∙ ap (λ (y : Links). y.next) (set_other links i here j differs)

-- the same from what the call knows: the value that it saw, and the head that it read
pub pushed : (links new : List Links) (heads : List ℕ) (v : ListsValue) (list i link : ℕ) → AreLinked links heads → lists_of links heads ≡ v → list < length v.lists → i < v.room →
    IsFree v i → link ≡ get_or heads list link → new ≡ with_prev (set links i (record { prev = 0; next = link })) link (i + 1) →
    AreLists new (set heads list (i + 1)) (with_list v list (i ∷ members v list))
pushed links new heads v list i link old value within low free head is =
    let low_list : list < length heads = omega (arith, within, lists_length links heads v value) in
    subst (λ ls. AreLists ls (set heads list (i + 1)) (with_list v list (i ∷ members v list))) (sym is)
    (subst (λ w. AreLists (with_prev (set links i (record { prev = 0; next = link })) link (i + 1)) (set heads list (i + 1)) (with_list w list (i ∷ members w list))) value
    (lists_pushed links heads list i link (i + 1) old low_list (omega (arith, low, ap (λ (w : ListsValue). w.room) value)) (subst (λ w. IsFree w i) (sym value) free)
    (head ∙ get_or_default heads list link 0 low_list) (add-one i)))
