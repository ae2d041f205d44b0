-- Lists over more numbers.
use Rattle.std.proofs.Common.{◌≡◌, ◌<◌, ◌≤◌, ◌^◌, ℕ, refl, sym, ap, subst, ◌∙◌, List, length, get_or, arith}
use Rattle.std.proofs.lemmas.List.{length-map}
use Rattle.k_lists.specs.declared.lists.Links.{Links}
use Rattle.k_lists.specs.Lists.{ListsValue, AreApart, members}
use Rattle.k_lists.specs.Linked.{at, walk, lists_of, AreLinked}
use Rattle.k_lists.proofs.Apart.{apart_in}
use Rattle.k_lists.proofs.Steps.{AreLists, lists_from}
use Rattle.k_lists.proofs.Walks.{list_stays}

-- the lists with the room of other links, which begin with the old ones
pub grown : (links new : List Links) (heads : List ℕ) → AreLinked links heads → length links ≤ length new → length new < 2 ^ 32 →
    ((i : ℕ) → i < length links → at new i ≡ at links i) → AreLists new heads (record (lists_of links heads) { room = length new })
grown links new heads old long small same =
    let v = lists_of links heads in
    lists_from new heads (record v { room = length new }) small refl (length-map heads (walk links (length links)))
    (λ a within. list_stays links new 0 (get_or heads a 0) (members v a)
    (λ i is. let here = same i (apart_in v a i old.apart is) in (ap (λ (y : Links). y.prev) here, ap (λ (y : Links). y.next) here)) (old.linked a within))
    (record {
      below = λ list place i there. omega (arith, old.apart.below list place i there, long);
      once = old.apart.once;
    })
