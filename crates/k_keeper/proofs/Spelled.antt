-- A line of a trace can have what the calls of a host add.
use Rattle.std.proofs.Common.{◌≡◌, ◌∙◌, true, List, [], ◌∷◌, ◌++◌, refl, sym, ap, subst, IsTrue}
use Rattle.std.proofs.lemmas.Bool.{and_from}
use Rattle.std.proofs.lemmas.List.Folds.{list_all-append}
use Rattle.std.specs.List.{list_all}
use Rattle.k_types.specs.declared.event.Event.{Event}
use Rattle.k_types.specs.declared.event.Event.TheVariants.{Ended}
use Rattle.k_types.specs.declared.names.Heap.{Heap}
use Rattle.k_host.specs.k_collect.Settling.{IsTheEnd}
use Rattle.k_spell.specs.Spelled.{AreSpelled, is_spelled_event}

-- events behind others
pub spelled_both : (xs ys : List Event) → AreSpelled xs → AreSpelled ys → AreSpelled (xs ++ ys)
spelled_both xs ys front back = list_all-append is_spelled_event xs ys ∙ and_from (list_all is_spelled_event xs) (list_all is_spelled_event ys) front back

pub spelled_behind : (xs : List Event) (e : Event) → AreSpelled xs → IsTrue (is_spelled_event e) → AreSpelled (xs ++ e ∷ [])
spelled_behind xs e front last = spelled_both xs (e ∷ []) front (and_from (is_spelled_event e) true last refl)

-- a journal behind which a tail and an event are written
pub spelled_longer : (xs ys zs : List Event) (e : Event) → zs ≡ (xs ++ ys) ++ e ∷ [] → AreSpelled xs → AreSpelled ys → IsTrue (is_spelled_event e) → AreSpelled zs
spelled_longer xs ys zs e is front tail last = subst AreSpelled (sym is) (spelled_behind (xs ++ ys) e (spelled_both xs ys front tail) last)

-- the end of a collection is no operation
pub end_spelled : (heap : Heap) (event : Event) → IsTheEnd heap (event ∷ []) → IsTrue (is_spelled_event event)
end_spelled heap event one = let is : event ≡ Ended heap one.objects one.bytes one.exits one.shares = (cc one.is) in ap is_spelled_event is

-- and two events
pub spelled_longer_by_two : (xs ys zs : List Event) (d e : Event) → zs ≡ ((xs ++ ys) ++ d ∷ []) ++ e ∷ [] → AreSpelled xs → AreSpelled ys → IsTrue (is_spelled_event d) → IsTrue (is_spelled_event e) → AreSpelled zs
spelled_longer_by_two xs ys zs d e is front tail first last =
    subst AreSpelled (sym is) (spelled_behind ((xs ++ ys) ++ d ∷ []) e (spelled_longer xs ys ((xs ++ ys) ++ d ∷ []) d refl front tail first) last)

-- a process that has published all
pub settled_spelled : (tail : List Event) → tail ≡ [] → AreSpelled tail
settled_spelled tail settled = subst AreSpelled (sym settled) refl
