-- The first fault of lists that are joined.
use Rattle.std.proofs.Common.{◌≡◌, refl, List, [], ◌∷◌, ◌++◌, Option, Some, None}
use Rattle.k_types.specs.declared.event.Fault.{Fault}
use Rattle.k_types.specs.Replies.{first_fault}

-- the first fault of the front is the first of all, where there is one
pub first_front : (fs others : List (Option Fault)) → first_fault (fs ++ others) ≡ first_fault (first_fault fs ∷ others)
unfolding first_fault
first_front [] others = refl
first_front (Some fault ∷ fs) others = refl
first_front (None ∷ fs) others = first_front fs others
