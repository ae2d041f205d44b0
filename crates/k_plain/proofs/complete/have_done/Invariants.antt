use Rattle.std.proofs.Common.{◌≡◌, ℕ, ◌<◌, [], map, get_or}
use Rattle.std.specs.Prelude.{IsFalse}
use Rattle.k_types.specs.Complete.{IsPrefixOf}
use Rattle.k_types.specs.Names.{among}
use Rattle.k_types.specs.Steps.{done_by}
use Rattle.k_plain.proofs.complete.have_done.Given as goal

abbrev pub invariant-loop-p : goal.invariant-loop-p
invariant-loop-p l = (p : ℕ) → p < l.p → IsPrefixOf (done_by p l.events) (get_or (map (λ list. list.items) l.ops) p [])
    × (IsFalse (among p l.lists.state.ended) → done_by p l.events ≡ get_or (map (λ list. list.items) l.ops) p [])
