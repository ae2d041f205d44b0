use Rattle.std.proofs.Common.{◌≡◌, drop}
use Rattle.std.specs.List.{list_all}
use Rattle.k_state.specs.Contents.{content}
use Rattle.k_types.specs.Owners.{owner_of}
use Rattle.k_audit.specs.Tests.{content_guarded, object_guarded}
use Rattle.std.specs.Prelude.{map}
use Rattle.k_audit.proofs.points.object_guarded.Given as goal

abbrev pub invariant-loop-value : goal.invariant-loop-value
invariant-loop-value l = object_guarded (owner_of l.lists.setup l.lists.state) l.lists.state.exits l.object ≡ list_all (content_guarded (owner_of l.lists.setup l.lists.state) l.lists.state.exits (owner_of l.lists.setup l.lists.state l.object.name.seg.0)) (map content (drop l.value-index l.value-items))
