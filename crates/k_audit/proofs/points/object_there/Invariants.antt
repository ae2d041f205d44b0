use Rattle.std.proofs.Common.{◌≡◌, drop}
use Rattle.std.specs.List.{list_all}
use Rattle.k_state.specs.Contents.{content}
use Rattle.k_audit.specs.Tests.{content_there, object_there}
use Rattle.std.specs.Prelude.{map}
use Rattle.k_audit.proofs.points.object_there.Given as goal

abbrev pub invariant-loop-value : goal.invariant-loop-value
invariant-loop-value l = object_there l.lists.state.objects l.object ≡ list_all (content_there l.lists.state.objects) (map content (drop l.value-index l.value-items))
