use Rattle.std.proofs.Common.{◌≡◌, drop, map}
use Rattle.std.specs.List.{list_any}
use Rattle.k_types.specs.State.{content_leads_to, refers}
use Rattle.k_state.specs.Contents.{content}
use Rattle.k_state.proofs.objects.PlainObject.refers.Given as goal

abbrev pub invariant-loop-value : goal.invariant-loop-value
invariant-loop-value l = refers l.self l.name ≡ list_any (content_leads_to l.name) (map content (drop l.value-index l.value-items))
