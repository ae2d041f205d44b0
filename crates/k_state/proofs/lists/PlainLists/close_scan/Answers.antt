use Rattle.std.proofs.Common.{◌≡◌, not, filter, ap, ◌∙◌, rules}
use Rattle.std.proofs.lemmas.Fn.{filter_same}
use Rattle.k_types.specs.Names.{heap_eq}
use Rattle.k_types.specs.State.{Scan}
use Rattle.k_types.specs.Updates.{close_scan}
use Rattle.k_state.specs.Machines.{Machine}
use Rattle.k_state.proofs.Views.{scans_are}
use Rattle.k_state.proofs.lists.PlainLists.close_scan.Goals as goal

pub returns-clause-state : goal.returns-clause-state
unfolding close_scan
returns-clause-state c =
    let m = c.args.self.now in
    let h = c.args.heap in
    let same : c.self.inside.scans.items ≡ m.state.scans = ap (λ (n : Machine). n.state.scans) c.self.view_is in
    let kept : c.retain.new.self.items ≡ filter (λ (scan : Scan). not (heap_eq scan.heap h)) c.self.inside.scans.items
    = filter_same _ (λ (scan : Scan). not (heap_eq scan.heap h)) _ (λ x b f' k. search rules) _ _ c.retain.ensures.filtered in
    scans_are _ m c.retain.new.self.items (filter (λ (scan : Scan). not (heap_eq scan.heap h)) m.state.scans) c.self.view_is
    (kept ∙ ap (filter (λ (scan : Scan). not (heap_eq scan.heap h))) same)
