use Rattle.std.proofs.Common.{◌≡◌, ◌<◌, sym, ◌∙◌, subst, List, length, get_or, Some, slice_get}
use Rattle.std.proofs.lemmas.Option.{slice_get-get_or}
use Rattle.k_types.specs.declared.names.Name.{Name}
use Rattle.k_types.specs.Known.{IsKnownName}
use Rattle.k_text.specs.Shown.{exits_of}
use Rattle.k_text.proofs.Arranged.{target_known}
use Rattle.k_outcome.specs.Ends.{last_state}
use Rattle.k_outcome.specs.Listed.{name_at}
use Rattle.k_outcome.proofs.Told.{exits_told, sound}
use Rattle.k_outcome.proofs.viewing.OutcomeView.exit.Goals as goal

pub bounds-targets_of-i : goal.bounds-targets_of-i
bounds-targets_of-i c =
    subst (λ (ns : List Name). c.args.i < length ns) (sym (c.targets_of.ensures ∙ exits_told c.args.self.now c.cells-cells.ensures.end c.args.heap c.requires.heap)) c.requires.place

pub returns-clause-there : goal.returns-clause-there
returns-clause-there c =
    let exits = exits_of (last_state c.args.self.now).exits c.args.heap in
    subst (λ (ns : List Name). slice_get exits c.args.i ≡ Some (get_or ns c.args.i (name_at 0 0))) (sym (c.targets_of.ensures ∙ exits_told c.args.self.now c.cells-cells.ensures.end c.args.heap c.requires.heap))
    (slice_get-get_or exits c.args.i (name_at 0 0) c.requires.place)

pub returns-clause-known : goal.returns-clause-known
returns-clause-known c =
    let e = c.args.self.now in
    subst (λ (ns : List Name). IsKnownName e.setup (get_or ns c.args.i (name_at 0 0))) (sym (c.targets_of.ensures ∙ exits_told e c.cells-cells.ensures.end c.args.heap c.requires.heap))
    (target_known e.setup (last_state e) c.args.heap c.args.i (name_at 0 0) (sound e c.cells-cells.ensures.end) c.requires.place)
