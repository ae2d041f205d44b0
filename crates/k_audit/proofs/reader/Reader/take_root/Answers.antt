use Rattle.std.proofs.Common.{◌∙◌, ◌≤◌, ap, sym, arith, Some}
use Rattle.std.specs.Prelude.{option_map}
use Rattle.k_audit.specs.Items.{root}
use Rattle.k_audit.specs.Reading.{Reading, Root, root_place}
use Rattle.k_audit.proofs.RootTaken.{registers_kept, root_taken}
use Rattle.k_audit.proofs.reader.Reader.take_root.Goals as goal

pub returns : goal.returns
returns c =
    let rt : Root = root c.in-Some.root in
    let low : c.args.least ≤ root_place rt = omega (arith, c.if-place-least.false, c.root_place-place.ensures.place) in
    let rd : Reading = record { place = c.self.inside.place; snap = record { state = c.self.inside.state; claims = c.self.inside.claims } } in
    rw (c.root_place-place.ensures.place, c.set_register.ensures, ← c.self.view_is) (
      root_taken c.args.names.now c.args.least rd c.args.line.now rt (sym c.is.ensures ∙ c.if-is.false) (sym c.read_root.ensures.root ∙ ap (option_map root) c.in-Some.is) low,
      registers_kept c.in-Some.root.pid.0 c.in-Some.root.r.0 (Some c.in-Some.root.name) c.self.inside.state,
    )
