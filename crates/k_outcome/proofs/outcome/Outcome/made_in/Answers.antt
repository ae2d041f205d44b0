use Rattle.std.proofs.Common.{◌≡◌, ◌<◌, sym, ap, ◌∙◌, subst, List, length, get_or, ℕ}
use Rattle.std.proofs.lemmas.Grind.{get_or_default_zero}
use Rattle.k_outcome.specs.Ends.{EndValue, last_state}
use Rattle.k_outcome.proofs.Told.{sound}
use Rattle.k_outcome.proofs.outcome.Outcome.made_in.Goals as goal

pub index-requires : goal.index-requires
index-requires c =
    let e = c.args.self.now in
    let given : c.self.inside.made.items ≡ (last_state e).made = subst (λ (x : EndValue). c.self.inside.made.items ≡ (last_state x).made) c.self.view_is c.self.invariant.given in
    subst (λ n. c.args.seg.0 < n) (sym (c.self.inside.made.ok.0 ∙ ap length given ∙ (sound e c.setup-setup.ensures.end).shape.sized.made)) c.requires

pub returns : goal.returns
returns c =
    let e = c.args.self.now in
    let given : c.self.inside.made.items ≡ (last_state e).made = subst (λ (x : EndValue). c.self.inside.made.items ≡ (last_state x).made) c.self.view_is c.self.invariant.given in
    let inside : c.args.seg.0 < length c.self.inside.made.items = subst (λ n. c.args.seg.0 < n) (sym (ap length given ∙ (sound e c.setup-setup.ensures.end).shape.sized.made)) c.requires in
    c.index.ensures ∙ get_or_default_zero c.self.inside.made.items c.args.seg.0 c.index.result.now inside ∙ ap (λ (xs : List ℕ). get_or xs c.args.seg.0 0) given
