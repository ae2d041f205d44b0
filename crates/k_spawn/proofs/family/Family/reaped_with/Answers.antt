use Rattle.std.proofs.Common.{◌∙◌, ◌+◌, ◌++◌, List, length, map, sym, ap, subst}
use Rattle.k_types.specs.declared.names.Pid.{Pid}
use Rattle.k_spawn.specs.Families.{reaped_within}
use Rattle.k_spawn.proofs.Reaped.{AreBelow, reaped_below}
use Rattle.k_spawn.proofs.family.Family.reaped_with.Goals as goal

pub returns-clause-known : goal.returns-clause-known
returns-clause-known c =
    let f = c.args.self.now in
    subst (AreBelow (f.first + length f.parents))
    (sym (c.in_ok-add_reaped.ensures ∙ ap (λ (pids : List Pid). map (λ (it : Pid). it.0) pids ++ reaped_within f c.len.result c.args.child.0) c.new-list.ensures.items))
    (reaped_below f c.len.result c.args.child.0 c.requires)
