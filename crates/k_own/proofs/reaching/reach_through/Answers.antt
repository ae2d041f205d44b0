use Rattle.std.proofs.Common.{ap, subst, sym, ◌∙◌, option_map}
use Rattle.k_types.specs.declared.names.Pid.{Pid}
use Rattle.k_types.specs.Agree.{book_shown_by}
use Rattle.k_types.specs.Names.{name_of}
use Rattle.k_laws.specs.Touches.{access_cell_in, base_cell_in}
use Rattle.k_own.specs.Reaching.{CanReachOwner}
use Rattle.k_own.proofs.Told.{held_at_home, owner_shown, reaches_owner}
use Rattle.k_own.proofs.reaching.reach_through.Goals as goal

pub owner-requires : goal.owner-requires
owner-requires g c =
    held_at_home g.trace c.args.cell.now c.args.book.now c.args.base.0 c.requires (name_of c.in-Some.link) (sym c.reg.ensures ∙ ap (option_map name_of) c.in-Some.is)

pub reach_owner-requires : goal.reach_owner-requires
reach_owner-requires g c =
    subst (λ (p : Pid). CanReachOwner c.args.book.now p.0 c.owner.result) (sym c.pid.ensures)
    (reaches_owner g.trace c.args.cell.now c.args.book.now c.args.base.0 c.requires (name_of c.in-Some.link) (sym c.reg.ensures ∙ ap (option_map name_of) c.in-Some.is) c.owner.result c.owner.ensures)

pub returns-in-Some : goal.returns-in-Some
returns-in-Some g c =
    let held = sym c.reg.ensures ∙ ap (option_map name_of) c.in-Some.is in
    let book = book_shown_by c.args.book.now.value in
    c.reach_owner.ensures
    ∙ ap (λ (p : Pid). base_cell_in book p.0 c.owner.result) c.pid.ensures
    ∙ ap (base_cell_in book c.args.cell.now.pid.0) (owner_shown g.trace c.args.cell.now c.args.book.now c.args.base.0 c.requires (name_of c.in-Some.link) held c.owner.result c.owner.ensures)
    ∙ ap (access_cell_in g.trace book c.args.cell.now.pid.0) (sym held)
