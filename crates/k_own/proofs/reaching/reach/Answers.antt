use Rattle.std.proofs.Common.{subst}
use Rattle.k_types.specs.declared.op.Op.{Op}
use Rattle.k_own.specs.Reaching.{CanReach}
use Rattle.k_own.proofs.Told.{get_through, kill_reaches, load_through, put_through, store_through}
use Rattle.k_own.proofs.reaching.reach.Goals as goal

pub reach_through-requires : goal.reach_through-requires
reach_through-requires g c =
    store_through g.trace c.args.cell.now c.args.book.now c.in-Store.base c.in-Store.field c.in-Store.value
    (subst (λ (op : Op). CanReach g.trace c.args.cell.now c.args.book.now op) c.in-Store.is c.requires)

pub reach_through-requires-in-Load : goal.reach_through-requires-in-Load
reach_through-requires-in-Load g c =
    load_through g.trace c.args.cell.now c.args.book.now c.in-Load.reg c.in-Load.base c.in-Load.field
    (subst (λ (op : Op). CanReach g.trace c.args.cell.now c.args.book.now op) c.in-Load.is c.requires)

pub reach_through-requires-in-Put : goal.reach_through-requires-in-Put
reach_through-requires-in-Put g c =
    put_through g.trace c.args.cell.now c.args.book.now c.in-Put.base c.in-Put.field c.in-Put.number
    (subst (λ (op : Op). CanReach g.trace c.args.cell.now c.args.book.now op) c.in-Put.is c.requires)

pub reach_through-requires-in-Get : goal.reach_through-requires-in-Get
reach_through-requires-in-Get g c =
    get_through g.trace c.args.cell.now c.args.book.now c.in-Get.base c.in-Get.field
    (subst (λ (op : Op). CanReach g.trace c.args.cell.now c.args.book.now op) c.in-Get.is c.requires)

pub reach_end-requires : goal.reach_end-requires
reach_end-requires g c =
    rw (c.pid.ensures)
    (kill_reaches g.trace c.args.cell.now c.args.book.now c.in-Kill.target (subst (λ (op : Op). CanReach g.trace c.args.cell.now c.args.book.now op) c.in-Kill.is c.requires))
