use Rattle.std.proofs.Common.{refl, subst, sym, inl, inr}
use Rattle.k_types.specs.declared.names.Heap.TheVariants.{Kernel, Shared}
use Rattle.k_types.specs.declared.op.Op.{Op}
use Rattle.k_calls.specs.Adding.{HasOwnRoom}
use Rattle.k_limits.proofs.Making.{handed_on}
use Rattle.k_calls.specs.k_guests.Serving.{basis_of}
use Rattle.k_ends.specs.Killing.{CanNotKill}
use Rattle.k_ends.proofs.Killed.{due_alone, ends_this, never_one_now, reach_can}
use Rattle.k_ends.proofs.killing.try_kill.Goals as goal

pub reached-requires : goal.reached-requires
reached-requires c =
    reach_can (basis_of c.args.terms.now) c.args.guest.now c.args.target.now c.args.book.now c.args.op.now c.requires.guest c.requires.book c.in_ok-ready.ensures.ok c.in_ok-room_left.ensures.ok c.requires.asks

pub do_kill-requires : goal.do_kill-requires
do_kill-requires c = record {
  guest = c.requires.guest;
  target = c.requires.target;
  kernel = c.requires.kernel;
  book = c.requires.book;
  ready = c.in_ok-ready.ensures.ok;
  asks = c.requires.asks;
  touches =
      ends_this (basis_of c.args.terms.now) c.args.guest.now c.args.target.now c.args.book.now c.args.op.now c.requires.guest c.requires.book c.in_ok-ready.ensures.ok c.in_ok-room_left.ensures.ok c.requires.asks
      c.in-End.field-0 (sym c.in-End.ensures);
  can = c.in_ok-ready_to_end-in-End.ensures.ok;
}

-- a kill adds nothing to a heap
pub do_alone-requires : goal.do_alone-requires
do_alone-requires c = (
  due_alone (basis_of c.args.terms.now) c.args.guest.now c.args.target.now c.args.book.now c.args.op.now c.requires.guest c.requires.book c.in_ok-ready.ensures.ok c.in_ok-room_left.ensures.ok c.requires.asks (sym c.in-Own.ensures),
  subst (λ (op : Op). HasOwnRoom (basis_of c.args.terms.now) c.args.guest.now c.args.book.now op) (sym c.requires.asks) tt,
)

pub unreachable-requires : goal.unreachable-requires
unreachable-requires c =
    never_one_now (basis_of c.args.terms.now) c.args.guest.now c.args.target.now c.args.book.now c.args.op.now c.requires.guest c.requires.book c.in_ok-ready.ensures.ok c.in_ok-room_left.ensures.ok c.requires.asks Kernel (sym c.in-Kernel.ensures)

pub unreachable-requires-in-Shared : goal.unreachable-requires-in-Shared
unreachable-requires-in-Shared c =
    never_one_now (basis_of c.args.terms.now) c.args.guest.now c.args.target.now c.args.book.now c.args.op.now c.requires.guest c.requires.book c.in_ok-ready.ensures.ok c.in_ok-room_left.ensures.ok c.requires.asks (Shared c.in-Shared.field-0) (sym c.in-Shared.ensures)

pub returns-in_err-ready-clause-why : goal.returns-in_err-ready-clause-why
returns-in_err-ready-clause-why c =
    handed_on (CanNotKill (basis_of c.args.terms.now) c.args.kernel.now c.args.book.now c.args.op.now c.args.target.now c.args.guest.now) c.from_residual.result c.in_err-ready.field-0.0 c.from_residual.ensures.1 (inl c.in_err-ready.ensures.why)

pub returns-in_err-room_left-clause-why : goal.returns-in_err-room_left-clause-why
returns-in_err-room_left-clause-why c =
    handed_on (CanNotKill (basis_of c.args.terms.now) c.args.kernel.now c.args.book.now c.args.op.now c.args.target.now c.args.guest.now) c.from_residual-in_err-room_left.result c.in_err-room_left.field-0.0
    c.from_residual-in_err-room_left.ensures.1 (inr (inl c.in_err-room_left.ensures.why))

pub returns-in_err-ready_to_end-in-End-clause-why : goal.returns-in_err-ready_to_end-in-End-clause-why
returns-in_err-ready_to_end-in-End-clause-why c =
    handed_on (CanNotKill (basis_of c.args.terms.now) c.args.kernel.now c.args.book.now c.args.op.now c.args.target.now c.args.guest.now) c.from_residual-in_err-ready_to_end-in-End.result c.in_err-ready_to_end-in-End.field-0.0
    c.from_residual-in_err-ready_to_end-in-End.ensures.1
    (inr (inr (record {
      touches = ends_this (basis_of c.args.terms.now) c.args.guest.now c.args.target.now c.args.book.now c.args.op.now c.requires.guest c.requires.book c.in_ok-ready.ensures.ok c.in_ok-room_left.ensures.ok c.requires.asks
          c.in-End.field-0 (sym c.in-End.ensures);
      barred = c.in_err-ready_to_end-in-End.ensures.why;
    })))

pub returns-in-Own-clause-done : goal.returns-in-Own-clause-done
returns-in-Own-clause-done c = inl (record { touches = sym c.in-Own.ensures; alone = c.do_alone.ensures; target_is = refl; kernel_is = refl })

pub returns-in_ok-ready_to_end-in-End-clause-done : goal.returns-in_ok-ready_to_end-in-End-clause-done
returns-in_ok-ready_to_end-in-End-clause-done c = inr c.do_kill.ensures
