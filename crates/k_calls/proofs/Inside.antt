-- An operation that is done inside the process's own heap.
use Rattle.std.proofs.Common.{◌≡◌, ◌<◌, refl, sym, subst, Option, Some, None, IfNone, IfSome, IsFalse, is_some, length, arith}
use Rattle.k_types.specs.declared.event.Reply.{Reply}
use Rattle.k_types.specs.declared.op.Op.{Op}
use Rattle.k_laws.specs.Locals.{is_local_in}
use Rattle.k_agree.specs.Shown.{idle_part}
use Rattle.k_heap.specs.Heaps.{HeapRecord}
use Rattle.k_operate.specs.k_process.Locals.{after_local, local_answer}
use Rattle.k_guests.proofs.LocalKept.{local_agrees, local_is_possible}
use Rattle.k_guests.specs.declared.guest.Guest.{Guest}
use Rattle.k_calls.specs.Doing.{CanDoInside, HasDoneInside}
use Rattle.k_guests.specs.Serving.{Basis}

module _ (basis : Basis) (g : Guest) (op : Op) (can : CanDoInside basis g op) where
  pub tail_left : length g.cell.value.tail < g.cell.tail_room
  tail_left = let few = can.tail in let room = can.serves.tail in omega (arith, few, room)

  -- the process after a local operation
  abbrev after : Reply → Guest
  after said = record g { cell = record g.cell { value = after_local g.cell.pid op said g.cell.value } }

  inside : (said : Reply) → local_answer g.cell.value g.cell.pid.0 op ≡ Some said → HasDoneInside basis op g (after said) said
  inside said answer = record {
    serves = record {
      rules = can.serves.rules;
      agrees = local_agrees basis.trace can.serves.rules.limits g.cell.pid g.cell.note g.cell.value op said can.serves.agrees can.awake.idle can.awake.lives can.in_range answer;
      table = can.serves.table;
      stock = can.serves.stock;
      exits = can.serves.exits;
      serials = λ lives. can.serves.serials can.awake.lives;
      tail = can.serves.tail;
    };
    guest_is = refl;
    possible = local_is_possible basis.trace can.serves.rules.limits g.cell.pid g.cell.note g.cell.value op said can.serves.agrees can.awake.idle can.awake.lives can.in_range answer;
  }

  pub done_inside : (w : HeapRecord) (answer : Option Reply) → answer ≡ local_answer g.cell.value g.cell.pid.0 op →
      IfSome answer (λ said. w ≡ record g.cell { value = after_local g.cell.pid op said g.cell.value }) → IfSome answer (λ said. HasDoneInside basis op g (record g { cell = w }) said)
  done_inside w None is some = tt
  done_inside w (Some said) is some = subst (λ (x : HeapRecord). HasDoneInside basis op g (record g { cell = x }) said) (sym some) (inside said (sym is))

  pub not_inside : (answer : Option Reply) → is_some answer ≡ is_local_in (idle_part g.cell.value) g.cell.pid.0 op → IfNone answer (IsFalse (is_local_in (idle_part g.cell.value) g.cell.pid.0 op))
  not_inside None told = sym told
  not_inside (Some said) told = tt
