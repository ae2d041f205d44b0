-- Room after a step.
use Rattle.std.proofs.Common.{◌≡◌, ℕ, zero, suc, ◌+◌, ◌-◌, replicate, ◌<◌, ◌≤◌, ◌^◌, ◌==◌, not, Bool, true, false, cond, refl, ap, inl, inr, List, [], ◌∷◌, ◌++◌, length, length-append, map, filter_map, get_or, set, Option, Some, None, arith}
use Rattle.std.proofs.lemmas.List.{length-map}
use Rattle.k_types.specs.declared.names.Heap.{Heap}
use Rattle.k_types.specs.declared.names.Name.{Name}
use Rattle.k_types.specs.declared.names.Reg.{Reg}
use Rattle.k_types.specs.declared.names.SharedId.{SharedId}
use Rattle.k_types.specs.declared.names.TypeId.{TypeId}
use Rattle.k_types.specs.declared.op.Op.{Op}
use Rattle.k_types.specs.declared.op.Op.TheVariants.{New, KNew, SNew, Store, Put, Get, Collect, KCollect, Share, Freeze, Attach, Exit, Kill, Resize}
use Rattle.k_types.specs.declared.event.Fault.{Fault}
use Rattle.k_types.specs.declared.event.Event.{Event}
use Rattle.k_types.specs.declared.event.Event.TheVariants.{Done, Ended, Absorbed, Closing}
use Rattle.k_types.specs.Effects.{step, effect, effect_unless, after_new, after_operation, after_store, after_put, after_freeze, after_end_of, after_kill, after_ended, after_absorbed, after_closing, exit_after, exit_stays, share_stays, stays_after_absorb, survives, with_exit_of_store}
use Rattle.k_types.specs.Names.{among, heap_eq}
use Rattle.k_types.specs.Owners.{owner_of}
use Rattle.k_types.specs.Replies.{faults, first_fault}
use Rattle.k_types.specs.State.{State, Content, Refers, Holds, fresh, has_exit, has_share, opening}
use Rattle.k_types.specs.Trace.{Trace, kinds_of, process_count}
use Rattle.k_types.specs.Updates.{next_name, count_done, set_register, create, write, object_after_write, add_exit, open_scan, set_phase, add_share, keep_objects, keep_exits, keep_shares, close_scan, clear_registers, end_process, turn_exits, set_max, close}
use Rattle.k_laws.proofs.Lists.{get_or-set_cases, length-kept}
use Rattle.k_laws.proofs.Sizes.{zeros_at}
use Rattle.k_state.specs.Rooms.{HasRoom}
use Rattle.k_laws.proofs.Objects.{length-placed}

-- each count but that of the operations done is one more at most, and that stays
record IsNext (before after : State) : Type 0 where
  objects : length after.objects ≤ 1 + length before.objects
  exits : length after.exits ≤ 1 + length before.exits
  shares : length after.shares ≤ 1 + length before.shares
  ended : length after.ended ≤ 1 + length before.ended
  scans : length after.scans ≤ 1 + length before.scans
  serials : (seg : ℕ) → get_or after.made seg 0 ≤ 1 + get_or before.made seg 0
  done : after.done ≡ before.done

turned_length : {A B : Type 0} (f : A → Option B) (xs : List A) → length (filter_map f xs) ≤ length xs
turned_length f [] = omega arith
turned_length f (x ∷ xs) = grind (arith, turned_length f xs)

added_length : {A : Type 0} (b : Bool) (x : A) (xs : List A) → length (cond b xs (xs ++ x ∷ [])) ≤ 1 + length xs
added_length true x xs = omega arith
added_length false x xs = omega (arith, length-append xs (x ∷ []))

one_more : (counts : List ℕ) (i k : ℕ) → get_or (set counts i (get_or counts i 0 + 1)) k 0 ≤ 1 + get_or counts k 0
one_more counts i k =
    elim (get_or-set_cases counts i k (get_or counts i 0 + 1) 0) [
      | inl same ↦ omega (arith, same)
      | inr here ↦ let was = ap (λ j. get_or counts j 0) here.0 in omega (arith, here.1, was)
    ]

same : (st : State) → IsNext st st
same st = record {
  objects = omega arith;
  exits = omega arith;
  shares = omega arith;
  ended = omega arith;
  scans = omega arith;
  serials = λ seg. omega arith;
  done = refl;
}

module _ (trace : Trace) (st : State) (p : ℕ) where
  registers_next : (r : ℕ) (value : Option Name) → IsNext st (set_register p r value st)
  unfolding set_register
  registers_next r value = record {
    objects = omega arith;
    exits = omega arith;
    shares = omega arith;
    ended = omega arith;
    scans = omega arith;
    serials = λ seg. omega arith;
    done = refl;
  }

  new_next : (r at : ℕ) (ty : TypeId) → IsNext st (after_new trace p r at ty st)
  unfolding set_register create
  new_next r at ty = record {
    objects = omega (arith, length-placed (record { name = next_name at st; ty = Some ty; fields = map fresh (kinds_of trace ty) }) st.objects);
    exits = omega arith;
    shares = omega arith;
    ended = omega arith;
    scans = omega arith;
    serials = λ seg. one_more st.made at seg;
    done = refl;
  }

  write_next : (x : Name) (i : ℕ) (c : Content) → IsNext st (write x i c st)
  unfolding write
  write_next x i c = record {
    objects = omega (arith, length-map st.objects (object_after_write x i c));
    exits = omega arith;
    shares = omega arith;
    ended = omega arith;
    scans = omega arith;
    serials = λ seg. omega arith;
    done = refl;
  }

  linked_next : (x : Name) (i : ℕ) (c : Content) (h : Heap) (y : Name) → IsNext st (write x i c (add_exit h y st))
  unfolding write add_exit
  linked_next x i c h y = record {
    objects = omega (arith, length-map st.objects (object_after_write x i c));
    exits = added_length (has_exit st.exits h y) (record { heap = h; target = y }) st.exits;
    shares = omega arith;
    ended = omega arith;
    scans = omega arith;
    serials = λ seg. omega arith;
    done = refl;
  }

  store_next : (x : Option Name) (i : ℕ) (value : Option Name) → IsNext st (after_store trace x i value st)
  unfolding after_store with_exit_of_store
  store_next None i value = same st
  store_next (Some x) i None = write_next x i (Refers None)
  store_next (Some x) i (Some y) =
      elim (heap_eq (owner_of trace st x.seg.0) (owner_of trace st y.seg.0)) as (λ b. IsNext st (write x i (Refers (Some y)) (cond b st (add_exit (owner_of trace st x.seg.0) y st)))) [
        | true ↦ write_next x i (Refers (Some y))
        | false ↦ linked_next x i (Refers (Some y)) (owner_of trace st x.seg.0) y
      ]

  put_next : (x : Option Name) (i n : ℕ) → IsNext st (after_put x i n st)
  unfolding after_put
  put_next None i n = same st
  put_next (Some x) i n = write_next x i (Holds n)

  scan_next : (h : Heap) (roots : List Name) → IsNext st (open_scan h roots st)
  unfolding open_scan
  scan_next h roots = record {
    objects = omega arith;
    exits = omega arith;
    shares = omega arith;
    ended = omega arith;
    scans = omega arith;
    serials = λ seg. omega arith;
    done = refl;
  }

  freeze_next : (s : ℕ) (root : Option Name) → IsNext st (after_freeze s root st)
  unfolding after_freeze set_phase
  freeze_next s None = same st
  freeze_next s (Some root) = record {
    objects = omega arith;
    exits = omega arith;
    shares = omega arith;
    ended = omega arith;
    scans = omega arith;
    serials = λ seg. omega arith;
    done = refl;
  }

  end_next : (q : ℕ) → IsNext st (after_end_of trace q st)
  unfolding after_end_of end_process clear_registers keep_shares turn_exits
  end_next q = record {
    objects = omega arith;
    exits = omega (arith, turned_length (exit_after trace st q) st.exits);
    shares = omega (arith, length-kept (λ e. not (e.process == q)) st.shares);
    ended = omega (arith, length-append st.ended (q ∷ []));
    scans = omega arith;
    serials = λ seg. omega arith;
    done = refl;
  }

  kill_next : (q : ℕ) → IsNext st (after_kill trace q st)
  unfolding after_kill
  kill_next q =
      elim (among q st.ended) as (λ b. IsNext st (cond b st (after_end_of trace q st))) [
        | true ↦ same st
        | false ↦ end_next q
      ]

  max_next : (m max : ℕ) → IsNext st (set_max m max st)
  unfolding set_max
  max_next m max = record {
    objects = omega arith;
    exits = omega arith;
    shares = omega arith;
    ended = omega arith;
    scans = omega arith;
    serials = λ seg. omega arith;
    done = refl;
  }

  share_next : (s : SharedId) → IsNext st (effect trace p (Share s) st)
  unfolding effect add_share set_phase
  share_next s = record {
    objects = omega arith;
    exits = omega arith;
    shares = added_length (has_share st.shares p s.0) (record { process = p; heap = s.0 }) st.shares;
    ended = omega arith;
    scans = omega arith;
    serials = λ seg. omega arith;
    done = refl;
  }

  attach_next : (r : Reg) (s : SharedId) → IsNext st (effect trace p (Attach r s) st)
  unfolding effect add_share set_register
  attach_next r s = record {
    objects = omega arith;
    exits = omega arith;
    shares = added_length (has_share st.shares p s.0) (record { process = p; heap = s.0 }) st.shares;
    ended = omega arith;
    scans = omega arith;
    serials = λ seg. omega arith;
    done = refl;
  }

  effect_next : (op : Op) → IsNext st (effect trace p op st)
  unfolding effect
  effect_next (New r ty) = new_next _ _ ty
  effect_next (KNew r ty) = new_next _ _ ty
  effect_next (SNew r s ty) = new_next _ _ ty
  effect_next (Store base i value) = store_next _ i _
  effect_next (Put base i number) = put_next _ i number
  effect_next (Get base i) = same st
  effect_next Collect = scan_next _ _
  effect_next KCollect = scan_next _ _
  effect_next (Share s) = share_next s
  effect_next (Freeze s root) = freeze_next _ _
  effect_next (Attach r s) = attach_next r s
  effect_next Exit = end_next p
  effect_next (Kill q) = kill_next q.0
  effect_next (Resize m max) = max_next m.0 max
  effect_next _ = registers_next _ _

  unless_next : (f : Option Fault) (op : Op) → IsNext st (effect_unless f trace p op st)
  unless_next None op = effect_next op
  unless_next (Some f) op = same st

module _ (trace : Trace) (st : State) where
  counted : (n p : ℕ) (after : State) → IsNext st after → HasRoom (1 + n) st → HasRoom n (count_done p after)
  unfolding count_done
  counted n p after next room = record {
    objects = omega (arith, next.objects, room.objects);
    exits = omega (arith, next.exits, room.exits);
    shares = omega (arith, next.shares, room.shares);
    ended = omega (arith, next.ended, room.ended);
    scans = omega (arith, next.scans, room.scans);
    serials = λ seg. omega (arith, next.serials seg, room.serials seg);
    done = λ q.
        let was = ap (λ counts. get_or counts q 0) next.done in
        omega (arith, one_more after.done p q, was, room.done q);
  }

  rested : (n : ℕ) (after : State) → IsNext st after → HasRoom (1 + n) st → HasRoom n after
  rested n after next room = record {
    objects = omega (arith, next.objects, room.objects);
    exits = omega (arith, next.exits, room.exits);
    shares = omega (arith, next.shares, room.shares);
    ended = omega (arith, next.ended, room.ended);
    scans = omega (arith, next.scans, room.scans);
    serials = λ seg. omega (arith, next.serials seg, room.serials seg);
    done = λ q.
        let was = ap (λ counts. get_or counts q 0) next.done in
        omega (arith, was, room.done q);
  }

  ended_next : (h : Heap) → IsNext st (after_ended trace h st)
  unfolding after_ended close_scan keep_shares keep_exits keep_objects
  ended_next h = record {
    objects = omega (arith, length-kept (λ o. survives trace st h o.name) st.objects);
    exits = omega (arith, length-kept (exit_stays trace st h) st.exits);
    shares = omega (arith, length-kept (share_stays trace st h) st.shares);
    ended = omega arith;
    scans = omega (arith, length-kept (λ scan. not (heap_eq scan.heap h)) st.scans);
    serials = λ seg. omega arith;
    done = refl;
  }

  absorbed_next : (s : ℕ) → IsNext st (after_absorbed trace s st)
  unfolding after_absorbed set_phase keep_exits
  absorbed_next s = record {
    objects = omega arith;
    exits = omega (arith, length-kept (stays_after_absorb trace st s) st.exits);
    shares = omega arith;
    ended = omega arith;
    scans = omega arith;
    serials = λ seg. omega arith;
    done = refl;
  }

  closing_next : IsNext st (after_closing trace st)
  unfolding after_closing close open_scan
  closing_next = record {
    objects = omega arith;
    exits = omega arith;
    shares = omega arith;
    ended = omega arith;
    scans = omega arith;
    serials = λ seg. omega arith;
    done = refl;
  }

pub room_after_step : (n : ℕ) (trace : Trace) (st : State) (event : Event) → HasRoom (1 + n) st → HasRoom n (step trace st event)
unfolding step after_operation
room_after_step n trace st (Done pid op said) room = counted trace st n pid.0 _ (unless_next trace st pid.0 (first_fault (faults trace st pid.0 op)) op) room
room_after_step n trace st (Ended h a b c d) room = rested trace st n _ (ended_next trace st h) room
room_after_step n trace st (Absorbed s) room = rested trace st n _ (absorbed_next trace st s.0) room
room_after_step n trace st Closing room = rested trace st n _ (closing_next trace st) room

first_made : (others seg : ℕ) → get_or (1 ∷ replicate {A = ℕ} others 0) seg 0 ≤ 1
first_made others zero = omega arith
first_made others (suc seg) = let none : get_or (1 ∷ replicate {A = ℕ} others 0) (suc seg) 0 ≡ 0 = zeros_at others seg in omega (arith, none)

-- a trace begins with room for almost as many steps as there are numbers of 32 bits
pub room_at_opening : (n : ℕ) (trace : Trace) → n < 2 ^ 32 - 1 → HasRoom n (opening trace)
room_at_opening n trace few = record {
  objects = omega (arith, few);
  exits = omega (arith, few);
  shares = omega (arith, few);
  ended = omega (arith, few);
  scans = omega (arith, few);
  serials = λ seg. omega (arith, few, first_made (length trace.procs + trace.shared_heaps) seg);
  done = λ p. omega (arith, few, zeros_at (process_count trace) p);
}
