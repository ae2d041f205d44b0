-- Two states that differ only in how many operations were done, and in who has ended among processes that have no object.
use Rattle.std.proofs.Common.{◌≡◌, ℕ, ◌==◌, ◌&&◌, ◌||◌, not, Bool, true, cond, refl, sym, ap, ap₂, ◌∙◌, List, [], ◌∷◌, ◌++◌, map, filter, length, count_by, replicate, set, Some, None, IsTrue}
use Rattle.std.proofs.Math.Path.{fun_ext}
use Rattle.std.specs.List.{list_any}
use Rattle.std.proofs.lemmas.Bool.{and_parts}
use Rattle.k_types.specs.Totals.{total}
use Rattle.k_types.specs.declared.names.Name.{Name}
use Rattle.k_types.specs.declared.names.Heap.{Heap}
use Rattle.k_types.specs.declared.names.Heap.TheVariants.{Kernel, User, Shared}
use Rattle.k_types.specs.declared.names.Phase.{Phase}
use Rattle.k_types.specs.declared.names.Phase.TheVariants.{Absorbed}
use Rattle.k_types.specs.declared.setup.LimitRow.{LimitRow}
use Rattle.k_types.specs.declared.event.Event.{Event}
use Rattle.k_types.specs.declared.event.Event.TheVariants.{Ended, Absorbed as AbsorbedEvent}
use Rattle.k_types.specs.Bounds.{register_count}
use Rattle.k_types.specs.Names.{name_eq, heap_eq, name_among}
use Rattle.k_types.specs.Numbers.{numbers_below}
use Rattle.k_types.specs.Trace.{Trace, process_count}
use Rattle.k_types.specs.State.{State, Object, ExitItem, Sharing, has, has_exit, in_registers, refers}
use Rattle.k_types.specs.Owners.{owner_of, owner_of_segment, objects_of, bytes_by, bytes_of, object_bytes, user, shared, phase_of}
use Rattle.k_types.specs.Reach.{is_entered, is_held, is_root, is_shared_heap, roots_of, reach_in, closure}
use Rattle.k_types.specs.Replies.{is_populating}
use Rattle.k_types.specs.Updates.{keep_objects, keep_exits, keep_shares, close_scan, set_phase, turn_exits, clear_registers, end_process}
use Rattle.k_types.specs.Effects.{step, after_ended, after_absorbed, after_end_of, exit_after, survives, exit_stays, share_stays, stays_after_absorb, open_roots, register_lies_in, registers_of}
use Rattle.k_types.specs.Steps.{run, is_orphan}
use Rattle.k_types.specs.FileOrder.{absorptions, end_of}
use Rattle.k_types.proofs.Objects.{has-kept}
use Rattle.k_laws.proofs.Kept.{any-fewer}
use Rattle.k_spawn.proofs.Agreeing.{kept_agree, any_agree, turned_agree, all_objects, all_exits, all_registers}

-- the state with others as those who have ended, and other counts of operations
abbrev pub twin : State → List ℕ → List ℕ → State
twin x ended done = record x { ended = ended; done = done }

-- the second is the first but for those
abbrev pub AreTwins : State → State → Type 0
AreTwins x y = y ≡ twin x y.ended y.done

pub twins_if : (x y : State) (ended done : List ℕ) → y ≡ twin x ended done → AreTwins x y
twins_if x y ended done e = e ∙ ap₂ (twin x) (sym (ap (λ (s : State). s.ended) e)) (sym (ap (λ (s : State). s.done) e))

-- each object has the same owner where those have ended; what registers and exit items name is there
pub record OwnsAlike (trace : Trace) (x : State) (ended : List ℕ) : Type 0 where
  pub own : (phases : List Phase) (n : Name) → IsTrue (has x.objects n) → owner_of_segment (process_count trace) ended phases n.seg.0 ≡ owner_of_segment (process_count trace) x.ended phases n.seg.0
  pub held : (p : ℕ) (n : Name) → IsTrue (in_registers x.registers p n) → IsTrue (has x.objects n)
  pub exits : (h : Heap) (n : Name) → IsTrue (has_exit x.exits h n) → IsTrue (has x.objects n)

-- the trace with other limits
abbrev pub with_limits : Trace → List LimitRow → Trace
with_limits trace rows = record trace { limits = rows }

module _ (trace : Trace) (rows : List LimitRow) (x : State) (ended done : List ℕ) (alike : OwnsAlike trace x ended) where
  abbrev other : Trace
  other = with_limits trace rows

  abbrev y : State
  y = twin x ended done

  pub own_same : (n : Name) → IsTrue (has x.objects n) → owner_of other y n.seg.0 ≡ owner_of trace x n.seg.0
  own_same n there = alike.own x.phases n there

  objects_same : (h : Heap) → objects_of (owner_of other y) h x.objects ≡ objects_of (owner_of trace x) h x.objects
  objects_same h =
      kept_agree (λ o. heap_eq (owner_of other y o.name.seg.0) h) (λ o. heap_eq (owner_of trace x o.name.seg.0) h) x.objects
      (all_objects (λ n. heap_eq (owner_of other y n.seg.0) h ≡ heap_eq (owner_of trace x n.seg.0) h) x.objects (λ n there. ap (λ k. heap_eq k h) (own_same n there)))

  pub bytes_same : (h : Heap) → bytes_of other y h ≡ bytes_of trace x h
  unfolding bytes_by
  bytes_same h = ap (total object_bytes) (objects_same h)

  held_same : (h : Heap) (n : Name) → is_held y h n ≡ is_held x h n
  unfolding is_held
  held_same Kernel n = refl
  held_same (User p) n = refl
  held_same (Shared s) n = refl

  root_same : (h : Heap) (n : Name) → IsTrue (has x.objects n) → is_root other y h n ≡ is_root trace x h n
  unfolding is_entered
  root_same h n there = ap₂ (λ a b. a || b)
      (ap (λ k. list_any (λ e. not (heap_eq e.heap k) && name_eq e.target n) x.exits || list_any (λ p. not (heap_eq (user p) k) && in_registers x.registers p n) (numbers_below (process_count trace))) (own_same n there))
      (held_same h n)

  pub roots_same : (h : Heap) → roots_of other y h ≡ roots_of trace x h
  unfolding roots_of
  roots_same h =
      let pool : List Object = objects_of (owner_of trace x) h x.objects in
      ap (λ (objects : List Object). map (λ (o : Object). o.name) (filter (λ o. is_root other y h o.name) objects)) (objects_same h)
      ∙ ap (map (λ (o : Object). o.name))
      (kept_agree (λ o. is_root other y h o.name) (λ o. is_root trace x h o.name) pool
      (all_objects (λ n. is_root other y h n ≡ is_root trace x h n) pool (λ n there. root_same h n (inside n there))))
    where
      inside : (n : Name) → has (objects_of (owner_of trace x) h x.objects) n ≡ true → IsTrue (has x.objects n)
      inside n there = (and_parts (has x.objects n) (heap_eq (owner_of trace x n.seg.0) h) (sym (has-kept (λ n. heap_eq (owner_of trace x n.seg.0) h) x.objects n) ∙ there)).0

  reach_same : (h : Heap) (rs : List Name) → reach_in other y h rs ≡ reach_in trace x h rs
  unfolding reach_in
  reach_same h rs = ap (λ (pool : List Object). closure (length x.objects) pool (filter (λ o. name_among o.name rs) pool)) (objects_same h)

  survives_same : (h : Heap) (n : Name) → IsTrue (has x.objects n) → survives other y h n ≡ survives trace x h n
  unfolding survives
  survives_same h n there = ap₂ (λ k reached. not (heap_eq k h) || has reached n) (own_same n there) (reach_same h (open_roots x h))

  exit_stays_same : (h : Heap) (e : ExitItem) → exit_stays other y h e ≡ exit_stays trace x h e
  unfolding exit_stays
  exit_stays_same h e = ap (λ reached. not (heap_eq e.heap h) || list_any (λ o. refers o e.target) reached) (reach_same h (open_roots x h))

  share_stays_same : (h : Heap) (e : Sharing) → share_stays other y h e ≡ share_stays trace x h e
  unfolding share_stays
  share_stays_same h e = ap₂ (λ a b. not (heap_eq h (user e.process)) || a || b || is_populating (phase_of x.phases e.heap) e.process) registers items
    where
      registers : list_any (register_lies_in other y e.heap) (registers_of x e.process) ≡ list_any (register_lies_in trace x e.heap) (registers_of x e.process)
      registers = any_agree (register_lies_in other y e.heap) (register_lies_in trace x e.heap) (registers_of x e.process)
          (all_registers (λ r. register_lies_in other y e.heap r ≡ register_lies_in trace x e.heap r) (registers_of x e.process) refl
          (λ n there. ap (λ k. heap_eq k (shared e.heap)) (own_same n (alike.held e.process n there))))

      items : list_any (λ d. heap_eq d.heap h && heap_eq (owner_of other y d.target.seg.0) (shared e.heap) && exit_stays other y h d) x.exits
          ≡ list_any (λ d. heap_eq d.heap h && heap_eq (owner_of trace x d.target.seg.0) (shared e.heap) && exit_stays trace x h d) x.exits
      items = any_agree _ _ x.exits
          (all_exits (λ d. (heap_eq d.heap h && heap_eq (owner_of other y d.target.seg.0) (shared e.heap) && exit_stays other y h d) ≡ (heap_eq d.heap h && heap_eq (owner_of trace x d.target.seg.0) (shared e.heap) && exit_stays trace x h d)) x.exits
          (λ d there. ap₂ (λ k b. heap_eq d.heap h && heap_eq k (shared e.heap) && b) (own_same d.target (alike.exits d.heap d.target there)) (exit_stays_same h d)))

  -- the same objects survive, and the same go
  survivors : (turn : Bool → Bool) (h : Heap) → filter (λ o. turn (survives other y h o.name)) x.objects ≡ filter (λ o. turn (survives trace x h o.name)) x.objects
  survivors turn h =
      kept_agree (λ o. turn (survives other y h o.name)) (λ o. turn (survives trace x h o.name)) x.objects
      (all_objects (λ n. turn (survives other y h n) ≡ turn (survives trace x h n)) x.objects (λ n there. ap turn (survives_same h n there)))

  pub end_same : (h : Heap) → end_of other y h ≡ end_of trace x h
  end_same h =
      let gone : List Object = filter (λ o. not (survives trace x h o.name)) x.objects in
      ap (λ (objects : List Object). Ended h (length objects) (total object_bytes objects) (count_by (λ e. not (exit_stays other y h e)) x.exits) (count_by (λ e. not (share_stays other y h e)) x.shares)) (survivors not h)
      ∙ ap₂ (λ (f : ExitItem → Bool) (g : Sharing → Bool). Ended h (length gone) (total object_bytes gone) (count_by f x.exits) (count_by g x.shares))
      (fun_ext (λ e. ap not (exit_stays_same h e))) (fun_ext (λ e. ap not (share_stays_same h e)))

  abbrev with_rest : Heap → List Object → (ExitItem → Bool) → (Sharing → Bool) → State
  with_rest h objects f g = record x { objects = objects; exits = filter f x.exits; shares = filter g x.shares; scans = filter (λ scan. not (heap_eq scan.heap h)) x.scans; ended = ended; done = done }

  -- the end of a collection
  pub ended_twin : (h : Heap) → after_ended other h y ≡ twin (after_ended trace h x) ended done
  unfolding after_ended close_scan keep_shares keep_exits keep_objects
  ended_twin h =
      ap (λ (objects : List Object). with_rest h objects (exit_stays other y h) (share_stays other y h)) (survivors (λ b. b) h)
      ∙ ap₂ (λ f g. with_rest h (filter (λ o. survives trace x h o.name) x.objects) f g) (fun_ext (exit_stays_same h)) (fun_ext (share_stays_same h))

  -- an absorption
  pub absorbed_twin : (s : ℕ) → after_absorbed other s y ≡ twin (after_absorbed trace s x) ended done
  unfolding after_absorbed set_phase keep_exits
  absorbed_twin s =
      ap (λ (exits : List ExitItem). record x { exits = exits; phases = set x.phases s Absorbed; ended = ended; done = done })
      (kept_agree (stays_after_absorb other y s) (stays_after_absorb trace x s) x.exits
      (all_exits (λ e. stays_after_absorb other y s e ≡ stays_after_absorb trace x s e) x.exits
      (λ e there. ap (λ k. not ((heap_eq e.heap (shared s) && heap_eq k Kernel) || (heap_eq e.heap Kernel && heap_eq k (shared s)))) (own_same e.target (alike.exits e.heap e.target there)))))

  pub absorbed_alike : (s : ℕ) → OwnsAlike trace (after_absorbed trace s x) ended
  unfolding after_absorbed set_phase keep_exits
  absorbed_alike s = record {
    own = alike.own;
    held = alike.held;
    exits = λ h n there. alike.exits h n (any-fewer (λ e. heap_eq e.heap h && name_eq e.target n) (stays_after_absorb trace x s) x.exits there);
  }

  -- the end of a process
  pub exited_twin : (p : ℕ) → after_end_of other p y ≡ twin (after_end_of trace p x) (ended ++ p ∷ []) done
  unfolding after_end_of end_process clear_registers keep_shares turn_exits
  exited_twin p =
      ap (λ (exits : List ExitItem). record x {
        exits = exits;
        shares = filter (λ e. not (e.process == p)) x.shares;
        registers = set x.registers p (replicate register_count None);
        ended = ended ++ p ∷ [];
        done = done;
      })
      (turned_agree (exit_after other y p) (exit_after trace x p) x.exits
      (all_exits (λ e. exit_after other y p e ≡ exit_after trace x p e) x.exits
      (λ e there. ap (λ k. cond (heap_eq e.heap (user p)) (cond (is_shared_heap k && not (has_exit x.exits Kernel e.target)) (Some (record e { heap = Kernel })) None) (cond (heap_eq e.heap Kernel && heap_eq k (user p)) None (Some e)))
      (own_same e.target (alike.exits e.heap e.target there)))))

abbrev absorb : List ℕ → List Event
absorb ss = map (λ s. AbsorbedEvent (record { 0 = s })) ss

-- absorptions, one after the other
pub record Absorbs (trace : Trace) (rows : List LimitRow) (x : State) (ended done : List ℕ) (events : List Event) : Type 0 where
  pub twins : run (with_limits trace rows) (twin x ended done) events ≡ twin (run trace x events) ended done
  pub alike : OwnsAlike trace (run trace x events) ended
  pub who : (run trace x events).ended ≡ x.ended

absorbs : (trace : Trace) (rows : List LimitRow) (ended done : List ℕ) (ss : List ℕ) (x : State) → OwnsAlike trace x ended → Absorbs trace rows x ended done (absorb ss)
unfolding step after_absorbed set_phase keep_exits
absorbs trace rows ended done [] x alike = record { twins = refl; alike = alike; who = refl }
absorbs trace rows ended done (s ∷ ss) x alike =
    let rest = absorbs trace rows ended done ss (after_absorbed trace s x) (absorbed_alike trace rows x ended done alike s) in record {
      twins = ap (λ (z : State). run (with_limits trace rows) z (absorb ss)) (absorbed_twin trace rows x ended done alike s) ∙ rest.twins;
      alike = rest.alike;
      who = rest.who;
    }

pub orphans_same : (trace : Trace) (rows : List LimitRow) (x : State) (ended done : List ℕ) → absorptions (with_limits trace rows) (twin x ended done) ≡ absorptions trace x
orphans_same trace rows x ended done = refl

pub orphans_absorbed : (trace : Trace) (rows : List LimitRow) (x : State) (ended done : List ℕ) → OwnsAlike trace x ended → Absorbs trace rows x ended done (absorptions trace x)
orphans_absorbed trace rows x ended done alike = absorbs trace rows ended done (filter (is_orphan x) (numbers_below trace.shared_heaps)) x alike
