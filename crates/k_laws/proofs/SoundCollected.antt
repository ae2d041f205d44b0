-- A sound state stays sound where a collection ends.
use Rattle.std.proofs.Common.{◌≡◌, ℕ, ◌≤◌, ◌⊎◌, not, Bool, true, false, cond, refl, sym, ap, ◌∙◌, inl, inr, List, [], ◌∷◌, filter, Some, None, IsTrue, IsFalse, unwrap_or, le_refl, le_trans, eq-eqb, subst}
use Rattle.std.specs.List.{list_any}
use Rattle.std.proofs.lemmas.Bool.{and_parts, and_from, or_left, or_right, or_cases, not-true, false≢true, cases_Bool, not_from_false, false_from_ne_true}
use Rattle.k_types.specs.Totals.{total}
use Rattle.k_types.specs.declared.names.Name.{Name}
use Rattle.k_types.specs.declared.names.Heap.{Heap}
use Rattle.k_types.specs.declared.names.Heap.TheVariants.{Kernel, User, Shared}
use Rattle.k_types.specs.Names.{name_lt, heap_eq, directory, name_among}
use Rattle.k_types.specs.Trace.{Trace, process_count}
use Rattle.k_types.specs.State.{State, Object, has, refers, refers_in, in_registers, has_exit, scan_of, has_share}
use Rattle.k_types.specs.Owners.{owner_of, user, shared, bytes_by, bytes_of, object_bytes, charge_by, phase_of, objects_of, owner_of_segment}
use Rattle.k_types.specs.Limits.{limits_in, use_by, use_of}
use Rattle.k_types.specs.Reach.{is_root, is_entered, is_held, is_pinned, has_entry, reach_in}
use Rattle.k_types.specs.Sound.{IsSound, IsOrdered, IsOrderedFrom}
use Rattle.k_types.proofs.NameTests.{heap_eq-true, heap_eq-same, name_lt_trans}
use Rattle.k_types.specs.declared.names.Pid.{Pid}
use Rattle.k_types.specs.declared.names.Phase.TheVariants.{Populating}
use Rattle.k_types.specs.Updates.{keep_objects, keep_exits, keep_shares, close_scan}
use Rattle.k_types.specs.Effects.{after_ended, survives, exit_stays, share_stays, open_roots}
use Rattle.k_types.specs.Replies.{is_populating}
use Rattle.k_types.specs.Steps.{has_sharer}
use Rattle.k_laws.proofs.Shapes.{typed-kept}
use Rattle.k_laws.proofs.Kept.{distinct_scans-closed, has_exit-kept, has_share-kept, any-fewer, distinct_exits-kept, distinct_shares-kept, scan_closed, sum-fewer, filter_swap}
use Rattle.k_laws.proofs.Uses.{use_by_less, charge_less}
use Rattle.k_types.proofs.Objects.{has-kept, refers_in-kept, referred}
use Rattle.k_types.proofs.Lists.{below_any, get_or_inside}
use Rattle.k_laws.proofs.Safe.{root_reached, reach_closed, reach_refers, exit_enters}
use Rattle.k_types.proofs.Ordered.{ordered_tail}

ordered-kept_from : (q : Name → Bool) (m k : Name) (xs : List Object) → (m ≡ k) ⊎ IsTrue (name_lt m k) → IsOrderedFrom k xs → IsOrderedFrom m (filter (λ o. q o.name) xs)
ordered-kept_from q m k [] low t = tt
ordered-kept_from q m k (o ∷ xs) low t =
    let after : IsTrue (name_lt m o.name) = elim low [ inl e ↦ rw e t.0 | inr l ↦ name_lt_trans m k o.name l t.0 ] in
    elim (q o.name) as (λ b. IsOrderedFrom m (cond b (o ∷ filter (λ o. q o.name) xs) (filter (λ o. q o.name) xs))) [
      | true ↦ (after, ordered-kept_from q o.name o.name xs (inl refl) t.1)
      | false ↦ ordered-kept_from q m o.name xs (inr after) t.1
    ]

ordered-kept : (q : Name → Bool) (xs : List Object) → IsOrdered xs → IsOrdered (filter (λ o. q o.name) xs)
ordered-kept q [] t = tt
ordered-kept q (o ∷ xs) t =
    elim (q o.name) as (λ b. IsOrdered (cond b (o ∷ filter (λ o. q o.name) xs) (filter (λ o. q o.name) xs))) [
      | true ↦ ordered-kept_from q o.name o.name xs (inl refl) t
      | false ↦ ordered_tail o.name (filter (λ o. q o.name) xs) (ordered-kept_from q o.name o.name xs (inl refl) t)
    ]

-- a heap has no more bytes after some objects went
pub bytes-kept : (own : ℕ → Heap) (g : Heap) (q : Name → Bool) (xs : List Object) → bytes_by own g (filter (λ o. q o.name) xs) ≤ bytes_by own g xs
unfolding bytes_by
bytes-kept own g q xs =
    let swapped = ap (total object_bytes) (filter_swap (λ o. heap_eq (own o.name.seg.0) g) (λ o. q o.name) xs) in
    let less = sum-fewer object_bytes object_bytes (λ o. q o.name) (λ o. le_refl (object_bytes o)) (objects_of own g xs) in
    subst (λ n. n ≤ total object_bytes (objects_of own g xs)) (sym swapped) less

module _ (trace : Trace) (st : State) (sound : IsSound trace st) (h : Heap) (roots : List Name) (opened : scan_of st.scans h ≡ Some roots) where
  stays : Name → Bool
  stays = survives trace st h

  -- an object stays where, in the heap, it is reached
  stay : (n : Name) → (owner_of trace st n.seg.0 ≡ h → IsTrue (has (reach_in trace st h roots) n)) → IsTrue (stays n)
  unfolding stays survives
  stay n reached =
      elim (cases_Bool (heap_eq (owner_of trace st n.seg.0) h)) [
        | inl same ↦ or_right _ _ (ap (λ found. has (reach_in trace st h (unwrap_or found [])) n) opened ∙ reached (heap_eq-true (owner_of trace st n.seg.0) h same))
        | inr apart ↦ or_left _ _ (not_from_false _ apart)
      ]

  -- what stayed in the heap is reached
  stayed : (n : Name) → owner_of trace st n.seg.0 ≡ h → IsTrue (stays n) → IsTrue (has (reach_in trace st h roots) n)
  unfolding stays survives
  stayed n at t =
      elim (or_cases (not (heap_eq (owner_of trace st n.seg.0) h)) (has (reach_in trace st h (open_roots st h)) n) t) [
        | inl apart ↦ absurd (false≢true (sym (not-true _ apart) ∙ heap_eq-same _ _ at))
        | inr there ↦ ap (λ found. has (reach_in trace st h (unwrap_or found [])) n) (sym opened) ∙ there
      ]

  kept : (n : Name) → IsTrue (has st.objects n) → (owner_of trace st n.seg.0 ≡ h → IsTrue (has (reach_in trace st h roots) n)) → IsTrue (has (filter (λ o. stays o.name) st.objects) n)
  kept n there reached = has-kept stays st.objects n ∙ and_from _ _ there (stay n reached)

  back : (n : Name) → IsTrue (has (filter (λ o. stays o.name) st.objects) n) → IsTrue (has st.objects n)
  back n there = (and_parts (has st.objects n) (stays n) (sym (has-kept stays st.objects n) ∙ there)).0

  refers_back : (a b : Name) → IsTrue (refers_in (filter (λ o. stays o.name) st.objects) a b) → IsTrue (refers_in st.objects a b) × IsTrue (stays a)
  refers_back a b r = and_parts (refers_in st.objects a b) (stays a) (sym (refers_in-kept stays st.objects a b) ∙ r)

  not_shared : (s : ℕ) → h ≡ shared s → ⊥
  not_shared s e = let none : scan_of st.scans h ≡ None = ap (scan_of st.scans) e ∙ sound.scans.none_shared s in cc (none, opened)

  -- what an exit item of another heap leads to is reached
  exit_reached : (g : Heap) (n : Name) → IsTrue (has_exit st.exits g n) → owner_of trace st n.seg.0 ≡ h → IsTrue (has (reach_in trace st h roots) n)
  unfolding is_entered
  exit_reached g n e at =
      root_reached trace st sound h roots opened n (sound.no_dangling.exits g n e) at
      (or_left _ _ (or_left _ _ (exit_enters (owner_of trace st) st.exits g n (sound.exits.leave g n e) e)))

  field_reached : (a b : Name) → IsTrue (refers_in st.objects a b) → IsTrue (stays a) → owner_of trace st b.seg.0 ≡ h → IsTrue (has (reach_in trace st h roots) b)
  field_reached a b r t at =
      elim (cases_Bool (heap_eq (owner_of trace st a.seg.0) (owner_of trace st b.seg.0))) [
        | inl same ↦
            let at_a = heap_eq-true (owner_of trace st a.seg.0) (owner_of trace st b.seg.0) same ∙ at in
            reach_closed trace st sound h roots opened a b (stayed a at_a t) r at_a at
        | inr apart ↦ exit_reached (owner_of trace st a.seg.0) b (sound.guarded.listed a b r apart) at
      ]

  register_reached : (q : ℕ) (n : Name) → IsTrue (in_registers st.registers q n) → owner_of trace st n.seg.0 ≡ h → IsTrue (has (reach_in trace st h roots) n)
  unfolding is_entered is_held
  register_reached q n held at =
      root_reached trace st sound h roots opened n (sound.no_dangling.registers q n held) at
      (elim (cases_Bool (heap_eq (user q) (owner_of trace st n.seg.0))) [
        | inl same ↦ or_right _ _ (ap (λ g. is_held st g n) (sym at ∙ sym (heap_eq-true (user q) (owner_of trace st n.seg.0) same)) ∙ held)
        | inr apart ↦ or_left _ _ (or_right _ _ (below_any _ (process_count trace) q (rw (← sound.shape.sized.registers) (get_or_inside _ st.registers q held)) (and_from _ _ (not_from_false _ apart) held)))
      ])

  exit_back : (g : Heap) (n : Name) → IsTrue (has_exit (filter (exit_stays trace st h) st.exits) g n) → IsTrue (has_exit st.exits g n)
  exit_back g n e = any-fewer _ (exit_stays trace st h) st.exits e

  share_gone : (p s : ℕ) → IsFalse (has_share st.shares p s) → IsFalse (has_share (filter (share_stays trace st h) st.shares) p s)
  share_gone p s none = false_from_ne_true _ (λ t. false≢true (sym none ∙ any-fewer _ (share_stays trace st h) st.shares t))

  sharer_gone : (s : ℕ) → IsFalse (has_sharer st.shares s) → IsFalse (has_sharer (filter (share_stays trace st h) st.shares) s)
  sharer_gone s none = false_from_ne_true _ (λ t. false≢true (sym none ∙ any-fewer _ (share_stays trace st h) st.shares t))

  exit_gone : (g : Heap) (n : Name) → IsFalse (has_exit st.exits g n) → IsFalse (has_exit (filter (exit_stays trace st h) st.exits) g n)
  exit_gone g n none = false_from_ne_true _ (λ t. false≢true (sym none ∙ exit_back g n t))

  -- a survivor's exit item stays
  exit_kept : (a b : Name) → IsTrue (refers_in st.objects a b) → IsTrue (stays a) → IsFalse (heap_eq (owner_of trace st a.seg.0) (owner_of trace st b.seg.0)) →
      IsTrue (exit_stays trace st h (record { heap = owner_of trace st a.seg.0; target = b }))
  unfolding exit_stays
  exit_kept a b r t apart =
      elim (cases_Bool (heap_eq (owner_of trace st a.seg.0) h)) [
        | inl same ↦
            let at = heap_eq-true (owner_of trace st a.seg.0) h same in
            or_right _ _ (ap (λ found. list_any (λ x. refers x b) (reach_in trace st h (unwrap_or found []))) opened
            ∙ referred (reach_in trace st h roots) a b (reach_refers trace st sound h roots opened a b (stayed a at t) r at))
        | inr other ↦ or_left _ _ (not_from_false _ other)
      ]

  scan_back : (g : Heap) (rs : List Name) → scan_of (filter (λ scan. not (heap_eq scan.heap h)) st.scans) g ≡ Some rs → (scan_of st.scans g ≡ Some rs) × IsFalse (heap_eq g h)
  scan_back g rs o = go (heap_eq g h) refl (sym (scan_closed h g st.scans) ∙ o)
    where
      go : (b : Bool) → heap_eq g h ≡ b → cond b None (scan_of st.scans g) ≡ Some rs → (scan_of st.scans g ≡ Some rs) × IsFalse (heap_eq g h)
      go true e o = absurd (cc (o))
      go false e o = (o, e)

  scan_none : (g : Heap) → scan_of st.scans g ≡ None → scan_of (filter (λ scan. not (heap_eq scan.heap h)) st.scans) g ≡ None
  scan_none g none = scan_closed h g st.scans ∙ elim (heap_eq g h) as (λ b. cond b None (scan_of st.scans g) ≡ None) [ true ↦ refl | false ↦ none ]

  apart_scan : (g : Heap) (rs : List Name) (n : Name) → (scan_of st.scans g ≡ Some rs) × IsFalse (heap_eq g h) → IsTrue (name_among n rs) → owner_of trace st n.seg.0 ≡ h → ⊥
  apart_scan g rs n (o, apart) t at = false≢true (sym apart ∙ heap_eq-same g h (sym (sound.scans.own g rs n o t) ∙ at))

  directory_reached : owner_of trace st directory.seg.0 ≡ h → IsTrue (has (reach_in trace st h roots) directory)
  unfolding is_held owner_of_segment
  directory_reached at = root_reached trace st sound h roots opened directory sound.no_dangling.directory at (or_right (is_entered trace st directory) _ (ap (λ g. is_held st g directory) (sym at)))

  entry_back : (n : Name) → has_entry (owner_of trace st) (filter (exit_stays trace st h) st.exits) n ≡ true → has_entry (owner_of trace st) st.exits n ≡ true
  entry_back n e = any-fewer _ (exit_stays trace st h) st.exits e

  root_back : (g : Heap) (n : Name) → is_root trace (after_ended trace h st) g n ≡ true → is_root trace st g n ≡ true
  unfolding is_entered is_held after_ended keep_objects keep_exits keep_shares close_scan
  root_back g n root =
      elim (or_cases (is_entered trace (after_ended trace h st) n) (is_held (after_ended trace h st) g n) root) [
        | inl entered ↦
            elim (or_cases (has_entry (owner_of trace st) (filter (exit_stays trace st h) st.exits) n) (is_pinned (process_count trace) (owner_of trace st) st.registers n) entered) [
              | inl entry ↦ or_left _ (is_held st g n) (or_left _ (is_pinned (process_count trace) (owner_of trace st) st.registers n) (entry_back n entry))
              | inr pinned ↦ or_left _ (is_held st g n) (or_right (has_entry (owner_of trace st) st.exits n) _ pinned)
            ]
        | inr held ↦ or_right (is_entered trace st n) _ (held_back g held)
      ]
    where
      held_back : (k : Heap) → is_held (after_ended trace h st) k n ≡ true → is_held st k n ≡ true
      held_back Kernel t = t
      held_back (User q) t = t
      held_back (Shared s) t = t

  populating_stays : (s : ℕ) (q : Pid) → phase_of st.phases s ≡ Populating q → IsTrue (share_stays trace st h (record { process = q.0; heap = s }))
  unfolding share_stays
  populating_stays s q e = or_right _ _ (ap (λ phase. is_populating phase q.0) e ∙ eq-eqb q.0 q.0 refl)

  uses_less : (m : ℕ) → use_by trace (limits_in trace st) (charge_by (bytes_of trace (after_ended trace h st)) st.ended (filter (share_stays trace st h) st.shares)) m ≤ use_of trace st m
  unfolding after_ended keep_objects keep_exits keep_shares close_scan bytes_by
  uses_less m =
      use_by_less trace (limits_in trace st) _ _
      (charge_less (bytes_of trace (after_ended trace h st)) (bytes_of trace st) st.ended (share_stays trace st h) st.shares
      (λ g. bytes-kept (owner_of trace st) g (survives trace st h) st.objects)) m

  pub collected_sound : IsSound trace (after_ended trace h st)
  unfolding after_ended keep_objects keep_exits keep_shares close_scan stays is_held
  collected_sound = record {
    shape = record {
      sized = record { made = sound.shape.sized.made; registers = sound.shape.sized.registers; each = sound.shape.sized.each; done = sound.shape.sized.done; phases = sound.shape.sized.phases; maxima = sound.shape.sized.maxima };
      distinct_exits = distinct_exits-kept (exit_stays trace st h) st.exits sound.shape.distinct_exits;
      distinct_shares = distinct_shares-kept (share_stays trace st h) st.shares sound.shape.distinct_shares;
      distinct_scans = distinct_scans-closed h st.scans sound.shape.distinct_scans;
      placed = λ n there. sound.shape.placed n (back n there);
      typed = typed-kept trace stays st.objects sound.shape.typed;
      declared = sound.shape.declared;
      known = record {
        referring = λ g n e. sound.shape.known.referring g n (exit_back g n e);
        sharers = λ p s t. sound.shape.known.sharers p s (any-fewer _ (share_stays trace st h) st.shares t);
        shared = λ p s t. sound.shape.known.shared p s (any-fewer _ (share_stays trace st h) st.shares t);
        scanned = λ g rs o. sound.shape.known.scanned g rs (scan_back g rs o).0;
      };
    };
    names = record {
      ordered = ordered-kept stays st.objects sound.names.ordered;
      numbered = λ n there. sound.names.numbered n (back n there);
    };
    no_dangling = record {
      directory = kept directory sound.no_dangling.directory directory_reached;
      fields = λ a b r. let parts = refers_back a b r in kept b (sound.no_dangling.fields a b parts.0) (field_reached a b parts.0 parts.1);
      registers = λ q n held. kept n (sound.no_dangling.registers q n held) (register_reached q n held);
      exits = λ g n e. kept n (sound.no_dangling.exits g n (exit_back g n e)) (exit_reached g n (exit_back g n e));
      scans = λ g rs n o t. let before = scan_back g rs o in kept n (sound.no_dangling.scans g rs n before.0 t) (λ at. absurd (apart_scan g rs n before t at));
      frozen = λ s root e. kept root (sound.no_dangling.frozen s root e) (λ at. absurd (not_shared s (sym at ∙ sound.phases.frozen s root e)));
    };
    guarded = record {
      allowed = λ a b r. sound.guarded.allowed a b (refers_back a b r).0;
      listed = λ a b r apart. let parts = refers_back a b r in
          has_exit-kept (exit_stays trace st h) st.exits (owner_of trace st a.seg.0) b
          ∙ and_from _ _ (sound.guarded.listed a b parts.0 apart) (exit_kept a b parts.0 parts.1 apart);
    };
    exits = record { leave = λ g n e. sound.exits.leave g n (exit_back g n e); allowed = λ g n e. sound.exits.allowed g n (exit_back g n e) };
    gone = record {
      registers = sound.gone.registers;
      shares = λ p s ended. share_gone p s (sound.gone.shares p s ended);
      scans = λ p ended. scan_none (user p) (sound.gone.scans p ended);
      exits = λ p n ended. exit_gone (user p) n (sound.gone.exits p n ended);
      absorbed_shares = λ s e. sharer_gone s (sound.gone.absorbed_shares s e);
      absorbed_exits = λ s n e. exit_gone (shared s) n (sound.gone.absorbed_exits s n e);
    };
    phases = record {
      unmade_shares = λ s e. sharer_gone s (sound.phases.unmade_shares s e);
      unmade_objects = λ s n e there. sound.phases.unmade_objects s n e (back n there);
      populating = λ s q p e t. sound.phases.populating s q p e (any-fewer _ (share_stays trace st h) st.shares t);
      populated = λ s q e lives. has_share-kept (share_stays trace st h) st.shares q.0 s ∙ and_from _ _ (sound.phases.populated s q e lives) (populating_stays s q e);
      frozen = sound.phases.frozen;
    };
    uses = λ m known. le_trans (uses_less m) (sound.uses m known);
    scans = record {
      own = λ g rs n o t. sound.scans.own g rs n (scan_back g rs o).0 t;
      recorded = λ g rs n o there at root. sound.scans.recorded g rs n (scan_back g rs o).0 (back n there) at (root_back g n root);
      none_shared = λ s. scan_none (shared s) (sound.scans.none_shared s);
    };
  }
