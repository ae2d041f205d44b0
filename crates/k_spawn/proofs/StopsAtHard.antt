-- What a child does moves no use but that of its limit and of limits below it: a hard limit stops charges and reservations.
use Rattle.std.proofs.Common.{◌≡◌, ◌⊎◌, ◌∙◌, ℕ, zero, suc, ◌+◌, ◌-◌, ◌*◌, ◌<◌, ◌≤◌, ◌==◌, ◌||◌, not, Bool, true, false, cond, List, [], ◌∷◌, ◌++◌, filter, length, map, Option, Some, None, refl, sym, ap, ap₂, subst, arith, inl, inr, eq-eqb, eqb-true, ne_eqb, IsTrue, IsFalse}
use Rattle.std.proofs.Math.Path.{fun_ext}
use Rattle.std.specs.List.{AllByRecursion}
use Rattle.std.proofs.lemmas.Bool.{and_parts, cases_Bool, cases_eq, false≢true, not-true, or_left}
use Rattle.k_types.specs.Totals.{total}
use Rattle.k_types.specs.declared.names.Heap.{Heap}
use Rattle.k_types.specs.declared.names.Heap.TheVariants.{Kernel}
use Rattle.k_types.specs.declared.names.LimitId.{LimitId}
use Rattle.k_types.specs.declared.names.Pid.{Pid}
use Rattle.k_types.specs.declared.names.SharedId.{SharedId}
use Rattle.k_types.specs.declared.setup.LimitRow.{LimitRow}
use Rattle.k_types.specs.declared.event.Event.{Event}
use Rattle.k_types.specs.declared.event.Event.TheVariants.{Done, Ended, Absorbed as AbsorbedEvent, Closing}
use Rattle.k_types.specs.declared.event.Reply.{Reply}
use Rattle.k_types.specs.declared.op.Op.{Op}
use Rattle.k_types.specs.declared.op.Op.TheVariants.{New, KNew, SNew, Store, Load, Move, Clear, Dir, Put, Get, Collect, KCollect, Share, Freeze, Attach, Exit, Kill, Resize}
use Rattle.k_types.specs.Effects.{after_absorbed, after_end_of, after_ended, after_kill, share_stays, step}
use Rattle.k_types.specs.FileOrder.{absorptions, events_of, heap_begun, with_end}
use Rattle.k_types.specs.Limits.{is_ancestor, limits_in, max_of, path_above, path_of, path_within, use_by, use_of}
use Rattle.k_types.specs.Names.{among, heap_eq}
use Rattle.k_types.specs.Numbers.{numbers_below}
use Rattle.k_types.specs.Owners.{bytes_of, charge_of, phase_of, shared, user}
use Rattle.k_types.specs.Replies.{reply_to}
use Rattle.k_types.specs.Sound.{IsSound}
use Rattle.k_types.specs.State.{Sharing, State}
use Rattle.k_types.specs.Steps.{IsPossible, IsRun, has_sharer, is_live, is_orphan, run, waits_for_orphans}
use Rattle.k_types.specs.Trace.{Trace, limit_of, row_of}
use Rattle.k_types.specs.TraceRules.{ends_a_process, is_of_version}
use Rattle.k_types.specs.Updates.{close_scan, count_done, keep_exits, keep_objects, keep_shares, set_max}
use Rattle.k_types.proofs.Lists.{none_is, filter_stronger}
use Rattle.k_types.proofs.Maxima.{hard_in, length_in}
use Rattle.k_types.proofs.Sums.{bit, sum_same}
use Rattle.k_laws.specs.Changes.{MayAbsorb}
use Rattle.k_laws.specs.Charges.{bytes_added}
use Rattle.k_laws.specs.Resizing.{reserves_at, reserves_by}
use Rattle.k_laws.proofs.Charged.{operation_uses}
use Rattle.k_laws.proofs.Ending.{credits, exit_credits, others_never_raise}
use Rattle.k_laws.proofs.SoundResized.{moves_the_reservation}
use Rattle.k_laws.proofs.SoundSteps.{step_sound}
use Rattle.k_laws.proofs.UsesRaised.{uses_raised}
use Rattle.k_laws.proofs.UseShown.{use_is_shown}
use Rattle.k_laws.proofs.CollectedOnBook.{other_bytes}
use Rattle.k_laws.proofs.ChangesLaws.{what_absorption_changes_in_the_book}
use Rattle.k_types.specs.Cells.{use_shown}
use Rattle.k_spawn.specs.Families.{parent_of}
use Rattle.k_spawn.specs.Scripts.{Script, family, limit_for}
use Rattle.k_spawn.specs.Translation.{limit_id, translation}
use Rattle.k_spawn.proofs.ChildLimits.{limit_is}
use Rattle.k_spawn.proofs.Gathered.{processes_are}
use Rattle.k_spawn.proofs.ChildTree.{IsOver, all_processes, child_limit_known, first_child, over_is, parent_is, row_is}
use Rattle.k_spawn.proofs.Level.{IsPlaced}
use Rattle.k_spawn.proofs.OperationStep.{fixed}

-- the path of a hard limit is the limit itself
hard_path : (rows : List LimitRow) (depth m : ℕ) → 0 < depth → (row_of rows m).hard ≡ true → path_within rows depth m ≡ m ∷ []
unfolding path_within
hard_path rows zero m some hard = absurd (omega (arith, some))
hard_path rows (suc depth) m some hard = path_is (row_of rows m).parent hard
  where
    path_is : (o : Option LimitId) → (row_of rows m).hard ≡ true → m ∷ path_above (path_within rows depth) (row_of rows m).hard o ≡ m ∷ []
    path_is o e = ap (λ b. m ∷ path_above (path_within rows depth) b o) e

-- the limit is neither that of the process nor below it
pub record IsOutside (s : Script) (p m : ℕ) : Type 0 where
  pub known : m < length (translation s).trace.limits
  pub apart : limit_for s p ≡ m → ⊥
  pub above : IsFalse (is_ancestor (translation s).trace.limits (limit_for s p) m)

-- the uses outside are the same in both states
abbrev pub KeepsUses : Script → ℕ → State → State → Type 0
KeepsUses s p z after = (m : ℕ) → IsOutside s p m → use_of (translation s).trace after m ≡ use_of (translation s).trace z m

-- the process itself, or one below it
abbrev pub IsWithin : Script → ℕ → ℕ → Type 0
IsWithin s p c = (c ≡ p) ⊎ IsOver s (limit_for s p) (limit_for s c)

module _ (s : Script) (placed : IsPlaced s) (p : ℕ) (low_p : first_child s ≤ p) (high_p : p < all_processes s) where
  abbrev a : Trace
  a = (translation s).trace

  within_apart : (c : ℕ) → first_child s ≤ c → c < all_processes s → IsWithin s p c → (m : ℕ) → IsOutside s p m → limit_for s c ≡ m → ⊥
  within_apart c low high (inl same) m out e = out.apart (ap (limit_for s) (sym same) ∙ e)
  within_apart c low high (inr over) m out e =
      false≢true (sym out.above ∙ ap (is_ancestor a.limits (limit_for s p)) (sym e) ∙ over_is s (limit_for s p) (limit_for s c) (child_limit_known s c low high) over)

  child_path : (z : State) (c : ℕ) → first_child s ≤ c → c < all_processes s → path_of (limits_in a z) (limit_for s c) ≡ limit_for s c ∷ []
  child_path z c low high =
      let long : length (limits_in a z) ≡ length a.limits = length_in a.limits z.maxima in
      let inside = child_limit_known s c low high in
      hard_path (limits_in a z) (length (limits_in a z)) (limit_for s c) (omega (arith, long, inside)) (hard_in a.limits z.maxima (limit_for s c) ∙ ap (λ (row : LimitRow). row.hard) (row_is s c low high))

  not_on_path : (z : State) (c : ℕ) → first_child s ≤ c → c < all_processes s → IsWithin s p c → (m : ℕ) → IsOutside s p m → among m (path_of (limits_in a z) (limit_for s c)) ≡ false
  not_on_path z c low high within m out = ap (among m) (child_path z c low high) ∙ ap (λ b. b || false) (ne_eqb (limit_for s c) m (within_apart c low high within m out))

  nothing_less : (k n : ℕ) (b : Bool) (u : ℕ) → k ≡ n + cond b u 0 → b ≡ false → n ≡ k
  nothing_less k n true u e f = absurd (false≢true (sym f))
  nothing_less k n false u e f = omega (arith, e)

  -- the end of a process within
  pub killed_keeps : (z : State) (c : ℕ) → first_child s ≤ c → c < all_processes s → IsWithin s p c → KeepsUses s p z (count_done p (after_kill a c z))
  unfolding after_kill count_done
  killed_keeps z c low high within m out = elim (among c z.ended) as (λ b. use_of a (cond b z (after_end_of a c z)) m ≡ use_of a z m) [
    | true ↦ refl
    | false ↦ nothing_less _ _ (among m (path_of (limits_in a z) (limit_of a c))) (charge_of a z c)
        ((credits a z c placed.limits (subst (λ n. c < n) (sym (processes_are s)) high)).uses m)
        (ap (λ l. among m (path_of (limits_in a z) l)) (limit_is s c high) ∙ not_on_path z c low high within m out)
  ]

  -- another maximum of a limit whose parent's limit is within
  pub resized_keeps : (z : State) (c max : ℕ) → length z.maxima ≡ length a.limits → first_child s ≤ c → c < all_processes s → (q : ℕ) → parent_of (family s) c ≡ q → first_child s ≤ q → q < all_processes s → IsWithin s p q → KeepsUses s p z (count_done p (set_max (limit_for s c) max z))
  unfolding count_done
  resized_keeps z c max sized low high q parent low_q high_q within m out =
      let moves = (moves_the_reservation a placed.limits z (limit_for s c) max (child_limit_known s c low high) sized (limit_id s (parent_of (family s) c)) (parent_is s c low high)).uses m in
      go (reserves_at a z (limit_for s c) m) none moves
    where
      none : reserves_at a z (limit_for s c) m ≡ false
      none =
          ap (λ (row : LimitRow). reserves_by a z row.hard row.parent m) (row_is s c low high)
          ∙ ap (λ k. among m (path_of (limits_in a z) (limit_for s k))) parent
          ∙ not_on_path z q low_q high_q within m out

      go : (b : Bool) → b ≡ false → use_of a (set_max (limit_for s c) max z) m + cond b (max_of (limits_in a z) (limit_for s c)) 0 ≡ use_of a z m + cond b max 0 → use_of a (set_max (limit_for s c) max z) m ≡ use_of a z m
      go true e f = absurd (false≢true (sym e))
      go false e f = omega (arith, f)

  -- ---- operations of the first version

  -- the event is an operation of the child, the end of a collection of its heap or of the kernel's, or an absorption
  abbrev IsMine : Event → Type 0
  IsMine (Done pid op said) = (pid.0 ≡ p) × IsTrue (is_of_version 1 op)
  IsMine (Ended h x y z w) = (h ≡ user p) ⊎ (h ≡ Kernel)
  IsMine (AbsorbedEvent t) = Unit {0}
  IsMine Closing = ⊥

  -- the end of a collection of another's heap charges nobody less
  other_stays : (st : State) (h : Heap) (q : ℕ) → IsFalse (heap_eq h (user q)) → (e : Sharing) → (e.process == q) ≡ true → share_stays a st h e ≡ true
  unfolding share_stays
  other_stays st h q apart e mine = or_left _ _ (or_left _ _ (or_left _ _ (ap not (ap (λ k. heap_eq h (user k)) (eqb-true e.process q mine) ∙ apart))))

  other_charge : (st : State) → IsSound a st → (h : Heap) (q : ℕ) → IsFalse (heap_eq (user q) h) → IsFalse (heap_eq h (user q)) → ((t : ℕ) → IsFalse (heap_eq (shared t) h)) → charge_of a (after_ended a h st) q ≡ charge_of a st q
  unfolding after_ended keep_objects keep_exits keep_shares close_scan
  other_charge st sound h q apart turned heaps =
      ap (λ shares. cond (among q st.ended) 0 (bytes_of a (after_ended a h st) (user q) + total (λ (e : Sharing). bytes_of a (after_ended a h st) (shared e.heap)) shares)) (filter_stronger (λ e. e.process == q) (share_stays a st h) (other_stays st h q turned) st.shares)
      ∙ ap₂ (λ x y. cond (among q st.ended) 0 (x + y)) (other_bytes a st h sound (user q) apart)
      (sum_same (λ (e : Sharing). bytes_of a (after_ended a h st) (shared e.heap)) (λ (e : Sharing). bytes_of a st (shared e.heap)) (λ e. other_bytes a st h sound (shared e.heap) (heaps e.heap)) (filter (λ e. e.process == q) st.shares))

  ended_keeps : (st : State) → IsSound a st → (h : Heap) (x y z w : ℕ) → IsPossible a st (Ended h x y z w) → (h ≡ user p) ⊎ (h ≡ Kernel) → KeepsUses s p st (step a st (Ended h x y z w))
  unfolding step after_ended keep_objects keep_exits keep_shares close_scan
  ended_keeps st sound h x y z w may (inr e) m out =
      ap (λ charge. use_by a (limits_in a st) charge m) (fun_ext (λ q. subst (λ g. charge_of a (after_ended a g st) q ≡ charge_of a st q) (sym e) (other_charge st sound Kernel q refl refl (λ t. refl))))
  ended_keeps st sound h x y z w may (inl e) m out =
      nothing_less _ _ (among m (path_of (limits_in a st) (limit_of a p))) less
      (uses_raised a placed.limits st p less (charge_of a (after_ended a h st)) (charge_of a st) (subst (λ n. p < n) (sym (processes_are s)) high_p) more m)
      (ap (λ l. among m (path_of (limits_in a st) l)) (limit_is s p high_p) ∙ not_on_path st p low_p high_p (inl refl) m out)
    where
      less : ℕ
      less = charge_of a st p - charge_of a (after_ended a h st) p

      fewer : charge_of a (step a st (Ended h x y z w)) p ≤ charge_of a st p
      fewer = others_never_raise a st (Ended h x y z w) p sound may refl

      more : (q : ℕ) → charge_of a st q ≡ charge_of a (after_ended a h st) q + less * bit (q == p)
      more q = elim (cases_eq q p) [
        | inl same ↦ subst (λ k. charge_of a st k ≡ charge_of a (after_ended a h st) k + less * bit (k == p)) (sym same) (rw (eq-eqb p p refl) (let f = fewer in omega (arith, f)))
        | inr ne ↦ rw (ne_eqb q p ne) (
            let stays : charge_of a (after_ended a h st) q ≡ charge_of a st q = subst (λ g. charge_of a (after_ended a g st) q ≡ charge_of a st q) (sym e)
            (other_charge st sound (user p) q (ne_eqb q p ne) (ne_eqb p q (λ f. ne (sym f))) (λ t. refl)) in
            omega (arith, stays))
      ]

  absorbed_keeps : (st : State) → IsSound a st → (t : ℕ) → MayAbsorb a st t → KeepsUses s p st (after_absorbed a t st)
  absorbed_keeps st sound t may m out =
      sym (use_is_shown a (after_absorbed a t st) m out.known)
      ∙ ap (λ book. use_shown a book m) (what_absorption_changes_in_the_book a st t sound may)
      ∙ use_is_shown a st m out.known

  step_is : (st : State) (t : SharedId) (m : ℕ) → use_of a (step a st (AbsorbedEvent t)) m ≡ use_of a (after_absorbed a t.0 st) m
  unfolding step
  step_is st t m = refl

  nothing_more : (k n : ℕ) (b : Bool) (u : ℕ) → n ≡ k + cond b u 0 → b ≡ false → n ≡ k
  nothing_more k n true u e f = absurd (false≢true (sym f))
  nothing_more k n false u e f = omega (arith, e)

  ends_exit : (op : Op) → IsTrue (is_of_version 1 op) → IsTrue (ends_a_process op) → op ≡ Exit
  ends_exit Exit first e = refl
  ends_exit (Kill q) first e = absurd (false≢true first)
  ends_exit _ first e = absurd (false≢true e)

  own_path : (st : State) (pid : Pid) → pid.0 ≡ p → (m : ℕ) → IsOutside s p m → among m (path_of (limits_in a st) (limit_of a pid.0)) ≡ false
  own_path st pid same m out =
      ap (λ k. among m (path_of (limits_in a st) (limit_of a k))) same
      ∙ ap (λ l. among m (path_of (limits_in a st) l)) (limit_is s p high_p) ∙ not_on_path st p low_p high_p (inl refl) m out

  exit_keeps : (st : State) (pid : Pid) (said : Reply) → IsPossible a st (Done pid Exit said) → pid.0 ≡ p → KeepsUses s p st (step a st (Done pid Exit said))
  exit_keeps st pid said may same m out =
      nothing_less _ _ (among m (path_of (limits_in a st) (limit_of a pid.0))) (charge_of a st pid.0) ((exit_credits a st pid said placed.limits may).uses m) (own_path st pid same m out)

  done_keeps : (st : State) → IsSound a st → (pid : Pid) (op : Op) (said : Reply) → IsPossible a st (Done pid op said) → pid.0 ≡ p → IsTrue (is_of_version 1 op) → KeepsUses s p st (step a st (Done pid op said))
  done_keeps st sound pid op said may same first m out = elim (cases_Bool (ends_a_process op)) [
    | inl ends ↦
        let is = ends_exit op first ends in
        ap (λ o. use_of a (step a st (Done pid o said)) m) is ∙ exit_keeps st pid said (subst (λ o. IsPossible a st (Done pid o said)) is may) same m out
    | inr stays ↦
        nothing_more _ _ (among m (path_of (limits_in a st) (limit_of a pid.0))) (bytes_added a st pid.0 op) (operation_uses a placed.limits st pid op said sound may stays (fixed op first) m) (own_path st pid same m out)
  ]

  event_keeps : (st : State) → IsSound a st → (event : Event) → IsPossible a st event → IsMine event → KeepsUses s p st (step a st event)
  event_keeps st sound (Done pid op said) may mine = done_keeps st sound pid op said may mine.0 mine.1
  event_keeps st sound (Ended h x y z w) may mine = ended_keeps st sound h x y z w may mine
  event_keeps st sound (AbsorbedEvent t) may mine = absorbed st sound t may
    where
      absorbed : (st : State) → IsSound a st → (t : SharedId) → IsPossible a st (AbsorbedEvent t) → KeepsUses s p st (step a st (AbsorbedEvent t))
      absorbed st sound t may m out = step_is st t m ∙ absorbed_keeps st sound t.0 (record {
        known = may.known;
        no_sharer = not-true _ (and_parts (is_live (phase_of st.phases t.0)) (not (has_sharer st.shares t.0)) may.orphan).1;
        idle = none_is _ may.idle;
      }) m out
  event_keeps st sound Closing may mine = absurd mine

  run_keeps : (events : List Event) (st : State) → IsSound a st → IsRun a st events → AllByRecursion IsMine events → KeepsUses s p st (run a st events)
  run_keeps [] st sound legal mine m out = refl
  run_keeps (event ∷ events) st sound legal mine m out =
      run_keeps events (step a st event) (step_sound a placed.limits st sound event legal.0) legal.1 mine.1 m out ∙ event_keeps st sound event legal.0 mine.0 m out

  -- ---- the events of an operation

  mine_append : (xs ys : List Event) → AllByRecursion IsMine xs → AllByRecursion IsMine ys → AllByRecursion IsMine (xs ++ ys)
  mine_append [] ys one two = two
  mine_append (x ∷ xs) ys one two = (one.0, mine_append xs ys one.1 two)

  mine_absorbed : (ts : List ℕ) → AllByRecursion IsMine (map (λ t. AbsorbedEvent (record { 0 = t })) ts)
  mine_absorbed [] = tt
  mine_absorbed (t ∷ ts) = (tt, mine_absorbed ts)

  begun_is : (op : Op) (h : Heap) → heap_begun p op ≡ Some h → (h ≡ user p) ⊎ (h ≡ Kernel)
  begun_is Collect h e = inl (let same : user p ≡ h = cc in sym same)
  begun_is KCollect h e = inr (let same : Kernel ≡ h = cc in sym same)
  begun_is (New r ty) h e = absurd (cc)
  begun_is (KNew r ty) h e = absurd (cc)
  begun_is (SNew r t ty) h e = absurd (cc)
  begun_is (Store base i value) h e = absurd (cc)
  begun_is (Load r base i) h e = absurd (cc)
  begun_is (Move r from) h e = absurd (cc)
  begun_is (Clear r) h e = absurd (cc)
  begun_is (Dir r) h e = absurd (cc)
  begun_is (Put base i number) h e = absurd (cc)
  begun_is (Get base i) h e = absurd (cc)
  begun_is (Share t) h e = absurd (cc)
  begun_is (Freeze t root) h e = absurd (cc)
  begun_is (Attach r t) h e = absurd (cc)
  begun_is Exit h e = absurd (cc)
  begun_is (Kill q) h e = absurd (cc)
  begun_is (Resize m max) h e = absurd (cc)

  mine_acted : (op : Op) → IsTrue (is_of_version 1 op) → (at : State) (begun : Option Heap) → heap_begun p op ≡ begun → AllByRecursion IsMine (with_end a at (Done (record { 0 = p }) op (reply_to a at p op)) begun)
  mine_acted op first at None e = ((refl, first), tt)
  mine_acted op first at (Some h) e = ((refl, first), (begun_is op h e, tt))

  -- an operation of the first version moves no use outside
  pub operation_keeps : (x : State) → IsSound a x → (op : Op) → IsTrue (is_of_version 1 op) → IsRun a x (events_of a x p (Some op)) → KeepsUses s p x (run a x (events_of a x p (Some op)))
  operation_keeps x sound op first legal = run_keeps (events_of a x p (Some op)) x sound legal (mine (waits_for_orphans op))
    where
      mine : (b : Bool) → AllByRecursion IsMine (let first = cond b (absorptions a x) [] in first ++ with_end a (run a x first) (Done (record { 0 = p }) op (reply_to a (run a x first) p op)) (heap_begun p op))
      mine true = mine_append (absorptions a x) _ (mine_absorbed (filter (is_orphan x) (numbers_below a.shared_heaps))) (mine_acted op first (run a x (absorptions a x)) (heap_begun p op) refl)
      mine false = mine_acted op first x (heap_begun p op) refl
