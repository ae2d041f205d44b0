-- What a sound state names is the trace's, and so is what its replies name.
use Rattle.std.proofs.Common.{◌≡◌, ℕ, zero, suc, ◌+◌, ◌<◌, ◌&&◌, not, cond, Bool, true, false, refl, ap, subst, sym, ◌∙◌, List, [], ◌∷◌, nat_lt, length, get_or, Option, Some, None, arith, ltb-true, IsTrue, ◌-◌}
use Rattle.std.specs.Prelude.{IfSome}
use Rattle.std.specs.List.{AllByRecursion, list_any}
use Rattle.std.proofs.lemmas.Bool.{and_parts, or_left, or_right}
use Rattle.k_types.specs.declared.names.Name.{Name}
use Rattle.k_types.specs.declared.names.Heap.{Heap}
use Rattle.k_types.specs.declared.names.Heap.TheVariants.{Kernel, User, Shared}
use Rattle.k_types.specs.declared.names.LimitId.{LimitId}
use Rattle.k_types.specs.declared.names.Phase.{Phase}
use Rattle.k_types.specs.declared.names.Phase.TheVariants.{Unmade, Populating, Frozen, Absorbed}
use Rattle.k_types.specs.declared.setup.LimitRow.{LimitRow}
use Rattle.k_types.specs.declared.op.Op.{Op}
use Rattle.k_types.specs.declared.op.Op.TheVariants.{New, KNew, SNew, Store, Load, Dir, Put, Get, Share, Freeze, Attach, Kill, Resize}
use Rattle.k_types.specs.declared.event.Fault.{Fault}
use Rattle.k_types.specs.declared.event.Fault.TheVariants.{NotPopulating, Segv}
use Rattle.k_types.specs.declared.event.Reply.{Reply}
use Rattle.k_types.specs.Bounds.{maximum_below, register_count}
use Rattle.k_types.specs.Names.{heap_eq, leads_to}
use Rattle.k_types.specs.Trace.{Trace, IsHeap, limit_of, process_count, row_of, size_of_type}
use Rattle.k_types.specs.TraceRules.{AreLimits, IsTree}
use Rattle.k_types.specs.State.{Content, Refers, Holds, Object, State, content_leads_to, fields_of, has, has_share, object_at, refers_in, register}
use Rattle.k_types.specs.Limits.{full_limit, limits_in, max_of, path_above, path_within, use_of, full_for, full_above}
use Rattle.k_types.specs.Owners.{bytes_of, owner_of, phase_of}
use Rattle.k_types.specs.Replies.{access_faults, answer, at_base, fault_where, faults, field_at, first_fault, limit_fault, is_populating, load_faults, number_faults, reference, reference_from, refused_or, reply_to, root_of, sharer_fault, size_fault, store_faults, may_resize}
use Rattle.k_types.specs.Steps.{in_range}
use Rattle.k_types.specs.Sound.{IsSound}
use Rattle.k_types.specs.Known.{IsKnownFault, IsKnownName, IsKnownReply}
use Rattle.k_types.proofs.Maxima.{length_in, tree_in}
use Rattle.k_types.proofs.NameTests.{name_eq_refl}
use Rattle.k_laws.proofs.SoundStore.{register_holds}
use Rattle.k_types.proofs.Lists.{if_some, found_holds}
use Rattle.k_types.proofs.Objects.{refers_found}
use Rattle.k_types.proofs.Owners.{owner_known}

-- the limits on a path are the trace's
all_above : (n : ℕ) (path : ℕ → List ℕ) (hard : Bool) (parent : Option LimitId) → ((q : LimitId) → parent ≡ Some q → AllByRecursion (λ k. k < n) (path q.0)) →
    AllByRecursion (λ k. k < n) (path_above path hard parent)
all_above n path true parent gives = tt
all_above n path false None gives = tt
all_above n path false (Some q) gives = gives q refl

all_on_path : (rows : List LimitRow) → IsTree rows → (depth m : ℕ) → m < length rows → AllByRecursion (λ k. k < length rows) (path_within rows depth m)
unfolding path_within
all_on_path rows tree zero m inside = tt
all_on_path rows tree (suc depth) m inside = (
  inside,
  all_above (length rows) (path_within rows depth) (row_of rows m).hard (row_of rows m).parent
      (λ q above. let below = tree m q inside above in all_on_path rows tree depth q.0 (omega arith)),
)

path_limit_known : (trace : Trace) (st : State) → AreLimits trace → (m size q : ℕ) → m < length trace.limits → full_limit trace st m size ≡ Some q → q < length trace.limits
path_limit_known trace st rules m size q known full =
    let long = length_in trace.limits st.maxima in
    let inside : m < length (limits_in trace st) = subst (λ k. m < k) (sym long) known in
    subst (λ k. q < k) long
    (found_holds (λ k. k < length (limits_in trace st)) (λ k. nat_lt (max_of (limits_in trace st) k) (use_of trace st k + size))
    (path_within (limits_in trace st) (length (limits_in trace st)) m) q
    (all_on_path (limits_in trace st) (tree_in trace.limits st.maxima rules.tree) (length (limits_in trace st)) m inside) full)

limit_known : (trace : Trace) (st : State) → AreLimits trace → (p size q : ℕ) → p < process_count trace → full_limit trace st (limit_of trace p) size ≡ Some q → q < length trace.limits
limit_known trace st rules p size q known full = path_limit_known trace st rules (limit_of trace p) size q (rules.limited p known) full

-- faults that name what the trace declares
abbrev AreKnownFaults : Trace → List (Option Fault) → Type 0
AreKnownFaults trace fs = AllByRecursion (λ f. IfSome f (IsKnownFault trace)) fs

where_known : (trace : Trace) (b : Bool) (f : Fault) → IsKnownFault trace f → IfSome (fault_where b f) (IsKnownFault trace)
unfolding fault_where
where_known trace true f known = known
where_known trace false f known = tt

sharer_known : (trace : Trace) (st : State) (own : Heap) (p : ℕ) → IsHeap trace own → IfSome (sharer_fault st own p) (IsKnownFault trace)
sharer_known trace st Kernel p known = tt
sharer_known trace st (User q) p known = tt
sharer_known trace st (Shared s) p known = where_known trace _ _ known

size_known : (trace : Trace) (st : State) → AreLimits trace → (p size : ℕ) → p < process_count trace → IfSome (size_fault trace st p size) (IsKnownFault trace)
unfolding size_fault
size_known trace st rules p size known = go (full_limit trace st (limit_of trace p) size) refl
  where
    go : (q : Option ℕ) → full_limit trace st (limit_of trace p) size ≡ q → IfSome (limit_fault q) (IsKnownFault trace)
    go None e = tt
    go (Some q) e = limit_known trace st rules p size q known e

-- the first fault names what the trace declares, and so does the reply
refused_known : (trace : Trace) (fs : List (Option Fault)) (reply : Reply) → AreKnownFaults trace fs → IsKnownReply trace reply → IsKnownReply trace (refused_or (first_fault fs) reply)
unfolding first_fault
refused_known trace [] reply all known = known
refused_known trace (Some f ∷ fs) reply all known = all.0
refused_known trace (None ∷ fs) reply all known = refused_known trace fs reply all.1 known

pub leads_from : (content : List Content) (i : ℕ) (y : Name) → reference (get_or content i (Holds 0)) ≡ Some y → IsTrue (list_any (content_leads_to y) content)
leads_from [] i y e = absurd (cc e)
leads_from (Refers r ∷ content) zero y e = or_left _ _ (ap (λ m. leads_to m y) e ∙ name_eq_refl y)
leads_from (Holds n ∷ content) zero y e = absurd (cc e)
leads_from (c ∷ content) (suc i) y e = or_right (content_leads_to y c) _ (leads_from content i y e)

-- the object's field refers to what is read there
pub field_refers : (st : State) (x : Name) (i : ℕ) (y : Name) → reference (field_at st x i) ≡ Some y → IsTrue (refers_in st.objects x y)
field_refers st x i y e = go (object_at st.objects x) refl e
  where
    go : (o : Option Object) → object_at st.objects x ≡ o → reference (get_or (fields_of o) i (Holds 0)) ≡ Some y → IsTrue (refers_in st.objects x y)
    go None found leads = absurd (cc leads)
    go (Some o) found leads = refers_found st.objects x y o found (leads_from o.fields i y leads)

module _ (trace : Trace) (st : State) (rules : AreLimits trace) (sound : IsSound trace st) (p : ℕ) (known : p < process_count trace) where
  there_known : (n : Name) → IsTrue (has st.objects n) → IsKnownName trace n
  there_known n there = (sound.shape.placed n there).1

  field_known : (x : Name) (i : ℕ) (y : Name) → reference (field_at st x i) ≡ Some y → IsKnownName trace y
  field_known x i y e = there_known y (sound.no_dangling.fields x y (field_refers st x i y e))

  in_register : (r : ℕ) → IfSome (register st.registers p r) (IsKnownName trace)
  in_register r = if_some (IsKnownName trace) (register st.registers p r) (λ n e. there_known n (sound.no_dangling.registers p n (register_holds st.registers p r n e)))

  loaded_known : (base : Option Name) (i : ℕ) → IfSome (reference_from st base i) (IsKnownName trace)
  loaded_known None i = tt
  loaded_known (Some x) i = if_some (IsKnownName trace) (reference (field_at st x i)) (field_known x i)

  sharer_at : (x : Name) → IsKnownName trace x → IfSome (sharer_fault st (owner_of trace st x.seg.0) p) (IsKnownFault trace)
  sharer_at x there = sharer_known trace st (owner_of trace st x.seg.0) p (owner_known trace st x.seg.0 there)

  store_known : (base : Option Name) (i : ℕ) (value : Option Name) → IfSome base (IsKnownName trace) → AreKnownFaults trace (at_base base (store_faults trace st p i value))
  unfolding access_faults
  store_known None i value there = (tt, tt)
  store_known (Some x) i value there =
      (where_known trace _ _ tt, (sharer_at x there, (where_known trace _ _ tt, (where_known trace _ _ tt, (where_known trace _ _ tt, (where_known trace _ _ tt, tt))))))

  load_known : (base : Option Name) (i : ℕ) → IfSome base (IsKnownName trace) → AreKnownFaults trace (at_base base (load_faults trace st p i))
  unfolding access_faults
  load_known None i there = (tt, tt)
  load_known (Some x) i there = (where_known trace _ _ tt, (sharer_at x there, (where_known trace _ _ tt, (where_known trace _ _ tt, tt))))

  number_known : (base : Option Name) (i : ℕ) → IfSome base (IsKnownName trace) → AreKnownFaults trace (at_base base (number_faults trace st p i))
  unfolding access_faults
  number_known None i there = (tt, tt)
  number_known (Some x) i there = (where_known trace _ _ tt, (sharer_at x there, (where_known trace _ _ tt, (where_known trace _ _ tt, tt))))

  root_known : (s : ℕ) → IfSome (root_of (phase_of st.phases s)) (IsKnownName trace)
  root_known s = go (phase_of st.phases s) refl
    where
      go : (phase : Phase) → phase_of st.phases s ≡ phase → IfSome (root_of phase) (IsKnownName trace)
      go Unmade e = tt
      go (Populating q) e = tt
      go (Frozen root) e = there_known root (sound.no_dangling.frozen s root e)
      go Absorbed e = tt

  shared_size : (b : Bool) (size : ℕ) → IfSome (cond b None (size_fault trace st p size)) (IsKnownFault trace)
  shared_size true size = tt
  shared_size false size = size_known trace st rules p size known

  grown_known : (m max : ℕ) → m < length trace.limits → (b : Bool) → IfSome (cond b (limit_fault (full_for trace st m max)) None) (IsKnownFault trace)
  grown_known m max inside false = tt
  grown_known m max inside true = full_known (full_for trace st m max) refl
    where
      above : (parent : Option LimitId) → (row_of trace.limits m).parent ≡ parent → (n q : ℕ) → full_above trace st parent n ≡ Some q → q < length trace.limits
      above None e n q full = absurd (cc full)
      above (Some r) e n q full = let lower = rules.tree m r inside e in path_limit_known trace st rules r.0 n q (omega (arith, lower, inside)) full

      full_known : (o : Option ℕ) → full_for trace st m max ≡ o → IfSome (limit_fault o) (IsKnownFault trace)
      full_known None e = tt
      full_known (Some q) e = go ((row_of trace.limits m).hard && nat_lt (max_of (limits_in trace st) m) max) e
        where
          go : (b : Bool) → cond b (full_above trace st (row_of trace.limits m).parent (max - max_of (limits_in trace st) m)) None ≡ Some q → q < length trace.limits
          go true full = above (row_of trace.limits m).parent refl (max - max_of (limits_in trace st) m) q full
          go false full = absurd (cc full)

  pub reply_known : (op : Op) → IsTrue (in_range trace op) → IsKnownReply trace (reply_to trace st p op)
  unfolding reply_to faults answer in_range
  reply_known (New r ty) ranged =
      refused_known trace (size_fault trace st p (size_of_type trace ty) ∷ []) _ (size_known trace st rules p (size_of_type trace ty) known, tt) (omega arith)
  reply_known (KNew r ty) ranged = refused_known trace (fault_where _ _ ∷ []) _ (where_known trace _ _ tt, tt) (omega arith)
  reply_known (SNew r s ty) ranged =
      let inside = ltb-true _ _ (and_parts (nat_lt r.0 register_count) (nat_lt s.0 trace.shared_heaps) (and_parts (nat_lt r.0 register_count && nat_lt s.0 trace.shared_heaps) (nat_lt ty.0 (length trace.types)) ranged).0).1 in
      refused_known trace (fault_where _ _ ∷ size_fault trace st p (size_of_type trace ty) ∷ []) _ (where_known trace _ _ inside, (size_known trace st rules p (size_of_type trace ty) known, tt)) (omega (arith, inside))
  reply_known (Store base i value) ranged =
      refused_known trace (at_base (register st.registers p base.0) (store_faults trace st p i (register st.registers p value.0))) _
      (store_known (register st.registers p base.0) i (register st.registers p value.0) (in_register base.0)) tt
  reply_known (Load r base i) ranged =
      refused_known trace (at_base (register st.registers p base.0) (load_faults trace st p i)) _
      (load_known (register st.registers p base.0) i (in_register base.0)) (loaded_known (register st.registers p base.0) i)
  reply_known (Dir r) ranged = refused_known trace [] _ tt (omega arith)
  reply_known (Put base i number) ranged =
      refused_known trace (at_base (register st.registers p base.0) (number_faults trace st p i)) _ (number_known (register st.registers p base.0) i (in_register base.0)) tt
  reply_known (Get base i) ranged =
      refused_known trace (at_base (register st.registers p base.0) (number_faults trace st p i)) _ (number_known (register st.registers p base.0) i (in_register base.0)) tt
  reply_known (Share s) ranged = refused_known trace (fault_where _ _ ∷ []) _ (where_known trace _ _ (ltb-true _ _ ranged), tt) tt
  reply_known (Freeze s root) ranged =
      let inside = ltb-true _ _ (and_parts (nat_lt s.0 trace.shared_heaps) (nat_lt root.0 register_count) ranged).0 in
      refused_known trace (at_base (register st.registers p root.0) _) _ (freeze_known (register st.registers p root.0) inside) tt
    where
      freeze_known : (base : Option Name) → s.0 < trace.shared_heaps →
          AreKnownFaults trace (at_base base (λ x. fault_where (not (heap_eq (owner_of trace st x.seg.0) (Shared s))) Segv ∷ fault_where (not (is_populating (phase_of st.phases s.0) p)) (NotPopulating s) ∷ []))
      freeze_known None inside = (tt, tt)
      freeze_known (Some x) inside = (where_known trace _ _ tt, (where_known trace _ _ inside, tt))
  reply_known (Attach r s) ranged =
      let inside = ltb-true _ _ (and_parts (nat_lt r.0 register_count) (nat_lt s.0 trace.shared_heaps) ranged).1 in
      refused_known trace (fault_where _ _ ∷ (cond (has_share st.shares p s.0) None (size_fault trace st p (bytes_of trace st (Shared s)))) ∷ []) _
      (where_known trace _ _ inside, (shared_size (has_share st.shares p s.0) (bytes_of trace st (Shared s)), tt)) (root_known s.0)
  reply_known (Kill q) ranged = refused_known trace (fault_where _ _ ∷ []) _ (where_known trace _ _ (ltb-true _ _ ranged), tt) tt
  reply_known (Resize m max) ranged =
      let inside = ltb-true _ _ (and_parts (nat_lt m.0 (length trace.limits)) (nat_lt max maximum_below) ranged).0 in
      refused_known trace ((cond (may_resize trace p m.0) (limit_fault (full_for trace st m.0 max)) None) ∷ fault_where _ _ ∷ fault_where _ _ ∷ []) _
      (grown_known m.0 max inside (may_resize trace p m.0), (where_known trace _ _ inside, (where_known trace _ _ inside, tt))) tt
  reply_known _ ranged = refused_known trace [] _ tt tt
