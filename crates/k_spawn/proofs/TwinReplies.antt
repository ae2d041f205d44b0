-- What an operation of the first version is answered, and what it leaves, in two states that differ only in who has ended among
-- processes without objects.
use Rattle.std.proofs.Common.{◌≡◌, ℕ, ◌+◌, not, nat_lt, nat_le, true, false, cond, refl, sym, ap, ap₂, ◌∙◌, List, [], ◌∷◌, ◌++◌, set, get_or, Option, Some, None, IsTrue, subst}
use Rattle.std.proofs.lemmas.Bool.{false≢true}
use Rattle.k_types.specs.declared.names.Name.{Name}
use Rattle.k_types.specs.declared.names.Heap.{Heap}
use Rattle.k_types.specs.declared.names.Heap.TheVariants.{Kernel, User, Shared}
use Rattle.k_types.specs.declared.setup.LimitRow.{LimitRow}
use Rattle.k_types.specs.declared.op.Op.{Op}
use Rattle.k_types.specs.declared.op.Op.TheVariants.{New, KNew, SNew, Store, Load, Move, Clear, Dir, Put, Get, Collect, KCollect, Share, Freeze, Attach, Exit, Kill, Resize}
use Rattle.k_types.specs.declared.event.Fault.{Fault}
use Rattle.k_types.specs.declared.event.Fault.TheVariants.{Foreign, NoField, WrongKind, Frozen, Segv, NotPopulating, NotFrozen, KernelFull}
use Rattle.k_types.specs.declared.event.Reply.TheVariants.{Loaded, Value}
use Rattle.k_types.specs.Barrier.{legal_store}
use Rattle.k_types.specs.Names.{heap_eq, kind_of as kind_of_heap}
use Rattle.k_types.specs.Trace.{Trace, limit_of, size_of_type}
use Rattle.k_types.specs.TraceRules.{is_of_version, is_exit}
use Rattle.k_types.specs.State.{State, Refers, register, has, has_share}
use Rattle.k_types.specs.Owners.{owner_of, bytes_of, user, phase_of}
use Rattle.k_types.specs.Limits.{full_limit}
use Rattle.k_types.specs.Replies.{fault_where, first_fault, faults, at_base, access_faults, store_faults, load_faults, number_faults, sharer_fault, is_frozen_heap, passes_barrier, size_fault, limit_fault, is_foreign, is_ref, is_frozen, is_populating, field_at, field_count, reference_from, number_from, answer, reply_to, refused_or}
use Rattle.k_types.specs.Updates.{count_done, set_register, create, write, add_exit, open_scan, set_phase, add_share}
use Rattle.k_types.specs.Effects.{effect, effect_unless, after_operation, after_store, after_put, after_freeze, with_exit_of_store}
use Rattle.k_laws.proofs.SoundStore.{register_holds}
use Rattle.k_spawn.proofs.Twins.{twin, twins_if, AreTwins, OwnsAlike, with_limits, own_same, bytes_same, roots_same, exited_twin}

base_same : (o : Option Name) (f g : Name → List (Option Fault)) → ((n : Name) → o ≡ Some n → f n ≡ g n) → at_base o f ≡ at_base o g
base_same None f g same = refl
base_same (Some n) f g same = same n refl

-- whom an operation ends
abbrev pub ended_by : Op → ℕ → List ℕ → List ℕ
ended_by op p ended = cond (is_exit op) (ended ++ p ∷ []) ended

module _ (trace : Trace) (rows : List LimitRow) (x : State) (ended done : List ℕ) (alike : OwnsAlike trace x ended) where
  abbrev other : Trace
  other = with_limits trace rows

  abbrev y : State
  y = twin x ended done

  there : (p r : ℕ) (n : Name) → register x.registers p r ≡ Some n → IsTrue (has x.objects n)
  there p r n e = alike.held p n (register_holds x.registers p r n e)

  sharer_same : (h : Heap) (p : ℕ) → sharer_fault y h p ≡ sharer_fault x h p
  sharer_same Kernel p = refl
  sharer_same (User q) p = refl
  sharer_same (Shared s) p = refl

  frozen_same : (h : Heap) → is_frozen_heap y h ≡ is_frozen_heap x h
  frozen_same Kernel = refl
  frozen_same (User q) = refl
  frozen_same (Shared s) = refl

  access_same : (p i : ℕ) (n : Name) → IsTrue (has x.objects n) → access_faults other y p n i ≡ access_faults trace x p n i
  unfolding access_faults
  access_same p i n known =
      ap (λ k. fault_where (is_foreign k p) Foreign ∷ sharer_fault y k p ∷ fault_where (nat_le (field_count x n) i) NoField ∷ []) (own_same trace rows x ended done alike n known)
      ∙ ap (λ f. fault_where (is_foreign (owner_of trace x n.seg.0) p) Foreign ∷ f ∷ fault_where (nat_le (field_count x n) i) NoField ∷ []) (sharer_same (owner_of trace x n.seg.0) p)

  barrier_same : (p r : ℕ) (n : Name) (v : Option Name) → IsTrue (has x.objects n) → register x.registers p r ≡ v → passes_barrier other y n v ≡ passes_barrier trace x n v
  unfolding passes_barrier
  barrier_same p r n None known e = refl
  barrier_same p r n (Some v) known e =
      ap₂ (λ k l. legal_store (kind_of_heap k) (kind_of_heap l) (heap_eq k l)) (own_same trace rows x ended done alike n known) (own_same trace rows x ended done alike v (there p r v e))

  store_same : (p r i : ℕ) (n : Name) (v : Option Name) → IsTrue (has x.objects n) → register x.registers p r ≡ v → store_faults other y p i v n ≡ store_faults trace x p i v n
  store_same p r i n v known e =
      ap (λ fs. fs ++ fault_where (not (is_ref (field_at x n i))) WrongKind ∷ fault_where (is_frozen_heap y (owner_of other y n.seg.0)) Frozen ∷ fault_where (not (passes_barrier other y n v)) Segv ∷ []) (access_same p i n known)
      ∙ ap₂ (λ a b. access_faults trace x p n i ++ fault_where (not (is_ref (field_at x n i))) WrongKind ∷ fault_where a Frozen ∷ fault_where (not b) Segv ∷ [])
      (ap (λ k. is_frozen_heap y k) (own_same trace rows x ended done alike n known) ∙ frozen_same (owner_of trace x n.seg.0))
      (barrier_same p r n v known e)

  load_same : (p i : ℕ) (n : Name) → IsTrue (has x.objects n) → load_faults other y p i n ≡ load_faults trace x p i n
  load_same p i n known = ap (λ fs. fs ++ fault_where (not (is_ref (field_at x n i))) WrongKind ∷ []) (access_same p i n known)

  number_same : (p i : ℕ) (n : Name) → IsTrue (has x.objects n) → number_faults other y p i n ≡ number_faults trace x p i n
  number_same p i n known = ap (λ fs. fs ++ fault_where (is_ref (field_at x n i)) WrongKind ∷ []) (access_same p i n known)

  reference_same : (o : Option Name) (i : ℕ) → reference_from y o i ≡ reference_from x o i
  reference_same None i = refl
  reference_same (Some n) i = refl

  number_from_same : (o : Option Name) (i : ℕ) → number_from y o i ≡ number_from x o i
  number_from_same None i = refl
  number_from_same (Some n) i = refl

  -- where the same limits are full, the same faults apply
  pub faults_same : ((m n : ℕ) → full_limit other y m n ≡ full_limit trace x m n) → (p : ℕ) (op : Op) → IsTrue (is_of_version 1 op) → faults other y p op ≡ faults trace x p op
  unfolding faults size_fault
  faults_same fits p (New r ty) first = ap (λ o. limit_fault o ∷ []) (fits (limit_of trace p) (size_of_type trace ty))
  faults_same fits p (KNew r ty) first = ap (λ n. fault_where (nat_lt trace.ceiling (n + size_of_type trace ty)) KernelFull ∷ []) (bytes_same trace rows x ended done alike Kernel)
  faults_same fits p (SNew r s ty) first = ap (λ o. fault_where (not (is_populating (phase_of x.phases s.0) p)) (NotPopulating s) ∷ limit_fault o ∷ []) (fits (limit_of trace p) (size_of_type trace ty))
  faults_same fits p (Store base i value) first =
      base_same (register x.registers p base.0) _ _ (λ n e. store_same p value.0 i n (register x.registers p value.0) (there p base.0 n e) refl)
  faults_same fits p (Load r base i) first = base_same (register x.registers p base.0) _ _ (λ n e. load_same p i n (there p base.0 n e))
  faults_same fits p (Move r from) first = refl
  faults_same fits p (Clear r) first = refl
  faults_same fits p (Dir r) first = refl
  faults_same fits p (Put base i number) first = base_same (register x.registers p base.0) _ _ (λ n e. number_same p i n (there p base.0 n e))
  faults_same fits p (Get base i) first = base_same (register x.registers p base.0) _ _ (λ n e. number_same p i n (there p base.0 n e))
  faults_same fits p Collect first = refl
  faults_same fits p KCollect first = refl
  faults_same fits p (Share s) first = refl
  faults_same fits p (Freeze s root) first =
      base_same (register x.registers p root.0) _ _ (λ n e. ap (λ k. fault_where (not (heap_eq k (Shared s))) Segv ∷ fault_where (not (is_populating (phase_of x.phases s.0) p)) (NotPopulating s) ∷ []) (own_same trace rows x ended done alike n (there p root.0 n e)))
  faults_same fits p (Attach r s) first =
      ap (λ o. fault_where (not (is_frozen (phase_of x.phases s.0))) (NotFrozen s) ∷ cond (has_share x.shares p s.0) None o ∷ [])
      (ap limit_fault (ap (λ n. full_limit other y (limit_of trace p) n) (bytes_same trace rows x ended done alike (Shared s)) ∙ fits (limit_of trace p) (bytes_of trace x (Shared s))))
  faults_same fits p Exit first = refl
  faults_same fits p (Kill q) first = absurd (false≢true first)
  faults_same fits p (Resize m max) first = absurd (false≢true first)

  answer_same : (p : ℕ) (op : Op) → answer other y p op ≡ answer trace x p op
  unfolding answer
  answer_same p (New r ty) = refl
  answer_same p (KNew r ty) = refl
  answer_same p (SNew r s ty) = refl
  answer_same p (Store base i value) = refl
  answer_same p (Load r base i) = ap (λ o. Loaded o) (reference_same (register x.registers p base.0) i)
  answer_same p (Move r from) = refl
  answer_same p (Clear r) = refl
  answer_same p (Dir r) = refl
  answer_same p (Put base i number) = refl
  answer_same p (Get base i) = ap (λ n. Value n) (number_from_same (register x.registers p base.0) i)
  answer_same p Collect = refl
  answer_same p KCollect = refl
  answer_same p (Share s) = refl
  answer_same p (Freeze s root) = refl
  answer_same p (Attach r s) = refl
  answer_same p Exit = refl
  answer_same p (Kill q) = refl
  answer_same p (Resize m max) = refl

  pub reply_same : (p : ℕ) (op : Op) → faults other y p op ≡ faults trace x p op → reply_to other y p op ≡ reply_to trace x p op
  unfolding reply_to
  reply_same p op same = ap₂ (λ fs said. refused_or (first_fault fs) said) same (answer_same p op)

  -- what an operation leaves
  link_twin : (p r : ℕ) (n : Name) (v : Option Name) → IsTrue (has x.objects n) → register x.registers p r ≡ v → with_exit_of_store other n v y ≡ twin (with_exit_of_store trace n v x) ended done
  unfolding with_exit_of_store add_exit
  link_twin p r n None known e = refl
  link_twin p r n (Some v) known e =
      ap₂ (λ k l. cond (heap_eq k l) y (add_exit k v y)) (own_same trace rows x ended done alike n known) (own_same trace rows x ended done alike v (there p r v e))
      ∙ (elim (heap_eq (owner_of trace x n.seg.0) (owner_of trace x v.seg.0)) as (λ b. cond b y (add_exit (owner_of trace x n.seg.0) v y) ≡ twin (cond b x (add_exit (owner_of trace x n.seg.0) v x)) ended done) [ true ↦ refl | false ↦ refl ])

  store_twin : (p r i : ℕ) (o v : Option Name) → ((n : Name) → o ≡ Some n → IsTrue (has x.objects n)) → register x.registers p r ≡ v → after_store other o i v y ≡ twin (after_store trace o i v x) ended done
  unfolding after_store write
  store_twin p r i None v known e = refl
  store_twin p r i (Some n) v known e = ap (write n i (Refers v)) (link_twin p r n v (known n refl) e)

  put_twin : (o : Option Name) (i number : ℕ) → after_put o i number y ≡ twin (after_put o i number x) ended done
  unfolding after_put write
  put_twin None i number = refl
  put_twin (Some n) i number = refl

  freeze_twin : (s : ℕ) (o : Option Name) → after_freeze s o y ≡ twin (after_freeze s o x) ended done
  unfolding after_freeze set_phase
  freeze_twin s None = refl
  freeze_twin s (Some n) = refl

  pub effect_twin : (p : ℕ) (op : Op) → IsTrue (is_of_version 1 op) → effect other p op y ≡ twin (effect trace p op x) (ended_by op p ended) done
  unfolding effect set_register create open_scan add_share set_phase
  effect_twin p (New r ty) first = refl
  effect_twin p (KNew r ty) first = refl
  effect_twin p (SNew r s ty) first = refl
  effect_twin p (Store base i value) first = store_twin p value.0 i (register x.registers p base.0) (register x.registers p value.0) (λ n e. there p base.0 n e) refl
  effect_twin p (Load r base i) first = ap (λ o. twin (set_register p r.0 o x) ended done) (reference_same (register x.registers p base.0) i)
  effect_twin p (Move r from) first = refl
  effect_twin p (Clear r) first = refl
  effect_twin p (Dir r) first = refl
  effect_twin p (Put base i number) first = put_twin (register x.registers p base.0) i number
  effect_twin p (Get base i) first = refl
  effect_twin p Collect first = ap (λ roots. twin (open_scan (user p) roots x) ended done) (roots_same trace rows x ended done alike (user p))
  effect_twin p KCollect first = ap (λ roots. twin (open_scan Kernel roots x) ended done) (roots_same trace rows x ended done alike Kernel)
  effect_twin p (Share s) first = refl
  effect_twin p (Freeze s root) first = freeze_twin s.0 (register x.registers p root.0)
  effect_twin p (Attach r s) first = refl
  effect_twin p Exit first = exited_twin trace rows x ended done alike p
  effect_twin p (Kill q) first = absurd (false≢true first)
  effect_twin p (Resize m max) first = absurd (false≢true first)

  unless_twin : (f : Option Fault) (p : ℕ) (op : Op) → IsTrue (is_of_version 1 op) → AreTwins (effect_unless f trace p op x) (effect_unless f other p op y)
  unless_twin None p op first = twins_if (effect trace p op x) (effect other p op y) (ended_by op p ended) done (effect_twin p op first)
  unless_twin (Some f) p op first = refl

  counted : (p : ℕ) (a b : State) → AreTwins a b → AreTwins (count_done p a) (count_done p b)
  unfolding count_done
  counted p a b e = twins_if (count_done p a) (count_done p b) b.ended (set b.done p (get_or b.done p 0 + 1)) (ap (count_done p) e)

  -- an operation leaves twins
  pub operation_twin : (p : ℕ) (op : Op) → IsTrue (is_of_version 1 op) → faults other y p op ≡ faults trace x p op → AreTwins (after_operation trace p op x) (after_operation other p op y)
  unfolding after_operation
  operation_twin p op first same =
      counted p (effect_unless (first_fault (faults trace x p op)) trace p op x) (effect_unless (first_fault (faults other y p op)) other p op y)
      (subst (λ fs. AreTwins (effect_unless (first_fault (faults trace x p op)) trace p op x) (effect_unless (first_fault fs) other p op y)) (sym same)
      (unless_twin (first_fault (faults trace x p op)) p op first))
