-- A sound state stays sound where a process makes an object, in its heap, in the kernel's or in a shared heap.
use Rattle.std.proofs.Common.{◌≡◌, ℕ, ◌+◌, ◌*◌, ◌<◌, ◌≤◌, true, false, cond, refl, sym, ap, ◌∙◌, List, [], ◌∷◌, length, filter, Some, None, arith, IsTrue, IsFalse, le_trans}
use Rattle.k_types.specs.declared.names.Name.{Name}
use Rattle.k_types.specs.declared.names.Pid.{Pid}
use Rattle.k_types.specs.declared.names.Phase.TheVariants.{Unmade, Populating}
use Rattle.k_types.specs.declared.names.TypeId.{TypeId}
use Rattle.k_types.specs.declared.names.Heap.{Heap}
use Rattle.k_types.specs.declared.names.Heap.TheVariants.{Kernel, User, Shared}
use Rattle.k_types.specs.Names.{heap_eq, among, name_lt, name_eq}
use Rattle.k_types.specs.Totals.{total}
use Rattle.k_types.specs.TraceRules.{AreLimits}
use Rattle.k_types.specs.Trace.{Trace, process_count, limit_of, kinds_of, size_of_type}
use Rattle.k_types.specs.Types.{object_size}
use Rattle.k_types.specs.State.{State, Object, scan_of, has, fresh, has_share}
use Rattle.k_types.specs.Owners.{owner_of, user, shared, is_absorbed, bytes_by, bytes_of, object_bytes, charge_of, phase_of}
use Rattle.k_types.specs.Limits.{limits_in, full_limit}
use Rattle.k_types.specs.Updates.{create, with_object, next_name}
use Rattle.k_types.specs.Effects.{after_new}
use Rattle.k_types.specs.Sound.{IsSound}
use Rattle.k_types.proofs.Sums.{bit}
use Rattle.k_types.proofs.NameTests.{name_eq-true}
use Rattle.k_laws.proofs.OwnerOf.{owner_user, owner_kernel, owner_shared}
use Rattle.k_laws.proofs.Uses.{use_by_less, charged_less}
use Rattle.k_laws.proofs.Raised.{raised_fits, charge_added, charge_shared_added}
use Rattle.k_laws.proofs.SoundCreate.{create_sound, MayCreate, made_object, made_there}
use Rattle.k_laws.proofs.SoundRegister.{set_register_sound}
use Rattle.std.proofs.lemmas.List.{length-map}

bytes-placed_step : (own : ℕ → Heap) (h : Heap) (o x : Object) (xs : List Object) →
    bytes_by own h (with_object o xs) ≡ bytes_by own h xs + object_bytes o * bit (heap_eq (own o.name.seg.0) h) →
    bytes_by own h (with_object o (x ∷ xs)) ≡ bytes_by own h (x ∷ xs) + object_bytes o * bit (heap_eq (own o.name.seg.0) h)
unfolding bytes_by
bytes-placed_step own h o x xs ih =
    elim (name_lt x.name o.name) as (λ t. total object_bytes (filter (λ o. heap_eq (own o.name.seg.0) h) (cond t (x ∷ with_object o xs) (o ∷ x ∷ xs)))
    ≡ total object_bytes (filter (λ o. heap_eq (own o.name.seg.0) h) (x ∷ xs)) + object_bytes o * bit (heap_eq (own o.name.seg.0) h)) [
      | true ↦ elim (heap_eq (own x.name.seg.0) h) as (λ b. total object_bytes (cond b (x ∷ filter (λ o. heap_eq (own o.name.seg.0) h) (with_object o xs)) (filter (λ o. heap_eq (own o.name.seg.0) h) (with_object o xs)))
          ≡ total object_bytes (cond b (x ∷ filter (λ o. heap_eq (own o.name.seg.0) h) xs) (filter (λ o. heap_eq (own o.name.seg.0) h) xs)) + object_bytes o * bit (heap_eq (own o.name.seg.0) h)) [
            | true ↦ omega arith
            | false ↦ omega arith
          ]
      | false ↦ elim (heap_eq (own o.name.seg.0) h) as (λ b. total object_bytes (cond b (o ∷ filter (λ o. heap_eq (own o.name.seg.0) h) (x ∷ xs)) (filter (λ o. heap_eq (own o.name.seg.0) h) (x ∷ xs)))
          ≡ total object_bytes (filter (λ o. heap_eq (own o.name.seg.0) h) (x ∷ xs)) + object_bytes o * bit b) [
            | true ↦ omega arith
            | false ↦ omega arith
          ]
    ]

pub bytes-placed : (own : ℕ → Heap) (h : Heap) (o : Object) (xs : List Object) → bytes_by own h (with_object o xs) ≡ bytes_by own h xs + object_bytes o * bit (heap_eq (own o.name.seg.0) h)
unfolding bytes_by
bytes-placed own h o [] =
    elim (heap_eq (own o.name.seg.0) h) as (λ b. total object_bytes (cond b (o ∷ []) []) ≡ 0 + object_bytes o * bit b) [ true ↦ omega arith | false ↦ omega arith ]
bytes-placed own h o (x ∷ xs) = bytes-placed_step own h o x xs (bytes-placed own h o xs)

module _ (trace : Trace) (st : State) (p r seg : ℕ) (ty : TypeId) (sound : IsSound trace st) (known : p < process_count trace) (lives : IsFalse (among p st.ended))
    (may : MayCreate trace st seg ty (kinds_of trace ty)) where
  after : State
  after = create seg ty (kinds_of trace ty) st

  made_sound : IsSound trace after
  unfolding after
  made_sound = create_sound trace st seg ty (kinds_of trace ty) sound may

  -- the object is made and the register has its name
  pub after_new_sound : IsSound trace (after_new trace p r seg ty st)
  unfolding after create
  after_new_sound = set_register_sound trace after p r (Some (next_name seg st)) made_sound known lives (record {
    there = λ n same. ap (has after.objects) (sym (name_eq-true (next_name seg st) n same)) ∙ made_there trace st seg ty (kinds_of trace ty) sound may;
    shielded = λ n same roots opened. absurd (not_open n same roots opened);
  })
    where
      not_open : (n : Name) → IsTrue (name_eq (next_name seg st) n) → (roots : List Name) → scan_of st.scans (owner_of trace st n.seg.0) ≡ Some roots → ⊥
      not_open n same roots opened =
          let own : owner_of trace st seg ≡ owner_of trace st n.seg.0 = ap (λ m. owner_of trace st m.seg.0) (name_eq-true (next_name seg st) n same) in
          let none : scan_of st.scans (owner_of trace st n.seg.0) ≡ None = ap (scan_of st.scans) (sym own) ∙ may.idle in
          cc (none, opened)

-- the owner's heap has so many bytes more, and no other
pub bytes_after : (trace : Trace) (st : State) (seg : ℕ) (ty : TypeId) (h : Heap) →
    bytes_of trace (create seg ty (kinds_of trace ty) st) h ≡ bytes_of trace st h + size_of_type trace ty * bit (heap_eq (owner_of trace st seg) h)
unfolding create
bytes_after trace st seg ty h =
    bytes-placed (owner_of trace st) h (made_object st seg ty (kinds_of trace ty)) st.objects
    ∙ ap (λ size. bytes_of trace st h + object_size size * bit (heap_eq (owner_of trace st seg) h)) (length-map (kinds_of trace ty) fresh)

abbrev shared_number : Heap → ℕ
shared_number Kernel = 0
shared_number (User q) = 0
shared_number (Shared s) = s.0

shared_is : (s t : ℕ) → shared s ≡ shared t → s ≡ t
shared_is s t e = ap shared_number e

module _ (trace : Trace) (st : State) (p : ℕ) (ty : TypeId) (sound : IsSound trace st) (known : p < process_count trace) (lives : IsFalse (among p st.ended)) (declared : ty.0 < length trace.types) where
  pub may_new : AreLimits trace → scan_of st.scans (user p) ≡ None → full_limit trace st (limit_of trace p) (size_of_type trace ty) ≡ None → MayCreate trace st (p + 1) ty (kinds_of trace ty)
  unfolding create
  may_new rules_hold idle fits = record {
    known = omega (arith, known);
    declared = declared;
    kinds = refl;
    idle = ap (scan_of st.scans) (owner_user trace st p known lives) ∙ idle;
    stands = λ s e same. absurd (cc (sym (owner_user trace st p known lives) ∙ same));
    fits = raised_fits trace rules_hold st p (size_of_type trace ty) (charge_of trace (create (p + 1) ty (kinds_of trace ty) st)) known fits sound.uses
        (charge_added (bytes_of trace st) (bytes_of trace (create (p + 1) ty (kinds_of trace ty) st)) st.ended st.shares p (size_of_type trace ty) lives
        (λ h. bytes_after trace st (p + 1) ty h ∙ ap (λ own. bytes_of trace st h + size_of_type trace ty * bit (heap_eq own h)) (owner_user trace st p known lives)));
  }

  kernel_same : (h : Heap) → IsFalse (heap_eq Kernel h) → bytes_of trace (create 0 ty (kinds_of trace ty) st) h ≤ bytes_of trace st h
  kernel_same h apart =
      let now = bytes_after trace st 0 ty h ∙ ap (λ own. bytes_of trace st h + size_of_type trace ty * bit (heap_eq own h)) (owner_kernel trace st)
      ∙ ap (λ b. bytes_of trace st h + size_of_type trace ty * bit b) apart in
      omega arith

  pub may_new_in_kernel : scan_of st.scans Kernel ≡ None → MayCreate trace st 0 ty (kinds_of trace ty)
  unfolding create
  may_new_in_kernel idle = record {
    known = omega (arith, known);
    declared = declared;
    kinds = refl;
    idle = ap (scan_of st.scans) (owner_kernel trace st) ∙ idle;
    stands = λ s e same. absurd (cc (sym (owner_kernel trace st) ∙ same));
    fits = λ m inside. le_trans
        (use_by_less trace (limits_in trace st) (charge_of trace (create 0 ty (kinds_of trace ty) st)) (charge_of trace st)
        (charged_less (bytes_of trace (create 0 ty (kinds_of trace ty) st)) (bytes_of trace st) st.ended st.shares (λ q. kernel_same (user q) refl) (λ q. kernel_same (shared q) refl)) m)
        (sound.uses m inside);
  }

  pub may_new_in_shared : AreLimits trace → (s : ℕ) (q : Pid) → s < trace.shared_heaps → phase_of st.phases s ≡ Populating q → q.0 ≡ p → full_limit trace st (limit_of trace p) (size_of_type trace ty) ≡ None →
      MayCreate trace st (1 + process_count trace + s) ty (kinds_of trace ty)
  unfolding create
  may_new_in_shared rules_hold s q inside phase is fits =
      let stands = ap is_absorbed phase in
      let own : owner_of trace st (1 + process_count trace + s) ≡ shared s = owner_shared trace st s stands in record {
        known = omega (arith, inside);
        declared = declared;
        kinds = refl;
        idle = ap (scan_of st.scans) own ∙ sound.scans.none_shared s;
        stands = λ t e same. absurd (other t e (shared_is s t (sym own ∙ same)));
        fits = raised_fits trace rules_hold st p (size_of_type trace ty) (charge_of trace (create (1 + process_count trace + s) ty (kinds_of trace ty) st)) known fits sound.uses
            (charge_shared_added (bytes_of trace st) (bytes_of trace (create (1 + process_count trace + s) ty (kinds_of trace ty) st)) st.ended st.shares p s (size_of_type trace ty) lives
            sound.shape.distinct_shares (ap (λ k. has_share st.shares k s) (sym is) ∙ sound.phases.populated s q phase (ap (λ k. among k st.ended) is ∙ lives))
            (λ k t. sound.phases.populating s q k phase t ∙ is)
            (λ h. bytes_after trace st (1 + process_count trace + s) ty h ∙ ap (λ o. bytes_of trace st h + size_of_type trace ty * bit (heap_eq o h)) own));
      }
    where
      other : (t : ℕ) → phase_of st.phases t ≡ Unmade → s ≡ t → ⊥
      other t e same = cc (sym phase ∙ ap (phase_of st.phases) same ∙ e)
