-- A sound state stays sound where a process ends.
use Rattle.std.proofs.Common.{◌≡◌, ℕ, ◌<◌, ◌≤◌, ◌⊎◌, ◌==◌, ◌&&◌, ◌||◌, not, Bool, true, false, cond, refl, sym, ap, ap₂, ◌∙◌, inl, inr, List, [], ◌∷◌, ◌++◌, length, filter, Option, Some, None, get_or, set, get_or-set_other, get_or-set_same, length-set, IsTrue, IsFalse, zero, suc, subst, nat_le, ◌-◌, eq-eqb, ne_eqb, le_trans, filter_map, replicate}
use Rattle.std.specs.List.{list_any, cons_option}
use Rattle.std.proofs.lemmas.Bool.{and_parts, and_from, or_left, or_right, or_cases, and_right, not-true, false≢true, cases_Bool, not_from_false, false_from_ne_true, cases_eq}
use Rattle.std.proofs.lemmas.List.Folds.{list_any-append}
use Rattle.k_types.specs.declared.names.Name.{Name}
use Rattle.k_types.specs.declared.names.Heap.{Heap}
use Rattle.k_types.specs.declared.names.Heap.TheVariants.{Kernel, User, Shared}
use Rattle.k_types.specs.Names.{name_eq, heap_eq, among, leads_to}
use Rattle.k_types.specs.Trace.{IsHeap, Trace, process_count}
use Rattle.k_types.specs.State.{State, ExitItem, in_registers, has_exit, scan_of, has_share}
use Rattle.k_types.specs.Owners.{owner_of, user, shared, bytes_by, bytes_of, phase_of, is_absorbed, owner_of_segment, owner_of_process, owner_of_shared, charge_of}
use Rattle.k_types.specs.Numbers.{numbers_below}
use Rattle.k_types.specs.Limits.{limits_in, use_of}
use Rattle.k_types.specs.Reach.{is_root, is_entered, is_held, is_pinned, has_entry, is_shared_heap}
use Rattle.k_types.specs.Sound.{IsSound, IsLegalStore, AreDistinctExits}
use Rattle.k_types.proofs.NameTests.{name_eq_refl, heap_eq-true, heap_eq-same, heap_eq_refl, heap_eq_sym, heap_eq-false}
use Rattle.k_types.proofs.Lists.{any_weaker, get_or-set_cases}
use Rattle.k_types.specs.Updates.{keep_shares, turn_exits, clear_registers, end_process}
use Rattle.k_types.specs.Effects.{after_end_of, exit_after}
use Rattle.k_laws.specs.Changes.{MayExit}
use Rattle.k_types.specs.Steps.{has_sharer}
use Rattle.k_laws.proofs.Merge.{merged, AreMerged, guarded_merged, exits_merged}
use Rattle.k_laws.proofs.Kept.{has_share-kept, any-fewer, distinct_shares-kept, exit_is}
use Rattle.k_laws.proofs.Uses.{ended_less, use_by_less}
use Rattle.k_laws.proofs.ElsewhereOther.{among-push}
use Rattle.k_laws.proofs.Turned.{exits', origin, turned_stays, turned_comes, some_element, option_test, any-filter_map, own_turns, other_turns}
use Rattle.k_laws.proofs.SoundAbsorbed.{bytes_fewer, merged_fewer}
use Rattle.k_laws.proofs.Safe.{exit_enters}

-- a user heap refers to itself, the kernel and shared heaps
pub user_to : (p : ℕ) (k : Heap) → IsLegalStore (user p) k → IsFalse (heap_eq (user p) k) → (k ≡ Kernel) ⊎ IsTrue (is_shared_heap k)
user_to p Kernel t apart = inl refl
user_to p (User q) t apart = absurd (false≢true (sym apart ∙ t))
user_to p (Shared s) t apart = inr refl

shared_apart : (g k : Heap) → IsTrue (is_shared_heap k) → IsFalse (is_shared_heap g) → IsFalse (heap_eq k g)
shared_apart g k s t = false_from_ne_true _ (λ e. false≢true (sym t ∙ ap is_shared_heap (sym (heap_eq-true k g e)) ∙ s))

pub none_in : (n : ℕ) (x : Name) → list_any (λ r. leads_to r x) (replicate n None) ≡ false
none_in zero x = refl
none_in (suc n) x = none_in n x

module _ (trace : Trace) (st : State) (p : ℕ) (sound : IsSound trace st) (may : MayExit trace st p) where
  abbrev pub after : State
  after = after_end_of trace p st

  registers' : List (List (Option Name))
  registers' = set st.registers p (replicate 16 None)

  among_cases : (q : ℕ) → IsTrue (among q (st.ended ++ p ∷ [])) → (q ≡ p) ⊎ (IsTrue (among q st.ended) × (p ≡ q → ⊥))
  among_cases q t = elim (cases_eq p q) [ inl e ↦ inl (sym e) | inr ne ↦ inr (sym (among-push st.ended p q ne) ∙ t, ne) ]

  among_more : (q : ℕ) → IsTrue (among q st.ended) → IsTrue (among q (st.ended ++ p ∷ []))
  among_more q t = list_any-append (λ m. m == q) st.ended (p ∷ []) ∙ or_left _ _ t

  among_own : IsTrue (among p (st.ended ++ p ∷ []))
  among_own = list_any-append (λ m. m == p) st.ended (p ∷ []) ∙ or_right _ _ (or_left (p == p) false (eq-eqb p p refl))

  held_before : (q : ℕ) (n : Name) → IsTrue (in_registers registers' q n) → IsTrue (in_registers st.registers q n) × (q ≡ p → ⊥)
  unfolding registers'
  held_before q n t =
      elim (cases_eq q p) [
        | inl e ↦
            let inside : p < length st.registers = rw sound.shape.sized.registers may.known in
            let row = ap (λ k. get_or registers' k []) e ∙ get_or-set_same st.registers p (replicate 16 None) [] inside in
            absurd (false≢true (sym (none_in 16 n) ∙ ap (list_any (λ r. leads_to r n)) (sym row) ∙ t))
        | inr ne ↦ (ap (list_any (λ r. leads_to r n)) (sym (get_or-set_other st.registers p q (replicate 16 None) [] ne)) ∙ t, ne)
      ]

  process_merged : (q : ℕ) → owner_of_process (st.ended ++ p ∷ []) q ≡ merged (user p) (owner_of_process st.ended q)
  process_merged q =
      elim (cases_eq p q) [
        | inl e ↦ ap (λ b. cond b Kernel (user q)) (ap (λ k. among k (st.ended ++ p ∷ [])) (sym e) ∙ among_own)
            ∙ sym (elim (among q st.ended) as (λ b. merged (user p) (cond b Kernel (user q)) ≡ Kernel) [ true ↦ refl | false ↦ rw (eq-eqb q p (sym e)) refl ])
        | inr ne ↦ ap (λ b. cond b Kernel (user q)) (among-push st.ended p q ne)
            ∙ sym (elim (among q st.ended) as (λ b. merged (user p) (cond b Kernel (user q)) ≡ cond b Kernel (user q)) [ true ↦ refl | false ↦ rw (ne_eqb q p (λ e. ne (sym e))) refl ])
      ]

  shared_merged : (q : ℕ) → owner_of_shared st.phases q ≡ merged (user p) (owner_of_shared st.phases q)
  shared_merged q = elim (is_absorbed (phase_of st.phases q)) as (λ b. cond b Kernel (shared q) ≡ merged (user p) (cond b Kernel (shared q))) [ true ↦ refl | false ↦ refl ]

  pub is_merged : (seg : ℕ) → owner_of trace after seg ≡ merged (user p) (owner_of trace st seg)
  unfolding after after_end_of keep_shares turn_exits clear_registers end_process owner_of_segment
  is_merged seg =
      elim (seg == 0) as (λ a. cond a Kernel (cond (nat_le seg (process_count trace)) (owner_of_process (st.ended ++ p ∷ []) (seg - 1)) (owner_of_shared st.phases (seg - 1 - process_count trace)))
      ≡ merged (user p) (cond a Kernel (cond (nat_le seg (process_count trace)) (owner_of_process st.ended (seg - 1)) (owner_of_shared st.phases (seg - 1 - process_count trace))))) [
        | true ↦ refl
        | false ↦ elim (nat_le seg (process_count trace)) as (λ b. cond b (owner_of_process (st.ended ++ p ∷ []) (seg - 1)) (owner_of_shared st.phases (seg - 1 - process_count trace))
            ≡ merged (user p) (cond b (owner_of_process st.ended (seg - 1)) (owner_of_shared st.phases (seg - 1 - process_count trace)))) [
              | true ↦ process_merged (seg - 1)
              | false ↦ shared_merged (seg - 1 - process_count trace)
            ]
      ]

  now_kernel : (n : Name) → IsTrue (heap_eq (owner_of trace st n.seg.0) (user p)) → owner_of trace after n.seg.0 ≡ Kernel
  now_kernel n t = is_merged n.seg.0 ∙ ap (λ b. cond b Kernel (owner_of trace st n.seg.0)) t

  now_same : (n : Name) → IsFalse (heap_eq (owner_of trace st n.seg.0) (user p)) → owner_of trace after n.seg.0 ≡ owner_of trace st n.seg.0
  now_same n t = is_merged n.seg.0 ∙ ap (λ b. cond b Kernel (owner_of trace st n.seg.0)) t

  merge : AreMerged (owner_of trace after) (user p) st.exits (exits' trace st p sound)
  merge = record {
    stay = λ h n apart e leaves. turned_stays trace st p sound h n e apart (out h n leaves);
    turn = λ n e apart. turned_comes trace st p sound n e (to_shared n e apart);
    none = λ n. false_from_ne_true _ (λ e. elim (origin trace st p sound (user p) n e).from [ inl o ↦ false≢true (sym o.1 ∙ heap_eq_refl (user p)) | inr o ↦ absurd (cc (o.0)) ]);
    leave = λ h n e. elim (origin trace st p sound h n e).from [
      | inl o ↦ leaves_still h n o.0 o.2
      | inr o ↦ rw o.0 (from_kernel n o.2)
    ];
    come = λ h n e. elim (origin trace st p sound h n e).from [ inl o ↦ inl o.0 | inr o ↦ inr (o.0, o.1) ];
  }
    where
      out : (h : Heap) (n : Name) → IsFalse (heap_eq h (owner_of trace after n.seg.0)) → IsFalse (heap_eq h Kernel && heap_eq (owner_of trace st n.seg.0) (user p))
      out h n leaves = false_from_ne_true _ (λ t.
          let parts = and_parts (heap_eq h Kernel) (heap_eq (owner_of trace st n.seg.0) (user p)) t in
          false≢true (sym leaves ∙ heap_eq-same h (owner_of trace after n.seg.0) (heap_eq-true h Kernel parts.0 ∙ sym (now_kernel n parts.1))))

      to_shared : (n : Name) → IsTrue (has_exit st.exits (user p) n) → IsFalse (heap_eq Kernel (owner_of trace after n.seg.0)) → IsTrue (is_shared_heap (owner_of trace st n.seg.0))
      to_shared n e apart =
          elim (user_to p (owner_of trace st n.seg.0) (sound.exits.allowed (user p) n e) (sound.exits.leave (user p) n e)) [
            | inl k ↦ absurd (false≢true (sym apart ∙ heap_eq-same Kernel (owner_of trace after n.seg.0) (sym (is_merged n.seg.0 ∙ ap (merged (user p)) k))))
            | inr s ↦ s
          ]

      leaves_still : (h : Heap) (n : Name) → IsTrue (has_exit st.exits h n) → IsFalse (heap_eq h Kernel && heap_eq (owner_of trace st n.seg.0) (user p)) → IsFalse (heap_eq h (owner_of trace after n.seg.0))
      leaves_still h n e o =
          elim (cases_Bool (heap_eq (owner_of trace st n.seg.0) (user p))) [
            | inl own ↦ ap (heap_eq h) (now_kernel n own) ∙ false_from_ne_true _ (λ t. false≢true (sym o ∙ and_from _ _ t own))
            | inr other ↦ ap (heap_eq h) (now_same n other) ∙ sound.exits.leave h n e
          ]

      from_kernel : (n : Name) → IsTrue (is_shared_heap (owner_of trace st n.seg.0)) → IsFalse (heap_eq Kernel (owner_of trace after n.seg.0))
      from_kernel n s =
          ap (heap_eq Kernel) (now_same n (shared_apart (user p) (owner_of trace st n.seg.0) s refl))
          ∙ heap_eq_sym Kernel (owner_of trace st n.seg.0) ∙ shared_apart Kernel (owner_of trace st n.seg.0) s refl

  -- what an exit item was before
  image : (e : ExitItem) (y : ExitItem) → exit_after trace st p e ≡ Some y →
      (e ≡ y) ⊎ ((e ≡ record { heap = user p; target = y.target }) × (y.heap ≡ Kernel) × IsFalse (has_exit st.exits Kernel y.target))
  image e y f =
      elim (cases_Bool (heap_eq e.heap (user p))) [
        | inl same ↦ inr (own_image e y (heap_eq-true e.heap (user p) same) f)
        | inr apart ↦ inl (other_image e y (sym (other_turns trace st p sound e.heap e.target apart) ∙ f))
      ]
    where
      own_image : (e y : ExitItem) → e.heap ≡ user p → exit_after trace st p e ≡ Some y → (e ≡ record { heap = user p; target = y.target }) × (y.heap ≡ Kernel) × IsFalse (has_exit st.exits Kernel y.target)
      own_image e y is f =
          go (is_shared_heap (owner_of trace st e.target.seg.0) && not (has_exit st.exits Kernel e.target)) refl
          (sym (own_turns trace st p sound e.target) ∙ ap (λ k. exit_after trace st p (record { heap = k; target = e.target })) (sym is) ∙ f)
        where
          go : (b : Bool) → (is_shared_heap (owner_of trace st e.target.seg.0) && not (has_exit st.exits Kernel e.target)) ≡ b → cond b (Some (record { heap = Kernel; target = e.target })) None ≡ Some y →
              (e ≡ record { heap = user p; target = y.target }) × (y.heap ≡ Kernel) × IsFalse (has_exit st.exits Kernel y.target)
          go true s f =
              let at : record { heap = Kernel; target = e.target } ≡ y = cc f in
              let target : e.target ≡ y.target = ap (λ (z : ExitItem). z.target) at in (
                ap₂ (λ k t. let z : ExitItem = record { heap = k; target = t } in z) is target,
                sym (ap (λ (z : ExitItem). z.heap) at),
                ap (has_exit st.exits Kernel) (sym target) ∙ not-true _ (and_parts (is_shared_heap (owner_of trace st e.target.seg.0)) (not (has_exit st.exits Kernel e.target)) s).1,
              )
          go false s f = absurd (cc f)

      other_image : (e y : ExitItem) → cond (heap_eq e.heap Kernel && heap_eq (owner_of trace st e.target.seg.0) (user p)) None (Some e) ≡ Some y → e ≡ y
      other_image e y = go (heap_eq e.heap Kernel && heap_eq (owner_of trace st e.target.seg.0) (user p))
        where
          go : (b : Bool) → cond b None (Some e) ≡ Some y → e ≡ y
          go true f = absurd (cc f)
          go false f = cc f

  exit_in : (e : ExitItem) (xs : List ExitItem) → ((r : ExitItem → Bool) → r e ≡ true → list_any r xs ≡ true) → IsTrue (has_exit xs e.heap e.target)
  exit_in e xs member = member (λ x. heap_eq x.heap e.heap && name_eq x.target e.target) (and_from _ _ (heap_eq_refl e.heap) (name_eq_refl e.target))

  -- no two exit items become one
  one_image : (e x y : ExitItem) → exit_after trace st p e ≡ Some y → exit_after trace st p x ≡ Some y → IsTrue (has_exit st.exits e.heap e.target) → IsTrue (has_exit st.exits x.heap x.target) → x ≡ e
  one_image e x y fe fx ine inx =
      elim (image e y fe) [
        | inl ey ↦ elim (image x y fx) [
          | inl xy ↦ xy ∙ sym ey
          | inr xt ↦ absurd (false≢true (sym xt.2 ∙ ap₂ (λ k t. has_exit st.exits k t) (sym xt.1 ∙ sym (ap (λ (z : ExitItem). z.heap) ey)) (sym (ap (λ (z : ExitItem). z.target) ey)) ∙ ine))
        ]
        | inr et ↦ elim (image x y fx) [
          | inl xy ↦ absurd (false≢true (sym et.2 ∙ ap₂ (λ k t. has_exit st.exits k t) (sym et.1 ∙ sym (ap (λ (z : ExitItem). z.heap) xy)) (sym (ap (λ (z : ExitItem). z.target) xy)) ∙ inx))
          | inr xt ↦ xt.0 ∙ sym et.0
        ]
      ]

  distinct_turned : (xs : List ExitItem) → ((r : ExitItem → Bool) → list_any r xs ≡ true → list_any r st.exits ≡ true) → AreDistinctExits xs → AreDistinctExits (filter_map (exit_after trace st p) xs)
  distinct_turned [] sub d = tt
  distinct_turned (e ∷ xs) sub d =
      go (exit_after trace st p e) refl (distinct_turned xs (λ r t. sub r (or_right (r e) (list_any r xs) t)) d.1)
    where
      inside : IsTrue (has_exit st.exits e.heap e.target)
      inside = sub (λ x. heap_eq x.heap e.heap && name_eq x.target e.target) (or_left _ _ (and_from _ _ (heap_eq_refl e.heap) (name_eq_refl e.target)))

      go : (o : Option ExitItem) → exit_after trace st p e ≡ o → AreDistinctExits (filter_map (exit_after trace st p) xs) → AreDistinctExits (cons_option o (filter_map (exit_after trace st p) xs))
      go None f rest = rest
      go (Some y) f rest = (false_from_ne_true _ (λ t. clash y f t), rest)
        where
          clash : (y : ExitItem) → exit_after trace st p e ≡ Some y → IsTrue (has_exit (filter_map (exit_after trace st p) xs) y.heap y.target) → ⊥
          clash y f t =
              let x = some_element (λ x. option_test (λ z. heap_eq z.heap y.heap && name_eq z.target y.target) (exit_after trace st p x)) xs (sym (any-filter_map (λ z. heap_eq z.heap y.heap && name_eq z.target y.target) (exit_after trace st p) xs) ∙ t) in
              let fx = passed (exit_after trace st p x.0) y x.1 in
              let same = one_image e x.0 y f fx inside (sub (λ z. heap_eq z.heap x.0.heap && name_eq z.target x.0.target) (or_right _ _ (exit_in x.0 xs x.2))) in
              false≢true (sym d.0 ∙ x.2 (λ z. heap_eq z.heap e.heap && name_eq z.target e.target)
              (ap (λ (z : ExitItem). heap_eq z.heap e.heap && name_eq z.target e.target) same ∙ and_from _ _ (heap_eq_refl e.heap) (name_eq_refl e.target)))
            where
              passed : (o : Option ExitItem) (y : ExitItem) → IsTrue (option_test (λ z. heap_eq z.heap y.heap && name_eq z.target y.target) o) → o ≡ Some y
              passed None y t = absurd (false≢true t)
              passed (Some z) y t = ap (λ w. Some w) (exit_is z y.heap y.target t)

  owner_back : (n : Name) (h : Heap) → (h ≡ Kernel → ⊥) → owner_of trace after n.seg.0 ≡ h → owner_of trace st n.seg.0 ≡ owner_of trace after n.seg.0
  owner_back n h apart at =
      elim (cases_Bool (heap_eq (owner_of trace st n.seg.0) (user p))) [
        | inl same ↦ absurd (apart (sym at ∙ now_kernel n same))
        | inr other ↦ sym (now_same n other)
      ]

  scan_apart : (h : Heap) (rs : List Name) → scan_of st.scans h ≡ Some rs → (h ≡ Kernel → ⊥) × (h ≡ user p → ⊥) × IsFalse (is_shared_heap h)
  scan_apart h rs o = (
    (λ e. let none : scan_of st.scans h ≡ None = ap (scan_of st.scans) e ∙ may.kernel_idle in cc (none, o)),
    (λ e. let none : scan_of st.scans h ≡ None = ap (scan_of st.scans) e ∙ may.idle in cc (none, o)),
    never h o,
  )
    where
      never : (h : Heap) → scan_of st.scans h ≡ Some rs → IsFalse (is_shared_heap h)
      never Kernel o = refl
      never (User q) o = refl
      never (Shared q) o = let none = sound.scans.none_shared q.0 in absurd (cc (none, o))

  entry_before : (n : Name) → owner_of trace st n.seg.0 ≡ owner_of trace after n.seg.0 → IsFalse (is_shared_heap (owner_of trace st n.seg.0)) → IsTrue (has_entry (owner_of trace after) (exits' trace st p sound) n) → IsTrue (has_entry (owner_of trace st) st.exits n)
  entry_before n same plain t =
      let x = some_element (λ e. not (heap_eq e.heap (owner_of trace after n.seg.0)) && name_eq e.target n) (exits' trace st p sound) t in
      let parts = and_parts (not (heap_eq x.0.heap (owner_of trace after n.seg.0))) (name_eq x.0.target n) x.1 in
      elim (origin trace st p sound x.0.heap n (x.2 (λ e. heap_eq e.heap x.0.heap && name_eq e.target n) (and_from _ _ (heap_eq_refl x.0.heap) parts.1))).from [
        | inl o ↦ exit_enters (owner_of trace st) st.exits x.0.heap n (ap (heap_eq x.0.heap) same ∙ not-true _ parts.0) o.0
        | inr o ↦ absurd (false≢true (sym plain ∙ o.2))
      ]

  held_back : (h : Heap) (n : Name) → IsTrue (is_held after h n) → IsTrue (is_held st h n)
  unfolding is_held after after_end_of keep_shares turn_exits clear_registers end_process registers'
  held_back Kernel n t = t
  held_back (User q) n t = (held_before q.0 n t).0
  held_back (Shared q) n t = t

  root_before : (h : Heap) (n : Name) → owner_of trace st n.seg.0 ≡ owner_of trace after n.seg.0 → IsFalse (is_shared_heap (owner_of trace st n.seg.0)) → IsTrue (is_root trace after h n) → IsTrue (is_root trace st h n)
  unfolding is_entered after after_end_of keep_shares turn_exits clear_registers end_process registers'
  root_before h n same plain t =
      elim (or_cases (has_entry (owner_of trace after) (exits' trace st p sound) n || is_pinned (process_count trace) (owner_of trace after) registers' n) (is_held after h n) t) [
        | inl entered ↦
            elim (or_cases (has_entry (owner_of trace after) (exits' trace st p sound) n) (is_pinned (process_count trace) (owner_of trace after) registers' n) entered) [
              | inl entry ↦ or_left _ (is_held st h n) (or_left _ (is_pinned (process_count trace) (owner_of trace st) st.registers n) (entry_before n same plain entry))
              | inr pinned ↦ or_left _ (is_held st h n) (or_right (has_entry (owner_of trace st) st.exits n) _
                  (any_weaker (λ q. not (heap_eq (user q) (owner_of trace after n.seg.0)) && in_registers registers' q n) (λ q. not (heap_eq (user q) (owner_of trace st n.seg.0)) && in_registers st.registers q n)
                  (λ q u. let parts = and_parts (not (heap_eq (user q) (owner_of trace after n.seg.0))) (in_registers registers' q n) u in
                  and_from _ _ (ap (λ k. not (heap_eq (user q) k)) same ∙ parts.0) (held_before q n parts.1).0)
                  (numbers_below (process_count trace)) pinned))
            ]
        | inr held ↦ or_right (is_entered trace st n) _ (held_back h n held)
      ]

  uses_less : (m : ℕ) → use_of trace after m ≤ use_of trace st m
  unfolding after after_end_of keep_shares turn_exits clear_registers end_process
  uses_less m =
      use_by_less trace (limits_in trace st) (charge_of trace after) (charge_of trace st)
      (ended_less (bytes_of trace after) (bytes_of trace st) st.ended (st.ended ++ p ∷ []) (λ e. not (e.process == p)) st.shares among_more (λ q. fewer (user q) refl) (λ q. fewer (shared q) refl)) m
    where
      fewer : (h : Heap) → IsFalse (heap_eq Kernel h) → bytes_by (owner_of trace after) h st.objects ≤ bytes_by (owner_of trace st) h st.objects
      fewer h kernel = bytes_fewer (owner_of trace st) (owner_of trace after) h (λ seg t. merged_fewer (user p) h (owner_of trace st seg) kernel (ap (λ k. heap_eq k h) (sym (is_merged seg)) ∙ t)) st.objects

  share_gone : (q s : ℕ) → IsFalse (has_share st.shares q s) → IsFalse (has_share (filter (λ e. not (e.process == p)) st.shares) q s)
  share_gone q s none = false_from_ne_true _ (λ t. false≢true (sym none ∙ any-fewer _ (λ e. not (e.process == p)) st.shares t))

  sharer_gone : (s : ℕ) → IsFalse (has_sharer st.shares s) → IsFalse (has_sharer (filter (λ e. not (e.process == p)) st.shares) s)
  sharer_gone s none = false_from_ne_true _ (λ t. false≢true (sym none ∙ any-fewer _ (λ e. not (e.process == p)) st.shares t))

  exit_gone : (h : Heap) (n : Name) → (h ≡ Kernel → ⊥) → IsFalse (has_exit st.exits h n) → IsFalse (has_exit (exits' trace st p sound) h n)
  exit_gone h n apart none = false_from_ne_true _ (λ t. elim (origin trace st p sound h n t).from [ inl o ↦ false≢true (sym none ∙ o.0) | inr o ↦ apart o.0 ])

  pub exited_sound : IsSound trace (after_end_of trace p st)
  unfolding after_end_of keep_shares turn_exits clear_registers end_process after registers'
  exited_sound = record {
    shape = record {
      sized = record {
        made = sound.shape.sized.made;
        registers = length-set st.registers p _ ∙ sound.shape.sized.registers;
        each = λ q known. elim (get_or-set_cases st.registers p q (replicate 16 None) []) [ inl same ↦ ap length same ∙ sound.shape.sized.each q known | inr here ↦ ap length here.1 ];
        done = sound.shape.sized.done;
        phases = sound.shape.sized.phases;
        maxima = sound.shape.sized.maxima;
      };
      distinct_exits = distinct_turned st.exits (λ r t. t) sound.shape.distinct_exits;
      distinct_shares = distinct_shares-kept (λ e. not (e.process == p)) st.shares sound.shape.distinct_shares;
      distinct_scans = sound.shape.distinct_scans;
      placed = sound.shape.placed;
      typed = sound.shape.typed;
      declared = record {
        ended = λ q t. elim (among_cases q t) [ inl same ↦ subst (λ k. k < process_count trace) (sym same) may.known | inr before ↦ sound.shape.declared.ended q before.0 ];
        populating = sound.shape.declared.populating;
      };
      known = record {
        referring = λ h n e. elim (origin trace st p sound h n e).from [ inl o ↦ sound.shape.known.referring h n o.0 | inr o ↦ subst (IsHeap trace) (sym o.0) tt ];
        sharers = λ q s t. sound.shape.known.sharers q s (any-fewer _ (λ e. not (e.process == p)) st.shares t);
        shared = λ q s t. sound.shape.known.shared q s (any-fewer _ (λ e. not (e.process == p)) st.shares t);
        scanned = sound.shape.known.scanned;
      };
    };
    names = record {
      ordered = sound.names.ordered;
      numbered = sound.names.numbered;
    };
    no_dangling = record {
      directory = sound.no_dangling.directory;
      fields = sound.no_dangling.fields;
      registers = λ q n t. sound.no_dangling.registers q n (held_before q n t).0;
      exits = λ h n e. elim (origin trace st p sound h n e).from [ inl o ↦ sound.no_dangling.exits h n o.0 | inr o ↦ sound.no_dangling.exits (user p) n o.1 ];
      scans = sound.no_dangling.scans;
      frozen = sound.no_dangling.frozen;
    };
    guarded = guarded_merged (owner_of trace st) (owner_of trace after) (user p) is_merged st.objects st.exits (exits' trace st p sound) sound.guarded sound.exits merge;
    exits = exits_merged (owner_of trace st) (owner_of trace after) (user p) is_merged st.objects st.exits (exits' trace st p sound) sound.guarded sound.exits merge;
    gone = record {
      registers = λ q n ended. false_from_ne_true _ (λ t. let held = held_before q n t in
          elim (among_cases q ended) [ inl e ↦ held.1 e | inr before ↦ false≢true (sym (sound.gone.registers q n before.0) ∙ held.0) ]);
      shares = λ q s ended. elim (among_cases q ended) [
        | inl e ↦ has_share-kept (λ e. not (e.process == p)) st.shares q s ∙ and_right _ _ (ap not (eq-eqb q p e))
        | inr before ↦ share_gone q s (sound.gone.shares q s before.0)
      ];
      scans = λ q ended. elim (among_cases q ended) [ inl e ↦ ap (λ k. scan_of st.scans (user k)) e ∙ may.idle | inr before ↦ sound.gone.scans q before.0 ];
      exits = λ q n ended. elim (among_cases q ended) [
        | inl e ↦ ap (λ k. has_exit (exits' trace st p sound) (user k) n) e ∙ merge.none n
        | inr before ↦ exit_gone (user q) n (λ e. cc e) (sound.gone.exits q n before.0)
      ];
      absorbed_shares = λ s e. sharer_gone s (sound.gone.absorbed_shares s e);
      absorbed_exits = λ s n e. exit_gone (shared s) n (λ k. cc k) (sound.gone.absorbed_exits s n e);
    };
    phases = record {
      unmade_shares = λ s e. sharer_gone s (sound.phases.unmade_shares s e);
      unmade_objects = λ s n e there at. sound.phases.unmade_objects s n e there (owner_back n (shared s) (λ k. cc k) at ∙ at);
      populating = λ s q k e t. sound.phases.populating s q k e (any-fewer _ (λ e. not (e.process == p)) st.shares t);
      populated = λ s q e lives. has_share-kept (λ e. not (e.process == p)) st.shares q.0 s
          ∙ and_from _ _ (sound.phases.populated s q e (false_from_ne_true _ (λ t. false≢true (sym lives ∙ among_more q.0 t))))
          (not_from_false _ (ne_eqb q.0 p (λ same. false≢true (sym lives ∙ ap (λ k. among k (st.ended ++ p ∷ [])) same ∙ among_own))));
      frozen = λ s root e. is_merged root.seg.0 ∙ ap (merged (user p)) (sound.phases.frozen s root e);
    };
    uses = λ m known. le_trans (uses_less m) (sound.uses m known);
    scans = record {
      own = λ h rs n o t. let at = sound.scans.own h rs n o t in is_merged n.seg.0 ∙ ap (merged (user p)) at ∙ ap (λ b. cond b Kernel h) (heap_eq-false h (user p) (scan_apart h rs o).1);
      recorded = λ h rs n o there at root.
          let same = owner_back n h (scan_apart h rs o).0 at in
          let plain : IsFalse (is_shared_heap (owner_of trace st n.seg.0)) = ap is_shared_heap (same ∙ at) ∙ (scan_apart h rs o).2 in
          sound.scans.recorded h rs n o there (same ∙ at) (root_before h n same plain root);
      none_shared = sound.scans.none_shared;
    };
  }
