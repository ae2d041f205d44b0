-- What the end of a collection of a sound state leaves.
use Rattle.std.proofs.Common.{◌≡◌, ◌≢◌, ℕ, not, ◌&&◌, ◌||◌, ◌⊎◌, Bool, true, false, cond, refl, sym, ap, ◌∙◌, inl, inr, List, [], ◌∷◌, Option, Some, None, IsTrue, IsFalse}
use Rattle.std.specs.List.{list_any}
use Rattle.std.proofs.lemmas.Bool.{and_parts, and_from, or_cases, or_left, or_right, false≢true, not_from_false}
use Rattle.k_types.specs.declared.names.Name.{Name}
use Rattle.k_types.specs.declared.names.Heap.{Heap}
use Rattle.k_types.specs.Names.{heap_eq, name_eq, leads_to}
use Rattle.k_types.specs.Trace.{Trace}
use Rattle.k_types.specs.State.{State, ExitItem, has, has_exit, has_share, object_at, scan_of}
use Rattle.k_types.specs.Owners.{owner_of, user, shared}
use Rattle.k_types.specs.Updates.{keep_objects, keep_exits, keep_shares, close_scan}
use Rattle.k_types.specs.Effects.{after_ended, survives, exit_stays, share_stays, register_lies_in, registers_of, lies_in}
use Rattle.k_types.specs.Sound.{IsSound}
use Rattle.k_laws.specs.Survivors.{KeepsTheSurvivors, HasWayInto}
use Rattle.k_types.proofs.NameTests.{name_eq-true, name_eq_refl, heap_eq-true, heap_eq_refl, heap_eq-same, heap_eq-false}
use Rattle.k_types.proofs.Objects.{has-kept, object_at-kept}
use Rattle.k_laws.proofs.Kept.{has_exit-kept, has_share-kept, scan_closed, exit_is}
use Rattle.k_laws.proofs.Turned.{some_element}
use Rattle.k_laws.proofs.Means.{exit_needed, exit_there_still}

and_yes : (a b : Bool) → IsTrue b → (a && b) ≡ a
and_yes true true t = refl
and_yes true false t = absurd (false≢true t)
and_yes false b t = refl

either_or : (a b c d : Bool) → IsFalse a → IsTrue (a || b || c || d) → IsTrue b ⊎ IsTrue c ⊎ IsTrue d
either_or a true c d f t = inl refl
either_or a false true d f t = inr (inl refl)
either_or a false false true f t = inr (inr refl)
either_or true false false false f t = absurd (false≢true (sym f))
either_or false false false false f t = absurd (false≢true t)

any_of : (a b c d : Bool) → IsTrue b ⊎ IsTrue c ⊎ IsTrue d → IsTrue (a || b || c || d)
any_of true b c d t = refl
any_of false true c d t = refl
any_of false false true d t = refl
any_of false false false true t = refl
any_of false false false false (inl t) = absurd (false≢true t)
any_of false false false false (inr (inl t)) = absurd (false≢true t)
any_of false false false false (inr (inr t)) = absurd (false≢true t)

module _ (trace : Trace) (st : State) where
  -- a register that leads into the shared heap
  held_in_shared : (row : List (Option Name)) (s : ℕ) → IsTrue (list_any (register_lies_in trace st s) row) → (n : Name) × IsTrue (list_any (λ r. leads_to r n) row) × (owner_of trace st n.seg.0 ≡ shared s)
  held_in_shared [] s t = absurd (false≢true t)
  held_in_shared (r ∷ row) s t =
      elim (or_cases (register_lies_in trace st s r) (list_any (register_lies_in trace st s) row) t) [
        | inl here ↦ first r here
        | inr there ↦ let rest = held_in_shared row s there in (rest.0, or_right (leads_to r rest.0) _ rest.1, rest.2)
      ]
    where
      first : (r : Option Name) → IsTrue (register_lies_in trace st s r) → (n : Name) × IsTrue (list_any (λ r. leads_to r n) (r ∷ row)) × (owner_of trace st n.seg.0 ≡ shared s)
      first None t = absurd (false≢true t)
      first (Some n) t = (n, or_left _ _ (name_eq_refl n), heap_eq-true (owner_of trace st n.seg.0) (shared s) t)

  lies_if_held : (row : List (Option Name)) (s : ℕ) (n : Name) → IsTrue (list_any (λ r. leads_to r n) row) → owner_of trace st n.seg.0 ≡ shared s → IsTrue (list_any (register_lies_in trace st s) row)
  lies_if_held [] s n t own = absurd (false≢true t)
  lies_if_held (r ∷ row) s n t own =
      elim (or_cases (leads_to r n) (list_any (λ r. leads_to r n) row) t) [
        | inl here ↦ or_left _ _ (first r here)
        | inr there ↦ or_right (register_lies_in trace st s r) _ (lies_if_held row s n there own)
      ]
    where
      first : (r : Option Name) → IsTrue (leads_to r n) → IsTrue (register_lies_in trace st s r)
      first None t = absurd (false≢true t)
      first (Some m) t = heap_eq-same (owner_of trace st m.seg.0) (shared s) (ap (λ k. owner_of trace st k.seg.0) (name_eq-true m n t) ∙ own)

module _ (trace : Trace) (st : State) (sound : IsSound trace st) (h : Heap) (roots : List Name) (opened : scan_of st.scans h ≡ Some roots) where
  abbrev pub leads_into : ℕ → ExitItem → Bool
  leads_into s x = heap_eq x.heap h && lies_in trace st s x.target && exit_stays trace st h x

  pub exits_after : (g : Heap) (n : Name) → has_exit (after_ended trace h st).exits g n ≡ (has_exit st.exits g n && exit_stays trace st h (record { heap = g; target = n }))
  unfolding after_ended keep_objects keep_exits keep_shares close_scan
  exits_after g n = has_exit-kept (exit_stays trace st h) st.exits g n

  pub shares_after : (p s : ℕ) → has_share (after_ended trace h st).shares p s ≡ (has_share st.shares p s && share_stays trace st h (record { process = p; heap = s }))
  unfolding after_ended keep_objects keep_exits keep_shares close_scan
  shares_after p s = has_share-kept (share_stays trace st h) st.shares p s

  pub exit_into : (s : ℕ) → IsTrue (list_any (leads_into s) st.exits) → (n : Name) × IsTrue (has_exit (after_ended trace h st).exits h n) × (owner_of trace st n.seg.0 ≡ shared s)
  exit_into s t =
      let x = some_element (leads_into s) st.exits t in
      let parts = and_parts (heap_eq x.0.heap h && lies_in trace st s x.0.target) (exit_stays trace st h x.0) x.1 in
      let both = and_parts (heap_eq x.0.heap h) (lies_in trace st s x.0.target) parts.0 in
      let at = heap_eq-true x.0.heap h both.0 in (
        x.0.target,
        exits_after h x.0.target ∙ and_from _ _
            (x.2 (λ e. heap_eq e.heap h && name_eq e.target x.0.target) (and_from _ _ both.0 (name_eq_refl x.0.target)))
            (ap (λ g. exit_stays trace st h (record { heap = g; target = x.0.target })) (sym at) ∙ parts.1),
        heap_eq-true (owner_of trace st x.0.target.seg.0) (shared s) both.1,
      )

  pub into_exit : (s : ℕ) (n : Name) → IsTrue (has_exit (after_ended trace h st).exits h n) → owner_of trace st n.seg.0 ≡ shared s → IsTrue (list_any (leads_into s) st.exits)
  into_exit s n t own =
      let parts = and_parts (has_exit st.exits h n) (exit_stays trace st h (record { heap = h; target = n })) (sym (exits_after h n) ∙ t) in
      let x = some_element (λ e. heap_eq e.heap h && name_eq e.target n) st.exits parts.0 in
      let is = exit_is x.0 h n x.1 in
      x.2 (leads_into s) (ap (leads_into s) is ∙ and_from _ _ (and_from _ _ (heap_eq_refl h) (heap_eq-same (owner_of trace st n.seg.0) (shared s) own)) parts.1)

  own_share_stays : (p s : ℕ) → h ≡ user p → IsTrue (share_stays trace st h (record { process = p; heap = s })) → HasWayInto trace st (after_ended trace h st) p s
  unfolding share_stays
  own_share_stays p s own t =
      elim (either_or _ _ _ _ (ap not (heap_eq-same h (user p) own)) t) [
        | inl held ↦ inl (held_in_shared trace st (registers_of st p) s held)
        | inr rest ↦ elim rest [
          | inl exit ↦ let n = exit_into s exit in inr (inl (n.0, ap (λ g. has_exit (after_ended trace h st).exits g n.0) (sym own) ∙ n.1, n.2))
          | inr populates ↦ inr (inr populates)
        ]
      ]

  own_share_if : (p s : ℕ) → h ≡ user p → HasWayInto trace st (after_ended trace h st) p s → IsTrue (share_stays trace st h (record { process = p; heap = s }))
  unfolding share_stays
  own_share_if p s own (inl held) = any_of (not (heap_eq h (user p))) _ _ _ (inl (lies_if_held trace st (registers_of st p) s held.0 held.1 held.2))
  own_share_if p s own (inr (inl exit)) = any_of (not (heap_eq h (user p))) _ _ _ (inr (inl (into_exit s exit.0 (ap (λ g. has_exit (after_ended trace h st).exits g exit.0) own ∙ exit.1) exit.2)))
  own_share_if p s own (inr (inr populates)) = any_of (not (heap_eq h (user p))) _ _ _ (inr (inr populates))

  other_exit_stays : (g : Heap) (n : Name) → IsFalse (heap_eq g h) → IsTrue (exit_stays trace st h (record { heap = g; target = n }))
  unfolding exit_stays
  other_exit_stays g n apart = or_left _ _ (not_from_false _ apart)

  other_share_stays : (p s : ℕ) → h ≢ user p → IsTrue (share_stays trace st h (record { process = p; heap = s }))
  unfolding share_stays
  other_share_stays p s apart = or_left _ _ (or_left _ _ (or_left _ _ (not_from_false _ (heap_eq-false h (user p) apart))))

  kept_object : (n : Name) → IsTrue (has (after_ended trace h st).objects n) → object_at (after_ended trace h st).objects n ≡ object_at st.objects n
  unfolding after_ended keep_objects keep_exits keep_shares close_scan
  kept_object n there =
      object_at-kept (survives trace st h) st.objects n
      ∙ ap (λ b. cond b (object_at st.objects n) None) (and_parts (has st.objects n) (survives trace st h n) (sym (has-kept (survives trace st h) st.objects n) ∙ there)).1

  pub survivors : KeepsTheSurvivors trace st h (after_ended trace h st)
  unfolding after_ended keep_objects keep_exits keep_shares close_scan survives
  survivors = record {
    objects = λ n. has-kept (survives trace st h) st.objects n;
    contents = kept_object;
    own_exits = λ n. (exit_needed trace st sound h roots opened n, exit_there_still trace st sound h roots opened n);
    other_exits = λ g n apart. exits_after g n ∙ and_yes _ _ (other_exit_stays g n apart);
    own_shares = λ p s own. (
      (λ t. let parts = and_parts (has_share st.shares p s) (share_stays trace st h (record { process = p; heap = s })) (sym (shares_after p s) ∙ t) in (parts.0, own_share_stays p s own parts.1)),
      (λ t. shares_after p s ∙ and_from _ _ t.0 (own_share_if p s own t.1)),
    );
    other_shares = λ p s apart. shares_after p s ∙ and_yes _ _ (other_share_stays p s apart);
    scans = λ g. scan_closed h g st.scans;
    rest = refl;
  }
