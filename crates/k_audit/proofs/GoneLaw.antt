-- The fifth point by its test.
use Rattle.std.proofs.Common.{◌≡◌, ◌∙◌, ◌↔◌, ◌&&◌, ◌||◌, ◌==◌, ℕ, Bool, true, false, not, List, [], get_or, Option, Some, None, refl, sym, ap, subst, inl, inr, eq-eqb, eqb-true, arith}
use Rattle.std.specs.Prelude.{IsTrue, IsFalse}
use Rattle.std.specs.List.{list_all, list_any}
use Rattle.std.proofs.lemmas.Bool.{and_from, and_parts, false≢true, false_from_ne_true, not-true, not_from_false}
use Rattle.k_types.specs.declared.names.Heap.{Heap}
use Rattle.k_types.specs.declared.names.Heap.TheVariants.{Kernel, User, Shared}
use Rattle.k_types.specs.declared.names.Name.{Name}
use Rattle.k_types.specs.declared.names.Phase.TheVariants.{Absorbed}
use Rattle.k_types.specs.Names.{among, leads_to}
use Rattle.k_types.specs.Owners.{is_absorbed, phase_of, shared, user}
use Rattle.k_types.specs.Sound.{AreGone, IsSized}
use Rattle.k_types.specs.State.{Sharing, State, has_exit, has_share, in_registers}
use Rattle.k_types.specs.Steps.{has_sharer}
use Rattle.k_types.specs.Trace.{Trace, process_count}
use Rattle.k_types.proofs.NameTests.{name_eq_refl}
use Rattle.k_types.proofs.Numbered.{all_at_below, all_below}
use Rattle.k_audit.specs.Tests.{all_registers_gone, exits_stay, heap_stays, is_null, nothing_left, registers_gone, share_stays}
use Rattle.k_audit.proofs.Means.{all_say, order, said_of_all, no_scan}
use Rattle.k_audit.proofs.DanglingLaw.{exits_hold, exits_say, no_registers}
use Rattle.k_types.proofs.Owners.{absorbed_is}
use Rattle.k_types.proofs.Shares.{sharer_of}

-- ---- registers

null_leads : (r : Option Name) (n : Name) → is_null r ≡ true → leads_to r n ≡ true → ⊥
null_leads None n null leads = absurd (false≢true leads)
null_leads (Some m) n null leads = absurd (false≢true null)

null_where : (r : Option Name) → ((n : Name) → leads_to r n ≡ true → ⊥) → is_null r ≡ true
null_where None none = refl
null_where (Some m) none = absurd (none m (name_eq_refl m))

none_lead : (registers : List (Option Name)) → list_all is_null registers ≡ true → (n : Name) → list_any (λ r. leads_to r n) registers ≡ true → ⊥
none_lead registers all n leads = all_say {A = Option Name} {N = Name} (λ m r. leads_to r m) (λ m. ⊥) is_null null_leads registers all n leads

all_null : (registers : List (Option Name)) → ((n : Name) → list_any (λ r. leads_to r n) registers ≡ true → ⊥) → list_all is_null registers ≡ true
all_null registers none = said_of_all {A = Option Name} {N = Name} (λ m r. leads_to r m) (λ m. ⊥) is_null null_where registers none

or_not : (a b : Bool) → (not a || b) ≡ true → a ≡ true → b ≡ true
or_not true b e t = e
or_not false b e t = absurd (false≢true t)

not_or_where : (a b : Bool) → (a ≡ true → b ≡ true) → (not a || b) ≡ true
not_or_where true b f = f refl
not_or_where false b f = refl

registers_say : (trace : Trace) (st : State) → IsSized trace st → all_registers_gone trace st ≡ true → (p : ℕ) (n : Name) → IsTrue (among p st.ended) → IsFalse (in_registers st.registers p n)
registers_say trace st sized all p n ended =
    elim (order p (process_count trace)) [
      | inl inside ↦
          false_from_ne_true (in_registers st.registers p n)
          (none_lead (get_or st.registers p [])
          (or_not (among p st.ended) (list_all is_null (get_or st.registers p []))
          (all_at_below (λ q. registers_gone st.ended q (get_or st.registers q [])) (process_count trace) p all inside) ended) n)
      | inr past ↦ no_registers st.registers p n (omega (arith, sized.registers, past))
    ]

registers_hold : (trace : Trace) (st : State) → ((p : ℕ) (n : Name) → IsTrue (among p st.ended) → IsFalse (in_registers st.registers p n)) → all_registers_gone trace st ≡ true
registers_hold trace st each =
    all_below (λ q. registers_gone st.ended q (get_or st.registers q [])) (process_count trace)
    (λ p inside. not_or_where (among p st.ended) (list_all is_null (get_or st.registers p [])) (λ ended. all_null (get_or st.registers p []) (λ n leads. absurd (false≢true (sym (each p n ended) ∙ leads)))))

-- ---- shares: a pair of process and shared heap

pub shares_say : (says : ℕ × ℕ → Type 0) (test : Sharing → Bool) → ((e : Sharing) → test e ≡ true → says (e.process, e.heap)) → (shares : List Sharing) → list_all test shares ≡ true → (p s : ℕ) → has_share shares p s ≡ true → says (p, s)
shares_say says test each shares all p s there =
    all_say {A = Sharing} {N = ℕ × ℕ} (λ pair e. (e.process == pair.0) && (e.heap == pair.1)) says test
    (λ e pair ok same.
    let parts = and_parts (e.process == pair.0) (e.heap == pair.1) same in
    subst (λ (q : ℕ). says (q, pair.1)) (eqb-true e.process pair.0 parts.0) (subst (λ (t : ℕ). says (e.process, t)) (eqb-true e.heap pair.1 parts.1) (each e ok)))
    shares all (p, s) there

pub shares_hold : (says : ℕ × ℕ → Type 0) (test : Sharing → Bool) → ((e : Sharing) → says (e.process, e.heap) → test e ≡ true) → (shares : List Sharing) → ((p s : ℕ) → has_share shares p s ≡ true → says (p, s)) → list_all test shares ≡ true
shares_hold says test each shares holds =
    said_of_all {A = Sharing} {N = ℕ × ℕ} (λ pair e. (e.process == pair.0) && (e.heap == pair.1)) says test
    (λ e here. each e (here (e.process, e.heap) (and_from (e.process == e.process) (e.heap == e.heap) (eq-eqb e.process e.process refl) (eq-eqb e.heap e.heap refl))))
    shares (λ pair there. holds pair.0 pair.1 there)

-- what holds of the heap of each share holds of each heap with a sharer
pub sharers_say : (says : ℕ → Type 0) (test : Sharing → Bool) → ((e : Sharing) → test e ≡ true → says e.heap) → (shares : List Sharing) → list_all test shares ≡ true → (s : ℕ) → has_sharer shares s ≡ true → says s
sharers_say says test each shares all s there =
    all_say {A = Sharing} {N = ℕ} (λ t e. e.heap == t) says test (λ e t ok same. subst says (eqb-true e.heap t same) (each e ok)) shares all s there

-- the sharer lives, and the heap was not absorbed
record Stays (st : State) (pair : ℕ × ℕ) : Type 0 where
  lives : IsFalse (among pair.0 st.ended)
  there : IsFalse (is_absorbed (phase_of st.phases pair.1))

share_says : (st : State) (e : Sharing) → share_stays st.ended st.phases e ≡ true → Stays st (e.process, e.heap)
share_says st e ok =
    let parts = and_parts (not (among e.process st.ended)) (not (is_absorbed (phase_of st.phases e.heap))) ok in
    record { lives = not-true (among e.process st.ended) parts.0; there = not-true (is_absorbed (phase_of st.phases e.heap)) parts.1 }

share_holds : (st : State) (e : Sharing) → Stays st (e.process, e.heap) → share_stays st.ended st.phases e ≡ true
share_holds st e stays =
    and_from (not (among e.process st.ended)) (not (is_absorbed (phase_of st.phases e.heap)))
    (not_from_false (among e.process st.ended) stays.lives) (not_from_false (is_absorbed (phase_of st.phases e.heap)) stays.there)

-- ---- exit items

heap_holds : (st : State) (h : Heap) → ((p : ℕ) → h ≡ user p → IsFalse (among p st.ended)) → ((s : ℕ) → h ≡ shared s → phase_of st.phases s ≡ Absorbed → ⊥) → heap_stays st.ended st.phases h ≡ true
heap_holds st Kernel users heaps = refl
heap_holds st (User p) users heaps = not_from_false (among p.0 st.ended) (users p.0 refl)
heap_holds st (Shared s) users heaps =
    not_from_false (is_absorbed (phase_of st.phases s.0)) (false_from_ne_true (is_absorbed (phase_of st.phases s.0)) (λ t. heaps s.0 refl (absorbed_is (phase_of st.phases s.0) t)))

exits_true : (st : State) → AreGone st → exits_stay st ≡ true
exits_true st gone =
    exits_hold (λ pair. heap_stays st.ended st.phases pair.0 ≡ true) (λ e. heap_stays st.ended st.phases e.heap) (λ e ok. ok) st.exits
    (λ h n there.
    heap_holds st h
    (λ p same. false_from_ne_true (among p st.ended) (λ ended. false≢true (sym (gone.exits p n ended) ∙ ap (λ (g : Heap). has_exit st.exits g n) (sym same) ∙ there)))
    (λ s same absorbed. false≢true (sym (gone.absorbed_exits s n absorbed) ∙ ap (λ (g : Heap). has_exit st.exits g n) (sym same) ∙ there)))

-- ---- the point

pub gone_law : (trace : Trace) (st : State) → IsSized trace st → st.scans ≡ [] → (nothing_left trace st ≡ true) ↔ AreGone st
gone_law trace st sized none = (
  λ all.
      let a = and_parts (all_registers_gone trace st && list_all (share_stays st.ended st.phases) st.shares) (exits_stay st) all in
      let b = and_parts (all_registers_gone trace st) (list_all (share_stays st.ended st.phases) st.shares) a.0 in
      let stays : (h : Heap) (n : Name) → has_exit st.exits h n ≡ true → heap_stays st.ended st.phases h ≡ true
      = exits_say (λ pair. heap_stays st.ended st.phases pair.0 ≡ true) (λ e. heap_stays st.ended st.phases e.heap) (λ e ok. ok) st.exits a.1 in
      record {
        registers = registers_say trace st sized b.0;
        shares = λ p s ended. false_from_ne_true (has_share st.shares p s) (λ there.
            false≢true (sym (shares_say (Stays st) (share_stays st.ended st.phases) (share_says st) st.shares b.1 p s there).lives ∙ ended));
        scans = λ p ended. no_scan st.scans (user p) none;
        exits = λ p n ended. false_from_ne_true (has_exit st.exits (user p) n) (λ there. false≢true (sym (not-true (among p st.ended) (stays (user p) n there)) ∙ ended));
        absorbed_shares = λ s absorbed. false_from_ne_true (has_sharer st.shares s) (λ there.
            false≢true (sym (sharers_say (λ t. IsFalse (is_absorbed (phase_of st.phases t))) (share_stays st.ended st.phases) (λ e ok. (share_says st e ok).there) st.shares b.1 s there)
            ∙ ap is_absorbed absorbed));
        absorbed_exits = λ s n absorbed. false_from_ne_true (has_exit st.exits (shared s) n) (λ there.
            false≢true (sym (not-true (is_absorbed (phase_of st.phases s)) (stays (shared s) n there)) ∙ ap is_absorbed absorbed));
      },
  λ gone.
      and_from (all_registers_gone trace st && list_all (share_stays st.ended st.phases) st.shares) (exits_stay st)
      (and_from (all_registers_gone trace st) (list_all (share_stays st.ended st.phases) st.shares)
      (registers_hold trace st gone.registers)
      (shares_hold (Stays st) (share_stays st.ended st.phases) (share_holds st) st.shares
      (λ p s there. record {
        lives = false_from_ne_true (among p st.ended) (λ ended. false≢true (sym (gone.shares p s ended) ∙ there));
        there = false_from_ne_true (is_absorbed (phase_of st.phases s)) (λ absorbed.
            false≢true (sym (gone.absorbed_shares s (absorbed_is (phase_of st.phases s) absorbed)) ∙ sharer_of st.shares p s there));
      })))
      (exits_true st gone),
)
