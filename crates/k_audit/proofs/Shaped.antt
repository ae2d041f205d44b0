-- A snapshot whose points hold says a sound state: what a text can say has the shape of a state of a run.
use Rattle.std.proofs.Common.{◌≡◌, ◌↔◌, ◌⊎◌, ◌==◌, ◌&&◌, inl, inr, ℕ, zero, suc, ◌+◌, ◌<◌, ◌≤◌, Bool, true, false, cond, List, [], ◌∷◌, map, Option, Some, None, refl, sym, ap₂, subst, eqb-true, arith}
use Rattle.std.specs.List.{AllByRecursion, list_any, find}
use Rattle.std.proofs.lemmas.Bool.{and_parts, false≢true, false_from_ne_true, or_cases}
use Rattle.k_types.specs.declared.names.Heap.{Heap}
use Rattle.k_types.specs.declared.names.Heap.TheVariants.{Shared}
use Rattle.k_types.specs.declared.names.Name.{Name}
use Rattle.k_types.specs.declared.names.Phase.{Phase}
use Rattle.k_types.specs.Names.{heap_eq, name_eq}
use Rattle.k_types.specs.Owners.{phase_of}
use Rattle.k_types.specs.Sound.{AreDistinctExits, AreDistinctScans, AreDistinctShares, IsShaped, IsSound, IsTyped}
use Rattle.k_types.specs.State.{ExitItem, Object, Sharing, State, has_exit, has_share}
use Rattle.k_types.specs.Trace.{IsHeap, Trace, process_count, segment_count}
use Rattle.k_words.specs.Words.{Text}
use Rattle.k_trace.specs.Named.{DeclaredNames}
use Rattle.k_types.proofs.NameTests.{heap_eq-true, name_eq-true}
use Rattle.k_audit.specs.Claims.{Snap, claims_of}
use Rattle.k_audit.specs.Grammar.{AreExitsFrom, AreRisingFrom, IsSpelledExit, IsSpelledObject, IsSpelledPhase, IsSpelledShare, IsSpelledState, share_place}
use Rattle.k_audit.specs.Tests.{exit_lt}
use Rattle.k_audit.specs.Verdicts.{HoldsAt, IsSoundText, Spells}
use Rattle.k_audit.proofs.ExitPlaces.{exit_from, exit_irrefl, exit_trans, is_same, same_is, seg}
use Rattle.k_audit.proofs.Means.{no_scan, none_scanned}

-- what each element says of what it leads to holds of all that any of them leads to
any_says : {A N : Type 0} (holds : A → Type 0) (leads : N → A → Bool) (says : N → Type 0) → ((a : A) (n : N) → holds a → leads n a ≡ true → says n) →
    (xs : List A) → AllByRecursion holds xs → (n : N) → list_any (leads n) xs ≡ true → says n
any_says holds leads says each [] all n there = absurd (false≢true there)
any_says holds leads says each (x ∷ xs) all n there =
    elim (or_cases (leads n x) (list_any (leads n) xs) there) [
      | inl here ↦ each x n all.0 here
      | inr later ↦ any_says holds leads says each xs all.1 n later
    ]

-- ---- exit items

abbrev exit_leads : Heap × Name → ExitItem → Bool
exit_leads pair e = heap_eq e.heap pair.0 && name_eq e.target pair.1

referring : (trace : Trace) (exits : List ExitItem) → AllByRecursion (IsSpelledExit trace) exits → (h : Heap) (n : Name) → has_exit exits h n ≡ true → IsHeap trace h
referring trace exits all h n there =
    any_says {A = ExitItem} {N = Heap × Name} (IsSpelledExit trace) exit_leads (λ pair. IsHeap trace pair.0)
    (λ e pair ok same. subst (IsHeap trace) (heap_eq-true e.heap pair.0 (and_parts (heap_eq e.heap pair.0) (name_eq e.target pair.1) same).0) ok.0)
    exits all (h, n) there

abbrev IsLater : Trace → ExitItem → ExitItem → Type 0
IsLater trace e x = exit_lt trace e x ≡ true

later_all : (trace : Trace) (e x : ExitItem) (xs : List ExitItem) → IsLater trace e x → AreExitsFrom trace (seg trace x) (Some x.target) xs → AllByRecursion (IsLater trace e) xs
later_all trace e x [] lt ordered = tt
later_all trace e x (y ∷ ys) lt ordered =
    let next = exit_trans trace e x y lt (exit_from trace x y ordered.0) in
    (next, later_all trace e y ys next ordered.1)

all_later : (trace : Trace) (e : ExitItem) (xs : List ExitItem) → AreExitsFrom trace (seg trace e) (Some e.target) xs → AllByRecursion (IsLater trace e) xs
all_later trace e [] ordered = tt
all_later trace e (x ∷ xs) ordered =
    let first = exit_from trace e x ordered.0 in
    (first, later_all trace e x xs first ordered.1)

distinct_exits : (trace : Trace) (s : ℕ) (last : Option Name) (xs : List ExitItem) → AreExitsFrom trace s last xs → AreDistinctExits xs
distinct_exits trace s last [] ordered = tt
distinct_exits trace s last (e ∷ xs) ordered = (
  false_from_ne_true (has_exit xs e.heap e.target)
      (λ there. exit_irrefl trace e
      (any_says {A = ExitItem} {N = ExitItem} (IsLater trace e) (λ w y. is_same y w) (IsLater trace e) (λ y w later same. subst (IsLater trace e) (same_is y w same) later) xs (all_later trace e xs ordered.1) e there)),
  distinct_exits trace (seg trace e) (Some e.target) xs ordered.1,
)

-- ---- shares

abbrev share_leads : Sharing → Sharing → Bool
share_leads w e = (e.process == w.process) && (e.heap == w.heap)

same_share : (e w : Sharing) → share_leads w e ≡ true → e ≡ w
same_share e w same =
    let parts = and_parts (e.process == w.process) (e.heap == w.heap) same in
    ap₂ (λ (p s : ℕ). let x : Sharing = record { process = p; heap = s } in x) (eqb-true e.process w.process parts.0) (eqb-true e.heap w.heap parts.1)

spelled_share : (trace : Trace) (shares : List Sharing) → AllByRecursion (IsSpelledShare trace) shares → (p s : ℕ) → has_share shares p s ≡ true → IsSpelledShare trace (record { process = p; heap = s })
spelled_share trace shares all p s there =
    any_says {A = Sharing} {N = Sharing} (IsSpelledShare trace) share_leads (IsSpelledShare trace) (λ e w ok same. subst (IsSpelledShare trace) (same_share e w same) ok) shares all (record { process = p; heap = s }) there

at_least : (m l p : ℕ) → m ≤ l → l ≤ p → m ≤ p
at_least m l p low high = omega (arith, low, high)

and_next : (m p : ℕ) → m ≤ p → m ≤ p + 1
and_next m p low = omega (arith, low)

not_above : (p : ℕ) → p + 1 ≤ p → ⊥
not_above p above = omega (arith, above)

all_above : (trace : Trace) (m least : ℕ) (xs : List Sharing) → AreRisingFrom least (map (share_place trace) xs) → m ≤ least → AllByRecursion (λ y. m ≤ share_place trace y) xs
all_above trace m least [] rising low = tt
all_above trace m least (y ∷ ys) rising low =
    let here = at_least m least (share_place trace y) low rising.0 in
    (here, all_above trace m (share_place trace y + 1) ys rising.1 (and_next m (share_place trace y) here))

pub distinct_shares : (trace : Trace) (least : ℕ) (xs : List Sharing) → AreRisingFrom least (map (share_place trace) xs) → AreDistinctShares xs
distinct_shares trace least [] rising = tt
distinct_shares trace least (e ∷ xs) rising =
    let m = share_place trace e + 1 in (
      false_from_ne_true (has_share xs e.process e.heap)
          (λ there. not_above (share_place trace e)
          (any_says {A = Sharing} {N = Sharing} (λ y. m ≤ share_place trace y) share_leads (λ w. m ≤ share_place trace w) (λ y w above same. subst (λ (z : Sharing). m ≤ share_place trace z) (same_share y w same) above)
          xs (all_above trace m m xs rising.1 (omega arith)) e there)),
      distinct_shares trace m xs rising.1,
    )

-- ---- objects

placed : (trace : Trace) (objects : List Object) → AllByRecursion (IsSpelledObject trace) objects → (n : Name) → list_any (λ o. name_eq o.name n) objects ≡ true → (0 < n.serial.0) × (n.seg.0 < segment_count trace)
placed trace objects all n there =
    any_says {A = Object} {N = Name} (IsSpelledObject trace) (λ m o. name_eq o.name m) (λ m. (0 < m.serial.0) × (m.seg.0 < segment_count trace))
    (λ o m ok same. subst (λ (m : Name). (0 < m.serial.0) × (m.seg.0 < segment_count trace)) (name_eq-true o.name m same) (ok.name.from_one, ok.name.known))
    objects all n there

either_of : (t : Bool) (x o : Object) (rest : Option Object) → cond t (Some x) rest ≡ Some o → (x ≡ o) ⊎ (rest ≡ Some o)
either_of true x o rest e = inl cc
either_of false x o rest e = inr e

typed : (trace : Trace) (objects : List Object) → AllByRecursion (IsSpelledObject trace) objects → (n : Name) (o : Object) → find (λ x. name_eq x.name n) objects ≡ Some o → IsTyped trace o
typed trace [] all n o e = absurd cc
typed trace (x ∷ xs) all n o e =
    elim (either_of (name_eq x.name n) x o (find (λ y. name_eq y.name n) xs) e) [
      | inl here ↦ subst (IsTyped trace) here all.0.typed
      | inr later ↦ typed trace xs all.1 n o later
    ]

-- ---- processes, phases and collections

ended : (trace : Trace) (ps : List ℕ) → AllByRecursion (λ p. p < process_count trace) ps → (p : ℕ) → list_any (λ q. q == p) ps ≡ true → p < process_count trace
ended trace ps all p there =
    any_says {A = ℕ} {N = ℕ} (λ q. q < process_count trace) (λ n q. q == n) (λ n. n < process_count trace) (λ q n ok same. subst (λ (n : ℕ). n < process_count trace) (eqb-true q n same) ok) ps all p there

phase_spelled : (trace : Trace) (phases : List Phase) (s : ℕ) → AllByRecursion (IsSpelledPhase trace) phases → IsSpelledPhase trace (phase_of phases s)
phase_spelled trace [] zero all = tt
phase_spelled trace [] (suc s) all = tt
phase_spelled trace (phase ∷ phases) zero all = all.0
phase_spelled trace (phase ∷ phases) (suc s) all = phase_spelled trace phases s all.1

-- ---- the state

pub shaped : (trace : Trace) (st : State) → IsSpelledState trace st → IsShaped trace st
shaped trace st spelled = record {
  sized = spelled.sized;
  distinct_exits = distinct_exits trace 0 None st.exits spelled.exits_ordered;
  distinct_shares = distinct_shares trace 0 st.shares spelled.shares_ordered;
  distinct_scans = subst AreDistinctScans (sym spelled.scans) tt;
  known = record {
    referring = referring trace st.exits spelled.exits;
    sharers = λ p s there. (spelled_share trace st.shares spelled.shares p s there).0;
    shared = λ p s there. (spelled_share trace st.shares spelled.shares p s there).1;
    scanned = λ h roots is. absurd (none_scanned st.scans h roots spelled.scans is);
  };
  placed = placed trace st.objects spelled.objects;
  typed = typed trace st.objects spelled.objects;
  declared = record {
    ended = ended trace st.ended spelled.ended_known;
    populating = λ s q is. subst (IsSpelledPhase trace) is (phase_spelled trace st.phases s spelled.phases);
  };
}

sound_state : (trace : Trace) (snap : Snap) → IsSpelledState trace snap.state → ((k : ℕ) → HoldsAt trace snap k) → IsSound trace snap.state
sound_state trace snap spelled all = record {
  shape = shaped trace snap.state spelled;
  names = (all 1).names refl;
  no_dangling = (all 2).no_dangling refl;
  guarded = (all 3).guarded refl;
  exits = (all 4).exits refl;
  gone = (all 5).gone refl;
  phases = (all 6).phases refl;
  uses = (all 7).uses refl;
  scans = record {
    own = λ h roots n is. absurd (none_scanned snap.state.scans h roots spelled.scans is);
    recorded = λ h roots n is. absurd (none_scanned snap.state.scans h roots spelled.scans is);
    none_shared = λ s. no_scan snap.state.scans (Shared (record { 0 = s })) spelled.scans;
  };
}

holds : (trace : Trace) (snap : Snap) → IsSound trace snap.state → snap.claims ≡ claims_of trace snap.state → (k : ℕ) → HoldsAt trace snap k
holds trace snap sound claims k = record {
  names = λ e. sound.names;
  no_dangling = λ e. sound.no_dangling;
  guarded = λ e. sound.guarded;
  exits = λ e. sound.exits;
  gone = λ e. sound.gone;
  phases = λ e. sound.phases;
  uses = λ e. sound.uses;
  claims = λ e. claims;
}

pub sound_text : (names : DeclaredNames) (trace : Trace) (bytes : Text) → IsSoundText names trace bytes ↔ ((snap : Snap) × Spells names trace bytes snap × IsSound trace snap.state × (snap.claims ≡ claims_of trace snap.state))
sound_text names trace bytes = (
  λ found. (found.snap, found.spells, sound_state trace found.snap found.spells.spelled.state found.all, (found.all 8).claims refl),
  λ said. record { snap = said.0; spells = said.1; all = holds trace said.0 said.2 said.3 },
)
