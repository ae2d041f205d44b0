-- The bytes deserve one verdict, and it is the one that the definitions compute.
use Rattle.std.proofs.Common.{◌≡◌, ◌∙◌, inl, inr, ℕ, ◌<◌, ◌≤◌, Bool, true, false, not, cond, List, length, Option, Some, None, Result, Ok, Err, refl, sym, ap, subst, arith}
use Rattle.std.specs.List.{list_all}
use Rattle.std.proofs.lemmas.Bool.{false≢true}
use Rattle.k_types.specs.Numbers.{numbers_below}
use Rattle.k_types.specs.Owners.{owner_of}
use Rattle.k_types.specs.State.{State}
use Rattle.k_types.specs.Trace.{Trace}
use Rattle.k_words.specs.Words.{Text}
use Rattle.k_trace.specs.Named.{DeclaredNames}
use Rattle.k_audit.specs.Agreeing.{claims_agree}
use Rattle.k_audit.specs.Answering.{answer_to, point_of, verdict_of}
use Rattle.k_audit.specs.Claims.{Snap}
use Rattle.k_audit.specs.Reading.{Reading, is_whole, read_lines, unread}
use Rattle.k_audit.specs.Tests.{exit_leaves, is_numbered, nothing_dangles, nothing_left, object_guarded, phases_agree, use_fits}
use Rattle.k_audit.specs.Verdicts.{HoldsAt, IsBadLine, IsBadPoint, IsSoundText, IsVerdict, Spells, fed_lines}
use Rattle.k_audit.specs.declared.verdicts.Verdict.{Verdict}
use Rattle.k_audit.specs.declared.verdicts.Verdict.TheVariants.{Sound, Line, Point}
use Rattle.k_audit.proofs.ClaimsLaw.{claims_law, uses_law}
use Rattle.k_audit.proofs.DanglingLaw.{dangling_law}
use Rattle.k_audit.proofs.ExitsLaw.{exits_law}
use Rattle.k_audit.proofs.GoneLaw.{gone_law}
use Rattle.k_audit.proofs.GuardedLaw.{guarded_law}
use Rattle.k_audit.proofs.Judged.{HoldBelow, all_hold, lowest}
use Rattle.k_audit.proofs.Means.{order}
use Rattle.k_audit.proofs.NumberedLaw.{numbered_law}
use Rattle.k_audit.proofs.PhasesLaw.{phases_law}
use Rattle.k_audit.proofs.Plainly.{IsHeader}
use Rattle.k_audit.proofs.ReaderLaws.{reader_laws}
use Rattle.k_audit.proofs.Runs.{err_is_bad, ok_is_spelled, read_whole, run}

-- numbers of which neither is below the other are the same
neither : (n m : ℕ) → (n < m → ⊥) → (m < n → ⊥) → n ≡ m
neither n m not_less not_more =
    elim (order n m) as (λ o. n ≡ m) [
      | inl less ↦ absurd (not_less less)
      | inr least ↦
          elim (order m n) as (λ o. n ≡ m) [
            | inl more ↦ absurd (not_more more)
            | inr most ↦ omega (arith, least, most)
          ]
    ]

-- the snapshot that was read
abbrev snap_in : Snap → Option Reading → Snap
snap_in other None = other
snap_in other (Some rd) = rd.snap

module _ (names : DeclaredNames) (trace : Trace) (header : IsHeader names trace) (bytes : Text) where
  -- ---- one verdict

  reads : (snap : Snap) → Spells names trace bytes snap → run names trace (unread trace) (fed_lines bytes) ≡ Some (read_whole snap)
  reads snap spells =
      let laws = reader_laws names trace header in
      ap (λ (ls : List Text). run names trace (unread trace) ls) (ap fed_lines (sym spells.text) ∙ (laws.lines snap spells.spelled).lines) ∙ laws.complete snap spells.spelled

  same_snap : (a b : Snap) → Spells names trace bytes a → Spells names trace bytes b → a ≡ b
  same_snap a b first second =
      ap (λ (o : Option Reading). snap_in a o) (sym (reads a first) ∙ reads b second)

  lines_one : (n m : ℕ) → IsBadLine names trace bytes n → IsBadLine names trace bytes m → n ≡ m
  lines_one n m a b = neither n m (λ less. a.here (b.before n less)) (λ more. b.here (a.before m more))

  points_one : (k j : ℕ) → IsBadPoint names trace bytes k → IsBadPoint names trace bytes j → k ≡ j
  points_one k j a b =
      neither k j
      (λ less. a.lowest.not_here (subst (λ (s : Snap). HoldsAt trace s k) (same_snap b.snap a.snap b.spells a.spells) (b.lowest.below k less)))
      (λ more. b.lowest.not_here (subst (λ (s : Snap). HoldsAt trace s j) (same_snap a.snap b.snap a.spells b.spells) (a.lowest.below j more)))

  not_both : (k : ℕ) → IsSoundText names trace bytes → IsBadPoint names trace bytes k → ⊥
  not_both k a b = b.lowest.not_here (subst (λ (s : Snap). HoldsAt trace s k) (same_snap a.snap b.snap a.spells b.spells) (a.all k))

  pub one_verdict : (a b : Verdict) → IsVerdict names trace bytes a → IsVerdict names trace bytes b → a ≡ b
  one_verdict Sound Sound va vb = refl
  one_verdict Sound (Line m) va vb = absurd (vb.no_text va.snap va.spells)
  one_verdict Sound (Point j) va vb = absurd (not_both j va vb)
  one_verdict (Line n) Sound va vb = absurd (va.no_text vb.snap vb.spells)
  one_verdict (Line n) (Line m) va vb = ap Line (lines_one n m va vb)
  one_verdict (Line n) (Point j) va vb = absurd (va.no_text vb.snap vb.spells)
  one_verdict (Point k) Sound va vb = absurd (not_both k vb va)
  one_verdict (Point k) (Line m) va vb = absurd (vb.no_text va.snap va.spells)
  one_verdict (Point k) (Point j) va vb = ap Point (points_one k j va vb)

  -- ---- the verdict, computed

  deserved : (k : ℕ) (rest : Verdict) (holds : Bool) → (holds ≡ false → IsVerdict names trace bytes (Point k)) → (holds ≡ true → IsVerdict names trace bytes rest) → IsVerdict names trace bytes (cond (not holds) (Point k) rest)
  deserved k rest true bad good = good refl
  deserved k rest false bad good = bad refl

  module _ (snap : Snap) (spells : Spells names trace bytes snap) where
    abbrev st : State
    st = snap.state

    bad : (k : ℕ) → 0 < k → k ≤ 8 → HoldBelow trace snap k → (HoldsAt trace snap k → ⊥) → IsVerdict names trace bytes (Point k)
    bad k positive few hold not_here = record { snap = snap; spells = spells; lowest = lowest trace snap k positive few hold not_here }

    -- the tests of the points, one after the other

    abbrev are_numbered : Bool
    are_numbered = list_all (is_numbered st.made) st.objects

    abbrev none_dangles : Bool
    none_dangles = nothing_dangles trace st

    abbrev are_guarded : Bool
    are_guarded = list_all (object_guarded (owner_of trace st) st.exits) st.objects

    abbrev all_leave : Bool
    all_leave = list_all (exit_leaves (owner_of trace st)) st.exits

    abbrev none_left : Bool
    none_left = nothing_left trace st

    abbrev they_agree : Bool
    they_agree = phases_agree trace st

    abbrev all_fit : Bool
    all_fit = list_all (use_fits trace st) (numbers_below (length trace.limits))

    abbrev claimed : Bool
    claimed = claims_agree trace st snap.claims

    -- the points below that number hold where their tests pass
    hold : (k : ℕ) → (1 < k → are_numbered ≡ true) → (2 < k → none_dangles ≡ true) → (3 < k → are_guarded ≡ true) → (4 < k → all_leave ≡ true) → (5 < k → none_left ≡ true) → (6 < k → they_agree ≡ true) → (7 < k → all_fit ≡ true) → (8 < k → claimed ≡ true) → HoldBelow trace snap k
    hold k t1 t2 t3 t4 t5 t6 t7 t8 =
        let spelled = spells.spelled.state in
        record {
          names = λ lt. record { ordered = spelled.ordered; numbered = (numbered_law st.objects st.made).0 (t1 lt) };
          no_dangling = λ lt. (dangling_law trace st spelled.sized spelled.scans).0 (t2 lt);
          guarded = λ lt. (guarded_law (owner_of trace st) st.objects st.exits).0 (t3 lt);
          exits = λ lt. (exits_law (owner_of trace st) st.exits).0 (t4 lt);
          gone = λ lt. (gone_law trace st spelled.sized spelled.scans).0 (t5 lt);
          phases = λ lt. (phases_law trace st spelled.sized).0 (t6 lt);
          uses = λ lt. (uses_law trace st).0 (t7 lt);
          claims = λ lt. (claims_law trace st snap.claims spells.spelled.claims).0 (t8 lt);
        }

    after8 : are_numbered ≡ true → none_dangles ≡ true → are_guarded ≡ true → all_leave ≡ true → none_left ≡ true → they_agree ≡ true → all_fit ≡ true → claimed ≡ true → IsVerdict names trace bytes Sound
    after8 t1 t2 t3 t4 t5 t6 t7 t8 = record { snap = snap; spells = spells; all = all_hold trace snap (hold 9 (λ lt. t1) (λ lt. t2) (λ lt. t3) (λ lt. t4) (λ lt. t5) (λ lt. t6) (λ lt. t7) (λ lt. t8)) }

    after7 : are_numbered ≡ true → none_dangles ≡ true → are_guarded ≡ true → all_leave ≡ true → none_left ≡ true → they_agree ≡ true → all_fit ≡ true → IsVerdict names trace bytes (cond (not claimed) (Point 8) Sound)
    after7 t1 t2 t3 t4 t5 t6 t7 =
        let spelled = spells.spelled.state in
        deserved 8 Sound claimed
        (λ fails. bad 8 (omega arith) (omega arith) (hold 8 (λ lt. t1) (λ lt. t2) (λ lt. t3) (λ lt. t4) (λ lt. t5) (λ lt. t6) (λ lt. t7) (λ lt. absurd (omega (arith, lt)))) (λ h. false≢true (sym fails ∙ (claims_law trace st snap.claims spells.spelled.claims).1 (h.claims refl))))
        (λ t8. after8 t1 t2 t3 t4 t5 t6 t7 t8)

    after6 : are_numbered ≡ true → none_dangles ≡ true → are_guarded ≡ true → all_leave ≡ true → none_left ≡ true → they_agree ≡ true → IsVerdict names trace bytes (cond (not all_fit) (Point 7) (cond (not claimed) (Point 8) Sound))
    after6 t1 t2 t3 t4 t5 t6 =
        let spelled = spells.spelled.state in
        deserved 7 (cond (not claimed) (Point 8) Sound) all_fit
        (λ fails. bad 7 (omega arith) (omega arith) (hold 7 (λ lt. t1) (λ lt. t2) (λ lt. t3) (λ lt. t4) (λ lt. t5) (λ lt. t6) (λ lt. absurd (omega (arith, lt))) (λ lt. absurd (omega (arith, lt)))) (λ h. false≢true (sym fails ∙ (uses_law trace st).1 (h.uses refl))))
        (λ t7. after7 t1 t2 t3 t4 t5 t6 t7)

    after5 : are_numbered ≡ true → none_dangles ≡ true → are_guarded ≡ true → all_leave ≡ true → none_left ≡ true → IsVerdict names trace bytes (cond (not they_agree) (Point 6) (cond (not all_fit) (Point 7) (cond (not claimed) (Point 8) Sound)))
    after5 t1 t2 t3 t4 t5 =
        let spelled = spells.spelled.state in
        deserved 6 (cond (not all_fit) (Point 7) (cond (not claimed) (Point 8) Sound)) they_agree
        (λ fails. bad 6 (omega arith) (omega arith) (hold 6 (λ lt. t1) (λ lt. t2) (λ lt. t3) (λ lt. t4) (λ lt. t5) (λ lt. absurd (omega (arith, lt))) (λ lt. absurd (omega (arith, lt))) (λ lt. absurd (omega (arith, lt)))) (λ h. false≢true (sym fails ∙ (phases_law trace st spelled.sized).1 (h.phases refl))))
        (λ t6. after6 t1 t2 t3 t4 t5 t6)

    after4 : are_numbered ≡ true → none_dangles ≡ true → are_guarded ≡ true → all_leave ≡ true → IsVerdict names trace bytes (cond (not none_left) (Point 5) (cond (not they_agree) (Point 6) (cond (not all_fit) (Point 7) (cond (not claimed) (Point 8) Sound))))
    after4 t1 t2 t3 t4 =
        let spelled = spells.spelled.state in
        deserved 5 (cond (not they_agree) (Point 6) (cond (not all_fit) (Point 7) (cond (not claimed) (Point 8) Sound))) none_left
        (λ fails. bad 5 (omega arith) (omega arith) (hold 5 (λ lt. t1) (λ lt. t2) (λ lt. t3) (λ lt. t4) (λ lt. absurd (omega (arith, lt))) (λ lt. absurd (omega (arith, lt))) (λ lt. absurd (omega (arith, lt))) (λ lt. absurd (omega (arith, lt)))) (λ h. false≢true (sym fails ∙ (gone_law trace st spelled.sized spelled.scans).1 (h.gone refl))))
        (λ t5. after5 t1 t2 t3 t4 t5)

    after3 : are_numbered ≡ true → none_dangles ≡ true → are_guarded ≡ true → IsVerdict names trace bytes (cond (not all_leave) (Point 4) (cond (not none_left) (Point 5) (cond (not they_agree) (Point 6) (cond (not all_fit) (Point 7) (cond (not claimed) (Point 8) Sound)))))
    after3 t1 t2 t3 =
        let spelled = spells.spelled.state in
        deserved 4 (cond (not none_left) (Point 5) (cond (not they_agree) (Point 6) (cond (not all_fit) (Point 7) (cond (not claimed) (Point 8) Sound)))) all_leave
        (λ fails. bad 4 (omega arith) (omega arith) (hold 4 (λ lt. t1) (λ lt. t2) (λ lt. t3) (λ lt. absurd (omega (arith, lt))) (λ lt. absurd (omega (arith, lt))) (λ lt. absurd (omega (arith, lt))) (λ lt. absurd (omega (arith, lt))) (λ lt. absurd (omega (arith, lt)))) (λ h. false≢true (sym fails ∙ (exits_law (owner_of trace st) st.exits).1 (h.exits refl))))
        (λ t4. after4 t1 t2 t3 t4)

    after2 : are_numbered ≡ true → none_dangles ≡ true → IsVerdict names trace bytes (cond (not are_guarded) (Point 3) (cond (not all_leave) (Point 4) (cond (not none_left) (Point 5) (cond (not they_agree) (Point 6) (cond (not all_fit) (Point 7) (cond (not claimed) (Point 8) Sound))))))
    after2 t1 t2 =
        let spelled = spells.spelled.state in
        deserved 3 (cond (not all_leave) (Point 4) (cond (not none_left) (Point 5) (cond (not they_agree) (Point 6) (cond (not all_fit) (Point 7) (cond (not claimed) (Point 8) Sound))))) are_guarded
        (λ fails. bad 3 (omega arith) (omega arith) (hold 3 (λ lt. t1) (λ lt. t2) (λ lt. absurd (omega (arith, lt))) (λ lt. absurd (omega (arith, lt))) (λ lt. absurd (omega (arith, lt))) (λ lt. absurd (omega (arith, lt))) (λ lt. absurd (omega (arith, lt))) (λ lt. absurd (omega (arith, lt)))) (λ h. false≢true (sym fails ∙ (guarded_law (owner_of trace st) st.objects st.exits).1 (h.guarded refl))))
        (λ t3. after3 t1 t2 t3)

    after1 : are_numbered ≡ true → IsVerdict names trace bytes (cond (not none_dangles) (Point 2) (cond (not are_guarded) (Point 3) (cond (not all_leave) (Point 4) (cond (not none_left) (Point 5) (cond (not they_agree) (Point 6) (cond (not all_fit) (Point 7) (cond (not claimed) (Point 8) Sound)))))))
    after1 t1 =
        let spelled = spells.spelled.state in
        deserved 2 (cond (not are_guarded) (Point 3) (cond (not all_leave) (Point 4) (cond (not none_left) (Point 5) (cond (not they_agree) (Point 6) (cond (not all_fit) (Point 7) (cond (not claimed) (Point 8) Sound)))))) none_dangles
        (λ fails. bad 2 (omega arith) (omega arith) (hold 2 (λ lt. t1) (λ lt. absurd (omega (arith, lt))) (λ lt. absurd (omega (arith, lt))) (λ lt. absurd (omega (arith, lt))) (λ lt. absurd (omega (arith, lt))) (λ lt. absurd (omega (arith, lt))) (λ lt. absurd (omega (arith, lt))) (λ lt. absurd (omega (arith, lt)))) (λ h. false≢true (sym fails ∙ (dangling_law trace st spelled.sized spelled.scans).1 (h.no_dangling refl))))
        (λ t2. after2 t1 t2)

    pub point_deserved : IsVerdict names trace bytes (point_of trace snap)
    point_deserved =
        let spelled = spells.spelled.state in
        deserved 1 (cond (not none_dangles) (Point 2) (cond (not are_guarded) (Point 3) (cond (not all_leave) (Point 4) (cond (not none_left) (Point 5) (cond (not they_agree) (Point 6) (cond (not all_fit) (Point 7) (cond (not claimed) (Point 8) Sound))))))) are_numbered
        (λ fails. bad 1 (omega arith) (omega arith) (hold 1 (λ lt. absurd (omega (arith, lt))) (λ lt. absurd (omega (arith, lt))) (λ lt. absurd (omega (arith, lt))) (λ lt. absurd (omega (arith, lt))) (λ lt. absurd (omega (arith, lt))) (λ lt. absurd (omega (arith, lt))) (λ lt. absurd (omega (arith, lt))) (λ lt. absurd (omega (arith, lt)))) (λ h. false≢true (sym fails ∙ (numbered_law st.objects st.made).1 (h.names refl).numbered)))
        (λ t1. after1 t1)

  pub computed_verdict : IsVerdict names trace bytes (answer_to names trace bytes)
  computed_verdict =
      let laws = reader_laws names trace header in
      (elim (read_lines names trace (is_whole bytes) (Some (unread trace)) 1 (fed_lines bytes)) as (λ (r : Result Snap ℕ). read_lines names trace (is_whole bytes) (Some (unread trace)) 1 (fed_lines bytes) ≡ r → IsVerdict names trace bytes (verdict_of trace r)) [
        | Ok snap ↦ λ e. point_deserved snap (ok_is_spelled names trace laws bytes snap e)
        | Err n ↦ λ e. err_is_bad names trace laws bytes n e
      ]) refl
