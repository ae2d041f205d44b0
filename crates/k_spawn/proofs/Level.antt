-- Both machines between two operations, and that the same limits are used alike.
use Rattle.std.proofs.Common.{◌≡◌, ◌⊎◌, ◌∙◌, ℕ, ◌+◌, ◌-◌, ◌<◌, ◌≤◌, ◌==◌, ◌&&◌, nat_le, Bool, true, false, cond, List, [], ◌∷◌, ◌++◌, drop, filter, length, map, get_or, refl, sym, ap, ap₂, subst, arith, inl, inr, eq-eqb, eqb-true, false-eqb, IsTrue, IsFalse}
use Rattle.std.proofs.Math.Path.{fun_ext}
use Rattle.std.proofs.lemmas.Bool.{cases_Bool, cases_lt, false≢true, leb-true, or_parts}
use Rattle.std.proofs.lemmas.List.{get_or-drop, length-append}
use Rattle.k_types.specs.Totals.{total}
use Rattle.k_types.specs.declared.names.Name.{Name}
use Rattle.k_types.specs.declared.names.Heap.TheVariants.{Kernel}
use Rattle.k_types.specs.declared.names.Phase.{Phase}
use Rattle.k_types.specs.declared.setup.LimitRow.{LimitRow}
use Rattle.k_types.specs.declared.event.Event.{Event}
use Rattle.k_types.specs.Limits.{direct_by, full_limit, limits_in, use_of, use_within}
use Rattle.k_types.specs.Names.{among}
use Rattle.k_types.specs.Owners.{bytes_of, charge_by, charge_of, owner_of, owner_of_segment, phase_of, is_absorbed, shared, user}
use Rattle.k_types.specs.Sound.{IsSound}
use Rattle.k_types.specs.State.{Sharing, State, has, has_share}
use Rattle.k_types.specs.Steps.{IsLegalHistory, done_by, state_after}
use Rattle.k_types.specs.Trace.{Trace, limit_of, process_count}
use Rattle.k_types.specs.TraceRules.{AreLimits}
use Rattle.k_types.proofs.Maxima.{length_in}
use Rattle.k_laws.proofs.Exact.{same_below}
use Rattle.k_laws.proofs.Means.{is_own_if}
use Rattle.k_laws.proofs.SoundSharing.{bytes_none}
use Rattle.k_laws.proofs.SoundSteps.{legal_sound}
use Rattle.k_spawn.specs.Families.{IsFamily, children}
use Rattle.k_spawn.specs.Scripts.{Script, family, limit_for}
use Rattle.k_spawn.specs.Translation.{child_row, translation}
use Rattle.k_spawn.specs.Tree.{Tree, row_there, taken_out, trace_there}
use Rattle.k_spawn.proofs.ChildLimits.{AreLimited, given_length, limits_are}
use Rattle.k_spawn.proofs.Gathered.{processes_are}
use Rattle.k_spawn.proofs.ChildTree.{all_processes, child_limit, first_child, front}
use Rattle.k_spawn.proofs.Twins.{AreTwins, OwnsAlike, bytes_same, twin}
use Rattle.k_spawn.proofs.Unborn.{no_objects, unborn}
use Rattle.k_spawn.proofs.Weightless.{IsAlike, IsEither, alike_behind, full_same, use_same}

-- what holds of the header and the children
pub record IsPlaced (s : Script) : Type 0 where
  pub in_order : IsFamily (family s)
  pub limited : AreLimited s
  pub limits : AreLimits (translation s).trace

-- the state of the translation behind a history
abbrev pub now : Script → List Event → State
now s history = state_after (translation s).trace history

-- a child that is not there has the maximum 0, and has ended in both machines or did nothing yet; x is the state of the translation
pub record IsGone (s : Script) (t : Tree) (x : State) (history : List Event) (c : ℕ) : Type 0 where
  pub maximum : get_or x.maxima (limit_for s c) 0 ≡ 0
  pub over : (IsTrue (among c x.ended) × IsTrue (among c t.state.ended)) ⊎ (done_by c history ≡ [])

-- both machines have the same, but for what was counted and for who has ended among those who did nothing
pub record IsLevelAt (s : Script) (t : Tree) (x : State) (history : List Event) : Type 0 where
  pub legal : IsLegalHistory (translation s).trace history
  pub twins : AreTwins x t.state
  pub header : (q : ℕ) → q < first_child s → among q t.state.ended ≡ among q x.ended
  pub present : (c : ℕ) → first_child s ≤ c → c < all_processes s → IsTrue (among c t.there) → among c t.state.ended ≡ among c x.ended
  pub absent : (c : ℕ) → first_child s ≤ c → c < all_processes s → IsFalse (among c t.there) → IsGone s t x history c

abbrev pub IsLevel : Script → Tree → List Event → Type 0
IsLevel s t history = IsLevelAt s t (now s history) history

owner_agrees : (procs : ℕ) (ended others : List ℕ) (phases : List Phase) (seg : ℕ) → ((q : ℕ) → seg ≡ q + 1 → q < procs → among q ended ≡ among q others) →
    owner_of_segment procs ended phases seg ≡ owner_of_segment procs others phases seg
unfolding owner_of_segment
owner_agrees procs ended others phases seg agree = go (seg == 0) (nat_le seg procs) refl refl
  where
    go : (a b : Bool) → (seg == 0) ≡ a → nat_le seg procs ≡ b →
        cond a Kernel (cond b (cond (among (seg - 1) ended) Kernel (user (seg - 1))) (cond (is_absorbed (phase_of phases (seg - 1 - procs))) Kernel (shared (seg - 1 - procs))))
        ≡ cond a Kernel (cond b (cond (among (seg - 1) others) Kernel (user (seg - 1))) (cond (is_absorbed (phase_of phases (seg - 1 - procs))) Kernel (shared (seg - 1 - procs))))
    go true b e f = refl
    go false true e f =
        let some = false-eqb seg 0 (sym e) in
        let low = leb-true seg procs f in
        ap (λ t. cond t Kernel (user (seg - 1))) (agree (seg - 1) (omega (arith, some)) (omega (arith, some, low)))
    go false false e f = refl

none_shared : (q : ℕ) (shares : List Sharing) → ((t : ℕ) → IsFalse (has_share shares q t)) → filter (λ e. e.process == q) shares ≡ []
none_shared q [] none = refl
none_shared q (e ∷ shares) none =
    ap (λ b. cond b (e ∷ filter (λ d. d.process == q) shares) (filter (λ d. d.process == q) shares)) (apart (e.process == q) (or_parts _ _ (none e.heap)).0)
    ∙ none_shared q shares (λ t. (or_parts ((e.process == q) && (e.heap == t)) (has_share shares q t) (none t)).1)
  where
    apart : (b : Bool) → (b && (e.heap == e.heap)) ≡ false → b ≡ false
    apart false f = refl
    apart true f = absurd (false≢true (sym f ∙ eq-eqb e.heap e.heap refl))

module _ (s : Script) (placed : IsPlaced s) (t : Tree) (history : List Event) (level : IsLevel s t history) where
  abbrev a : Trace
  a = (translation s).trace

  abbrev b : Trace
  b = trace_there s t.there

  abbrev x : State
  x = now s history

  abbrev y : State
  y = twin (now s history) t.state.ended t.state.done

  pub sound : IsSound a x
  sound = legal_sound a history placed.limits level.legal

  pub known_in : (q : ℕ) → q < all_processes s → q < process_count a
  known_in q less = subst (λ n. q < n) (sym (processes_are s)) less

  -- whoever has ended in one machine alone did nothing
  pub who : (q : ℕ) → q < all_processes s → (among q t.state.ended ≡ among q x.ended) ⊎ (done_by q history ≡ [])
  who q less = elim (cases_lt q (first_child s)) [
    | inl low ↦ inl (level.header q low)
    | inr high ↦ elim (cases_Bool (among q t.there)) [
      | inl there ↦ inl (level.present q high less there)
      | inr gone ↦ over (level.absent q high less gone).over
    ]
  ]
    where
      over : (IsTrue (among q x.ended) × IsTrue (among q t.state.ended)) ⊎ (done_by q history ≡ []) → (among q t.state.ended ≡ among q x.ended) ⊎ (done_by q history ≡ [])
      over (inl both) = inl (both.1 ∙ sym both.0)
      over (inr nothing) = inr nothing

  pub alike : OwnsAlike a x t.state.ended
  alike = record {
    own = λ phases n there. owner_agrees (process_count a) t.state.ended x.ended phases n.seg.0 (λ q e less. same n there q e less (who q (subst (λ k. q < k) (processes_are s) less)));
    held = sound.no_dangling.registers;
    exits = sound.no_dangling.exits;
  }
    where
      same : (n : Name) → IsTrue (has x.objects n) → (q : ℕ) → n.seg.0 ≡ q + 1 → q < process_count a → (among q t.state.ended ≡ among q x.ended) ⊎ (done_by q history ≡ []) → among q t.state.ended ≡ among q x.ended
      same n there q e less (inl is) = is
      same n there q e less (inr nothing) = absurd (no_objects a q x sound (unborn a q history less nothing) n there e)

  -- whoever did nothing is charged nothing
  pub no_charge : (q : ℕ) → q < all_processes s → done_by q history ≡ [] → (ended : List ℕ) → charge_by (bytes_of a x) ended x.shares q ≡ 0
  no_charge q less nothing ended =
      let none = unborn a q history (known_in q less) nothing in
      let bytes : bytes_of a x (user q) ≡ 0 = bytes_none (owner_of a x) (user q) x.objects (λ n there e. no_objects a q x sound none n there (eqb-true _ _ (is_own_if a x q n e))) in
      ap₂ (λ n shares. cond (among q ended) 0 (n + total (λ e. bytes_of a x (shared e.heap)) shares)) bytes (none_shared q x.shares none.shares)
      ∙ zeros (among q ended)
    where
      zeros : (g : Bool) → cond g 0 (0 + 0) ≡ 0
      zeros true = refl
      zeros false = refl

  charges_same : (q : ℕ) → q < all_processes s → charge_of b y q ≡ charge_of a x q
  charges_same q less =
      ap (λ bytes. charge_by bytes t.state.ended x.shares q) (fun_ext (bytes_same a b.limits x t.state.ended t.state.done alike))
      ∙ go (who q less)
    where
      go : (among q t.state.ended ≡ among q x.ended) ⊎ (done_by q history ≡ []) → charge_by (bytes_of a x) t.state.ended x.shares q ≡ charge_of a x q
      go (inl same) = ap (λ g. cond g 0 (bytes_of a x (user q) + total (λ e. bytes_of a x (shared e.heap)) (filter (λ e. e.process == q) x.shares))) same
      go (inr nothing) = no_charge q less nothing t.state.ended ∙ sym (no_charge q less nothing x.ended)

  either : (i : ℕ) → i < length s.parents → IsEither (row_there s t.there) (child_row s) (first_child s + i) (get_or (drop (front s) x.maxima) i 0)
  either i less = elim (cases_Bool (among (first_child s + i) t.there)) [
    | inl there ↦ inl (ap (λ g. cond g (child_row s (first_child s + i)) taken_out) there)
    | inr gone ↦
        let low : first_child s ≤ first_child s + i = omega arith in
        let is = level.absent (first_child s + i) low (omega (arith, less)) gone in
        let place : first_child s + i - first_child s ≡ i = omega arith in
        let at : limit_for s (first_child s + i) ≡ front s + i = child_limit s (first_child s + i) low ∙ ap (λ n. front s + n) place in
        inr (ap (λ g. (cond g (child_row s (first_child s + i)) taken_out).hard) gone, refl, get_or-drop (front s) x.maxima i 0 ∙ ap (λ m. get_or x.maxima m 0) (sym at) ∙ is.maximum)
  ]

  rows_alike : (c : ℕ) → IsAlike (limits_in b y) (limits_in a x) c
  rows_alike c = alike_behind s.header.trace.limits (row_there s t.there) (child_row s) (first_child s) (length s.parents) x.maxima (sound.shape.sized.maxima ∙ limits_are s) either c

  rows_long : length (limits_in b y) ≡ length (limits_in a x)
  rows_long = length_in b.limits x.maxima ∙ given_rows (row_there s t.there) ∙ sym (given_rows (child_row s)) ∙ sym (length_in a.limits x.maxima)
    where
      given_rows : (g : ℕ → LimitRow) → length (s.header.trace.limits ++ map g (children (family s))) ≡ front s + length s.parents
      given_rows g = length-append s.header.trace.limits (map g (children (family s))) ∙ ap (λ n. front s + n) (given_length g s (length s.parents))

  pub uses_same : (m : ℕ) → use_of b y m ≡ use_of a x m
  uses_same m =
      ap (λ d. use_within (limits_in b y) d (length (limits_in b y)) m) (fun_ext directs)
      ∙ ap (λ n. use_within (limits_in b y) (direct_by a (charge_of a x)) n m) rows_long
      ∙ use_same (limits_in b y) (limits_in a x) rows_long rows_alike (direct_by a (charge_of a x)) (length (limits_in a x)) m
    where
      directs : (k : ℕ) → direct_by b (charge_of b y) k ≡ direct_by a (charge_of a x) k
      directs k = same_below (λ p. limit_of a p == k) (charge_of b y) (charge_of a x) 0 (process_count a) (λ q less here. charges_same q (subst (λ n. q < n) (processes_are s) (omega (arith, less))))

  -- the same limits are full
  pub fits : (m n : ℕ) → full_limit b y m n ≡ full_limit a x m n
  fits m n = full_same (limits_in b y) (limits_in a x) rows_long rows_alike (use_of a x) (use_of b y) uses_same m n
