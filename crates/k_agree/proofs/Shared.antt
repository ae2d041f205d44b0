-- Which shares the end of a collection drops, by what is left after the sweep.
use Rattle.std.proofs.Common.{◌≡◌, ℕ, ◌==◌, ◌||◌, ◌&&◌, not, Bool, true, false, cond, refl, sym, ap, ap₂, ◌∙◌, inl, inr, List, [], ◌∷◌, filter, count_by, Option, Some, None, eq-eqb}
use Rattle.std.specs.List.{list_any}
use Rattle.std.proofs.lemmas.Bool.{or_cases, or_left, or_right, and_from, and_parts, false≢true}
use Rattle.k_laws.specs.k_types.declared.names.CellPhase.TheVariants.{Marked}
use Rattle.k_laws.specs.k_types.declared.names.Heap.{Heap}
use Rattle.k_laws.specs.k_types.declared.names.Heap.TheVariants.{Kernel}
use Rattle.k_laws.specs.k_types.declared.names.Name.{Name}
use Rattle.k_laws.specs.k_types.Agree.{BookValue, CellValue}
use Rattle.k_laws.specs.k_types.Cells.{BookPart, ShownPart, part, book_part}
use Rattle.k_laws.specs.k_types.Effects.{exit_stays, share_stays, open_roots, register_lies_in, registers_of, lies_in}
use Rattle.k_laws.specs.k_types.Names.{heap_eq, name_eq, name_among}
use Rattle.k_laws.specs.k_types.Numbers.{numbers_below}
use Rattle.k_laws.specs.k_types.Owners.{owner_of, user, shared, phase_of}
use Rattle.k_laws.specs.k_types.Replies.{is_populating}
use Rattle.k_laws.specs.k_types.Sound.{IsSound}
use Rattle.k_laws.specs.k_types.State.{State, ExitItem, Sharing, has_exit, has_share, refers}
use Rattle.k_laws.specs.k_types.Steps.{MayEnd}
use Rattle.k_laws.specs.k_types.Totals.{total}
use Rattle.k_laws.specs.k_types.Trace.{Trace}
use Rattle.k_tie.proofs.NameTests.{name_eq-true, name_eq_refl, heap_eq_refl}
use Rattle.k_tie.proofs.Sums.{bit, sum_same, sum-filter, zeros, count_is_total, not_or_bit}
use Rattle.k_tie.proofs.Tests.{same_test}
use Rattle.k_laws.proofs.Means.{reach_is}
use Rattle.k_laws.proofs.Turned.{some_element}
use Rattle.k_laws.specs.k_types.Distinct.{AreDistinctNames}
use Rattle.k_laws.specs.BookChanges.{has_way_into, leads_into, registers_in}
use Rattle.k_laws.proofs.SharedSums.{shares_sum}
use Rattle.k_laws.proofs.WaysInto.{share_stays_so}
use Rattle.k_agree.specs.Agreement.{Shows, BookShows}
use Rattle.k_agree.specs.Ending.{keeps_way, dropped_shares, freed_objects, freed_bytes, dropped_exits, TellsItsShares}
use Rattle.k_agree.proofs.Swept.{among_kept, marks, reached, reached_state, exits_are, black_exit, shows_end}
use Rattle.k_tie.proofs.Lists.{any_same}

-- a test that one name of the list passes
pub among_any : (g : Name → Bool) (xs : List Name) (n : Name) → name_among n xs ≡ true → g n ≡ true → list_any g xs ≡ true
among_any g [] n t u = absurd (false≢true t)
among_any g (x ∷ xs) n t u =
    elim (or_cases (name_eq x n) (name_among n xs) t) [
      | inl here ↦ or_left (g x) (list_any g xs) (ap g (name_eq-true x n here) ∙ u)
      | inr there ↦ or_right (g x) (list_any g xs) (among_any g xs n there u)
    ]

or_given : (a b : Bool) → a ≡ true → (not a || b) ≡ b
or_given true b t = refl
or_given false b t = absurd (false≢true t)

register_same : (trace : Trace) (st : State) (t : ℕ) (r : Option Name) → leads_into (owner_of trace st) t r ≡ register_lies_in trace st t r
register_same trace st t None = refl
register_same trace st t (Some n) = refl

module _ (trace : Trace) (st : State) (p : ℕ) (value : CellValue) (book : BookValue) (sound : IsSound trace st) (seen : BookShows trace st book) (shows : Shows trace st (user p) value)
    (phase : value.collection ≡ Marked) (distinct : AreDistinctNames value.exits) where
  here : List Rattle.k_laws.specs.k_types.State.Object
  here = reached trace st (user p) value sound shows phase distinct

  left : List Name
  left = filter (λ m. name_among m value.black_exits) value.exits

  left_is : (n : Name) → name_among n left ≡ (has_exit st.exits (user p) n && list_any (λ x. refers x n) here)
  unfolding left here
  left_is n =
      among_kept (λ m. name_among m value.black_exits) value.exits n
      ∙ ap (λ b. b && name_among n value.black_exits) (exits_are trace st (user p) value sound shows phase distinct n)
      ∙ black_exit trace st (user p) value sound shows phase distinct n

  stays_is : (e : ExitItem) → exit_stays trace st (user p) e ≡ (not (heap_eq e.heap (user p)) || list_any (λ x. refers x e.target) here)
  unfolding exit_stays here
  stays_is e = ap (λ set. not (heap_eq e.heap (user p)) || list_any (λ x. refers x e.target) set) (reach_is trace st (user p) (open_roots st (user p)) ∙ reached_state trace st (user p) value sound shows phase distinct)

  item_into : ℕ → ExitItem → Bool
  item_into t x = heap_eq x.heap (user p) && lies_in trace st t x.target && exit_stays trace st (user p) x

  into_left : (t : ℕ) → list_any (item_into t) st.exits ≡ true → list_any (λ n. heap_eq (owner_of trace st n.seg.0) (shared t)) left ≡ true
  unfolding item_into
  into_left t e =
      let x = some_element (item_into t) st.exits e in
      let one = and_parts (heap_eq x.0.heap (user p) && lies_in trace st t x.0.target) (exit_stays trace st (user p) x.0) x.1 in
      let two = and_parts (heap_eq x.0.heap (user p)) (lies_in trace st t x.0.target) one.0 in
      let listed : has_exit st.exits (user p) x.0.target ≡ true = x.2 (λ e. heap_eq e.heap (user p) && name_eq e.target x.0.target) (and_from _ _ two.0 (name_eq_refl x.0.target)) in
      let referred : list_any (λ y. refers y x.0.target) here ≡ true =
      sym (or_given (heap_eq x.0.heap (user p)) (list_any (λ y. refers y x.0.target) here) two.0) ∙ sym (stays_is x.0) ∙ one.1 in
      among_any (λ n. heap_eq (owner_of trace st n.seg.0) (shared t)) left x.0.target (left_is x.0.target ∙ and_from _ _ listed referred) two.1

  left_into : (t : ℕ) → list_any (λ n. heap_eq (owner_of trace st n.seg.0) (shared t)) left ≡ true → list_any (item_into t) st.exits ≡ true
  unfolding item_into
  left_into t e =
      let n = some_element (λ n. heap_eq (owner_of trace st n.seg.0) (shared t)) left e in
      let both = and_parts (has_exit st.exits (user p) n.0) (list_any (λ x. refers x n.0) here) (sym (left_is n.0) ∙ n.2 (λ m. name_eq m n.0) (name_eq_refl n.0)) in
      let x = some_element (λ e. heap_eq e.heap (user p) && name_eq e.target n.0) st.exits both.0 in
      let is = and_parts (heap_eq x.0.heap (user p)) (name_eq x.0.target n.0) x.1 in
      let same : x.0.target ≡ n.0 = name_eq-true x.0.target n.0 is.1 in
      x.2 (item_into t) (and_from _ _
      (and_from _ _ is.0 (ap (λ (m : Name). heap_eq (owner_of trace st m.seg.0) (shared t)) same ∙ n.1))
      (stays_is x.0 ∙ or_right (not (heap_eq x.0.heap (user p))) _ (ap (λ m. list_any (λ y. refers y m) here) same ∙ both.1)))

  registers_are : registers_in value.process ≡ registers_of st p
  unfolding part
  registers_are = ap (λ (s : ShownPart). registers_in s.process) shows.part

  phases_are : book.phases ≡ st.phases
  unfolding book_part
  phases_are = ap (λ (b : BookPart). b.phases) seen.part

  shares_are : (t : ℕ) → has_share book.shares p t ≡ has_share st.shares p t
  unfolding book_part
  shares_are t = ap (λ (b : BookPart). b.shares p t) seen.part

  stays_by_way : (t : ℕ) → keeps_way (owner_of trace st) book value p t ≡ share_stays trace st (user p) (record { process = p; heap = t })
  unfolding share_stays left item_into
  stays_by_way t =
      ap₂ (λ a b. a || b || is_populating (phase_of book.phases t) p)
      (ap (list_any (leads_into (owner_of trace st) t)) registers_are ∙ any_same (leads_into (owner_of trace st) t) (register_lies_in trace st t) (register_same trace st t) (registers_of st p))
      (same_test _ _ (left_into t) (into_left t))
      ∙ ap (λ phases. list_any (register_lies_in trace st t) (registers_of st p) || list_any (item_into t) st.exits || is_populating (phase_of phases t) p) phases_are
      ∙ ap (λ b. b || list_any (item_into t) st.exits || is_populating (phase_of st.phases t) p)
      (sym (or_given (heap_eq (user p) (user p)) (list_any (register_lies_in trace st t) (registers_of st p)) (heap_eq_refl (user p))))

  pub ways : (t : ℕ) → keeps_way (owner_of trace st) book value p t ≡ has_way_into (owner_of trace st) (book_part trace st) (part trace st (user p)) p t
  ways t =
      stays_by_way t
      ∙ share_stays_so trace st sound p (marks trace st (user p) value sound shows phase distinct).0 (marks trace st (user p) value sound shows phase distinct).1 t p
      ∙ or_given (p == p) (has_way_into (owner_of trace st) (book_part trace st) (part trace st (user p)) p t) (eq-eqb p p refl)

  lost_bit : (b : Bool) → cond b 0 1 ≡ bit (not b)
  lost_bit true = refl
  lost_bit false = refl

  no_way : ℕ → ℕ
  no_way t = bit (not (has_way_into (owner_of trace st) (book_part trace st) (part trace st (user p)) p t))

  shares_told : count_by (λ e. not (share_stays trace st (user p) e)) st.shares ≡ total (λ t. cond (has_share st.shares p t) (no_way t) 0) (numbers_below trace.shared_heaps)
  unfolding no_way
  shares_told =
      count_is_total (λ e. not (share_stays trace st (user p) e)) st.shares
      ∙ sum_same (λ e. bit (not (share_stays trace st (user p) e))) (λ (e : Sharing). cond (e.process == p) (no_way e.heap) 0)
      (λ e. ap (λ b. bit (not b)) (share_stays_so trace st sound p (marks trace st (user p) value sound shows phase distinct).0 (marks trace st (user p) value sound shows phase distinct).1 e.heap e.process)
      ∙ not_or_bit (e.process == p) (has_way_into (owner_of trace st) (book_part trace st) (part trace st (user p)) p e.heap)) st.shares
      ∙ sym (sum-filter (λ (e : Sharing). e.process == p) (λ (e : Sharing). no_way e.heap) st.shares)
      ∙ shares_sum no_way p trace.shared_heaps st.shares sound.shape.distinct_shares sound.shape.known.shared

  shares_go : dropped_shares trace (owner_of trace st) book value p ≡ count_by (λ e. not (share_stays trace st (user p) e)) st.shares
  unfolding no_way
  shares_go =
      sum_same (λ t. cond (has_share book.shares p t) (cond (keeps_way (owner_of trace st) book value p t) 0 1) 0)
      (λ t. cond (has_share st.shares p t) (no_way t) 0)
      (λ t. ap₂ (λ has n. cond has n 0) (shares_are t) (lost_bit (keeps_way (owner_of trace st) book value p t) ∙ ap (λ b. bit (not b)) (ways t)))
      (numbers_below trace.shared_heaps)
      ∙ sym shares_told

  pub tells_shares : TellsItsShares trace st p value book
  tells_shares =
      let end = shows_end trace st (user p) value sound shows phase distinct in
      record {
        ways = ways;
        shares = shares_go;
        possible = record {
          scanned = end.scanned;
          objects_gone = end.objects;
          bytes_gone = end.bytes;
          exits_gone = end.exits;
          shares_gone = shares_go;
        };
      }

none_go : (trace : Trace) (st : State) (h : Heap) → ((e : Sharing) → not (share_stays trace st h e) ≡ false) → 0 ≡ count_by (λ e. not (share_stays trace st h e)) st.shares
none_go trace st h stays =
    sym (count_is_total (λ e. not (share_stays trace st h e)) st.shares
    ∙ sum_same (λ e. bit (not (share_stays trace st h e))) (λ e. 0) (λ e. ap bit (stays e)) st.shares
    ∙ zeros st.shares)

pub kernel_ends : (trace : Trace) (st : State) (value : CellValue) → IsSound trace st → Shows trace st Kernel value → value.collection ≡ Marked → AreDistinctNames value.exits →
    MayEnd trace st Kernel (freed_objects value) (freed_bytes value) (dropped_exits value) 0
unfolding share_stays
kernel_ends trace st value sound shows phase distinct =
    let end = shows_end trace st Kernel value sound shows phase distinct in
    record {
      scanned = end.scanned;
      objects_gone = end.objects;
      bytes_gone = end.bytes;
      exits_gone = end.exits;
      shares_gone = none_go trace st Kernel (λ e. refl);
    }
