-- What a book that shows a state tells of it.
use Rattle.std.proofs.Common.{◌≡◌, ℕ, ◌+◌, ◌<◌, ◌&&◌, not, Bool, List, map, length, find, refl, ap, ◌∙◌, arith, slice_index, slice_index_or, cond, nat_lt, true, false, ◌-◌, ap₂, Option, Some, None, replicate}
use Rattle.std.proofs.Math.Path.{fun_ext}
use Rattle.std.proofs.lemmas.List.{length-replicate}
use Rattle.atomic_table.specs.Seated.{TableId}
use Rattle.k_types.specs.declared.names.Heap.{Heap}
use Rattle.k_types.specs.declared.names.Heap.TheVariants.{Kernel}
use Rattle.k_types.specs.declared.names.Phase.{Phase}
use Rattle.k_types.specs.declared.op.Op.{Op}
use Rattle.k_types.specs.declared.setup.LimitRow.{LimitRow}
use Rattle.k_types.specs.declared.setup.Setup.{Setup}
use Rattle.k_types.specs.Cells.{BookPart, book_part}
use Rattle.k_types.specs.Limits.{ancestors_of, direct_by, limits_in, max_of, with_maxima, full_for, full_above}
use Rattle.k_types.specs.Names.{among}
use Rattle.k_types.specs.Numbers.{numbers_below}
use Rattle.k_types.specs.Owners.{bytes_of, charge_of, owner_of, phase_of, shared}
use Rattle.k_types.specs.State.{State, has_share}
use Rattle.k_types.specs.Steps.{has_sharer, is_live, is_orphan}
use Rattle.k_types.specs.Trace.{Trace, segment_count, trace_of, row_of}
use Rattle.k_types.specs.TraceRules.{IsTree}
use Rattle.k_types.proofs.Ancestors.{ancestors_in}
use Rattle.k_types.proofs.Maxima.{hard_in, maxima_count, parent_in, twice_in}
use Rattle.k_limits.specs.Laws.{AreCharges}
use Rattle.k_limits.specs.Limits.{charged_limits, full_at, use_at, is_full_at}
use Rattle.k_limits.proofs.MachineUses.{machine_fulls, machine_uses}
use Rattle.k_agree.specs.k_tie.Values.{empty_journal}
use Rattle.k_agree.specs.Agreement.{BookAgrees, BookShows}
use Rattle.k_agree.proofs.Openings.{opened_book}
use Rattle.k_shares.specs.Sharers.{is_orphan_by, lowest_orphan}
use Rattle.k_book.specs.Books.{BookRecord, opened}
use Rattle.k_book.specs.Machine.{IsBookOf, TellsTheMachine, TellsTheLimits}
use Rattle.k_limits.specs.Resizes.{full_for_at}
use Rattle.k_limits.specs.Paths.{path_from}
use Rattle.k_types.specs.declared.names.LimitId.{LimitId}
use Rattle.k_types.proofs.Lists.{at_number}
use Rattle.k_types.proofs.Shares.{sharers_same}

-- the element of a number below the bound
at_below : {A : Type 0} (f : ℕ → A) (n k : ℕ) (d : A) → k < n → slice_index_or (map f (numbers_below n)) k d ≡ f k
at_below f n k d inside = let same : 0 + k ≡ k = omega arith in at_number f 0 n k d inside ∙ ap f same

module _ (trace : Trace) (st : State) (b : BookRecord) (shows : BookShows trace st b.value) where
  shares_same : (p s : ℕ) → has_share b.value.shares p s ≡ has_share st.shares p s
  unfolding book_part
  shares_same p s = ap (λ (part : BookPart). part.shares p s) shows.part

  phases_same : b.value.phases ≡ st.phases
  unfolding book_part
  phases_same = ap (λ (part : BookPart). part.phases) shows.part

  orphans_same : (s : ℕ) → is_orphan_by b.value.phases b.value.shares s ≡ is_orphan st s
  orphans_same s =
      ap (λ (phases : List Phase). is_live (phase_of phases s) && not (has_sharer b.value.shares s)) phases_same
      ∙ ap (λ t. is_live (phase_of st.phases s) && not t) (sharers_same b.value.shares st.shares shares_same s)

  lowest_same : length st.phases ≡ trace.shared_heaps → lowest_orphan b.value.phases b.value.shares ≡ find (is_orphan st) (numbers_below trace.shared_heaps)
  lowest_same sized =
      ap (λ (test : ℕ → Bool). find test (numbers_below (length b.value.phases))) (fun_ext orphans_same)
      ∙ ap (λ n. find (is_orphan st) (numbers_below n)) (ap length phases_same ∙ sized)

  pub tells : TellsTheMachine trace st b
  unfolding book_part
  tells = record {
    owner = λ seg inside.
        ap (λ (homes : List Heap). slice_index_or homes seg Kernel) shows.homes ∙ at_below (owner_of trace st) (segment_count trace) seg Kernel inside;
    ended = λ p. ap (λ (part : BookPart). part.ended p) shows.part;
    closed = ap (λ (part : BookPart). part.closed) shows.part;
    shares = shares_same;
    phase = λ s. ap (λ (phases : List Phase). phase_of phases s) phases_same;
    bytes = λ s inside.
        ap (λ (part : BookPart). slice_index part.shared_bytes s) shows.part
        ∙ at_below (λ t. bytes_of trace st (shared t)) trace.shared_heaps s 0 inside;
    entries = λ n. ap (λ (part : BookPart). part.entries n) shows.part;
    pins = λ n. ap (λ (part : BookPart). part.pins n) shows.part;
    orphan = lowest_same;
  }

  charges : AreCharges trace st b.value.direct
  unfolding book_part
  charges = λ m inside.
      ap (λ (part : BookPart). slice_index part.direct m) shows.part
      ∙ at_below (direct_by trace (charge_of trace st)) (length trace.limits) m 0 inside

  rows_are : IsBookOf trace b → with_maxima b.rows b.value.maxima ≡ limits_in trace st
  unfolding book_part
  rows_are is =
      let maxima : b.value.maxima ≡ st.maxima = ap (λ (part : BookPart). part.maxima) shows.part in
      ap (λ (rows : List LimitRow). with_maxima rows b.value.maxima) is.rows
      ∙ twice_in trace.limits (replicate (length trace.limits) 0) b.value.maxima (length-replicate (length trace.limits) 0) is.maxima
      ∙ ap (with_maxima trace.limits) maxima

  -- the limit that is full where another maximum is asked for
  grown : IsTree trace.limits → (rows : List LimitRow) → rows ≡ limits_in trace st → (m max : ℕ) → m < length trace.limits →
      full_for_at (charged_limits rows b.value.direct) m max ≡ full_for trace st m max
  grown tree rows is m max inside =
      ap (λ (rs : List LimitRow). full_for_at (charged_limits rs b.value.direct) m max) is
      ∙ ap₂ (λ h o. cond (nat_lt (max_of (limits_in trace st) m) max) (find (is_full_at (charged_limits (limits_in trace st) b.value.direct) (max - max_of (limits_in trace st) m)) (path_from (limits_in trace st) (cond h o None))) None)
      (hard_in trace.limits st.maxima m) (parent_in trace.limits st.maxima m)
      ∙ go (row_of trace.limits m).hard (row_of trace.limits m).parent refl (nat_lt (max_of (limits_in trace st) m) max)
    where
      go : (hard : Bool) (parent : Option LimitId) → (row_of trace.limits m).parent ≡ parent → (more : Bool) →
          cond more (find (is_full_at (charged_limits (limits_in trace st) b.value.direct) (max - max_of (limits_in trace st) m)) (path_from (limits_in trace st) (cond hard parent None))) None
          ≡ cond (hard && more) (full_above trace st parent (max - max_of (limits_in trace st) m)) None
      go true None e true = refl
      go true (Some r) e true = let lower = tree m r inside e in machine_fulls trace st b.value.direct tree charges r.0 (max - max_of (limits_in trace st) m) (omega (arith, lower, inside))
      go true parent e false = refl
      go false parent e true = refl
      go false parent e false = refl

  pub tells_limits : IsTree trace.limits → IsBookOf trace b → TellsTheLimits trace st b
  tells_limits tree is = record {
    max = λ m. ap (λ (rows : List LimitRow). max_of rows m) (rows_are is);
    uses = λ m inside.
        ap (λ (rows : List LimitRow). use_at (charged_limits rows b.value.direct) m) (rows_are is)
        ∙ machine_uses trace st b.value.direct charges m inside;
    full = λ m n inside.
        ap (λ (rows : List LimitRow). full_at (charged_limits rows b.value.direct) m n) (rows_are is)
        ∙ machine_fulls trace st b.value.direct tree charges m n inside;
    below = λ upper lower.
        ap (λ (rows : List LimitRow). among upper (ancestors_of rows lower)) is.rows
        ∙ ap (among upper) (ancestors_in trace.limits (replicate (length trace.limits) 0) lower);
    full_for = λ m max inside. grown tree (with_maxima b.rows b.value.maxima) (rows_are is) m max inside;
  }

-- a book that was just made is of its trace
pub opened_of : (setup : Setup) (operations : List (List Op)) (order : List ℕ) (exits events kept : ℕ) (table : TableId) →
    IsBookOf (trace_of setup operations order) (opened setup exits events kept (empty_journal table))
opened_of setup operations order exits events kept table = record { rows = refl; procs = refl; ceiling = refl; maxima = maxima_count setup.limits.items }

-- and agrees with the empty journal
pub opened_agrees : (setup : Setup) (operations : List (List Op)) (order : List ℕ) (exits events kept : ℕ) (table : TableId) →
    BookAgrees (trace_of setup operations order) (empty_journal table) (opened setup exits events kept (empty_journal table)).value
opened_agrees setup operations order exits events kept table = opened_book (trace_of setup operations order) table
