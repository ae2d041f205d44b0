-- A charge goes to the limit of the process, and the book tells whether it fits.
use Rattle.std.proofs.Common.{◌≡◌, ◌<◌, ◌+◌, ℕ, sym, ap, subst, ◌∙◌, length, replicate, slice_index, slice_index_or, slice_set, List, None, Some, Result, Ok, Err, IfErr, IfOk}
use Rattle.k_types.specs.declared.names.LimitId.{LimitId}
use Rattle.k_types.specs.Agree.{book_shown_by}
use Rattle.k_types.specs.Cells.{BookPart}
use Rattle.k_types.specs.Replies.{limit_fault}
use Rattle.k_types.specs.State.{State}
use Rattle.k_types.specs.Steps.{state_after}
use Rattle.k_types.specs.Trace.{Trace, limit_of}
use Rattle.k_types.proofs.Maxima.{length_in}
use Rattle.k_limits.specs.Limits.{full_at}
use Rattle.k_book.specs.Books.{BookRecord, book_limits}
use Rattle.k_book.proofs.Telling.{tells_limits}
use Rattle.k_book.specs.k_laws.Told.{full_limit_in}
use Rattle.k_book.proofs.ToldBy.{limit_told}
use Rattle.k_agree.specs.Answers.{size_fault_in}
use Rattle.k_commit.specs.Charging.{CanCharge, HasCharged, IsFullFor}

module _ (trace : Trace) (b : BookRecord) (p : ℕ) (can : CanCharge trace b p) where
  abbrev now : State
  now = state_after trace b.journal.list

  pub limit_is : (slice_index_or b.procs p (record { 0 = 0 })).0 ≡ limit_of trace p
  limit_is = ap (λ (procs : List LimitId). (slice_index_or procs p (record { 0 = 0 })).0) can.stands.of_trace.procs

  pub limit_inside : limit_of trace p < length b.rows
  limit_inside =
      subst (λ n. limit_of trace p < n) (sym (ap length can.stands.of_trace.rows ∙ length_in trace.limits (replicate (length trace.limits) 0)))
      (can.stands.keeps.limits.limited p can.known)

  full_told : (bytes : ℕ) → limit_fault (full_at (book_limits b) (limit_of trace p) bytes) ≡ size_fault_in trace (book_shown_by b.value) p bytes
  unfolding size_fault_in
  full_told bytes =
      let limits = can.stands.keeps.limits in
      let inside = limits.limited p can.known in
      ap limit_fault
      ((tells_limits trace now b can.stands.agrees.shows limits.tree can.stands.of_trace).full (limit_of trace p) bytes inside
      ∙ sym (limit_told trace limits now (limit_of trace p) bytes inside)
      ∙ ap (λ (k : BookPart). full_limit_in trace k (limit_of trace p) bytes) (sym can.stands.agrees.shows.part))

  process_charged : (k : BookRecord) (bytes m : ℕ) → m ≡ limit_of trace p →
      k ≡ record b { value = record b.value { direct = slice_set b.value.direct m (slice_index b.value.direct m + bytes) } } →
      full_at (book_limits b) m bytes ≡ None → HasCharged trace b k p bytes
  process_charged k bytes m at is fits = record {
    book_is = is ∙ ap (λ (direct : List ℕ). record b { value = record b.value { direct = direct } }) (sym (ap (λ (l : BookRecord). l.value.direct) is));
    charged =
        ap (λ (l : BookRecord). book_shown_by l.value) is
        ∙ ap (λ n. book_shown_by (record b.value { direct = slice_set b.value.direct n (slice_index b.value.direct n + bytes) })) at;
    fits = sym (full_told bytes) ∙ ap limit_fault (ap (λ n. full_at (book_limits b) n bytes) (sym at) ∙ fits);
  }

  process_full : (k : BookRecord) (bytes m : ℕ) (limit : LimitId) → m ≡ limit_of trace p → k ≡ b →
      full_at (book_limits b) m bytes ≡ Some limit.0 → IsFullFor trace b k p bytes limit
  process_full k bytes m limit at is full = record {
    book_is = is;
    full = sym (full_told bytes) ∙ ap limit_fault (ap (λ n. full_at (book_limits b) n bytes) (sym at) ∙ full);
  }

  -- what the book's charge answers is what a charge of the process does
  module _ (k : BookRecord) (bytes m : ℕ) (at : m ≡ limit_of trace p) where
    pub if_charged : (r : Result (Unit {0}) LimitId) →
        IfOk r (λ _. (k ≡ record b { value = record b.value { direct = slice_set b.value.direct m (slice_index b.value.direct m + bytes) } }) × (full_at (book_limits b) m bytes ≡ None)) →
        IfOk r (λ _. HasCharged trace b k p bytes)
    if_charged (Ok done) h = process_charged k bytes m at h.0 h.1
    if_charged (Err limit) h = h

    pub if_full : (r : Result (Unit {0}) LimitId) →
        IfErr r (λ limit. (k ≡ b) × (full_at (book_limits b) m bytes ≡ Some limit.0)) → IfErr r (λ limit. IsFullFor trace b k p bytes limit)
    if_full (Ok done) h = h
    if_full (Err limit) h = process_full k bytes m limit at h.0 h.1
