-- What the book tells of limits below a process's, and what another maximum of one is to the machine.
use Rattle.std.proofs.Common.{◌≡◌, ◌<◌, ◌≤◌, ◌&&◌, ℕ, zero, suc, not, nat_lt, Bool, true, false, cond, refl, sym, ap, ap₂, subst, ◌∙◌, List, [], ◌∷◌, length, replicate, slice_index_or, slice_set, Option, Some, None, is_some, arith}
use Rattle.std.proofs.lemmas.Bool.{false≢true, le-ltb, lt-ltb}
use Rattle.k_types.specs.declared.event.Fault.TheVariants.{InUse, LimitNotBelow}
use Rattle.k_types.specs.declared.event.Reply.{Reply}
use Rattle.k_types.specs.declared.event.Reply.TheVariants.{Done as DoneReply, Refused}
use Rattle.k_types.specs.declared.names.LimitId.{LimitId}
use Rattle.k_types.specs.declared.names.Pid.{Pid}
use Rattle.k_types.specs.declared.op.Op.TheVariants.{Resize}
use Rattle.k_types.specs.declared.setup.LimitRow.{LimitRow}
use Rattle.k_types.specs.Agree.{book_shown_by}
use Rattle.k_types.specs.Cells.{BookPart, Cell, CellPart, use_shown}
use Rattle.k_types.specs.Limits.{ancestors_above, ancestors_of, ancestors_within, full_above, limits_in, max_of}
use Rattle.k_types.specs.Names.{among}
use Rattle.k_types.specs.Replies.{fault_where, first_fault, limit_fault, may_resize, refused_or}
use Rattle.k_types.specs.Sound.{IsSound}
use Rattle.k_types.specs.State.{State}
use Rattle.k_types.specs.Steps.{state_after}
use Rattle.k_types.specs.Trace.{Trace, limit_of, row_of}
use Rattle.k_types.proofs.Ancestors.{ancestors_in}
use Rattle.k_types.proofs.Maxima.{length_in, parent_in}
use Rattle.k_book.proofs.SoundSteps.{legal_sound}
use Rattle.k_book.specs.k_laws.Told.{full_for_in}
use Rattle.k_book.proofs.ToldBy.{full_for_told}
use Rattle.k_limits.specs.declared.error.ResizeRefusal.{ResizeRefusal}
use Rattle.k_limits.specs.declared.error.ResizeRefusal.TheVariants.{InUse as UsedUp, Full}
use Rattle.k_limits.specs.Limits.{use_at}
use Rattle.k_limits.specs.Resizes.{ExplainsResize, full_for_at}
use Rattle.k_agree.specs.Answers.{answer_in, faults_in, reply_in}
use Rattle.k_book.specs.Books.{BookRecord, book_limits}
use Rattle.k_book.specs.Machine.{IsBookOf, TellsTheLimits}
use Rattle.k_book.proofs.Telling.{tells_limits}
use Rattle.k_commit.specs.Resizing.{CanCompare, CanResize, HasResized, refused_by}
use Rattle.k_book.proofs.UseShown.{use_is_shown}

-- a limit with an ancestor has a parent
some_parent : (rows : List LimitRow) (depth m q : ℕ) → among q (ancestors_within rows depth m) ≡ true → is_some (row_of rows m).parent ≡ true
unfolding ancestors_within
some_parent rows zero m q there = absurd (false≢true there)
some_parent rows (suc depth) m q there = go (row_of rows m).parent there
  where
    go : (parent : Option LimitId) → among q (ancestors_above (ancestors_within rows depth) parent) ≡ true → is_some parent ≡ true
    go None t = absurd (false≢true t)
    go (Some r) t = refl

-- the limits above a limit, as the book has them
module _ (trace : Trace) (b : BookRecord) (p m : ℕ) (can : CanCompare trace b p m) where
  pub process_there : p < length b.procs
  process_there = subst (λ (procs : List LimitId). p < length procs) (sym can.of_trace.procs) can.known

  pub limit_there : m < length b.rows
  limit_there = subst (λ n. m < n) (sym (ap length can.of_trace.rows ∙ length_in trace.limits (replicate (length trace.limits) 0))) can.limit

  pub below_is : (l : LimitId) → l ≡ slice_index_or b.procs p (record { 0 = 0 }) → among l.0 (ancestors_of b.rows m) ≡ may_resize trace p m
  below_is l is =
      ap (λ (x : LimitId). among x.0 (ancestors_of b.rows m)) (is ∙ ap (λ (procs : List LimitId). slice_index_or procs p (record { 0 = 0 })) can.of_trace.procs)
      ∙ ap (λ (rows : List LimitRow). among (limit_of trace p) (ancestors_of rows m)) can.of_trace.rows
      ∙ ap (among (limit_of trace p)) (ancestors_in trace.limits (replicate (length trace.limits) 0) m)

  pub parent_there : may_resize trace p m ≡ true → is_some (row_of b.rows m).parent ≡ true
  parent_there may =
      ap (λ (rows : List LimitRow). is_some (row_of rows m).parent) can.of_trace.rows
      ∙ ap is_some (parent_in trace.limits (replicate (length trace.limits) 0) m)
      ∙ some_parent trace.limits (length trace.limits) m (limit_of trace p) may

-- the limit of a process, as the book has it
pub other_limit : (trace : Trace) (b : BookRecord) (q : ℕ) → IsBookOf trace b → (l : LimitId) → l ≡ slice_index_or b.procs q (record { 0 = 0 }) → l.0 ≡ limit_of trace q
other_limit trace b q of_trace l is = ap (λ (x : LimitId). x.0) is ∙ ap (λ (procs : List LimitId). (slice_index_or procs q (record { 0 = 0 })).0) of_trace.procs

module _ (trace : Trace) (b : BookRecord) (p : Pid) (m : LimitId) (max : ℕ) (can : CanResize trace b p.0 m.0 max) where
  abbrev now : State
  now = state_after trace b.journal.list

  abbrev shown : BookPart
  shown = book_shown_by b.value

  pub can_compare : CanCompare trace b p.0 m.0
  can_compare = record { of_trace = can.stands.of_trace; known = can.known; limit = can.limit }

  told : TellsTheLimits trace now b
  told = tells_limits trace now b can.stands.agrees.shows can.stands.keeps.limits.tree can.stands.of_trace

  sound : IsSound trace now
  sound = legal_sound trace b.journal.list can.stands.keeps.limits can.stands.agrees.legal

  full_is : full_for_at (book_limits b) m.0 max ≡ full_for_in trace shown m.0 max
  full_is =
      told.full_for m.0 max can.limit ∙ sym (full_for_told trace can.stands.keeps.limits now m.0 max can.limit)
      ∙ ap (λ (x : BookPart). full_for_in trace x m.0 max) (sym can.stands.agrees.shows.part)

  use_is : use_at (book_limits b) m.0 ≡ use_shown trace shown m.0
  use_is = told.uses m.0 can.limit ∙ sym (use_is_shown trace now m.0 can.limit) ∙ ap (λ (x : BookPart). use_shown trace x m.0) (sym can.stands.agrees.shows.part)

  -- where no more than its maximum is wanted, the limit asks nothing of its parent
  kept_full : (hard more : Bool) (full : Option ℕ) → more ≡ false → cond (hard && more) full None ≡ None
  kept_full true more full e = ap (λ t. cond t full None) e
  kept_full false more full e = refl

  used_fits : max < use_at (book_limits b) m.0 → full_for_in trace shown m.0 max ≡ None
  used_fits used =
      let uses = told.uses m.0 can.limit in
      let fits = sound.uses m.0 can.limit in
      sym full_is ∙ told.full_for m.0 max can.limit
      ∙ kept_full (row_of trace.limits m.0).hard (nat_lt (max_of (limits_in trace now) m.0) max) (full_above trace now (row_of trace.limits m.0).parent _)
      (le-ltb (max_of (limits_in trace now) m.0) max (omega (arith, used, uses, fits)))

  abbrev reply : Bool → Option ℕ → Bool → Reply
  reply may full used = refused_or (first_fault (cond may (limit_fault full) None ∷ fault_where (not may) (LimitNotBelow m) ∷ fault_where (may && used) (InUse m) ∷ [])) DoneReply

  replied : (parts : Cell → CellPart) → reply_in trace shown parts p.0 (Resize m max) ≡ reply (may_resize trace p.0 m.0) (full_for_in trace shown m.0 max) (nat_lt max (use_shown trace shown m.0))
  unfolding reply_in faults_in answer_in
  replied parts = refl

  pub not_below : may_resize trace p.0 m.0 ≡ false → HasResized trace b b p m max (Refused (LimitNotBelow m))
  unfolding first_fault fault_where
  not_below f = record {
    book_is = refl;
    answered = λ parts. sym (replied parts ∙ ap (λ t. reply t (full_for_in trace shown m.0 max) (nat_lt max (use_shown trace shown m.0))) f);
    changed = refl;
  }

  module _ (may : may_resize trace p.0 m.0 ≡ true) where
    answered : (full : Option ℕ) (used : Bool) → full_for_in trace shown m.0 max ≡ full → nat_lt max (use_shown trace shown m.0) ≡ used → (parts : Cell → CellPart) →
        reply true full used ≡ reply_in trace shown parts p.0 (Resize m max)
    answered full used f u parts =
        sym (replied parts ∙ ap (λ t. reply t (full_for_in trace shown m.0 max) (nat_lt max (use_shown trace shown m.0))) may ∙ ap₂ (λ x y. reply true x y) f u)

    -- what the book answers is what the machine answers
    pub resized : (k : BookRecord) → k ≡ record b { value = record b.value { maxima = slice_set b.value.maxima m.0 max } } → use_at (book_limits b) m.0 ≤ max → full_for_at (book_limits b) m.0 max ≡ None →
        HasResized trace b k p m max DoneReply
    unfolding first_fault fault_where
    resized k is low fits = record {
      book_is = is ∙ ap (λ (maxima : List ℕ). record b { value = record b.value { maxima = maxima } }) (sym (ap (λ (x : BookRecord). x.value.maxima) is));
      answered = answered None false (sym full_is ∙ fits) (ap (nat_lt max) (sym use_is) ∙ le-ltb max (use_at (book_limits b) m.0) low);
      changed = ap (λ (x : BookRecord). book_shown_by x.value) is;
    }

    pub kept : (k : BookRecord) (why : ResizeRefusal) → k ≡ b → ExplainsResize (book_limits b) m.0 max why → (said : Reply) → said ≡ refused_by m why → HasResized trace b k p m max said
    unfolding first_fault fault_where
    kept k UsedUp is used said replies =
        subst (λ (x : BookRecord). HasResized trace b x p m max said) (sym is)
        (subst (λ (r : Reply). HasResized trace b b p m max r) (sym replies)
        (record { book_is = refl; answered = answered None true (used_fits used) (ap (nat_lt max) (sym use_is) ∙ lt-ltb max (use_at (book_limits b) m.0) used); changed = refl }))
    kept k (Full q) is full said replies =
        subst (λ (x : BookRecord). HasResized trace b x p m max said) (sym is)
        (subst (λ (r : Reply). HasResized trace b b p m max r) (sym replies)
        (record { book_is = refl; answered = answered (Some q.0) false (sym full_is ∙ full.1) (ap (nat_lt max) (sym use_is) ∙ le-ltb max (use_at (book_limits b) m.0) full.0); changed = refl }))
