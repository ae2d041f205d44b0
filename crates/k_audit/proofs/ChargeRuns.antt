-- The charges of a spelled snapshot are read as what they say.
use Rattle.std.proofs.Common.{◌≡◌, ◌∙◌, ℕ, ◌+◌, ◌-◌, ◌<◌, ◌==◌, nat_le, false, List, [], ◌∷◌, ◌++◌, length, Some, refl, ap, arith, codes, append_assoc, append-nil, le-leb, leb-true, ne_eqb}
use Rattle.std.specs.List.{AllByRecursion}
use Rattle.std.proofs.lemmas.Bool.{false_from_ne_true}
use Rattle.k_types.specs.declared.names.Phase.{Phase}
use Rattle.k_types.specs.Bounds.{maximum_below}
use Rattle.k_types.specs.Trace.{Trace, process_count}
use Rattle.k_words.specs.Words.{Text, word_at, words_of}
use Rattle.k_trace.specs.Named.{DeclaredNames}
use Rattle.k_text.specs.Report.{kernel_charge_words, limit_charge_words, process_charge_words, shared_charge_words}
use Rattle.k_audit.specs.Claims.{Snap}
use Rattle.k_audit.specs.Grammar.{IsNumber, IsSpelledPhase}
use Rattle.k_audit.specs.Lines.{heap_lines, limit_lines, process_lines}
use Rattle.k_audit.specs.Reading.{Reading, charge_line, heap_line, limit_line, past_heading, process_line, read_at}
use Rattle.k_audit.specs.declared.places.Place.TheVariants.{Charges, Over}
use Rattle.k_audit.proofs.LinesRead.{heap_line_read, kernel_read, limit_read, process_read}
use Rattle.k_audit.proofs.Plainly.{IsHeader, line_of}
use Rattle.k_audit.proofs.Runs.{run}
use Rattle.k_audit.proofs.SectionRuns.{lines_of, one_more}

not_le : (a b : ℕ) → b < a → nat_le a b ≡ false
not_le a b lt = false_from_ne_true (nat_le a b) (λ t. absurd (let le = leb-true a b t in omega (arith, lt, le)))

not_zero : (k : ℕ) → 0 < k → (k == 0) ≡ false
not_zero k some = ne_eqb k 0 (λ e. absurd (omega (arith, e, some)))

module _ (names : DeclaredNames) (trace : Trace) (header : IsHeader names trace) where
  abbrev limits : ℕ
  limits = length trace.limits

  abbrev procs : ℕ
  procs = process_count trace

  -- ---- which line stands where

  pub at_limit : (k m : ℕ) (rd : Reading) (line : Text) → k ≡ 1 + m → m < limits → charge_line names trace k rd line ≡ limit_line names k m rd (words_of line)
  unfolding charge_line
  at_limit k m rd line is known =
      let back : k - 1 ≡ m = omega (arith, is) in
      rw (not_zero k (omega (arith, is)), le-leb k limits (omega (arith, is, known)), back) refl

  pub at_process : (k p : ℕ) (rd : Reading) (line : Text) → k ≡ 1 + limits + p → p < procs → charge_line names trace k rd line ≡ process_line names k p rd (words_of line)
  unfolding charge_line
  at_process k p rd line is known =
      let back : k - 1 - limits ≡ p = omega (arith, is) in
      rw (not_zero k (omega (arith, is)), not_le k limits (omega (arith, is)), le-leb k (limits + procs) (omega (arith, is, known)), back) refl

  pub at_heap : (k s : ℕ) (rd : Reading) (line : Text) → k ≡ 1 + limits + procs + s → s < trace.shared_heaps → charge_line names trace k rd line ≡ heap_line names k s rd (words_of line)
  unfolding charge_line
  at_heap k s rd line is known =
      let back : k - 1 - limits - procs ≡ s = omega (arith, is) in
      rw (not_zero k (omega (arith, is)), not_le k limits (omega (arith, is)), not_le k (limits + procs) (omega (arith, is)), le-leb k (limits + procs + trace.shared_heaps) (omega (arith, is, known)), back) refl

  pub at_end : (k : ℕ) (rd : Reading) (line : Text) → k ≡ 1 + limits + procs + trace.shared_heaps → charge_line names trace k rd line ≡ past_heading (codes "end") Over rd line
  unfolding charge_line
  at_end k rd line is =
      rw (not_zero k (omega (arith, is)), not_le k limits (omega (arith, is)), not_le k (limits + procs) (omega (arith, is)), not_le k (limits + procs + trace.shared_heaps) (omega (arith, is))) refl

  -- ---- the kernel

  abbrev pub with_kernel : Snap → ℕ → ℕ → Snap
  with_kernel snap bytes ceiling = record snap { claims = record snap.claims { kernel = bytes; ceiling = ceiling } }

  pub run_kernel : (snap : Snap) (bytes ceiling : ℕ) → IsNumber bytes → IsNumber ceiling →
      run names trace (record { place = Charges 0; snap = snap }) (line_of (kernel_charge_words bytes ceiling) ∷ []) ≡ Some (record { place = Charges 1; snap = with_kernel snap bytes ceiling })
  unfolding read_at charge_line
  run_kernel snap bytes ceiling small below =
      one_more names trace header (record { place = Charges 0; snap = snap }) (record { place = Charges 1; snap = with_kernel snap bytes ceiling }) (line_of (kernel_charge_words bytes ceiling)) [] (kernel_read names trace header bytes ceiling (record { place = Charges 0; snap = snap }) small below)

  -- ---- limits

  abbrev pub with_limits : Snap → List ℕ → List ℕ → Snap
  with_limits snap uses maxima = record { state = record snap.state { maxima = maxima }; claims = record snap.claims { uses = uses } }

  pub run_limits : (snap : Snap) (us ms uses maxima : List ℕ) (k m : ℕ) → k ≡ 1 + m → m + length uses ≡ limits → length maxima ≡ length uses → AllByRecursion IsNumber uses → AllByRecursion (λ max. max < maximum_below) maxima →
      run names trace (record { place = Charges k; snap = with_limits snap us ms }) (lines_of (limit_lines names m uses maxima)) ≡ Some (record { place = Charges (k + length uses); snap = with_limits snap (us ++ uses) (ms ++ maxima) })
  unfolding read_at
  run_limits snap us ms [] [] k m is long same small below =
      let stay : k ≡ k + 0 = omega arith in
      rw (append-nil us, append-nil ms) (ap (λ n. Some (record { place = Charges n; snap = with_limits snap us ms })) stay)
  run_limits snap us ms [] (max ∷ maxima) k m is long same small below = absurd (omega (arith, same))
  run_limits snap us ms (used ∷ uses) [] k m is long same small below = absurd (omega (arith, same))
  run_limits snap us ms (used ∷ uses) (max ∷ maxima) k m is long same small below =
      let next : k + 1 ≡ 1 + (1 + m) = omega (arith, is) in
      let last : k + 1 + length uses ≡ k + length (used ∷ uses) = omega arith in
      let line = line_of (limit_charge_words (word_at names.limits m) used max) in
      let here : Reading = record { place = Charges k; snap = with_limits snap us ms } in
      one_more names trace header here (record { place = Charges (k + 1); snap = with_limits snap (us ++ used ∷ []) (ms ++ max ∷ []) }) line (lines_of (limit_lines names (1 + m) uses maxima))
      (at_limit k m here line is (omega (arith, long)) ∙ limit_read names trace header k m used max here (omega (arith, long)) small.0 below.0)
      ∙ run_limits snap (us ++ used ∷ []) (ms ++ max ∷ []) uses maxima (k + 1) (1 + m) next (omega (arith, long)) (omega (arith, same)) small.1 below.1
      ∙ rw (append_assoc us (used ∷ []) uses, append_assoc ms (max ∷ []) maxima) (ap (λ n. Some (record { place = Charges n; snap = with_limits snap (us ++ used ∷ uses) (ms ++ max ∷ maxima) })) last)

  -- ---- processes

  abbrev pub with_charges : Snap → List ℕ → Snap
  with_charges snap cs = record snap { claims = record snap.claims { charges = cs } }

  pub run_processes : (snap : Snap) (cs charges : List ℕ) (k p : ℕ) → k ≡ 1 + limits + p → p + length charges ≡ procs → AllByRecursion IsNumber charges →
      run names trace (record { place = Charges k; snap = with_charges snap cs }) (lines_of (process_lines names p charges)) ≡ Some (record { place = Charges (k + length charges); snap = with_charges snap (cs ++ charges) })
  unfolding read_at
  run_processes snap cs [] k p is long small =
      let stay : k ≡ k + 0 = omega arith in
      rw (append-nil cs) (ap (λ n. Some (record { place = Charges n; snap = with_charges snap cs })) stay)
  run_processes snap cs (charge ∷ charges) k p is long small =
      let next : k + 1 ≡ 1 + limits + (1 + p) = omega (arith, is) in
      let last : k + 1 + length charges ≡ k + length (charge ∷ charges) = omega arith in
      let line = line_of (process_charge_words (word_at names.procs p) charge) in
      let here : Reading = record { place = Charges k; snap = with_charges snap cs } in
      one_more names trace header here (record { place = Charges (k + 1); snap = with_charges snap (cs ++ charge ∷ []) }) line (lines_of (process_lines names (1 + p) charges))
      (at_process k p here line is (omega (arith, long)) ∙ process_read names trace header k p charge here (omega (arith, long)) small.0)
      ∙ run_processes snap (cs ++ charge ∷ []) charges (k + 1) (1 + p) next (omega (arith, long)) small.1
      ∙ rw (append_assoc cs (charge ∷ []) charges) (ap (λ n. Some (record { place = Charges n; snap = with_charges snap (cs ++ charge ∷ charges) })) last)

  -- ---- shared heaps

  abbrev pub with_heaps : Snap → List ℕ → List Phase → Snap
  with_heaps snap bs ps = record { state = record snap.state { phases = ps }; claims = record snap.claims { shared_bytes = bs } }

  pub run_heaps : (snap : Snap) (bs bytes : List ℕ) (ps phases : List Phase) (k s : ℕ) → k ≡ 1 + limits + procs + s → s + length bytes ≡ trace.shared_heaps → length phases ≡ length bytes → AllByRecursion IsNumber bytes → AllByRecursion (IsSpelledPhase trace) phases →
      run names trace (record { place = Charges k; snap = with_heaps snap bs ps }) (lines_of (heap_lines names s bytes phases)) ≡ Some (record { place = Charges (k + length bytes); snap = with_heaps snap (bs ++ bytes) (ps ++ phases) })
  unfolding read_at
  run_heaps snap bs [] ps [] k s is long same small spelled =
      let stay : k ≡ k + 0 = omega arith in
      rw (append-nil bs, append-nil ps) (ap (λ n. Some (record { place = Charges n; snap = with_heaps snap bs ps })) stay)
  run_heaps snap bs [] ps (phase ∷ phases) k s is long same small spelled = absurd (omega (arith, same))
  run_heaps snap bs (b ∷ bytes) ps [] k s is long same small spelled = absurd (omega (arith, same))
  run_heaps snap bs (b ∷ bytes) ps (phase ∷ phases) k s is long same small spelled =
      let next : k + 1 ≡ 1 + limits + procs + (1 + s) = omega (arith, is) in
      let last : k + 1 + length bytes ≡ k + length (b ∷ bytes) = omega arith in
      let line = line_of (shared_charge_words names (word_at names.shared s) b phase) in
      let here : Reading = record { place = Charges k; snap = with_heaps snap bs ps } in
      one_more names trace header here (record { place = Charges (k + 1); snap = with_heaps snap (bs ++ b ∷ []) (ps ++ phase ∷ []) }) line (lines_of (heap_lines names (1 + s) bytes phases))
      (at_heap k s here line is (omega (arith, long)) ∙ heap_line_read names trace header k s b phase here (omega (arith, long)) small.0 spelled.0)
      ∙ run_heaps snap (bs ++ b ∷ []) bytes (ps ++ phase ∷ []) phases (k + 1) (1 + s) next (omega (arith, long)) (omega (arith, same)) small.1 spelled.1
      ∙ rw (append_assoc bs (b ∷ []) bytes, append_assoc ps (phase ∷ []) phases) (ap (λ n. Some (record { place = Charges n; snap = with_heaps snap (bs ++ b ∷ bytes) (ps ++ phase ∷ phases) })) last)
