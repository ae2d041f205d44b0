-- Each section of a spelled snapshot is read as what it says.
use Rattle.std.proofs.Common.{◌≡◌, ◌∙◌, ℕ, ◌+◌, ◌^◌, ◌<◌, List, [], ◌∷◌, ◌++◌, length, map, Option, Some, None, refl, sym, ap, arith, append_assoc, append-nil}
use Rattle.std.specs.Prelude.{option_and_then}
use Rattle.std.specs.List.{AllByRecursion}
use Rattle.k_types.specs.declared.names.Heap.{Heap}
use Rattle.k_types.specs.declared.names.Name.{Name}
use Rattle.k_types.specs.Sound.{IsOrdered, IsOrderedFrom}
use Rattle.k_types.specs.State.{ExitItem, Object, Sharing}
use Rattle.k_types.specs.Trace.{IsHeap, Trace, process_count, segment_count, segment_of}
use Rattle.k_words.specs.Words.{Text}
use Rattle.k_trace.specs.Named.{DeclaredNames}
use Rattle.k_text.specs.Report.{object_words}
use Rattle.k_audit.specs.Claims.{Snap}
use Rattle.k_audit.specs.Grammar.{AreExitsFrom, AreRisingFrom, IsAfter, IsSpelledExit, IsSpelledObject, IsSpelledShare, share_place}
use Rattle.k_audit.specs.Lines.{exit_line as exit_words, gone_words, made_lines, made_words, object_lines, share_words}
use Rattle.k_audit.specs.Reading.{Reading, read_at, read_line}
use Rattle.k_audit.specs.declared.places.Place.TheVariants.{Gone, Made, Graph, Exits, Shares}
use Rattle.k_audit.proofs.LinesRead.{exit_read, gone_read, made_read, object_line_read, share_read}
use Rattle.k_audit.proofs.Plainly.{IsHeader, line_of}
use Rattle.k_audit.proofs.Runs.{run}

-- the lines of these words
abbrev pub lines_of : List (List Text) → List Text
lines_of wss = map line_of wss

module _ (names : DeclaredNames) (trace : Trace) (header : IsHeader names trace) where
  -- a line that fits goes on
  pub one_more : (rd next : Reading) (line : Text) (lines : List Text) → read_line names trace rd line ≡ Some next → run names trace rd (line ∷ lines) ≡ run names trace next lines
  one_more rd next line lines fits = ap (λ (o : Option Reading). option_and_then (λ x. run names trace x lines) o) fits

  -- ---- the processes that have ended

  abbrev pub with_ended : Snap → List ℕ → Snap
  with_ended snap ps = record snap { state = record snap.state { ended = ps } }

  abbrev pub gone_after : ℕ → List ℕ → ℕ
  gone_after least [] = least
  gone_after least (p ∷ ps) = gone_after (p + 1) ps

  pub run_gone : (snap : Snap) (before ps : List ℕ) (least : ℕ) → AreRisingFrom least ps → AllByRecursion (λ p. p < process_count trace) ps →
      run names trace (record { place = Gone least; snap = with_ended snap before }) (lines_of (map (gone_words names) ps)) ≡ Some (record { place = Gone (gone_after least ps); snap = with_ended snap (before ++ ps) })
  unfolding read_at
  run_gone snap before [] least rising known = ap (λ (qs : List ℕ). Some (record { place = Gone least; snap = with_ended snap qs })) (sym (append-nil before))
  run_gone snap before (p ∷ ps) least rising known =
      one_more (record { place = Gone least; snap = with_ended snap before }) (record { place = Gone (p + 1); snap = with_ended snap (before ++ p ∷ []) }) (line_of (gone_words names p)) (lines_of (map (gone_words names) ps)) (gone_read names trace header p least (record { place = Gone least; snap = with_ended snap before }) known.0 rising.0)
      ∙ run_gone snap (before ++ p ∷ []) ps (p + 1) rising.1 known.1
      ∙ ap (λ (qs : List ℕ). Some (record { place = Gone (gone_after (p + 1) ps); snap = with_ended snap qs })) (append_assoc before (p ∷ []) ps)

  -- ---- serials

  abbrev pub with_made : Snap → List ℕ → Snap
  with_made snap ns = record snap { state = record snap.state { made = ns } }

  pub run_made : (snap : Snap) (before ns : List ℕ) (seg : ℕ) → seg + length ns ≡ segment_count trace → AllByRecursion (λ n. n < 2 ^ 32) ns →
      run names trace (record { place = Made seg; snap = with_made snap before }) (lines_of (made_lines names seg ns)) ≡ Some (record { place = Made (seg + length ns); snap = with_made snap (before ++ ns) })
  unfolding read_at
  run_made snap before [] seg long small =
      let same : seg ≡ seg + 0 = omega arith in
      ap (λ (qs : List ℕ). Some (record { place = Made seg; snap = with_made snap qs })) (sym (append-nil before)) ∙ ap (λ k. Some (record { place = Made k; snap = with_made snap (before ++ []) })) same
  run_made snap before (n ∷ ns) seg long small =
      let next : seg + 1 ≡ 1 + seg = omega arith in
      let last : seg + 1 + length ns ≡ seg + length (n ∷ ns) = omega arith in
      one_more (record { place = Made seg; snap = with_made snap before }) (record { place = Made (seg + 1); snap = with_made snap (before ++ n ∷ []) }) (line_of (made_words names seg n)) (lines_of (made_lines names (1 + seg) ns)) (made_read names trace header seg n (record { place = Made seg; snap = with_made snap before }) (omega (arith, long)) small.0)
      ∙ ap (λ k. run names trace (record { place = Made (seg + 1); snap = with_made snap (before ++ n ∷ []) }) (lines_of (made_lines names k ns))) (sym next)
      ∙ run_made snap (before ++ n ∷ []) ns (seg + 1) (omega (arith, long)) small.1
      ∙ ap (λ (qs : List ℕ). Some (record { place = Made (seg + 1 + length ns); snap = with_made snap qs })) (append_assoc before (n ∷ []) ns)
      ∙ ap (λ k. Some (record { place = Made k; snap = with_made snap (before ++ n ∷ ns) })) last

  -- ---- objects

  abbrev pub with_objects : Snap → List Heap → List Object → Snap
  with_objects snap owners objects = record { state = record snap.state { objects = objects }; claims = record snap.claims { owners = owners } }

  -- the objects come after that one, in their order
  abbrev pub AreAfter : Option Name → List Object → Type 0
  AreAfter last [] = Unit {0}
  AreAfter last (o ∷ objects) = IsAfter last o.name × AreAfter (Some o.name) objects

  after_each : (n : Name) (objects : List Object) → IsOrderedFrom n objects → AreAfter (Some n) objects
  after_each n [] ordered = tt
  after_each n (o ∷ objects) ordered = (ordered.0, after_each o.name objects ordered.1)

  pub after_none : (objects : List Object) → IsOrdered objects → AreAfter None objects
  after_none [] ordered = tt
  after_none (o ∷ objects) ordered = (tt, after_each o.name objects ordered)

  abbrev pub graph_after : Option Name → List Object → Option Name
  graph_after last [] = last
  graph_after last (o ∷ objects) = graph_after (Some o.name) objects

  pub run_objects : (snap : Snap) (first owners : List Heap) (before objects : List Object) (last : Option Name) → length owners ≡ length objects → AllByRecursion (IsHeap trace) owners → AllByRecursion (IsSpelledObject trace) objects → AreAfter last objects →
      run names trace (record { place = Graph last; snap = with_objects snap first before }) (lines_of (object_lines names owners objects))
      ≡ Some (record { place = Graph (graph_after last objects); snap = with_objects snap (first ++ owners) (before ++ objects) })
  unfolding read_at
  run_objects snap first [] before [] last same known spelled after = rw (append-nil first, append-nil before) refl
  run_objects snap first [] before (o ∷ objects) last same known spelled after = absurd (omega (arith, same))
  run_objects snap first (h ∷ owners) before [] last same known spelled after = absurd (omega (arith, same))
  run_objects snap first (h ∷ owners) before (o ∷ objects) last same known spelled after =
      one_more (record { place = Graph last; snap = with_objects snap first before }) (record { place = Graph (Some o.name); snap = with_objects snap (first ++ h ∷ []) (before ++ o ∷ []) }) (line_of (object_words names h o)) (lines_of (object_lines names owners objects))
      (object_line_read names trace header h o last (record { place = Graph last; snap = with_objects snap first before }) known.0 spelled.0 after.0)
      ∙ run_objects snap (first ++ h ∷ []) owners (before ++ o ∷ []) objects (Some o.name) (omega (arith, same)) known.1 spelled.1 after.1
      ∙ rw (append_assoc first (h ∷ []) owners, append_assoc before (o ∷ []) objects) refl

  -- ---- exit items

  abbrev pub with_exits : Snap → List ExitItem → Snap
  with_exits snap es = record snap { state = record snap.state { exits = es } }

  abbrev pub segment_after : ℕ → List ExitItem → ℕ
  segment_after seg [] = seg
  segment_after seg (e ∷ exits) = segment_after (segment_of trace e.heap) exits

  abbrev pub target_after : Option Name → List ExitItem → Option Name
  target_after last [] = last
  target_after last (e ∷ exits) = target_after (Some e.target) exits

  pub run_exits : (snap : Snap) (before es : List ExitItem) (seg : ℕ) (last : Option Name) → AreExitsFrom trace seg last es → AllByRecursion (IsSpelledExit trace) es →
      run names trace (record { place = Exits seg last; snap = with_exits snap before }) (lines_of (map (exit_words names) es)) ≡ Some (record { place = Exits (segment_after seg es) (target_after last es); snap = with_exits snap (before ++ es) })
  unfolding read_at
  run_exits snap before [] seg last ordered spelled = ap (λ (qs : List ExitItem). Some (record { place = Exits seg last; snap = with_exits snap qs })) (sym (append-nil before))
  run_exits snap before (e ∷ es) seg last ordered spelled =
      one_more (record { place = Exits seg last; snap = with_exits snap before }) (record { place = Exits (segment_of trace e.heap) (Some e.target); snap = with_exits snap (before ++ e ∷ []) }) (line_of (exit_words names e)) (lines_of (map (exit_words names) es))
      (exit_read names trace header e seg last (record { place = Exits seg last; snap = with_exits snap before }) spelled.0 ordered.0)
      ∙ run_exits snap (before ++ e ∷ []) es (segment_of trace e.heap) (Some e.target) ordered.1 spelled.1
      ∙ ap (λ (qs : List ExitItem). Some (record { place = Exits (segment_after (segment_of trace e.heap) es) (target_after (Some e.target) es); snap = with_exits snap qs })) (append_assoc before (e ∷ []) es)

  -- ---- shares

  abbrev pub with_shares : Snap → List Sharing → Snap
  with_shares snap es = record snap { state = record snap.state { shares = es } }

  abbrev pub shares_after : ℕ → List Sharing → ℕ
  shares_after least [] = least
  shares_after least (e ∷ shares) = shares_after (share_place trace e + 1) shares

  pub run_shares : (snap : Snap) (before es : List Sharing) (least : ℕ) → AreRisingFrom least (map (share_place trace) es) → AllByRecursion (IsSpelledShare trace) es →
      run names trace (record { place = Shares least; snap = with_shares snap before }) (lines_of (map (share_words names) es)) ≡ Some (record { place = Shares (shares_after least es); snap = with_shares snap (before ++ es) })
  unfolding read_at
  run_shares snap before [] least rising spelled = ap (λ (qs : List Sharing). Some (record { place = Shares least; snap = with_shares snap qs })) (sym (append-nil before))
  run_shares snap before (e ∷ es) least rising spelled =
      one_more (record { place = Shares least; snap = with_shares snap before }) (record { place = Shares (share_place trace e + 1); snap = with_shares snap (before ++ e ∷ []) }) (line_of (share_words names e)) (lines_of (map (share_words names) es)) (share_read names trace header e least (record { place = Shares least; snap = with_shares snap before }) spelled.0 rising.0)
      ∙ run_shares snap (before ++ e ∷ []) es (share_place trace e + 1) rising.1 spelled.1
      ∙ ap (λ (qs : List Sharing). Some (record { place = Shares (shares_after (share_place trace e + 1) es); snap = with_shares snap qs })) (append_assoc before (e ∷ []) es)
