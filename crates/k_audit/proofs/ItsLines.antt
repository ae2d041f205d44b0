-- The lines of a snapshot's text are those that it has: none of them has a line feed.
use Rattle.std.proofs.Common.{◌≡◌, ◌∙◌, ℕ, suc, ◌+◌, ◌^◌, ◌<◌, ◌≤◌, Bool, true, false, not, eqb, List, [], ◌∷◌, ◌++◌, length, map, get_or, Option, Some, None, refl, ap, arith, append_assoc}
use Rattle.std.specs.Prelude.{IfSome}
use Rattle.std.specs.List.{AllByRecursion, list_all}
use Rattle.std.proofs.lemmas.Bool.{and_from, and_parts}
use Rattle.std.proofs.lemmas.List.Folds.{list_all-append}
use Rattle.k_types.specs.declared.names.Heap.{Heap}
use Rattle.k_types.specs.declared.names.Name.{Name}
use Rattle.k_types.specs.declared.names.Phase.{Phase}
use Rattle.k_types.specs.Bounds.{maximum_below}
use Rattle.k_types.specs.State.{ExitItem, Object, Sharing}
use Rattle.k_types.specs.Trace.{IsHeap, Trace, process_count, segment_count}
use Rattle.k_words.specs.Words.{Text, text_of}
use Rattle.k_trace.specs.Named.{DeclaredNames}
use Rattle.k_reports.proofs.Visible.{has_no_feed, is_plain, joined_no_feed}
use Rattle.k_audit.specs.Claims.{Snap}
use Rattle.k_audit.specs.Grammar.{IsNumber, IsSpelledExit, IsSpelledName, IsSpelledObject, IsSpelledPhase, IsSpelledShare, IsSpelledSnap}
use Rattle.k_audit.specs.Lines.{charge_lines, exit_line as exit_words, gone_words, heap_lines, limit_lines, made_lines, object_lines, process_lines, root_lines, share_words, snap_lines}
use Rattle.k_audit.specs.Reading.{is_whole}
use Rattle.k_audit.specs.Verdicts.{fed_lines}
use Rattle.k_audit.proofs.Plainly.{IsHeader, exit_plain, gone_plain, heap_line_plain, kernel_plain, limit_line_plain, line_of, made_plain, object_line_plain, process_line_plain, root_plain, share_plain}
use Rattle.k_audit.proofs.RootRuns.{all_rows, row_lines, rows_lines}
use Rattle.k_audit.proofs.Runs.{HasItsLines}

-- ---- a line without a line feed, and what stands behind it

fed_then : (l rest : Text) → has_no_feed l ≡ true → fed_lines (l ++ 10 ∷ rest) ≡ l ∷ fed_lines rest
fed_then [] rest h = refl
fed_then (b ∷ l) rest h =
    let p = and_parts (not (eqb b 10)) (has_no_feed l) h in
    let e : eqb b 10 ≡ false = grind (arith, p.0) in
    rw (e, fed_then l rest p.1) refl

whole_then : (l rest : Text) → is_whole (l ++ 10 ∷ rest) ≡ is_whole rest
whole_then [] [] = refl
whole_then [] (c ∷ rest) = refl
whole_then (b ∷ []) [] = refl
whole_then (b ∷ []) (c ∷ rest) = refl
whole_then (b ∷ c ∷ l) rest = whole_then (c ∷ l) rest

-- all words of these lines are visible
abbrev are_plain : List (List Text) → Bool
are_plain wss = list_all (λ ws. list_all is_plain ws) wss

fed_text : (wss : List (List Text)) → are_plain wss ≡ true → fed_lines (text_of wss) ≡ map line_of wss
fed_text [] h = refl
fed_text (ws ∷ wss) h =
    let p = and_parts (list_all is_plain ws) (are_plain wss) h in
    ap fed_lines (append_assoc (line_of ws) (10 ∷ []) (text_of wss)) ∙ fed_then (line_of ws) (text_of wss) (joined_no_feed ws p.0) ∙ ap (λ (ls : List Text). line_of ws ∷ ls) (fed_text wss p.1)

whole_text : (wss : List (List Text)) → is_whole (text_of wss) ≡ true
whole_text [] = refl
whole_text (ws ∷ wss) = ap is_whole (append_assoc (line_of ws) (10 ∷ []) (text_of wss)) ∙ whole_then (line_of ws) (text_of wss) ∙ whole_text wss

-- ---- the words of each section are visible

both_plain : (xs ys : List (List Text)) → are_plain xs ≡ true → are_plain ys ≡ true → are_plain (xs ++ ys) ≡ true
both_plain xs ys x y = list_all-append (λ ws. list_all is_plain ws) xs ys ∙ and_from (are_plain xs) (are_plain ys) x y

module _ (names : DeclaredNames) (trace : Trace) (header : IsHeader names trace) where
  gone_are : (ps : List ℕ) → AllByRecursion (λ p. p < process_count trace) ps → are_plain (map (gone_words names) ps) ≡ true
  gone_are [] all = refl
  gone_are (p ∷ ps) all = and_from (list_all is_plain (gone_words names p)) (are_plain (map (gone_words names) ps)) (gone_plain names trace header p all.0) (gone_are ps all.1)

  made_are : (seg : ℕ) (ns : List ℕ) → seg + length ns ≤ segment_count trace → AllByRecursion (λ n. n < 2 ^ 32) ns → are_plain (made_lines names seg ns) ≡ true
  made_are seg [] long all = refl
  made_are seg (n ∷ ns) long all = and_from _ (are_plain (made_lines names (1 + seg) ns)) (made_plain names trace header seg n (omega (arith, long)) all.0) (made_are (1 + seg) ns (omega (arith, long)) all.1)

  objects_are : (owners : List Heap) (objects : List Object) → AllByRecursion (IsHeap trace) owners → AllByRecursion (IsSpelledObject trace) objects → are_plain (object_lines names owners objects) ≡ true
  objects_are [] objects known all = refl
  objects_are (h ∷ owners) [] known all = refl
  objects_are (h ∷ owners) (o ∷ objects) known all = and_from _ (are_plain (object_lines names owners objects)) (object_line_plain names trace header h o known.0 all.0) (objects_are owners objects known.1 all.1)

  row_is : (p r : ℕ) (row : List (Option Name)) → p < process_count trace → r + length row ≤ 16 → AllByRecursion (λ x. IfSome x (IsSpelledName trace)) row → are_plain (row_lines names p r row) ≡ true
  row_is p r [] known long all = refl
  row_is p r (None ∷ row) known long all = row_is p (suc r) row known (omega (arith, long)) all.1
  row_is p r (Some n ∷ row) known long all = and_from _ (are_plain (row_lines names p (suc r) row)) (root_plain names trace header p r n known (omega (arith, long)) all.0) (row_is p (suc r) row known (omega (arith, long)) all.1)

  rows_are : (p : ℕ) (rows : List (List (Option Name))) → p + length rows ≤ process_count trace → ((i : ℕ) → i < length rows → length (get_or rows i []) ≡ 16) → AllByRecursion (AllByRecursion (λ x. IfSome x (IsSpelledName trace))) rows → are_plain (rows_lines names p rows) ≡ true
  rows_are p [] long each all = refl
  rows_are p (row ∷ rows) long each all =
      both_plain (row_lines names p 0 row) (rows_lines names (suc p) rows)
      (row_is p 0 row (omega (arith, long)) (let s = each 0 (omega arith) in omega (arith, s)) all.0)
      (rows_are (suc p) rows (omega (arith, long)) (λ i inside. each (suc i) (omega (arith, inside))) all.1)

  exits_are : (es : List ExitItem) → AllByRecursion (IsSpelledExit trace) es → are_plain (map (exit_words names) es) ≡ true
  exits_are [] all = refl
  exits_are (e ∷ es) all = and_from _ (are_plain (map (exit_words names) es)) (exit_plain names trace header e all.0) (exits_are es all.1)

  shares_are : (es : List Sharing) → AllByRecursion (IsSpelledShare trace) es → are_plain (map (share_words names) es) ≡ true
  shares_are [] all = refl
  shares_are (e ∷ es) all = and_from _ (are_plain (map (share_words names) es)) (share_plain names trace header e all.0) (shares_are es all.1)

  limits_are : (m : ℕ) (uses maxima : List ℕ) → m + length uses ≤ length trace.limits → AllByRecursion IsNumber uses → AllByRecursion (λ max. max < maximum_below) maxima → are_plain (limit_lines names m uses maxima) ≡ true
  limits_are m [] maxima long small below = refl
  limits_are m (used ∷ uses) [] long small below = refl
  limits_are m (used ∷ uses) (max ∷ maxima) long small below = and_from _ (are_plain (limit_lines names (1 + m) uses maxima)) (limit_line_plain names trace header m used max (omega (arith, long)) small.0 below.0) (limits_are (1 + m) uses maxima (omega (arith, long)) small.1 below.1)

  processes_are : (p : ℕ) (charges : List ℕ) → p + length charges ≤ process_count trace → AllByRecursion IsNumber charges → are_plain (process_lines names p charges) ≡ true
  processes_are p [] long small = refl
  processes_are p (charge ∷ charges) long small = and_from _ (are_plain (process_lines names (1 + p) charges)) (process_line_plain names trace header p charge (omega (arith, long)) small.0) (processes_are (1 + p) charges (omega (arith, long)) small.1)

  heaps_are : (s : ℕ) (bytes : List ℕ) (phases : List Phase) → s + length bytes ≤ trace.shared_heaps → AllByRecursion IsNumber bytes → AllByRecursion (IsSpelledPhase trace) phases → are_plain (heap_lines names s bytes phases) ≡ true
  heaps_are s [] phases long small all = refl
  heaps_are s (b ∷ bytes) [] long small all = refl
  heaps_are s (b ∷ bytes) (phase ∷ phases) long small all = and_from _ (are_plain (heap_lines names (1 + s) bytes phases)) (heap_line_plain names trace header s b phase (omega (arith, long)) small.0 all.0) (heaps_are (1 + s) bytes phases (omega (arith, long)) small.1 all.1)

  all_plain : (snap : Snap) → IsSpelledSnap trace snap → are_plain (snap_lines names trace snap) ≡ true
  all_plain snap spelled =
      let st = snap.state in
      let cl = snap.claims in
      let ok = spelled.state in
      let said = spelled.claims in
      let segs = ok.sized.made in
      let procs = ok.sized.registers in
      let roots : are_plain (root_lines names trace st) ≡ true
      = ap are_plain (all_rows names trace st ok.sized.registers ok.sized.each) ∙ rows_are 0 st.registers (omega (arith, procs)) (λ i inside. ok.sized.each i (omega (arith, inside, procs))) ok.registers in
      let uses = said.uses in
      let charges = said.charges in
      let shared = said.shared_bytes in
      let last : are_plain (charge_lines names snap) ≡ true
      = and_from _ _ (kernel_plain names trace header cl.kernel cl.ceiling said.kernel said.ceiling)
      (both_plain (limit_lines names 0 cl.uses st.maxima) (process_lines names 0 cl.charges ++ (heap_lines names 0 cl.shared_bytes st.phases ++ [])) (limits_are 0 cl.uses st.maxima (omega (arith, uses)) said.uses_small ok.maxima)
      (both_plain (process_lines names 0 cl.charges) (heap_lines names 0 cl.shared_bytes st.phases ++ []) (processes_are 0 cl.charges (omega (arith, charges)) said.charges_small)
      (both_plain (heap_lines names 0 cl.shared_bytes st.phases) [] (heaps_are 0 cl.shared_bytes st.phases (omega (arith, shared)) said.shared_small ok.phases) refl))) in
      both_plain (map (gone_words names) st.ended) _ (gone_are st.ended ok.ended_known)
      (both_plain (made_lines names 0 st.made) _ (made_are 0 st.made (omega (arith, segs)) ok.made)
      (both_plain (object_lines names cl.owners st.objects) _ (objects_are cl.owners st.objects said.owners_known ok.objects)
      (both_plain (root_lines names trace st) _ roots
      (both_plain (map (exit_words names) st.exits) _ (exits_are st.exits ok.exits)
      (both_plain (map (share_words names) st.shares) _ (shares_are st.shares ok.shares)
      (both_plain (charge_lines names snap) _ last refl))))))

  pub its_lines : (snap : Snap) → IsSpelledSnap trace snap → HasItsLines names trace snap
  its_lines snap spelled = record {
    lines = fed_text (snap_lines names trace snap) (all_plain snap spelled);
    whole = whole_text (snap_lines names trace snap);
  }
