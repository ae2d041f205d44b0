-- What is spelled is read: section by section, the whole snapshot.
use Rattle.std.proofs.Common.{◌≡◌, ◌∙◌, ℕ, suc, ◌+◌, ◌<◌, ◌≤◌, nat_lt, false, List, [], ◌∷◌, ◌++◌, length, map, replicate, get_or, Option, Some, None, refl, sym, ap, append_assoc, append-nil, arith, codes, ltb-true}
use Rattle.std.specs.Prelude.{option_and_then}
use Rattle.std.specs.List.{AllByRecursion}
use Rattle.std.proofs.lemmas.Bool.{false_from_ne_true}
use Rattle.std.proofs.lemmas.List.{map-append}
use Rattle.k_types.specs.declared.names.Heap.{Heap}
use Rattle.k_types.specs.declared.names.Name.{Name}
use Rattle.k_types.specs.declared.names.Phase.{Phase}
use Rattle.k_types.specs.State.{ExitItem, Object, Sharing, State}
use Rattle.k_types.specs.Trace.{Trace, process_count, segment_count}
use Rattle.k_words.specs.Words.{Text}
use Rattle.k_trace.specs.Named.{DeclaredNames}
use Rattle.k_text.specs.Report.{kernel_charge_words}
use Rattle.k_audit.specs.Claims.{Claims, Snap}
use Rattle.k_audit.specs.Grammar.{IsSpelledSnap}
use Rattle.k_audit.specs.Lines.{charge_lines, exit_line as exit_words, gone_words, heap_lines, limit_lines, made_lines, object_lines, process_lines, root_lines, share_words}
use Rattle.k_audit.specs.Reading.{Reading, exit_line, gone_line, graph_line, made_line, read_at, root_line, share_line, start_line, unread}
use Rattle.k_audit.specs.declared.places.Place.{Place}
use Rattle.k_audit.specs.declared.places.Place.TheVariants.{Start, Gone, Made, Graph, Roots, Exits, Shares, Charges, Over}
use Rattle.k_audit.proofs.ChargeRuns.{at_end, run_heaps, run_kernel, run_limits, run_processes}
use Rattle.k_audit.proofs.Plainly.{IsHeader, line_of}
use Rattle.k_audit.proofs.RootRuns.{all_rows, nulls, rows_lines, run_rows}
use Rattle.k_audit.proofs.Runs.{ReadsSpelled, run, run_append}
use Rattle.k_audit.proofs.SectionRuns.{after_none, gone_after, graph_after, lines_of, one_more, run_exits, run_gone, run_made, run_objects, run_shares, segment_after, shares_after, target_after}

-- ---- the lines, section by section

cut_in_parts : {A B : Type 0} (f : A → B) (s m gr ro ex sh ch en : A) (g ml ol rl el sl cl : List A) →
    map f (s ∷ (g ++ (m ∷ (ml ++ (gr ∷ (ol ++ (ro ∷ (rl ++ (ex ∷ (el ++ (sh ∷ (sl ++ (ch ∷ (cl ++ (en ∷ [])))))))))))))))
    ≡ f s ∷ (map f g ++ (f m ∷ (map f ml ++ (f gr ∷ (map f ol ++ (f ro ∷ (map f rl ++ (f ex ∷ (map f el ++ (f sh ∷ (map f sl ++ (f ch ∷ (map f cl ++ (f en ∷ []))))))))))))))
cut_in_parts f s m gr ro ex sh ch en g ml ol rl el sl cl =
    rw (
      map-append f g (m ∷ (ml ++ (gr ∷ (ol ++ (ro ∷ (rl ++ (ex ∷ (el ++ (sh ∷ (sl ++ (ch ∷ (cl ++ (en ∷ []))))))))))))),
      map-append f ml (gr ∷ (ol ++ (ro ∷ (rl ++ (ex ∷ (el ++ (sh ∷ (sl ++ (ch ∷ (cl ++ (en ∷ []))))))))))),
      map-append f ol (ro ∷ (rl ++ (ex ∷ (el ++ (sh ∷ (sl ++ (ch ∷ (cl ++ (en ∷ []))))))))),
      map-append f rl (ex ∷ (el ++ (sh ∷ (sl ++ (ch ∷ (cl ++ (en ∷ []))))))),
      map-append f el (sh ∷ (sl ++ (ch ∷ (cl ++ (en ∷ []))))),
      map-append f sl (ch ∷ (cl ++ (en ∷ []))),
      map-append f cl (en ∷ []),
    ) refl

charges_in_parts : {A B : Type 0} (f : A → B) (k : A) (ls ps hs : List A) → map f (k ∷ (ls ++ (ps ++ (hs ++ [])))) ≡ f k ∷ (map f ls ++ (map f ps ++ map f hs))
charges_in_parts f k ls ps hs = rw (append-nil hs, map-append f ls (ps ++ hs), map-append f ps hs) refl

not_lt : (a b : ℕ) → b ≤ a → nat_lt a b ≡ false
not_lt a b le = false_from_ne_true (nat_lt a b) (λ t. absurd (let lt = ltb-true a b t in omega (arith, lt, le)))

rows_sixteen : (rows : List (List (Option Name))) → ((p : ℕ) → p < length rows → length (get_or rows p []) ≡ 16) → AllByRecursion (λ row. length row ≡ 16) rows
rows_sixteen [] each = tt
rows_sixteen (row ∷ rows) each = (each 0 (omega arith), rows_sixteen rows (λ p inside. each (suc p) (omega (arith, inside))))

module _ (names : DeclaredNames) (trace : Trace) (header : IsHeader names trace) where
  then_run : (rd mid : Reading) (xs ys : List Text) → run names trace rd xs ≡ Some mid → run names trace rd (xs ++ ys) ≡ run names trace mid ys
  then_run rd mid xs ys read = run_append names trace rd xs ys ∙ ap (λ (o : Option Reading). option_and_then (λ x. run names trace x ys) o) read

  -- a state in which nothing is done, scanned or closed
  abbrev state_with : List ℕ → List ℕ → List Object → List (List (Option Name)) → List ExitItem → List Sharing → List ℕ → List Phase → State
  state_with ended made objects registers exits shares maxima phases = record {
    objects = objects;
    made = made;
    registers = registers;
    done = replicate (process_count trace) 0;
    exits = exits;
    shares = shares;
    phases = phases;
    ended = ended;
    scans = [];
    closed = false;
    maxima = maxima;
  }

  abbrev claims_with : List Heap → ℕ → ℕ → List ℕ → List ℕ → List ℕ → Claims
  claims_with owners kernel ceiling uses charges bytes = record { owners = owners; kernel = kernel; ceiling = ceiling; uses = uses; charges = charges; shared_bytes = bytes }

  abbrev at : Place → State → Claims → Reading
  at place st claims = record { place = place; snap = record { state = st; claims = claims } }

  abbrev blank_rows : List (List (Option Name))
  blank_rows = replicate (process_count trace) (nulls 16)

  -- the lines of the charges and the last line
  charges_read : (ended made : List ℕ) (objects : List Object) (registers : List (List (Option Name))) (exits : List ExitItem) (shares : List Sharing) (owners : List Heap) (snap : Snap) → IsSpelledSnap trace snap →
      run names trace (at (Charges 0) (state_with ended made objects registers exits shares [] []) (claims_with owners 0 0 [] [] [])) (lines_of (charge_lines names snap) ++ line_of (codes "end" ∷ []) ∷ [])
      ≡ Some (at Over (state_with ended made objects registers exits shares snap.state.maxima snap.state.phases)
      (claims_with owners snap.claims.kernel snap.claims.ceiling snap.claims.uses snap.claims.charges snap.claims.shared_bytes))
  unfolding read_at
  charges_read ended made objects registers exits shares owners snap spelled =
      let st = snap.state in
      let cl = snap.claims in
      let said = spelled.claims in
      let base : List ℕ → List Phase → State = λ maxima phases. state_with ended made objects registers exits shares maxima phases in
      let kernel_words = kernel_charge_words cl.kernel cl.ceiling in
      let limits = limit_lines names 0 cl.uses st.maxima in
      let procs = process_lines names 0 cl.charges in
      let heaps = heap_lines names 0 cl.shared_bytes st.phases in
      let end = line_of (codes "end" ∷ []) ∷ [] in
      let k1 = 1 + length cl.uses in
      let k2 = k1 + length cl.charges in
      let k3 = k2 + length cl.shared_bytes in
      let long = said.uses in
      let many = said.charges in
      let all = said.shared_bytes in
      let maxima_long : length st.maxima ≡ length cl.uses = spelled.state.sized.maxima ∙ sym said.uses in
      let phases_long : length st.phases ≡ length cl.shared_bytes = spelled.state.sized.phases ∙ sym said.shared_bytes in
      let cl0 = claims_with owners 0 0 [] [] [] in
      let cl1 = claims_with owners cl.kernel cl.ceiling [] [] [] in
      let cl2 = claims_with owners cl.kernel cl.ceiling cl.uses [] [] in
      let cl3 = claims_with owners cl.kernel cl.ceiling cl.uses cl.charges [] in
      let cl4 = claims_with owners cl.kernel cl.ceiling cl.uses cl.charges cl.shared_bytes in
      ap (λ (ls : List Text). run names trace (at (Charges 0) (base [] []) cl0) (ls ++ end)) (charges_in_parts line_of kernel_words limits procs heaps)
      ∙ then_run (at (Charges 0) (base [] []) cl0) (at (Charges 1) (base [] []) cl1) (line_of kernel_words ∷ []) ((lines_of limits ++ (lines_of procs ++ lines_of heaps)) ++ end)
      (run_kernel names trace header (record { state = base [] []; claims = cl0 }) cl.kernel cl.ceiling said.kernel said.ceiling)
      ∙ ap (run names trace (at (Charges 1) (base [] []) cl1)) (regroup (lines_of limits) (lines_of procs) (lines_of heaps) end)
      ∙ then_run (at (Charges 1) (base [] []) cl1) (at (Charges k1) (base st.maxima []) cl2) (lines_of limits) (lines_of procs ++ (lines_of heaps ++ end))
      (run_limits names trace header (record { state = base [] []; claims = cl1 }) [] [] cl.uses st.maxima 1 0 refl (omega (arith, long)) maxima_long said.uses_small spelled.state.maxima)
      ∙ then_run (at (Charges k1) (base st.maxima []) cl2) (at (Charges k2) (base st.maxima []) cl3) (lines_of procs) (lines_of heaps ++ end)
      (run_processes names trace header (record { state = base st.maxima []; claims = cl2 }) [] cl.charges k1 0 (omega (arith, long)) (omega (arith, many)) said.charges_small)
      ∙ then_run (at (Charges k2) (base st.maxima []) cl3) (at (Charges k3) (base st.maxima st.phases) cl4) (lines_of heaps) end
      (run_heaps names trace header (record { state = base st.maxima []; claims = cl3 }) [] cl.shared_bytes [] st.phases k2 0 (omega (arith, long, many)) (omega (arith, all)) phases_long said.shared_small spelled.state.phases)
      ∙ one_more names trace header (at (Charges k3) (base st.maxima st.phases) cl4) (at Over (base st.maxima st.phases) cl4) (line_of (codes "end" ∷ [])) []
      (at_end names trace header k3 (at (Charges k3) (base st.maxima st.phases) cl4) (line_of (codes "end" ∷ [])) (omega (arith, long, many, all)))
    where
      regroup : (a b c d : List Text) → (a ++ (b ++ c)) ++ d ≡ a ++ (b ++ (c ++ d))
      regroup a b c d = append_assoc a (b ++ c) d ∙ ap (λ (ls : List Text). a ++ ls) (append_assoc b c d)

  same_state : (st : State) → st.done ≡ replicate (process_count trace) 0 → st.scans ≡ [] → st.closed ≡ false → state_with st.ended st.made st.objects st.registers st.exits st.shares st.maxima st.phases ≡ st
  same_state st done scans closed = rw (← done, ← scans, ← closed) refl

  pub spelled_is_read : ReadsSpelled names trace
  unfolding read_at start_line gone_line made_line graph_line root_line exit_line share_line
  spelled_is_read snap spelled =
      let st = snap.state in
      let cl = snap.claims in
      let ok = spelled.state in
      let c0 = claims_with [] 0 0 [] [] [] in
      let c1 = claims_with cl.owners 0 0 [] [] [] in
      let s0 = state_with [] [] [] blank_rows [] [] [] [] in
      let s1 = state_with st.ended [] [] blank_rows [] [] [] [] in
      let s2 = state_with st.ended st.made [] blank_rows [] [] [] [] in
      let s3 = state_with st.ended st.made st.objects blank_rows [] [] [] [] in
      let s4 = state_with st.ended st.made st.objects st.registers [] [] [] [] in
      let s5 = state_with st.ended st.made st.objects st.registers st.exits [] [] [] in
      let s6 = state_with st.ended st.made st.objects st.registers st.exits st.shares [] [] in
      let gone = map (gone_words names) st.ended in
      let made = made_lines names 0 st.made in
      let objects = object_lines names cl.owners st.objects in
      let roots = root_lines names trace st in
      let exits = map (exit_words names) st.exits in
      let shares = map (share_words names) st.shares in
      let charges = charge_lines names snap in
      let h : Text → Text = λ w. line_of (w ∷ []) in
      let x7 = lines_of charges ++ h (codes "end") ∷ [] in
      let x6 = lines_of shares ++ h (codes "charges") ∷ x7 in
      let x5 = lines_of exits ++ h (codes "shares") ∷ x6 in
      let x4 = lines_of roots ++ h (codes "exits") ∷ x5 in
      let x3 = lines_of objects ++ h (codes "roots") ∷ x4 in
      let x2 = lines_of made ++ h (codes "graph") ∷ x3 in
      let x1 = lines_of gone ++ h (codes "made") ∷ x2 in
      let segs = ok.sized.made in
      let rows = run_rows names trace header (record { state = s3; claims = c1 }) [] st.registers 0 0 refl (let l = ok.sized.registers in omega (arith, l)) (rows_sixteen st.registers (λ p inside. ok.sized.each p (let l = ok.sized.registers in omega (arith, inside, l)))) ok.registers (omega arith) in
      let k1 = gone_after names trace header 0 st.ended in
      let k5 = segment_after names trace header 0 st.exits in
      let t5 = target_after names trace header None st.exits in
      let k6 = shares_after names trace header 0 st.shares in
      let n3 = graph_after names trace header None st.objects in
      ap (run names trace (unread trace))
      (cut_in_parts line_of (codes "snapshot" ∷ codes "1" ∷ []) (codes "made" ∷ []) (codes "graph" ∷ []) (codes "roots" ∷ []) (codes "exits" ∷ []) (codes "shares" ∷ []) (codes "charges" ∷ []) (codes "end" ∷ []) gone made objects roots exits shares charges)
      ∙ one_more names trace header (at Start s0 c0) (at (Gone 0) s0 c0) (line_of (codes "snapshot" ∷ codes "1" ∷ [])) x1 refl
      ∙ then_run (at (Gone 0) s0 c0) (at (Gone k1) s1 c0) (lines_of gone) (h (codes "made") ∷ x2) (run_gone names trace header (record { state = s0; claims = c0 }) [] st.ended 0 ok.ended ok.ended_known)
      ∙ one_more names trace header (at (Gone k1) s1 c0) (at (Made 0) s1 c0) (h (codes "made")) x2 refl
      ∙ then_run (at (Made 0) s1 c0) (at (Made (0 + length st.made)) s2 c0) (lines_of made) (h (codes "graph") ∷ x3) (run_made names trace header (record { state = s1; claims = c0 }) [] st.made 0 (omega (arith, segs)) ok.made)
      ∙ one_more names trace header (at (Made (0 + length st.made)) s2 c0) (at (Graph None) s2 c0) (h (codes "graph")) x3 (rw (not_lt (0 + length st.made) (segment_count trace) (omega (arith, segs))) refl)
      ∙ then_run (at (Graph None) s2 c0) (at (Graph n3) s3 c1) (lines_of objects) (h (codes "roots") ∷ x4)
      (run_objects names trace header (record { state = s2; claims = c0 }) [] cl.owners [] st.objects None spelled.claims.owners spelled.claims.owners_known ok.objects (after_none names trace header st.objects ok.ordered))
      ∙ one_more names trace header (at (Graph n3) s3 c1) (at (Roots 0) s3 c1) (h (codes "roots")) x4 refl
      ∙ then_run (at (Roots 0) s3 c1) (at (Roots rows.next) s4 c1) (lines_of roots) (h (codes "exits") ∷ x5)
      (ap (λ (ls : List (List Text)). run names trace (at (Roots 0) s3 c1) (lines_of ls)) (all_rows names trace st ok.sized.registers ok.sized.each)
      ∙ ap (λ n. run names trace (at (Roots 0) (state_with st.ended st.made st.objects (replicate n (nulls 16)) [] [] [] []) c1) (lines_of (rows_lines names 0 st.registers))) (sym ok.sized.registers)
      ∙ rows.read)
      ∙ one_more names trace header (at (Roots rows.next) s4 c1) (at (Exits 0 None) s4 c1) (h (codes "exits")) x5 refl
      ∙ then_run (at (Exits 0 None) s4 c1) (at (Exits k5 t5) s5 c1) (lines_of exits) (h (codes "shares") ∷ x6) (run_exits names trace header (record { state = s4; claims = c1 }) [] st.exits 0 None ok.exits_ordered ok.exits)
      ∙ one_more names trace header (at (Exits k5 t5) s5 c1) (at (Shares 0) s5 c1) (h (codes "shares")) x6 refl
      ∙ then_run (at (Shares 0) s5 c1) (at (Shares k6) s6 c1) (lines_of shares) (h (codes "charges") ∷ x7) (run_shares names trace header (record { state = s5; claims = c1 }) [] st.shares 0 ok.shares_ordered ok.shares)
      ∙ one_more names trace header (at (Shares k6) s6 c1) (at (Charges 0) s6 c1) (h (codes "charges")) x7 refl
      ∙ charges_read st.ended st.made st.objects st.registers st.exits st.shares cl.owners snap spelled
      ∙ ap (λ (s : State). Some (at Over s cl)) (same_state st ok.done ok.scans ok.closed)
