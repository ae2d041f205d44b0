-- What was read can be completed: at each stage, the lines so far begin a snapshot's text.
use Rattle.std.proofs.Common.{◌≡◌, ◌∙◌, ℕ, zero, suc, ◌+◌, ◌-◌, ◌^◌, ◌<◌, true, false, List, [], ◌∷◌, ◌++◌, length, map, replicate, get_or, Option, Some, refl, sym, ap, ap₂, subst, arith, codes, append_assoc, append-nil}
use Rattle.std.specs.List.{AllByRecursion}
use Rattle.std.proofs.lemmas.Bool.{false≢true}
use Rattle.std.proofs.lemmas.List.{map-append}
use Rattle.k_types.specs.declared.names.Heap.{Heap}
use Rattle.k_types.specs.declared.names.Name.{Name}
use Rattle.k_types.specs.declared.names.Phase.{Phase}
use Rattle.k_types.specs.declared.names.Phase.TheVariants.{Unmade}
use Rattle.k_types.specs.State.{ExitItem, Object, Sharing, State}
use Rattle.k_types.specs.Trace.{Trace, process_count, segment_count}
use Rattle.k_words.specs.Words.{Text, word_at}
use Rattle.k_trace.specs.Named.{DeclaredNames}
use Rattle.k_text.specs.Report.{kernel_charge_words, limit_charge_words, process_charge_words, shared_charge_words}
use Rattle.k_audit.specs.Claims.{Snap}
use Rattle.k_audit.specs.Lines.{charge_lines, exit_line as exit_words, gone_words, heap_lines, limit_lines, made_lines, made_words, object_lines, process_lines, root_lines, share_words, snap_lines}
use Rattle.k_audit.specs.Reading.{Reading, is_over, read_line}
use Rattle.k_audit.proofs.Begun.{GoodCharges, GoodEnded, GoodExits, GoodHeaps, GoodLimits, GoodMade, GoodObjects, GoodRegisters, GoodRest, GoodShares, IsGood, completed, completed_spelled}
use Rattle.k_audit.proofs.Plainly.{IsHeader, line_of}
use Rattle.k_audit.proofs.RootRuns.{all_rows, rows_lines}
use Rattle.k_audit.proofs.Runs.{Begins, CompletesRead, run}
use Rattle.k_audit.proofs.Stages.{Parts, Stage, AtStart, AtGone, AtMade, AtGraph, AtRoots, AtExits, AtShares, AtKernel, AtLimits, AtProcesses, AtHeaps, AtOver, part1, part2, part3, part4, part5, part6, part7, part8, part9, part10, reading_at, said}
use Rattle.k_audit.proofs.WordsBack.{and_then_some}
use Rattle.k_audit.proofs.Steps.{blank_good, step}
use Rattle.k_audit.proofs.Upto.{Good, Upto4}

-- ---- lists that are longer

made_more : (names : DeclaredNames) (seg : ℕ) (ns ms : List ℕ) → made_lines names seg (ns ++ ms) ≡ made_lines names seg ns ++ made_lines names (seg + length ns) ms
made_more names seg [] ms = ap (λ k. made_lines names k ms) (let e : seg ≡ seg + 0 = omega arith in e)
made_more names seg (n ∷ ns) ms =
    ap (λ (ls : List (List Text)). made_words names seg n ∷ ls) (made_more names (1 + seg) ns ms)
    ∙ ap (λ k. made_words names seg n ∷ (made_lines names (1 + seg) ns ++ made_lines names k ms)) (let e : 1 + seg + length ns ≡ seg + length (n ∷ ns) = omega arith in e)

pub limits_more : (names : DeclaredNames) (m : ℕ) (us ms vs ns : List ℕ) → length ms ≡ length us → limit_lines names m (us ++ vs) (ms ++ ns) ≡ limit_lines names m us ms ++ limit_lines names (m + length us) vs ns
limits_more names m [] [] vs ns same = ap (λ k. limit_lines names k vs ns) (let e : m ≡ m + 0 = omega arith in e)
limits_more names m [] (x ∷ ms) vs ns same = absurd (omega (arith, same))
limits_more names m (u ∷ us) [] vs ns same = absurd (omega (arith, same))
limits_more names m (u ∷ us) (x ∷ ms) vs ns same =
    ap (λ (ls : List (List Text)). limit_charge_words (word_at names.limits m) u x ∷ ls) (limits_more names (1 + m) us ms vs ns (omega (arith, same)))
    ∙ ap (λ k. limit_charge_words (word_at names.limits m) u x ∷ (limit_lines names (1 + m) us ms ++ limit_lines names k vs ns)) (let e : 1 + m + length us ≡ m + length (u ∷ us) = omega arith in e)

processes_more : (names : DeclaredNames) (p : ℕ) (cs ds : List ℕ) → process_lines names p (cs ++ ds) ≡ process_lines names p cs ++ process_lines names (p + length cs) ds
processes_more names p [] ds = ap (λ k. process_lines names k ds) (let e : p ≡ p + 0 = omega arith in e)
processes_more names p (c ∷ cs) ds =
    ap (λ (ls : List (List Text)). process_charge_words (word_at names.procs p) c ∷ ls) (processes_more names (1 + p) cs ds)
    ∙ ap (λ k. process_charge_words (word_at names.procs p) c ∷ (process_lines names (1 + p) cs ++ process_lines names k ds)) (let e : 1 + p + length cs ≡ p + length (c ∷ cs) = omega arith in e)

heaps_more : (names : DeclaredNames) (s : ℕ) (bs cs : List ℕ) (ps qs : List Phase) → length ps ≡ length bs → heap_lines names s (bs ++ cs) (ps ++ qs) ≡ heap_lines names s bs ps ++ heap_lines names (s + length bs) cs qs
heaps_more names s [] cs [] qs same = ap (λ k. heap_lines names k cs qs) (let e : s ≡ s + 0 = omega arith in e)
heaps_more names s [] cs (p ∷ ps) qs same = absurd (omega (arith, same))
heaps_more names s (b ∷ bs) cs [] qs same = absurd (omega (arith, same))
heaps_more names s (b ∷ bs) cs (p ∷ ps) qs same =
    ap (λ (ls : List (List Text)). shared_charge_words names (word_at names.shared s) b p ∷ ls) (heaps_more names (1 + s) bs cs ps qs (omega (arith, same)))
    ∙ ap (λ k. shared_charge_words names (word_at names.shared s) b p ∷ (heap_lines names (1 + s) bs ps ++ heap_lines names k cs qs)) (let e : 1 + s + length bs ≡ s + length (b ∷ bs) = omega arith in e)

-- nothing is missing
full : {A : Type 0} (x : A) (xs : List A) (all : ℕ) → length xs ≡ all → xs ++ replicate (all - length xs) x ≡ xs
full x xs all long = ap (λ n. xs ++ replicate n x) (let e : all - length xs ≡ 0 = omega (arith, long) in e) ∙ append-nil xs

module _ (names : DeclaredNames) (trace : Trace) (header : IsHeader names trace) where
  -- ---- the lines of a snapshot from each section on

  abbrev from8 : List (List Text)
  from8 = (codes "end" ∷ []) ∷ []

  abbrev from7 : Snap → List (List Text)
  from7 c = charge_lines names c ++ from8

  abbrev from6 : Snap → List (List Text)
  from6 c = (codes "charges" ∷ []) ∷ from7 c

  abbrev from5 : Snap → List (List Text)
  from5 c = (codes "shares" ∷ []) ∷ (map (share_words names) c.state.shares ++ from6 c)

  abbrev from4 : Snap → List (List Text)
  from4 c = (codes "exits" ∷ []) ∷ (map (exit_words names) c.state.exits ++ from5 c)

  abbrev from3 : Snap → List (List Text)
  from3 c = (codes "roots" ∷ []) ∷ (root_lines names trace c.state ++ from4 c)

  abbrev from2 : Snap → List (List Text)
  from2 c = (codes "graph" ∷ []) ∷ (object_lines names c.claims.owners c.state.objects ++ from3 c)

  abbrev from1 : Snap → List (List Text)
  from1 c = (codes "made" ∷ []) ∷ (made_lines names 0 c.state.made ++ from2 c)

  reach1 : (c : Snap) (x : Parts) → c.state.ended ≡ x.ended → snap_lines names trace c ≡ part1 names x ++ from1 c
  reach1 c x ended = ap (λ (ps : List ℕ). (codes "snapshot" ∷ codes "1" ∷ []) ∷ (map (gone_words names) ps ++ from1 c)) ended

  onward : (front body rest all : List (List Text)) (h : List Text) → all ≡ front ++ (h ∷ (body ++ rest)) → all ≡ (front ++ (h ∷ body)) ++ rest
  onward front body rest all h e = e ∙ sym (append_assoc front (h ∷ body) rest)

  reach2 : (c : Snap) (x : Parts) → c.state.ended ≡ x.ended → c.state.made ≡ x.made → snap_lines names trace c ≡ part2 names x ++ from2 c
  reach2 c x ended made =
      onward (part1 names x) (made_lines names 0 x.made) (from2 c) (snap_lines names trace c) (codes "made" ∷ [])
      (reach1 c x ended ∙ ap (λ (ns : List ℕ). part1 names x ++ ((codes "made" ∷ []) ∷ (made_lines names 0 ns ++ from2 c))) made)

  reach3 : (c : Snap) (x : Parts) → c.state.ended ≡ x.ended → c.state.made ≡ x.made → c.claims.owners ≡ x.owners → c.state.objects ≡ x.objects → snap_lines names trace c ≡ part3 names x ++ from3 c
  reach3 c x ended made owners objects =
      onward (part2 names x) (object_lines names x.owners x.objects) (from3 c) (snap_lines names trace c) (codes "graph" ∷ [])
      (reach2 c x ended made ∙ ap₂ (λ (hs : List Heap) (os : List Object). part2 names x ++ ((codes "graph" ∷ []) ∷ (object_lines names hs os ++ from3 c))) owners objects)

  reach4 : (c : Snap) (x : Parts) → c.state.ended ≡ x.ended → c.state.made ≡ x.made → c.claims.owners ≡ x.owners → c.state.objects ≡ x.objects → root_lines names trace c.state ≡ rows_lines names 0 x.rows → snap_lines names trace c ≡ part4 names x ++ from4 c
  reach4 c x ended made owners objects rows =
      onward (part3 names x) (rows_lines names 0 x.rows) (from4 c) (snap_lines names trace c) (codes "roots" ∷ [])
      (reach3 c x ended made owners objects ∙ ap (λ (ls : List (List Text)). part3 names x ++ ((codes "roots" ∷ []) ∷ (ls ++ from4 c))) rows)

  -- a snapshot that says the same up to the registers
  record SaysUpto4 (c : Snap) (x : Parts) : Type 0 where
    ended : c.state.ended ≡ x.ended
    made : c.state.made ≡ x.made
    owners : c.claims.owners ≡ x.owners
    objects : c.state.objects ≡ x.objects
    rows : root_lines names trace c.state ≡ rows_lines names 0 x.rows

  reach5 : (c : Snap) (x : Parts) → SaysUpto4 c x → c.state.exits ≡ x.exits → snap_lines names trace c ≡ part5 names x ++ from5 c
  reach5 c x says exits =
      onward (part4 names x) (map (exit_words names) x.exits) (from5 c) (snap_lines names trace c) (codes "exits" ∷ [])
      (reach4 c x says.ended says.made says.owners says.objects says.rows ∙ ap (λ (es : List ExitItem). part4 names x ++ ((codes "exits" ∷ []) ∷ (map (exit_words names) es ++ from5 c))) exits)

  reach6 : (c : Snap) (x : Parts) → SaysUpto4 c x → c.state.exits ≡ x.exits → c.state.shares ≡ x.shares → snap_lines names trace c ≡ part6 names x ++ from6 c
  reach6 c x says exits shares =
      onward (part5 names x) (map (share_words names) x.shares) (from6 c) (snap_lines names trace c) (codes "shares" ∷ [])
      (reach5 c x says exits ∙ ap (λ (es : List Sharing). part5 names x ++ ((codes "shares" ∷ []) ∷ (map (share_words names) es ++ from6 c))) shares)

  reach7 : (c : Snap) (x : Parts) → SaysUpto4 c x → c.state.exits ≡ x.exits → c.state.shares ≡ x.shares → snap_lines names trace c ≡ part7 names x ++ from7 c
  reach7 c x says exits shares = onward (part6 names x) [] (from7 c) (snap_lines names trace c) (codes "charges" ∷ []) (reach6 c x says exits shares)

  first_part : (front a r d all : List (List Text)) (k : List Text) → all ≡ front ++ (k ∷ ((a ++ r) ++ d)) → all ≡ (front ++ (k ∷ a)) ++ (r ++ d)
  first_part front a r d all k e = onward front a (r ++ d) all k (e ∙ ap (λ (ls : List (List Text)). front ++ (k ∷ ls)) (append_assoc a r d))

  next_part : (front a r d all : List (List Text)) → all ≡ front ++ ((a ++ r) ++ d) → all ≡ (front ++ a) ++ (r ++ d)
  next_part front a r d all e = e ∙ ap (λ (ls : List (List Text)). front ++ ls) (append_assoc a r d) ∙ sym (append_assoc front a (r ++ d))

  -- what stands behind the limits, behind the processes
  abbrev heaps_of : Snap → List (List Text)
  heaps_of c = heap_lines names 0 c.claims.shared_bytes c.state.phases ++ []

  reach8 : (c : Snap) (x : Parts) → SaysUpto4 c x → c.state.exits ≡ x.exits → c.state.shares ≡ x.shares → c.claims.kernel ≡ x.kernel → c.claims.ceiling ≡ x.ceiling → c.claims.uses ≡ x.uses → c.state.maxima ≡ x.maxima →
      snap_lines names trace c ≡ part8 names x ++ ((process_lines names 0 c.claims.charges ++ heaps_of c) ++ from8)
  reach8 c x says exits shares kernel ceiling uses maxima =
      first_part (part7 names x) (limit_lines names 0 x.uses x.maxima) (process_lines names 0 c.claims.charges ++ heaps_of c) from8 (snap_lines names trace c) (kernel_charge_words x.kernel x.ceiling)
      (reach7 c x says exits shares
      ∙ ap₂ (λ b d. part7 names x ++ (kernel_charge_words b d ∷ ((limit_lines names 0 c.claims.uses c.state.maxima ++ (process_lines names 0 c.claims.charges ++ heaps_of c)) ++ from8))) kernel ceiling
      ∙ ap₂ (λ (us : List ℕ) (ms : List ℕ). part7 names x ++ (kernel_charge_words x.kernel x.ceiling ∷ ((limit_lines names 0 us ms ++ (process_lines names 0 c.claims.charges ++ heaps_of c)) ++ from8))) uses maxima)

  reach9 : (c : Snap) (x : Parts) → SaysUpto4 c x → c.state.exits ≡ x.exits → c.state.shares ≡ x.shares → c.claims.kernel ≡ x.kernel → c.claims.ceiling ≡ x.ceiling → c.claims.uses ≡ x.uses → c.state.maxima ≡ x.maxima → c.claims.charges ≡ x.charges →
      snap_lines names trace c ≡ part9 names x ++ (heaps_of c ++ from8)
  reach9 c x says exits shares kernel ceiling uses maxima charges =
      next_part (part8 names x) (process_lines names 0 x.charges) (heaps_of c) from8 (snap_lines names trace c)
      (reach8 c x says exits shares kernel ceiling uses maxima ∙ ap (λ (cs : List ℕ). part8 names x ++ ((process_lines names 0 cs ++ heaps_of c) ++ from8)) charges)

  -- ---- where the stage can be completed

  -- some snapshot begins so
  record Completed (stage : Stage) (x : Parts) : Type 0 where
    good : IsGood trace (reading_at trace stage x).snap
    rest : List (List Text)
    starts : snap_lines names trace (completed trace (reading_at trace stage x).snap) ≡ said names stage x ++ rest

  no_ended : GoodEnded trace []
  no_ended = record { rising = tt; known = tt }

  no_made : GoodMade trace []
  no_made = record { small = tt; few = omega arith }

  no_objects : GoodObjects trace [] []
  no_objects = record { after = tt; spelled = tt; same = refl; known = tt }

  no_exits : GoodExits trace []
  no_exits = record { ordered = tt; spelled = tt }

  no_shares : GoodShares trace []
  no_shares = record { rising = tt; spelled = tt }

  no_limits : GoodLimits trace [] []
  no_limits = record { same = refl; few = omega arith; small = tt; below = tt }

  no_charges : GoodCharges trace []
  no_charges = record { few = omega arith; small = tt }

  no_heaps : GoodHeaps trace [] []
  no_heaps = record { same = refl; few = omega arith; small = tt; spelled = tt }

  at_rest : (kernel ceiling : ℕ) → kernel < 2 ^ 64 → ceiling < 2 ^ 64 → GoodRest trace (replicate (process_count trace) 0) false kernel ceiling
  at_rest kernel ceiling small below = record { done_is = refl; open_is = refl; kernel_small = small; ceiling_small = below }

  rows_of : (rows : List (List (Option Name))) (st : State) → st.registers ≡ rows → GoodRegisters trace rows → root_lines names trace st ≡ rows_lines names 0 rows
  rows_of rows st is good =
      let long = good.long in
      all_rows names trace st (ap length is ∙ good.long) (λ p known. ap (λ (rs : List (List (Option Name))). length (get_or rs p [])) is ∙ sixteen rows good.each p (omega (arith, known, long)))
      ∙ ap (rows_lines names 0) is
    where
      sixteen : (rows : List (List (Option Name))) → AllByRecursion (λ row. length row ≡ 16) rows → (p : ℕ) → p < length rows → length (get_or rows p []) ≡ 16
      sixteen [] all p inside = absurd (omega (arith, inside))
      sixteen (row ∷ rows) all zero inside = all.0
      sixteen (row ∷ rows) all (suc p) inside = sixteen rows all.1 p (omega (arith, inside))

  -- a completed snapshot says the same up to the registers
  says : (c : Snap) (x : Parts) → c.state.ended ≡ x.ended → c.state.made ≡ x.made ++ replicate (segment_count trace - length x.made) 0 → c.claims.owners ≡ x.owners → c.state.objects ≡ x.objects → c.state.registers ≡ x.rows → Upto4 trace x → SaysUpto4 c x
  says c x ended made owners objects registers four =
      let three = four.0 in
      let two = three.0 in
      record { ended = ended; made = made ∙ full 0 x.made (segment_count trace) two.2; owners = owners; objects = objects; rows = rows_of x.rows c.state registers four.1 }

  abbrev said_so_far : Stage → Parts → Snap
  said_so_far stage x = completed trace (reading_at trace stage x).snap

  completes : (stage : Stage) (x : Parts) → Good trace stage x → Completed stage x
  completes AtStart x good = record {
    good = record { ended = no_ended; made = no_made; objects = no_objects; registers = blank_good names trace header; exits = no_exits; shares = no_shares; limits = no_limits; charges = no_charges; heaps = no_heaps; rest = at_rest 0 0 (omega arith) (omega arith); scans = refl };
    rest = snap_lines names trace (said_so_far AtStart x);
    starts = refl;
  }
  completes AtGone x good = record {
    good = record { ended = good; made = no_made; objects = no_objects; registers = blank_good names trace header; exits = no_exits; shares = no_shares; limits = no_limits; charges = no_charges; heaps = no_heaps; rest = at_rest 0 0 (omega arith) (omega arith); scans = refl };
    rest = from1 (said_so_far AtGone x);
    starts = reach1 (said_so_far AtGone x) x refl;
  }
  completes AtMade x good =
      let c = said_so_far AtMade x in
      let more = replicate (segment_count trace - length x.made) 0 in
      record {
        good = record { ended = good.0; made = good.1; objects = no_objects; registers = blank_good names trace header; exits = no_exits; shares = no_shares; limits = no_limits; charges = no_charges; heaps = no_heaps; rest = at_rest 0 0 (omega arith) (omega arith); scans = refl };
        rest = made_lines names (0 + length x.made) more ++ from2 c;
        starts = onward (part1 names x) (made_lines names 0 x.made) (made_lines names (0 + length x.made) more ++ from2 c) (snap_lines names trace c) (codes "made" ∷ [])
            (reach1 c x refl
            ∙ ap (λ (ls : List (List Text)). part1 names x ++ ((codes "made" ∷ []) ∷ (ls ++ from2 c))) (made_more names 0 x.made more)
            ∙ ap (λ (ls : List (List Text)). part1 names x ++ ((codes "made" ∷ []) ∷ ls)) (append_assoc (made_lines names 0 x.made) (made_lines names (0 + length x.made) more) (from2 c)));
      }
  completes AtGraph x good =
      let two = good.0 in
      record {
        good = record { ended = two.0; made = two.1; objects = good.1; registers = blank_good names trace header; exits = no_exits; shares = no_shares; limits = no_limits; charges = no_charges; heaps = no_heaps; rest = at_rest 0 0 (omega arith) (omega arith); scans = refl };
        rest = from3 (said_so_far AtGraph x);
        starts = reach3 (said_so_far AtGraph x) x refl (full 0 x.made (segment_count trace) two.2) refl refl;
      }
  completes (AtRoots least) x good =
      let three = good.0 in
      let two = three.0 in
      let c = said_so_far (AtRoots least) x in
      record {
        good = record { ended = two.0; made = two.1; objects = three.1; registers = good.1; exits = no_exits; shares = no_shares; limits = no_limits; charges = no_charges; heaps = no_heaps; rest = at_rest 0 0 (omega arith) (omega arith); scans = refl };
        rest = from4 c;
        starts = reach4 c x refl (full 0 x.made (segment_count trace) two.2) refl refl (rows_of x.rows c.state refl good.1);
      }
  completes AtExits x good =
      let four = good.0 in
      let three = four.0 in
      let two = three.0 in
      let c = said_so_far AtExits x in
      record {
        good = record { ended = two.0; made = two.1; objects = three.1; registers = four.1; exits = good.1; shares = no_shares; limits = no_limits; charges = no_charges; heaps = no_heaps; rest = at_rest 0 0 (omega arith) (omega arith); scans = refl };
        rest = from5 c;
        starts = reach5 c x (says c x refl refl refl refl refl four) refl;
      }
  completes AtShares x good =
      let five = good.0 in
      let four = five.0 in
      let three = four.0 in
      let two = three.0 in
      let c = said_so_far AtShares x in
      record {
        good = record { ended = two.0; made = two.1; objects = three.1; registers = four.1; exits = five.1; shares = good.1; limits = no_limits; charges = no_charges; heaps = no_heaps; rest = at_rest 0 0 (omega arith) (omega arith); scans = refl };
        rest = from6 c;
        starts = reach6 c x (says c x refl refl refl refl refl four) refl refl;
      }
  completes AtKernel x good =
      let five = good.0 in
      let four = five.0 in
      let three = four.0 in
      let two = three.0 in
      let c = said_so_far AtKernel x in
      record {
        good = record { ended = two.0; made = two.1; objects = three.1; registers = four.1; exits = five.1; shares = good.1; limits = no_limits; charges = no_charges; heaps = no_heaps; rest = at_rest 0 0 (omega arith) (omega arith); scans = refl };
        rest = from7 c;
        starts = reach7 c x (says c x refl refl refl refl refl four) refl refl;
      }
  completes AtLimits x good =
      let seven = good.0 in
      let six = seven.0 in
      let five = six.0 in
      let four = five.0 in
      let three = four.0 in
      let two = three.0 in
      let c = said_so_far AtLimits x in
      let limits = limit_lines names 0 x.uses x.maxima in
      let more = limit_lines names (0 + length x.uses) (replicate (length trace.limits - length x.uses) 0) (replicate (length trace.limits - length x.maxima) 0) in
      let others = process_lines names 0 c.claims.charges ++ (heap_lines names 0 c.claims.shared_bytes c.state.phases ++ []) in
      let kernel = kernel_charge_words x.kernel x.ceiling in
      record {
        good = record { ended = two.0; made = two.1; objects = three.1; registers = four.1; exits = five.1; shares = six.1; limits = good.1; charges = no_charges; heaps = no_heaps; rest = at_rest x.kernel x.ceiling seven.1 seven.2; scans = refl };
        rest = (more ++ others) ++ from8;
        starts = first_part (part7 names x) limits (more ++ others) from8 (snap_lines names trace c) kernel
            (reach7 c x (says c x refl refl refl refl refl four) refl refl
            ∙ ap (λ (ls : List (List Text)). part7 names x ++ (kernel ∷ ((ls ++ others) ++ from8))) (limits_more names 0 x.uses x.maxima (replicate (length trace.limits - length x.uses) 0) (replicate (length trace.limits - length x.maxima) 0) good.1.same)
            ∙ ap (λ (ls : List (List Text)). part7 names x ++ (kernel ∷ (ls ++ from8))) (append_assoc limits more others));
      }
  completes AtProcesses x good =
      let eight = good.0 in
      let seven = eight.0 in
      let six = seven.0 in
      let five = six.0 in
      let four = five.0 in
      let three = four.0 in
      let two = three.0 in
      let c = said_so_far AtProcesses x in
      let more = process_lines names (0 + length x.charges) (replicate (process_count trace - length x.charges) 0) in
      let others = heap_lines names 0 c.claims.shared_bytes c.state.phases ++ [] in
      record {
        good = record { ended = two.0; made = two.1; objects = three.1; registers = four.1; exits = five.1; shares = six.1; limits = eight.1; charges = good.1; heaps = no_heaps; rest = at_rest x.kernel x.ceiling seven.1 seven.2; scans = refl };
        rest = (more ++ others) ++ from8;
        starts = next_part (part8 names x) (process_lines names 0 x.charges) (more ++ others) from8 (snap_lines names trace c)
            (reach8 c x (says c x refl refl refl refl refl four) refl refl refl refl (full 0 x.uses (length trace.limits) eight.2) (full 0 x.maxima (length trace.limits) (eight.1.same ∙ eight.2))
            ∙ ap (λ (ls : List (List Text)). part8 names x ++ ((ls ++ others) ++ from8)) (processes_more names 0 x.charges (replicate (process_count trace - length x.charges) 0))
            ∙ ap (λ (ls : List (List Text)). part8 names x ++ (ls ++ from8)) (append_assoc (process_lines names 0 x.charges) more others));
      }
  completes AtHeaps x good =
      let nine = good.0 in
      let eight = nine.0 in
      let seven = eight.0 in
      let six = seven.0 in
      let five = six.0 in
      let four = five.0 in
      let three = four.0 in
      let two = three.0 in
      let c = said_so_far AtHeaps x in
      let more = heap_lines names (0 + length x.bytes) (replicate (trace.shared_heaps - length x.bytes) 0) (replicate (trace.shared_heaps - length x.phases) Unmade) in
      record {
        good = record { ended = two.0; made = two.1; objects = three.1; registers = four.1; exits = five.1; shares = six.1; limits = eight.1; charges = nine.1; heaps = good.1; rest = at_rest x.kernel x.ceiling seven.1 seven.2; scans = refl };
        rest = (more ++ []) ++ from8;
        starts = next_part (part9 names x) (heap_lines names 0 x.bytes x.phases) (more ++ []) from8 (snap_lines names trace c)
            (reach9 c x (says c x refl refl refl refl refl four) refl refl refl refl (full 0 x.uses (length trace.limits) eight.2) (full 0 x.maxima (length trace.limits) (eight.1.same ∙ eight.2)) (full 0 x.charges (process_count trace) nine.2)
            ∙ ap (λ (ls : List (List Text)). part9 names x ++ ((ls ++ []) ++ from8)) (heaps_more names 0 x.bytes (replicate (trace.shared_heaps - length x.bytes) 0) x.phases (replicate (trace.shared_heaps - length x.phases) Unmade) good.1.same)
            ∙ ap (λ (ls : List (List Text)). part9 names x ++ (ls ++ from8)) (append_assoc (heap_lines names 0 x.bytes x.phases) more []));
      }
  completes AtOver x good =
      let nine = good.0 in
      let eight = nine.0 in
      let seven = eight.0 in
      let six = seven.0 in
      let five = six.0 in
      let four = five.0 in
      let three = four.0 in
      let two = three.0 in
      let c = said_so_far AtOver x in
      record {
        good = record { ended = two.0; made = two.1; objects = three.1; registers = four.1; exits = five.1; shares = six.1; limits = eight.1; charges = nine.1; heaps = good.1; rest = at_rest x.kernel x.ceiling seven.1 seven.2; scans = refl };
        rest = [];
        starts = next_part (part9 names x) (heap_lines names 0 x.bytes x.phases) [] from8 (snap_lines names trace c)
            (reach9 c x (says c x refl refl refl refl refl four) refl refl refl refl (full 0 x.uses (length trace.limits) eight.2) (full 0 x.maxima (length trace.limits) (eight.1.same ∙ eight.2)) (full 0 x.charges (process_count trace) nine.2)
            ∙ ap₂ (λ (bs : List ℕ) (ps : List Phase). part9 names x ++ ((heap_lines names 0 bs ps ++ []) ++ from8)) (full 0 x.bytes trace.shared_heaps good.2) (full Unmade x.phases trace.shared_heaps (good.1.same ∙ good.2)))
            ∙ sym (append-nil (part10 names x ++ from8));
      }

  -- ---- the law

  -- where a run leads from a stage
  record IsReached (rd : Reading) (lines : List Text) (before : List (List Text)) : Type 0 where
    stage : Stage
    parts : Parts
    good : Good trace stage parts
    is : rd ≡ reading_at trace stage parts
    read : map line_of (said names stage parts) ≡ map line_of before ++ lines

  reached : (lines : List Text) (stage : Stage) (x : Parts) (rd : Reading) → Good trace stage x → run names trace (reading_at trace stage x) lines ≡ Some rd → IsReached rd lines (said names stage x)
  reached [] stage x rd good e = record { stage = stage; parts = x; good = good; is = let same : reading_at trace stage x ≡ rd = cc in sym same; read = sym (append-nil (map line_of (said names stage x))) }
  reached (line ∷ lines) stage x rd good e =
      let next = and_then_some (λ r. run names trace r lines) (read_line names trace (reading_at trace stage x) line) rd e in
      let one = step names trace header stage x line next.0 good next.1 in
      let more = reached lines one.stage one.parts rd one.good (ap (λ (r : Reading). run names trace r lines) (sym one.is) ∙ next.2) in
      record {
        stage = more.stage;
        parts = more.parts;
        good = more.good;
        is = more.is;
        read = more.read
            ∙ ap (λ (ls : List (List Text)). map line_of ls ++ lines) one.lines
            ∙ ap (λ (ls : List Text). ls ++ lines) (map-append line_of (said names stage x) (one.words ∷ []) ∙ ap (λ (l : Text). map line_of (said names stage x) ++ l ∷ []) one.line_is)
            ∙ append_assoc (map line_of (said names stage x)) (line ∷ []) lines;
      }

  -- a reading that is over says a whole snapshot
  over_whole : (stage : Stage) (x : Parts) (good : Good trace stage x) → is_over (reading_at trace stage x).place ≡ true → (said_so_far stage x ≡ (reading_at trace stage x).snap) × (map line_of (completes stage x good).rest ≡ [])
  unfolding completes
  over_whole AtStart x good over = absurd (false≢true over)
  over_whole AtGone x good over = absurd (false≢true over)
  over_whole AtMade x good over = absurd (false≢true over)
  over_whole AtGraph x good over = absurd (false≢true over)
  over_whole (AtRoots least) x good over = absurd (false≢true over)
  over_whole AtExits x good over = absurd (false≢true over)
  over_whole AtShares x good over = absurd (false≢true over)
  over_whole AtKernel x good over = absurd (false≢true over)
  over_whole AtLimits x good over = absurd (false≢true over)
  over_whole AtProcesses x good over = absurd (false≢true over)
  over_whole AtHeaps x good over = absurd (false≢true over)
  over_whole AtOver x good over =
      let nine = good.0 in
      let eight = nine.0 in
      let seven = eight.0 in
      let six = seven.0 in
      let five = six.0 in
      let four = five.0 in
      let three = four.0 in
      let two = three.0 in (
        rw (
          full 0 x.made (segment_count trace) two.2,
          full 0 x.uses (length trace.limits) eight.2,
          full 0 x.maxima (length trace.limits) (eight.1.same ∙ eight.2),
          full 0 x.charges (process_count trace) nine.2,
          full 0 x.bytes trace.shared_heaps good.2,
          full Unmade x.phases trace.shared_heaps (good.1.same ∙ good.2),
        ) refl,
        refl,
      )

  no_parts : Parts
  no_parts = record { ended = []; made = []; owners = []; objects = []; rows = []; exits = []; shares = []; kernel = 0; ceiling = 0; uses = []; maxima = []; charges = []; bytes = []; phases = [] }

  pub read_is_completed : CompletesRead names trace
  read_is_completed lines rd e =
      let there = reached lines AtStart no_parts rd tt e in
      let done = completes there.stage there.parts there.good in
      subst (Begins names trace lines) (sym there.is)
      (record {
        snap = said_so_far there.stage there.parts;
        rest = map line_of done.rest;
        spelled = completed_spelled trace (reading_at trace there.stage there.parts).snap done.good;
        starts = ap (map line_of) done.starts ∙ map-append line_of (said names there.stage there.parts) done.rest ∙ ap (λ (ls : List Text). ls ++ map line_of done.rest) there.read;
        whole = λ over. over_whole there.stage there.parts there.good over;
      })
