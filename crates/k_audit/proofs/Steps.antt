-- Each line that fits leads from one stage of a reading to the next, and is the line of what it adds.
use Rattle.std.proofs.Common.{◌≡◌, ◌∙◌, ◌&&◌, ◌==◌, inl, inr, ℕ, zero, suc, ◌+◌, ◌*◌, ◌^◌, ◌<◌, ◌≤◌, nat_le, nat_lt, Bool, true, false, cond, List, [], ◌∷◌, ◌++◌, length, length-set, map, replicate, get_or, set, Option, Some, None, refl, sym, ap, ap₂, subst, arith, codes, append_assoc, append-nil, length-append, eqb-true, leb-true, ltb-false, ltb-true}
use Rattle.std.specs.Prelude.{IfSome}
use Rattle.std.specs.List.{AllByRecursion}
use Rattle.std.specs.Str.{bytes_eq}
use Rattle.std.proofs.lemmas.Bool.{and_parts, or_cases}
use Rattle.std.proofs.lemmas.List.{get_or-replicate, length-replicate, map-append}
use Rattle.k_types.specs.declared.names.Name.{Name}
use Rattle.k_types.specs.State.{ExitItem, Object}
use Rattle.k_types.specs.Trace.{Trace, process_count, segment_count, segment_of}
use Rattle.k_types.specs.Updates.{set_register}
use Rattle.k_words.specs.Words.{Text, word_at, words_of}
use Rattle.k_words.proofs.Spelled.{same}
use Rattle.k_trace.specs.Named.{DeclaredNames}
use Rattle.k_text.specs.Report.{kernel_charge_words, limit_charge_words, object_words, process_charge_words, shared_charge_words}
use Rattle.k_reports.proofs.Options.{if_some, map_some, some_is}
use Rattle.k_audit.specs.Grammar.{IsAfter, IsExitAfter, IsNumber, IsSpelledName, share_place}
use Rattle.k_audit.specs.Lines.{exit_line as exit_words, gone_words, heap_lines, limit_lines, made_lines, made_words, object_lines, process_lines, share_words}
use Rattle.k_audit.specs.Reading.{Reading, add_exit, add_gone, add_object, add_root, add_share, at_place, charge_line, exit_line, exit_of, gone_line, gone_of, graph_line, is_after, is_exit_after, made_line, made_of, object_of, past_heading, read_at, read_line, root_line, root_of, root_place, share_line, share_of, start_line}
use Rattle.k_audit.specs.declared.places.Place.{Place}
use Rattle.k_audit.specs.declared.places.Place.TheVariants.{Gone, Made, Graph, Roots, Exits, Shares, Charges, Over}
use Rattle.k_audit.proofs.Begun.{AreAfter, GoodCharges, GoodEnded, GoodExits, GoodHeaps, GoodLimits, GoodMade, GoodObjects, GoodRegisters, GoodShares}
use Rattle.k_audit.proofs.ChargeRuns.{at_end, at_heap, at_limit, at_process}
use Rattle.k_audit.proofs.ChargesBack.{heap_line_back, kernel_back, limit_back, process_back}
use Rattle.k_audit.proofs.Means.{order}
use Rattle.k_audit.proofs.Plainly.{IsHeader, line_of}
use Rattle.k_audit.proofs.RootRuns.{nulls, root_words, rows_lines}
use Rattle.k_audit.proofs.RowsSet.{AreNullFrom, null_rows, rows_null, rows_set, rows_sixteen, rows_spelled}
use Rattle.k_audit.proofs.Stages.{Parts, Stage, AtStart, AtGone, AtMade, AtGraph, AtRoots, AtExits, AtShares, AtKernel, AtLimits, AtProcesses, AtHeaps, AtOver, at, blank_rows, claims_with, exits_last, gone_after, gone_last, graph_after, graph_last, heaps_last, limits_last, made_last, objects_last, part1, part2, part3, part4, part5, part6, part7, part8, part9, part10, processes_last, reading_at, rising_last, said, segment_after, segment_last, shares_after, shares_last, shares_rise, state_with, target_after, target_last}
use Rattle.k_audit.proofs.Upto.{Upto2, Upto3, Upto4, Upto5, Upto6, Upto7, Upto8, Upto9, Good}
use Rattle.k_audit.proofs.WordsBack.{and_then_some, exit_back, gone_back, line_words, made_back, object_back, root_back, share_back}
use Rattle.k_types.proofs.Lists.{all_push}

-- where a line leads, which is said behind those before
pub record IsStep (names : DeclaredNames) (trace : Trace) (next : Reading) (line : Text) (before : List (List Text)) : Type 0 where
  pub stage : Stage
  pub parts : Parts
  pub good : Good trace stage parts
  pub is : next ≡ reading_at trace stage parts
  pub words : List Text
  pub line_is : line_of words ≡ line
  pub lines : said names stage parts ≡ before ++ words ∷ []

-- ---- tests, read back

either : {A : Type 0} (P : Type 0) (y : A) (t : Bool) (a b : Option A) → (t ≡ true → a ≡ Some y → P) → (t ≡ false → b ≡ Some y → P) → cond t a b ≡ Some y → P
either P y true a b f g e = f refl e
either P y false a b f g e = g refl e

past_back : (wanted : Text) (place : Place) (rd next : Reading) (line : Text) → past_heading wanted place rd line ≡ Some next → (wanted ≡ line) × (at_place place rd ≡ next)
past_back wanted place rd next line e =
    let t = if_some (bytes_eq line wanted) (Some (at_place place rd)) next e in
    (sym (same line wanted t.0), some_is (at_place place rd) next t.1)

after_back : (last : Option Name) (n : Name) → is_after last n ≡ true → IsAfter last n
after_back None n e = tt
after_back (Some last) n e = e

exit_after_back : (trace : Trace) (seg : ℕ) (last : Option Name) (e : ExitItem) → is_exit_after trace seg last e ≡ true → IsExitAfter trace seg last e
exit_after_back trace seg last e t =
    elim (or_cases (nat_lt seg (segment_of trace e.heap)) ((seg == segment_of trace e.heap) && is_after last e.target) t) [
      | inl below ↦ inl (ltb-true seg (segment_of trace e.heap) below)
      | inr same ↦
          let parts = and_parts (seg == segment_of trace e.heap) (is_after last e.target) same in
          inr (eqb-true seg (segment_of trace e.heap) parts.0, after_back last e.target parts.1)
    ]

after_last : (last : Option Name) (objects : List Object) (o : Object) → AreAfter last objects → IsAfter (graph_after last objects) o.name → AreAfter last (objects ++ o ∷ [])
after_last last [] o all after = (after, tt)
after_last last (x ∷ objects) o all after = (all.0, after_last (Some x.name) objects o all.1 after)

all_blank : {A : Type 0} (holds : A → Type 0) (n : ℕ) (x : A) → holds x → AllByRecursion holds (replicate n x)
all_blank holds zero x one = tt
all_blank holds (suc n) x one = (one, all_blank holds n x one)

-- a line more behind a section
behind : (front body new : List (List Text)) (h : List Text) (l : List Text) → new ≡ body ++ l ∷ [] → front ++ (h ∷ new) ≡ (front ++ (h ∷ body)) ++ l ∷ []
behind front body new h l e = ap (λ (ls : List (List Text)). front ++ (h ∷ ls)) e ∙ sym (append_assoc front (h ∷ body) (l ∷ []))

directly : (front body new : List (List Text)) (l : List Text) → new ≡ body ++ l ∷ [] → front ++ new ≡ (front ++ body) ++ l ∷ []
directly front body new l e = ap (λ (ls : List (List Text)). front ++ ls) e ∙ sym (append_assoc front body (l ∷ []))

module _ (names : DeclaredNames) (trace : Trace) (header : IsHeader names trace) where
  abbrev Step : Reading → Text → List (List Text) → Type 0
  Step next line before = IsStep names trace next line before

  start_step : (x : Parts) (line : Text) (next : Reading) → start_line (reading_at trace AtStart x) line ≡ Some next → Step next line []
  unfolding start_line
  start_step x line next e =
      let back = past_back (codes "snapshot 1") (Gone 0) (reading_at trace AtStart x) next line e in
      record {
        stage = AtGone;
        parts = record x { ended = [] };
        good = record { rising = tt; known = tt };
        is = sym back.1;
        words = codes "snapshot" ∷ codes "1" ∷ [];
        line_is = back.0;
        lines = refl;
      }

  gone_step : (x : Parts) (line : Text) (next : Reading) → GoodEnded trace x.ended → gone_line names (gone_after 0 x.ended) (reading_at trace AtGone x) line ≡ Some next → Step next line (part1 names x)
  unfolding gone_line
  gone_step x line next good e =
      let rd = reading_at trace AtGone x in
      either (Step next line (part1 names x)) next (bytes_eq line (codes "made")) (Some (at_place (Made 0) rd)) _
      (λ heading made. record {
        stage = AtMade;
        parts = record x { made = [] };
        good = (good, record { small = tt; few = omega arith });
        is = sym (some_is (at_place (Made 0) rd) next made);
        words = codes "made" ∷ [];
        line_is = sym (same line (codes "made") heading);
        lines = refl;
      })
      (λ other found.
      let p = and_then_some _ (gone_of names (words_of line)) next found in
      let t = if_some (nat_le (gone_after 0 x.ended) p.0.0) (Some (add_gone p.0.0 rd)) next p.2 in
      let back = gone_back names trace header (words_of line) p.0 p.1 in
      let ended = x.ended ++ p.0.0 ∷ [] in
      record {
        stage = AtGone;
        parts = record x { ended = ended };
        good = record { rising = rising_last 0 x.ended p.0.0 good.rising (leb-true (gone_after 0 x.ended) p.0.0 t.0); known = all_push (λ q. q < process_count trace) x.ended p.0.0 good.known back.0 };
        is = sym (some_is (add_gone p.0.0 rd) next t.1) ∙ ap (λ k. at (Gone k) (state_with trace ended [] [] (blank_rows trace) [] [] [] []) (claims_with [] 0 0 [] [] [])) (sym (gone_last 0 x.ended p.0.0));
        words = gone_words names p.0.0;
        line_is = ap line_of (sym back.1) ∙ line_words line;
        lines = ap (λ (ls : List (List Text)). (codes "snapshot" ∷ codes "1" ∷ []) ∷ ls) (map-append (gone_words names) x.ended (p.0.0 ∷ []));
      }) e

  made_step : (x : Parts) (line : Text) (next : Reading) → GoodEnded trace x.ended → GoodMade trace x.made → made_line names trace (length x.made) (reading_at trace AtMade x) line ≡ Some next → Step next line (part2 names x)
  unfolding made_line
  made_step x line next ended good e =
      let rd = reading_at trace AtMade x in
      let seg = length x.made in
      either (Step next line (part2 names x)) next (nat_lt seg (segment_count trace)) _ (past_heading (codes "graph") (Graph None) rd line)
      (λ inside found.
      let n = map_some _ (made_of names seg (words_of line)) next found in
      let back = made_back names trace header seg n.from (words_of line) n.is in
      let made = x.made ++ n.from ∷ [] in
      let long = length-append x.made (n.from ∷ []) in
      let lt = ltb-true seg (segment_count trace) inside in
      record {
        stage = AtMade;
        parts = record x { made = made };
        good = (ended, record { small = all_push (λ m. m < 2 ^ 32) x.made n.from good.small back.0; few = omega (arith, long, lt) });
        is = sym n.made ∙ ap (λ k. at (Made k) (state_with trace x.ended made [] (blank_rows trace) [] [] [] []) (claims_with [] 0 0 [] [] [])) (let e : seg + 1 ≡ length made = omega (arith, long) in e);
        words = made_words names seg n.from;
        line_is = ap line_of (sym back.1) ∙ line_words line;
        lines = behind (part1 names x) (made_lines names 0 x.made) (made_lines names 0 made) (codes "made" ∷ []) (made_words names seg n.from)
            (made_last names 0 x.made n.from ∙ ap (λ k. made_lines names 0 x.made ++ made_words names k n.from ∷ []) (let e : 0 + length x.made ≡ seg = omega arith in e));
      })
      (λ over found.
      let back = past_back (codes "graph") (Graph None) rd next line found in
      let past = ltb-false seg (segment_count trace) over in
      let few = good.few in
      record {
        stage = AtGraph;
        parts = record x { owners = []; objects = [] };
        good = ((ended, good, omega (arith, past, few)), record { after = tt; spelled = tt; same = refl; known = tt });
        is = sym back.1;
        words = codes "graph" ∷ [];
        line_is = back.0;
        lines = refl;
      }) e

  pub blank_good : GoodRegisters trace (blank_rows trace)
  blank_good = record {
    long = length-replicate {A = List (Option Name)} (process_count trace) (nulls 16);
    each = all_blank (λ (row : List (Option Name)). length row ≡ 16) (process_count trace) (nulls 16) refl;
    spelled = all_blank (AllByRecursion (λ (r : Option Name). IfSome r (IsSpelledName trace))) (process_count trace) (nulls 16) (all_blank (λ (r : Option Name). IfSome r (IsSpelledName trace)) 16 None tt);
  }

  blank_null : AreNullFrom 0 0 (blank_rows trace)
  blank_null i r inside small low =
      let long = length-replicate {A = List (Option Name)} (process_count trace) (nulls 16) in
      ap (λ (row : List (Option Name)). get_or row r None) (get_or-replicate {A = List (Option Name)} (process_count trace) i (nulls 16) [] (omega (arith, inside, long)))
      ∙ get_or-replicate {A = Option Name} 16 r None None small

  blank_lines : rows_lines names 0 (blank_rows trace) ≡ []
  blank_lines = null_rows names 0 (blank_rows trace) blank_good.each (λ i r inside small. blank_null i r inside small (omega arith))

  graph_step : (x : Parts) (line : Text) (next : Reading) → Upto2 trace x → GoodObjects trace x.owners x.objects → graph_line names trace (graph_after None x.objects) (reading_at trace AtGraph x) line ≡ Some next → Step next line (part3 names x)
  unfolding graph_line
  graph_step x line next two good e =
      let rd = reading_at trace AtGraph x in
      either (Step next line (part3 names x)) next (bytes_eq line (codes "roots")) (Some (at_place (Roots 0) rd)) _
      (λ heading made. record {
        stage = AtRoots 0;
        parts = record x { rows = blank_rows trace };
        good = ((two, good), blank_good, blank_null);
        is = sym (some_is (at_place (Roots 0) rd) next made);
        words = codes "roots" ∷ [];
        line_is = sym (same line (codes "roots") heading);
        lines = ap (λ (ls : List (List Text)). part3 names x ++ ((codes "roots" ∷ []) ∷ ls)) blank_lines;
      })
      (λ other found.
      let o = and_then_some _ (object_of names trace (words_of line)) next found in
      let t = if_some (is_after (graph_after None x.objects) o.0.object.name) (Some (add_object o.0 rd)) next o.2 in
      let back = object_back names trace header (words_of line) o.0 o.1 in
      let objects = x.objects ++ o.0.object ∷ [] in
      let owners = x.owners ++ o.0.owner ∷ [] in
      let long = length-append x.owners (o.0.owner ∷ []) in
      let wide = length-append x.objects (o.0.object ∷ []) in
      let same = good.same in
      record {
        stage = AtGraph;
        parts = record x { owners = owners; objects = objects };
        good = (
          two,
          record {
            after = after_last None x.objects o.0.object good.after (after_back (graph_after None x.objects) o.0.object.name t.0);
            spelled = all_push _ x.objects o.0.object good.spelled back.object;
            same = omega (arith, long, wide, same);
            known = all_push _ x.owners o.0.owner good.known back.owner;
          },
        );
        is = sym (some_is (add_object o.0 rd) next t.1) ∙ ap (λ (last : Option Name). at (Graph last) (state_with trace x.ended x.made objects (blank_rows trace) [] [] [] []) (claims_with owners 0 0 [] [] [])) (sym (graph_last None x.objects o.0.object));
        words = object_words names o.0.owner o.0.object;
        line_is = ap line_of (sym back.words) ∙ line_words line;
        lines = behind (part2 names x) (object_lines names x.owners x.objects) (object_lines names owners objects) (codes "graph" ∷ []) (object_words names o.0.owner o.0.object) (objects_last names x.owners x.objects o.0.owner o.0.object good.same);
      }) e

  root_step : (x : Parts) (least : ℕ) (line : Text) (next : Reading) → Upto3 trace x → GoodRegisters trace x.rows → AreNullFrom 0 least x.rows → root_line names least (reading_at trace (AtRoots least) x) line ≡ Some next → Step next line (part4 names x)
  unfolding root_line set_register
  root_step x least line next three good null e =
      let rd = reading_at trace (AtRoots least) x in
      either (Step next line (part4 names x)) next (bytes_eq line (codes "exits")) (Some (at_place (Exits 0 None) rd)) _
      (λ heading made. record {
        stage = AtExits;
        parts = record x { exits = [] };
        good = ((three, good), record { ordered = tt; spelled = tt });
        is = sym (some_is (at_place (Exits 0 None) rd) next made);
        words = codes "exits" ∷ [];
        line_is = sym (same line (codes "exits") heading);
        lines = refl;
      })
      (λ other found.
      let root = and_then_some _ (root_of names (words_of line)) next found in
      let p = root.0.process in
      let r = root.0.register in
      let n = root.0.name in
      let t = if_some (nat_le least (root_place root.0)) (Some (add_root root.0 rd)) next root.2 in
      let back = root_back names trace header (words_of line) root.0 root.1 in
      let low : least ≤ p * 16 + r = leb-true least (root_place root.0) t.0 in
      let known = back.0 in
      let long = good.long in
      let inside : p < length x.rows = omega (arith, known, long) in
      let row = set (get_or x.rows p []) r (Some n) in
      let rows = set x.rows p row in
      record {
        stage = AtRoots (p * 16 + r + 1);
        parts = record x { rows = rows };
        good = (
          three,
          record {
            long = length-set x.rows p row ∙ good.long;
            each = rows_sixteen x.rows p r n inside good.each;
            spelled = rows_spelled (IsSpelledName trace) x.rows p r n inside back.2 good.spelled;
          },
          rows_null x.rows p r least n inside back.1 low null,
        );
        is = sym (some_is (add_root root.0 rd) next t.1);
        words = root_words names p r n;
        line_is = ap line_of (sym back.3) ∙ line_words line;
        lines = behind (part3 names x) (rows_lines names 0 x.rows) (rows_lines names 0 rows) (codes "roots" ∷ []) (root_words names p r n)
            (rows_set names 0 p r least n x.rows inside back.1 (let there : least ≤ (0 + p) * 16 + r = omega (arith, low) in there) good.each null ∙ ap (λ k. rows_lines names 0 x.rows ++ root_words names k r n ∷ []) (let e : 0 + p ≡ p = omega arith in e));
      }) e

  exit_step : (x : Parts) (line : Text) (next : Reading) → Upto4 trace x → GoodExits trace x.exits → exit_line names trace (segment_after trace 0 x.exits) (target_after None x.exits) (reading_at trace AtExits x) line ≡ Some next → Step next line (part5 names x)
  unfolding exit_line
  exit_step x line next four good e =
      let rd = reading_at trace AtExits x in
      let seg = segment_after trace 0 x.exits in
      let last = target_after None x.exits in
      either (Step next line (part5 names x)) next (bytes_eq line (codes "shares")) (Some (at_place (Shares 0) rd)) _
      (λ heading made. record {
        stage = AtShares;
        parts = record x { shares = [] };
        good = ((four, good), record { rising = tt; spelled = tt });
        is = sym (some_is (at_place (Shares 0) rd) next made);
        words = codes "shares" ∷ [];
        line_is = sym (same line (codes "shares") heading);
        lines = refl;
      })
      (λ other found.
      let y = and_then_some _ (exit_of names (words_of line)) next found in
      let t = if_some (is_exit_after trace seg last y.0) (Some (add_exit trace y.0 rd)) next y.2 in
      let back = exit_back names trace header (words_of line) y.0 y.1 in
      let exits = x.exits ++ y.0 ∷ [] in
      record {
        stage = AtExits;
        parts = record x { exits = exits };
        good = (
          four,
          record {
            ordered = exits_last trace 0 None x.exits y.0 good.ordered (exit_after_back trace seg last y.0 t.0);
            spelled = all_push _ x.exits y.0 good.spelled back.0;
          },
        );
        is = sym (some_is (add_exit trace y.0 rd) next t.1)
            ∙ ap₂ (λ k (m : Option Name). at (Exits k m) (state_with trace x.ended x.made x.objects x.rows exits [] [] []) (claims_with x.owners 0 0 [] [] [])) (sym (segment_last trace 0 x.exits y.0)) (sym (target_last None x.exits y.0));
        words = exit_words names y.0;
        line_is = ap line_of (sym back.1) ∙ line_words line;
        lines = behind (part4 names x) (map (exit_words names) x.exits) (map (exit_words names) exits) (codes "exits" ∷ []) (exit_words names y.0) (map-append (exit_words names) x.exits (y.0 ∷ []));
      }) e

  share_step : (x : Parts) (line : Text) (next : Reading) → Upto5 trace x → GoodShares trace x.shares → share_line names trace (shares_after trace 0 x.shares) (reading_at trace AtShares x) line ≡ Some next → Step next line (part6 names x)
  unfolding share_line
  share_step x line next five good e =
      let rd = reading_at trace AtShares x in
      let least = shares_after trace 0 x.shares in
      either (Step next line (part6 names x)) next (bytes_eq line (codes "charges")) (Some (at_place (Charges 0) rd)) _
      (λ heading made. record {
        stage = AtKernel;
        parts = x;
        good = (five, good);
        is = sym (some_is (at_place (Charges 0) rd) next made);
        words = codes "charges" ∷ [];
        line_is = sym (same line (codes "charges") heading);
        lines = refl;
      })
      (λ other found.
      let y = and_then_some _ (share_of names (words_of line)) next found in
      let t = if_some (nat_le least (share_place trace y.0)) (Some (add_share trace y.0 rd)) next y.2 in
      let back = share_back names trace header (words_of line) y.0 y.1 in
      let shares = x.shares ++ y.0 ∷ [] in
      record {
        stage = AtShares;
        parts = record x { shares = shares };
        good = (
          five,
          record {
            rising = shares_rise trace 0 x.shares y.0 good.rising (leb-true least (share_place trace y.0) t.0);
            spelled = all_push _ x.shares y.0 good.spelled back.0;
          },
        );
        is = sym (some_is (add_share trace y.0 rd) next t.1)
            ∙ ap (λ k. at (Shares k) (state_with trace x.ended x.made x.objects x.rows x.exits shares [] []) (claims_with x.owners 0 0 [] [] [])) (sym (shares_last trace 0 x.shares y.0));
        words = share_words names y.0;
        line_is = ap line_of (sym back.1) ∙ line_words line;
        lines = behind (part5 names x) (map (share_words names) x.shares) (map (share_words names) shares) (codes "shares" ∷ []) (share_words names y.0) (map-append (share_words names) x.shares (y.0 ∷ []));
      }) e

  -- ---- charges

  kernel_step : (x : Parts) (line : Text) (next : Reading) → Upto6 trace x → charge_line names trace 0 (reading_at trace AtKernel x) line ≡ Some next → Step next line (part7 names x)
  unfolding charge_line
  kernel_step x line next six e =
      let back = kernel_back (reading_at trace AtKernel x) (words_of line) next e in
      record {
        stage = AtLimits;
        parts = record x { kernel = back.bytes; ceiling = back.ceiling; uses = []; maxima = [] };
        good = ((six, back.small, back.below), record { same = refl; few = omega arith; small = tt; below = tt });
        is = sym back.next_is;
        words = kernel_charge_words back.bytes back.ceiling;
        line_is = ap line_of (sym back.words) ∙ line_words line;
        lines = refl;
      }

  heap_step : (x : Parts) (line : Text) (next : Reading) → Upto9 trace x → GoodHeaps trace x.bytes x.phases → charge_line names trace (1 + length trace.limits + process_count trace + length x.bytes) (reading_at trace AtHeaps x) line ≡ Some next → Step next line (part10 names x)
  heap_step x line next nine good e =
      let rd = reading_at trace AtHeaps x in
      let s = length x.bytes in
      let k = 1 + length trace.limits + process_count trace + s in
      elim (order s trace.shared_heaps) [
        | inl inside ↦
            let back = heap_line_back names trace header k s rd (words_of line) next (sym (at_heap names trace header k s rd line refl inside) ∙ e) in
            let bytes = x.bytes ++ back.bytes ∷ [] in
            let phases = x.phases ++ back.phase ∷ [] in
            let long = length-append x.bytes (back.bytes ∷ []) in
            let wide = length-append x.phases (back.phase ∷ []) in
            let same = good.same in
            record {
              stage = AtHeaps;
              parts = record x { bytes = bytes; phases = phases };
              good = (
                nine,
                record {
                  same = omega (arith, long, wide, same);
                  few = omega (arith, long, inside);
                  small = all_push IsNumber x.bytes back.bytes good.small back.small;
                  spelled = all_push _ x.phases back.phase good.spelled back.spelled;
                },
              );
              is = sym back.next_is ∙ ap (λ n. at (Charges n) (state_with trace x.ended x.made x.objects x.rows x.exits x.shares x.maxima phases) (claims_with x.owners x.kernel x.ceiling x.uses x.charges bytes))
                  (let e : k + 1 ≡ 1 + length trace.limits + process_count trace + length bytes = omega (arith, long) in e);
              words = shared_charge_words names (word_at names.shared s) back.bytes back.phase;
              line_is = ap line_of (sym back.words) ∙ line_words line;
              lines = directly (part9 names x) (heap_lines names 0 x.bytes x.phases) (heap_lines names 0 bytes phases) (shared_charge_words names (word_at names.shared s) back.bytes back.phase)
                  (heaps_last names 0 x.bytes x.phases back.bytes back.phase good.same ∙ ap (λ n. heap_lines names 0 x.bytes x.phases ++ shared_charge_words names (word_at names.shared n) back.bytes back.phase ∷ []) (let e : 0 + length x.bytes ≡ s = omega arith in e));
            }
        | inr past ↦
            let few = good.few in
            let all : s ≡ trace.shared_heaps = omega (arith, past, few) in
            let back = past_back (codes "end") Over rd next line (sym (at_end names trace header k rd line (omega (arith, all))) ∙ e) in
            record {
              stage = AtOver;
              parts = x;
              good = (nine, good, all);
              is = sym back.1;
              words = codes "end" ∷ [];
              line_is = back.0;
              lines = refl;
            }
      ]

  process_step : (x : Parts) (line : Text) (next : Reading) → Upto8 trace x → GoodCharges trace x.charges → charge_line names trace (1 + length trace.limits + length x.charges) (reading_at trace AtProcesses x) line ≡ Some next → Step next line (part9 names x)
  process_step x line next eight good e =
      let rd = reading_at trace AtProcesses x in
      let p = length x.charges in
      let k = 1 + length trace.limits + p in
      elim (order p (process_count trace)) [
        | inl inside ↦
            let back = process_back names k p rd (words_of line) next (sym (at_process names trace header k p rd line refl inside) ∙ e) in
            let charges = x.charges ++ back.charge ∷ [] in
            let long = length-append x.charges (back.charge ∷ []) in
            record {
              stage = AtProcesses;
              parts = record x { charges = charges };
              good = (eight, record { few = omega (arith, long, inside); small = all_push IsNumber x.charges back.charge good.small back.small });
              is = sym back.next_is ∙ ap (λ n. at (Charges n) (state_with trace x.ended x.made x.objects x.rows x.exits x.shares x.maxima []) (claims_with x.owners x.kernel x.ceiling x.uses charges []))
                  (let e : k + 1 ≡ 1 + length trace.limits + length charges = omega (arith, long) in e);
              words = process_charge_words (word_at names.procs p) back.charge;
              line_is = ap line_of (sym back.words) ∙ line_words line;
              lines = directly (part8 names x) (process_lines names 0 x.charges) (process_lines names 0 charges) (process_charge_words (word_at names.procs p) back.charge)
                  (processes_last names 0 x.charges back.charge ∙ ap (λ n. process_lines names 0 x.charges ++ process_charge_words (word_at names.procs n) back.charge ∷ []) (let e : 0 + length x.charges ≡ p = omega arith in e));
            }
        | inr past ↦
            let few = good.few in
            let all : p ≡ process_count trace = omega (arith, past, few) in
            let y : Parts = record x { bytes = []; phases = [] } in
            let k' = 1 + length trace.limits + process_count trace + 0 in
            let same : k ≡ k' = omega (arith, all) in
            let there = ap (λ n. charge_line names trace n (at (Charges n) (state_with trace x.ended x.made x.objects x.rows x.exits x.shares x.maxima []) (claims_with x.owners x.kernel x.ceiling x.uses x.charges [])) line) (sym same) ∙ e in
            subst (Step next line) (append-nil (part9 names x)) (heap_step y line next (eight, good, all) (record { same = refl; few = omega arith; small = tt; spelled = tt }) there)
      ]

  limit_step : (x : Parts) (line : Text) (next : Reading) → Upto7 trace x → GoodLimits trace x.uses x.maxima → charge_line names trace (1 + length x.uses) (reading_at trace AtLimits x) line ≡ Some next → Step next line (part8 names x)
  limit_step x line next seven good e =
      let rd = reading_at trace AtLimits x in
      let m = length x.uses in
      let k = 1 + m in
      elim (order m (length trace.limits)) [
        | inl inside ↦
            let back = limit_back names k m rd (words_of line) next (sym (at_limit names trace header k m rd line refl inside) ∙ e) in
            let uses = x.uses ++ back.used ∷ [] in
            let maxima = x.maxima ++ back.max ∷ [] in
            let long = length-append x.uses (back.used ∷ []) in
            let wide = length-append x.maxima (back.max ∷ []) in
            let same = good.same in
            record {
              stage = AtLimits;
              parts = record x { uses = uses; maxima = maxima };
              good = (
                seven,
                record {
                  same = omega (arith, long, wide, same);
                  few = omega (arith, long, inside);
                  small = all_push IsNumber x.uses back.used good.small back.small;
                  below = all_push _ x.maxima back.max good.below back.below;
                },
              );
              is = sym back.next_is ∙ ap (λ n. at (Charges n) (state_with trace x.ended x.made x.objects x.rows x.exits x.shares maxima []) (claims_with x.owners x.kernel x.ceiling uses [] []))
                  (let e : k + 1 ≡ 1 + length uses = omega (arith, long) in e);
              words = limit_charge_words (word_at names.limits m) back.used back.max;
              line_is = ap line_of (sym back.words) ∙ line_words line;
              lines = behind (part7 names x) (limit_lines names 0 x.uses x.maxima) (limit_lines names 0 uses maxima) (kernel_charge_words x.kernel x.ceiling) (limit_charge_words (word_at names.limits m) back.used back.max)
                  (limits_last names 0 x.uses x.maxima back.used back.max good.same ∙ ap (λ n. limit_lines names 0 x.uses x.maxima ++ limit_charge_words (word_at names.limits n) back.used back.max ∷ []) (let e : 0 + length x.uses ≡ m = omega arith in e));
            }
        | inr past ↦
            let few = good.few in
            let all : m ≡ length trace.limits = omega (arith, past, few) in
            let y : Parts = record x { charges = [] } in
            let k' = 1 + length trace.limits + 0 in
            let same : k ≡ k' = omega (arith, all) in
            let there = ap (λ n. charge_line names trace n (at (Charges n) (state_with trace x.ended x.made x.objects x.rows x.exits x.shares x.maxima []) (claims_with x.owners x.kernel x.ceiling x.uses [] [])) line) (sym same) ∙ e in
            subst (Step next line) (append-nil (part8 names x)) (process_step y line next (seven, good, all) (record { few = omega arith; small = tt }) there)
      ]

  -- a line that fits is a step
  pub step : (stage : Stage) (x : Parts) (line : Text) (next : Reading) → Good trace stage x → read_line names trace (reading_at trace stage x) line ≡ Some next → Step next line (said names stage x)
  unfolding read_at
  step AtStart x line next good e = start_step x line next e
  step AtGone x line next good e = gone_step x line next good e
  step AtMade x line next good e = made_step x line next good.0 good.1 e
  step AtGraph x line next good e = graph_step x line next good.0 good.1 e
  step (AtRoots least) x line next good e = root_step x least line next good.0 good.1 good.2 e
  step AtExits x line next good e = exit_step x line next good.0 good.1 e
  step AtShares x line next good e = share_step x line next good.0 good.1 e
  step AtKernel x line next good e = kernel_step x line next good e
  step AtLimits x line next good e = limit_step x line next good.0 good.1 e
  step AtProcesses x line next good e = process_step x line next good.0 good.1 e
  step AtHeaps x line next good e = heap_step x line next good.0 good.1 e
  step AtOver x line next good e = absurd (let bad : None ≡ Some next = e in cc)
