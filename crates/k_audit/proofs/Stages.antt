-- The stages of a reading: what was read at each, and the lines that say it.
use Rattle.std.proofs.Common.{◌≡◌, ◌∙◌, ℕ, ◌+◌, ◌≤◌, false, List, [], ◌∷◌, ◌++◌, length, map, replicate, Option, Some, None, refl, ap, arith, codes}
use Rattle.k_types.specs.declared.names.Heap.{Heap}
use Rattle.k_types.specs.declared.names.Name.{Name}
use Rattle.k_types.specs.declared.names.Phase.{Phase}
use Rattle.k_types.specs.State.{ExitItem, Object, Sharing, State}
use Rattle.k_types.specs.Trace.{Trace, process_count, segment_of}
use Rattle.k_words.specs.Words.{Text, word_at}
use Rattle.k_trace.specs.Named.{DeclaredNames}
use Rattle.k_text.specs.Report.{kernel_charge_words, limit_charge_words, object_words, process_charge_words, shared_charge_words}
use Rattle.k_audit.specs.Claims.{Claims}
use Rattle.k_audit.specs.Grammar.{AreExitsFrom, AreRisingFrom, IsExitAfter, share_place}
use Rattle.k_audit.specs.Lines.{exit_line as exit_words, gone_words, heap_lines, limit_lines, made_lines, made_words, object_lines, process_lines, share_words}
use Rattle.k_audit.specs.Reading.{Reading}
use Rattle.k_audit.specs.declared.places.Place.{Place}
use Rattle.k_audit.specs.declared.places.Place.TheVariants.{Start, Gone, Made, Graph, Roots, Exits, Shares, Charges, Over}
use Rattle.k_audit.proofs.RootRuns.{nulls, rows_lines}

-- what a snapshot says, part by part
pub record Parts : Type 0 where
  pub ended : List ℕ
  pub made : List ℕ
  pub owners : List Heap
  pub objects : List Object
  pub rows : List (List (Option Name))
  pub exits : List ExitItem
  pub shares : List Sharing
  pub kernel : ℕ
  pub ceiling : ℕ
  pub uses : List ℕ
  pub maxima : List ℕ
  pub charges : List ℕ
  pub bytes : List ℕ
  pub phases : List Phase

-- how far a reading has come
pub data Stage : Type 0 where
  AtStart : Stage
  AtGone : Stage
  AtMade : Stage
  AtGraph : Stage
  AtRoots : (least : ℕ) → Stage
  AtExits : Stage
  AtShares : Stage
  AtKernel : Stage
  AtLimits : Stage
  AtProcesses : Stage
  AtHeaps : Stage
  AtOver : Stage

-- ---- where each list ends

abbrev pub gone_after : ℕ → List ℕ → ℕ
gone_after least [] = least
gone_after least (p ∷ ps) = gone_after (p + 1) ps

abbrev pub graph_after : Option Name → List Object → Option Name
graph_after last [] = last
graph_after last (o ∷ objects) = graph_after (Some o.name) objects

abbrev pub segment_after : Trace → ℕ → List ExitItem → ℕ
segment_after trace seg [] = seg
segment_after trace seg (e ∷ exits) = segment_after trace (segment_of trace e.heap) exits

abbrev pub target_after : Option Name → List ExitItem → Option Name
target_after last [] = last
target_after last (e ∷ exits) = target_after (Some e.target) exits

abbrev pub shares_after : Trace → ℕ → List Sharing → ℕ
shares_after trace least [] = least
shares_after trace least (e ∷ shares) = shares_after trace (share_place trace e + 1) shares

-- ---- what was read

abbrev pub state_with : Trace → List ℕ → List ℕ → List Object → List (List (Option Name)) → List ExitItem → List Sharing → List ℕ → List Phase → State
state_with trace ended made objects rows exits shares maxima phases = record {
  objects = objects;
  made = made;
  registers = rows;
  done = replicate (process_count trace) 0;
  exits = exits;
  shares = shares;
  phases = phases;
  ended = ended;
  scans = [];
  closed = false;
  maxima = maxima;
}

abbrev pub claims_with : List Heap → ℕ → ℕ → List ℕ → List ℕ → List ℕ → Claims
claims_with owners kernel ceiling uses charges bytes = record { owners = owners; kernel = kernel; ceiling = ceiling; uses = uses; charges = charges; shared_bytes = bytes }

abbrev pub blank_rows : Trace → List (List (Option Name))
blank_rows trace = replicate (process_count trace) (nulls 16)

abbrev pub at : Place → State → Claims → Reading
at place st claims = record { place = place; snap = record { state = st; claims = claims } }

abbrev pub reading_at : Trace → Stage → Parts → Reading
reading_at trace AtStart x = at Start (state_with trace [] [] [] (blank_rows trace) [] [] [] []) (claims_with [] 0 0 [] [] [])
reading_at trace AtGone x = at (Gone (gone_after 0 x.ended)) (state_with trace x.ended [] [] (blank_rows trace) [] [] [] []) (claims_with [] 0 0 [] [] [])
reading_at trace AtMade x = at (Made (length x.made)) (state_with trace x.ended x.made [] (blank_rows trace) [] [] [] []) (claims_with [] 0 0 [] [] [])
reading_at trace AtGraph x = at (Graph (graph_after None x.objects)) (state_with trace x.ended x.made x.objects (blank_rows trace) [] [] [] []) (claims_with x.owners 0 0 [] [] [])
reading_at trace (AtRoots least) x = at (Roots least) (state_with trace x.ended x.made x.objects x.rows [] [] [] []) (claims_with x.owners 0 0 [] [] [])
reading_at trace AtExits x = at (Exits (segment_after trace 0 x.exits) (target_after None x.exits)) (state_with trace x.ended x.made x.objects x.rows x.exits [] [] []) (claims_with x.owners 0 0 [] [] [])
reading_at trace AtShares x = at (Shares (shares_after trace 0 x.shares)) (state_with trace x.ended x.made x.objects x.rows x.exits x.shares [] []) (claims_with x.owners 0 0 [] [] [])
reading_at trace AtKernel x = at (Charges 0) (state_with trace x.ended x.made x.objects x.rows x.exits x.shares [] []) (claims_with x.owners 0 0 [] [] [])
reading_at trace AtLimits x = at (Charges (1 + length x.uses)) (state_with trace x.ended x.made x.objects x.rows x.exits x.shares x.maxima []) (claims_with x.owners x.kernel x.ceiling x.uses [] [])
reading_at trace AtProcesses x = at (Charges (1 + length trace.limits + length x.charges)) (state_with trace x.ended x.made x.objects x.rows x.exits x.shares x.maxima []) (claims_with x.owners x.kernel x.ceiling x.uses x.charges [])
reading_at trace AtHeaps x = at (Charges (1 + length trace.limits + process_count trace + length x.bytes)) (state_with trace x.ended x.made x.objects x.rows x.exits x.shares x.maxima x.phases) (claims_with x.owners x.kernel x.ceiling x.uses x.charges x.bytes)
reading_at trace AtOver x = at Over (state_with trace x.ended x.made x.objects x.rows x.exits x.shares x.maxima x.phases) (claims_with x.owners x.kernel x.ceiling x.uses x.charges x.bytes)

-- ---- the lines that say it

abbrev pub part1 : DeclaredNames → Parts → List (List Text)
part1 names x = (codes "snapshot" ∷ codes "1" ∷ []) ∷ map (gone_words names) x.ended

abbrev pub part2 : DeclaredNames → Parts → List (List Text)
part2 names x = part1 names x ++ ((codes "made" ∷ []) ∷ made_lines names 0 x.made)

abbrev pub part3 : DeclaredNames → Parts → List (List Text)
part3 names x = part2 names x ++ ((codes "graph" ∷ []) ∷ object_lines names x.owners x.objects)

abbrev pub part4 : DeclaredNames → Parts → List (List Text)
part4 names x = part3 names x ++ ((codes "roots" ∷ []) ∷ rows_lines names 0 x.rows)

abbrev pub part5 : DeclaredNames → Parts → List (List Text)
part5 names x = part4 names x ++ ((codes "exits" ∷ []) ∷ map (exit_words names) x.exits)

abbrev pub part6 : DeclaredNames → Parts → List (List Text)
part6 names x = part5 names x ++ ((codes "shares" ∷ []) ∷ map (share_words names) x.shares)

abbrev pub part7 : DeclaredNames → Parts → List (List Text)
part7 names x = part6 names x ++ ((codes "charges" ∷ []) ∷ [])

abbrev pub part8 : DeclaredNames → Parts → List (List Text)
part8 names x = part7 names x ++ (kernel_charge_words x.kernel x.ceiling ∷ limit_lines names 0 x.uses x.maxima)

abbrev pub part9 : DeclaredNames → Parts → List (List Text)
part9 names x = part8 names x ++ process_lines names 0 x.charges

abbrev pub part10 : DeclaredNames → Parts → List (List Text)
part10 names x = part9 names x ++ heap_lines names 0 x.bytes x.phases

abbrev pub said : DeclaredNames → Stage → Parts → List (List Text)
said names AtStart x = []
said names AtGone x = part1 names x
said names AtMade x = part2 names x
said names AtGraph x = part3 names x
said names (AtRoots least) x = part4 names x
said names AtExits x = part5 names x
said names AtShares x = part6 names x
said names AtKernel x = part7 names x
said names AtLimits x = part8 names x
said names AtProcesses x = part9 names x
said names AtHeaps x = part10 names x
said names AtOver x = part10 names x ++ ((codes "end" ∷ []) ∷ [])

-- ---- one more at the end

pub gone_last : (least : ℕ) (ps : List ℕ) (p : ℕ) → gone_after least (ps ++ p ∷ []) ≡ p + 1
gone_last least [] p = refl
gone_last least (q ∷ ps) p = gone_last (q + 1) ps p

pub rising_last : (least : ℕ) (ps : List ℕ) (p : ℕ) → AreRisingFrom least ps → gone_after least ps ≤ p → AreRisingFrom least (ps ++ p ∷ [])
rising_last least [] p rising low = (low, tt)
rising_last least (q ∷ ps) p rising low = (rising.0, rising_last (q + 1) ps p rising.1 low)

pub graph_last : (last : Option Name) (objects : List Object) (o : Object) → graph_after last (objects ++ o ∷ []) ≡ Some o.name
graph_last last [] o = refl
graph_last last (x ∷ objects) o = graph_last (Some x.name) objects o

pub segment_last : (trace : Trace) (seg : ℕ) (exits : List ExitItem) (e : ExitItem) → segment_after trace seg (exits ++ e ∷ []) ≡ segment_of trace e.heap
segment_last trace seg [] e = refl
segment_last trace seg (x ∷ exits) e = segment_last trace (segment_of trace x.heap) exits e

pub target_last : (last : Option Name) (exits : List ExitItem) (e : ExitItem) → target_after last (exits ++ e ∷ []) ≡ Some e.target
target_last last [] e = refl
target_last last (x ∷ exits) e = target_last (Some x.target) exits e

pub exits_last : (trace : Trace) (seg : ℕ) (last : Option Name) (exits : List ExitItem) (e : ExitItem) → AreExitsFrom trace seg last exits → IsExitAfter trace (segment_after trace seg exits) (target_after last exits) e → AreExitsFrom trace seg last (exits ++ e ∷ [])
exits_last trace seg last [] e ordered after = (after, tt)
exits_last trace seg last (x ∷ exits) e ordered after = (ordered.0, exits_last trace (segment_of trace x.heap) (Some x.target) exits e ordered.1 after)

pub shares_last : (trace : Trace) (least : ℕ) (shares : List Sharing) (e : Sharing) → shares_after trace least (shares ++ e ∷ []) ≡ share_place trace e + 1
shares_last trace least [] e = refl
shares_last trace least (x ∷ shares) e = shares_last trace (share_place trace x + 1) shares e

pub shares_rise : (trace : Trace) (least : ℕ) (shares : List Sharing) (e : Sharing) → AreRisingFrom least (map (share_place trace) shares) → shares_after trace least shares ≤ share_place trace e → AreRisingFrom least (map (share_place trace) (shares ++ e ∷ []))
shares_rise trace least [] e rising low = (low, tt)
shares_rise trace least (x ∷ shares) e rising low = (rising.0, shares_rise trace (share_place trace x + 1) shares e rising.1 low)

pub made_last : (names : DeclaredNames) (seg : ℕ) (ns : List ℕ) (n : ℕ) → made_lines names seg (ns ++ n ∷ []) ≡ made_lines names seg ns ++ made_words names (seg + length ns) n ∷ []
made_last names seg [] n = ap (λ k. made_words names k n ∷ []) (let e : seg ≡ seg + 0 = omega arith in e)
made_last names seg (m ∷ ns) n =
    ap (λ (ls : List (List Text)). made_words names seg m ∷ ls) (made_last names (1 + seg) ns n)
    ∙ ap (λ k. made_words names seg m ∷ (made_lines names (1 + seg) ns ++ made_words names k n ∷ [])) (let e : 1 + seg + length ns ≡ seg + length (m ∷ ns) = omega arith in e)

pub objects_last : (names : DeclaredNames) (owners : List Heap) (objects : List Object) (h : Heap) (o : Object) → length owners ≡ length objects →
    object_lines names (owners ++ h ∷ []) (objects ++ o ∷ []) ≡ object_lines names owners objects ++ object_words names h o ∷ []
objects_last names [] [] h o same = refl
objects_last names [] (x ∷ objects) h o same = absurd (omega (arith, same))
objects_last names (g ∷ owners) [] h o same = absurd (omega (arith, same))
objects_last names (g ∷ owners) (x ∷ objects) h o same = ap (λ (ls : List (List Text)). object_words names g x ∷ ls) (objects_last names owners objects h o (omega (arith, same)))

pub limits_last : (names : DeclaredNames) (m : ℕ) (uses maxima : List ℕ) (used max : ℕ) → length maxima ≡ length uses →
    limit_lines names m (uses ++ used ∷ []) (maxima ++ max ∷ []) ≡ limit_lines names m uses maxima ++ limit_charge_words (word_at names.limits (m + length uses)) used max ∷ []
limits_last names m [] [] used max same = ap (λ k. limit_charge_words (word_at names.limits k) used max ∷ []) (let e : m ≡ m + 0 = omega arith in e)
limits_last names m [] (x ∷ maxima) used max same = absurd (omega (arith, same))
limits_last names m (u ∷ uses) [] used max same = absurd (omega (arith, same))
limits_last names m (u ∷ uses) (x ∷ maxima) used max same =
    ap (λ (ls : List (List Text)). limit_charge_words (word_at names.limits m) u x ∷ ls) (limits_last names (1 + m) uses maxima used max (omega (arith, same)))
    ∙ ap (λ k. limit_charge_words (word_at names.limits m) u x ∷ (limit_lines names (1 + m) uses maxima ++ limit_charge_words (word_at names.limits k) used max ∷ [])) (let e : 1 + m + length uses ≡ m + length (u ∷ uses) = omega arith in e)

pub processes_last : (names : DeclaredNames) (p : ℕ) (charges : List ℕ) (charge : ℕ) → process_lines names p (charges ++ charge ∷ []) ≡ process_lines names p charges ++ process_charge_words (word_at names.procs (p + length charges)) charge ∷ []
processes_last names p [] charge = ap (λ k. process_charge_words (word_at names.procs k) charge ∷ []) (let e : p ≡ p + 0 = omega arith in e)
processes_last names p (c ∷ charges) charge =
    ap (λ (ls : List (List Text)). process_charge_words (word_at names.procs p) c ∷ ls) (processes_last names (1 + p) charges charge)
    ∙ ap (λ k. process_charge_words (word_at names.procs p) c ∷ (process_lines names (1 + p) charges ++ process_charge_words (word_at names.procs k) charge ∷ [])) (let e : 1 + p + length charges ≡ p + length (c ∷ charges) = omega arith in e)

pub heaps_last : (names : DeclaredNames) (s : ℕ) (bytes : List ℕ) (phases : List Phase) (b : ℕ) (phase : Phase) → length phases ≡ length bytes →
    heap_lines names s (bytes ++ b ∷ []) (phases ++ phase ∷ []) ≡ heap_lines names s bytes phases ++ shared_charge_words names (word_at names.shared (s + length bytes)) b phase ∷ []
heaps_last names s [] [] b phase same = ap (λ k. shared_charge_words names (word_at names.shared k) b phase ∷ []) (let e : s ≡ s + 0 = omega arith in e)
heaps_last names s [] (x ∷ phases) b phase same = absurd (omega (arith, same))
heaps_last names s (c ∷ bytes) [] b phase same = absurd (omega (arith, same))
heaps_last names s (c ∷ bytes) (x ∷ phases) b phase same =
    ap (λ (ls : List (List Text)). shared_charge_words names (word_at names.shared s) c x ∷ ls) (heaps_last names (1 + s) bytes phases b phase (omega (arith, same)))
    ∙ ap (λ k. shared_charge_words names (word_at names.shared s) c x ∷ (heap_lines names (1 + s) bytes phases ++ shared_charge_words names (word_at names.shared k) b phase ∷ [])) (let e : 1 + s + length bytes ≡ s + length (c ∷ bytes) = omega arith in e)
