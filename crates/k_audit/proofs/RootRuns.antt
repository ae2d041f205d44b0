-- The registers of a spelled snapshot are read as what they hold.
use Rattle.std.proofs.Common.{◌≡◌, ◌∙◌, ℕ, suc, ◌+◌, ◌*◌, ◌<◌, ◌≤◌, List, [], ◌∷◌, ◌++◌, length, replicate, get_or, set, Option, Some, None, refl, sym, ap, ap₂, arith, append_assoc, length-append}
use Rattle.std.specs.Prelude.{IfSome, option_and_then}
use Rattle.std.specs.List.{AllByRecursion, flat_map}
use Rattle.std.proofs.lemmas.List.{map-append}
use Rattle.k_types.specs.declared.names.Name.{Name}
use Rattle.k_types.specs.Numbers.{numbers_below, numbers_from}
use Rattle.k_types.specs.State.{State}
use Rattle.k_types.specs.Trace.{Trace, process_count}
use Rattle.k_types.specs.Updates.{set_register}
use Rattle.k_words.specs.Words.{Text, word_at}
use Rattle.k_words.specs.Numbers.{register_word}
use Rattle.k_trace.specs.Named.{DeclaredNames}
use Rattle.k_text.specs.Named.{name_word}
use Rattle.k_text.specs.Report.{register_numbers, root_lines as one_root, roots_of_process}
use Rattle.k_audit.specs.Claims.{Snap}
use Rattle.k_audit.specs.Grammar.{IsSpelledName}
use Rattle.k_audit.specs.Lines.{root_lines}
use Rattle.k_audit.specs.Reading.{Reading, read_at}
use Rattle.k_audit.specs.declared.places.Place.TheVariants.{Roots}
use Rattle.k_audit.proofs.LinesRead.{root_read}
use Rattle.k_audit.proofs.Plainly.{IsHeader, line_of}
use Rattle.k_audit.proofs.Runs.{run, run_append}
use Rattle.k_audit.proofs.SectionRuns.{lines_of, one_more}

-- ---- lists

at_length : {A : Type 0} (xs : List A) (y : A) (ys : List A) (d : A) → get_or (xs ++ y ∷ ys) (length xs) d ≡ y
at_length [] y ys d = refl
at_length (x ∷ xs) y ys d = at_length xs y ys d

set_length : {A : Type 0} (xs : List A) (y z : A) (ys : List A) → set (xs ++ y ∷ ys) (length xs) z ≡ xs ++ z ∷ ys
set_length [] y z ys = refl
set_length (x ∷ xs) y z ys = ap (λ zs. x ∷ zs) (set_length xs y z ys)

-- ---- the lines of a row of registers

-- the line of a register
abbrev pub root_words : DeclaredNames → ℕ → ℕ → Name → List Text
root_words names p r n = word_at names.procs p ∷ register_word r ∷ name_word names n ∷ []

-- the lines of the registers of a process from that one on
abbrev pub row_lines : DeclaredNames → ℕ → ℕ → List (Option Name) → List (List Text)
row_lines names p r [] = []
row_lines names p r (None ∷ row) = row_lines names p (suc r) row
row_lines names p r (Some n ∷ row) = root_words names p r n ∷ row_lines names p (suc r) row

-- the lines of the processes from that one on
abbrev pub rows_lines : DeclaredNames → ℕ → List (List (Option Name)) → List (List Text)
rows_lines names p [] = []
rows_lines names p (row ∷ rows) = row_lines names p 0 row ++ rows_lines names (suc p) rows

row_step : (names : DeclaredNames) (p r : ℕ) (value : Option Name) (row : List (Option Name)) → one_root names p r value ++ row_lines names p (suc r) row ≡ row_lines names p r (value ∷ row)
unfolding one_root
row_step names p r None row = refl
row_step names p r (Some n) row = refl

row_from : (names : DeclaredNames) (p r : ℕ) (all row : List (Option Name)) → ((i : ℕ) → i < length row → get_or all (r + i) None ≡ get_or row i None) →
    flat_map (λ k. one_root names p k (get_or all k None)) (numbers_from r (length row)) ≡ row_lines names p r row
row_from names p r all [] same = refl
row_from names p r all (value ∷ row) same =
    let first : get_or all r None ≡ value = ap (λ k. get_or all k None) (let e : r ≡ r + 0 = omega arith in e) ∙ same 0 (omega arith) in
    let rest = row_from names p (suc r) all row (λ i inside. ap (λ k. get_or all k None) (let e : suc r + i ≡ r + suc i = omega arith in e) ∙ same (suc i) (omega (arith, inside))) in
    ap₂ (λ (x : List (List Text)) (y : List (List Text)). x ++ y) (ap (one_root names p r) first) rest ∙ row_step names p r value row

process_lines : (names : DeclaredNames) (st : State) (p : ℕ) (row : List (Option Name)) → get_or st.registers p [] ≡ row → length row ≡ 16 → roots_of_process names st p ≡ row_lines names p 0 row
unfolding roots_of_process register_numbers
process_lines names st p row is long =
    ap (λ (r : List (Option Name)). flat_map (λ k. one_root names p k (get_or r k None)) (numbers_below 16)) is
    ∙ ap (λ n. flat_map (λ k. one_root names p k (get_or row k None)) (numbers_from 0 n)) (sym long)
    ∙ row_from names p 0 row row (λ i inside. ap (λ k. get_or row k None) (let e : 0 + i ≡ i = omega arith in e))

rows_from : (names : DeclaredNames) (st : State) (p : ℕ) (rows : List (List (Option Name))) → ((i : ℕ) → i < length rows → get_or st.registers (p + i) [] ≡ get_or rows i []) → ((i : ℕ) → i < length rows → length (get_or rows i []) ≡ 16) →
    flat_map (roots_of_process names st) (numbers_from p (length rows)) ≡ rows_lines names p rows
rows_from names st p [] same each = refl
rows_from names st p (row ∷ rows) same each =
    let first : get_or st.registers p [] ≡ row = ap (λ k. get_or st.registers k []) (let e : p ≡ p + 0 = omega arith in e) ∙ same 0 (omega arith) in
    let rest = rows_from names st (suc p) rows
    (λ i inside. ap (λ k. get_or st.registers k []) (let e : suc p + i ≡ p + suc i = omega arith in e) ∙ same (suc i) (omega (arith, inside)))
    (λ i inside. each (suc i) (omega (arith, inside))) in
    ap₂ (λ (x : List (List Text)) (y : List (List Text)). x ++ y) (process_lines names st p row first (each 0 (omega arith))) rest

-- the lines of all registers, row by row
pub all_rows : (names : DeclaredNames) (trace : Trace) (st : State) → length st.registers ≡ process_count trace → ((p : ℕ) → p < process_count trace → length (get_or st.registers p []) ≡ 16) → root_lines names trace st ≡ rows_lines names 0 st.registers
all_rows names trace st long each =
    ap (λ n. flat_map (roots_of_process names st) (numbers_from 0 n)) (sym long)
    ∙ rows_from names st 0 st.registers (λ i inside. ap (λ k. get_or st.registers k []) (let e : 0 + i ≡ i = omega arith in e)) (λ i inside. each i (omega (arith, inside, long)))

-- ---- the reading

abbrev pub with_registers : Snap → List (List (Option Name)) → Snap
with_registers snap rows = record snap { state = record snap.state { registers = rows } }

-- a row of null registers
abbrev pub nulls : ℕ → List (Option Name)
nulls n = replicate n None

module _ (names : DeclaredNames) (trace : Trace) (header : IsHeader names trace) where
  -- the rows with some registers of one of them read
  abbrev part_read : List (List (Option Name)) → List (Option Name) → List (Option Name) → List (List (Option Name)) → List (List (Option Name))
  part_read done front row later = done ++ (front ++ row) ∷ later

  -- where the registers of a row were read
  record IsRowRead (snap : Snap) (done : List (List (Option Name))) (front row : List (Option Name)) (later : List (List (Option Name))) (least p r : ℕ) : Type 0 where
    next : ℕ
    low : next ≤ p * 16 + (r + length row)
    read : run names trace (record { place = Roots least; snap = with_registers snap (part_read done front (nulls (length row)) later) }) (lines_of (row_lines names p r row))
        ≡ Some (record { place = Roots next; snap = with_registers snap (part_read done front row later) })

  register_set : (snap : Snap) (done : List (List (Option Name))) (front : List (Option Name)) (rest : List (Option Name)) (later : List (List (Option Name))) (p r : ℕ) (n : Name) → p ≡ length done → r ≡ length front →
      set_register p r (Some n) (with_registers snap (part_read done front (None ∷ rest) later)).state ≡ (with_registers snap (part_read done front (Some n ∷ rest) later)).state
  unfolding set_register
  register_set snap done front rest later p r n here there =
      let rows = part_read done front (None ∷ rest) later in
      let row : get_or rows p [] ≡ front ++ None ∷ rest = ap (λ k. get_or rows k []) here ∙ at_length done (front ++ None ∷ rest) later [] in
      let new : set (get_or rows p []) r (Some n) ≡ front ++ Some n ∷ rest = ap₂ (λ (x : List (Option Name)) k. set x k (Some n)) row there ∙ set_length front None (Some n) rest in
      let all : set rows p (set (get_or rows p []) r (Some n)) ≡ part_read done front (Some n ∷ rest) later = ap₂ (λ k (x : List (Option Name)). set rows k x) here new ∙ set_length done (front ++ None ∷ rest) (front ++ Some n ∷ rest) later in
      ap (λ (xs : List (List (Option Name))). (with_registers snap xs).state) all

  run_row : (snap : Snap) (done : List (List (Option Name))) (front row : List (Option Name)) (later : List (List (Option Name))) (least p r : ℕ) → p ≡ length done → r ≡ length front → p < process_count trace → r + length row ≡ 16 →
      AllByRecursion (λ x. IfSome x (IsSpelledName trace)) row → least ≤ p * 16 + r → IsRowRead snap done front row later least p r
  unfolding read_at
  run_row snap done front [] later least p r here there known long spelled low = record { next = least; low = omega (arith, low); read = refl }
  run_row snap done front (None ∷ row) later least p r here there known long spelled low =
      let more = run_row snap done (front ++ None ∷ []) row later least p (suc r) here (let l = length-append front (None ∷ []) in omega (arith, there, l)) known (omega (arith, long)) spelled.1 (omega (arith, low)) in
      let shift : (rest : List (Option Name)) → part_read done (front ++ None ∷ []) rest later ≡ part_read done front (None ∷ rest) later = λ rest. ap (λ (x : List (Option Name)). done ++ x ∷ later) (append_assoc front (None ∷ []) rest) in
      record {
        next = more.next;
        low = let l = more.low in omega (arith, l);
        read = ap (λ (x : List (List (Option Name))). run names trace (record { place = Roots least; snap = with_registers snap x }) (lines_of (row_lines names p (suc r) row))) (sym (shift (nulls (length row))))
            ∙ more.read ∙ ap (λ (x : List (List (Option Name))). Some (record { place = Roots more.next; snap = with_registers snap x })) (shift row);
      }
  run_row snap done front (Some n ∷ row) later least p r here there known long spelled low =
      let next = p * 16 + r + 1 in
      let more = run_row snap done (front ++ Some n ∷ []) row later next p (suc r) here (let l = length-append front (Some n ∷ []) in omega (arith, there, l)) known (omega (arith, long)) spelled.1 (omega arith) in
      let shift : (rest : List (Option Name)) → part_read done (front ++ Some n ∷ []) rest later ≡ part_read done front (Some n ∷ rest) later = λ rest. ap (λ (x : List (Option Name)). done ++ x ∷ later) (append_assoc front (Some n ∷ []) rest) in
      let here_read : Reading = record { place = Roots least; snap = with_registers snap (part_read done front (nulls (suc (length row))) later) } in
      record {
        next = more.next;
        low = let l = more.low in omega (arith, l);
        read = one_more names trace header here_read (record { place = Roots next; snap = with_registers snap (part_read done front (Some n ∷ nulls (length row)) later) }) (line_of (root_words names p r n)) (lines_of (row_lines names p (suc r) row))
            (root_read names trace header p r n least here_read known (omega (arith, long)) spelled.0 low
            ∙ ap (λ (st : State). Some (record { place = Roots next; snap = record snap { state = st } })) (register_set snap done front (nulls (length row)) later p r n here there))
            ∙ ap (λ (x : List (List (Option Name))). run names trace (record { place = Roots next; snap = with_registers snap x }) (lines_of (row_lines names p (suc r) row))) (sym (shift (nulls (length row))))
            ∙ more.read ∙ ap (λ (x : List (List (Option Name))). Some (record { place = Roots more.next; snap = with_registers snap x })) (shift row);
      }

  -- rows that are not read yet
  abbrev blanks : List (List (Option Name)) → List (List (Option Name))
  blanks rows = replicate (length rows) (nulls 16)

  -- where all rows were read
  pub record AreRowsRead (snap : Snap) (done rows : List (List (Option Name))) (least p : ℕ) : Type 0 where
    pub next : ℕ
    pub read : run names trace (record { place = Roots least; snap = with_registers snap (done ++ blanks rows) }) (lines_of (rows_lines names p rows)) ≡ Some (record { place = Roots next; snap = with_registers snap (done ++ rows) })

  pub run_rows : (snap : Snap) (done rows : List (List (Option Name))) (least p : ℕ) → p ≡ length done → p + length rows ≡ process_count trace → AllByRecursion (λ row. length row ≡ 16) rows → AllByRecursion (AllByRecursion (λ x. IfSome x (IsSpelledName trace))) rows → least ≤ p * 16 →
      AreRowsRead snap done rows least p
  run_rows snap done [] least p here long sixteen spelled low = record { next = least; read = refl }
  run_rows snap done (row ∷ rows) least p here long sixteen spelled low =
      let one = run_row snap done [] row (blanks rows) least p 0 here refl (omega (arith, long)) (let s = sixteen.0 in omega (arith, s)) spelled.0 (omega (arith, low)) in
      let more = run_rows snap (done ++ row ∷ []) rows one.next (suc p) (let l = length-append done (row ∷ []) in omega (arith, here, l)) (omega (arith, long)) sixteen.1 spelled.1 (let l = one.low in let s = sixteen.0 in omega (arith, l, s)) in
      let shift : (rest : List (List (Option Name))) → (done ++ row ∷ []) ++ rest ≡ done ++ row ∷ rest = λ rest. append_assoc done (row ∷ []) rest in
      let start : Reading = record { place = Roots least; snap = with_registers snap (done ++ blanks (row ∷ rows)) } in
      let first : run names trace start (lines_of (row_lines names p 0 row)) ≡ Some (record { place = Roots one.next; snap = with_registers snap (done ++ row ∷ blanks rows) })
      = ap (λ n. run names trace (record { place = Roots least; snap = with_registers snap (done ++ nulls n ∷ blanks rows) }) (lines_of (row_lines names p 0 row))) (sym sixteen.0) ∙ one.read in
      record {
        next = more.next;
        read = ap (run names trace start) (map-append line_of (row_lines names p 0 row) (rows_lines names (suc p) rows))
            ∙ run_append names trace start (lines_of (row_lines names p 0 row)) (lines_of (rows_lines names (suc p) rows))
            ∙ ap (λ (o : Option Reading). option_and_then (λ x. run names trace x (lines_of (rows_lines names (suc p) rows))) o) first
            ∙ ap (λ (x : List (List (Option Name))). run names trace (record { place = Roots one.next; snap = with_registers snap x }) (lines_of (rows_lines names (suc p) rows))) (sym (shift (blanks rows)))
            ∙ more.read ∙ ap (λ (x : List (List (Option Name))). Some (record { place = Roots more.next; snap = with_registers snap x })) (shift rows);
      }
