-- From the reading of lines to the texts of snapshots and the first bad line, by two laws: what is spelled is read, and what was read can
-- be completed to what is spelled.
use Rattle.std.proofs.Common.{◌≡◌, ◌∙◌, ◌&&◌, ℕ, zero, suc, ◌+◌, ◌-◌, ◌<◌, ◌≤◌, Bool, true, false, cond, List, [], ◌∷◌, ◌++◌, length, map, take, drop, Option, Some, None, Result, Ok, Err, refl, sym, ap, ap₂, subst, arith, append-nil, length-append, eqb, eqb-true}
use Rattle.std.specs.Prelude.{option_and_then}
use Rattle.std.specs.List.{join_with_byte}
use Rattle.std.proofs.lemmas.Bool.{false≢true}
use Rattle.k_types.specs.Trace.{Trace}
use Rattle.k_words.specs.Words.{Text, line_text, text_of}
use Rattle.k_trace.specs.Named.{DeclaredNames}
use Rattle.k_audit.specs.Claims.{Snap}
use Rattle.k_audit.specs.Grammar.{IsSpelledSnap}
use Rattle.k_audit.specs.Lines.{snap_lines, snap_text}
use Rattle.k_audit.specs.declared.errors.SnapshotError.{SnapshotError}
use Rattle.k_audit.specs.declared.errors.SnapshotError.TheVariants.{Bad}
use Rattle.k_audit.specs.Reading.{Reading, ReadsSnap, is_over, is_whole, read_line, read_lines, unread}
use Rattle.k_audit.specs.Verdicts.{Fits, IsBadLine, Spells, fed_lines, onto_fed}
use Rattle.k_audit.specs.declared.places.Place.TheVariants.{Over}
use Rattle.std.proofs.lemmas.List.{take-append-drop, length-take-le}
use Rattle.k_words.proofs.Feeds.{fed}

-- ---- lists

take_front : {A : Type 0} (xs ys : List A) (m : ℕ) → m ≤ length xs → take m (xs ++ ys) ≡ take m xs
take_front xs ys zero low = refl
take_front [] ys (suc m) low = absurd (omega (arith, low))
take_front (x ∷ xs) ys (suc m) low = ap (λ zs. x ∷ zs) (take_front xs ys m (omega (arith, low)))

take_through : {A : Type 0} (xs : List A) (x : A) (ys : List A) → take (suc (length xs)) (xs ++ x ∷ ys) ≡ xs ++ x ∷ []
take_through [] x ys = refl
take_through (y ∷ xs) x ys = ap (λ zs. y ∷ zs) (take_through xs x ys)

-- ---- lines with their line feeds

fed_onto : (b : ℕ) (bytes : Text) (lines : List Text) → fed lines ≡ bytes → 0 < length bytes → fed (onto_fed b lines) ≡ b ∷ bytes
fed_onto b bytes [] e some = absurd (let none = ap length e in omega (arith, none, some))
fed_onto b bytes (l ∷ ls) e some = ap (λ (t : Text). b ∷ t) e

abbrev IsItsLines : Text → Type 0
IsItsLines bytes = is_whole bytes ≡ true → fed (fed_lines bytes) ≡ bytes

joined_cons : (b : ℕ) (bytes : Text) (t : Bool) → eqb b 10 ≡ t → IsItsLines bytes → IsItsLines (b ∷ bytes)
joined_cons b [] true e ih whole = rw e (ap (λ (n : ℕ). n ∷ []) (sym (eqb-true b 10 e)))
joined_cons b (c ∷ bytes) true e ih whole = rw e (ap₂ (λ (n : ℕ) (t : Text). n ∷ t) (sym (eqb-true b 10 e)) (ih whole))
joined_cons b [] false e ih whole = absurd (false≢true (sym e ∙ whole))
joined_cons b (c ∷ bytes) false e ih whole = rw e (fed_onto b (c ∷ bytes) (fed_lines (c ∷ bytes)) (ih whole) (omega arith))

-- a whole text is its lines
pub joined : (bytes : Text) → IsItsLines bytes
joined [] whole = refl
joined (b ∷ bytes) whole = joined_cons b bytes (eqb b 10) refl (joined bytes) whole

text_fed : (wss : List (List Text)) → text_of wss ≡ fed (map (join_with_byte 32) wss)
text_fed [] = refl
text_fed (ws ∷ wss) = ap (λ (t : Text). line_text ws ++ t) (text_fed wss)

-- ---- runs

-- the lines of a snapshot, without their line feeds
abbrev pub line_bytes : DeclaredNames → Trace → Snap → List Text
line_bytes names trace snap = map (join_with_byte 32) (snap_lines names trace snap)

-- what is read of the lines, one after the other
abbrev pub run : DeclaredNames → Trace → Reading → List Text → Option Reading
run names trace rd [] = Some rd
run names trace rd (line ∷ lines) = option_and_then (λ next. run names trace next lines) (read_line names trace rd line)

-- the reading behind the last line of the snapshot
abbrev pub read_whole : Snap → Reading
read_whole snap = record { place = Over; snap = snap }

-- what is spelled is read
abbrev pub ReadsSpelled : DeclaredNames → Trace → Type 0
ReadsSpelled names trace = (snap : Snap) → IsSpelledSnap trace snap → run names trace (unread trace) (line_bytes names trace snap) ≡ Some (read_whole snap)

-- a spelled snapshot that begins with the lines, and is what was read of them where the last one was read
pub record Begins (names : DeclaredNames) (trace : Trace) (lines : List Text) (rd : Reading) : Type 0 where
  pub snap : Snap
  pub rest : List Text
  pub spelled : IsSpelledSnap trace snap
  pub starts : line_bytes names trace snap ≡ lines ++ rest
  pub whole : is_over rd.place ≡ true → (snap ≡ rd.snap) × (rest ≡ [])

-- what was read can be completed to what is spelled
abbrev pub CompletesRead : DeclaredNames → Trace → Type 0
CompletesRead names trace = (lines : List Text) (rd : Reading) → run names trace (unread trace) lines ≡ Some rd → Begins names trace lines rd

-- the lines of a snapshot's text are those that it has
pub record HasItsLines (names : DeclaredNames) (trace : Trace) (snap : Snap) : Type 0 where
  pub lines : fed_lines (snap_text names trace snap) ≡ line_bytes names trace snap
  pub whole : is_whole (snap_text names trace snap) ≡ true

-- the laws of the reader
pub record AreReaderLaws (names : DeclaredNames) (trace : Trace) : Type 0 where
  pub complete : ReadsSpelled names trace
  pub sound : CompletesRead names trace
  pub lines : (snap : Snap) → IsSpelledSnap trace snap → HasItsLines names trace snap

pub run_append : (names : DeclaredNames) (trace : Trace) (rd : Reading) (xs ys : List Text) → run names trace rd (xs ++ ys) ≡ option_and_then (λ next. run names trace next ys) (run names trace rd xs)
run_append names trace rd [] ys = refl
run_append names trace rd (x ∷ xs) ys =
    elim (read_line names trace rd x) as (λ o. option_and_then (λ next. run names trace next (xs ++ ys)) o
    ≡ option_and_then (λ next. run names trace next ys) (option_and_then (λ next. run names trace next xs) o)) [
      | None ↦ refl
      | Some next ↦ run_append names trace next xs ys
    ]

-- where all lines are read their first ones are
front_read : (names : DeclaredNames) (trace : Trace) (rd end : Reading) (xs ys : List Text) → run names trace rd (xs ++ ys) ≡ Some end → (mid : Reading) × (run names trace rd xs ≡ Some mid) × (run names trace mid ys ≡ Some end)
front_read names trace rd end xs ys read =
    (elim (run names trace rd xs) as (λ o. run names trace rd xs ≡ o → (mid : Reading) × (run names trace rd xs ≡ Some mid) × (run names trace mid ys ≡ Some end)) [
      | None ↦ λ e. absurd (let bad : (let r : Option Reading = None in r) ≡ Some end = ap (λ (o : Option Reading). option_and_then (λ next. run names trace next ys) o) (sym e) ∙ sym (run_append names trace rd xs ys) ∙ read in cc)
      | Some mid ↦ λ e. (mid, e, ap (λ (o : Option Reading). option_and_then (λ next. run names trace next ys) o) (sym e) ∙ sym (run_append names trace rd xs ys) ∙ read)
    ]) refl

-- ---- the answers of the reading

-- all lines were read, and the last one of them was the last of a snapshot
record IsReadWhole (names : DeclaredNames) (trace : Trace) (rd : Reading) (lines : List Text) (whole : Bool) (snap : Snap) : Type 0 where
  end : Reading
  read : run names trace rd lines ≡ Some end
  over : is_over end.place ≡ true
  fed_whole : whole ≡ true
  same : end.snap ≡ snap

-- where the reading stopped: at the end, or at a line that does not fit
abbrev IsStuck : DeclaredNames → Trace → Bool → Reading → List Text → Type 0
IsStuck names trace whole rd [] = (is_over rd.place && whole) ≡ false
IsStuck names trace whole rd (line ∷ lines) = read_line names trace rd line ≡ None

record IsStopped (names : DeclaredNames) (trace : Trace) (rd : Reading) (number : ℕ) (lines : List Text) (whole : Bool) (n : ℕ) : Type 0 where
  front : List Text
  rest : List Text
  end : Reading
  parts : front ++ rest ≡ lines
  read : run names trace rd front ≡ Some end
  at : n ≡ number + length front
  stuck : IsStuck names trace whole end rest

whole_end : (rd : Reading) (number : ℕ) (whole : Bool) (snap : Snap) (over : Bool) → is_over rd.place ≡ over → cond (over && whole) (Ok rd.snap) (Err number) ≡ (let r : Result Snap ℕ = Ok snap in r) → (over ≡ true) × (whole ≡ true) × (rd.snap ≡ snap)
whole_end rd number true snap true e read = (refl, refl, cc)
whole_end rd number false snap true e read = absurd cc
whole_end rd number whole snap false e read = absurd cc

module _ (names : DeclaredNames) (trace : Trace) where
  read_ok : (rd : Reading) (number : ℕ) (lines : List Text) (whole : Bool) (snap : Snap) → read_lines names trace whole (Some rd) number lines ≡ Ok snap → IsReadWhole names trace rd lines whole snap
  unfolding read_lines
  read_ok rd number [] whole snap read =
      let parts = whole_end rd number whole snap (is_over rd.place) refl read in
      record { end = rd; read = refl; over = parts.0; fed_whole = parts.1; same = parts.2 }
  read_ok rd number (line ∷ lines) whole snap read =
      (elim (read_line names trace rd line) as (λ o. read_line names trace rd line ≡ o → read_lines names trace whole o (number + 1) lines ≡ Ok snap → IsReadWhole names trace rd (line ∷ lines) whole snap) [
        | None ↦ λ e r. absurd cc
        | Some next ↦ λ e r.
            let more = read_ok next (number + 1) lines whole snap r in
            record {
              end = more.end;
              read = ap (λ (o : Option Reading). option_and_then (λ x. run names trace x lines) o) e ∙ more.read;
              over = more.over;
              fed_whole = more.fed_whole;
              same = more.same;
            }
      ]) refl read

  stopped_end : (rd : Reading) (number n : ℕ) (whole : Bool) (b : Bool) → (is_over rd.place && whole) ≡ b → cond b (Ok rd.snap) (Err number) ≡ (let r : Result Snap ℕ = Err n in r) → IsStopped names trace rd number [] whole n
  stopped_end rd number n whole true e read = absurd cc
  stopped_end rd number n whole false e read =
      record { front = []; rest = []; end = rd; parts = refl; read = refl; at = let same : number ≡ n = cc in omega (arith, same); stuck = e }

  read_err : (rd : Reading) (number : ℕ) (lines : List Text) (whole : Bool) (n : ℕ) → read_lines names trace whole (Some rd) number lines ≡ Err n → IsStopped names trace rd number lines whole n
  unfolding read_lines
  read_err rd number [] whole n read = stopped_end rd number n whole (is_over rd.place && whole) refl read
  read_err rd number (line ∷ lines) whole n read =
      (elim (read_line names trace rd line) as (λ o. read_line names trace rd line ≡ o → read_lines names trace whole o (number + 1) lines ≡ Err n → IsStopped names trace rd number (line ∷ lines) whole n) [
        | None ↦ λ e r.
            record { front = []; rest = line ∷ lines; end = rd; parts = refl; read = refl; at = let same : number + 1 - 1 ≡ n = cc in omega (arith, same); stuck = e }
        | Some next ↦ λ e r.
            let more = read_err next (number + 1) lines whole n r in
            record {
              front = line ∷ more.front;
              rest = more.rest;
              end = more.end;
              parts = ap (λ (ls : List Text). line ∷ ls) more.parts;
              read = ap (λ (o : Option Reading). option_and_then (λ x. run names trace x more.front) o) e ∙ more.read;
              at = let is = more.at in omega (arith, is);
              stuck = more.stuck;
            }
      ]) refl read

  -- ---- the two answers

  -- what is read whole is spelled
  pub ok_is_spelled : AreReaderLaws names trace → (bytes : Text) (snap : Snap) → read_lines names trace (is_whole bytes) (Some (unread trace)) 1 (fed_lines bytes) ≡ Ok snap → Spells names trace bytes snap
  ok_is_spelled laws bytes snap read =
      let done = read_ok (unread trace) 1 (fed_lines bytes) (is_whole bytes) snap read in
      let begins = laws.sound (fed_lines bytes) done.end done.read in
      let whole = begins.whole done.over in
      let same : begins.snap ≡ snap = whole.0 ∙ done.same in
      let lines : line_bytes names trace begins.snap ≡ fed_lines bytes = begins.starts ∙ ap (λ (ls : List Text). fed_lines bytes ++ ls) whole.1 ∙ append-nil (fed_lines bytes) in
      subst (Spells names trace bytes) same
      (record { spelled = begins.spelled; text = text_fed (snap_lines names trace begins.snap) ∙ ap fed lines ∙ joined bytes done.fed_whole })

  nothing_behind : (rd : Reading) (whole : Bool) (rest : List Text) (snap : Snap) → whole ≡ true → IsStuck names trace whole rd rest → run names trace rd rest ≡ Some (read_whole snap) → ⊥
  nothing_behind rd whole [] snap fed_whole stuck read =
      let same : rd ≡ read_whole snap = cc in
      false≢true (sym stuck ∙ ap₂ (λ (r : Reading) (b : Bool). is_over r.place && b) same fed_whole)
  nothing_behind rd whole (line ∷ rest) snap fed_whole stuck read =
      let bad : (let r : Option Reading = None in r) ≡ Some (read_whole snap) = ap (λ (o : Option Reading). option_and_then (λ x. run names trace x rest) o) (sym stuck) ∙ read in absurd cc

  one_read : (rd end : Reading) (line : Text) → run names trace rd (line ∷ []) ≡ Some end → read_line names trace rd line ≡ None → ⊥
  one_read rd end line read none =
      let bad : (let r : Option Reading = None in r) ≡ Some end = ap (λ (o : Option Reading). option_and_then (λ x. run names trace x []) o) (sym none) ∙ read in absurd cc

  same_reading : (a b : Reading) → (let r : Option Reading = Some a in r) ≡ Some b → a ≡ b
  same_reading a b e = cc

  -- the line past those that were read is the first bad one
  past_front : (laws : AreReaderLaws names trace) (bytes : Text) (n : ℕ) (front rest : List Text) (end : Reading) → front ++ rest ≡ fed_lines bytes → run names trace (unread trace) front ≡ Some end → n ≡ 1 + length front →
      IsStuck names trace (is_whole bytes) end rest → Fits names trace bytes n → ⊥
  past_front laws bytes n front [] end parts read at stuck fits =
      let there = fits.there in
      let long = ap length parts in
      let all = length-append {A = Text} front [] in
      absurd (omega (arith, there, long, all, at))
  past_front laws bytes n front (line ∷ rest) end parts read at stuck fits =
      let lines = line_bytes names trace fits.snap in
      let taken : take n (fed_lines bytes) ≡ front ++ line ∷ [] = ap (λ (ls : List Text). take n ls) (sym parts) ∙ ap (λ k. take k (front ++ line ∷ rest)) (let e : n ≡ suc (length front) = omega (arith, at) in e) ∙ take_through front line rest in
      let whole : run names trace (unread trace) (take n lines ++ drop n lines) ≡ Some (read_whole fits.snap) = ap (run names trace (unread trace)) (take-append-drop n lines) ∙ laws.complete fits.snap fits.spelled in
      let some = front_read names trace (unread trace) (read_whole fits.snap) (take n lines) (drop n lines) whole in
      let first : run names trace (unread trace) (front ++ line ∷ []) ≡ Some some.0 = ap (run names trace (unread trace)) (sym taken ∙ fits.same) ∙ some.1 in
      let two = front_read names trace (unread trace) some.0 front (line ∷ []) first in
      let same : two.0 ≡ end = same_reading two.0 end (sym two.1 ∙ read) in
      one_read end some.0 line (ap (λ (r : Reading). run names trace r (line ∷ [])) (sym same) ∙ two.2) stuck

  -- what was read fits
  front_fits : (laws : AreReaderLaws names trace) (bytes : Text) (front rest : List Text) (end : Reading) (m : ℕ) → front ++ rest ≡ fed_lines bytes → run names trace (unread trace) front ≡ Some end → m ≤ length front → Fits names trace bytes m
  front_fits laws bytes front rest end m parts read low =
      let cut : run names trace (unread trace) (take m front ++ drop m front) ≡ Some end = ap (run names trace (unread trace)) (take-append-drop m front) ∙ read in
      let some = front_read names trace (unread trace) end (take m front) (drop m front) cut in
      let begins = laws.sound (take m front) some.0 some.1 in
      let here : take m (fed_lines bytes) ≡ take m front = ap (λ (ls : List Text). take m ls) (sym parts) ∙ take_front front rest m low in
      let long = length-take-le m front low in
      let there : take m (line_bytes names trace begins.snap) ≡ take m front
      = ap (λ (ls : List Text). take m ls) begins.starts ∙ take_front (take m front) begins.rest m (omega (arith, long)) ∙ take_again m front low in
      record {
        snap = begins.snap;
        spelled = begins.spelled;
        there = let all = ap length parts in let sum = length-append front rest in omega (arith, low, all, sum);
        same = here ∙ sym there;
      }
    where
      take_again : (m : ℕ) (xs : List Text) → m ≤ length xs → take m (take m xs) ≡ take m xs
      take_again zero xs low = refl
      take_again (suc m) [] low = refl
      take_again (suc m) (x ∷ xs) low = ap (λ (ys : List Text). x ∷ ys) (take_again m xs (omega (arith, low)))

  -- the line that is answered is the first bad one
  pub err_is_bad : AreReaderLaws names trace → (bytes : Text) (n : ℕ) → read_lines names trace (is_whole bytes) (Some (unread trace)) 1 (fed_lines bytes) ≡ Err n → IsBadLine names trace bytes n
  err_is_bad laws bytes n read =
      let stop = read_err (unread trace) 1 (fed_lines bytes) (is_whole bytes) n read in
      record {
        no_text = λ snap spells.
            let its = laws.lines snap spells.spelled in
            let lines : fed_lines bytes ≡ line_bytes names trace snap = ap fed_lines (sym spells.text) ∙ its.lines in
            let whole : is_whole bytes ≡ true = ap is_whole (sym spells.text) ∙ its.whole in
            let all : run names trace (unread trace) (stop.front ++ stop.rest) ≡ Some (read_whole snap) = ap (run names trace (unread trace)) (stop.parts ∙ lines) ∙ laws.complete snap spells.spelled in
            let some = front_read names trace (unread trace) (read_whole snap) stop.front stop.rest all in
            let same : some.0 ≡ stop.end = same_reading some.0 stop.end (sym some.1 ∙ stop.read) in
            nothing_behind stop.end (is_whole bytes) stop.rest snap whole stop.stuck (ap (λ (r : Reading). run names trace r stop.rest) (sym same) ∙ some.2);
        from_one = let at = stop.at in omega (arith, at);
        before = λ m lt. front_fits laws bytes stop.front stop.rest stop.end m stop.parts stop.read (let at = stop.at in omega (arith, at, lt));
        here = past_front laws bytes n stop.front stop.rest stop.end stop.parts stop.read stop.at stop.stuck;
      }

  -- the same of the answer of the call
  pub bad_answer : AreReaderLaws names trace → (bytes : Text) (e : SnapshotError) (n : ℕ) → e ≡ Bad n → ReadsSnap (Err e) (read_lines names trace (is_whole bytes) (Some (unread trace)) 1 (fed_lines bytes)) → IsBadLine names trace bytes n
  bad_answer laws bytes e n is read =
      err_is_bad laws bytes n (subst (λ (x : SnapshotError). ReadsSnap (Err x) (read_lines names trace (is_whole bytes) (Some (unread trace)) 1 (fed_lines bytes))) is read)
