-- The lines that end with a line feed, as they are found.
use Rattle.std.proofs.Common.{◌≡◌, ◌∙◌, ℕ, zero, suc, ◌+◌, ◌-◌, ◌<◌, ◌≤◌, ◌&&◌, cond, Bool, true, false, eqb, List, [], ◌∷◌, length, take, drop, refl, sym, ap, arith, one-add, add-one, Option, Some, None, Result, Ok, Err}
use Rattle.std.specs.List.{position_or_len, before_first, after_first}
use Rattle.std.proofs.lemmas.List.{take_rest}
use Rattle.k_types.specs.Trace.{Trace}
use Rattle.k_words.specs.Words.{Text}
use Rattle.k_words.proofs.Lines.{is_feed}
use Rattle.k_trace.specs.Named.{DeclaredNames}
use Rattle.k_audit.specs.Claims.{Snap}
use Rattle.std.proofs.lemmas.Bool.{false≢true}
use Rattle.k_audit.specs.Reading.{HasRead, Reading, end_of, is_over, is_whole, read_line, read_lines}
use Rattle.k_audit.specs.Verdicts.{fed_lines}

-- ---- a line and what stands behind it

abbrev FedLine : Text → Type 0
FedLine bytes = position_or_len is_feed bytes < length bytes → fed_lines bytes ≡ before_first is_feed bytes ∷ fed_lines (after_first is_feed bytes)

fed_cons : (b : ℕ) (bytes : Text) (t : Bool) → eqb b 10 ≡ t → FedLine bytes → FedLine (b ∷ bytes)
fed_cons b bytes true e ih lt = rw e refl
fed_cons b bytes false e ih lt =
    let shorter : position_or_len is_feed bytes < length bytes = omega (arith, rw e at lt) in
    rw (e, ih shorter) (simp (one-add, add-one))

fed_first : (bytes : Text) → FedLine bytes
fed_first [] lt = absurd (omega arith)
fed_first (b ∷ bytes) lt = fed_cons b bytes (eqb b 10) refl (fed_first bytes) lt

abbrev WholeRest : Text → Type 0
WholeRest bytes = position_or_len is_feed bytes < length bytes → is_whole bytes ≡ is_whole (after_first is_feed bytes)

whole_cons : (b : ℕ) (bytes : Text) (t : Bool) → eqb b 10 ≡ t → WholeRest bytes → WholeRest (b ∷ bytes)
whole_cons b [] true e ih lt = rw e refl
whole_cons b (c ∷ bytes) true e ih lt = rw e refl
whole_cons b [] false e ih lt = absurd (omega (arith, rw e at lt))
whole_cons b (c ∷ bytes) false e ih lt =
    let shorter : position_or_len is_feed (c ∷ bytes) < length (c ∷ bytes) = omega (arith, rw e at lt) in
    rw (e, ih shorter) (simp (one-add, add-one))

whole_first : (bytes : Text) → WholeRest bytes
whole_first [] lt = absurd (omega arith)
whole_first (b ∷ bytes) lt = whole_cons b bytes (eqb b 10) refl (whole_first bytes) lt

-- ---- no line feed

record HasNone (bytes : Text) : Type 0 where
  lines : fed_lines bytes ≡ []
  whole : is_whole bytes ≡ false

abbrev Unfed : Text → Type 0
Unfed bytes = length bytes ≤ position_or_len is_feed bytes → 0 < length bytes → HasNone bytes

unfed_cons : (b : ℕ) (bytes : Text) (t : Bool) → eqb b 10 ≡ t → Unfed bytes → Unfed (b ∷ bytes)
unfed_cons b bytes true e ih long some = absurd (omega (arith, rw e at long))
unfed_cons b [] false e ih long some = record { lines = rw e refl; whole = e }
unfed_cons b (c ∷ bytes) false e ih long some =
    let shorter : length (c ∷ bytes) ≤ position_or_len is_feed (c ∷ bytes) = omega (arith, rw e at long) in
    let none = ih shorter (omega arith) in
    record { lines = rw (e, none.lines) refl; whole = none.whole }

unfed : (bytes : Text) → Unfed bytes
unfed [] long some = absurd (omega arith)
unfed (b ∷ bytes) long some = unfed_cons b bytes (eqb b 10) refl (unfed bytes) long some

-- ---- reading, as the code finds the lines

not_over : (b : Bool) (snap : Snap) (number : ℕ) → cond (b && false) (Ok snap) (Err number) ≡ (let r : Result Snap ℕ = Err number in r)
not_over true snap number = refl
not_over false snap number = refl

not_finished : (rd : Reading) (number : ℕ) → end_of rd number false ≡ Err number
not_finished rd number = not_over (is_over rd.place) rd.snap number

module _ (names : DeclaredNames) (trace : Trace) (rd : Reading) (number : ℕ) (bytes : Text) where
  fits_first : position_or_len is_feed bytes < length bytes → (next : Reading) → read_line names trace rd (before_first is_feed bytes) ≡ Some next →
      read_lines names trace (is_whole bytes) (Some rd) number (fed_lines bytes) ≡ read_lines names trace (is_whole (after_first is_feed bytes)) (Some next) (number + 1) (fed_lines (after_first is_feed bytes))
  unfolding read_lines
  fits_first lt next fits =
      ap (λ (w : Bool). read_lines names trace w (Some rd) number (fed_lines bytes)) (whole_first bytes lt)
      ∙ ap (λ (ls : List Text). read_lines names trace (is_whole (after_first is_feed bytes)) (Some rd) number ls) (fed_first bytes lt)
      ∙ ap (λ (o : Option Reading). read_lines names trace (is_whole (after_first is_feed bytes)) o (number + 1) (fed_lines (after_first is_feed bytes))) fits

  refused_first : position_or_len is_feed bytes < length bytes → read_line names trace rd (before_first is_feed bytes) ≡ None → read_lines names trace (is_whole bytes) (Some rd) number (fed_lines bytes) ≡ Err number
  unfolding read_lines
  refused_first lt refused =
      ap (λ (ls : List Text). read_lines names trace (is_whole bytes) (Some rd) number ls) (fed_first bytes lt)
      ∙ ap (λ (o : Option Reading). read_lines names trace (is_whole bytes) o (number + 1) (fed_lines (after_first is_feed bytes))) refused
      ∙ ap (λ (n : ℕ). let r : Result Snap ℕ = Err n in r) (let same : number + 1 - 1 ≡ number = omega arith in same)

  -- a line that fits
  pub line_fits : (end : ℕ) → end ≡ position_or_len is_feed bytes → end < length bytes → (next : Reading) → read_line names trace rd (take end bytes) ≡ Some next →
      read_lines names trace (is_whole bytes) (Some rd) number (fed_lines bytes)
      ≡ read_lines names trace (is_whole (take (length bytes - (end + 1)) (drop (end + 1) bytes))) (Some next) (number + 1) (fed_lines (take (length bytes - (end + 1)) (drop (end + 1) bytes)))
  line_fits end e lt next fits = rw (take_rest bytes (end + 1), e) (fits_first (rw (← e) lt) next (rw (← e) fits))

  -- a line that does not
  pub line_refused : (end : ℕ) → end ≡ position_or_len is_feed bytes → end < length bytes → read_line names trace rd (take end bytes) ≡ None →
      read_lines names trace (is_whole bytes) (Some rd) number (fed_lines bytes) ≡ Err number
  line_refused end e lt refused = refused_first (rw (← e) lt) (rw (← e) refused)

  -- a last line without a line feed
  pub line_unfed : (end : ℕ) → end ≡ position_or_len is_feed bytes → length bytes ≤ end → 0 < length bytes → read_lines names trace (is_whole bytes) (Some rd) number (fed_lines bytes) ≡ Err number
  unfolding read_lines
  line_unfed end e le some =
      let none = unfed bytes (rw (← e) le) some in
      ap (λ (ls : List Text). read_lines names trace (is_whole bytes) (Some rd) number ls) none.lines ∙ ap (end_of rd number) none.whole ∙ not_finished rd number

-- the end
pub lines_end : (names : DeclaredNames) (trace : Trace) (rd : Reading) (number : ℕ) (bytes : Text) → length bytes ≡ 0 → read_lines names trace (is_whole bytes) (Some rd) number (fed_lines bytes) ≡ end_of rd number true
unfolding read_lines
lines_end names trace rd number [] none = refl
lines_end names trace rd number (b ∷ bytes) none = absurd (omega (arith, none))

-- ---- what a call answered

pub refused_then : (b : Bool) (old new : Reading) (next : Option Reading) → HasRead (Ok b) old new next → b ≡ false → next ≡ None
refused_then true old new next read e = absurd (false≢true (sym e))
refused_then false old new next read e = read

pub fits_then : (b : Bool) (old new : Reading) (next : Option Reading) → HasRead (Ok b) old new next → b ≡ true → (next ≡ Some new) × (length new.snap.state.registers ≡ length old.snap.state.registers)
fits_then true old new next read e = read
fits_then false old new next read e = absurd (false≢true e)

pub over_then : (rd : Reading) (number : ℕ) (b : Bool) → is_over rd.place ≡ b → end_of rd number true ≡ cond b (Ok rd.snap) (Err number)
over_then rd number true e = rw e refl
over_then rd number false e = rw e refl

pub taken_few : (n : ℕ) (xs : Text) → length (take n xs) ≤ n
taken_few zero xs = omega arith
taken_few (suc n) [] = omega arith
taken_few (suc n) (x ∷ xs) = let few = taken_few n xs in omega (arith, few)
