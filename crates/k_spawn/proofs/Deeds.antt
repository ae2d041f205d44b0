-- The tests of a line that is no header line.
use Rattle.std.proofs.Common.{◌≡◌, ◌∙◌, ℕ, ◌+◌, ◌&&◌, not, nat_le, nat_lt, ◌==◌, List, [], ◌∷◌, ◌++◌, Bool, true, false, cond, Some, None, Ok, Err, refl, sym, ap, subst, arith, length}
use Rattle.std.proofs.lemmas.Bool.{false≢true, lt-ltb}
use Rattle.std.proofs.lemmas.List.{length-append}
use Rattle.k_types.specs.declared.names.Pid.{Pid}
use Rattle.k_trace.specs.Words.{Text, word_at}
use Rattle.k_trace.specs.Names.{declares, is_name, number_of}
use Rattle.k_trace.specs.declared.place.Place.{Place}
use Rattle.k_trace.specs.declared.place.Place.TheVariants.{Version, Procs, Operations}
use Rattle.k_trace.specs.declared.reasons.Reason.TheVariants.{Undeclared, TooMany, AfterExit}
use Rattle.k_spawn.specs.declared.reasons.ScriptReason.TheVariants.{OfTrace, Stranger, Untimely}
use Rattle.k_spawn.specs.declared.script.Deed.{Deed}
use Rattle.k_spawn.specs.Reasons.{demands}
use Rattle.k_spawn.specs.Scripts.{Script, family, limit_names, process_names}
use Rattle.k_spawn.specs.Timely.{weight, has_left, operations_so_far, is_of_parent, is_running, is_due}
use Rattle.k_spawn.specs.Judgement.{Judged, child_line, deed_line, is_child_word, leads, with_child, with_line}
use Rattle.k_spawn.specs.Courses.{with_deed}
use Rattle.k_spawn.specs.declared.script.ScriptLine.{ScriptLine}
use Rattle.k_spawn.specs.Outcome.{ReaderState, IsReader, place_now, process_of_name, so_far}

-- a name that has a process is declared, and its number is that of the process
named_is : (b : Bool) (n : ℕ) (pid : Pid) → Some pid ≡ cond b (Some (record { 0 = n })) None → (b ≡ true) × (n ≡ pid.0)
named_is true n pid e = (refl, let same : pid ≡ record { 0 = n } = cc in sym (ap (λ (p : Pid). p.0) same))
named_is false n pid e = absurd cc

-- the line of a child passes its tests
pub child_fits : (s : Script) (ws : List Text) (pid : Pid) → (length ws == 3) ≡ true → is_name (word_at ws 1) ≡ true → is_child_word (word_at ws 1) ≡ false
    → declares (process_names s) (word_at ws 1) ≡ false → declares (limit_names s) (word_at ws 1) ≡ false → Some pid ≡ process_of_name s (word_at ws 2)
    → nat_lt (length (process_names s)) 64 ≡ true → nat_lt (length (limit_names s)) 128 ≡ true → child_line s ws ≡ leads Procs (with_child s (word_at ws 1) pid.0)
unfolding child_line demands
child_fits s ws pid form name word process limit parent few fewer =
    let known = named_is (declares (process_names s) (word_at ws 2)) (number_of (process_names s) (word_at ws 2)) pid parent in
    rw (form, name, word, process, limit, known.0, known.1, few, fewer) refl

module _ (s : Script) (name : Text) (deed : Deed) (pid : Pid) (named : Some pid ≡ process_of_name s name) where
  -- the line by the answers to its tests
  abbrev pub by_tests : ℕ → Bool → Bool → Bool → Bool → Judged
  by_tests p room left parent time =
      cond room (cond (not left) (cond parent (cond time (leads Operations (with_line s p deed)) (Err Untimely)) (Err Stranger)) (Err (OfTrace AfterExit))) (Err (OfTrace TooMany))

  abbrev tests_of : ℕ → Judged
  tests_of p =
      by_tests p (nat_le (operations_so_far (family s) s.lines + weight (family s) deed) 200000) (has_left s.lines p) (is_of_parent (family s) p deed)
      (is_running (family s) s.lines p && is_due (family s) s.lines deed)

  named_tests : deed_line s name deed ≡ tests_of pid.0
  unfolding deed_line demands
  named_tests =
      let known = named_is (declares (process_names s) name) (number_of (process_names s) name) pid named in
      ap (λ b. cond b (tests_of (number_of (process_names s) name)) (Err (OfTrace Undeclared))) known.0 ∙ ap tests_of known.1

  pub as_tested : (room left parent time : Bool) → nat_le (operations_so_far (family s) s.lines + weight (family s) deed) 200000 ≡ room → has_left s.lines pid.0 ≡ left
      → is_of_parent (family s) pid.0 deed ≡ parent → (is_running (family s) s.lines pid.0 && is_due (family s) s.lines deed) ≡ time → deed_line s name deed ≡ by_tests pid.0 room left parent time
  as_tested room left parent time a b c d =
      named_tests
      ∙ ap (λ x. by_tests pid.0 x (has_left s.lines pid.0) (is_of_parent (family s) pid.0 deed) (is_running (family s) s.lines pid.0 && is_due (family s) s.lines deed)) a
      ∙ ap (λ x. by_tests pid.0 room x (is_of_parent (family s) pid.0 deed) (is_running (family s) s.lines pid.0 && is_due (family s) s.lines deed)) b
      ∙ ap (λ x. by_tests pid.0 room left x (is_running (family s) s.lines pid.0 && is_due (family s) s.lines deed)) c
      ∙ ap (λ x. by_tests pid.0 room left parent x) d

some_lines : {A : Type 0} (xs : List A) (x : A) → nat_lt 0 (length (xs ++ x ∷ [])) ≡ true
some_lines xs x = lt-ltb _ _ (omega (arith, length-append xs (x ∷ [])))

-- the reader with one line more
abbrev pub with_more : Pid → Deed → ReaderState → ReaderState
with_more pid deed r = record r { course = with_deed r.course pid deed }

-- a line that is taken leads to the operations
pub line_taken : (r new : ReaderState) (pid : Pid) (deed : Deed) → new ≡ with_more pid deed r → r.begun ≡ true → leads Operations (with_line (so_far r).said pid.0 deed) ≡ Ok (so_far new)
line_taken r new pid deed grown begun =
    let line : ScriptLine = record { pid = pid; deed = deed } in
    let place : place_now (with_more pid deed r) ≡ Operations =
    ap (λ b. cond b (cond (nat_lt 0 (length (r.course.lines ++ line ∷ []))) Operations r.header.place) Version) begun
    ∙ ap (λ b. cond b Operations r.header.place) (some_lines r.course.lines line) in
    ap (λ (p : Place). let j : Judged = Ok (record { place = p; said = (so_far (with_more pid deed r)).said }) in j) (sym place)
    ∙ ap (λ (x : ReaderState). let j : Judged = Ok (so_far x) in j) (sym grown)

-- and its parts still belong together
pub still_ready : (r new : ReaderState) (pid : Pid) (deed : Deed) → new ≡ with_more pid deed r → r.begun ≡ true → IsReader r → IsReader new
still_ready r new pid deed grown begun ready = subst IsReader (sym grown) (record {
  past = ready.past;
  begins = ready.begins;
  waits = λ e. absurd (false≢true (sym e ∙ begun));
  header = ready.header;
  behind = ready.behind;
  named = ready.named;
  grown = ready.grown;
})
