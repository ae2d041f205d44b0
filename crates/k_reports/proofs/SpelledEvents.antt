-- An event is read as it is spelled.
use Rattle.std.proofs.Common.{◌≡◌, ◌∙◌, ℕ, ◌<◌, ◌^◌, true, ◌&&◌, eqb, List, [], ◌∷◌, ◌++◌, length, drop, Some, None, Result, Ok, Err, refl, sym, ap, subst, arith, codes}
use Rattle.std.specs.Prelude.{option_map}
use Rattle.std.specs.List.{before_first, after_first}
use Rattle.std.specs.Str.{bytes_eq}
use Rattle.std.proofs.lemmas.Bool.{eqb-true}
use Rattle.k_types.specs.declared.names.Pid.{Pid}
use Rattle.k_types.specs.declared.names.SharedId.{SharedId}
use Rattle.k_types.specs.declared.names.Heap.{Heap}
use Rattle.k_types.specs.declared.op.Op.{Op}
use Rattle.k_types.specs.declared.event.Reply.{Reply}
use Rattle.k_types.specs.declared.event.Event.{Event}
use Rattle.k_types.specs.declared.event.Event.TheVariants.{Done, Ended, Absorbed, Closing}
use Rattle.k_words.specs.Words.{Text, word_at}
use Rattle.k_words.specs.Numbers.{is_below, value}
use Rattle.k_words.specs.Names.{is_name, is_reserved, declares, number_of}
use Rattle.k_words.proofs.Spelled.{both, same, name_at, number_word}
use Rattle.k_words.proofs.Again.{number_of-at, declares-at, value-decimal, is_below-decimal}
use Rattle.k_trace.specs.Named.{DeclaredNames}
use Rattle.k_trace.specs.Numbered.{shared_named}
use Rattle.k_trace.specs.Spelling.{op_words}
use Rattle.k_trace.specs.Forms.{op_of, register_op, bare_op, sharing_op, governing_op}
use Rattle.k_reader.proofs.OpForms.{one, two}
use Rattle.k_trace.proofs.Pushed.{AreNames_front, number_below}
use Rattle.k_text.specs.EventLines.{event_words, reply_words}
use Rattle.k_reports.specs.Spelled.{AreProper, IsSpelledOp, IsSpelledEvent}
use Rattle.k_reports.specs.Reading.{heap_named, reply_of, ended_of, absorbed_of, closing_of, is_equals, done_with, done_of, event_of}
use Rattle.k_reports.proofs.Options.{some_is, if_some, map_some, branch}
use Rattle.k_reports.proofs.Parted.{parted_at, split_first}
use Rattle.k_reports.proofs.DoneLines.{no_reply}
use Rattle.k_reports.proofs.SpelledWords.{name_is_not, heap_word_read, read_heap_word, read_shared}
use Rattle.k_reports.proofs.SpelledOps.{read_op_words, op_words_read}
use Rattle.k_reports.proofs.SpelledFaults.{shared_again}
use Rattle.k_reports.proofs.SpelledReplies.{read_reply_words, reply_words_read}
use Rattle.k_reports.proofs.OpWords.{no_equals}

-- The words spell the event.
abbrev pub SpellsEvent : DeclaredNames → List Text → Event → Type 0
SpellsEvent names ws e = IsSpelledEvent names e × (event_words names e ≡ ws)

six : (ws : List Text) → length ws ≡ 6 → ws ≡ word_at ws 0 ∷ word_at ws 1 ∷ word_at ws 2 ∷ word_at ws 3 ∷ word_at ws 4 ∷ word_at ws 5 ∷ []
six (a ∷ b ∷ c ∷ d ∷ e ∷ f ∷ []) h = refl
six _ h = absurd cc

first_is : (ws us : List Text) (w k : Text) → word_at ws 0 ≡ w → bytes_eq w k ≡ true → ws ≡ word_at ws 0 ∷ us → k ∷ us ≡ ws
first_is ws us w k e is words = sym (words ∙ rw (e, same w k is) refl)

read_ended : (names : DeclaredNames) (ws : List Text) (e : Event) → bytes_eq (word_at ws 0) (codes "ended") ≡ true → ended_of names ws ≡ Some e → SpellsEvent names ws e
unfolding ended_of event_words
read_ended names ws e is h =
    let t = if_some _ _ e h in
    let p5 = both ((eqb (length ws) 6) && is_below (2 ^ 32) (word_at ws 2) && is_below (2 ^ 64) (word_at ws 3) && is_below (2 ^ 32) (word_at ws 4)) (is_below (2 ^ 32) (word_at ws 5)) t.0 in
    let p4 = both ((eqb (length ws) 6) && is_below (2 ^ 32) (word_at ws 2) && is_below (2 ^ 64) (word_at ws 3)) (is_below (2 ^ 32) (word_at ws 4)) p5.0 in
    let p3 = both ((eqb (length ws) 6) && is_below (2 ^ 32) (word_at ws 2)) (is_below (2 ^ 64) (word_at ws 3)) p4.0 in
    let p2 = both (eqb (length ws) 6) (is_below (2 ^ 32) (word_at ws 2)) p3.0 in
    let n2 = number_word (2 ^ 32) (word_at ws 2) (omega arith) p2.1 in
    let n3 = number_word (2 ^ 64) (word_at ws 3) (omega arith) p3.1 in
    let n4 = number_word (2 ^ 32) (word_at ws 4) (omega arith) p4.1 in
    let n5 = number_word (2 ^ 32) (word_at ws 5) (omega arith) p5.1 in
    let m = map_some (λ (g : Heap). Ended g (value (word_at ws 2)) (value (word_at ws 3)) (value (word_at ws 4)) (value (word_at ws 5))) (heap_named names (word_at ws 1)) e t.1 in
    let r = read_heap_word names (word_at ws 1) m.from m.is in
    subst (SpellsEvent names ws) m.made ((r.0, n2.1, n3.1, n4.1, n5.1), rw (r.1, n2.0, n3.0, n4.0, n5.0) (first_is ws _ _ (codes "ended") refl is (six ws (eqb-true _ _ p2.0))))

read_absorbed : (names : DeclaredNames) (ws : List Text) (e : Event) → bytes_eq (word_at ws 0) (codes "absorbed") ≡ true → absorbed_of names ws ≡ Some e → SpellsEvent names ws e
unfolding absorbed_of event_words
read_absorbed names ws e is h =
    let t = if_some (eqb (length ws) 2) _ e h in
    let m = map_some Absorbed (shared_named names (word_at ws 1)) e t.1 in
    let r = read_shared names (word_at ws 1) m.from m.is in
    subst (SpellsEvent names ws) m.made (r.0, rw r.1 (first_is ws _ _ (codes "absorbed") refl is (two ws (eqb-true _ _ t.0))))

read_closing : (names : DeclaredNames) (ws : List Text) (e : Event) → bytes_eq (word_at ws 0) (codes "closing") ≡ true → closing_of ws ≡ Some e → SpellsEvent names ws e
unfolding closing_of event_words
read_closing names ws e is h =
    let t = if_some (eqb (length ws) 1) (Some Closing) e h in
    subst (SpellsEvent names ws) (some_is Closing e t.1) (tt, first_is ws [] _ (codes "closing") refl is (one ws (eqb-true _ _ t.0)))

-- There is a word at least before an operation's words.
no_words : (names : DeclaredNames) (op : Op) → op_of names [] ≡ Ok op → ⊥
unfolding op_of register_op bare_op sharing_op governing_op
no_words names op e = absurd cc

-- The words behind the first are read as the operation.
abbrev Found : DeclaredNames → List Text → Op → Type 0
Found names before op = IsSpelledOp names op × (word_at before 0 ∷ op_words names op ≡ before)

one_up : (names : DeclaredNames) (ws : List Text) (op : Op) → op_of names (drop 1 ws) ≡ Ok op → word_at ws 0 ∷ drop 1 ws ≡ ws
one_up names [] op e = absurd (no_words names op e)
one_up names (w ∷ ws) op e = refl

found_op : (names : DeclaredNames) (before : List Text) (op : Op) → op_of names (drop 1 before) ≡ Ok op → Found names before op
found_op names before op e =
    let f = read_op_words names (drop 1 before) op e in
    (f.0, ap (λ (us : List Text). word_at before 0 ∷ us) f.1 ∙ one_up names before op e)

read_with : {E : Type 0} (names : DeclaredNames) (ws before after : List Text) (e : Event) (r : Result Op E) → ((op : Op) → r ≡ Ok op → Found names before op) → before ++ codes "=" ∷ after ≡ ws
    → done_with names (word_at before 0) r after ≡ Some e → SpellsEvent names ws e
unfolding event_words
read_with names ws before after e (Err reason) found whole h = absurd cc
read_with names ws before after e (Ok op) found whole h =
    let f = found op refl in
    let t = if_some (declares names.procs (word_at before 0)) _ e h in
    let m = map_some (Done (record { 0 = number_of names.procs (word_at before 0) }) op) (reply_of names op after) e t.1 in
    let r = read_reply_words names op after m.from m.is in
    subst (SpellsEvent names ws) m.made (
      (number_below names.procs (word_at before 0) t.0, f.0, r.0),
      rw (name_at names.procs (word_at before 0) t.0, r.1) (ap (λ (us : List Text). us ++ codes "=" ∷ after) f.1 ∙ whole),
    )

read_parts : {E : Type 0} (names : DeclaredNames) (ws before after : List Text) (e : Event) (r : Result Op E) → ((op : Op) → r ≡ Ok op → Found names before op) → (0 < length after → before ++ codes "=" ∷ after ≡ ws)
    → done_with names (word_at before 0) r after ≡ Some e → SpellsEvent names ws e
read_parts names ws before [] e r found whole h = absurd (let f : None ≡ Some e = no_reply names (word_at before 0) r ∙ h in cc)
read_parts names ws before (a ∷ after) e r found whole h = read_with names ws before (a ∷ after) e r found (whole (omega arith)) h

read_done : (names : DeclaredNames) (ws : List Text) (e : Event) → done_of names ws ≡ Some e → SpellsEvent names ws e
unfolding done_of
read_done names ws e h =
    read_parts names ws (before_first is_equals ws) (after_first is_equals ws) e (op_of names (drop 1 (before_first is_equals ws)))
    (found_op names (before_first is_equals ws)) (split_first is_equals (codes "=") (λ w is. same w (codes "=") is) ws) h

-- What is read as an event spells it.
pub read_event_words : (names : DeclaredNames) (ws : List Text) (e : Event) → event_of names ws ≡ Some e → IsSpelledEvent names e × (event_words names e ≡ ws)
unfolding event_of
read_event_words names ws e h =
    branch (SpellsEvent names ws) e (bytes_eq (word_at ws 0) (codes "ended")) _ _ (read_ended names ws e)
    (branch (SpellsEvent names ws) e (bytes_eq (word_at ws 0) (codes "absorbed")) _ _ (read_absorbed names ws e)
    (branch (SpellsEvent names ws) e (bytes_eq (word_at ws 0) (codes "closing")) _ _ (read_closing names ws e)
    (read_done names ws e))) h

-- ---- the other way

ended_read : (names : DeclaredNames) (h : Heap) (objects bytes exits shares : ℕ) → AreProper names → IsSpelledEvent names (Ended h objects bytes exits shares)
    → event_of names (event_words names (Ended h objects bytes exits shares)) ≡ Some (Ended h objects bytes exits shares)
unfolding event_of ended_of event_words
ended_read names h objects bytes exits shares proper s =
    rw (
      is_below-decimal objects (2 ^ 32) s.1 (omega arith),
      is_below-decimal bytes (2 ^ 64) s.2 (omega arith),
      is_below-decimal exits (2 ^ 32) s.3 (omega arith),
      is_below-decimal shares (2 ^ 32) s.4 (omega arith),
      heap_word_read names h proper s.0,
      value-decimal objects (omega (arith, s.1)),
      value-decimal bytes s.2,
      value-decimal exits (omega (arith, s.3)),
      value-decimal shares (omega (arith, s.4)),
    ) refl

absorbed_read : (names : DeclaredNames) (s : SharedId) → AreProper names → s.0 < length names.shared → event_of names (event_words names (Absorbed s)) ≡ Some (Absorbed s)
unfolding event_of absorbed_of event_words
absorbed_read names s proper lt = ap (option_map Absorbed) (shared_again names s proper lt)

closing_read : (names : DeclaredNames) → event_of names (event_words names Closing) ≡ Some Closing
unfolding event_of closing_of event_words
closing_read names = refl

-- A line that begins with a process's name is an operation's.
first_of_done : (names : DeclaredNames) (w : Text) (ws : List Text) → is_name w ≡ true → event_of names (w ∷ ws) ≡ done_of names (w ∷ ws)
unfolding event_of is_reserved
first_of_done names w ws h = rw (name_is_not w (codes "ended") h refl, name_is_not w (codes "absorbed") h refl, name_is_not w (codes "closing") h refl) refl

done_from : {E : Type 0} (names : DeclaredNames) (w : Text) (pid : Pid) (op : Op) (reply : Reply) (before after : List Text) (r : Result Op E) → word_at before 0 ≡ w → r ≡ Ok op
    → declares names.procs w ≡ true → number_of names.procs w ≡ pid.0 → reply_of names op after ≡ Some reply → done_with names (word_at before 0) r after ≡ Some (Done pid op reply)
done_from names w pid op reply before after r first read declared number replied = rw (first, read, declared, number, replied) refl

done_read : (names : DeclaredNames) (pid : Pid) (op : Op) (reply : Reply) → AreProper names → IsSpelledEvent names (Done pid op reply)
    → event_of names (event_words names (Done pid op reply)) ≡ Some (Done pid op reply)
unfolding done_of event_words
done_read names pid op reply proper s =
    let procs = AreNames_front names.procs names.shared proper.heaps in
    let w : Text = word_at names.procs pid.0 in
    let before : List Text = w ∷ op_words names op in
    let after : List Text = reply_words names reply in
    let parts = parted_at is_equals before (codes "=") after (no_equals names pid.0 op proper s.0 s.1) refl in
    first_of_done names w (op_words names op ++ codes "=" ∷ after) (procs.each pid.0 s.0)
    ∙ rw (parts.0, parts.1) (done_from names w pid op reply before after (op_of names (op_words names op)) refl (op_words_read names op proper s.1) (declares-at names.procs pid.0 s.0)
    (number_of-at names.procs pid.0 procs.apart s.0) (reply_words_read names op reply proper s.2))

-- An event is read as it is spelled.
pub event_words_read : (names : DeclaredNames) (e : Event) → AreProper names → IsSpelledEvent names e → event_of names (event_words names e) ≡ Some e
event_words_read names (Done pid op reply) proper s = done_read names pid op reply proper s
event_words_read names (Ended h objects bytes exits shares) proper s = ended_read names h objects bytes exits shares proper s
event_words_read names (Absorbed q) proper s = absorbed_read names q proper s
event_words_read names Closing proper s = closing_read names
