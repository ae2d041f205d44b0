-- The words of an event are visible bytes, so that its line is read as these words.
use Rattle.std.proofs.Common.{◌≡◌, ◌∙◌, ℕ, zero, suc, ◌<◌, Bool, true, not, ◌&&◌, eqb, ltb, leb, List, [], ◌∷◌, ◌++◌, length, Some, None, refl, arith, codes, decimal}
use Rattle.std.specs.List.{list_all, join_with_byte}
use Rattle.std.proofs.lemmas.List.Folds.{list_all-append}
use Rattle.std.proofs.lemmas.Bool.Decides.{nat_tests}
use Rattle.k_types.specs.declared.names.Name.{Name}
use Rattle.k_types.specs.declared.names.Heap.{Heap}
use Rattle.k_types.specs.declared.names.Heap.TheVariants.{Kernel, User, Shared}
use Rattle.k_types.specs.declared.op.Op.{Op}
use Rattle.k_types.specs.declared.event.Fault.{Fault}
use Rattle.k_types.specs.declared.event.Fault.TheVariants.{Null, Foreign, NotSharer, NoField, WrongKind, Frozen, Segv, NotPopulating, NotFrozen, Taken, LimitFull, KernelFull, ProcNotBelow, LimitNotBelow, InUse}
use Rattle.k_types.specs.declared.event.Reply.{Reply}
use Rattle.k_types.specs.declared.event.Reply.TheVariants.{Done as DoneReply, Made, Loaded, Value, Refused}
use Rattle.k_types.specs.declared.event.Event.{Event}
use Rattle.k_types.specs.declared.event.Event.TheVariants.{Done, Ended, Absorbed, Closing}
use Rattle.k_words.specs.Words.{Text, word_at, words_of}
use Rattle.k_words.specs.Numbers.{register_word}
use Rattle.k_words.proofs.Spelled.{both}
use Rattle.k_words.proofs.Again.{has_no_space, words_again}
use Rattle.k_words.proofs.Proper.{is_visible, visible_no_space, is_word, all_weaker, decimal_word, register_is_word, name_word as name_is_word}
use Rattle.k_trace.specs.Named.{DeclaredNames}
use Rattle.k_trace.specs.Rules.{AreNames}
use Rattle.k_trace.specs.Spelling.{op_words}
use Rattle.k_trace.proofs.Pushed.{AreNames_front, AreNames_back}
use Rattle.k_text.specs.Named.{segment_names, name_word, heap_word, IsNamedHeap, IsNamedFault}
use Rattle.k_text.specs.EventLines.{fault_words, reply_words, event_words}
use Rattle.k_reports.specs.Spelled.{AreProper, IsSpelledName, IsSpelledReply, IsSpelledEvent}
use Rattle.k_reports.proofs.OpWords.{PassesWords, op_words_pass}

-- All bytes are visible.
abbrev pub is_plain : Text → Bool
is_plain w = list_all is_visible w

plain_word : (w : Text) → is_word w ≡ true → is_plain w ≡ true
plain_word w h = (both (ltb 0 (length w)) (is_plain w) (both (ltb 0 (length w) && is_plain w) (leb (length w) 32) h).0).1

pub plain_words : PassesWords is_plain
plain_words = record {
  verb = refl;
  register = λ r lt. plain_word (register_word r) (register_is_word r lt);
  number = λ n lt. plain_word (decimal n) (decimal_word n lt);
  name = λ w h. plain_word w (name_is_word w h);
}

segment_cons : (xs : List Text) (seg : ℕ) → AreNames xs → seg < length (codes "kernel" ∷ xs) → is_plain (word_at (codes "kernel" ∷ xs) seg) ≡ true
segment_cons xs zero all lt = refl
segment_cons xs (suc i) all lt = plain_words.name (word_at xs i) (all.each i (omega arith))

-- The name of a segment is visible.
pub segment_plain : (names : DeclaredNames) (seg : ℕ) → AreProper names → seg < length (segment_names names) → is_plain (word_at (segment_names names) seg) ≡ true
segment_plain names seg proper lt = segment_cons (names.procs ++ names.shared) seg proper.heaps lt

pub object_plain : (names : DeclaredNames) (n : Name) → AreProper names → IsSpelledName names n → is_plain (name_word names n) ≡ true
object_plain names n proper h =
    list_all-append is_visible (word_at (segment_names names) n.seg.0) (46 ∷ decimal n.serial.0)
    ∙ rw (segment_cons (names.procs ++ names.shared) n.seg.0 proper.heaps h.0, plain_words.number n.serial.0 (omega (arith, h.1))) refl

pub proc_plain : (names : DeclaredNames) (p : ℕ) → AreProper names → p < length names.procs → is_plain (word_at names.procs p) ≡ true
proc_plain names p proper lt = plain_words.name (word_at names.procs p) ((AreNames_front names.procs names.shared proper.heaps).each p lt)

pub limit_plain : (names : DeclaredNames) (m : ℕ) → AreProper names → m < length names.limits → is_plain (word_at names.limits m) ≡ true
limit_plain names m proper lt = plain_words.name (word_at names.limits m) (proper.limits.each m lt)

pub shared_plain : (names : DeclaredNames) (s : ℕ) → AreProper names → s < length names.shared → is_plain (word_at names.shared s) ≡ true
shared_plain names s proper lt = plain_words.name (word_at names.shared s) ((AreNames_back names.procs names.shared proper.heaps).each s lt)

pub heap_plain : (names : DeclaredNames) (h : Heap) → AreProper names → IsNamedHeap names h → is_plain (heap_word names h) ≡ true
heap_plain names Kernel proper lt = refl
heap_plain names (User p) proper lt = proc_plain names p.0 proper lt
heap_plain names (Shared s) proper lt = shared_plain names s.0 proper lt

fault_plain : (names : DeclaredNames) (f : Fault) → AreProper names → IsNamedFault names f → list_all is_plain (fault_words names f) ≡ true
unfolding fault_words
fault_plain names Null proper h = refl
fault_plain names Foreign proper h = refl
fault_plain names (NotSharer s) proper h = rw (shared_plain names s.0 proper h) refl
fault_plain names NoField proper h = refl
fault_plain names WrongKind proper h = refl
fault_plain names Frozen proper h = refl
fault_plain names Segv proper h = refl
fault_plain names (NotPopulating s) proper h = rw (shared_plain names s.0 proper h) refl
fault_plain names (NotFrozen s) proper h = rw (shared_plain names s.0 proper h) refl
fault_plain names (Taken s) proper h = rw (shared_plain names s.0 proper h) refl
fault_plain names (LimitFull m) proper h = rw (limit_plain names m.0 proper h) refl
fault_plain names KernelFull proper h = refl
fault_plain names (ProcNotBelow q) proper h = rw (proc_plain names q.0 proper h) refl
fault_plain names (LimitNotBelow m) proper h = rw (limit_plain names m.0 proper h) refl
fault_plain names (InUse m) proper h = rw (limit_plain names m.0 proper h) refl

reply_plain : (names : DeclaredNames) (op : Op) (reply : Reply) → AreProper names → IsSpelledReply names op reply → list_all is_plain (reply_words names reply) ≡ true
unfolding reply_words
reply_plain names op DoneReply proper h = refl
reply_plain names op (Made n) proper h = rw (object_plain names n proper h.1) refl
reply_plain names op (Loaded None) proper h = refl
reply_plain names op (Loaded (Some n)) proper h = rw (object_plain names n proper h.1) refl
reply_plain names op (Value number) proper h = rw (plain_words.number number h) refl
reply_plain names op (Refused fault) proper h = fault_plain names fault proper h

-- The words of an event are visible.
pub event_plain : (names : DeclaredNames) (e : Event) → AreProper names → IsSpelledEvent names e → list_all is_plain (event_words names e) ≡ true
unfolding event_words
event_plain names (Done pid op reply) proper h =
    rw (proc_plain names pid.0 proper h.0)
    (list_all-append is_plain (op_words names op) (codes "=" ∷ reply_words names reply) ∙ rw (op_words_pass is_plain names op plain_words proper h.1, reply_plain names op reply proper h.2) refl)
event_plain names (Ended g objects bytes exits shares) proper h =
    rw (heap_plain names g proper h.0, plain_words.number objects (omega (arith, h.1)), plain_words.number bytes h.2, plain_words.number exits (omega (arith, h.3)), plain_words.number shares (omega (arith, h.4))) refl
event_plain names (Absorbed s) proper h = rw (shared_plain names s.0 proper h) refl
event_plain names Closing proper h = refl

-- ---- the line of visible words

visible_no_feed : (b : ℕ) → is_visible b ≡ true → not (eqb b 10) ≡ true
visible_no_feed b h = grind (arith, nat_tests)

plain_no_space : (w : Text) → is_plain w ≡ true → has_no_space w ≡ true
plain_no_space w h = all_weaker is_visible (λ b. not (eqb b 32)) visible_no_space w h

some_words : (names : DeclaredNames) (e : Event) → 0 < length (event_words names e)
unfolding event_words
some_words names (Done pid op reply) = omega arith
some_words names (Ended g objects bytes exits shares) = omega arith
some_words names (Absorbed s) = omega arith
some_words names Closing = omega arith

pub read_back : (ws : List Text) → 0 < length ws → list_all is_plain ws ≡ true → words_of (join_with_byte 32 ws) ≡ ws
read_back [] some h = absurd (omega arith)
read_back (w ∷ ws) some h = words_again w ws (all_weaker is_plain has_no_space plain_no_space (w ∷ ws) h)

-- The words of an event's line are its words.
pub event_words_of : (names : DeclaredNames) (e : Event) → AreProper names → IsSpelledEvent names e → words_of (join_with_byte 32 (event_words names e)) ≡ event_words names e
event_words_of names e proper h = read_back (event_words names e) (some_words names e) (event_plain names e proper h)

abbrev pub has_no_feed : Text → Bool
has_no_feed line = list_all (λ b. not (eqb b 10)) line

pub joined_no_feed : (ws : List Text) → list_all is_plain ws ≡ true → has_no_feed (join_with_byte 32 ws) ≡ true
joined_no_feed [] h = refl
joined_no_feed (w ∷ []) h = all_weaker is_visible (λ b. not (eqb b 10)) visible_no_feed w (both (is_plain w) true h).0
joined_no_feed (w ∷ v ∷ ws) h =
    let e = both (is_plain w) (list_all is_plain (v ∷ ws)) h in
    list_all-append (λ b. not (eqb b 10)) w (32 ∷ join_with_byte 32 (v ∷ ws))
    ∙ rw (all_weaker is_visible (λ b. not (eqb b 10)) visible_no_feed w e.0, joined_no_feed (v ∷ ws) e.1) refl

-- An event's line has no line feed.
pub event_no_feed : (names : DeclaredNames) (e : Event) → AreProper names → IsSpelledEvent names e → has_no_feed (join_with_byte 32 (event_words names e)) ≡ true
event_no_feed names e proper h = joined_no_feed (event_words names e) (event_plain names e proper h)
