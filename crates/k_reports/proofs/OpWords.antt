-- What holds of each kind of words holds of the words of an operation.
use Rattle.std.proofs.Common.{◌≡◌, ◌∙◌, ℕ, ◌<◌, ◌^◌, Bool, true, false, not, List, [], ◌∷◌, length, refl, sym, arith, codes, decimal, subst}
use Rattle.std.specs.List.{list_all, list_any}
use Rattle.std.specs.Str.{bytes_eq}
use Rattle.k_types.specs.declared.op.Op.{Op}
use Rattle.k_types.specs.declared.op.Op.TheVariants.{New, KNew, SNew, Store, Load, Move, Clear, Dir, Put, Get, Collect, KCollect, Share, Freeze, Attach, Exit, Kill, Resize}
use Rattle.k_words.specs.Words.{Text, word_at}
use Rattle.k_words.specs.Numbers.{register_word}
use Rattle.k_words.specs.Names.{is_name, declares}
use Rattle.k_words.proofs.Spelled.{both, same}
use Rattle.k_trace.specs.Named.{DeclaredNames}
use Rattle.k_trace.specs.Spelling.{op_words}
use Rattle.k_trace.proofs.Pushed.{AreNames_front, AreNames_back}
use Rattle.k_reports.specs.Spelled.{AreProper, IsSpelledOp}
use Rattle.k_reports.specs.Reading.{is_equals}
use Rattle.k_reports.proofs.SpelledWords.{name_is_not, decimal_is_not}

-- The verbs of the operations.
abbrev pub verbs : List Text
verbs =
    codes "new" ∷ codes "knew" ∷ codes "snew" ∷ codes "store" ∷ codes "load" ∷ codes "move" ∷ codes "drop" ∷ codes "dir" ∷ codes "put" ∷ codes "get"
    ∷ codes "collect" ∷ codes "kcollect" ∷ codes "share" ∷ codes "freeze" ∷ codes "attach" ∷ codes "exit" ∷ codes "kill" ∷ codes "resize" ∷ []

-- The test passes verbs, registers, numbers and names.
pub record PassesWords (p : Text → Bool) : Type 0 where
  pub verb : list_all p verbs ≡ true
  pub register : (r : ℕ) → r < 16 → p (register_word r) ≡ true
  pub number : (n : ℕ) → n < 2 ^ 64 → p (decimal n) ≡ true
  pub name : (w : Text) → is_name w ≡ true → p w ≡ true

all_cons : (p : Text → Bool) (v w : Text) (ws : List Text) (t : Bool) → bytes_eq w v ≡ t → list_all p (v ∷ ws) ≡ true → (list_all p ws ≡ true → declares ws w ≡ true → p w ≡ true) → declares (v ∷ ws) w ≡ true → p w ≡ true
all_cons p v w ws true e h ih d = subst (λ (x : Text). p x ≡ true) (sym (same w v e)) (both (p v) (list_all p ws) h).0
all_cons p v w ws false e h ih d = ih (both (p v) (list_all p ws) h).1 (rw e at d)

-- What passes all of the words passes one of them.
pub all_at : (p : Text → Bool) (ws : List Text) (w : Text) → list_all p ws ≡ true → declares ws w ≡ true → p w ≡ true
all_at p [] w h d = absurd cc
all_at p (v ∷ ws) w h d = all_cons p v w ws (bytes_eq w v) refl h (all_at p ws w) d

type_at : (p : Text → Bool) (names : DeclaredNames) (i : ℕ) → PassesWords p → AreProper names → i < length names.types → p (word_at names.types i) ≡ true
type_at p names i h proper lt = h.name (word_at names.types i) (proper.types.each i lt)

limit_at : (p : Text → Bool) (names : DeclaredNames) (i : ℕ) → PassesWords p → AreProper names → i < length names.limits → p (word_at names.limits i) ≡ true
limit_at p names i h proper lt = h.name (word_at names.limits i) (proper.limits.each i lt)

proc_at : (p : Text → Bool) (names : DeclaredNames) (i : ℕ) → PassesWords p → AreProper names → i < length names.procs → p (word_at names.procs i) ≡ true
proc_at p names i h proper lt = h.name (word_at names.procs i) ((AreNames_front names.procs names.shared proper.heaps).each i lt)

shared_at : (p : Text → Bool) (names : DeclaredNames) (i : ℕ) → PassesWords p → AreProper names → i < length names.shared → p (word_at names.shared i) ≡ true
shared_at p names i h proper lt = h.name (word_at names.shared i) ((AreNames_back names.procs names.shared proper.heaps).each i lt)

field_at : (p : Text → Bool) (i : ℕ) → PassesWords p → i < 16 → p (decimal i) ≡ true
field_at p i h lt = h.number i (omega arith)

pub op_words_pass : (p : Text → Bool) (names : DeclaredNames) (op : Op) → PassesWords p → AreProper names → IsSpelledOp names op → list_all p (op_words names op) ≡ true
unfolding op_words
op_words_pass p names (New r ty) h proper s = rw (all_at p verbs (codes "new") h.verb refl, h.register r.0 s.0, type_at p names ty.0 h proper s.1) refl
op_words_pass p names (KNew r ty) h proper s = rw (all_at p verbs (codes "knew") h.verb refl, h.register r.0 s.0, type_at p names ty.0 h proper s.1) refl
op_words_pass p names (SNew r q ty) h proper s = rw (all_at p verbs (codes "snew") h.verb refl, h.register r.0 s.0, shared_at p names q.0 h proper s.1, type_at p names ty.0 h proper s.2) refl
op_words_pass p names (Store base i value) h proper s = rw (all_at p verbs (codes "store") h.verb refl, h.register base.0 s.0, field_at p i h s.1, h.register value.0 s.2) refl
op_words_pass p names (Load r base i) h proper s = rw (all_at p verbs (codes "load") h.verb refl, h.register r.0 s.0, h.register base.0 s.1, field_at p i h s.2) refl
op_words_pass p names (Move r from) h proper s = rw (all_at p verbs (codes "move") h.verb refl, h.register r.0 s.0, h.register from.0 s.1) refl
op_words_pass p names (Clear r) h proper s = rw (all_at p verbs (codes "drop") h.verb refl, h.register r.0 s) refl
op_words_pass p names (Dir r) h proper s = rw (all_at p verbs (codes "dir") h.verb refl, h.register r.0 s) refl
op_words_pass p names (Put base i number) h proper s = rw (all_at p verbs (codes "put") h.verb refl, h.register base.0 s.0, field_at p i h s.1, h.number number s.2) refl
op_words_pass p names (Get base i) h proper s = rw (all_at p verbs (codes "get") h.verb refl, h.register base.0 s.0, field_at p i h s.1) refl
op_words_pass p names Collect h proper s = rw (all_at p verbs (codes "collect") h.verb refl) refl
op_words_pass p names KCollect h proper s = rw (all_at p verbs (codes "kcollect") h.verb refl) refl
op_words_pass p names (Share q) h proper s = rw (all_at p verbs (codes "share") h.verb refl, shared_at p names q.0 h proper s) refl
op_words_pass p names (Freeze q root) h proper s = rw (all_at p verbs (codes "freeze") h.verb refl, shared_at p names q.0 h proper s.0, h.register root.0 s.1) refl
op_words_pass p names (Attach r q) h proper s = rw (all_at p verbs (codes "attach") h.verb refl, h.register r.0 s.0, shared_at p names q.0 h proper s.1) refl
op_words_pass p names Exit h proper s = rw (all_at p verbs (codes "exit") h.verb refl) refl
op_words_pass p names (Kill q) h proper s = rw (all_at p verbs (codes "kill") h.verb refl, proc_at p names q.0 h proper s) refl
op_words_pass p names (Resize m max) h proper s = rw (all_at p verbs (codes "resize") h.verb refl, limit_at p names m.0 h proper s.0, h.number max (omega (arith, s.1))) refl

-- ---- no equals sign

other_words : PassesWords (λ w. not (is_equals w))
other_words = record {
  verb = refl;
  register = λ r lt. refl;
  number = λ n lt. rw (decimal_is_not n (codes "=") lt refl) refl;
  name = λ w h. rw (name_is_not w (codes "=") h refl) refl;
}

none_cons : (p : Text → Bool) (w : Text) (ws : List Text) (t : Bool) → p w ≡ t → list_all (λ v. not (p v)) (w ∷ ws) ≡ true → (list_all (λ v. not (p v)) ws ≡ true → list_any p ws ≡ false) → list_any p (w ∷ ws) ≡ false
none_cons p w ws true e h ih = absurd (let f : false ≡ true = sym (rw e refl) ∙ h in cc)
none_cons p w ws false e h ih = rw e (ih (rw e at h))

none_passes : (p : Text → Bool) (ws : List Text) → list_all (λ w. not (p w)) ws ≡ true → list_any p ws ≡ false
none_passes p [] h = refl
none_passes p (w ∷ ws) h = none_cons p w ws (p w) refl h (none_passes p ws)

-- No word of an operation is the equals sign.
pub no_equals : (names : DeclaredNames) (p : ℕ) (op : Op) → AreProper names → p < length names.procs → IsSpelledOp names op → list_any is_equals (word_at names.procs p ∷ op_words names op) ≡ false
no_equals names p op proper lt s =
    let here : is_equals (word_at names.procs p) ≡ false = name_is_not (word_at names.procs p) (codes "=") ((AreNames_front names.procs names.shared proper.heaps).each p lt) refl in
    rw here (none_passes is_equals (op_words names op) (op_words_pass (λ w. not (is_equals w)) names op other_words proper s))
