-- Lists of one word or two, which command they are, and how many objects a command asks for.
use Rattle.std.proofs.Common.{◌≡◌, ◌∙◌, ℕ, ◌+◌, ◌<◌, ◌≤◌, nat_lt, ◌&&◌, List, [], ◌∷◌, length, get_or, map, ap, sym, refl, arith, Bool, true, false, Option, option_map, Some, None}
use Rattle.std.specs.Prelude.{codes, if◌then◌else◌}
use Rattle.std.specs.Str.{bytes_eq}
use Rattle.std.proofs.lemmas.Slice.Eq.{bytes_eq-Decides}
use Rattle.k_words.specs.Numbers.{is_below, value}
use Rattle.k_words.specs.Words.{Text}
use Rattle.k_words.proofs.Spelled.{both, number_word}
use Rattle.k_big.specs.Words.{objects_of}
use Rattle.k_big.specs.Workload.{most_objects}
use Rattle.k_answers.specs.declared.commands.Command.{Command}
use Rattle.k_answers.specs.declared.commands.Command.TheVariants.{Run, Replay, Check, Big, Watch, Work, Snap, Audit, Tree}
use Rattle.k_answers.specs.Commands.{command_of, command_named, command_numbered, samples_of}

-- The command of a list of one word is the command that the word names.
pub of_one : {A : Type 0} (f : A → Text) (xs : List A) (x : A) → 1 ≤ length xs → length xs < 2 → x ≡ get_or xs 0 x → command_of (map f xs) ≡ command_named (f x)
of_one f [] x lo hi e = absurd (omega (arith, lo))
of_one f (y ∷ []) x lo hi e = ap (λ z. command_named (f z)) (sym e)
of_one f (y ∷ z ∷ ys) x lo hi e = absurd (omega (arith, hi))

-- The command of a list of two words is the one that the first names with the second behind it.
pub of_two : {A : Type 0} (f : A → Text) (xs : List A) (x y : A) → 2 ≤ length xs → length xs < 3 → x ≡ get_or xs 0 x → y ≡ get_or xs 1 y → command_of (map f xs) ≡ command_numbered (f x) (f y)
of_two f [] x y lo hi at next = absurd (omega (arith, lo))
of_two f (a ∷ []) x y lo hi at next = absurd (omega (arith, lo))
of_two f (a ∷ b ∷ []) x y lo hi at next = ap (λ z. command_numbered (f z) (f b)) (sym at) ∙ ap (λ z. command_numbered (f x) (f z)) (sym next)
of_two f (a ∷ b ∷ c ∷ xs) x y lo hi at next = absurd (omega (arith, hi))

no_other : (b c d e i j o : Bool) → (b ≡ true → ⊥) → (c ≡ true → ⊥) → (d ≡ true → ⊥) → (e ≡ true → ⊥) → (i ≡ true → ⊥) → (j ≡ true → ⊥) → (o ≡ true → ⊥)
    → (if b then Some Run else if c then Some Replay else if d then Some Check else if e then Some Work else if i then Some Snap else if j then Some Audit else if o then Some Tree else None) ≡ None
no_other true c d e i j o f g h k l m n = absurd (f refl)
no_other false true d e i j o f g h k l m n = absurd (g refl)
no_other false false true e i j o f g h k l m n = absurd (h refl)
no_other false false false true i j o f g h k l m n = absurd (k refl)
no_other false false false false true j o f g h k l m n = absurd (l refl)
no_other false false false false false true o f g h k l m n = absurd (m refl)
no_other false false false false false false true f g h k l m n = absurd (n refl)
no_other false false false false false false false f g h k l m n = refl

-- A word that is no command's names none.
pub of_other : (word : Text) → (word ≡ codes "run" → ⊥) → (word ≡ codes "replay" → ⊥) → (word ≡ codes "check" → ⊥) → (word ≡ codes "work" → ⊥) → (word ≡ codes "snap" → ⊥) → (word ≡ codes "audit" → ⊥)
    → (word ≡ codes "tree" → ⊥) → command_named word ≡ None
of_other word f g h k l m n =
    no_other (bytes_eq word (codes "run")) (bytes_eq word (codes "replay")) (bytes_eq word (codes "check")) (bytes_eq word (codes "work")) (bytes_eq word (codes "snap")) (bytes_eq word (codes "audit")) (bytes_eq word (codes "tree"))
    (λ t. f ((bytes_eq-Decides word (codes "run")).0 t)) (λ t. g ((bytes_eq-Decides word (codes "replay")).0 t)) (λ t. h ((bytes_eq-Decides word (codes "check")).0 t))
    (λ t. k ((bytes_eq-Decides word (codes "work")).0 t)) (λ t. l ((bytes_eq-Decides word (codes "snap")).0 t)) (λ t. m ((bytes_eq-Decides word (codes "audit")).0 t)) (λ t. n ((bytes_eq-Decides word (codes "tree")).0 t))

no_number : (b c : Bool) (r s : Option Command) → (b ≡ true → ⊥) → (c ≡ true → ⊥) → (if b then r else if c then s else None) ≡ None
no_number true c r s f g = absurd (f refl)
no_number false true r s f g = absurd (g refl)
no_number false false r s f g = refl

-- A word that is neither `big` nor `watch` names no command with a number behind it.
pub of_other_pair : (word number : Text) → (word ≡ codes "big" → ⊥) → (word ≡ codes "watch" → ⊥) → command_numbered word number ≡ None
of_other_pair word number f g =
    no_number (bytes_eq word (codes "big")) (bytes_eq word (codes "watch")) (option_map (λ objects. Big objects) (objects_of number)) (option_map (λ samples. Watch samples) (samples_of number))
    (λ t. f ((bytes_eq-Decides word (codes "big")).0 t)) (λ t. g ((bytes_eq-Decides word (codes "watch")).0 t))

-- ---- how many objects

number_read : (b : Bool) (v n : ℕ) → (if b then Some v else None) ≡ Some n → (b ≡ true) × (v ≡ n)
number_read true v n e = let same : Some v ≡ Some n = e in (refl, cc)
number_read false v n e = let clash : (let x : Option ℕ = None in x) ≡ Some n = e in absurd cc

objects_few : (word : Text) (n : ℕ) → objects_of word ≡ Some n → n ≤ most_objects
objects_few word n e =
    let read = number_read (is_below (most_objects + 1) word && nat_lt 0 (value word)) (value word) n e in
    let below = (number_word (most_objects + 1) word (omega arith) (both (is_below (most_objects + 1) word) (nat_lt 0 (value word)) read.0).0).1 in
    omega (arith, below, read.1)

watch_is_not : (c : Bool) (s : Option ℕ) (n : ℕ) → (if c then option_map (λ samples. Watch samples) s else None) ≡ Some (Big n) → ⊥
watch_is_not true (Some m) n e = let clash : Some (Watch m) ≡ Some (Big n) = e in absurd cc
watch_is_not true None n e = let clash : (let x : Option Command = None in x) ≡ Some (Big n) = e in absurd cc
watch_is_not false s n e = let clash : (let x : Option Command = None in x) ≡ Some (Big n) = e in absurd cc

numbered_is : (b c : Bool) (r s : Option ℕ) (n : ℕ) → (if b then option_map (λ objects. Big objects) r else if c then option_map (λ samples. Watch samples) s else None) ≡ Some (Big n) → r ≡ Some n
numbered_is true c (Some m) s n e = let same : Some (Big m) ≡ Some (Big n) = e in cc
numbered_is true c None s n e = let clash : (let x : Option Command = None in x) ≡ Some (Big n) = e in absurd cc
numbered_is false c r s n e = absurd (watch_is_not c s n e)

named_is_not : (b c d f i j o : Bool) (n : ℕ) → (if b then Some Run else if c then Some Replay else if d then Some Check else if f then Some Work else if i then Some Snap else if j then Some Audit else if o then Some Tree else None) ≡ Some (Big n) → ⊥
named_is_not true c d f i j o n e = let clash : Some Run ≡ Some (Big n) = e in absurd cc
named_is_not false true d f i j o n e = let clash : Some Replay ≡ Some (Big n) = e in absurd cc
named_is_not false false true f i j o n e = let clash : Some Check ≡ Some (Big n) = e in absurd cc
named_is_not false false false true i j o n e = let clash : Some Work ≡ Some (Big n) = e in absurd cc
named_is_not false false false false true j o n e = let clash : Some Snap ≡ Some (Big n) = e in absurd cc
named_is_not false false false false false true o n e = let clash : Some Audit ≡ Some (Big n) = e in absurd cc
named_is_not false false false false false false true n e = let clash : Some Tree ≡ Some (Big n) = e in absurd cc
named_is_not false false false false false false false n e = let clash : (let x : Option Command = None in x) ≡ Some (Big n) = e in absurd cc

-- A command asks for no more objects than there can be.
pub few_objects : (words : List Text) (n : ℕ) → command_of words ≡ Some (Big n) → n ≤ most_objects
few_objects [] n e = let clash : (let x : Option Command = None in x) ≡ Some (Big n) = e in absurd cc
few_objects (word ∷ []) n e = absurd (named_is_not (bytes_eq word (codes "run")) (bytes_eq word (codes "replay")) (bytes_eq word (codes "check")) (bytes_eq word (codes "work")) (bytes_eq word (codes "snap")) (bytes_eq word (codes "audit")) (bytes_eq word (codes "tree")) n e)
few_objects (word ∷ number ∷ []) n e = objects_few number n (numbered_is (bytes_eq word (codes "big")) (bytes_eq word (codes "watch")) (objects_of number) (samples_of number) n e)
few_objects (word ∷ number ∷ next ∷ words) n e = let clash : (let x : Option Command = None in x) ≡ Some (Big n) = e in absurd cc
