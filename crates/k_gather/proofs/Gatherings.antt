-- What is gathered and what is handed on make one text.
use Rattle.std.proofs.Common.{◌≡◌, ◌∙◌, ℕ, ◌+◌, ◌-◌, ◌≤◌, List, [], ◌∷◌, ◌++◌, length, take, drop, sym, ap, subst, arith, append_assoc, length-append}
use Rattle.std.proofs.lemmas.List.{take-append-drop, append-nil}
use Rattle.k_gather.specs.Gathering.{Gathers, Keeps}
use Rattle.k_io.specs.Taking.{Takes, TakesFront}
use Rattle.k_io.proofs.Fronts.{take_past}

-- ---- the calls of a sink that gathers

-- The first n bytes of what is gathered were handed on.
pub hands_on : (a b : List ℕ → List ℕ → Type 0) (held : List ℕ) (n : ℕ) → Takes a b (take n held) → Keeps (Gathers a held) (Gathers b (drop n held))
hands_on a b held n h [] xs g = absurd g
hands_on a b held n h (count ∷ given) xs g = (
  g.0 ++ take n held,
  h given g.0 g.1,
  omega (arith, g.2, length-append g.0 (take n held)),
  g.3 ∙ ap (λ (t : List ℕ). g.0 ++ t) (sym (take-append-drop n held)) ∙ sym (append_assoc g.0 (take n held) (drop n held)),
)

-- All of it was handed on.
pub hands_on_all : (a b : List ℕ → List ℕ → Type 0) (held : List ℕ) → Takes a b held → Keeps (Gathers a held) (Gathers b [])
hands_on_all a b held h [] xs g = absurd g
hands_on_all a b held h (count ∷ given) xs g = (g.0 ++ held, h given g.0 g.1, omega (arith, g.2, length-append g.0 held), g.3 ∙ sym (append-nil (g.0 ++ held)))

-- A piece was put behind what is gathered.
pub gathers_more : (a : List ℕ → List ℕ → Type 0) (held piece : List ℕ) → Takes (Gathers a held) (Gathers a (held ++ piece)) piece
gathers_more a held piece [] xs g = absurd g
gathers_more a held piece (count ∷ given) xs g = (g.0, g.1, g.2, ap (λ (t : List ℕ). t ++ piece) g.3 ∙ append_assoc g.0 held piece)

-- A piece was handed on as it is, with nothing gathered before it.
pub passes_on : (a b : List ℕ → List ℕ → Type 0) (piece : List ℕ) → Takes a b piece → Takes (Gathers a []) (Gathers b []) piece
passes_on a b piece h [] xs g = absurd g
passes_on a b piece h (count ∷ given) xs g = (
  g.0 ++ piece,
  h given g.0 g.1,
  omega (arith, g.2, length-append g.0 piece),
  ap (λ (t : List ℕ). t ++ piece) (g.3 ∙ append-nil g.0) ∙ sym (append-nil (g.0 ++ piece)),
)

-- What agreed before the room was made, agrees after the piece was taken.
pub takes_after : (a b c : List ℕ → List ℕ → Type 0) (piece : List ℕ) → Keeps a b → Takes b c piece → Takes a c piece
takes_after a b c piece k h given xs p = h given xs (k given xs p)

-- ---- the sink behind it, from the first piece to the last

-- A sink that begins to gather agrees with what the sink behind it agrees with.
begins : (a : List ℕ → List ℕ → Type 0) (given xs : List ℕ) → a given xs → Gathers a [] (length xs ∷ given) xs
begins a given xs p = (xs, p, omega arith, sym (append-nil xs))

-- A text was gathered, and what was left of it handed on: the sink behind took the text.
pub took_whole : (a b c : List ℕ → List ℕ → Type 0) (held text : List ℕ) → Takes (Gathers a []) (Gathers b held) text → Takes b c held → Takes a c text
took_whole a b c held text h k given xs p =
    let g = h (length xs ∷ given) xs (begins a given xs p) in
    subst (λ (t : List ℕ). c given t) (sym g.3) (k given g.0 g.1)

-- Of two lists that are one, the front of the second's second part is a front of the first's second part.
front_of_both : (xs text taken held : List ℕ) (n : ℕ) → length xs ≤ length taken → xs ++ text ≡ taken ++ held → xs ++ take (length text - length held + n) text ≡ taken ++ take n held
front_of_both xs text taken held n le e =
    let m = length text - length held + n in
    let long : length xs + m ≡ length taken + n = omega (arith, le, ap length e, length-append xs text, length-append taken held) in
    sym (take_past xs text m) ∙ ap (λ (k : ℕ). take k (xs ++ text)) long ∙ ap (λ (t : List ℕ). take (length taken + n) t) e ∙ take_past taken held n

-- A text was gathered, and a front of what was left of it handed on: the sink behind took a front of the text.
pub took_front : (a b c : List ℕ → List ℕ → Type 0) (held text : List ℕ) → Takes (Gathers a []) (Gathers b held) text → TakesFront b c held → TakesFront a c text
took_front a b c held text h k = (
  length text - length held + k.0,
  λ given xs p.
      let g = h (length xs ∷ given) xs (begins a given xs p) in
      subst (λ (t : List ℕ). c given t) (sym (front_of_both xs text g.0 held k.0 g.2 g.3)) (k.1 given g.0 g.1),
)
