-- Lists that are copied or grown element by element.
use Rattle.std.proofs.Common.{◌≡◌, ◌∙◌, ℕ, suc, ◌+◌, ◌-◌, ◌<◌, List, [], ◌∷◌, ◌++◌, length, map, drop, sym, ap, arith, append_assoc, append-nil}
use Rattle.std.proofs.lemmas.List.{map-append, at_drop_more, at_drop_all}
use Rattle.std.specs.Global.{Vec}
use Rattle.k_types.specs.Numbers.{numbers_from}
use Rattle.k_trace.specs.Words.{Text, word_at}
use Rattle.k_spawn.specs.Families.{Family, children}

-- the texts of a list of names
abbrev pub texts : List (Vec ℕ) → List Text
texts names = map (λ name. name.items) names

-- one name more was copied
pub copied_step : (names target : List Text) (list new : List (Vec ℕ)) (v : Vec ℕ) (n : ℕ) → n < length names → new ≡ list ++ v ∷ [] → v.items ≡ word_at names n → texts list ++ drop n names ≡ target → texts new ++ drop (n + 1) names ≡ target
copied_step names target list new v n inside grown same kept =
    ap (λ ls. texts ls ++ drop (n + 1) names) grown
    ∙ ap (λ ls. ls ++ drop (n + 1) names) (map-append (λ (name : Vec ℕ). name.items) list (v ∷ []))
    ∙ append_assoc (texts list) (v.items ∷ []) (drop (n + 1) names)
    ∙ ap (λ w. texts list ++ w ∷ drop (n + 1) names) same
    ∙ sym (at_drop_more (λ ls. texts list ++ ls) names n [] inside)
    ∙ kept

-- all names were copied
pub copied_end : (names target : List Text) (list : List (Vec ℕ)) (n : ℕ) → length names ≡ n → texts list ++ drop n names ≡ target → texts list ≡ target
copied_end names target list n done kept =
    sym (append-nil (texts list)) ∙ sym (at_drop_all (λ ls. texts list ++ ls) names n (omega (arith, done))) ∙ kept

-- what a function gives for the children from that place on
abbrev pub given_from : {A : Type 0} → (ℕ → A) → Family → ℕ → List A
given_from g f k = map g (numbers_from (f.first + k) (length f.parents - k))

given_step : {A : Type 0} (g : ℕ → A) (f : Family) (k : ℕ) → k < length f.parents → given_from g f k ≡ g (f.first + k) ∷ given_from g f (k + 1)
given_step g f k inside =
    let one : length f.parents - k ≡ suc (length f.parents - (k + 1)) = omega (arith, inside) in
    let next : suc (f.first + k) ≡ f.first + (k + 1) = omega arith in
    ap (λ n. map g (numbers_from (f.first + k) n)) one ∙ ap (λ n. g (f.first + k) ∷ map g (numbers_from n (length f.parents - (k + 1)))) next

-- one child more
pub grown_step : {A : Type 0} (g : ℕ → A) (f : Family) (k : ℕ) (list new target : List A) (x : A) → k < length f.parents → new ≡ list ++ x ∷ [] → x ≡ g (f.first + k) → list ++ given_from g f k ≡ target → new ++ given_from g f (k + 1) ≡ target
grown_step g f k list new target x inside grown same kept =
    ap (λ ls. ls ++ given_from g f (k + 1)) grown
    ∙ append_assoc list (x ∷ []) (given_from g f (k + 1))
    ∙ ap (λ y. list ++ y ∷ given_from g f (k + 1)) same
    ∙ ap (λ ls. list ++ ls) (sym (given_step g f k inside))
    ∙ kept

-- before the first child
pub grown_start : {A : Type 0} (g : ℕ → A) (f : Family) (list : List A) → list ++ given_from g f 0 ≡ list ++ map g (children f)
grown_start g f list =
    let first : f.first + 0 ≡ f.first = omega arith in
    let all : length f.parents - 0 ≡ length f.parents = omega arith in
    ap (λ n. list ++ map g (numbers_from n (length f.parents - 0))) first ∙ ap (λ n. list ++ map g (numbers_from f.first n)) all

-- all children
pub grown_end : {A : Type 0} (g : ℕ → A) (f : Family) (k : ℕ) (list target : List A) → length f.parents ≡ k → list ++ given_from g f k ≡ target → list ≡ target
grown_end g f k list target done kept =
    let none : 0 ≡ length f.parents - k = omega (arith, done) in
    sym (append-nil list) ∙ ap (λ n. list ++ map g (numbers_from (f.first + k) n)) none ∙ kept
