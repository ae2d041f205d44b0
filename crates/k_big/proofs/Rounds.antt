-- Lists of operations, one round behind the other.
use Rattle.std.proofs.Common.{◌≡◌, ◌∙◌, ℕ, zero, suc, ◌+◌, ◌<◌, Bool, true, refl, sym, ap, List, [], ◌∷◌, ◌++◌, length, map, replicate, arith}
use Rattle.std.specs.List.{flat_map, list_all}
use Rattle.std.specs.Global.{Vec}
use Rattle.std.proofs.lemmas.Grind.{flat_map-append}
use Rattle.std.proofs.lemmas.List.{append-nil, map-append}
use Rattle.std.proofs.lemmas.List.Concat.{flat_map-cons}
use Rattle.std.proofs.lemmas.List.Folds.{list_all-append}
use Rattle.k_types.specs.declared.names.Pid.{Pid}
use Rattle.k_types.specs.declared.op.Op.{Op}
use Rattle.k_types.specs.Numbers.{numbers_below, numbers_from}
use Rattle.k_types.proofs.Lists.{map_replicate}
use Rattle.k_report.proofs.LineLemmas.{numbers_more}
use Rattle.k_big.specs.Workload.{operations_for, turns}

-- one more piece, the last
pub pieces_more : {A : Type 0} (f : ℕ → List A) (n : ℕ) → flat_map f (numbers_below n) ++ f n ≡ flat_map f (numbers_below (n + 1))
pieces_more f n = sym (ap (flat_map f) (numbers_more n) ∙ flat_map-append f (numbers_below n) (n ∷ []) ∙ ap (λ ys. flat_map f (numbers_below n) ++ ys) (append-nil (f n)))

-- a test that each piece passes
pub pieces_pass : {A : Type 0} (test : A → Bool) (f : ℕ → List A) (first n : ℕ) → ((j : ℕ) → j < first + n → list_all test (f j) ≡ true) → list_all test (flat_map f (numbers_from first n)) ≡ true
pieces_pass test f first zero pass = refl
pieces_pass test f first (suc n) pass =
    rw (flat_map-cons f first (numbers_from (suc first) n), list_all-append test (f first) (flat_map f (numbers_from (suc first) n)), pass first (omega arith), pieces_pass test f (suc first) n (λ j low. pass j (omega arith))) refl

-- one process more, with its operations
pub lists_more : (objects n : ℕ) (before after : List (Vec Op)) (ops : Vec Op) → after ≡ before ++ ops ∷ [] → ops.items ≡ operations_for objects n
    → map (λ (o : Vec Op). o.items) before ≡ map (operations_for objects) (numbers_below n)
    → map (λ (o : Vec Op). o.items) after ≡ map (operations_for objects) (numbers_below (n + 1))
lists_more objects n before after ops grown own so_far =
    ap (map (λ (o : Vec Op). o.items)) grown
    ∙ map-append (λ (o : Vec Op). o.items) before (ops ∷ [])
    ∙ ap (λ xs. xs ++ ops.items ∷ []) so_far
    ∙ ap (λ x. map (operations_for objects) (numbers_below n) ++ x ∷ []) own
    ∙ sym (ap (map (operations_for objects)) (numbers_more n) ∙ map-append (operations_for objects) (numbers_below n) (n ∷ []))

-- one process more, as often as it has operations
pub order_more : (objects n times : ℕ) (before after : List Pid) (pid : Pid) → pid.0 ≡ n → after ≡ before ++ replicate times pid → times ≡ length (operations_for objects n)
    → map (λ (p : Pid). p.0) before ≡ flat_map (turns objects) (numbers_below n)
    → map (λ (p : Pid). p.0) after ≡ flat_map (turns objects) (numbers_below (n + 1))
order_more objects n times before after pid is grown often so_far =
    ap (map (λ (p : Pid). p.0)) grown
    ∙ map-append (λ (p : Pid). p.0) before (replicate times pid)
    ∙ ap (λ xs. xs ++ map (λ (p : Pid). p.0) (replicate times pid)) so_far
    ∙ ap (λ xs. flat_map (turns objects) (numbers_below n) ++ xs) (map_replicate (λ (p : Pid). p.0) times pid ∙ ap (replicate times) is ∙ ap (λ k. replicate k n) often)
    ∙ pieces_more (turns objects) n
