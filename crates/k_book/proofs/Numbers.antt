-- Lists that go by the numbers below a bound.
use Rattle.std.proofs.Common.{◌≡◌, ℕ, zero, suc, ◌+◌, List, [], ◌∷◌, ◌++◌, map, length, sym, ap, ◌∙◌, arith, append_assoc, length-append}
use Rattle.std.proofs.lemmas.List.{length-map}
use Rattle.k_types.specs.declared.names.Heap.TheVariants.{Kernel}
use Rattle.k_types.specs.Numbers.{numbers_below, numbers_from}
use Rattle.k_types.specs.Owners.{user, shared}
use Rattle.k_types.proofs.Lists.{numbers_length}

-- the same function of one number more
mapped_more : {A : Type 0} (f : ℕ → A) (first n : ℕ) → map f (numbers_from first (n + 1)) ≡ map f (numbers_from first n) ++ f (first + n) ∷ []
mapped_more f first zero = let e : first ≡ first + 0 = omega arith in ap (λ d. f d ∷ []) e
mapped_more f first (suc n) =
    let e : suc first + n ≡ first + suc n = omega arith in
    let m : suc n + 1 ≡ suc (n + 1) = omega arith in
    ap (λ k. map f (numbers_from first k)) m
    ∙ ap (λ r. f first ∷ r) (mapped_more f (suc first) n ∙ ap (λ d. map f (numbers_from (suc first) n) ++ f d ∷ []) e)

-- one number more
pub one_more : {A : Type 0} (xs : List A) (f : ℕ → A) (n : ℕ) → (xs ++ map f (numbers_below n)) ++ f n ∷ [] ≡ xs ++ map f (numbers_below (n + 1))
one_more xs f n =
    let same : 0 + n ≡ n = omega arith in
    append_assoc xs (map f (numbers_below n)) (f n ∷ [])
    ∙ ap (λ ys. xs ++ ys) (sym (mapped_more f 0 n ∙ ap (λ m. map f (numbers_below n) ++ f m ∷ []) same))

-- how many heaps there are
pub homes_count : (procs heaps : ℕ) → length (Kernel ∷ map user (numbers_below procs) ++ map shared (numbers_below heaps)) ≡ 1 + procs + heaps
homes_count procs heaps =
    let all = length-append (Kernel ∷ map user (numbers_below procs)) (map shared (numbers_below heaps)) in
    let users = length-map (numbers_below procs) user ∙ numbers_length 0 procs in
    let shareds = length-map (numbers_below heaps) shared ∙ numbers_length 0 heaps in
    omega (arith, all, users, shareds)
