-- The lists of a table that was just made.
use Rattle.std.proofs.Common.{◌≡◌, ℕ, zero, suc, ◌+◌, ◌*◌, ◌^◌, ◌<◌, not, Bool, true, false, cond, refl, sym, ap, ◌∙◌, List, [], ◌∷◌, ◌++◌, map, filter, length, replicate, arith}
use Rattle.std.proofs.lemmas.List.{get_or-replicate, length-replicate}
use Rattle.k_types.specs.declared.names.Phase.{Phase}
use Rattle.k_types.specs.declared.names.Phase.TheVariants.{Unmade}
use Rattle.k_types.specs.Numbers.{numbers_below, numbers_from}
use Rattle.k_shares.specs.Places.{place_of, bit_at, bit_of, sharing, shares_of_all, shares_in, ended_in, shown, HaveSizes}
use Rattle.k_shares.specs.Sharers.{unshared}

none_from : (p : ℕ → Bool) (first n : ℕ) → ((k : ℕ) → k < first + n → p k ≡ false) → filter p (numbers_from first n) ≡ []
none_from p first zero none = refl
none_from p first (suc n) none =
    ap (λ b. cond b (first ∷ filter p (numbers_from (suc first) n)) (filter p (numbers_from (suc first) n))) (none first (omega arith))
    ∙ none_from p (suc first) n (λ k high. none k (omega (arith, high)))

none_shared : (test : ℕ → ℕ → Bool) (heaps : ℕ) → ((p s : ℕ) → test p s ≡ false) → (ps : List ℕ) → shares_of_all test heaps ps ≡ []
none_shared test heaps none [] = refl
none_shared test heaps none (p ∷ ps) =
    ap (λ (ss : List ℕ). map (sharing p) ss ++ shares_of_all test heaps ps) (none_from (test p) 0 heaps (λ k high. none p k))
    ∙ none_shared test heaps none ps

all_false : (n i : ℕ) → bit_at (replicate n false) i ≡ false
all_false zero i = refl
all_false (suc n) zero = refl
all_false (suc n) (suc i) = all_false n i

-- nobody shares anything
pub no_shares : (heaps procs n : ℕ) → shares_in heaps procs (replicate n false) ≡ []
unfolding shares_in
no_shares heaps procs n = none_shared (bit_of heaps (replicate n false)) heaps (λ p s. all_false n (place_of heaps p s)) (numbers_below procs)

-- nobody has ended
pub no_ended : (n : ℕ) → ended_in (replicate n true) ≡ []
unfolding ended_in
no_ended n =
    none_from (λ p. not (bit_at (replicate n true) p)) 0 (length (replicate n true))
    (λ k high. ap not (get_or-replicate n k true false (omega (arith, length-replicate n true, high))))

opened : (procs heaps : ℕ) → shown (replicate procs true) (replicate (procs * heaps) false) (replicate heaps Unmade) (replicate heaps 0) ≡ unshared procs heaps
opened procs heaps = λ i. record {
  procs = length-replicate procs true i;
  ended = no_ended procs i;
  shares = no_shares (length (replicate heaps Unmade)) (length (replicate procs true)) (procs * heaps) i;
  phases = replicate heaps Unmade;
  shared_bytes = replicate heaps 0;
}

-- the lists of a table that was just made are such
pub record AreFirst (procs heaps : ℕ) (alive bits : List Bool) (phases : List Phase) (bytes : List ℕ) : Type 0 where
  pub all_live : alive ≡ replicate procs true
  pub none_shared : bits ≡ replicate (procs * heaps) false
  pub all_unmade : phases ≡ replicate heaps Unmade
  pub all_empty : bytes ≡ replicate heaps 0

pub first_shown : (procs heaps : ℕ) (alive bits : List Bool) (phases : List Phase) (bytes : List ℕ) →
    AreFirst procs heaps alive bits phases bytes → shown alive bits phases bytes ≡ unshared procs heaps
first_shown procs heaps alive bits phases bytes f =
    (λ i. shown (f.all_live i) (f.none_shared i) (f.all_unmade i) (f.all_empty i)) ∙ opened procs heaps

pub first_sizes : (procs heaps : ℕ) (alive bits : List Bool) (phases : List Phase) (bytes : List ℕ) →
    AreFirst procs heaps alive bits phases bytes → procs < 2 ^ 32 → heaps < 2 ^ 32 → HaveSizes alive bits phases bytes
first_sizes procs heaps alive bits phases bytes f few_procs few_heaps =
    let lives : length alive ≡ procs = ap length f.all_live ∙ length-replicate procs true in
    let made : length phases ≡ heaps = ap length f.all_unmade ∙ length-replicate heaps Unmade in
    record {
      pairs = ap length f.none_shared ∙ length-replicate (procs * heaps) false ∙ sym (λ i. lives i * made i);
      heaps = ap length f.all_empty ∙ length-replicate heaps 0 ∙ sym made;
      few_procs = omega (arith, lives, few_procs);
      few_heaps = omega (arith, made, few_heaps);
    }
