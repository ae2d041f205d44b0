-- How many processes live, as one after another ends.
use Rattle.std.proofs.Common.{◌≡◌, ℕ, ◌+◌, ◌-◌, ◌*◌, ◌<◌, ◌≤◌, ◌==◌, ◌||◌, Bool, true, false, cond, refl, sym, ap, ap₂, ◌∙◌, inl, inr, IsTrue, IsFalse, List, [], length, set, replicate, arith, eq-eqb, eqb-true, ne_eqb, if◌then◌else◌, zero-le}
use Rattle.std.proofs.lemmas.Bool.{false≢true, cases_eq}
use Rattle.std.proofs.lemmas.List.{length-replicate}
use Rattle.std.proofs.Math.ListN.{length-set}
use Rattle.k_types.proofs.Lists.{numbers_length}
use Rattle.k_types.proofs.Sums.{one_counts, ones, sum_both, sum_same}
use Rattle.k_types.specs.declared.names.Phase.{Phase}
use Rattle.k_types.specs.Names.{among}
use Rattle.k_types.specs.Numbers.{numbers_below}
use Rattle.k_shares.specs.Sharers.{living_of, GainsEnded, ShareValue}
use Rattle.k_shares.specs.Places.{ended_in, shown, HaveSizes}
use Rattle.k_shares.proofs.BitTests.{ends}
use Rattle.k_shares.proofs.Opened.{no_ended}

abbrev one_unless : Bool → ℕ
one_unless b = if b then 0 else 1

-- a process counts for one less where it is the one that ends
counts_less : (old same : Bool) → (IsTrue same → IsFalse old) → one_unless old ≡ one_unless (old || same) + cond same 1 0
counts_less true true lives = absurd (false≢true (sym (lives refl)))
counts_less true false lives = refl
counts_less false true lives = refl
counts_less false false lives = refl

each_counts : (old new : List ℕ) (p : ℕ) → GainsEnded old new p → IsFalse (among p old) → (q : ℕ) → one_unless (among q old) ≡ one_unless (among q new) + cond (q == p) 1 0
each_counts old new p gains lives q =
    counts_less (among q old) (p == q) (λ e. ap (λ r. among r old) (sym (eqb-true p q e)) ∙ lives)
    ∙ sym (ap₂ (λ b e. one_unless b + cond e 1 0) (gains q) (turned q p))
  where
    turned : (a b : ℕ) → (a == b) ≡ (b == a)
    turned a b = elim (cases_eq a b) [
      | inl same ↦ eq-eqb a b same ∙ sym (eq-eqb b a (sym same))
      | inr apart ↦ ne_eqb a b apart ∙ sym (ne_eqb b a (λ e. apart (sym e)))
    ]

-- where one process more has ended, one fewer lives
one_ended : (old new : List ℕ) (p n : ℕ) → GainsEnded old new p → IsFalse (among p old) → p < n → living_of old n ≡ living_of new n + 1
one_ended old new p n gains lives inside =
    sum_same (λ q. one_unless (among q old)) (λ q. one_unless (among q new) + cond (q == p) 1 0) (each_counts old new p gains lives) (numbers_below n)
    ∙ sum_both (λ q. one_unless (among q new)) (λ q. cond (q == p) 1 0) (numbers_below n)
    ∙ ap (λ k. living_of new n + k) (one_counts (λ q. 1) p 0 n zero-le (omega (arith, inside)))

one_fewer : (alive : List Bool) (p : ℕ) → p < length alive → IsFalse (among p (ended_in alive)) →
    living_of (ended_in alive) (length alive) ≡ living_of (ended_in (set alive p false)) (length (set alive p false)) + 1
one_fewer alive p inside lives =
    one_ended (ended_in alive) (ended_in (set alive p false)) p (length alive) (ends alive p inside) lives inside
    ∙ ap (λ n. living_of (ended_in (set alive p false)) n + 1) (sym (length-set alive p false))

-- the number that a table keeps, and its lists, once one of its processes is ended
pub kept_fewer : (alive bits : List Bool) (phases : List Phase) (bytes : List ℕ) (living p : ℕ) (t : ShareValue) → shown alive bits phases bytes ≡ t → p < t.procs → IsFalse (among p t.ended) → living ≡ living_of (ended_in alive) (length alive) →
    (1 ≤ living) × (living - 1 ≡ living_of (ended_in (set alive p false)) (length (set alive p false)))
kept_fewer alive bits phases bytes living p t is inside lives kept =
    let n : length alive ≡ t.procs = ap (λ (v : ShareValue). v.procs) is in
    let fewer = one_fewer alive p (omega (arith, n, inside)) (ap (λ (v : ShareValue). among p v.ended) is ∙ lives) in
    (omega (arith, kept, fewer), omega (arith, kept, fewer))

pub sizes_when_ended : (alive bits : List Bool) (phases : List Phase) (bytes : List ℕ) (p : ℕ) → HaveSizes alive bits phases bytes → HaveSizes (set alive p false) bits phases bytes
sizes_when_ended alive bits phases bytes p sizes =
    let n = length-set alive p false in
    record {
      pairs = sizes.pairs ∙ ap (λ k. k * length phases) (sym n);
      heaps = sizes.heaps;
      few_procs = (let few = sizes.few_procs in omega (arith, n, few));
      few_heaps = sizes.few_heaps;
    }

-- at first all live
all_live : (n : ℕ) → living_of [] n ≡ n
all_live n = ones (numbers_below n) ∙ numbers_length 0 n

pub first_living : (procs : ℕ) (alive : List Bool) → alive ≡ replicate procs true → procs ≡ living_of (ended_in alive) (length alive)
first_living procs alive is = sym (
    ap (λ bits. living_of (ended_in bits) (length bits)) is
    ∙ (λ i. living_of (no_ended procs i) (length-replicate procs true i))
    ∙ all_live procs
    )
