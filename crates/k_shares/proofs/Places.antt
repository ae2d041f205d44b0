-- Places of pairs in the table.
use Rattle.std.proofs.Common.{◌≡◌, ℕ, suc, ◌+◌, ◌-◌, ◌*◌, ◌^◌, ◌<◌, ◌≤◌, ap, inl, inr, arith}
use Rattle.std.proofs.Math.Nat.{mul-le-mul_left}
use Rattle.std.proofs.lemmas.Bool.{cases_eq, cases_lt}
use Rattle.k_shares.specs.Places.{place_of}

-- a row ends before a later one begins
row_before : (heaps p q : ℕ) → p < q → p * heaps + heaps ≤ q * heaps
row_before heaps p q low =
    let most = mul-le-mul_left {m = suc p} {n = q} heaps (omega arith) in
    omega (arith, most)

-- the place of a pair is within the table
pub place_inside : (heaps procs p s : ℕ) → p < procs → s < heaps → place_of heaps p s < procs * heaps
unfolding place_of
place_inside heaps procs p s inside there = let most = row_before heaps p procs inside in omega (arith, most)

-- the place fits 64 bits
pub place_fits : (heaps p s : ℕ) → p < 2 ^ 32 → s < 2 ^ 32 → heaps < 2 ^ 32 → p * heaps + s < 2 ^ 64
place_fits heaps p s few some less =
    let most = mul-le-mul_left {m = heaps} {n = 2 ^ 32 - 1} p (omega arith) in
    omega (arith, most)

-- and so does the start of a row
pub row_fits : (heaps p : ℕ) → p < 2 ^ 32 → heaps < 2 ^ 32 → p * heaps < 2 ^ 64
row_fits heaps p few less =
    let most = mul-le-mul_left {m = heaps} {n = 2 ^ 32 - 1} p (omega arith) in
    omega (arith, most)

-- two pairs with one place are of one process
same_row : (heaps p s q t : ℕ) → s < heaps → t < heaps → p * heaps + s ≡ q * heaps + t → p ≡ q
same_row heaps p s q t inside there e = elim (cases_eq p q) [
  | inl same ↦ same
  | inr ne ↦ elim (cases_lt p q) [
    | inl low ↦ let most = row_before heaps p q low in absurd (omega (arith, most, e, inside, there))
    | inr high ↦ let most = row_before heaps q p (omega (arith, high, ne)) in absurd (omega (arith, most, e, inside, there))
  ]
]

-- two pairs with one place are one pair
pub same_pair : (heaps p s q t : ℕ) → s < heaps → t < heaps → place_of heaps p s ≡ place_of heaps q t → (p ≡ q) × (s ≡ t)
unfolding place_of
same_pair heaps p s q t inside there e =
    let same = same_row heaps p s q t inside there e in
    let row : p * heaps ≡ q * heaps = ap (λ r. r * heaps) same in
    (same, omega (arith, row, e))
