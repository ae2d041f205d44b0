-- What the tests of shares and of ended processes read off the bits.
use Rattle.std.proofs.Common.{◌≡◌, ℕ, zero, suc, ◌+◌, ◌*◌, ◌<◌, ◌==◌, ◌&&◌, ◌||◌, not, Bool, true, false, cond, refl, sym, ap, ◌∙◌, inl, inr, List, [], ◌∷◌, map, filter, length, set, nat_lt, arith, eqb-true, eq-eqb, get_or-set_same, get_or-set_other, IsTrue}
use Rattle.std.specs.List.{list_any}
use Rattle.std.proofs.Math.Bool.{and-false, and-true, or-false, or-true, not-not, and-or_distrib_left, and-or_distrib_right}
use Rattle.std.proofs.Math.ListN.{length-set}
use Rattle.std.proofs.lemmas.List.Folds.{list_any-append}
use Rattle.std.proofs.lemmas.Bool.{false≢true, cases_eq, cases_Bool, or_cases, and_parts, and_from, false_from_ne_true, lt-ltb, ltb-true}
use Rattle.k_types.proofs.Lists.{below_any}
use Rattle.k_types.proofs.Numbered.{passes_below, listed_below}
use Rattle.k_types.proofs.Tests.{same_test}
use Rattle.k_types.specs.Names.{among}
use Rattle.k_types.specs.Numbers.{numbers_below, numbers_from}
use Rattle.k_types.specs.State.{Sharing, has_share}
use Rattle.k_types.specs.Steps.{has_sharer}
use Rattle.k_shares.specs.Sharers.{GainsShare, LosesShare, GainsEnded}
use Rattle.k_shares.specs.Places.{place_of, bit_at, bit_of, sharing, shares_by, shares_of_all, shares_in, ended_in}
use Rattle.k_shares.proofs.Places.{place_inside, same_pair}

-- which numbers are among those that pass
among_where : (p : ℕ → Bool) (n k : ℕ) → among k (filter p (numbers_below n)) ≡ (nat_lt k n && p k)
among_where p n k =
    same_test (among k (filter p (numbers_below n))) (nat_lt k n && p k)
    (λ t. let both = passes_below p n k t in and_from (nat_lt k n) (p k) (lt-ltb k n both.0) both.1)
    (λ t. let both = and_parts (nat_lt k n) (p k) t in listed_below p n k (ltb-true k n both.0) both.1)

in_numbers : (first n q : ℕ) → IsTrue (among q (numbers_from first n)) → q < first + n
in_numbers first zero q t = absurd (false≢true t)
in_numbers first (suc n) q t = elim (or_cases (first == q) (among q (numbers_from (suc first) n)) t) [
  | inl here ↦ let e = eqb-true first q here in omega (arith, e)
  | inr there ↦ let low = in_numbers (suc first) n q there in omega (arith, low)
]

-- which numbers are below
among_below : (n q : ℕ) → among q (numbers_below n) ≡ nat_lt q n
among_below n q =
    same_test (among q (numbers_below n)) (nat_lt q n)
    (λ t. let low = in_numbers 0 n q t in lt-ltb q n (omega (arith, low)))
    (λ t. below_any (λ m. m == q) n q (ltb-true q n t) (eq-eqb q q refl))

-- the shares of one process
by_one : (p q t : ℕ) (ss : List ℕ) → has_share (map (sharing p) ss) q t ≡ ((p == q) && among t ss)
by_one p q t [] = sym (and-false (p == q))
by_one p q t (s ∷ ss) = ap (λ b. ((p == q) && (s == t)) || b) (by_one p q t ss) ∙ sym (and-or_distrib_left (p == q) (s == t) (among t ss))

same_process : (p q : ℕ) (f : ℕ → Bool) → ((p == q) && f p) ≡ ((p == q) && f q)
same_process p q f = elim (cases_Bool (p == q)) [
  | inl e ↦ ap (λ r. (p == q) && f r) (eqb-true p q e)
  | inr e ↦ ap (λ b. b && f p) e ∙ sym (ap (λ b. b && f q) e)
]

-- the shares of many
by_all : (test : ℕ → ℕ → Bool) (heaps q t : ℕ) (ps : List ℕ) →
    has_share (shares_of_all test heaps ps) q t ≡ (among q ps && (nat_lt t heaps && test q t))
by_all test heaps q t [] = refl
by_all test heaps q t (p ∷ ps) =
    list_any-append (λ e. (e.process == q) && (e.heap == t)) (shares_by test heaps p) (shares_of_all test heaps ps)
    ∙ ap (λ b. b || has_share (shares_of_all test heaps ps) q t)
    (by_one p q t (filter (test p) (numbers_below heaps))
    ∙ ap (λ b. (p == q) && b) (among_where (test p) heaps t)
    ∙ same_process p q (λ r. nat_lt t heaps && test r t))
    ∙ ap (λ b. ((p == q) && (nat_lt t heaps && test q t)) || b) (by_all test heaps q t ps)
    ∙ sym (and-or_distrib_right (p == q) (among q ps) (nat_lt t heaps && test q t))

-- who shares what is in the bits
pub share_test : (heaps procs : ℕ) (bits : List Bool) (q t : ℕ) →
    has_share (shares_in heaps procs bits) q t ≡ (nat_lt q procs && (nat_lt t heaps && bit_of heaps bits q t))
unfolding shares_in
share_test heaps procs bits q t =
    by_all (bit_of heaps bits) heaps q t (numbers_below procs)
    ∙ ap (λ b. b && (nat_lt t heaps && bit_of heaps bits q t)) (among_below procs q)

pub share_bit : (heaps procs : ℕ) (bits : List Bool) (q t : ℕ) → q < procs → t < heaps →
    has_share (shares_in heaps procs bits) q t ≡ bit_of heaps bits q t
share_bit heaps procs bits q t inside there =
    share_test heaps procs bits q t
    ∙ ap (λ b. b && (nat_lt t heaps && bit_of heaps bits q t)) (lt-ltb q procs inside)
    ∙ ap (λ b. b && bit_of heaps bits q t) (lt-ltb t heaps there)

sharer_by : (p t : ℕ) (ss : List ℕ) → has_sharer (map (sharing p) ss) t ≡ among t ss
sharer_by p t [] = refl
sharer_by p t (s ∷ ss) = ap (λ b. (s == t) || b) (sharer_by p t ss)

sharer_all : (test : ℕ → ℕ → Bool) (heaps t : ℕ) (ps : List ℕ) →
    has_sharer (shares_of_all test heaps ps) t ≡ (nat_lt t heaps && list_any (λ p. test p t) ps)
sharer_all test heaps t [] = sym (and-false (nat_lt t heaps))
sharer_all test heaps t (p ∷ ps) =
    list_any-append (λ (e : Sharing). e.heap == t) (shares_by test heaps p) (shares_of_all test heaps ps)
    ∙ ap (λ b. b || has_sharer (shares_of_all test heaps ps) t)
    (sharer_by p t (filter (test p) (numbers_below heaps)) ∙ among_where (test p) heaps t)
    ∙ ap (λ b. (nat_lt t heaps && test p t) || b) (sharer_all test heaps t ps)
    ∙ sym (and-or_distrib_left (nat_lt t heaps) (test p t) (list_any (λ p. test p t) ps))

-- whether anybody shares a heap is in the bits
pub sharer_bit : (heaps procs : ℕ) (bits : List Bool) (t : ℕ) → t < heaps →
    has_sharer (shares_in heaps procs bits) t ≡ list_any (λ p. bit_of heaps bits p t) (numbers_below procs)
unfolding shares_in
sharer_bit heaps procs bits t inside =
    sharer_all (bit_of heaps bits) heaps t (numbers_below procs)
    ∙ ap (λ b. b && list_any (λ p. bit_of heaps bits p t) (numbers_below procs)) (lt-ltb t heaps inside)

-- who lives is in the bits
ended_test : (alive : List Bool) (p : ℕ) → among p (ended_in alive) ≡ (nat_lt p (length alive) && not (bit_at alive p))
unfolding ended_in
ended_test alive p = among_where (λ q. not (bit_at alive q)) (length alive) p

pub living_bit : (alive : List Bool) (p : ℕ) → p < length alive → not (among p (ended_in alive)) ≡ bit_at alive p
living_bit alive p inside =
    ap not (ended_test alive p ∙ ap (λ b. b && not (bit_at alive p)) (lt-ltb p (length alive) inside)) ∙ not-not (bit_at alive p)

-- one bit is set and no other
bit_set : (bits : List Bool) (i j : ℕ) (b : Bool) → i < length bits → bit_at (set bits i b) j ≡ cond (i == j) b (bit_at bits j)
bit_set bits i j b inside = elim (cases_eq i j) [
  | inl same ↦
      ap (λ k. bit_at (set bits i b) k) (sym same) ∙ get_or-set_same bits i b false inside
      ∙ sym (ap (λ t. cond t b (bit_at bits j)) (eq-eqb i j same))
  | inr ne ↦
      get_or-set_other bits i j b false (λ e. ne (sym e))
      ∙ sym (ap (λ t. cond t b (bit_at bits j)) (false_from_ne_true (i == j) (λ t. ne (eqb-true i j t))))
]

-- places are one where pairs are
place_test : (heaps p s q t : ℕ) → s < heaps → t < heaps → (place_of heaps p s == place_of heaps q t) ≡ ((p == q) && (s == t))
place_test heaps p s q t inside there =
    same_test (place_of heaps p s == place_of heaps q t) ((p == q) && (s == t))
    (λ e. let pair = same_pair heaps p s q t inside there (eqb-true (place_of heaps p s) (place_of heaps q t) e) in
    and_from (p == q) (s == t) (eq-eqb p q pair.0) (eq-eqb s t pair.1))
    (λ e. let parts = and_parts (p == q) (s == t) e in
    eq-eqb (place_of heaps p s) (place_of heaps q t)
    (ap (λ r. place_of heaps r s) (eqb-true p q parts.0) ∙ ap (λ r. place_of heaps q r) (eqb-true s t parts.1)))

pair_set : (heaps procs : ℕ) (bits : List Bool) (p s q t : ℕ) (b : Bool) → length bits ≡ procs * heaps → p < procs → s < heaps → t < heaps →
    bit_of heaps (set bits (place_of heaps p s) b) q t ≡ cond ((p == q) && (s == t)) b (bit_of heaps bits q t)
pair_set heaps procs bits p s q t b size inside there here =
    let within = place_inside heaps procs p s inside there in
    bit_set bits (place_of heaps p s) (place_of heaps q t) b (omega (arith, size, within))
    ∙ ap (λ test. cond test b (bit_of heaps bits q t)) (place_test heaps p s q t there here)

gained : (a b o n same : Bool) → (IsTrue same → IsTrue a) → (IsTrue same → IsTrue b) → (IsTrue b → n ≡ cond same true o) →
    (a && (b && n)) ≡ ((a && (b && o)) || same)
gained true true o n true fa fb e = e refl ∙ sym (or-true o)
gained true true o n false fa fb e = e refl ∙ sym (or-false o)
gained true false o n true fa fb e = absurd (false≢true (fb refl))
gained true false o n false fa fb e = refl
gained false b o n true fa fb e = absurd (false≢true (fa refl))
gained false b o n false fa fb e = refl

lost : (a b o n same : Bool) → (IsTrue b → n ≡ cond same false o) → (a && (b && n)) ≡ ((a && (b && o)) && not same)
lost true true o n true e = e refl ∙ sym (and-false o)
lost true true o n false e = e refl ∙ sym (and-true o)
lost true false o n same e = refl
lost false b o n same e = refl

ending : (a o n same : Bool) → (IsTrue same → IsTrue a) → n ≡ cond same false o → (a && not n) ≡ ((a && not o) || same)
ending true o n true fa e = ap not e ∙ sym (or-true (not o))
ending true o n false fa e = ap not e ∙ sym (or-false (not o))
ending false o n true fa e = absurd (false≢true (fa refl))
ending false o n false fa e = refl

-- a share comes with its bit
pub gains : (heaps procs : ℕ) (bits : List Bool) (p s : ℕ) → length bits ≡ procs * heaps → p < procs → s < heaps →
    GainsShare (shares_in heaps procs bits) (shares_in heaps procs (set bits (place_of heaps p s) true)) p s
gains heaps procs bits p s size inside there = λ q t.
    share_test heaps procs (set bits (place_of heaps p s) true) q t
    ∙ gained (nat_lt q procs) (nat_lt t heaps) (bit_of heaps bits q t) (bit_of heaps (set bits (place_of heaps p s) true) q t) ((p == q) && (s == t))
    (λ e. ap (λ r. nat_lt r procs) (sym (eqb-true p q (and_parts (p == q) (s == t) e).0)) ∙ lt-ltb p procs inside)
    (λ e. ap (λ r. nat_lt r heaps) (sym (eqb-true s t (and_parts (p == q) (s == t) e).1)) ∙ lt-ltb s heaps there)
    (λ e. pair_set heaps procs bits p s q t true size inside there (ltb-true t heaps e))
    ∙ ap (λ b. b || ((p == q) && (s == t))) (sym (share_test heaps procs bits q t))

-- a share goes with its bit
pub loses : (heaps procs : ℕ) (bits : List Bool) (p s : ℕ) → length bits ≡ procs * heaps → p < procs → s < heaps →
    LosesShare (shares_in heaps procs bits) (shares_in heaps procs (set bits (place_of heaps p s) false)) p s
loses heaps procs bits p s size inside there = λ q t.
    share_test heaps procs (set bits (place_of heaps p s) false) q t
    ∙ lost (nat_lt q procs) (nat_lt t heaps) (bit_of heaps bits q t) (bit_of heaps (set bits (place_of heaps p s) false) q t) ((p == q) && (s == t))
    (λ e. pair_set heaps procs bits p s q t false size inside there (ltb-true t heaps e))
    ∙ ap (λ b. b && not ((p == q) && (s == t))) (sym (share_test heaps procs bits q t))

-- a process ends with its bit
pub ends : (alive : List Bool) (p : ℕ) → p < length alive → GainsEnded (ended_in alive) (ended_in (set alive p false)) p
ends alive p inside = λ q.
    ended_test (set alive p false) q
    ∙ ap (λ n. nat_lt q n && not (bit_at (set alive p false) q)) (length-set alive p false)
    ∙ ending (nat_lt q (length alive)) (bit_at alive q) (bit_at (set alive p false) q) (p == q)
    (λ e. ap (λ r. nat_lt r (length alive)) (sym (eqb-true p q e)) ∙ lt-ltb p (length alive) inside)
    (bit_set alive p q false inside)
    ∙ ap (λ b. b || (p == q)) (sym (ended_test alive q))
