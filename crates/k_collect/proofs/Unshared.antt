-- The shares of a process that are dropped one by one.
use Rattle.std.proofs.Common.{◌≡◌, ℕ, ◌+◌, ◌<◌, ◌≤◌, ◌^◌, ◌==◌, ◌||◌, ◌&&◌, not, nat_lt, Bool, true, false, cond, refl, sym, ap, ap₂, ◌∙◌, subst, List, length, get_or, arith, eqb-true, eq-eqb}
use Rattle.std.proofs.lemmas.Bool.{and_parts, false≢true, lt-ltb, ltb-true}
use Rattle.k_types.specs.Agree.{BookValue, CellValue}
use Rattle.k_types.specs.Numbers.{numbers_below}
use Rattle.k_types.specs.State.{has_share}
use Rattle.k_types.proofs.Lists.{numbers_length}
use Rattle.k_types.proofs.Sums.{ones, sum_same, total_at_most}
use Rattle.k_types.proofs.Tests.{same_test}
use Rattle.k_commit.specs.k_book.Books.{BookRecord}
use Rattle.k_shares.specs.Sharers.{LosesShare}
use Rattle.k_collect.specs.Unsharing.{CanUnshare, HasUnshared, bytes_lost, shares_lost, ways_left}
use Rattle.k_types.proofs.Totals.{total_more, first_total}

pub record IsUnsharing (stays : ℕ → Bool) (p : ℕ) (old now : BookRecord) (s shares bytes : ℕ) : Type 0 where
  pub rest : now ≡ record old { value = record old.value { shares = now.value.shares } }
  pub left : (q t : ℕ) → has_share now.value.shares q t ≡ (has_share old.value.shares q t && (not (q == p) || (not (nat_lt t s) || stays t)))
  pub count : shares ≡ shares_lost stays old.value p (numbers_below s)
  pub sum : bytes ≡ bytes_lost stays old.value p (numbers_below s)

and_or_true : (a b : Bool) → a ≡ (a && (b || true))
and_or_true true true = refl
and_or_true true false = refl
and_or_true false b = refl

one_lost : (a b : Bool) → cond a (cond b 0 1) 0 ≤ 1
one_lost true true = omega arith
one_lost true false = omega arith
one_lost false b = omega arith

pub few_lost : (stays : ℕ → Bool) (b : BookValue) (p n : ℕ) → shares_lost stays b p (numbers_below n) ≤ n
few_lost stays b p n =
    let most = total_at_most (λ t. cond (has_share b.shares p t) (cond (stays t) 0 1) 0) (λ t. 1) (λ t. one_lost (has_share b.shares p t) (stays t)) (numbers_below n) in
    let all = ones (numbers_below n) in
    let size = numbers_length 0 n in
    omega (arith, most, all, size)

-- below one number more are the same ones and that one
below_same : (t s : ℕ) → (s == t) ≡ false → nat_lt t s ≡ nat_lt t (s + 1)
below_same t s other = same_test (nat_lt t s) (nat_lt t (s + 1))
    (λ low. let l = ltb-true t s low in lt-ltb t (s + 1) (omega (arith, l)))
    (λ low.
    let l = ltb-true t (s + 1) low in
    let apart : s ≡ t → ⊥ = λ same. false≢true (sym other ∙ eq-eqb s t same) in
    lt-ltb t s (omega (arith, l, apart)))

below_next : (s : ℕ) → nat_lt s (s + 1) ≡ true
below_next s = lt-ltb s (s + 1) (omega arith)

not_below : (s : ℕ) → nat_lt s s ≡ false
not_below s = go (nat_lt s s) refl
  where
    go : (b : Bool) → nat_lt s s ≡ b → b ≡ false
    go true low = let l = ltb-true s s low in absurd (omega (arith, l))
    go false e = refl

-- what the share of that heap is, once its turn has come, for each process
kept_share : (a q s : Bool) → (q ≡ true → (a && not s) ≡ false) → (a && (not q || true)) ≡ (a && (not q || s))
kept_share true true true kept = refl
kept_share true true false kept = absurd (false≢true (sym (kept refl)))
kept_share true false s kept = refl
kept_share false q s kept = refl

lost_share : (a q e : Bool) → q ≡ e → ((a && (not q || true)) && not (e && true)) ≡ (a && (not q || false))
lost_share true true true same = refl
lost_share true true false same = absurd (false≢true (sym same))
lost_share true false true same = absurd (false≢true same)
lost_share true false false same = refl
lost_share false q e same = refl

pub eqb_turned : (a b : ℕ) → (a == b) ≡ (b == a)
eqb_turned a b = same_test (a == b) (b == a) (λ t. eq-eqb b a (sym (eqb-true a b t))) (λ t. eq-eqb a b (sym (eqb-true b a t)))

and_true : (a : Bool) → a ≡ (a && not false)
and_true true = refl
and_true false = refl

module _ (stays : ℕ → Bool) (p : ℕ) (old now : BookRecord) (s shares bytes : ℕ) (is : IsUnsharing stays p old now s shares bytes) where
  -- nothing was decided of this heap yet
  pub share_as_before : has_share now.value.shares p s ≡ has_share old.value.shares p s
  share_as_before =
      is.left p s
      ∙ ap (λ b. has_share old.value.shares p s && (not (p == p) || (not b || stays s))) (not_below s)
      ∙ sym (and_or_true (has_share old.value.shares p s) (not (p == p)))

  -- a heap that is not shared, or into which there is a way, changes nothing
  pub unsharing_passes : (has_share old.value.shares p s && not (stays s)) ≡ false → IsUnsharing stays p old now (s + 1) shares bytes
  unsharing_passes kept = record {
    rest = is.rest;
    left = λ q t. is.left q t ∙ go q t (s == t) refl;
    count =
        let more = total_more (λ t. cond (has_share old.value.shares p t) (cond (stays t) 0 1) 0) s in
        let here = none_lost (has_share old.value.shares p s) (stays s) kept in
        let was = is.count in
        omega (arith, more, here, was);
    sum =
        let more = total_more (λ t. cond (has_share old.value.shares p t && not (stays t)) (get_or old.value.shared_bytes t 0) 0) s in
        let here = ap (λ b. cond b (get_or old.value.shared_bytes s 0) 0) kept in
        let was = is.sum in
        omega (arith, more, here, was);
  }
    where
      none_lost : (a b : Bool) → (a && not b) ≡ false → ◌≡◌ {A = ℕ} (cond a (cond b 0 1) 0) 0
      none_lost true true e = refl
      none_lost true false e = absurd (false≢true (sym e))
      none_lost false b e = refl

      go : (q t : ℕ) (e : Bool) → (s == t) ≡ e →
          (has_share old.value.shares q t && (not (q == p) || (not (nat_lt t s) || stays t))) ≡ (has_share old.value.shares q t && (not (q == p) || (not (nat_lt t (s + 1)) || stays t)))
      go q t true same =
          subst (λ k. (has_share old.value.shares q k && (not (q == p) || (not (nat_lt k s) || stays k))) ≡ (has_share old.value.shares q k && (not (q == p) || (not (nat_lt k (s + 1)) || stays k))))
          (eqb-true s t same)
          (ap (λ b. has_share old.value.shares q s && (not (q == p) || (not b || stays s))) (not_below s)
          ∙ kept_share (has_share old.value.shares q s) (q == p) (stays s)
          (λ mine. ap (λ k. has_share old.value.shares k s && not (stays s)) (eqb-true q p mine) ∙ kept)
          ∙ ap (λ b. has_share old.value.shares q s && (not (q == p) || (not b || stays s))) (sym (below_next s)))
      go q t false other = ap (λ b. has_share old.value.shares q t && (not (q == p) || (not b || stays t))) (below_same t s other)

  -- a share without a way goes
  pub unsharing_drops : (new : BookRecord) → has_share old.value.shares p s ≡ true → stays s ≡ false → LosesShare now.value.shares new.value.shares p s →
      new ≡ record now { value = record now.value { shares = new.value.shares } } →
      IsUnsharing stays p old new (s + 1) (shares + 1) (bytes + get_or old.value.shared_bytes s 0)
  unsharing_drops new there gone loses changed = record {
    rest = changed ∙ ap (λ (b : BookRecord). record b { value = record b.value { shares = new.value.shares } }) is.rest;
    left = λ q t. loses q t ∙ ap (λ b. b && not ((p == q) && (s == t))) (is.left q t) ∙ go q t (s == t) refl;
    count =
        let more = total_more (λ t. cond (has_share old.value.shares p t) (cond (stays t) 0 1) 0) s in
        let here : ◌≡◌ {A = ℕ} (cond (has_share old.value.shares p s) (cond (stays s) 0 1) 0) 1 = ap₂ (λ a b. cond a (cond b 0 1) 0) there gone in
        let was = is.count in
        omega (arith, more, here, was);
    sum =
        let more = total_more (λ t. cond (has_share old.value.shares p t && not (stays t)) (get_or old.value.shared_bytes t 0) 0) s in
        let here : cond (has_share old.value.shares p s && not (stays s)) (get_or old.value.shared_bytes s 0) 0 ≡ get_or old.value.shared_bytes s 0 = ap₂ (λ a b. cond (a && not b) (get_or old.value.shared_bytes s 0) 0) there gone in
        let was = is.sum in
        omega (arith, more, here, was);
  }
    where
      go : (q t : ℕ) (e : Bool) → (s == t) ≡ e →
          ((has_share old.value.shares q t && (not (q == p) || (not (nat_lt t s) || stays t))) && not ((p == q) && (s == t)))
          ≡ (has_share old.value.shares q t && (not (q == p) || (not (nat_lt t (s + 1)) || stays t)))
      go q t true same =
          subst (λ k. ((has_share old.value.shares q k && (not (q == p) || (not (nat_lt k s) || stays k))) && not ((p == q) && (s == k)))
          ≡ (has_share old.value.shares q k && (not (q == p) || (not (nat_lt k (s + 1)) || stays k))))
          (eqb-true s t same)
          (ap₂ (λ b d. (has_share old.value.shares q s && (not (q == p) || (not b || stays s))) && not ((p == q) && d)) (not_below s) (eq-eqb s s refl)
          ∙ lost_share (has_share old.value.shares q s) (q == p) (p == q) (eqb_turned q p)
          ∙ ap₂ (λ b d. has_share old.value.shares q s && (not (q == p) || (not b || d))) (sym (below_next s)) (sym gone))
      go q t false other =
          ap (λ d. (has_share old.value.shares q t && (not (q == p) || (not (nat_lt t s) || stays t))) && not ((p == q) && d)) other
          ∙ and_false_not (has_share old.value.shares q t && (not (q == p) || (not (nat_lt t s) || stays t))) (p == q)
          ∙ ap (λ b. has_share old.value.shares q t && (not (q == p) || (not b || stays t))) (below_same t s other)
        where
          and_false_not : (a b : Bool) → (a && not (b && false)) ≡ a
          and_false_not true true = refl
          and_false_not true false = refl
          and_false_not false b = refl

-- the bytes so far, with one heap more, fit
bytes_go_on : (stays : ℕ → Bool) (p : ℕ) (old : BookRecord) (s : ℕ) → bytes_lost stays old.value p (numbers_below (length old.value.phases)) < 2 ^ 64 → s < length old.value.phases →
    has_share old.value.shares p s ≡ true → stays s ≡ false → bytes_lost stays old.value p (numbers_below s) + get_or old.value.shared_bytes s 0 < 2 ^ 64
bytes_go_on stays p old s most low there gone =
    let more = total_more (λ t. cond (has_share old.value.shares p t && not (stays t)) (get_or old.value.shared_bytes t 0) 0) s in
    let here : cond (has_share old.value.shares p s && not (stays s)) (get_or old.value.shared_bytes s 0) 0 ≡ get_or old.value.shared_bytes s 0 = ap₂ (λ a b. cond (a && not b) (get_or old.value.shared_bytes s 0) 0) there gone in
    let less = first_total (λ t. cond (has_share old.value.shares p t && not (stays t)) (get_or old.value.shared_bytes t 0) 0) (s + 1) (length old.value.phases) (omega (arith, low)) in
    omega (arith, more, here, less, most)

-- what it means that the next share goes, or stays
module _ (v : CellValue) (p : ℕ) (old now : BookRecord) (s shares bytes : ℕ) (can : CanUnshare v p old) (is : IsUnsharing (ways_left v p old) p old now s shares bytes) where
  loses_is : (has_share now.value.shares p s && not (ways_left v p now s)) ≡ (has_share old.value.shares p s && not (ways_left v p old s))
  loses_is = ap₂ (λ a b. a && not b) (share_as_before (ways_left v p old) p old now s shares bytes is) (ap (λ (k : BookRecord). ways_left v p k s) is.rest)

  pub lost_means : (has_share now.value.shares p s && not (ways_left v p now s)) ≡ true → (has_share old.value.shares p s ≡ true) × (ways_left v p old s ≡ false)
  lost_means lost =
      let both = and_parts (has_share old.value.shares p s) (not (ways_left v p old s)) (sym loses_is ∙ lost) in
      (both.0, not_true (ways_left v p old s) both.1)
    where
      not_true : (b : Bool) → not b ≡ true → b ≡ false
      not_true true e = absurd (false≢true e)
      not_true false e = refl

  pub kept_means : (has_share now.value.shares p s && not (ways_left v p now s)) ≡ false → (has_share old.value.shares p s && not (ways_left v p old s)) ≡ false
  kept_means kept = sym loses_is ∙ kept

  pub bytes_so_far : s < length old.value.phases → (has_share old.value.shares p s ≡ true) × (ways_left v p old s ≡ false) → bytes + get_or now.value.shared_bytes s 0 < 2 ^ 64
  bytes_so_far low means =
      let fits = bytes_go_on (ways_left v p old) p old s can.bytes low means.0 means.1 in
      let sum = is.sum in
      let same = ap (λ (b : BookRecord). get_or b.value.shared_bytes s 0) is.rest in
      omega (arith, fits, sum, same)

  pub shares_so_far : s < length old.value.phases → shares + 1 < 2 ^ 32
  shares_so_far low =
      let few = few_lost (ways_left v p old) old.value p s in
      let count = is.count in
      let numbers = can.segments in
      omega (arith, few, count, numbers, low)

-- tests that agree on the heaps that the process shares lose the same shares
module _ (x y : ℕ → Bool) (p : ℕ) (b : BookRecord) (same : (t : ℕ) → has_share b.value.shares p t ≡ true → x t ≡ y t) where
  same_lost : (t : ℕ) → (has_share b.value.shares p t && not (x t)) ≡ (has_share b.value.shares p t && not (y t))
  same_lost t = go (has_share b.value.shares p t) refl
    where
      go : (a : Bool) → has_share b.value.shares p t ≡ a → (a && not (x t)) ≡ (a && not (y t))
      go true there = ap not (same t there)
      go false none = refl

  counted_by : (a c : Bool) → ◌≡◌ {A = ℕ} (cond a (cond c 0 1) 0) (cond (a && not c) 1 0)
  counted_by true true = refl
  counted_by true false = refl
  counted_by false c = refl

  pub same_bytes_lost : (heaps : List ℕ) → bytes_lost x b.value p heaps ≡ bytes_lost y b.value p heaps
  same_bytes_lost = sum_same
      (λ t. cond (has_share b.value.shares p t && not (x t)) (get_or b.value.shared_bytes t 0) 0) (λ t. cond (has_share b.value.shares p t && not (y t)) (get_or b.value.shared_bytes t 0) 0)
      (λ t. ap (λ a. cond a (get_or b.value.shared_bytes t 0) 0) (same_lost t))

  pub same_shares_lost : (heaps : List ℕ) → shares_lost x b.value p heaps ≡ shares_lost y b.value p heaps
  same_shares_lost = sum_same
      (λ t. cond (has_share b.value.shares p t) (cond (x t) 0 1) 0) (λ t. cond (has_share b.value.shares p t) (cond (y t) 0 1) 0)
      (λ t. counted_by (has_share b.value.shares p t) (x t) ∙ ap (λ a. cond a 1 0) (same_lost t) ∙ sym (counted_by (has_share b.value.shares p t) (y t)))

  pub same_unshared : (k : BookRecord) → HasUnshared x p b k → HasUnshared y p b k
  same_unshared k unshared = record { rest = unshared.rest; shares = λ q t. unshared.shares q t ∙ go q t (has_share b.value.shares q t) (q == p) refl refl }
    where
      go : (q t : ℕ) (a c : Bool) → has_share b.value.shares q t ≡ a → (q == p) ≡ c → (a && (not c || x t)) ≡ (a && (not c || y t))
      go q t true true there mine = same t (ap (λ k. has_share b.value.shares k t) (sym (eqb-true q p mine)) ∙ there)
      go q t true false there other = refl
      go q t false c none e = refl
