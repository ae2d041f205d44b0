-- Shares that are dropped one by one, and the charge that is credited.
use Rattle.std.proofs.Common.{◌≡◌, ℕ, ◌+◌, ◌-◌, ◌<◌, ◌==◌, ◌&&◌, not, nat_lt, Bool, true, false, cond, refl, sym, ap, ap₂, ◌∙◌, get_or, arith}
use Rattle.std.proofs.lemmas.Bool.Decides.{nat_tests}
use Rattle.k_types.specs.State.{has_share}
use Rattle.k_commit.specs.k_book.Books.{BookRecord}
use Rattle.k_commit.specs.k_book.Calls.{ChangesShares}
use Rattle.k_shares.specs.Sharers.{LosesShare}
use Rattle.k_own.specs.Charges.{bytes_if_shared, bytes_shared}
use Rattle.k_types.proofs.Totals.{total_more, first_total}

-- the shares of the process in the first heaps are dropped, and their bytes are added up
pub record IsDropping (p : ℕ) (before b : BookRecord) (s bytes : ℕ) : Type 0 where
  pub bytes_are : bytes ≡ bytes_shared before.value p s
  pub shares : (q t : ℕ) → has_share b.value.shares q t ≡ (has_share before.value.shares q t && not ((q == p) && nat_lt t s))
  pub book_is : ChangesShares before b

kept_all : (x t : Bool) → (x && not (t && false)) ≡ x
kept_all true true = refl
kept_all true false = refl
kept_all false t = refl

module _ (p : ℕ) (before b : BookRecord) (s bytes : ℕ) (d : IsDropping p before b s bytes) where
  own_share : has_share b.value.shares p s ≡ has_share before.value.shares p s
  own_share = d.shares p s ∙ ap (λ z. has_share before.value.shares p s && not ((p == p) && z)) (not_below s) ∙ kept_all (has_share before.value.shares p s) (p == p)
    where
      not_below : (k : ℕ) → nat_lt k k ≡ false
      not_below k = grind (arith, nat_tests)

  pub next_bytes : bytes_if_shared b.value p s ≡ bytes_if_shared before.value p s
  next_bytes =
      ap (λ z. cond z (get_or b.value.shared_bytes s 0) 0) own_share
      ∙ ap (λ (k : BookRecord). cond (has_share before.value.shares p s) (get_or k.value.shared_bytes s 0) 0) d.book_is

  sum_more : bytes + bytes_if_shared b.value p s ≡ bytes_shared before.value p (s + 1)
  sum_more = ap₂ (λ x y. x + y) d.bytes_are next_bytes ∙ sym (total_more (bytes_if_shared before.value p) s)

  pub sum_fits : (heaps limit : ℕ) → s < heaps → bytes_shared before.value p heaps < limit → bytes + bytes_if_shared b.value p s < limit
  sum_fits heaps limit inside small =
      let sum = sum_more in
      let within = first_total (bytes_if_shared before.value p) (s + 1) heaps (omega (arith, inside)) in
      omega (arith, sum, within, small)

  pub dropping_goes_on : (c : BookRecord) (n : ℕ) → n ≡ bytes_if_shared b.value p s → LosesShare b.value.shares c.value.shares p s → ChangesShares b c → IsDropping p before c (s + 1) (bytes + n)
  dropping_goes_on c n is loses rest = record {
    bytes_are = ap (λ x. bytes + x) is ∙ sum_more;
    shares = λ q t.
        loses q t ∙ ap (λ x. x && not ((p == q) && (s == t))) (d.shares q t)
        ∙ one_more (has_share before.value.shares q t) q t;
    book_is = rest ∙ ap (λ (k : BookRecord). record k { value = record k.value { shares = c.value.shares } }) d.book_is;
  }
    where
      one_more : (x : Bool) (q t : ℕ) → ((x && not ((q == p) && nat_lt t s)) && not ((p == q) && (s == t))) ≡ (x && not ((q == p) && nat_lt t (s + 1)))
      one_more true q t = grind (arith, nat_tests)
      one_more false q t = refl
