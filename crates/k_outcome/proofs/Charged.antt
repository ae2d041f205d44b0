-- What a process is charged, summed over the shared heaps one after the other.
use Rattle.std.proofs.Common.{◌≡◌, ℕ, zero, suc, ◌+◌, ◌^◌, ◌<◌, ◌≤◌, cond, not, Bool, true, false, refl, sym, ap, ◌∙◌, arith}
use Rattle.std.specs.Prelude.{◌==◌, IsFalse, IsTrue, filter}
use Rattle.std.proofs.lemmas.Bool.{false≢true}
use Rattle.k_types.specs.Names.{among}
use Rattle.k_types.specs.Numbers.{numbers_below, numbers_from}
use Rattle.k_types.specs.Owners.{bytes_of, charge_of, shared, user}
use Rattle.k_types.specs.State.{Sharing, State, has_share}
use Rattle.k_types.specs.Totals.{total}
use Rattle.k_types.specs.Trace.{limit_of, process_count}
use Rattle.k_types.proofs.Lists.{numbers_push}
use Rattle.k_types.proofs.Sums.{total_push}
use Rattle.k_laws.proofs.SharedSums.{shares_sum}
use Rattle.k_laws.proofs.KnownMaxima.{max_small}
use Rattle.k_outcome.specs.Ends.{EndValue, IsEnd, journal_of, last_state}
use Rattle.k_outcome.proofs.Told.{sound}
use Rattle.k_types.proofs.Charges.{charge_at_most}

-- the bytes of the shared heap where the process shares it
abbrev pub weight : EndValue → ℕ → ℕ → ℕ
weight e p t = cond (has_share (last_state e).shares p t) (bytes_of e.setup (last_state e) (shared t)) 0

-- what the process is charged for its own heap and for the first shared heaps
abbrev pub charged_to : EndValue → ℕ → ℕ → ℕ
charged_to e p n = bytes_of e.setup (last_state e) (user p) + total (weight e p) (numbers_below n)

fewer : (f : ℕ → ℕ) (first n m : ℕ) → n ≤ m → total f (numbers_from first n) ≤ total f (numbers_from first m)
fewer f first zero m low = omega arith
fewer f first (suc n) zero low = absurd (omega (arith, low))
fewer f first (suc n) (suc m) low = omega (arith, fewer f (suc first) n m (omega (arith, low)))

module _ (e : EndValue) (end : IsEnd e) (p : ℕ) where
  abbrev st : State
  st = last_state e

  pub charged_nothing : IsTrue (among p st.ended) → charge_of e.setup st p ≡ 0
  charged_nothing ended = ap (λ b. cond b 0 (bytes_of e.setup st (user p) + total (λ (s : Sharing). bytes_of e.setup st (shared s.heap)) (filter (λ s. s.process == p) st.shares))) ended

  -- summed over all shared heaps, it is what the machine says
  pub charged_all : IsFalse (among p st.ended) → charged_to e p e.setup.shared_heaps ≡ charge_of e.setup st p
  charged_all lives =
      ap (λ n. bytes_of e.setup st (user p) + n) (sym (shares_sum (λ t. bytes_of e.setup st (shared t)) p e.setup.shared_heaps st.shares (sound e end).shape.distinct_shares (sound e end).shape.known.shared))
      ∙ ap (λ b. cond b 0 (bytes_of e.setup st (user p) + total (λ (s : Sharing). bytes_of e.setup st (shared s.heap)) (filter (λ s. s.process == p) st.shares))) (sym lives)

  pub charged_more : (n : ℕ) → charged_to e p (n + 1) ≡ charged_to e p n + weight e p n
  charged_more n =
      let next : suc n ≡ n + 1 = omega arith in
      let pushed = ap (λ k. total (weight e p) (numbers_below k)) (sym next) ∙ ap (total (weight e p)) (numbers_push 0 n) ∙ total_push (weight e p) (numbers_below n) (0 + n) in
      let same : 0 + n ≡ n = omega arith in
      omega (arith, pushed, ap (weight e p) same)

  pub charged_within : (n : ℕ) → n ≤ e.setup.shared_heaps → charged_to e p n ≤ charged_to e p e.setup.shared_heaps
  charged_within n low = omega (arith, fewer (weight e p) 0 n e.setup.shared_heaps low)

  -- no process is charged so much
  pub charged_little : p < process_count e.setup → charge_of e.setup st p < 2 ^ 40
  charged_little known =
      let m = limit_of e.setup p in
      let limited = end.rules.limits.limited p known in
      omega (
        arith,
        charge_at_most e.setup st p known end.rules.limits,
        (sound e end).uses m limited,
        max_small e.setup (journal_of e) end.rules.limits end.legal m limited,
      )

  pub charged_first : charged_to e p 0 ≡ bytes_of e.setup st (user p)
  charged_first = omega arith

  -- with each shared heap it still fits
  pub charged_fits : (n bytes : ℕ) → p < process_count e.setup → IsFalse (among p st.ended) → n < e.setup.shared_heaps → bytes ≡ weight e p n → charged_to e p n + bytes < 2 ^ 64
  charged_fits n bytes known lives low is =
      omega (arith, is, charged_more n, charged_within (n + 1) (omega (arith, low)), charged_all lives, charged_little known)

  pub weighs : (n bytes : ℕ) → IsTrue (has_share st.shares p n) → bytes ≡ bytes_of e.setup st (shared n) → bytes ≡ weight e p n
  weighs n bytes shares is = is ∙ ap (λ b. cond b (bytes_of e.setup st (shared n)) 0) (sym shares)

  -- a shared heap that is not shared adds nothing
  pub charged_on : (n : ℕ) → IsFalse (has_share st.shares p n) → charged_to e p n ≡ charged_to e p (n + 1)
  charged_on n none = omega (arith, charged_more n, ap (λ b. cond b (bytes_of e.setup st (shared n)) 0) none)

-- a process that has ended, and one that lives
pub ended_by : (a b : Bool) → a ≡ not b → a ≡ false → b ≡ true
ended_by a true e t = refl
ended_by a false e t = absurd (false≢true (sym t ∙ e))

pub living_by : (a b : Bool) → a ≡ not b → a ≡ true → b ≡ false
living_by a false e t = refl
living_by a true e t = absurd (false≢true (sym e ∙ t))
