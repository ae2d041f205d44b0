-- The limits above a limit, and which of them is full where it is to have another maximum.
use Rattle.std.proofs.Common.{◌≡◌, ℕ, zero, suc, ◌-◌, ◌<◌, ◌≤◌, ◌==◌, ◌&&◌, ◌||◌, nat_lt, cond, Bool, true, false, ap, ap₂, sym, ◌∙◌, List, length, Option, Some, None, arith}
use Rattle.std.proofs.lemmas.Bool.{lt-ltb}
use Rattle.std.proofs.lemmas.Bool.Decides.{nat_tests}
use Rattle.k_types.specs.declared.setup.LimitRow.{LimitRow}
use Rattle.k_types.specs.declared.names.LimitId.{LimitId}
use Rattle.k_types.specs.Names.{among}
use Rattle.k_types.specs.Trace.{row_of}
use Rattle.k_types.specs.Limits.{ancestors_above, ancestors_within, full_above, full_for, limits_in}
use Rattle.k_state.specs.Machines.{Machine}
use Rattle.k_state.proofs.Rows.{hard_kept, parent_kept}

above_step : (rows : List LimitRow) (depth m : ℕ) → 0 < depth → ancestors_within rows depth m ≡ ancestors_above (ancestors_within rows (depth - 1)) (row_of rows m).parent
unfolding ancestors_within
above_step rows zero m positive = absurd (omega arith)
above_step rows (suc depth) m positive = let one : depth ≡ suc depth - 1 = omega arith in ap (λ d. ancestors_above (ancestors_within rows d) (row_of rows m).parent) one

pub above_over : (rows : List LimitRow) (q depth m : ℕ) → depth ≡ 0 → among q (ancestors_within rows depth m) ≡ false
unfolding ancestors_within
above_over rows q depth m none = ap (λ d. among q (ancestors_within rows d m)) none

pub above_root : (rows : List LimitRow) (q depth m : ℕ) → 0 < depth → (row_of rows m).parent ≡ None → among q (ancestors_within rows depth m) ≡ false
above_root rows q depth m positive is =
    ap (among q) (above_step rows depth m positive) ∙ ap (λ up. among q (ancestors_above (ancestors_within rows (depth - 1)) up)) is

pub above_parent : (rows : List LimitRow) (q depth m : ℕ) (parent : LimitId) → 0 < depth → (row_of rows m).parent ≡ Some parent →
    among q (ancestors_within rows depth m) ≡ ((parent.0 == q) || among q (ancestors_within rows (depth - 1) parent.0))
above_parent rows q depth m parent positive is =
    ap (among q) (above_step rows depth m positive) ∙ ap (λ up. among q (ancestors_above (ancestors_within rows (depth - 1)) up)) is

-- by the limit with the maximum that it has now
full_for_is : (m : Machine) (at max : ℕ) (row : LimitRow) → at < length m.setup.limits → length m.state.maxima ≡ length m.setup.limits →
    row ≡ row_of (limits_in m.setup m.state) at →
    full_for m.setup m.state at max ≡ cond (row.hard && nat_lt row.max max) (full_above m.setup m.state row.parent (max - row.max)) None
full_for_is m at max row inside same is =
    let full : Bool → Option LimitId → ℕ → Option ℕ = λ hard parent most. cond (hard && nat_lt most max) (full_above m.setup m.state parent (max - most)) None in
    ap (full (row_of m.setup.limits at).hard (row_of m.setup.limits at).parent) (ap (λ (r : LimitRow). r.max) (sym is))
    ∙ ap₂ (λ hard parent. full hard parent row.max)
    (sym (hard_kept m.setup.limits m.state.maxima at row inside same is))
    (sym (parent_kept m.setup.limits m.state.maxima at row inside same is))

module _ (m : Machine) (at max : ℕ) (row : LimitRow) (inside : at < length m.setup.limits) (same : length m.state.maxima ≡ length m.setup.limits)
    (is : row ≡ row_of (limits_in m.setup m.state) at) where
  -- a soft limit reserves nothing
  pub full_soft : row.hard ≡ false → full_for m.setup m.state at max ≡ None
  full_soft soft = full_for_is m at max row inside same is ∙ ap (λ hard. cond (hard && nat_lt row.max max) (full_above m.setup m.state row.parent (max - row.max)) None) soft

  full_hard : row.hard ≡ true → full_for m.setup m.state at max ≡ cond (nat_lt row.max max) (full_above m.setup m.state row.parent (max - row.max)) None
  full_hard hard = full_for_is m at max row inside same is ∙ ap (λ b. cond (b && nat_lt row.max max) (full_above m.setup m.state row.parent (max - row.max)) None) hard

  -- nor does one that gets no more
  pub full_kept : row.hard ≡ true → max ≤ row.max → full_for m.setup m.state at max ≡ None
  full_kept hard low =
      let less : nat_lt row.max max ≡ false = grind (arith, nat_tests) in
      full_hard hard ∙ ap (λ b. cond b (full_above m.setup m.state row.parent (max - row.max)) None) less

  -- what a hard limit gets more has to fit above
  pub full_more : row.hard ≡ true → row.max < max → (parent : Option LimitId) → row.parent ≡ parent → full_for m.setup m.state at max ≡ full_above m.setup m.state parent (max - row.max)
  full_more hard grows parent above =
      full_hard hard
      ∙ ap (λ b. cond b (full_above m.setup m.state row.parent (max - row.max)) None) (lt-ltb row.max max grows)
      ∙ ap (λ p. full_above m.setup m.state p (max - row.max)) above
