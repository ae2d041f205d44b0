-- The first limit of a path at which a test holds.
use Rattle.std.proofs.Common.{◌≡◌, ℕ, zero, suc, ◌-◌, ◌<◌, cond, Bool, true, false, ap, ap₂, sym, ◌∙◌, refl, List, [], ◌∷◌, length, find, Some, None, arith}
use Rattle.k_types.specs.declared.setup.LimitRow.{LimitRow}
use Rattle.k_types.specs.declared.names.LimitId.{LimitId}
use Rattle.k_types.specs.Trace.{row_of}
use Rattle.k_types.specs.Limits.{path_above, path_within, with_maxima}
use Rattle.k_types.specs.TraceRules.{IsTree}
use Rattle.k_state.proofs.Rows.{parent_kept}

path_step : (rows : List LimitRow) (depth m : ℕ) → 0 < depth →
    path_within rows depth m ≡ m ∷ path_above (path_within rows (depth - 1)) (row_of rows m).hard (row_of rows m).parent
unfolding path_within
path_step rows zero m positive = absurd (omega arith)
path_step rows (suc depth) m positive =
    let one : depth ≡ suc depth - 1 = omega arith in
    ap (λ d. m ∷ path_above (path_within rows d) (row_of rows m).hard (row_of rows m).parent) one

pub path_none : (rows : List LimitRow) (test : ℕ → Bool) (depth m : ℕ) → depth ≡ 0 → find test (path_within rows depth m) ≡ None
unfolding path_within
path_none rows test depth m none = ap (λ d. find test (path_within rows d m)) none

find_first : (test : ℕ → Bool) (m : ℕ) (ms : List ℕ) → test m ≡ true → find test (m ∷ ms) ≡ Some m
find_first test m ms holds = ap (λ b. cond b (Some m) (find test ms)) holds

find_later : (test : ℕ → Bool) (m : ℕ) (ms : List ℕ) → test m ≡ false → find test (m ∷ ms) ≡ find test ms
find_later test m ms fails = ap (λ b. cond b (Some m) (find test ms)) fails

pub path_here : (rows : List LimitRow) (test : ℕ → Bool) (depth m : ℕ) → 0 < depth → test m ≡ true → find test (path_within rows depth m) ≡ Some m
path_here rows test depth m positive holds =
    ap (find test) (path_step rows depth m positive)
    ∙ find_first test m (path_above (path_within rows (depth - 1)) (row_of rows m).hard (row_of rows m).parent) holds

past : (rows : List LimitRow) (test : ℕ → Bool) (depth m : ℕ) (row : LimitRow) → 0 < depth → test m ≡ false → row ≡ row_of rows m →
    find test (path_within rows depth m) ≡ find test (path_above (path_within rows (depth - 1)) row.hard row.parent)
past rows test depth m row positive fails is =
    ap (find test) (path_step rows depth m positive)
    ∙ find_later test m (path_above (path_within rows (depth - 1)) (row_of rows m).hard (row_of rows m).parent) fails
    ∙ ap (λ (r : LimitRow). find test (path_above (path_within rows (depth - 1)) r.hard r.parent)) (sym is)

pub path_up : (rows : List LimitRow) (test : ℕ → Bool) (depth m : ℕ) (row : LimitRow) (parent : LimitId) → 0 < depth → test m ≡ false → row ≡ row_of rows m →
    row.hard ≡ false → row.parent ≡ Some parent → find test (path_within rows depth m) ≡ find test (path_within rows (depth - 1) parent.0)
path_up rows test depth m row parent positive fails is soft above =
    past rows test depth m row positive fails is ∙ ap₂ (λ b p. find test (path_above (path_within rows (depth - 1)) b p)) soft above

pub path_hard : (rows : List LimitRow) (test : ℕ → Bool) (depth m : ℕ) (row : LimitRow) → 0 < depth → test m ≡ false → row ≡ row_of rows m →
    row.hard ≡ true → find test (path_within rows depth m) ≡ None
path_hard rows test depth m row positive fails is hard =
    past rows test depth m row positive fails is ∙ ap (λ b. find test (path_above (path_within rows (depth - 1)) b row.parent)) hard

above_none : (path : ℕ → List ℕ) (hard : Bool) → path_above path hard None ≡ []
above_none path true = refl
above_none path false = refl

pub path_root : (rows : List LimitRow) (test : ℕ → Bool) (depth m : ℕ) (row : LimitRow) → 0 < depth → test m ≡ false → row ≡ row_of rows m →
    row.parent ≡ None → find test (path_within rows depth m) ≡ None
path_root rows test depth m row positive fails is root =
    past rows test depth m row positive fails is
    ∙ ap (λ p. find test (path_above (path_within rows (depth - 1)) row.hard p)) root
    ∙ ap (find test) (above_none (path_within rows (depth - 1)) row.hard)

-- a parent is a limit too
pub parent_known : (limits : List LimitRow) (maxima : List ℕ) (m : ℕ) (row : LimitRow) (parent : LimitId) → IsTree limits → m < length limits →
    length maxima ≡ length limits → row ≡ row_of (with_maxima limits maxima) m → row.parent ≡ Some parent → parent.0 < length limits
parent_known limits maxima m row parent tree inside same is above =
    let at : (row_of limits m).parent ≡ Some parent = sym (parent_kept limits maxima m row inside same is) ∙ above in
    let below = tree m parent inside at in
    omega arith
