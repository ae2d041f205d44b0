-- The uses are a function of the book's part.
use Rattle.std.proofs.Common.{◌≡◌, ℕ, zero, suc, ◌+◌, ◌<◌, cond, refl, sym, ap, ap₂, ◌∙◌, List, length, map, arith, get_or}
use Rattle.k_types.specs.Numbers.{numbers_below}
use Rattle.k_types.specs.declared.setup.LimitRow.{LimitRow}
use Rattle.k_types.specs.Trace.{Trace, row_of}
use Rattle.k_types.specs.State.{State}
use Rattle.k_types.specs.Owners.{charge_of}
use Rattle.k_types.specs.Limits.{direct_by, is_parent, limits_in, max_of, use_of, use_within}
use Rattle.k_types.specs.Cells.{book_part, use_shown}
use Rattle.k_laws.proofs.Exact.{same_below}
use Rattle.k_types.proofs.Maxima.{length_in}
use Rattle.k_types.proofs.Lists.{get_mapped}

use_same : (rows : List LimitRow) (d e : ℕ → ℕ) → ((m : ℕ) → m < length rows → d m ≡ e m) → (depth m : ℕ) → m < length rows → use_within rows d depth m ≡ use_within rows e depth m
unfolding use_within
use_same rows d e same zero m known = refl
use_same rows d e same (suc depth) m known =
    ap₂ (λ a b. a + b) (same m known)
    (same_below (λ c. is_parent (row_of rows c).parent m) (λ c. cond (row_of rows c).hard (max_of rows c) (use_within rows d depth c)) (λ c. cond (row_of rows c).hard (max_of rows c) (use_within rows e depth c)) 0 (length rows)
    (λ c inside t. ap (cond (row_of rows c).hard (max_of rows c)) (use_same rows d e same depth c (omega (arith, inside)))))

pub use_is_shown : (trace : Trace) (st : State) (m : ℕ) → m < length trace.limits → use_shown trace (book_part trace st) m ≡ use_of trace st m
unfolding book_part
use_is_shown trace st m known =
    let long = length_in trace.limits st.maxima in
    use_same (limits_in trace st) (λ q. get_or (map (direct_by trace (charge_of trace st)) (numbers_below (length trace.limits))) q 0) (direct_by trace (charge_of trace st))
    (λ q inside. get_mapped (direct_by trace (charge_of trace st)) 0 (length trace.limits) q (omega (arith, inside, long)) ∙ ap (direct_by trace (charge_of trace st)) (omega arith))
    (length trace.limits) m (omega (arith, known, long))
    ∙ ap (λ n. use_within (limits_in trace st) (direct_by trace (charge_of trace st)) n m) (sym long)
