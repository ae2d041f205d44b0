-- By how much the uses rise where a process is charged more.
use Rattle.std.proofs.Common.{◌≡◌, ℕ, ◌+◌, ◌*◌, ◌<◌, ◌==◌, Bool, true, false, cond, sym, ap, ◌∙◌, length, arith, subst, if◌then◌else◌}
use Rattle.k_types.specs.Names.{among}
use Rattle.k_types.specs.Trace.{Trace, process_count, limit_of}
use Rattle.k_types.specs.TraceRules.{AreLimits}
use Rattle.k_types.specs.State.{State}
use Rattle.k_types.specs.Limits.{limits_in, use_by, direct_by, path_of}
use Rattle.k_types.proofs.Charges.{use_added}
use Rattle.k_types.proofs.Sums.{bit}
use Rattle.k_laws.proofs.Exact.{counted_exact}
use Rattle.k_types.proofs.Maxima.{length_in, tree_in}
use Rattle.k_laws.proofs.Raised.{direct_added}

pub times : (b : Bool) (n : ℕ) → n * bit b ≡ cond b n 0
times true n = omega arith
times false n = omega arith

-- where one process's charge is more by n, the uses on the path of its limit are more by n, and no other
pub uses_raised : (trace : Trace) → AreLimits trace → (st : State) (p n : ℕ) (c d : ℕ → ℕ) → p < process_count trace → ((q : ℕ) → d q ≡ c q + n * bit (q == p)) → (m : ℕ) →
    use_by trace (limits_in trace st) d m ≡ use_by trace (limits_in trace st) c m + (if among m (path_of (limits_in trace st) (limit_of trace p)) then n else 0)
uses_raised trace rules_hold st p n c d known more m =
    let rows = limits_in trace st in
    let long = length_in trace.limits st.maxima in
    let inside : limit_of trace p < length rows = subst (λ k. limit_of trace p < k) (sym long) (rules_hold.limited p known) in
    use_added rows (limit_of trace p) (direct_by trace c) (direct_by trace d) n (direct_added trace c d p n known more) (length rows) m
    ∙ ap (λ k. use_by trace rows c m + n * k) (counted_exact rows (tree_in trace.limits st.maxima rules_hold.tree) (limit_of trace p) inside (length rows) m (omega arith))
    ∙ ap (λ k. use_by trace rows c m + k) (times (among m (path_of rows (limit_of trace p))) n)
