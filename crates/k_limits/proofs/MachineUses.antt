-- The machine's uses, and those over a list of what is charged directly.
use Rattle.std.proofs.Common.{◌≡◌, ℕ, zero, suc, ◌+◌, ◌<◌, nat_lt, cond, refl, ap, List, find, length, slice_index, arith}
use Rattle.k_types.specs.Numbers.{numbers_below}
use Rattle.k_types.specs.declared.setup.LimitRow.{LimitRow}
use Rattle.k_types.specs.Trace.{Trace, row_of}
use Rattle.k_types.specs.TraceRules.{IsTree}
use Rattle.k_types.specs.State.{State}
use Rattle.k_types.specs.Owners.{charge_of}
use Rattle.k_types.specs.Limits.{max_of, is_parent, use_within, path_of, direct_by, with_maxima, limits_in, use_of, full_limit}
use Rattle.k_limits.specs.Limits.{use_at, is_full_at, full_at}
use Rattle.k_types.specs.Cells.{BookPart, use_shown}
use Rattle.k_limits.specs.Laws.{limits_of, limits_by, AreCharges}
use Rattle.k_types.proofs.Sums.{sum-filter, same_below}
use Rattle.k_types.proofs.Maxima.{length_in, tree_in}
use Rattle.k_limits.proofs.Uses.{find_same, on_path_in}

-- uses look at the charges of the tree's limits alone
pub use_same : (rows : List LimitRow) (d e : ℕ → ℕ) → ((q : ℕ) → q < length rows → d q ≡ e q) → (depth m : ℕ) → m < length rows → use_within rows d depth m ≡ use_within rows e depth m
unfolding use_within
use_same rows d e same zero m known = refl
use_same rows d e same (suc depth) m known =
    let f : ℕ → ℕ = λ c. cond (row_of rows c).hard (max_of rows c) (use_within rows d depth c) in
    let g : ℕ → ℕ = λ c. cond (row_of rows c).hard (max_of rows c) (use_within rows e depth c) in
    let left = sum-filter (λ c. is_parent (row_of rows c).parent m) f (numbers_below (length rows)) in
    let right = sum-filter (λ c. is_parent (row_of rows c).parent m) g (numbers_below (length rows)) in
    let mid = same_below (λ c. cond (is_parent (row_of rows c).parent m) (f c) 0) (λ c. cond (is_parent (row_of rows c).parent m) (g c) 0) 0 (length rows)
    (λ c below. ap (λ (used : ℕ). cond (is_parent (row_of rows c).parent m) (cond (row_of rows c).hard (max_of rows c) used) 0) (use_same rows d e same depth c (omega (arith, below)))) in
    omega (arith, same m known, left, right, mid)

module _ (trace : Trace) (st : State) (direct : List ℕ) (charges : AreCharges trace st direct) where
  inside : (m : ℕ) → m < length (limits_in trace st) → m < length trace.limits
  inside m known = let same = length_in trace.limits st.maxima in omega (arith, known, same)

  inside_back : (m : ℕ) → m < length trace.limits → m < length (limits_in trace st)
  inside_back m known = let same = length_in trace.limits st.maxima in omega (arith, known, same)

  pub machine_use : (m : ℕ) → m < length trace.limits → use_at (limits_of trace st direct) m ≡ use_of trace st m
  machine_use m known =
      use_same (limits_in trace st) (slice_index direct) (direct_by trace (charge_of trace st)) (λ q there. charges q (inside q there)) (length (limits_in trace st)) m (inside_back m known)

  pub machine_full : IsTree trace.limits → (m n : ℕ) → m < length trace.limits → full_at (limits_of trace st direct) m n ≡ full_limit trace st m n
  machine_full tree m n known =
      find_same (is_full_at (limits_of trace st direct) n) (λ q. nat_lt (max_of (limits_in trace st) q) (use_of trace st q + n)) (path_of (limits_in trace st) m)
      (λ q there. ap (λ used. nat_lt (max_of (limits_in trace st) q) (used + n))
      (machine_use q (inside q (on_path_in (limits_of trace st direct) (tree_in trace.limits st.maxima tree) m (inside_back m known) q there))))

pub machine_uses : (trace : Trace) (st : State) (direct : List ℕ) → AreCharges trace st direct → (m : ℕ) → m < length trace.limits → use_at (limits_of trace st direct) m ≡ use_of trace st m
machine_uses trace st direct charges = machine_use trace st direct charges

pub machine_fulls : (trace : Trace) (st : State) (direct : List ℕ) → IsTree trace.limits → AreCharges trace st direct → (m n : ℕ) → m < length trace.limits → full_at (limits_of trace st direct) m n ≡ full_limit trace st m n
machine_fulls trace st direct tree charges = machine_full trace st direct charges tree

-- what the book's part shows
pub shown_use : (trace : Trace) (book : BookPart) (m : ℕ) → use_at (limits_by trace book) m ≡ use_shown trace book m
shown_use trace book m = ap (λ depth. use_within (with_maxima trace.limits book.maxima) (slice_index book.direct) depth m) (length_in trace.limits book.maxima)

pub shown_full : (trace : Trace) (book : BookPart) (m n : ℕ) → full_at (limits_by trace book) m n ≡ find (λ q. nat_lt (max_of (limits_by trace book).rows q) (use_shown trace book q + n)) (path_of (limits_by trace book).rows m)
shown_full trace book m n =
    ap (λ depth. find (λ q. nat_lt (max_of (with_maxima trace.limits book.maxima) q) (use_within (with_maxima trace.limits book.maxima) (slice_index book.direct) depth q + n)) (path_of (with_maxima trace.limits book.maxima) m)) (length_in trace.limits book.maxima)
