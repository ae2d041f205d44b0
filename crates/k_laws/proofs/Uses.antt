-- What is used where less is charged.
use Rattle.std.proofs.Common.{◌≡◌, ℕ, zero, suc, ◌+◌, ◌≤◌, ◌==◌, Bool, true, false, cond, refl, List, [], ◌∷◌, filter, arith, le_refl, length, zero-le}
use Rattle.k_types.specs.Totals.{total}
use Rattle.std.proofs.lemmas.Bool.{false≢true}
use Rattle.k_types.specs.declared.names.Heap.{Heap}
use Rattle.k_types.specs.declared.setup.LimitRow.{LimitRow}
use Rattle.k_types.specs.Names.{among}
use Rattle.k_types.specs.Trace.{Trace, limit_of, process_count, row_of}
use Rattle.k_types.specs.State.{Sharing}
use Rattle.k_types.specs.Owners.{charge_by, user, shared}
use Rattle.k_types.specs.Numbers.{numbers_below}
use Rattle.k_types.specs.Limits.{use_within, use_by, direct_by, children, max_of}
use Rattle.k_laws.proofs.Kept.{sum-fewer, filter_swap}
use Rattle.k_types.proofs.Sums.{total_at_most}

pub use_less : (rows : List LimitRow) (d e : ℕ → ℕ) → ((m : ℕ) → d m ≤ e m) → (depth m : ℕ) → use_within rows d depth m ≤ use_within rows e depth m
unfolding use_within
use_less rows d e less zero m = le_refl 0
use_less rows d e less (suc depth) m =
    omega (arith, less m, total_at_most (λ c. cond (row_of rows c).hard (max_of rows c) (use_within rows d depth c)) (λ c. cond (row_of rows c).hard (max_of rows c) (use_within rows e depth c)) (child_less rows d e depth (use_less rows d e less depth)) (children rows m))
  where
    child_less : (rows : List LimitRow) (d e : ℕ → ℕ) (depth : ℕ) → ((m : ℕ) → use_within rows d depth m ≤ use_within rows e depth m) → (c : ℕ) →
        cond (row_of rows c).hard (max_of rows c) (use_within rows d depth c) ≤ cond (row_of rows c).hard (max_of rows c) (use_within rows e depth c)
    child_less rows d e depth less c =
        elim (row_of rows c).hard as (λ b. cond b (max_of rows c) (use_within rows d depth c) ≤ cond b (max_of rows c) (use_within rows e depth c)) [
          | true ↦ le_refl (max_of rows c)
          | false ↦ less c
        ]

pub charge_less : (b c : Heap → ℕ) (ended : List ℕ) (q : Sharing → Bool) (shares : List Sharing) → ((h : Heap) → b h ≤ c h) → (p : ℕ) →
    charge_by b ended (filter q shares) p ≤ charge_by c ended shares p
charge_less b c ended q shares less p =
    elim (among p ended) as (λ t. cond t 0 (b (user p) + total (λ e. b (shared e.heap)) (filter (λ e. e.process == p) (filter q shares)))
    ≤ cond t 0 (c (user p) + total (λ e. c (shared e.heap)) (filter (λ e. e.process == p) shares))) [
      | true ↦ le_refl 0
      | false ↦
          let fewer : total (λ e. b (shared e.heap)) (filter (λ e. e.process == p) (filter q shares)) ≤ total (λ e. c (shared e.heap)) (filter (λ e. e.process == p) shares) =
          rw (filter_swap (λ e. e.process == p) q shares)
          (sum-fewer (λ e. b (shared e.heap)) (λ e. c (shared e.heap)) q (λ e. less (shared e.heap)) (filter (λ e. e.process == p) shares)) in
          omega (arith, less (user p), fewer)
    ]

pub use_by_less : (trace : Trace) (rows : List LimitRow) (c d : ℕ → ℕ) → ((p : ℕ) → c p ≤ d p) → (m : ℕ) → use_by trace rows c m ≤ use_by trace rows d m
use_by_less trace rows c d less m =
    use_less rows (direct_by trace c) (direct_by trace d) (λ k. total_at_most c d less (filter (λ p. limit_of trace p == k) (numbers_below (process_count trace)))) (length rows) m

-- the same, where less is known of no other heap than those that processes are charged for
pub charged_less : (b c : Heap → ℕ) (ended : List ℕ) (shares : List Sharing) → ((p : ℕ) → b (user p) ≤ c (user p)) → ((s : ℕ) → b (shared s) ≤ c (shared s)) → (p : ℕ) →
    charge_by b ended shares p ≤ charge_by c ended shares p
charged_less b c ended shares users heaps p =
    elim (among p ended) as (λ t. cond t 0 (b (user p) + total (λ e. b (shared e.heap)) (filter (λ e. e.process == p) shares)) ≤ cond t 0 (c (user p) + total (λ e. c (shared e.heap)) (filter (λ e. e.process == p) shares))) [
      | true ↦ le_refl 0
      | false ↦ omega (arith, users p, total_at_most (λ e. b (shared e.heap)) (λ e. c (shared e.heap)) (λ e. heaps e.heap) (filter (λ e. e.process == p) shares))
    ]

-- the same, where more processes have ended and some shares went
pub ended_less : (b c : Heap → ℕ) (ended ended' : List ℕ) (q : Sharing → Bool) (shares : List Sharing) → ((p : ℕ) → among p ended ≡ true → among p ended' ≡ true) →
    ((p : ℕ) → b (user p) ≤ c (user p)) → ((s : ℕ) → b (shared s) ≤ c (shared s)) → (p : ℕ) → charge_by b ended' (filter q shares) p ≤ charge_by c ended shares p
ended_less b c ended ended' q shares more users heaps p =
    go (among p ended') (among p ended) (more p)
  where
    go : (t u : Bool) → (u ≡ true → t ≡ true) → cond t 0 (b (user p) + total (λ e. b (shared e.heap)) (filter (λ e. e.process == p) (filter q shares)))
        ≤ cond u 0 (c (user p) + total (λ e. c (shared e.heap)) (filter (λ e. e.process == p) shares))
    go true u m = zero-le
    go false true m = absurd (false≢true (m refl))
    go false false m =
        let fewer : total (λ e. b (shared e.heap)) (filter (λ e. e.process == p) (filter q shares)) ≤ total (λ e. c (shared e.heap)) (filter (λ e. e.process == p) shares) =
        rw (filter_swap (λ e. e.process == p) q shares)
        (sum-fewer (λ e. b (shared e.heap)) (λ e. c (shared e.heap)) q (λ e. heaps e.heap) (filter (λ e. e.process == p) shares)) in
        omega (arith, users p, fewer)
