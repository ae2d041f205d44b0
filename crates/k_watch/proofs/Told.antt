-- The numbers of a book that agrees with its journal are the machine's.
use Rattle.std.proofs.Common.{◌≡◌, ◌<◌, ℕ, refl, ap, ◌∙◌, List, [], ◌∷◌, length, if◌then◌else◌, Bool, arith, replicate}
use Rattle.k_types.specs.declared.names.LimitId.{LimitId}
use Rattle.k_types.specs.Limits.{use_of}
use Rattle.k_types.specs.Names.{among}
use Rattle.k_types.specs.Numbers.{numbers_below}
use Rattle.k_types.specs.State.{State}
use Rattle.k_types.specs.Steps.{state_after}
use Rattle.k_types.specs.Totals.{total}
use Rattle.k_types.specs.Trace.{Trace, process_count}
use Rattle.k_types.specs.TraceRules.{KeepsRules}
use Rattle.k_agree.specs.Agreement.{BookShows}
use Rattle.k_limits.specs.Limits.{use_at}
use Rattle.k_shares.specs.Sharers.{living_of}
use Rattle.k_types.proofs.Maxima.{length_in}
use Rattle.k_book.specs.Books.{BookRecord, book_limits}
use Rattle.k_book.specs.Machine.{IsBookOf}
use Rattle.k_book.proofs.Telling.{tells, tells_limits}
use Rattle.k_commit.specs.Standing.{BookStands}
use Rattle.k_watch.specs.Numbers.{numbers_of, numbers_after}
use Rattle.k_watch.specs.Samples.{sample}

abbrev one_unless : Bool → ℕ
one_unless b = if b then 0 else 1

abbrev lives_in : List ℕ → ℕ → ℕ
lives_in ended p = one_unless (among p ended)

-- the same are counted where the same are among both lists
counted_same : (xs ys : List ℕ) → ((p : ℕ) → among p xs ≡ among p ys) → (ks : List ℕ) → total (lives_in xs) ks ≡ total (lives_in ys) ks
counted_same xs ys same [] = refl
counted_same xs ys same (k ∷ ks) =
    let here : lives_in xs k ≡ lives_in ys k = ap one_unless (same k) in
    let rest = counted_same xs ys same ks in
    omega (arith, here, rest)

-- a trace has a limit
pub some_limit : (trace : Trace) → KeepsRules trace → 0 < length trace.limits
some_limit trace rules = let l = rules.limits.limited 0 rules.some_process in omega (arith, l)

pub shown_tells : (trace : Trace) (b : BookRecord) → KeepsRules trace → IsBookOf trace b → BookShows trace (state_after trace b.journal.list) b.value → numbers_of b ≡ numbers_after trace b.journal.list
shown_tells trace b rules of_trace shows = λ i. sample (length b.journal.list) (uses i) (living i)
  where
    st : State
    st = state_after trace b.journal.list

    uses : use_at (book_limits b) 0 ≡ use_of trace st 0
    uses = (tells_limits trace st b shows rules.limits.tree of_trace).uses 0 (some_limit trace rules)

    living : living_of b.value.ended (length b.procs) ≡ living_of st.ended (process_count trace)
    living = ap (λ (ps : List LimitId). living_of b.value.ended (length ps)) of_trace.procs
        ∙ counted_same b.value.ended st.ended (λ p. (tells trace st b shows).ended p) (numbers_below (process_count trace))

pub book_tells : (trace : Trace) (b : BookRecord) → BookStands trace b → numbers_of b ≡ numbers_after trace b.journal.list
book_tells trace b stands = shown_tells trace b stands.keeps stands.of_trace stands.agrees.shows

-- a book of a trace has a limit
pub has_root : (trace : Trace) (b : BookRecord) → KeepsRules trace → IsBookOf trace b → 0 < length b.rows
has_root trace b rules of_trace = let some = some_limit trace rules in let same = ap length of_trace.rows ∙ length_in trace.limits (replicate (length trace.limits) 0) in omega (arith, some, same)
