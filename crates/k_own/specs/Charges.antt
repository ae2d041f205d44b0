-- What a process is charged, and what is credited at its end.
use Rattle.std.specs.Prelude.{◌≡◌, ℕ, ◌-◌, ◌==◌, ◌&&◌, not, List, slice_index, slice_index_or, slice_set, if◌then◌else◌}
use Rattle.k_types.specs.Agree.{BookValue}
use Rattle.k_types.specs.Numbers.{numbers_below}
use Rattle.k_types.specs.State.{Sharing, has_share}
use Rattle.k_types.specs.Totals.{total}
use Rattle.k_commit.specs.k_book.Books.{BookRecord}

-- what the process is charged for the shared heap: all its bytes where the process shares it
abbrev pub bytes_if_shared : BookValue → ℕ → ℕ → ℕ
bytes_if_shared book p t = if has_share book.shares p t then slice_index_or book.shared_bytes t 0 else 0

-- what the process is charged for so many shared heaps, the first ones
abbrev pub bytes_shared : BookValue → ℕ → ℕ → ℕ
bytes_shared book p heaps = total (bytes_if_shared book p) (numbers_below heaps)

-- the limit of the process, by the book
abbrev pub limit_in : BookRecord → ℕ → ℕ
limit_in book p = (slice_index_or book.procs p (record { 0 = 0 })).0

-- the process shares nothing any more, and no other share comes or goes
abbrev pub LosesShares : List Sharing → List Sharing → ℕ → Type 0
LosesShares old new p = (q t : ℕ) → has_share new q t ≡ (has_share old q t && not (q == p))

-- so many bytes are credited at the process's limit, and its shares are gone; all else is as it was
pub record HasCredited (old new : BookRecord) (p bytes : ℕ) : Type 0 where
  pub shares : LosesShares old.value.shares new.value.shares p
  pub rest : new ≡ record old {
    value = record old.value {
      shares = new.value.shares;
      direct = slice_set old.value.direct (limit_in old p) (slice_index old.value.direct (limit_in old p) - bytes);
    };
  }
