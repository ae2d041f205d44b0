-- Room for steps to come.
use Rattle.std.specs.Prelude.{ℕ, ◌<◌, ◌+◌, ◌^◌, length, slice_index_or}
use Rattle.k_types.specs.State.{State}

-- So many more steps leave each count a number of 32 bits: objects, exit items, shares, those who have ended, open
-- collections, serials of each segment and operations of each process.
pub record HasRoom (n : ℕ) (st : State) : Type 0 where
  pub objects : n + length st.objects < 2 ^ 32
  pub exits : n + length st.exits < 2 ^ 32
  pub shares : n + length st.shares < 2 ^ 32
  pub ended : n + length st.ended < 2 ^ 32
  pub scans : n + length st.scans < 2 ^ 32
  pub serials : (seg : ℕ) → n + slice_index_or st.made seg 0 < 2 ^ 32
  pub done : (p : ℕ) → n + slice_index_or st.done p 0 < 2 ^ 32
