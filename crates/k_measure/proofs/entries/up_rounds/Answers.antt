use Rattle.std.proofs.Common.{◌≡◌, ◌+◌, ◌*◌, ◌<◌, ◌≤◌, ◌⊎◌, ℕ, zero, suc, inl, inr, length, refl, arith}
use Rattle.k_types.specs.declared.names.Name.{Name}
use Rattle.k_types.specs.Counted.{counted}
use Rattle.k_entry.specs.Entries.{EntryValue}
use Rattle.k_measure.specs.Counts.{occurs}
use Rattle.k_measure.proofs.entries.up_rounds.Goals as goal

-- in the first round there is room for all; later each is there
room_or_there : (round : ℕ) (v : EntryValue) (many room : ℕ) (often : Name → ℕ) → (round ≡ 0 → length v.items ≡ 0) → many ≤ room → v.room ≡ room → ((n : Name) → counted v.items n ≡ round * often n) →
    (length v.items + many ≤ v.room) ⊎ ((n : Name) → 0 < often n → 0 < counted v.items n)
room_or_there zero v many room often empty fits is counts = inl (omega (arith, empty refl, fits, is))
room_or_there (suc round) v many room often empty fits is counts = inr (λ n some. omega (arith, counts n, some))

pub up_all-requires-clause-room : goal.up_all-requires-clause-room
up_all-requires-clause-room c =
    let at = c.loop-round.invariant in
    room_or_there c.loop-round._round c.loop-round.table (length c.args.targets.now) c.args.table.now.room (occurs c.args.targets.now) at.empty c.requires.room at.room at.counts
