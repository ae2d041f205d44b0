-- Rooms that are enough where each heap can have so many objects at once.
use Rattle.std.specs.Prelude.{ℕ, ◌-◌, ◌^◌, nat_lt, if◌then◌else◌}

-- the lesser of both
abbrev pub lesser : ℕ → ℕ → ℕ
lesser a b = if nat_lt a b then a else b

-- the greater of both
abbrev pub greater : ℕ → ℕ → ℕ
greater a b = if nat_lt a b then b else a

-- the most events for which a host can be asked to have room
abbrev pub most_events : ℕ
most_events = 2 ^ 55 - 1

-- the most of anything else for which a host can be asked to have room
abbrev pub most_room : ℕ
most_room = 2 ^ 30 - 1
