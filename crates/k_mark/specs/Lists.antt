-- The lists that the value of a cell has of its area and its exit items.
use Rattle.std.specs.Prelude.{ℕ, Bool, List, map, filter, Option, option_map}
use Rattle.k_laws.specs.k_types.declared.names.Name.{Name}
use Rattle.k_laws.specs.k_types.Numbers.{numbers_below}
use Rattle.k_space.specs.Segments.{SegmentValue, made}
use Rattle.k_space.specs.Areas.{AreaValue, segment_at, gray_at, black_at}
use Rattle.k_exit.specs.Exits.{ExitRow, targets}
use Rattle.k_mark.specs.Shown.{area_objects}

-- for each number below the bound, how many serials its segment gave; none where no segment has the number
abbrev pub made_list : ℕ → List SegmentValue → List (Option ℕ)
made_list bound segments = map (λ number. option_map made (segment_at segments number)) (numbers_below bound)

-- the names of the objects that pass the test, in the machine's order
abbrev pub names_where : (Name → Bool) → ℕ → List SegmentValue → List Name
names_where t bound segments = map (λ o. o.name) (filter (λ o. t o.name) (area_objects bound segments))

-- the names of the gray objects
abbrev pub gray_names : ℕ → AreaValue → List Name
gray_names bound a = names_where (gray_at a) bound a.segments

-- the names of the black objects
abbrev pub black_names : ℕ → AreaValue → List Name
black_names bound a = names_where (black_at a) bound a.segments

-- the targets of the marked exit items
abbrev pub marked_targets : List ExitRow → List Name
marked_targets items = targets (filter (λ e. e.marked) items)
