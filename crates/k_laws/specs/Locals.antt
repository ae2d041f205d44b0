-- Which operations a process does inside its own heap, by the part of its cell alone.
use Rattle.std.specs.Prelude.{ℕ, ◌+◌, ◌==◌, ◌&&◌, ◌||◌, not, nat_le, Bool, true, false, Option, Some, None}
use Rattle.k_types.specs.declared.names.Name.{Name}
use Rattle.k_types.specs.declared.op.Op.{Op}
use Rattle.k_types.specs.declared.op.Op.TheVariants.{New, KNew, SNew, Store, Load, Move, Clear, Dir, Put, Get, Collect, KCollect, Share, Freeze, Attach, Exit, Kill, Resize}
use Rattle.k_types.specs.Replies.{is_ref, reference}
use Rattle.k_types.specs.Local.{is_own}
use Rattle.k_types.specs.Cells.{CellPart}
use Rattle.k_laws.specs.PartUpdates.{held_in}
use Rattle.k_laws.specs.Answers.{field_count_in, field_in}

-- the access to the field of an object of the process's heap is refused for the field, or what it holds is own
abbrev pub is_own_field_in : CellPart → ℕ → Name → ℕ → Bool → Bool
is_own_field_in own p x i goes_on =
    (x.seg.0 == p + 1) && (nat_le (field_count_in own x) i || not (is_ref (field_in own x i)) || goes_on)

-- the store of the value is local, by what the base register holds
abbrev pub is_local_store_in : CellPart → ℕ → Option Name → ℕ → Option Name → Bool
is_local_store_in own p None i value = true
is_local_store_in own p (Some x) i value = is_own_field_in own p x i (is_own p value)

-- the load is local, by what the base register holds and what the result register held
abbrev pub is_local_load_in : CellPart → ℕ → Option Name → ℕ → Option Name → Bool
is_local_load_in own p None i old = true
is_local_load_in own p (Some x) i old = is_own_field_in own p x i (is_own p (reference (field_in own x i)) && is_own p old)

-- the operation reads and changes nothing outside the process's heap, by the own cell's part
unfoldable pub is_local_in : CellPart → ℕ → Op → Bool
is_local_in own p (New r ty) = false
is_local_in own p (KNew r ty) = false
is_local_in own p (SNew r s ty) = false
is_local_in own p (Store base i value) = is_local_store_in own p (held_in own.process base.0) i (held_in own.process value.0)
is_local_in own p (Load r base i) = is_local_load_in own p (held_in own.process base.0) i (held_in own.process r.0)
is_local_in own p (Move r from) = is_own p (held_in own.process r.0) && is_own p (held_in own.process from.0)
is_local_in own p (Clear r) = is_own p (held_in own.process r.0)
is_local_in own p (Dir r) = false
is_local_in own p (Put base i number) = is_own p (held_in own.process base.0)
is_local_in own p (Get base i) = is_own p (held_in own.process base.0)
is_local_in own p Collect = false
is_local_in own p KCollect = false
is_local_in own p (Share s) = false
is_local_in own p (Freeze s root) = false
is_local_in own p (Attach r s) = false
is_local_in own p Exit = false
is_local_in own p (Kill q) = false
is_local_in own p (Resize m max) = false
