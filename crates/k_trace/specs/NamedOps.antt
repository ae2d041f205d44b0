-- What an operation names.
use Rattle.std.specs.Prelude.{◌<◌, length}
use Rattle.k_limits.specs.k_types.declared.op.Op.{Op}
use Rattle.k_limits.specs.k_types.declared.op.Op.TheVariants.{New, KNew, SNew, Store, Load, Move, Clear, Dir, Put, Get, Collect, KCollect, Share, Freeze, Attach, Exit, Kill, Resize}
use Rattle.k_trace.specs.Named.{DeclaredNames}

-- What the operation names has a name.
abbrev pub IsNamedOp : DeclaredNames → Op → Type 0
IsNamedOp names (New r ty) = ty.0 < length names.types
IsNamedOp names (KNew r ty) = ty.0 < length names.types
IsNamedOp names (SNew r s ty) = (s.0 < length names.shared) × (ty.0 < length names.types)
IsNamedOp names (Store base i value) = Unit {0}
IsNamedOp names (Load r base i) = Unit {0}
IsNamedOp names (Move r from) = Unit {0}
IsNamedOp names (Clear r) = Unit {0}
IsNamedOp names (Dir r) = Unit {0}
IsNamedOp names (Put base i number) = Unit {0}
IsNamedOp names (Get base i) = Unit {0}
IsNamedOp names Collect = Unit {0}
IsNamedOp names KCollect = Unit {0}
IsNamedOp names (Share s) = s.0 < length names.shared
IsNamedOp names (Freeze s root) = s.0 < length names.shared
IsNamedOp names (Attach r s) = s.0 < length names.shared
IsNamedOp names Exit = Unit {0}
IsNamedOp names (Kill q) = q.0 < length names.procs
IsNamedOp names (Resize m max) = m.0 < length names.limits
