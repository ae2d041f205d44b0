-- Names that can be told apart, and events that a line of a report can spell.
use Rattle.std.specs.Prelude.{◌<◌, ◌^◌, ◌++◌, Bool, true, false, IsTrue, IsFalse, length, Some, None}
use Rattle.k_types.specs.declared.names.Name.{Name}
use Rattle.k_types.specs.declared.op.Op.{Op}
use Rattle.k_types.specs.declared.op.Op.TheVariants.{New, KNew, SNew, Store, Load, Move, Clear, Dir, Put, Get, Collect, KCollect, Share, Freeze, Attach, Exit, Kill, Resize}
use Rattle.k_types.specs.declared.event.Reply.{Reply}
use Rattle.k_types.specs.declared.event.Reply.TheVariants.{Done as DoneReply, Made, Loaded, Value, Refused}
use Rattle.k_types.specs.declared.event.Event.{Event}
use Rattle.k_types.specs.declared.event.Event.TheVariants.{Done, Ended, Absorbed, Closing}
use Rattle.k_types.specs.TraceRules.{is_spelled}
use Rattle.k_trace.specs.Named.{DeclaredNames}
use Rattle.k_trace.specs.Rules.{AreNames}
use Rattle.k_text.specs.Named.{IsNamedHeap, IsNamedFault, segment_names}

-- Each name is a name, and no two of what must be told apart have one name.
pub record AreProper (names : DeclaredNames) : Type 0 where
  pub types : AreNames names.types
  pub limits : AreNames names.limits
  pub heaps : AreNames (names.procs ++ names.shared)

-- The registers, fields and numbers of the operation are in range, and what it names has a name.
abbrev pub IsSpelledOp : DeclaredNames → Op → Type 0
IsSpelledOp names (New r ty) = (r.0 < 16) × (ty.0 < length names.types)
IsSpelledOp names (KNew r ty) = (r.0 < 16) × (ty.0 < length names.types)
IsSpelledOp names (SNew r s ty) = (r.0 < 16) × (s.0 < length names.shared) × (ty.0 < length names.types)
IsSpelledOp names (Store base i value) = (base.0 < 16) × (i < 16) × (value.0 < 16)
IsSpelledOp names (Load r base i) = (r.0 < 16) × (base.0 < 16) × (i < 16)
IsSpelledOp names (Move r from) = (r.0 < 16) × (from.0 < 16)
IsSpelledOp names (Clear r) = r.0 < 16
IsSpelledOp names (Dir r) = r.0 < 16
IsSpelledOp names (Put base i number) = (base.0 < 16) × (i < 16) × (number < 2 ^ 64)
IsSpelledOp names (Get base i) = (base.0 < 16) × (i < 16)
IsSpelledOp names (Share s) = s.0 < length names.shared
IsSpelledOp names (Freeze s root) = (s.0 < length names.shared) × (root.0 < 16)
IsSpelledOp names (Attach r s) = (r.0 < 16) × (s.0 < length names.shared)
IsSpelledOp names Collect = Unit {0}
IsSpelledOp names KCollect = Unit {0}
IsSpelledOp names Exit = Unit {0}
IsSpelledOp names (Kill q) = q.0 < length names.procs
IsSpelledOp names (Resize m max) = (m.0 < length names.limits) × (max < 2 ^ 40)

-- The name lies in a segment that has a name, and its serial is below 2^32.
abbrev pub IsSpelledName : DeclaredNames → Name → Type 0
IsSpelledName names n = (n.seg.0 < length (segment_names names)) × (n.serial.0 < 2 ^ 32)

-- The operation makes an object, so that a name as its reply is the object made.
abbrev pub makes : Op → Bool
makes (New r ty) = true
makes (KNew r ty) = true
makes (SNew r s ty) = true
makes _ = false

-- The reply can stand after the operation: a name is that of an object made after an operation that makes one, and one
-- that was loaded after any other.
abbrev pub IsSpelledReply : DeclaredNames → Op → Reply → Type 0
IsSpelledReply names op DoneReply = Unit {0}
IsSpelledReply names op (Made n) = IsTrue (makes op) × IsSpelledName names n
IsSpelledReply names op (Loaded None) = Unit {0}
IsSpelledReply names op (Loaded (Some n)) = IsFalse (makes op) × IsSpelledName names n
IsSpelledReply names op (Value number) = number < 2 ^ 64
IsSpelledReply names op (Refused fault) = IsNamedFault names fault

-- A line of the report can spell the event: what it names has a name, and its numbers are in range.
abbrev pub IsSpelledEvent : DeclaredNames → Event → Type 0
IsSpelledEvent names (Done pid op reply) = (pid.0 < length names.procs) × IsSpelledOp names op × IsSpelledReply names op reply
IsSpelledEvent names (Ended h objects bytes exits shares) =
    IsNamedHeap names h × (objects < 2 ^ 32) × (bytes < 2 ^ 64) × (exits < 2 ^ 32) × (shares < 2 ^ 32)
IsSpelledEvent names (Absorbed s) = s.0 < length names.shared
IsSpelledEvent names Closing = Unit {0}

-- The reply's numbers are in range, and a name is that of an object made after an operation that makes one, and one that was
-- loaded after any other.
abbrev pub IsReplyInRange : Op → Reply → Type 0
IsReplyInRange op DoneReply = Unit {0}
IsReplyInRange op (Made n) = IsTrue (makes op) × (n.serial.0 < 2 ^ 32)
IsReplyInRange op (Loaded None) = Unit {0}
IsReplyInRange op (Loaded (Some n)) = IsFalse (makes op) × (n.serial.0 < 2 ^ 32)
IsReplyInRange op (Value number) = number < 2 ^ 64
IsReplyInRange op (Refused fault) = Unit {0}

-- The event's numbers are in range, and its reply is of the right kind.
abbrev pub IsInRange : Event → Type 0
IsInRange (Done pid op reply) = IsTrue (is_spelled op) × IsReplyInRange op reply
IsInRange (Ended h objects bytes exits shares) = (objects < 2 ^ 32) × (bytes < 2 ^ 64) × (exits < 2 ^ 32) × (shares < 2 ^ 32)
IsInRange (Absorbed s) = Unit {0}
IsInRange Closing = Unit {0}
