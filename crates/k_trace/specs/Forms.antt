-- The forms of an operation. Its words begin with the verb.
use Rattle.std.specs.Prelude.{ℕ, ◌^◌, ◌==◌, ◌&&◌, ◌||◌, not, nat_lt, Bool, true, List, length, Result, Ok, Err, if◌then◌else◌, codes}
use Rattle.std.specs.Str.{bytes_eq}
use Rattle.k_limits.specs.k_types.declared.names.Reg.{Reg}
use Rattle.k_limits.specs.k_types.declared.names.TypeId.{TypeId}
use Rattle.k_limits.specs.k_types.declared.names.LimitId.{LimitId}
use Rattle.k_limits.specs.k_types.declared.names.Pid.{Pid}
use Rattle.k_limits.specs.k_types.declared.names.SharedId.{SharedId}
use Rattle.k_limits.specs.k_types.Bounds.{maximum_below}
use Rattle.k_limits.specs.k_types.declared.op.Op.{Op}
use Rattle.k_limits.specs.k_types.declared.op.Op.TheVariants.{New, KNew, SNew, Store, Load, Move, Clear, Dir, Put, Get, Collect, KCollect, Share, Freeze, Attach, Exit, Kill, Resize}
use Rattle.k_words.specs.Words.{Text, word_at}
use Rattle.k_words.specs.Numbers.{is_below, value, is_register, register}
use Rattle.k_words.specs.Names.{declares, number_of}
use Rattle.k_trace.specs.Named.{DeclaredNames}
use Rattle.k_trace.specs.Demands.{demands}
use Rattle.k_trace.specs.declared.reasons.Reason.{Reason}
use Rattle.k_trace.specs.declared.reasons.Reason.TheVariants.{NoForm, NoNumber, Undeclared}

-- the register that the word is
abbrev pub reg : Text → Reg
reg w = record { 0 = register w }

-- the type of that name
abbrev pub type_of : DeclaredNames → Text → TypeId
type_of names w = record { 0 = number_of names.types w }

-- the shared heap of that name
abbrev pub shared_of : DeclaredNames → Text → SharedId
shared_of names w = record { 0 = number_of names.shared w }

-- the process of that name
abbrev pub proc_of : DeclaredNames → Text → Pid
proc_of names w = record { 0 = number_of names.procs w }

-- the limit of that name
abbrev pub limit_of : DeclaredNames → Text → LimitId
limit_of names w = record { 0 = number_of names.limits w }

-- an operation of so many words, whose numbers and registers are in range and whose names are declared
abbrev pub form : List Text → ℕ → Bool → Bool → Op → Result Op Reason
form ws count fits known op = demands NoForm (length ws == count) (demands NoNumber fits (demands Undeclared known (Ok op)))

-- `new`, a register and a type
unfoldable pub new_form : DeclaredNames → List Text → Result Op Reason
new_form names ws =
    form ws 3 (is_register (word_at ws 1)) (declares names.types (word_at ws 2)) (New (reg (word_at ws 1)) (type_of names (word_at ws 2)))

-- `knew`, a register and a type
unfoldable pub knew_form : DeclaredNames → List Text → Result Op Reason
knew_form names ws =
    form ws 3 (is_register (word_at ws 1)) (declares names.types (word_at ws 2)) (KNew (reg (word_at ws 1)) (type_of names (word_at ws 2)))

-- `snew`, a register, a shared heap and a type
unfoldable pub snew_form : DeclaredNames → List Text → Result Op Reason
snew_form names ws =
    form ws 4 (is_register (word_at ws 1)) (declares names.shared (word_at ws 2) && declares names.types (word_at ws 3))
    (SNew (reg (word_at ws 1)) (shared_of names (word_at ws 2)) (type_of names (word_at ws 3)))

-- `store`, a register, a field and a register
unfoldable pub store_form : List Text → Result Op Reason
store_form ws =
    form ws 4 (is_register (word_at ws 1) && is_below 16 (word_at ws 2) && is_register (word_at ws 3)) true
    (Store (reg (word_at ws 1)) (value (word_at ws 2)) (reg (word_at ws 3)))

-- `load`, two registers and a field
unfoldable pub load_form : List Text → Result Op Reason
load_form ws =
    form ws 4 (is_register (word_at ws 1) && is_register (word_at ws 2) && is_below 16 (word_at ws 3)) true
    (Load (reg (word_at ws 1)) (reg (word_at ws 2)) (value (word_at ws 3)))

-- `move` and two registers
unfoldable pub move_form : List Text → Result Op Reason
move_form ws =
    form ws 3 (is_register (word_at ws 1) && is_register (word_at ws 2)) true (Move (reg (word_at ws 1)) (reg (word_at ws 2)))

-- `drop` and a register
unfoldable pub drop_form : List Text → Result Op Reason
drop_form ws = form ws 2 (is_register (word_at ws 1)) true (Clear (reg (word_at ws 1)))

-- `dir` and a register
unfoldable pub dir_form : List Text → Result Op Reason
dir_form ws = form ws 2 (is_register (word_at ws 1)) true (Dir (reg (word_at ws 1)))

-- `put`, a register, a field and a number of 64 bits
unfoldable pub put_form : List Text → Result Op Reason
put_form ws =
    form ws 4 (is_register (word_at ws 1) && is_below 16 (word_at ws 2) && is_below (2 ^ 64) (word_at ws 3)) true
    (Put (reg (word_at ws 1)) (value (word_at ws 2)) (value (word_at ws 3)))

-- `get`, a register and a field
unfoldable pub get_form : List Text → Result Op Reason
get_form ws =
    form ws 3 (is_register (word_at ws 1) && is_below 16 (word_at ws 2)) true (Get (reg (word_at ws 1)) (value (word_at ws 2)))

-- `share` and a shared heap
unfoldable pub share_form : DeclaredNames → List Text → Result Op Reason
share_form names ws = form ws 2 true (declares names.shared (word_at ws 1)) (Share (shared_of names (word_at ws 1)))

-- `freeze`, a shared heap and a register
unfoldable pub freeze_form : DeclaredNames → List Text → Result Op Reason
freeze_form names ws =
    form ws 3 (is_register (word_at ws 2)) (declares names.shared (word_at ws 1)) (Freeze (shared_of names (word_at ws 1)) (reg (word_at ws 2)))

-- `attach`, a register and a shared heap
unfoldable pub attach_form : DeclaredNames → List Text → Result Op Reason
attach_form names ws =
    form ws 3 (is_register (word_at ws 1)) (declares names.shared (word_at ws 2)) (Attach (reg (word_at ws 1)) (shared_of names (word_at ws 2)))

-- an operation of its verb alone
abbrev pub bare_form : List Text → Op → Result Op Reason
bare_form ws op = form ws 1 true true op

-- the word at the verb's place is that verb
abbrev pub has_verb : List Text → Text → Bool
has_verb ws verb = bytes_eq (word_at ws 0) verb

-- `kill` and a process
unfoldable pub kill_form : DeclaredNames → List Text → Result Op Reason
kill_form names ws = form ws 2 true (declares names.procs (word_at ws 1)) (Kill (proc_of names (word_at ws 1)))

-- `resize`, a limit and a maximum
unfoldable pub resize_form : DeclaredNames → List Text → Result Op Reason
resize_form names ws =
    form ws 3 (is_below maximum_below (word_at ws 2)) (declares names.limits (word_at ws 1)) (Resize (limit_of names (word_at ws 1)) (value (word_at ws 2)))

-- the operations on other processes and on limits
unfoldable pub governing_op : DeclaredNames → List Text → Result Op Reason
governing_op names ws =
    if has_verb ws (codes "kill") then kill_form names ws
    else if has_verb ws (codes "resize") then resize_form names ws
    else Err NoForm

-- the operations on shared heaps
unfoldable pub sharing_op : DeclaredNames → List Text → Result Op Reason
sharing_op names ws =
    if has_verb ws (codes "snew") then snew_form names ws
    else if has_verb ws (codes "share") then share_form names ws
    else if has_verb ws (codes "freeze") then freeze_form names ws
    else if has_verb ws (codes "attach") then attach_form names ws
    else governing_op names ws

-- the operations of collections and of the end
unfoldable pub bare_op : DeclaredNames → List Text → Result Op Reason
bare_op names ws =
    if has_verb ws (codes "collect") then bare_form ws Collect
    else if has_verb ws (codes "kcollect") then bare_form ws KCollect
    else if has_verb ws (codes "exit") then bare_form ws Exit
    else sharing_op names ws

-- the operations on integer fields and registers
unfoldable pub register_op : DeclaredNames → List Text → Result Op Reason
register_op names ws =
    if has_verb ws (codes "move") then move_form ws
    else if has_verb ws (codes "drop") then drop_form ws
    else if has_verb ws (codes "dir") then dir_form ws
    else if has_verb ws (codes "put") then put_form ws
    else if has_verb ws (codes "get") then get_form ws
    else bare_op names ws

-- the operation that the words are, or the lowest reason why they are none: NoForm where the verb or the number of words is wrong,
-- NoNumber where a number or a register is, Undeclared where a name is
unfoldable pub op_of : DeclaredNames → List Text → Result Op Reason
op_of names ws =
    if has_verb ws (codes "new") then new_form names ws
    else if has_verb ws (codes "knew") then knew_form names ws
    else if has_verb ws (codes "store") then store_form ws
    else if has_verb ws (codes "load") then load_form ws
    else register_op names ws

-- the words do not begin with the verb of an operation that the version doesn't have
abbrev pub has_operation : ℕ → List Text → Bool
has_operation version ws = not (has_verb ws (codes "kill") || has_verb ws (codes "resize")) || nat_lt 1 version

-- the operation that the words are in a trace of that version, or the lowest reason why they are none
unfoldable pub op_in : ℕ → DeclaredNames → List Text → Result Op Reason
op_in version names ws = demands NoForm (has_operation version ws) (op_of names ws)
