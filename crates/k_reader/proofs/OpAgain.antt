-- The spelling of an operation is read as that operation.
use Rattle.std.proofs.Common.{◌≡◌, ℕ, ◌<◌, ◌^◌, true, ◌&&◌, ltb, length, Ok, refl, arith}
use Rattle.std.proofs.lemmas.Bool.{ltb-true}
use Rattle.k_limits.specs.k_types.declared.op.Op.{Op}
use Rattle.k_limits.specs.k_types.declared.op.Op.TheVariants.{New, KNew, SNew, Store, Load, Move, Clear, Dir, Put, Get, Collect, KCollect, Share, Freeze, Attach, Exit, Kill, Resize}
use Rattle.k_limits.specs.k_types.declared.names.Reg.{Reg}
use Rattle.k_limits.specs.k_types.declared.names.TypeId.{TypeId}
use Rattle.k_limits.specs.k_types.declared.names.LimitId.{LimitId}
use Rattle.k_limits.specs.k_types.declared.names.Pid.{Pid}
use Rattle.k_limits.specs.k_types.declared.names.SharedId.{SharedId}
use Rattle.k_limits.specs.k_types.Steps.{in_range}
use Rattle.k_limits.specs.k_types.TraceRules.{is_of_version, is_spelled}
use Rattle.k_words.specs.Numbers.{value}
use Rattle.k_words.proofs.Spelled.{both}
use Rattle.k_words.proofs.Again.{AreApart, number_of-at, declares-at, value-decimal, is_below-decimal, is_register-word}
use Rattle.k_trace.specs.Named.{DeclaredNames, NamedTrace}
use Rattle.k_trace.specs.Spelling.{op_words}
use Rattle.k_trace.specs.Demands.{demands}
use Rattle.k_trace.specs.Forms.{new_form, knew_form, snew_form, store_form, load_form, move_form, drop_form, dir_form, put_form, get_form, share_form, freeze_form, attach_form, kill_form, resize_form, governing_op, sharing_op, bare_op, register_op, op_of, has_operation, op_in}
use Rattle.k_reader.proofs.OpForms.{AreNamed}

-- no two types, limits, processes or shared heaps have one name
pub record AreDistinct (t : NamedTrace) : Type 0 where
  pub types : AreApart t.names.types
  pub limits : AreApart t.names.limits
  pub procs : AreApart t.names.procs
  pub shared : AreApart t.names.shared

abbrev IsRead : NamedTrace → Op → Type 0
IsRead t op = op_of t.names (op_words t.names op) ≡ Ok op

pub type_below : (t : NamedTrace) (ty : TypeId) → AreNamed t → ltb ty.0 (length t.trace.types) ≡ true → ty.0 < length t.names.types
type_below t ty named h = rw named.types (ltb-true _ _ h)

pub limit_below : (t : NamedTrace) (m : LimitId) → AreNamed t → ltb m.0 (length t.trace.limits) ≡ true → m.0 < length t.names.limits
limit_below t m named h = rw named.limits (ltb-true _ _ h)

pub proc_below : (t : NamedTrace) (q : Pid) → AreNamed t → ltb q.0 (length t.trace.procs) ≡ true → q.0 < length t.names.procs
proc_below t q named h = rw named.procs (ltb-true _ _ h)

pub shared_below : (t : NamedTrace) (s : SharedId) → AreNamed t → ltb s.0 t.trace.shared_heaps ≡ true → s.0 < length t.names.shared
shared_below t s named h = rw named.shared (ltb-true _ _ h)

new_again : (t : NamedTrace) (r : Reg) (ty : TypeId) → AreNamed t → AreDistinct t → in_range t.trace (New r ty) ≡ true → is_spelled (New r ty) ≡ true → IsRead t (New r ty)
unfolding op_of new_form op_words in_range demands
new_again t r ty named apart h k =
    let p = both (ltb r.0 16) (ltb ty.0 (length t.trace.types)) h in
    let lt_r : r.0 < 16 = ltb-true _ _ p.0 in
    let lt_ty = type_below t ty named p.1 in
    rw (is_register-word r.0 lt_r, declares-at t.names.types ty.0 lt_ty, value-decimal r.0 (omega arith), number_of-at t.names.types ty.0 apart.types lt_ty) refl

knew_again : (t : NamedTrace) (r : Reg) (ty : TypeId) → AreNamed t → AreDistinct t → in_range t.trace (KNew r ty) ≡ true → is_spelled (KNew r ty) ≡ true → IsRead t (KNew r ty)
unfolding op_of knew_form op_words in_range demands
knew_again t r ty named apart h k =
    let p = both (ltb r.0 16) (ltb ty.0 (length t.trace.types)) h in
    let lt_r : r.0 < 16 = ltb-true _ _ p.0 in
    let lt_ty = type_below t ty named p.1 in
    rw (is_register-word r.0 lt_r, declares-at t.names.types ty.0 lt_ty, value-decimal r.0 (omega arith), number_of-at t.names.types ty.0 apart.types lt_ty) refl

snew_again : (t : NamedTrace) (r : Reg) (s : SharedId) (ty : TypeId) → AreNamed t → AreDistinct t → in_range t.trace (SNew r s ty) ≡ true → is_spelled (SNew r s ty) ≡ true → IsRead t (SNew r s ty)
unfolding op_of register_op bare_op sharing_op snew_form op_words in_range demands
snew_again t r s ty named apart h k =
    let p = both (ltb r.0 16 && ltb s.0 t.trace.shared_heaps) (ltb ty.0 (length t.trace.types)) h in
    let pp = both (ltb r.0 16) (ltb s.0 t.trace.shared_heaps) p.0 in
    let lt_r : r.0 < 16 = ltb-true _ _ pp.0 in
    let lt_s = shared_below t s named pp.1 in
    let lt_ty = type_below t ty named p.1 in
    rw (is_register-word r.0 lt_r, declares-at t.names.shared s.0 lt_s, declares-at t.names.types ty.0 lt_ty, value-decimal r.0 (omega arith), number_of-at t.names.shared s.0 apart.shared lt_s, number_of-at t.names.types ty.0 apart.types lt_ty) refl

store_again : (t : NamedTrace) (base : Reg) (i : ℕ) (value : Reg) → AreNamed t → AreDistinct t → in_range t.trace (Store base i value) ≡ true → is_spelled (Store base i value) ≡ true → IsRead t (Store base i value)
unfolding op_of store_form op_words in_range demands
store_again t base i value named apart h k =
    let p = both (ltb base.0 16) (ltb value.0 16) h in
    let lt_base : base.0 < 16 = ltb-true _ _ p.0 in
    let lt_value : value.0 < 16 = ltb-true _ _ p.1 in
    let lt_i : i < 16 = ltb-true _ _ k in
    rw (is_register-word base.0 lt_base, is_register-word value.0 lt_value, is_below-decimal i 16 lt_i (omega arith), value-decimal base.0 (omega arith), value-decimal value.0 (omega arith), value-decimal i (omega arith)) refl

load_again : (t : NamedTrace) (r : Reg) (base : Reg) (i : ℕ) → AreNamed t → AreDistinct t → in_range t.trace (Load r base i) ≡ true → is_spelled (Load r base i) ≡ true → IsRead t (Load r base i)
unfolding op_of load_form op_words in_range demands
load_again t r base i named apart h k =
    let p = both (ltb r.0 16) (ltb base.0 16) h in
    let lt_r : r.0 < 16 = ltb-true _ _ p.0 in
    let lt_base : base.0 < 16 = ltb-true _ _ p.1 in
    let lt_i : i < 16 = ltb-true _ _ k in
    rw (is_register-word r.0 lt_r, is_register-word base.0 lt_base, is_below-decimal i 16 lt_i (omega arith), value-decimal r.0 (omega arith), value-decimal base.0 (omega arith), value-decimal i (omega arith)) refl

move_again : (t : NamedTrace) (r : Reg) (from : Reg) → AreNamed t → AreDistinct t → in_range t.trace (Move r from) ≡ true → is_spelled (Move r from) ≡ true → IsRead t (Move r from)
unfolding op_of register_op move_form op_words in_range demands
move_again t r from named apart h k =
    let p = both (ltb r.0 16) (ltb from.0 16) h in
    let lt_r : r.0 < 16 = ltb-true _ _ p.0 in
    let lt_from : from.0 < 16 = ltb-true _ _ p.1 in
    rw (is_register-word r.0 lt_r, is_register-word from.0 lt_from, value-decimal r.0 (omega arith), value-decimal from.0 (omega arith)) refl

drop_again : (t : NamedTrace) (r : Reg) → AreNamed t → AreDistinct t → in_range t.trace (Clear r) ≡ true → is_spelled (Clear r) ≡ true → IsRead t (Clear r)
unfolding op_of register_op drop_form op_words in_range demands
drop_again t r named apart h k =
    let lt_r : r.0 < 16 = ltb-true _ _ h in
    rw (is_register-word r.0 lt_r, value-decimal r.0 (omega arith)) refl

dir_again : (t : NamedTrace) (r : Reg) → AreNamed t → AreDistinct t → in_range t.trace (Dir r) ≡ true → is_spelled (Dir r) ≡ true → IsRead t (Dir r)
unfolding op_of register_op dir_form op_words in_range demands
dir_again t r named apart h k =
    let lt_r : r.0 < 16 = ltb-true _ _ h in
    rw (is_register-word r.0 lt_r, value-decimal r.0 (omega arith)) refl

put_again : (t : NamedTrace) (base : Reg) (i : ℕ) (number : ℕ) → AreNamed t → AreDistinct t → in_range t.trace (Put base i number) ≡ true → is_spelled (Put base i number) ≡ true → IsRead t (Put base i number)
unfolding op_of register_op put_form op_words in_range demands
put_again t base i number named apart h k =
    let q = both (ltb i 16) (ltb number (2 ^ 64)) k in
    let lt_base : base.0 < 16 = ltb-true _ _ h in
    let lt_i : i < 16 = ltb-true _ _ q.0 in
    let lt_number : number < 2 ^ 64 = ltb-true _ _ q.1 in
    rw (is_register-word base.0 lt_base, is_below-decimal i 16 lt_i (omega arith), is_below-decimal number (2 ^ 64) lt_number (omega arith), value-decimal base.0 (omega arith), value-decimal i (omega arith), value-decimal number lt_number) refl

get_again : (t : NamedTrace) (base : Reg) (i : ℕ) → AreNamed t → AreDistinct t → in_range t.trace (Get base i) ≡ true → is_spelled (Get base i) ≡ true → IsRead t (Get base i)
unfolding op_of register_op get_form op_words in_range demands
get_again t base i named apart h k =
    let lt_base : base.0 < 16 = ltb-true _ _ h in
    let lt_i : i < 16 = ltb-true _ _ k in
    rw (is_register-word base.0 lt_base, is_below-decimal i 16 lt_i (omega arith), value-decimal base.0 (omega arith), value-decimal i (omega arith)) refl

share_again : (t : NamedTrace) (s : SharedId) → AreNamed t → AreDistinct t → in_range t.trace (Share s) ≡ true → is_spelled (Share s) ≡ true → IsRead t (Share s)
unfolding op_of register_op bare_op sharing_op share_form op_words in_range demands
share_again t s named apart h k =
    let lt_s = shared_below t s named h in
    rw (declares-at t.names.shared s.0 lt_s, number_of-at t.names.shared s.0 apart.shared lt_s) refl

freeze_again : (t : NamedTrace) (s : SharedId) (root : Reg) → AreNamed t → AreDistinct t → in_range t.trace (Freeze s root) ≡ true → is_spelled (Freeze s root) ≡ true → IsRead t (Freeze s root)
unfolding op_of register_op bare_op sharing_op freeze_form op_words in_range demands
freeze_again t s root named apart h k =
    let p = both (ltb s.0 t.trace.shared_heaps) (ltb root.0 16) h in
    let lt_s = shared_below t s named p.0 in
    let lt_root : root.0 < 16 = ltb-true _ _ p.1 in
    rw (declares-at t.names.shared s.0 lt_s, is_register-word root.0 lt_root, number_of-at t.names.shared s.0 apart.shared lt_s, value-decimal root.0 (omega arith)) refl

attach_again : (t : NamedTrace) (r : Reg) (s : SharedId) → AreNamed t → AreDistinct t → in_range t.trace (Attach r s) ≡ true → is_spelled (Attach r s) ≡ true → IsRead t (Attach r s)
unfolding op_of register_op bare_op sharing_op attach_form op_words in_range demands
attach_again t r s named apart h k =
    let p = both (ltb r.0 16) (ltb s.0 t.trace.shared_heaps) h in
    let lt_r : r.0 < 16 = ltb-true _ _ p.0 in
    let lt_s = shared_below t s named p.1 in
    rw (is_register-word r.0 lt_r, declares-at t.names.shared s.0 lt_s, value-decimal r.0 (omega arith), number_of-at t.names.shared s.0 apart.shared lt_s) refl

kill_again : (t : NamedTrace) (q : Pid) → AreNamed t → AreDistinct t → in_range t.trace (Kill q) ≡ true → is_spelled (Kill q) ≡ true → IsRead t (Kill q)
unfolding op_of register_op bare_op sharing_op governing_op kill_form op_words in_range demands
kill_again t q named apart h k =
    let lt_q = proc_below t q named h in
    rw (declares-at t.names.procs q.0 lt_q, number_of-at t.names.procs q.0 apart.procs lt_q) refl

resize_again : (t : NamedTrace) (m : LimitId) (max : ℕ) → AreNamed t → AreDistinct t → in_range t.trace (Resize m max) ≡ true → is_spelled (Resize m max) ≡ true → IsRead t (Resize m max)
unfolding op_of register_op bare_op sharing_op governing_op resize_form op_words in_range demands
resize_again t m max named apart h k =
    let p = both (ltb m.0 (length t.trace.limits)) (ltb max (2 ^ 40)) h in
    let lt_m = limit_below t m named p.0 in
    let lt_max : max < 2 ^ 40 = ltb-true _ _ p.1 in
    rw (is_below-decimal max (2 ^ 40) lt_max (omega arith), declares-at t.names.limits m.0 lt_m, number_of-at t.names.limits m.0 apart.limits lt_m, value-decimal max (omega arith)) refl

bare_again : (t : NamedTrace) → IsRead t Collect × IsRead t KCollect × IsRead t Exit
unfolding op_of register_op bare_op op_words demands
bare_again t = (refl, refl, refl)

-- what an operation is spelled as is read as that operation
pub op_again : (t : NamedTrace) (op : Op) → AreNamed t → AreDistinct t → in_range t.trace op ≡ true → is_spelled op ≡ true → op_of t.names (op_words t.names op) ≡ Ok op
op_again t (New r ty) named apart h k = new_again t r ty named apart h k
op_again t (KNew r ty) named apart h k = knew_again t r ty named apart h k
op_again t (SNew r s ty) named apart h k = snew_again t r s ty named apart h k
op_again t (Store base i value) named apart h k = store_again t base i value named apart h k
op_again t (Load r base i) named apart h k = load_again t r base i named apart h k
op_again t (Move r from) named apart h k = move_again t r from named apart h k
op_again t (Clear r) named apart h k = drop_again t r named apart h k
op_again t (Dir r) named apart h k = dir_again t r named apart h k
op_again t (Put base i number) named apart h k = put_again t base i number named apart h k
op_again t (Get base i) named apart h k = get_again t base i named apart h k
op_again t (Share s) named apart h k = share_again t s named apart h k
op_again t (Freeze s root) named apart h k = freeze_again t s root named apart h k
op_again t (Attach r s) named apart h k = attach_again t r s named apart h k
op_again t Collect named apart h k = (bare_again t).0
op_again t KCollect named apart h k = (bare_again t).1
op_again t Exit named apart h k = (bare_again t).2
op_again t (Kill q) named apart h k = kill_again t q named apart h k
op_again t (Resize m max) named apart h k = resize_again t m max named apart h k

-- the verb is one that the version has exactly where the operation is
pub has_own_operation : (version : ℕ) (names : DeclaredNames) (op : Op) → has_operation version (op_words names op) ≡ is_of_version version op
unfolding op_words
has_own_operation version names (Kill q) = refl
has_own_operation version names _ = refl

-- so it is in a trace of its version
pub op_in_again : (t : NamedTrace) (op : Op) → AreNamed t → AreDistinct t → in_range t.trace op ≡ true → is_spelled op ≡ true → is_of_version t.trace.version op ≡ true
    → op_in t.trace.version t.names (op_words t.names op) ≡ Ok op
unfolding op_in demands
op_in_again t op named apart h k has = rw (has_own_operation t.trace.version t.names op, has) (op_again t op named apart h k)
