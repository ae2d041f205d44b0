-- The operations of each process, and what is made for them.
use Rattle.std.proofs.Common.{◌≡◌, ◌∙◌, Vec, Global, take, ℕ, ◌+◌, ◌<◌, ◌&&◌, nat_lt, List, [], ◌∷◌, ◌++◌, length, map, get_or, sym, ap, subst, arith, ltb-true, IsTrue}
use Rattle.std.specs.Prelude.{IfSome}
use Rattle.std.specs.List.{AllByRecursion, list_all}
use Rattle.std.proofs.lemmas.Bool.{and_parts}
use Rattle.std.proofs.lemmas.List.{get_or-map, length-map, map-append, take_more}
use Rattle.k_types.specs.declared.op.Op.{Op}
use Rattle.k_types.specs.declared.op.Op.TheVariants.{New, KNew, SNew}
use Rattle.k_types.specs.Bounds.{register_count}
use Rattle.k_types.specs.Steps.{in_range}
use Rattle.k_types.specs.Trace.{Trace as MachineTrace, operations_of}
use Rattle.k_trace.specs.declared.trace.Trace.{Trace}
use Rattle.k_trace.specs.Meaning.{meaning_of}
use Rattle.k_trace.specs.Rules.{IsTrace}
use Rattle.k_process.specs.Bodies.{type_made}

-- The type of the object is one of the trace's.
abbrev pub IsTyped : ℕ → Op → Type 0
IsTyped types op = IfSome (type_made op) (λ ty. ty.0 < types)

typed_op : (trace : MachineTrace) (op : Op) → IsTrue (in_range trace op) → IsTyped (length trace.types) op
unfolding in_range
typed_op trace (New r ty) h = ltb-true ty.0 (length trace.types) (and_parts (nat_lt r.0 register_count) (nat_lt ty.0 (length trace.types)) h).1
typed_op trace (KNew r ty) h = ltb-true ty.0 (length trace.types) (and_parts (nat_lt r.0 register_count) (nat_lt ty.0 (length trace.types)) h).1
typed_op trace (SNew r s ty) h = ltb-true ty.0 (length trace.types) (and_parts (nat_lt r.0 register_count && nat_lt s.0 trace.shared_heaps) (nat_lt ty.0 (length trace.types)) h).1
typed_op trace _ h = tt

pub typed_ops : (trace : MachineTrace) (ops : List Op) → IsTrue (list_all (in_range trace) ops) → AllByRecursion (IsTyped (length trace.types)) ops
typed_ops trace [] ranged = tt
typed_ops trace (op ∷ ops) ranged =
    let parts = and_parts (in_range trace op) (list_all (in_range trace) ops) ranged in
    (typed_op trace op parts.0, typed_ops trace ops parts.1)

-- The operations of a process are those in its list.
pub own_operations : (t : Trace) (items : List (Vec Op Global)) (p : ℕ) (v : Vec Op Global) → items ≡ t.ops.items → p < length items → v ≡ get_or items p v → operations_of (meaning_of t).trace p ≡ v.items
own_operations t items p v same inside e =
    get_or-map (λ (ops : Vec Op Global). ops.items) t.ops.items p v [] (subst (λ (lists : List (Vec Op Global)). p < length lists) same inside)
    ∙ ap (λ (ops : Vec Op Global). ops.items) (ap (λ (lists : List (Vec Op Global)). get_or lists p v) (sym same) ∙ sym e)

pub listed : (t : Trace) (items : List (Vec Op Global)) → items ≡ t.ops.items → length items ≡ length (meaning_of t).trace.operations
listed t items same = ap (λ (lists : List (Vec Op Global)). length lists) same ∙ sym (length-map t.ops.items (λ (ops : Vec Op Global). ops.items))

-- They make objects of types of the trace.
pub own_typed : (t : Trace) (items : List (Vec Op Global)) (p : ℕ) (v : Vec Op Global) → IsTrace (meaning_of t) → items ≡ t.ops.items → p < length items → v ≡ get_or items p v
    → AllByRecursion (IsTyped (length t.setup.types)) v.items
own_typed t items p v is same inside e =
    let known : p < length t.setup.procs.items = omega (arith, inside, listed t items same, is.rules.operations.each) in
    typed_ops (meaning_of t).trace v.items (subst (λ (ops : List Op). IsTrue (list_all (in_range (meaning_of t).trace) ops)) (own_operations t items p v same inside e) (is.rules.operations.in_range p known))

-- One more element was made as the other list's next one says.
pub made_next : {A B C : Type 0} (f : A → C) (g : B → C) (made new : List A) (one : A) (xs : List B) (i : ℕ) (d : B) → new ≡ made ++ one ∷ [] → f one ≡ g (get_or xs i d) → i < length xs
    → map f made ≡ map g (take i xs) → map f new ≡ map g (take (i + 1) xs)
made_next f g made new one xs i d n e inside h =
    ap (map f) n ∙ map-append f made (one ∷ [])
    ∙ ap (λ ys. ys ++ f one ∷ []) h
    ∙ ap (λ y. map g (take i xs) ++ y ∷ []) e
    ∙ sym (map-append g (take i xs) (get_or xs i d ∷ []))
    ∙ ap (map g) (sym (take_more xs i d inside))
