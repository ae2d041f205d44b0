-- An operation in range is one that can be spelled, and is read as it is spelled.
use Rattle.std.proofs.Common.{◌≡◌, ◌<◌, ◌^◌, true, ◌&&◌, ltb, List, [], length, map, Ok, refl, sym}
use Rattle.std.proofs.lemmas.Bool.{ltb-true, lt-ltb}
use Rattle.std.proofs.lemmas.List.{length-map}
use Rattle.k_types.specs.declared.names.TypeId.{TypeId}
use Rattle.k_types.specs.declared.names.LimitId.{LimitId}
use Rattle.k_types.specs.declared.names.Pid.{Pid}
use Rattle.k_types.specs.declared.names.SharedId.{SharedId}
use Rattle.k_types.specs.Trace.{no_row}
use Rattle.k_types.specs.declared.op.Op.{Op}
use Rattle.k_types.specs.declared.op.Op.TheVariants.{New, KNew, SNew, Store, Load, Move, Clear, Dir, Put, Get, Share, Freeze, Attach, Kill, Resize}
use Rattle.k_types.specs.Steps.{in_range}
use Rattle.k_types.specs.TraceRules.{is_spelled}
use Rattle.k_words.specs.Words.{Text}
use Rattle.k_words.proofs.Spelled.{both}
use Rattle.k_words.proofs.Proper.{both_are}
use Rattle.k_trace.specs.Named.{DeclaredNames, NamedTrace}
use Rattle.k_trace.specs.Spelling.{op_words}
use Rattle.k_trace.specs.Forms.{op_of}
use Rattle.k_reader.proofs.OpForms.{AreNamed, op_found}
use Rattle.k_reader.proofs.OpAgain.{type_below, limit_below, proc_below, shared_below, op_again}
use Rattle.k_trace.proofs.Pushed.{AreNames_front, AreNames_back}
use Rattle.k_reports.specs.Spelled.{AreProper, IsSpelledOp}

type_in : (t : NamedTrace) (ty : TypeId) → AreNamed t → ty.0 < length t.names.types → ltb ty.0 (length t.trace.types) ≡ true
type_in t ty named h = lt-ltb _ _ (rw (← named.types) h)

limit_in : (t : NamedTrace) (m : LimitId) → AreNamed t → m.0 < length t.names.limits → ltb m.0 (length t.trace.limits) ≡ true
limit_in t m named h = lt-ltb _ _ (rw (← named.limits) h)

proc_in : (t : NamedTrace) (q : Pid) → AreNamed t → q.0 < length t.names.procs → ltb q.0 (length t.trace.procs) ≡ true
proc_in t q named h = lt-ltb _ _ (rw (← named.procs) h)

shared_in : (t : NamedTrace) (s : SharedId) → AreNamed t → s.0 < length t.names.shared → ltb s.0 t.trace.shared_heaps ≡ true
shared_in t s named h = lt-ltb _ _ (rw (← named.shared) h)

-- An operation of the trace can be spelled.
pub spelled_op : (t : NamedTrace) (op : Op) → AreNamed t → in_range t.trace op ≡ true → is_spelled op ≡ true → IsSpelledOp t.names op
unfolding in_range
spelled_op t (New r ty) named h k = let p = both (ltb r.0 16) (ltb ty.0 (length t.trace.types)) h in (ltb-true _ _ p.0, type_below t ty named p.1)
spelled_op t (KNew r ty) named h k = let p = both (ltb r.0 16) (ltb ty.0 (length t.trace.types)) h in (ltb-true _ _ p.0, type_below t ty named p.1)
spelled_op t (SNew r s ty) named h k =
    let p = both (ltb r.0 16 && ltb s.0 t.trace.shared_heaps) (ltb ty.0 (length t.trace.types)) h in
    let q = both (ltb r.0 16) (ltb s.0 t.trace.shared_heaps) p.0 in
    (ltb-true _ _ q.0, shared_below t s named q.1, type_below t ty named p.1)
spelled_op t (Store base i value) named h k = let p = both (ltb base.0 16) (ltb value.0 16) h in (ltb-true _ _ p.0, ltb-true _ _ k, ltb-true _ _ p.1)
spelled_op t (Load r base i) named h k = let p = both (ltb r.0 16) (ltb base.0 16) h in (ltb-true _ _ p.0, ltb-true _ _ p.1, ltb-true _ _ k)
spelled_op t (Move r from) named h k = let p = both (ltb r.0 16) (ltb from.0 16) h in (ltb-true _ _ p.0, ltb-true _ _ p.1)
spelled_op t (Clear r) named h k = ltb-true _ _ h
spelled_op t (Dir r) named h k = ltb-true _ _ h
spelled_op t (Put base i number) named h k = let q = both (ltb i 16) (ltb number (2 ^ 64)) k in (ltb-true _ _ h, ltb-true _ _ q.0, ltb-true _ _ q.1)
spelled_op t (Get base i) named h k = (ltb-true _ _ h, ltb-true _ _ k)
spelled_op t (Share s) named h k = shared_below t s named h
spelled_op t (Freeze s root) named h k = let p = both (ltb s.0 t.trace.shared_heaps) (ltb root.0 16) h in (shared_below t s named p.0, ltb-true _ _ p.1)
spelled_op t (Attach r s) named h k = let p = both (ltb r.0 16) (ltb s.0 t.trace.shared_heaps) h in (ltb-true _ _ p.0, shared_below t s named p.1)
spelled_op t (Kill q) named h k = proc_below t q named h
spelled_op t (Resize m max) named h k = let p = both (ltb m.0 (length t.trace.limits)) (ltb max (2 ^ 40)) h in (limit_below t m named p.0, ltb-true _ _ p.1)
spelled_op t _ named h k = tt

-- The operation is one of the trace.
record IsIn (t : NamedTrace) (op : Op) : Type 0 where
  ranged : in_range t.trace op ≡ true
  spelled : is_spelled op ≡ true

op_in : (t : NamedTrace) (op : Op) → AreNamed t → IsSpelledOp t.names op → IsIn t op
unfolding in_range
op_in t (New r ty) named h = record { ranged = both_are _ _ (lt-ltb _ _ h.0) (type_in t ty named h.1); spelled = refl }
op_in t (KNew r ty) named h = record { ranged = both_are _ _ (lt-ltb _ _ h.0) (type_in t ty named h.1); spelled = refl }
op_in t (SNew r s ty) named h = record { ranged = both_are _ _ (both_are _ _ (lt-ltb _ _ h.0) (shared_in t s named h.1)) (type_in t ty named h.2); spelled = refl }
op_in t (Store base i value) named h = record { ranged = both_are _ _ (lt-ltb _ _ h.0) (lt-ltb _ _ h.2); spelled = lt-ltb _ _ h.1 }
op_in t (Load r base i) named h = record { ranged = both_are _ _ (lt-ltb _ _ h.0) (lt-ltb _ _ h.1); spelled = lt-ltb _ _ h.2 }
op_in t (Move r from) named h = record { ranged = both_are _ _ (lt-ltb _ _ h.0) (lt-ltb _ _ h.1); spelled = refl }
op_in t (Clear r) named h = record { ranged = lt-ltb _ _ h; spelled = refl }
op_in t (Dir r) named h = record { ranged = lt-ltb _ _ h; spelled = refl }
op_in t (Put base i number) named h = record { ranged = lt-ltb _ _ h.0; spelled = both_are _ _ (lt-ltb _ _ h.1) (lt-ltb _ _ h.2) }
op_in t (Get base i) named h = record { ranged = lt-ltb _ _ h.0; spelled = lt-ltb _ _ h.1 }
op_in t (Share s) named h = record { ranged = shared_in t s named h; spelled = refl }
op_in t (Freeze s root) named h = record { ranged = both_are _ _ (shared_in t s named h.0) (lt-ltb _ _ h.1); spelled = refl }
op_in t (Attach r s) named h = record { ranged = both_are _ _ (lt-ltb _ _ h.0) (shared_in t s named h.1); spelled = refl }
op_in t (Kill q) named h = record { ranged = proc_in t q named h; spelled = refl }
op_in t (Resize m max) named h = record { ranged = both_are _ _ (limit_in t m named h.0) (lt-ltb _ _ h.1); spelled = lt-ltb _ _ h.1 }
op_in t _ named h = record { ranged = refl; spelled = refl }

-- A trace that declares as much as there are names.
abbrev declared : DeclaredNames → NamedTrace
declared names = record {
  names = names;
  trace = record { version = 2; ceiling = 0; dir_fields = 0; types = map (λ w. []) names.types; limits = map (λ w. no_row) names.limits; procs = map (λ w. record { 0 = 0 }) names.procs; shared_heaps = length names.shared; operations = []; order = [] };
}

all_named : (names : DeclaredNames) → AreNamed (declared names)
all_named names = record {
  types = sym (length-map names.types (λ w. []));
  limits = sym (length-map names.limits (λ w. no_row));
  procs = sym (length-map names.procs (λ w. let first : LimitId = record { 0 = 0 } in first));
  shared = refl;
}

-- Words that are read as an operation spell it.
pub read_op_words : (names : DeclaredNames) (ws : List Text) (op : Op) → op_of names ws ≡ Ok op → IsSpelledOp names op × (op_words names op ≡ ws)
read_op_words names ws op e =
    let f = op_found (declared names) ws (all_named names) op e in
    (spelled_op (declared names) op (all_named names) f.in_range f.spelled, f.words)

-- An operation that can be spelled is read as it is spelled.
pub op_words_read : (names : DeclaredNames) (op : Op) → AreProper names → IsSpelledOp names op → op_of names (op_words names op) ≡ Ok op
op_words_read names op proper h =
    let i = op_in (declared names) op (all_named names) h in
    op_again (declared names) op (all_named names) (record {
      types = proper.types.apart;
      limits = proper.limits.apart;
      procs = (AreNames_front names.procs names.shared proper.heaps).apart;
      shared = (AreNames_back names.procs names.shared proper.heaps).apart;
    }) i.ranged i.spelled
