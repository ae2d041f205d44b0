-- The names that were said, and the words of each step.
use Rattle.std.proofs.Common.{◌≡◌, ◌∙◌, ℕ, ◌^◌, ◌<◌, ◌≤◌, Bool, true, false, ◌&&◌, ltb, List, [], ◌∷◌, length, map, refl, arith, codes, decimal}
use Rattle.std.proofs.lemmas.Bool.{ltb-true}
use Rattle.std.proofs.lemmas.List.{length-map}
use Rattle.std.specs.List.{list_all}
use Rattle.k_limits.specs.k_types.declared.names.Field.{Field}
use Rattle.k_limits.specs.k_types.declared.names.Field.TheVariants.{Ref, Int}
use Rattle.k_limits.specs.k_types.declared.op.Op.{Op}
use Rattle.k_limits.specs.k_types.declared.op.Op.TheVariants.{New, KNew, SNew, Store, Load, Move, Clear, Dir, Put, Get, Share, Freeze, Attach, Kill, Resize}
use Rattle.k_limits.specs.k_types.declared.names.TypeId.{TypeId}
use Rattle.k_limits.specs.k_types.declared.names.LimitId.{LimitId}
use Rattle.k_limits.specs.k_types.declared.names.Pid.{Pid}
use Rattle.k_limits.specs.k_types.declared.names.SharedId.{SharedId}
use Rattle.k_limits.specs.k_types.declared.names.Reg.{Reg}
use Rattle.k_limits.specs.k_types.Steps.{in_range}
use Rattle.k_limits.specs.k_types.TraceRules.{is_spelled}
use Rattle.k_words.specs.Words.{Text, word_at}
use Rattle.k_words.specs.Numbers.{register_word}
use Rattle.k_words.proofs.Spelled.{both}
use Rattle.k_words.proofs.Proper.{is_word, IsProper, decimal_word, register_is_word, name_word}
use Rattle.k_trace.specs.declared.place.Place.{Place}
use Rattle.k_trace.specs.declared.place.Place.TheVariants.{Version, Kernel, Types, Limits, Procs, Shared, Operations}
use Rattle.k_trace.specs.Named.{NamedTrace}
use Rattle.k_trace.specs.Rules.{AreNames}
use Rattle.k_trace.specs.Spelling.{field_word, op_words}
use Rattle.k_trace.specs.Grown.{blank, with_version}
use Rattle.k_trace.specs.Judgement.{SoFar}
use Rattle.k_reader.proofs.OpForms.{AreNamed}
use Rattle.k_reader.proofs.Found.{hardness, limit_words_are}
use Rattle.k_reader.proofs.Again.{IsOrderly}
use Rattle.k_trace.proofs.Pushed.{AreNames_nil, AreNames_front, AreNames_back}
use Rattle.k_reader.proofs.Kept.{Holds, IsSaid}
use Rattle.k_reader.proofs.Steps.{version_words, kernel_words, Step, OfVersion, OfKernel, OfType, OfRoot, OfLimit, OfProc, OfShared, OfOperation}

-- the names are names, each distinct from those that it must differ from
pub record IsTidy (t : NamedTrace) : Type 0 where
  pub named : AreNamed t
  pub types : AreNames t.names.types
  pub limits : AreNames t.names.limits
  pub procs : AreNames t.names.procs
  pub shared : AreNames t.names.shared

blank_tidy : (t : NamedTrace) (version : ℕ) → t ≡ with_version blank version → IsTidy t
blank_tidy t version e = rw e (record { named = record { types = refl; limits = refl; procs = refl; shared = refl }; types = AreNames_nil; limits = AreNames_nil; procs = AreNames_nil; shared = AreNames_nil })

said_tidy : (t : NamedTrace) (wss : List (List Text)) → IsSaid t wss → IsTidy t
said_tidy t wss h = record {
  named = record {
    types = h.begun.types.named;
    limits = h.begun.limits.named;
    procs = h.begun.heaps.procs_named;
    shared = h.begun.heaps.shared_named;
  };
  types = h.begun.types.are_names;
  limits = h.begun.limits.are_names;
  procs = AreNames_front t.names.procs t.names.shared h.begun.heaps.are_names;
  shared = AreNames_back t.names.procs t.names.shared h.begun.heaps.are_names;
}

tidy_in : (p : Place) (t : NamedTrace) (wss : List (List Text)) → Holds p t wss → IsTidy t
tidy_in Version t wss h = blank_tidy t 1 h.0
tidy_in Kernel t wss h = blank_tidy t t.trace.version h.0
tidy_in Types t wss h = said_tidy t wss h.0
tidy_in Limits t wss h = said_tidy t wss h.0
tidy_in Procs t wss h = said_tidy t wss h.0
tidy_in Shared t wss h = said_tidy t wss h.0
tidy_in Operations t wss h = said_tidy t wss h.0

pub tidy : (c : SoFar) (wss : List (List Text)) → Holds c.place c.said wss → IsTidy c.said
tidy c wss h = tidy_in c.place c.said wss h

pub orderly : (t : NamedTrace) → IsTidy t → IsOrderly t
orderly t h = record {
  named = h.named;
  distinct = record { types = h.types.apart; limits = h.limits.apart; procs = h.procs.apart; shared = h.shared.apart };
  limits = h.limits.apart;
  procs = h.procs.apart;
  each = h.procs.each;
}

-- ---- words

field_words_are : (fs : List Field) → list_all is_word (map field_word fs) ≡ true
field_words_are [] = refl
field_words_are (Ref ∷ fs) = field_words_are fs
field_words_are (Int ∷ fs) = field_words_are fs

at_name : (names : List Text) (i : ℕ) → AreNames names → i < length names → is_word (word_at names i) ≡ true
at_name names i all lt = name_word (word_at names i) (all.each i lt)

type_at : (t : NamedTrace) (ty : TypeId) → IsTidy t → ltb ty.0 (length t.trace.types) ≡ true → is_word (word_at t.names.types ty.0) ≡ true
type_at t ty h lt = at_name t.names.types ty.0 h.types (rw h.named.types (ltb-true _ _ lt))

limit_at : (t : NamedTrace) (m : LimitId) → IsTidy t → ltb m.0 (length t.trace.limits) ≡ true → is_word (word_at t.names.limits m.0) ≡ true
limit_at t m h lt = at_name t.names.limits m.0 h.limits (rw h.named.limits (ltb-true _ _ lt))

proc_at : (t : NamedTrace) (q : Pid) → IsTidy t → ltb q.0 (length t.trace.procs) ≡ true → is_word (word_at t.names.procs q.0) ≡ true
proc_at t q h lt = at_name t.names.procs q.0 h.procs (rw h.named.procs (ltb-true _ _ lt))

shared_at : (t : NamedTrace) (s : SharedId) → IsTidy t → ltb s.0 t.trace.shared_heaps ≡ true → is_word (word_at t.names.shared s.0) ≡ true
shared_at t s h lt = at_name t.names.shared s.0 h.shared (rw h.named.shared (ltb-true _ _ lt))

reg_at : (r : Reg) → ltb r.0 16 ≡ true → is_word (register_word r.0) ≡ true
reg_at r lt = register_is_word r.0 (ltb-true _ _ lt)

field_at : (i : ℕ) → ltb i 16 ≡ true → is_word (decimal i) ≡ true
field_at i lt = let h : i < 16 = ltb-true _ _ lt in decimal_word i (omega arith)

number_at : (n : ℕ) → ltb n (2 ^ 64) ≡ true → is_word (decimal n) ≡ true
number_at n lt = decimal_word n (ltb-true _ _ lt)

abbrev AreFew : List Text → Type 0
AreFew ws = (list_all is_word ws ≡ true) × (length ws ≤ 8)

op_proper : (t : NamedTrace) (op : Op) → IsTidy t → in_range t.trace op ≡ true → is_spelled op ≡ true → AreFew (op_words t.names op)
unfolding op_words in_range
op_proper t (New r ty) d h k =
    let p = both (ltb r.0 16) (ltb ty.0 (length t.trace.types)) h in
    (rw (reg_at r p.0, type_at t ty d p.1) refl, omega arith)
op_proper t (KNew r ty) d h k =
    let p = both (ltb r.0 16) (ltb ty.0 (length t.trace.types)) h in
    (rw (reg_at r p.0, type_at t ty d p.1) refl, omega arith)
op_proper t (SNew r s ty) d h k =
    let p = both (ltb r.0 16 && ltb s.0 t.trace.shared_heaps) (ltb ty.0 (length t.trace.types)) h in
    let q = both (ltb r.0 16) (ltb s.0 t.trace.shared_heaps) p.0 in
    (rw (reg_at r q.0, shared_at t s d q.1, type_at t ty d p.1) refl, omega arith)
op_proper t (Store base i value) d h k =
    let p = both (ltb base.0 16) (ltb value.0 16) h in
    (rw (reg_at base p.0, field_at i k, reg_at value p.1) refl, omega arith)
op_proper t (Load r base i) d h k =
    let p = both (ltb r.0 16) (ltb base.0 16) h in
    (rw (reg_at r p.0, reg_at base p.1, field_at i k) refl, omega arith)
op_proper t (Move r from) d h k =
    let p = both (ltb r.0 16) (ltb from.0 16) h in
    (rw (reg_at r p.0, reg_at from p.1) refl, omega arith)
op_proper t (Clear r) d h k = (rw (reg_at r h) refl, omega arith)
op_proper t (Dir r) d h k = (rw (reg_at r h) refl, omega arith)
op_proper t (Put base i number) d h k =
    let q = both (ltb i 16) (ltb number (2 ^ 64)) k in
    (rw (reg_at base h, field_at i q.0, number_at number q.1) refl, omega arith)
op_proper t (Get base i) d h k = (rw (reg_at base h, field_at i k) refl, omega arith)
op_proper t (Share s) d h k = (rw (shared_at t s d h) refl, omega arith)
op_proper t (Freeze s root) d h k =
    let p = both (ltb s.0 t.trace.shared_heaps) (ltb root.0 16) h in
    (rw (shared_at t s d p.0, reg_at root p.1) refl, omega arith)
op_proper t (Attach r s) d h k =
    let p = both (ltb r.0 16) (ltb s.0 t.trace.shared_heaps) h in
    (rw (reg_at r p.0, shared_at t s d p.1) refl, omega arith)
op_proper t (Kill q) d h k = (rw (proc_at t q d h) refl, omega arith)
op_proper t (Resize m max) d h k =
    let p = both (ltb m.0 (length t.trace.limits)) (ltb max (2 ^ 40)) h in
    let small : max < 2 ^ 40 = ltb-true _ _ p.1 in
    (rw (limit_at t m d p.0, decimal_word max (omega arith)) refl, omega arith)
op_proper t _ d h k = (refl, omega arith)

hard_word : (hard : Bool) → is_word (hardness hard) ≡ true
hard_word true = refl
hard_word false = refl

proper_of : (ws us : List Text) → ws ≡ us → 0 < length us → length us ≤ 32 → list_all is_word us ≡ true → IsProper ws
proper_of ws us e some few each = rw e (record { some = some; few = few; each = each })

-- the words of a step make a proper line
pub step_proper : (c d : SoFar) (ws : List Text) → IsTidy c.said → Step c ws d → IsProper ws
step_proper c d ws h (OfVersion s) =
    let a = decimal_word s.version (omega (arith, s.built.1)) in
    proper_of ws (version_words s.version) s.words (omega arith) (omega arith) (rw a refl)
step_proper c d ws h (OfKernel s) =
    let a = decimal_word s.ceiling (omega (arith, s.small)) in
    let b = decimal_word s.dir_fields (omega (arith, s.few)) in
    proper_of ws (kernel_words s.ceiling s.dir_fields) s.words (omega arith) (omega arith) (rw (a, b) refl)
step_proper c d ws h (OfType s) =
    let few : length (map field_word s.fields) ≤ 16 = rw (length-map s.fields field_word) s.few_fields in
    proper_of ws (codes "type" ∷ s.name ∷ map field_word s.fields) s.words (omega arith) (omega (arith, few)) (rw (name_word s.name s.named, field_words_are s.fields) refl)
step_proper c d ws h (OfRoot s) =
    let a = decimal_word s.max (omega (arith, s.small)) in
    proper_of ws (codes "limit" ∷ s.name ∷ decimal s.max ∷ []) s.words (omega arith) (omega arith) (rw (name_word s.name s.named, a) refl)
step_proper c d ws h (OfLimit s) =
    let a = decimal_word s.max (omega (arith, s.small)) in
    proper_of ws (codes "limit" ∷ s.name ∷ word_at c.said.names.limits s.parent ∷ hardness s.hard ∷ decimal s.max ∷ [])
    (s.words ∙ limit_words_are c.said s.name s.parent s.hard s.max) (omega arith) (omega arith)
    (rw (name_word s.name s.named, at_name c.said.names.limits s.parent h.limits s.declared, hard_word s.hard, a) refl)
step_proper c d ws h (OfProc s) =
    proper_of ws (codes "proc" ∷ s.name ∷ word_at c.said.names.limits s.limit ∷ []) s.words (omega arith) (omega arith)
    (rw (name_word s.name s.named, at_name c.said.names.limits s.limit h.limits s.declared) refl)
step_proper c d ws h (OfShared s) = proper_of ws (codes "shared" ∷ s.name ∷ []) s.words (omega arith) (omega arith) (rw (name_word s.name s.named) refl)
step_proper c d ws h (OfOperation s) =
    let few = op_proper c.said s.op h s.ranged s.spelled in
    proper_of ws (word_at c.said.names.procs s.process ∷ op_words c.said.names s.op) s.words (omega arith) (omega (arith, few.1))
    (rw (at_name c.said.names.procs s.process h.procs s.declared, few.0) refl)
