-- Each step keeps what the lines so far keep.
use Rattle.std.proofs.Common.{◌≡◌, ◌∙◌, ◌⊎◌, ℕ, ◌+◌, ◌*◌, ◌^◌, ◌<◌, ◌≤◌, Bool, true, false, not, ◌||◌, List, [], ◌∷◌, ◌++◌, length, map, get_or, Option, Some, None, refl, sym, ap, subst, arith, inl, inr, append_assoc}
use Rattle.std.proofs.lemmas.Bool.{cases_lt}
use Rattle.std.proofs.lemmas.List.{get_or_append_left, append-nil, map-append}
use Rattle.std.proofs.Math.Seq.{get_or-append_seam}
use Rattle.k_limits.specs.k_types.declared.names.Field.{Field}
use Rattle.k_limits.specs.k_types.declared.names.LimitId.{LimitId}
use Rattle.k_limits.specs.k_types.declared.setup.LimitRow.{LimitRow}
use Rattle.k_limits.specs.k_types.declared.op.Op.{Op}
use Rattle.k_limits.specs.k_types.Trace.{operations_of, row_of, no_row}
use Rattle.k_limits.specs.k_types.Steps.{in_range}
use Rattle.k_limits.specs.k_types.TraceRules.{AreOperations, IsBuilt, IsTree, is_of_version, is_spelled}
use Rattle.k_words.specs.Words.{Text}
use Rattle.k_words.specs.Names.{is_name, declares}
use Rattle.k_trace.specs.declared.place.Place.{Place}
use Rattle.k_trace.specs.declared.place.Place.TheVariants.{Version, Kernel, Types, Limits, Procs, Shared, Operations}
use Rattle.k_trace.specs.Named.{DeclaredNames, NamedTrace}
use Rattle.k_trace.specs.Spelling.{declarations, type_words, limit_words, proc_words, shared_words, operation_lines, line_words}
use Rattle.k_trace.specs.Grown.{blank, fits, has_exit, with_version, with_kernel, with_type, with_limit, with_proc, with_shared, with_op}
use Rattle.k_trace.specs.Judgement.{SoFar, has_process}
use Rattle.k_reader.proofs.Steps.{version_words, kernel_words, root_row, limit_row, VersionStep, KernelStep, TypeStep, RootStep, LimitStep, ProcStep, SharedStep, OperationStep, Step, OfVersion, OfKernel, OfType, OfRoot, OfLimit, OfProc, OfShared, OfOperation}
use Rattle.k_limits.proofs.Reserves.{row_before}
use Rattle.k_limits.proofs.Lists.{length_push}
use Rattle.k_trace.proofs.Pushed.{AreNames_push, AreNames_nil, AreNames_front, neither_declares, declarations_push, declarations_same, word_before}
use Rattle.k_reader.proofs.Readers.{few_push}
use Rattle.k_reader.proofs.OpLists.{lines_push}
use Rattle.k_reader.proofs.OpRules.{none_each, no_operations, operation_kept, op_added}
use Rattle.k_reader.proofs.Reserved.{AllFit, fit_none, fit_root, fit_limit}
use Rattle.k_reader.proofs.Kept.{AreTypes, AreRows, limit_at, AreHeaps, NoShared, NoOperations, IsSaid, Holds}

-- lines of words, as the header has them
abbrev lined : List (List Text) → List (List Text) → List (List Text) → List (List Text) → List (List Text) → List (List Text)
lined a b c d e = a ++ b ++ c ++ d ++ e

behind_types : (a : List (List Text)) (x : List Text) → lined (a ++ x ∷ []) [] [] [] [] ≡ lined a [] [] [] [] ++ x ∷ []
behind_types a x = simp append-nil

behind_limits : (a b : List (List Text)) (x : List Text) → lined a (b ++ x ∷ []) [] [] [] ≡ lined a b [] [] [] ++ x ∷ []
behind_limits a b x = simp (append-nil, append_assoc)

behind_procs : (a b c : List (List Text)) (x : List Text) → lined a b (c ++ x ∷ []) [] [] ≡ lined a b c [] [] ++ x ∷ []
behind_procs a b c x = simp (append-nil, append_assoc)

behind_shared : (a b c d : List (List Text)) (x : List Text) → lined a b c (d ++ x ∷ []) [] ≡ lined a b c d [] ++ x ∷ []
behind_shared a b c d x = simp (append-nil, append_assoc)

behind_all : (a b c d e : List (List Text)) (x : List Text) → lined a b c d (e ++ x ∷ []) ≡ lined a b c d e ++ x ∷ []
behind_all a b c d e x = simp append_assoc

-- ---- the parts, grown

types_push : (names : List Text) (types : List (List Field)) (name : Text) (fields : List Field) → AreTypes names types → is_name name ≡ true → declares names name ≡ false
    → length fields ≤ 16 → length names < 256 → AreTypes (names ++ name ∷ []) (types ++ fields ∷ [])
types_push names types name fields old good fresh few room = record {
  few = rw (length_push types fields) (omega (arith, old.named, room));
  few_fields = few_push types fields old.few_fields few;
  are_names = AreNames_push names name old.are_names good fresh;
  named = rw (length_push names name, length_push types fields, old.named) refl;
}

row_last : (rows : List LimitRow) (row : LimitRow) (m : ℕ) → m ≡ length rows → row_of (rows ++ row ∷ []) m ≡ row
row_last rows row m e = rw e (get_or-append_seam rows row [] no_row)

-- what holds of each row and of one more holds of all
pub each_row : (P : ℕ → LimitRow → Type 0) (rows : List LimitRow) (row : LimitRow) → ((m : ℕ) → m < length rows → P m (row_of rows m)) → P (length rows) row
    → (m : ℕ) → m < length (rows ++ row ∷ []) → P m (row_of (rows ++ row ∷ []) m)
each_row P rows row old last m lt = elim (cases_lt m (length rows)) [
  | inl below ↦ subst (P m) (sym (row_before rows row m below)) (old m below)
  | inr above ↦ let e : m ≡ length rows = omega (arith, length_push rows row) in
      subst (P m) (sym (row_last rows row m e)) (subst (λ (k : ℕ). P k row) (sym e) last)
]

pub tree_push : (rows : List LimitRow) (row : LimitRow) → IsTree rows → ((parent : LimitId) → row.parent ≡ Some parent → parent.0 < length rows) → IsTree (rows ++ row ∷ [])
tree_push rows row old known m parent lt is = each_row (λ k r. (p : LimitId) → r.parent ≡ Some p → p.0 < k) rows row (λ k below p. old k p below) known m lt parent is

limits_push : (names : List Text) (rows : List LimitRow) (name : Text) (row : LimitRow) → AreRows names rows → is_name name ≡ true → declares names name ≡ false
    → length names < 128 → row.max < 2 ^ 40 → ((parent : LimitId) → row.parent ≡ Some parent → parent.0 < length rows) → (row.parent ≡ None → length rows ≡ 0)
    → (row_of (rows ++ row ∷ []) 0).hard ≡ true → AllFit (rows ++ row ∷ []) → AreRows (names ++ name ∷ []) (rows ++ row ∷ [])
limits_push names rows name row old good fresh room small known rooted root fits = record {
  few = rw (length_push rows row) (omega (arith, old.named, room));
  tree = tree_push rows row old.tree known;
  root = root;
  rooted = each_row (λ k r. r.parent ≡ None → k ≡ 0) rows row old.rooted rooted;
  fits = fits;
  small = each_row (λ k r. r.max < 2 ^ 40) rows row old.small small;
  are_names = AreNames_push names name old.are_names good fresh;
  named = rw (length_push names name, length_push rows row, old.named) refl;
}

limited_push : (limits : List LimitId) (limit : LimitId) (rows : ℕ) → ((p : ℕ) → p < length limits → limit_at limits p < rows) → limit.0 < rows
    → (p : ℕ) → p < length (limits ++ limit ∷ []) → limit_at (limits ++ limit ∷ []) p < rows
limited_push limits limit rows old last p lt = elim (cases_lt p (length limits)) [
  | inl below ↦ subst (λ (l : LimitId). l.0 < rows) (sym (get_or_append_left limits (limit ∷ []) (record { 0 = 0 }) p below)) (old p below)
  | inr above ↦ let e : p ≡ length limits = omega (arith, length_push limits limit) in
      subst (λ (l : LimitId). l.0 < rows) (sym (ap (λ (k : ℕ). get_or (limits ++ limit ∷ []) k (record { 0 = 0 })) e ∙ get_or-append_seam limits limit [] (record { 0 = 0 }))) last
]

procs_push : (procs shared : List Text) (limits : List LimitId) (shared_heaps rows : ℕ) (name : Text) (limit : LimitId) → shared ≡ [] → AreHeaps procs limits shared shared_heaps rows
    → is_name name ≡ true → declares procs name ≡ false → length procs < 64 → limit.0 < rows → AreHeaps (procs ++ name ∷ []) (limits ++ limit ∷ []) shared shared_heaps rows
procs_push procs shared limits shared_heaps rows name limit none old good fresh room known = record {
  few_procs = rw (length_push limits limit) (omega (arith, old.procs_named, room));
  few_shared = old.few_shared;
  limited = limited_push limits limit rows old.limited known;
  are_names = rw (none, append-nil (procs ++ name ∷ [])) (AreNames_push procs name (AreNames_front procs shared old.are_names) good fresh);
  procs_named = rw (length_push procs name, length_push limits limit, old.procs_named) refl;
  shared_named = old.shared_named;
}

shared_push : (procs shared : List Text) (limits : List LimitId) (shared_heaps rows : ℕ) (name : Text) → AreHeaps procs limits shared shared_heaps rows
    → is_name name ≡ true → declares procs name ≡ false → declares shared name ≡ false → length shared < 64 → AreHeaps procs limits (shared ++ name ∷ []) (shared_heaps + 1) rows
shared_push procs shared limits shared_heaps rows name old good fresh fresh_shared room = record {
  few_procs = old.few_procs;
  few_shared = omega (arith, old.shared_named, room);
  limited = old.limited;
  are_names = rw (← append_assoc procs shared (name ∷ [])) (AreNames_push (procs ++ shared) name old.are_names good (neither_declares procs shared name fresh fresh_shared));
  procs_named = old.procs_named;
  shared_named = rw (length_push shared name, old.shared_named) refl;
}

none_more : (procs : List LimitId) (limit : LimitId) → none_each procs ++ [] ∷ [] ≡ none_each (procs ++ limit ∷ [])
none_more procs limit = sym (map-append (λ (p : LimitId). let none : List Op = [] in none) procs (limit ∷ []))

wider : (t : NamedTrace) (more : ℕ) → AreHeaps t.names.procs t.trace.procs t.names.shared t.trace.shared_heaps (length t.trace.limits) → length t.trace.limits ≤ more
    → AreHeaps t.names.procs t.trace.procs t.names.shared t.trace.shared_heaps more
wider t more old le = record {
  few_procs = old.few_procs;
  few_shared = old.few_shared;
  limited = λ p lt. let h = old.limited p lt in omega (arith, h, le);
  are_names = old.are_names;
  procs_named = old.procs_named;
  shared_named = old.shared_named;
}

-- ---- the steps

nothing_operated : (t : NamedTrace) → t.trace.operations ≡ none_each t.trace.procs → t.trace.order ≡ [] → AreOperations t.trace
nothing_operated t e f = no_operations t.trace e f

version_keeps : (c d : SoFar) (ws : List Text) (wss : List (List Text)) → Holds c.place c.said wss → VersionStep c ws d → Holds d.place d.said (wss ++ ws ∷ [])
version_keeps c d ws wss h s =
    let g : Holds Version c.said wss = rw s.at at h in
    rw s.after (ap (λ (x : NamedTrace). with_version x s.version) g.0, s.built, rw (g.1, s.words) refl)

kernel_said : (t : NamedTrace) (version ceiling dir_fields : ℕ) → t ≡ with_version blank version → IsBuilt version → ceiling < 2 ^ 40 → dir_fields < 17 → 16 + 8 * dir_fields ≤ ceiling
    → Holds Types (with_kernel t ceiling dir_fields) (version_words version ∷ kernel_words ceiling dir_fields ∷ [])
kernel_said t version ceiling dir_fields e built small few room = rw e (
  record {
    begun = record {
      version = built;
      kernel = record { small = small; few = omega (arith, few); room = room };
      types = record { few = omega arith; few_fields = λ ty. omega arith; are_names = AreNames_nil; named = refl };
      limits = record {
        few = omega arith;
        tree = λ m parent lt is. absurd (omega (arith, lt));
        root = refl;
        rooted = λ m lt is. absurd (omega (arith, lt));
        fits = fit_none;
        small = λ m lt. absurd (omega (arith, lt));
        are_names = AreNames_nil;
        named = refl;
      };
      heaps = record {
        few_procs = omega arith;
        few_shared = omega arith;
        limited = λ p lt. absurd (omega (arith, lt));
        are_names = AreNames_nil;
        procs_named = refl;
        shared_named = refl;
      };
      operations = nothing_operated (with_kernel (with_version blank version) ceiling dir_fields) refl refl;
    };
    lines = refl;
  },
  record { names = refl; rows = refl },
  record { names = refl; limits = refl },
  record { names = refl; none = refl },
  record { each = refl; order = refl },
)

kernel_keeps : (c d : SoFar) (ws : List Text) (wss : List (List Text)) → Holds c.place c.said wss → KernelStep c ws d → Holds d.place d.said (wss ++ ws ∷ [])
kernel_keeps c d ws wss h s =
    let g : Holds Kernel c.said wss = rw s.at at h in
    rw (s.after, g.2, s.words) (kernel_said c.said c.said.trace.version s.ceiling s.dir_fields g.0 g.1 s.small s.few s.room)

-- the lines of the parts
abbrev front_of : NamedTrace → List (List Text)
front_of t = version_words t.trace.version ∷ kernel_words t.trace.ceiling t.trace.dir_fields ∷ declarations type_words t.names.types t.trace.types

type_said : (t : NamedTrace) (name : Text) (fields : List Field) (wss : List (List Text)) → Holds Types t wss → is_name name ≡ true → declares t.names.types name ≡ false → length fields ≤ 16
    → length t.names.types < 256 → Holds Types (with_type t name fields) (wss ++ type_words name fields ∷ [])
type_said t name fields wss h good fresh few room =
    let begun = h.0.begun in (
      record {
        begun = record {
          version = begun.version;
          kernel = begun.kernel;
          types = types_push t.names.types t.trace.types name fields begun.types good fresh few room;
          limits = begun.limits;
          heaps = begun.heaps;
          operations = nothing_operated (with_type t name fields) h.4.each h.4.order;
        };
        lines = rw (← h.0.lines, h.1.names, h.1.rows, h.2.names, h.2.limits, h.3.names, h.4.order, declarations_push type_words t.names.types t.trace.types name fields begun.types.named)
            (behind_types (front_of t) (type_words name fields));
      },
      record { names = h.1.names; rows = h.1.rows },
      record { names = h.2.names; limits = h.2.limits },
      record { names = h.3.names; none = h.3.none },
      record { each = h.4.each; order = h.4.order },
    )

type_keeps : (c d : SoFar) (ws : List Text) (wss : List (List Text)) → Holds c.place c.said wss → TypeStep c ws d → Holds d.place d.said (wss ++ ws ∷ [])
type_keeps c d ws wss h s = rw (s.after, s.words) (type_said c.said s.name s.fields wss (rw s.at at h) s.named s.fresh s.few_fields s.few)

no_rows_least : (rows : List LimitRow) → rows ≡ [] → length rows ≡ 0
no_rows_least rows e = ap length e

root_said : (t : NamedTrace) (name : Text) (max : ℕ) (wss : List (List Text)) → Holds Types t wss → is_name name ≡ true → declares t.names.limits name ≡ false → max < 2 ^ 40
    → length t.names.limits < 128 → Holds Limits (with_limit t name (root_row max)) (wss ++ limit_words t.names name (root_row max) ∷ [])
root_said t name max wss h good fresh small room =
    let begun = h.0.begun in (
      record {
        begun = record {
          version = begun.version;
          kernel = begun.kernel;
          types = begun.types;
          limits = limits_push t.names.limits t.trace.limits name (root_row max) begun.limits good fresh room small (λ parent is. absurd cc) (λ is. no_rows_least t.trace.limits h.1.rows)
              (rw h.1.rows refl) (rw h.1.rows (fit_root max));
          heaps = wider t (length (t.trace.limits ++ root_row max ∷ [])) begun.heaps (omega (arith, length_push t.trace.limits (root_row max)));
          operations = nothing_operated (with_limit t name (root_row max)) h.4.each h.4.order;
        };
        lines = rw (← h.0.lines, h.1.names, h.1.rows, h.2.names, h.2.limits, h.3.names, h.4.order) (behind_limits (front_of t) [] (limit_words t.names name (root_row max)));
      },
      omega (arith, length_push t.trace.limits (root_row max)),
      record { names = h.2.names; limits = h.2.limits },
      record { names = h.3.names; none = h.3.none },
      record { each = h.4.each; order = h.4.order },
    )

root_keeps : (c d : SoFar) (ws : List Text) (wss : List (List Text)) → Holds c.place c.said wss → RootStep c ws d → Holds d.place d.said (wss ++ ws ∷ [])
root_keeps c d ws wss h s = rw (s.after, s.words) (root_said c.said s.name s.max wss (rw s.at at h) s.named s.fresh s.small s.few)

-- a limit's words are the same with one more name behind those of its parents
same_words : (names : DeclaredNames) (n m : Text) (row : LimitRow) → ((p : LimitId) → row.parent ≡ Some p → p.0 < length names.limits)
    → limit_words (record names { limits = names.limits ++ n ∷ [] }) m row ≡ limit_words names m row
same_words names n m row known = go row.parent row.hard refl
  where
    go : (parent : Option LimitId) (hard : Bool) → row.parent ≡ parent
        → limit_words (record names { limits = names.limits ++ n ∷ [] }) m (record { parent = parent; hard = hard; max = row.max }) ≡ limit_words names m (record { parent = parent; hard = hard; max = row.max })
    go None hard e = refl
    go (Some p) true e = rw (word_before names.limits n p.0 (known p e)) refl
    go (Some p) false e = rw (word_before names.limits n p.0 (known p e)) refl

limit_lines : (t : NamedTrace) (name : Text) (row : LimitRow) → AreRows t.names.limits t.trace.limits → ((p : LimitId) → row.parent ≡ Some p → p.0 < length t.names.limits)
    → declarations (limit_words (record t.names { limits = t.names.limits ++ name ∷ [] })) (t.names.limits ++ name ∷ []) (t.trace.limits ++ row ∷ [])
    ≡ declarations (limit_words t.names) t.names.limits t.trace.limits ++ limit_words t.names name row ∷ []
limit_lines t name row rows known =
    declarations_push (limit_words (record t.names { limits = t.names.limits ++ name ∷ [] })) t.names.limits t.trace.limits name row rows.named
    ∙ rw (
      same_words t.names name name row known,
      declarations_same (limit_words (record t.names { limits = t.names.limits ++ name ∷ [] })) (limit_words t.names) t.names.limits t.trace.limits no_row
          (λ m i lt. same_words t.names name m (row_of t.trace.limits i) (λ p e. let h = rows.tree i p lt e in omega (arith, h, lt, rows.named))),
    ) refl

parent_is : (parent : ℕ) (n : ℕ) → parent < n → (p : LimitId) → (let o : Option LimitId = Some (record { 0 = parent }) in o) ≡ Some p → p.0 < n
parent_is parent n lt p e = let f : record { 0 = parent } ≡ p = cc in subst (λ (x : LimitId). x.0 < n) f lt

limit_said : (t : NamedTrace) (name : Text) (parent : ℕ) (hard : Bool) (max : ℕ) (wss : List (List Text)) → Holds Limits t wss → is_name name ≡ true → declares t.names.limits name ≡ false
    → max < 2 ^ 40 → parent < length t.names.limits → length t.names.limits < 128 → (not hard || fits t.trace.limits parent max) ≡ true
    → Holds Limits (with_limit t name (limit_row parent hard max)) (wss ++ limit_words t.names name (limit_row parent hard max) ∷ [])
limit_said t name parent hard max wss h good fresh small known room fit =
    let begun = h.0.begun in
    let added = limit_row parent hard max in
    let within : parent < length t.trace.limits = omega (arith, begun.limits.named, known) in (
      record {
        begun = record {
          version = begun.version;
          kernel = begun.kernel;
          types = begun.types;
          limits = limits_push t.names.limits t.trace.limits name added begun.limits good fresh room small (parent_is parent (length t.trace.limits) within) (λ is. absurd cc)
              (rw (row_before t.trace.limits added 0 h.1) begun.limits.root) (fit_limit t.trace.limits parent hard max (tree_push t.trace.limits added begun.limits.tree (parent_is parent (length t.trace.limits) within)) within begun.limits.fits fit);
          heaps = wider t (length (t.trace.limits ++ added ∷ [])) begun.heaps (omega (arith, length_push t.trace.limits added));
          operations = nothing_operated (with_limit t name added) h.4.each h.4.order;
        };
        lines = rw (← h.0.lines, h.2.names, h.2.limits, h.3.names, h.4.order, limit_lines t name added begun.limits (parent_is parent (length t.names.limits) known))
            (behind_limits (front_of t) (declarations (limit_words t.names) t.names.limits t.trace.limits) (limit_words t.names name added));
      },
      omega (arith, length_push t.trace.limits added),
      record { names = h.2.names; limits = h.2.limits },
      record { names = h.3.names; none = h.3.none },
      record { each = h.4.each; order = h.4.order },
    )

limit_keeps : (c d : SoFar) (ws : List Text) (wss : List (List Text)) → Holds c.place c.said wss → LimitStep c ws d → Holds d.place d.said (wss ++ ws ∷ [])
limit_keeps c d ws wss h s = rw (s.after, s.words) (limit_said c.said s.name s.parent s.hard s.max wss (rw s.at at h) s.named s.fresh s.small s.declared s.few s.room)

-- where a process may be declared
record BeforeShared (t : NamedTrace) (wss : List (List Text)) : Type 0 where
  pub said : IsSaid t wss
  pub root : 0 < length t.trace.limits
  pub shared : NoShared t
  pub operations : NoOperations t

proc_said : (t : NamedTrace) (name : Text) (limit : ℕ) (wss : List (List Text)) → BeforeShared t wss → is_name name ≡ true → declares t.names.procs name ≡ false
    → limit < length t.names.limits → length t.names.procs < 64 → Holds Procs (with_proc t name (record { 0 = limit })) (wss ++ proc_words t.names name (record { 0 = limit }) ∷ [])
proc_said t name limit wss h good fresh known room =
    let begun = h.said.begun in
    let id : LimitId = record { 0 = limit } in
    let within : limit < length t.trace.limits = omega (arith, begun.limits.named, known) in
    let each : t.trace.operations ++ [] ∷ [] ≡ none_each (t.trace.procs ++ id ∷ []) = ap (λ (o : List (List Op)). o ++ [] ∷ []) h.operations.each ∙ none_more t.trace.procs id in (
      record {
        begun = record {
          version = begun.version;
          kernel = begun.kernel;
          types = begun.types;
          limits = begun.limits;
          heaps = procs_push t.names.procs t.names.shared t.trace.procs t.trace.shared_heaps (length t.trace.limits) name id h.shared.names begun.heaps good fresh room within;
          operations = nothing_operated (with_proc t name id) each h.operations.order;
        };
        lines = rw (← h.said.lines, h.shared.names, h.operations.order, declarations_push (proc_words t.names) t.names.procs t.trace.procs name id begun.heaps.procs_named)
            (behind_procs (front_of t) (declarations (limit_words t.names) t.names.limits t.trace.limits) (declarations (proc_words t.names) t.names.procs t.trace.procs) (proc_words t.names name id));
      },
      h.root,
      omega (arith, length_push t.trace.procs id),
      record { names = h.shared.names; none = h.shared.none },
      record { each = each; order = h.operations.order },
    )

before_shared : (c : SoFar) (wss : List (List Text)) → Holds c.place c.said wss → (c.place ≡ Limits) ⊎ (c.place ≡ Procs) → BeforeShared c.said wss
before_shared c wss h (inl at) = let g : Holds Limits c.said wss = rw at at h in record { said = g.0; root = g.1; shared = g.3; operations = g.4 }
before_shared c wss h (inr at) = let g : Holds Procs c.said wss = rw at at h in record { said = g.0; root = g.1; shared = g.3; operations = g.4 }

proc_keeps : (c d : SoFar) (ws : List Text) (wss : List (List Text)) → Holds c.place c.said wss → ProcStep c ws d → Holds d.place d.said (wss ++ ws ∷ [])
proc_keeps c d ws wss h s = rw (s.after, s.words) (proc_said c.said s.name s.limit wss (before_shared c wss h s.at) s.named s.fresh s.declared s.few)

-- where a shared heap may be declared
record BeforeOperations (t : NamedTrace) (wss : List (List Text)) : Type 0 where
  pub said : IsSaid t wss
  pub root : 0 < length t.trace.limits
  pub process : 0 < length t.trace.procs
  pub operations : NoOperations t

shared_said : (t : NamedTrace) (name : Text) (wss : List (List Text)) → BeforeOperations t wss → is_name name ≡ true → declares t.names.procs name ≡ false → declares t.names.shared name ≡ false
    → length t.names.shared < 64 → Holds Shared (with_shared t name) (wss ++ shared_words name ∷ [])
shared_said t name wss h good fresh fresh_shared room =
    let begun = h.said.begun in (
      record {
        begun = record {
          version = begun.version;
          kernel = begun.kernel;
          types = begun.types;
          limits = begun.limits;
          heaps = shared_push t.names.procs t.names.shared t.trace.procs t.trace.shared_heaps (length t.trace.limits) name begun.heaps good fresh fresh_shared room;
          operations = nothing_operated (with_shared t name) h.operations.each h.operations.order;
        };
        lines = rw (← h.said.lines, h.operations.order, map-append shared_words t.names.shared (name ∷ []))
            (behind_shared (front_of t) (declarations (limit_words t.names) t.names.limits t.trace.limits) (declarations (proc_words t.names) t.names.procs t.trace.procs)
            (map shared_words t.names.shared) (shared_words name));
      },
      h.root,
      h.process,
      record { each = h.operations.each; order = h.operations.order },
    )

before_operations : (c : SoFar) (wss : List (List Text)) → Holds c.place c.said wss → (c.place ≡ Procs) ⊎ (c.place ≡ Shared) → BeforeOperations c.said wss
before_operations c wss h (inl at) = let g : Holds Procs c.said wss = rw at at h in record { said = g.0; root = g.1; process = g.2; operations = g.4 }
before_operations c wss h (inr at) = let g : Holds Shared c.said wss = rw at at h in record { said = g.0; root = g.1; process = g.2; operations = g.3 }

shared_keeps : (c d : SoFar) (ws : List Text) (wss : List (List Text)) → Holds c.place c.said wss → SharedStep c ws d → Holds d.place d.said (wss ++ ws ∷ [])
shared_keeps c d ws wss h s = rw (s.after, s.words) (shared_said c.said s.name wss (before_operations c wss h s.at) s.named s.fresh s.fresh_shared s.few)

-- what was said where there is a process
pub record IsLate (t : NamedTrace) (wss : List (List Text)) : Type 0 where
  pub said : IsSaid t wss
  pub root : 0 < length t.trace.limits
  pub process : 0 < length t.trace.procs

late_in : (p : Place) (t : NamedTrace) (wss : List (List Text)) → has_process p ≡ true → Holds p t wss → IsLate t wss
late_in Version t wss at h = absurd cc
late_in Kernel t wss at h = absurd cc
late_in Types t wss at h = absurd cc
late_in Limits t wss at h = absurd cc
late_in Procs t wss at h = record { said = h.0; root = h.1; process = h.2 }
late_in Shared t wss at h = record { said = h.0; root = h.1; process = h.2 }
late_in Operations t wss at h = record { said = h.0; root = h.1; process = h.2 }

-- what holds once there is a process
pub late : (c : SoFar) (wss : List (List Text)) → has_process c.place ≡ true → Holds c.place c.said wss → IsLate c.said wss
late c wss at h = late_in c.place c.said wss at h

operation_said : (t : NamedTrace) (p : ℕ) (op : Op) (wss : List (List Text)) → IsLate t wss → p < length t.names.procs → in_range t.trace op ≡ true → is_spelled op ≡ true
    → is_of_version t.trace.version op ≡ true → length t.trace.order < 200000 → has_exit (operations_of t.trace p) ≡ false → Holds Operations (with_op t p op) (wss ++ line_words t.names p op ∷ [])
operation_said t p op wss h known ranged fit has room none =
    let begun = h.said.begun in
    let within : p < length t.trace.procs = omega (arith, begun.heaps.procs_named, known) in
    let listed : p < length t.trace.operations = omega (arith, begun.operations.each, within) in
    let counted = begun.operations.counted p within in (
      record {
        begun = record {
          version = begun.version;
          kernel = begun.kernel;
          types = begun.types;
          limits = begun.limits;
          heaps = begun.heaps;
          operations = operation_kept t.trace (with_op t p op).trace p op begun.operations within ranged fit has room none (record { types = refl; shared = refl; procs = refl; limits = refl; version = refl }) refl refl;
        };
        lines = rw (← h.said.lines, lines_push t.names p op t.trace.order (operations_of t.trace) (operations_of (with_op t p op).trace) (op_added t.trace.operations p op listed) counted)
            (behind_all (front_of t) (declarations (limit_words t.names) t.names.limits t.trace.limits) (declarations (proc_words t.names) t.names.procs t.trace.procs)
            (map shared_words t.names.shared) (operation_lines t.names (operations_of t.trace) t.trace.order) (line_words t.names p op));
      },
      h.root,
      h.process,
    )

operation_keeps : (c d : SoFar) (ws : List Text) (wss : List (List Text)) → Holds c.place c.said wss → OperationStep c ws d → Holds d.place d.said (wss ++ ws ∷ [])
operation_keeps c d ws wss h s =
    rw (s.after, s.words) (operation_said c.said s.process s.op wss (late c wss s.at h) s.declared s.ranged s.spelled s.of_version s.few s.lives)

-- a step keeps what holds, with its line behind the others
pub step_keeps : (c d : SoFar) (ws : List Text) (wss : List (List Text)) → Holds c.place c.said wss → Step c ws d → Holds d.place d.said (wss ++ ws ∷ [])
step_keeps c d ws wss h (OfVersion s) = version_keeps c d ws wss h s
step_keeps c d ws wss h (OfKernel s) = kernel_keeps c d ws wss h s
step_keeps c d ws wss h (OfType s) = type_keeps c d ws wss h s
step_keeps c d ws wss h (OfRoot s) = root_keeps c d ws wss h s
step_keeps c d ws wss h (OfLimit s) = limit_keeps c d ws wss h s
step_keeps c d ws wss h (OfProc s) = proc_keeps c d ws wss h s
step_keeps c d ws wss h (OfShared s) = shared_keeps c d ws wss h s
step_keeps c d ws wss h (OfOperation s) = operation_keeps c d ws wss h s
