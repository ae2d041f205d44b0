-- A step is a line that is judged good.
use Rattle.std.proofs.Common.{◌≡◌, ◌∙◌, ◌⊎◌, ℕ, zero, suc, ◌<◌, ◌≤◌, ◌^◌, Bool, true, false, not, ◌&&◌, ◌||◌, leb, List, [], ◌∷◌, length, map, get_or, Ok, refl, arith, codes, decimal, inl, inr}
use Rattle.std.proofs.lemmas.Bool.{lt-ltb, le-leb}
use Rattle.std.proofs.lemmas.List.{length-map}
use Rattle.std.specs.Fmt.{digits}
use Rattle.std.specs.List.{list_all}
use Rattle.std.specs.Str.{bytes_eq}
use Rattle.k_limits.specs.k_types.declared.names.Field.{Field}
use Rattle.k_limits.specs.k_types.declared.names.Field.TheVariants.{Ref, Int}
use Rattle.k_limits.specs.k_types.TraceRules.{IsBuilt}
use Rattle.k_words.specs.Words.{Text, word_at}
use Rattle.k_words.specs.Names.{is_name, is_letter, is_name_byte, is_keyword, is_section, is_report_word, is_reserved}
use Rattle.k_words.proofs.Spelled.{both}
use Rattle.k_words.proofs.Again.{AreApart, number_of-at, declares-at, value-decimal, is_below-decimal}
use Rattle.k_trace.specs.declared.place.Place.{Place}
use Rattle.k_trace.specs.declared.place.Place.TheVariants.{Version, Kernel, Types, Limits, Procs, Shared, Operations}
use Rattle.k_trace.specs.Named.{NamedTrace}
use Rattle.k_trace.specs.Spelling.{field_word}
use Rattle.k_trace.specs.Demands.{demands}
use Rattle.k_trace.specs.Judgement.{SoFar, is_version, version_of, version_line, kernel_line, is_field, field_of, type_line, root_line, limit_line, proc_line, shared_line, process_line, operation_line, later_line, line_of_types, line_of_limits, line_of_procs, line_in, has_process}
use Rattle.k_reader.proofs.OpForms.{AreNamed}
use Rattle.k_reader.proofs.OpAgain.{AreDistinct, op_in_again}
use Rattle.k_reader.proofs.Found.{not_true, hardness, limit_words_are}
use Rattle.k_reader.proofs.Steps.{VersionStep, KernelStep, TypeStep, RootStep, LimitStep, ProcStep, SharedStep, OperationStep, Step, OfVersion, OfKernel, OfType, OfRoot, OfLimit, OfProc, OfShared, OfOperation}

-- the names are names, and apart
pub record IsOrderly (t : NamedTrace) : Type 0 where
  pub named : AreNamed t
  pub distinct : AreDistinct t
  pub limits : AreApart t.names.limits
  pub procs : AreApart t.names.procs
  pub each : (p : ℕ) → p < length t.names.procs → is_name (word_at t.names.procs p) ≡ true

-- neither holds
pub nor : (a b : Bool) → (a || b) ≡ false → (a ≡ false) × (b ≡ false)
nor true b e = absurd cc
nor false b e = (refl, e)

not_reserved : (w : Text) → is_reserved w ≡ false → is_keyword w ≡ false
unfolding is_reserved
not_reserved w h = (nor (is_keyword w) (is_section w) (nor (is_keyword w || is_section w) (is_report_word w) h).0).0

-- a name is no keyword
pub no_keyword : (w : Text) → is_name w ≡ true → is_keyword w ≡ false
no_keyword w h = not_reserved w (not_true (is_reserved w) (both (is_letter (get_or w 0 0) && list_all is_name_byte w && leb (length w) 32) (not (is_reserved w)) h).1)

pub no_such_keyword : (w : Text) → is_keyword w ≡ false → (bytes_eq w (codes "proc") ≡ false) × (bytes_eq w (codes "shared") ≡ false)
no_such_keyword w h =
    let a = nor (bytes_eq w (codes "kaffe")) _ h in
    let b = nor (bytes_eq w (codes "kernel")) _ a.1 in
    let g = nor (bytes_eq w (codes "type")) _ b.1 in
    let i = nor (bytes_eq w (codes "limit")) _ g.1 in
    let j = nor (bytes_eq w (codes "proc")) _ i.1 in
    let k = nor (bytes_eq w (codes "shared")) _ j.1 in
    (j.0, k.0)

field_word_is : (f : Field) → (is_field (field_word f) ≡ true) × (field_of (field_word f) ≡ f)
field_word_is Ref = (refl, refl)
field_word_is Int = (refl, refl)

field_words_are : (fs : List Field) → list_all is_field (map field_word fs) ≡ true
field_words_are [] = refl
field_words_are (f ∷ fs) = rw ((field_word_is f).0, field_words_are fs) refl

field_words_of : (fs : List Field) → map field_of (map field_word fs) ≡ fs
field_words_of [] = refl
field_words_of (f ∷ fs) = rw ((field_word_is f).1, field_words_of fs) refl

pub one_or_two : (version : ℕ) → IsBuilt version → (version ≡ 1) ⊎ (version ≡ 2)
one_or_two zero built = absurd (omega (arith, built.0))
one_or_two (suc zero) built = inl refl
one_or_two (suc (suc zero)) built = inr refl
one_or_two (suc (suc (suc n))) built = absurd (omega (arith, built.1))

version_is : (version : ℕ) → (version ≡ 1) ⊎ (version ≡ 2) → (is_version (decimal version) ≡ true) × (version_of (decimal version) ≡ version)
unfolding digits
version_is version (inl one) = rw one (refl, refl)
version_is version (inr two) = rw two (refl, refl)

version_again : (c d : SoFar) (ws : List Text) → VersionStep c ws d → line_in c.place c.said ws ≡ Ok d
unfolding line_in version_line demands
version_again c d ws s =
    let version = version_is s.version (one_or_two s.version s.built) in
    rw (s.at, s.words, s.after, version.0, version.1) refl

kernel_again : (c d : SoFar) (ws : List Text) → KernelStep c ws d → line_in c.place c.said ws ≡ Ok d
unfolding line_in kernel_line demands
kernel_again c d ws s =
    let small : s.ceiling < 2 ^ 64 = omega (arith, s.small) in
    let few : s.dir_fields < 2 ^ 64 = omega (arith, s.few) in
    rw (
      s.at,
      s.words,
      s.after,
      is_below-decimal s.ceiling (2 ^ 40) s.small (omega arith),
      is_below-decimal s.dir_fields 17 s.few (omega arith),
      value-decimal s.ceiling small,
      value-decimal s.dir_fields few,
      le-leb _ _ s.room,
    ) refl

type_again : (c d : SoFar) (ws : List Text) → TypeStep c ws d → line_in c.place c.said ws ≡ Ok d
unfolding line_in line_of_types type_line demands
type_again c d ws s =
    let most : length (map field_word s.fields) ≤ 16 = rw (length-map s.fields field_word) s.few_fields in
    rw (
      s.at,
      s.words,
      s.after,
      le-leb 2 (suc (suc (length (map field_word s.fields)))) (omega arith),
      field_words_are s.fields,
      s.named,
      s.fresh,
      le-leb (suc (suc (length (map field_word s.fields)))) 18 (omega arith),
      lt-ltb _ 256 s.few,
      field_words_of s.fields,
    ) refl

root_again : (c d : SoFar) (ws : List Text) → RootStep c ws d → line_in c.place c.said ws ≡ Ok d
unfolding line_in line_of_types root_line demands
root_again c d ws s =
    rw (s.at, s.words, s.after, is_below-decimal s.max (2 ^ 40) s.small (omega arith), s.named, s.fresh, lt-ltb _ 128 s.few, value-decimal s.max (omega (arith, s.small))) refl

hardness_again : (hard : Bool) → (bytes_eq (hardness hard) (codes "hard") ≡ hard) × ((hard || bytes_eq (hardness hard) (codes "soft")) ≡ true)
hardness_again true = (refl, refl)
hardness_again false = (refl, refl)

limit_again : (c d : SoFar) (ws : List Text) → IsOrderly c.said → LimitStep c ws d → line_in c.place c.said ws ≡ Ok d
unfolding line_in line_of_limits limit_line demands
limit_again c d ws o s =
    let words : ws ≡ codes "limit" ∷ s.name ∷ word_at c.said.names.limits s.parent ∷ hardness s.hard ∷ decimal s.max ∷ [] = s.words ∙ limit_words_are c.said s.name s.parent s.hard s.max in
    rw (
      s.at,
      words,
      s.after,
      (hardness_again s.hard).0,
      (hardness_again s.hard).1,
      is_below-decimal s.max (2 ^ 40) s.small (omega arith),
      s.named,
      s.fresh,
      declares-at c.said.names.limits s.parent s.declared,
      lt-ltb _ 128 s.few,
      number_of-at c.said.names.limits s.parent o.limits s.declared,
      value-decimal s.max (omega (arith, s.small)),
      s.room,
    ) refl

proc_line_again : (c d : SoFar) (ws : List Text) → IsOrderly c.said → ProcStep c ws d → (bytes_eq (word_at ws 0) (codes "proc") ≡ true) × (bytes_eq (word_at ws 0) (codes "limit") ≡ false) × (proc_line c.said ws ≡ Ok d)
unfolding proc_line demands
proc_line_again c d ws o s = (
  rw s.words refl,
  rw s.words refl,
  rw (
    s.words,
    s.after,
    s.named,
    s.fresh,
    declares-at c.said.names.limits s.limit s.declared,
    lt-ltb _ 64 s.few,
    number_of-at c.said.names.limits s.limit o.limits s.declared,
  ) refl,
)

proc_again : (c d : SoFar) (ws : List Text) → (c.place ≡ Limits) ⊎ (c.place ≡ Procs) → (bytes_eq (word_at ws 0) (codes "proc") ≡ true) × (bytes_eq (word_at ws 0) (codes "limit") ≡ false) × (proc_line c.said ws ≡ Ok d)
    → line_in c.place c.said ws ≡ Ok d
unfolding line_in line_of_limits line_of_procs
proc_again c d ws (inl at) h = rw (at, h.1, h.0) h.2
proc_again c d ws (inr at) h = rw (at, h.0) h.2

shared_line_again : (c d : SoFar) (ws : List Text) → SharedStep c ws d → (bytes_eq (word_at ws 0) (codes "shared") ≡ true) × (bytes_eq (word_at ws 0) (codes "proc") ≡ false) × (shared_line c.said ws ≡ Ok d)
unfolding shared_line demands
shared_line_again c d ws s = (rw s.words refl, rw s.words refl, rw (s.words, s.after, s.named, s.fresh, s.fresh_shared, lt-ltb _ 64 s.few) refl)

shared_again : (c d : SoFar) (ws : List Text) → (c.place ≡ Procs) ⊎ (c.place ≡ Shared) → (bytes_eq (word_at ws 0) (codes "shared") ≡ true) × (bytes_eq (word_at ws 0) (codes "proc") ≡ false) × (shared_line c.said ws ≡ Ok d)
    → line_in c.place c.said ws ≡ Ok d
unfolding line_in line_of_procs later_line
shared_again c d ws (inl at) h = rw (at, h.1, h.0) h.2
shared_again c d ws (inr at) h = rw (at, h.0) h.2

operation_line_again : (c d : SoFar) (ws : List Text) → IsOrderly c.said → OperationStep c ws d → (is_keyword (word_at ws 0) ≡ false) × (operation_line c.said ws ≡ Ok d)
unfolding operation_line process_line demands
operation_line_again c d ws o s = (
  rw s.words (no_keyword (word_at c.said.names.procs s.process) (o.each s.process s.declared)),
  rw (
    s.words,
    s.after,
    op_in_again c.said s.op o.named o.distinct s.ranged s.spelled s.of_version,
    declares-at c.said.names.procs s.process s.declared,
    lt-ltb _ 200000 s.few,
    number_of-at c.said.names.procs s.process o.procs s.declared,
    s.lives,
  ) refl,
)

operation_again : (p : Place) (c d : SoFar) (ws : List Text) → c.place ≡ p → has_process p ≡ true → (is_keyword (word_at ws 0) ≡ false) × (operation_line c.said ws ≡ Ok d) → line_in p c.said ws ≡ Ok d
unfolding line_in line_of_procs later_line
operation_again Version c d ws at late h = absurd cc
operation_again Kernel c d ws at late h = absurd cc
operation_again Types c d ws at late h = absurd cc
operation_again Limits c d ws at late h = absurd cc
operation_again Procs c d ws at late h = let n = no_such_keyword (word_at ws 0) h.0 in rw (h.0, n.0, n.1) h.1
operation_again Shared c d ws at late h = let n = no_such_keyword (word_at ws 0) h.0 in rw (h.0, n.1) h.1
operation_again Operations c d ws at late h = h.1

-- a step is a line that is judged good
pub step_again : (c d : SoFar) (ws : List Text) → IsOrderly c.said → Step c ws d → line_in c.place c.said ws ≡ Ok d
step_again c d ws o (OfVersion s) = version_again c d ws s
step_again c d ws o (OfKernel s) = kernel_again c d ws s
step_again c d ws o (OfType s) = type_again c d ws s
step_again c d ws o (OfRoot s) = root_again c d ws s
step_again c d ws o (OfLimit s) = limit_again c d ws o s
step_again c d ws o (OfProc s) = proc_again c d ws s.at (proc_line_again c d ws o s)
step_again c d ws o (OfShared s) = shared_again c d ws s.at (shared_line_again c d ws s)
step_again c d ws o (OfOperation s) = operation_again c.place c d ws refl s.at (operation_line_again c d ws o s)
