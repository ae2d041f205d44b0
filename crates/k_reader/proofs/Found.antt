-- A line that is judged good is a step.
use Rattle.std.proofs.Common.{◌≡◌, ◌∙◌, ◌⊎◌, ℕ, ◌≤◌, ◌^◌, Bool, true, false, cond, not, ◌||◌, eqb, ltb, leb, List, [], ◌∷◌, length, map, drop, Result, Ok, Err, refl, sym, ap, arith, codes, decimal, inl, inr}
use Rattle.std.proofs.lemmas.Bool.{ltb-true, eqb-true, leb-true}
use Rattle.std.proofs.lemmas.List.{length-map, length-drop}
use Rattle.std.specs.Fmt.{digits}
use Rattle.std.specs.List.{list_all}
use Rattle.std.specs.Str.{bytes_eq}
use Rattle.k_limits.specs.k_types.declared.op.Op.{Op}
use Rattle.k_limits.specs.k_types.TraceRules.{IsBuilt}
use Rattle.k_words.specs.Words.{Text, word_at}
use Rattle.k_words.specs.Numbers.{is_below, value}
use Rattle.k_words.specs.Names.{is_keyword, declares, number_of}
use Rattle.k_words.proofs.Spelled.{both, same, name_at, number_word}
use Rattle.k_trace.specs.declared.place.Place.{Place}
use Rattle.k_trace.specs.declared.place.Place.TheVariants.{Version, Kernel, Types, Limits, Procs, Shared, Operations}
use Rattle.k_trace.specs.Named.{NamedTrace}
use Rattle.k_trace.specs.Spelling.{field_word, limit_words}
use Rattle.k_trace.specs.Forms.{op_of, register_op, bare_op, sharing_op, governing_op, has_operation, op_in}
use Rattle.k_trace.specs.Demands.{demands}
use Rattle.k_trace.specs.Grown.{with_version, with_kernel, with_type, with_limit, with_proc, with_shared, with_op}
use Rattle.k_trace.specs.Judgement.{SoFar, Judged, begins, is_version, version_of, version_line, kernel_line, is_field, field_of, type_line, root_line, limit_line, limit_of_name, proc_line, shared_line, process_line, process_line_of, operation_line, later_line, line_of_types, line_of_limits, line_of_procs, line_in, has_process}
use Rattle.k_trace.proofs.Pushed.{number_below}
use Rattle.k_reader.proofs.Readers.{demands_ok, ok_is}
use Rattle.k_reader.proofs.OpAgain.{has_own_operation}
use Rattle.k_reader.proofs.OpForms.{two, three, five, AreNamed, op_found}
use Rattle.k_reader.proofs.Steps.{at_place, root_row, limit_row, Step, OfVersion, OfKernel, OfType, OfRoot, OfLimit, OfProc, OfShared, OfOperation}
use Rattle.k_trace.specs.declared.reasons.Reason.{Reason}
use Rattle.k_trace.specs.declared.reasons.Reason.TheVariants.{NoForm}
use Rattle.k_limits.proofs.Tests.{neither}

pub not_true : (b : Bool) → not b ≡ true → b ≡ false
not_true true e = absurd cc
not_true false e = refl

abbrev has_first : List Text → Text → Type 0
has_first ws keyword = bytes_eq (word_at ws 0) keyword ≡ true

first_is : (ws : List Text) (keyword : Text) → has_first ws keyword → word_at ws 0 ≡ keyword
first_is ws keyword h = same (word_at ws 0) keyword h

version_is : (w : Text) (t : Bool) → bytes_eq w (codes "1") ≡ t → (t || bytes_eq w (codes "2")) ≡ true → decimal (cond t 1 2) ≡ w
unfolding digits
version_is w true e h = sym (same w (codes "1") e)
version_is w false e h = sym (same w (codes "2") h)

built : (t : Bool) → IsBuilt (cond t 1 2)
built true = (omega arith, omega arith)
built false = (omega arith, omega arith)

version_found : (c d : SoFar) (ws : List Text) → c.place ≡ Version → version_line c.said ws ≡ Ok d → Step c ws d
unfolding version_line
version_found c d ws at e =
    let a = demands_ok _ _ _ d e in
    let p = both (begins ws 2 (codes "kaffe")) (is_version (word_at ws 1)) a.0 in
    let q = both (eqb (length ws) 2) (bytes_eq (word_at ws 0) (codes "kaffe")) p.0 in
    let word : decimal (version_of (word_at ws 1)) ≡ word_at ws 1 = version_is (word_at ws 1) (bytes_eq (word_at ws 1) (codes "1")) refl p.1 in
    OfVersion (record {
      version = version_of (word_at ws 1);
      at = at;
      built = built (bytes_eq (word_at ws 1) (codes "1"));
      words = rw (word, ← first_is ws (codes "kaffe") q.1) (two ws (eqb-true _ _ q.0));
      after = sym (ok_is (at_place Kernel (with_version c.said (version_of (word_at ws 1)))) d a.1);
    })

kernel_found : (c d : SoFar) (ws : List Text) → c.place ≡ Kernel → kernel_line c.said ws ≡ Ok d → Step c ws d
unfolding kernel_line
kernel_found c d ws at e =
    let a = demands_ok _ _ _ d e in
    let b = demands_ok _ _ _ d a.1 in
    let g = demands_ok _ _ _ d b.1 in
    let q = both (eqb (length ws) 3) (bytes_eq (word_at ws 0) (codes "kernel")) a.0 in
    let n = both (is_below (2 ^ 40) (word_at ws 1)) (is_below 17 (word_at ws 2)) b.0 in
    let ceiling = number_word (2 ^ 40) (word_at ws 1) (omega arith) n.0 in
    let few = number_word 17 (word_at ws 2) (omega arith) n.1 in
    OfKernel (record {
      ceiling = value (word_at ws 1);
      dir_fields = value (word_at ws 2);
      at = at;
      small = ceiling.1;
      few = few.1;
      room = leb-true _ _ g.0;
      words = rw (ceiling.0, few.0, ← first_is ws (codes "kernel") q.1) (three ws (eqb-true _ _ q.0));
      after = sym (ok_is (at_place Types (with_kernel c.said (value (word_at ws 1)) (value (word_at ws 2)))) d g.1);
    })

field_again : (w : Text) (t : Bool) → bytes_eq w (codes "ref") ≡ t → is_field w ≡ true → field_word (field_of w) ≡ w
field_again w true e h = rw e (sym (same w (codes "ref") e))
field_again w false e h = rw e (sym (same w (codes "int") (rw e at h)))

fields_again : (ws : List Text) → list_all is_field ws ≡ true → map field_word (map field_of ws) ≡ ws
fields_again [] h = refl
fields_again (w ∷ ws) h =
    let p = both (is_field w) (list_all is_field ws) h in
    rw (field_again w (bytes_eq w (codes "ref")) refl p.0, fields_again ws p.1) refl

two_up : (ws : List Text) → 2 ≤ length ws → ws ≡ word_at ws 0 ∷ word_at ws 1 ∷ drop 2 ws
two_up [] le = absurd (omega arith)
two_up (a ∷ []) le = absurd (omega arith)
two_up (a ∷ b ∷ ws) le = refl

type_found : (c d : SoFar) (ws : List Text) → c.place ≡ Types → has_first ws (codes "type") → type_line c.said ws ≡ Ok d → Step c ws d
unfolding type_line
type_found c d ws at first e =
    let a = demands_ok _ _ _ d e in
    let b = demands_ok _ _ _ d a.1 in
    let g = demands_ok _ _ _ d b.1 in
    let h = demands_ok _ _ _ d g.1 in
    let p = both (leb 2 (length ws)) (list_all is_field (drop 2 ws)) a.0 in
    let q = both (leb (length ws) 18) (ltb (length c.said.names.types) 256) h.0 in
    let most : length ws ≤ 18 = leb-true _ _ q.0 in
    OfType (record {
      name = word_at ws 1;
      fields = map field_of (drop 2 ws);
      at = at;
      named = b.0;
      fresh = not_true _ g.0;
      few_fields = rw (length-map (drop 2 ws) field_of, length-drop 2 ws) (omega arith);
      few = ltb-true _ _ q.1;
      words = rw (fields_again (drop 2 ws) p.1, ← first_is ws (codes "type") first) (two_up ws (leb-true _ _ p.0));
      after = sym (ok_is (at_place Types (with_type c.said (word_at ws 1) (map field_of (drop 2 ws)))) d h.1);
    })

root_found : (c d : SoFar) (ws : List Text) → c.place ≡ Types → has_first ws (codes "limit") → root_line c.said ws ≡ Ok d → Step c ws d
unfolding root_line
root_found c d ws at first e =
    let a = demands_ok _ _ _ d e in
    let b = demands_ok _ _ _ d a.1 in
    let g = demands_ok _ _ _ d b.1 in
    let h = demands_ok _ _ _ d g.1 in
    let i = demands_ok _ _ _ d h.1 in
    let max = number_word (2 ^ 40) (word_at ws 2) (omega arith) b.0 in
    OfRoot (record {
      name = word_at ws 1;
      max = value (word_at ws 2);
      at = at;
      named = g.0;
      fresh = not_true _ h.0;
      small = max.1;
      few = ltb-true _ _ i.0;
      words = rw (max.0, ← first_is ws (codes "limit") first) (three ws (eqb-true _ _ a.0));
      after = sym (ok_is (at_place Limits (with_limit c.said (word_at ws 1) (root_row (value (word_at ws 2))))) d i.1);
    })

-- the word that says whether a limit is hard
abbrev pub hardness : Bool → Text
hardness true = codes "hard"
hardness false = codes "soft"

hardness_is : (w : Text) (t : Bool) → bytes_eq w (codes "hard") ≡ t → (t || bytes_eq w (codes "soft")) ≡ true → hardness t ≡ w
hardness_is w true e h = sym (same w (codes "hard") e)
hardness_is w false e h = sym (same w (codes "soft") h)

pub limit_words_are : (t : NamedTrace) (name : Text) (parent : ℕ) (hard : Bool) (max : ℕ)
    → limit_words t.names name (limit_row parent hard max) ≡ codes "limit" ∷ name ∷ word_at t.names.limits parent ∷ hardness hard ∷ decimal max ∷ []
limit_words_are t name parent true max = refl
limit_words_are t name parent false max = refl

limit_found : (c d : SoFar) (ws : List Text) → c.place ≡ Limits → has_first ws (codes "limit") → limit_line c.said ws ≡ Ok d → Step c ws d
unfolding limit_line
limit_found c d ws at first e =
    let hard = bytes_eq (word_at ws 3) (codes "hard") in
    let parent = number_of c.said.names.limits (word_at ws 2) in
    let a = demands_ok _ _ _ d e in
    let b = demands_ok _ _ _ d a.1 in
    let g = demands_ok _ _ _ d b.1 in
    let h = demands_ok _ _ _ d g.1 in
    let i = demands_ok _ _ _ d h.1 in
    let j = demands_ok _ _ _ d i.1 in
    let k = demands_ok _ _ _ d j.1 in
    let p = both (eqb (length ws) 5) (hard || bytes_eq (word_at ws 3) (codes "soft")) a.0 in
    let max = number_word (2 ^ 40) (word_at ws 4) (omega arith) b.0 in
    OfLimit (record {
      name = word_at ws 1;
      parent = parent;
      hard = hard;
      max = value (word_at ws 4);
      at = at;
      named = g.0;
      fresh = not_true _ h.0;
      small = max.1;
      declared = number_below c.said.names.limits (word_at ws 2) i.0;
      few = ltb-true _ _ j.0;
      room = k.0;
      words = five ws (eqb-true _ _ p.0) ∙ sym (limit_words_are c.said (word_at ws 1) parent hard (value (word_at ws 4))
          ∙ rw (max.0, name_at c.said.names.limits (word_at ws 2) i.0, hardness_is (word_at ws 3) hard refl p.1, ← first_is ws (codes "limit") first) refl);
      after = sym (ok_is (at_place Limits (with_limit c.said (word_at ws 1) (limit_row parent hard (value (word_at ws 4))))) d k.1);
    })

proc_found : (c d : SoFar) (ws : List Text) → (c.place ≡ Limits) ⊎ (c.place ≡ Procs) → has_first ws (codes "proc") → proc_line c.said ws ≡ Ok d → Step c ws d
unfolding proc_line
proc_found c d ws at first e =
    let a = demands_ok _ _ _ d e in
    let b = demands_ok _ _ _ d a.1 in
    let g = demands_ok _ _ _ d b.1 in
    let h = demands_ok _ _ _ d g.1 in
    let i = demands_ok _ _ _ d h.1 in
    OfProc (record {
      name = word_at ws 1;
      limit = number_of c.said.names.limits (word_at ws 2);
      at = at;
      named = b.0;
      fresh = not_true _ g.0;
      declared = number_below c.said.names.limits (word_at ws 2) h.0;
      few = ltb-true _ _ i.0;
      words = rw (name_at c.said.names.limits (word_at ws 2) h.0, ← first_is ws (codes "proc") first) (three ws (eqb-true _ _ a.0));
      after = sym (ok_is (at_place Procs (with_proc c.said (word_at ws 1) (limit_of_name c.said (word_at ws 2)))) d i.1);
    })

shared_found : (c d : SoFar) (ws : List Text) → (c.place ≡ Procs) ⊎ (c.place ≡ Shared) → has_first ws (codes "shared") → shared_line c.said ws ≡ Ok d → Step c ws d
unfolding shared_line
shared_found c d ws at first e =
    let a = demands_ok _ _ _ d e in
    let b = demands_ok _ _ _ d a.1 in
    let g = demands_ok _ _ _ d b.1 in
    let h = demands_ok _ _ _ d g.1 in
    let n = neither (declares c.said.names.procs (word_at ws 1)) (declares c.said.names.shared (word_at ws 1)) g.0 in
    OfShared (record {
      name = word_at ws 1;
      at = at;
      named = b.0;
      fresh = n.0;
      fresh_shared = n.1;
      few = ltb-true _ _ h.0;
      words = rw (← first_is ws (codes "shared") first) (two ws (eqb-true _ _ a.0));
      after = sym (ok_is (at_place Shared (with_shared c.said (word_at ws 1))) d h.1);
    })

-- there is a word at least
no_words : (t : NamedTrace) (op : Op) → op_in t.trace.version t.names [] ≡ Ok op → ⊥
unfolding op_in op_of register_op bare_op sharing_op governing_op demands
no_words t op e = absurd cc

one_up : (ws : List Text) (t : NamedTrace) (op : Op) → op_in t.trace.version t.names (drop 1 ws) ≡ Ok op → ws ≡ word_at ws 0 ∷ drop 1 ws
one_up [] t op e = absurd (no_words t op e)
one_up (w ∷ ws) t op e = refl

process_found : (c d : SoFar) (ws : List Text) (op : Op) → AreNamed c.said → has_process c.place ≡ true → op_in c.said.trace.version c.said.names (drop 1 ws) ≡ Ok op
    → process_line c.said (word_at ws 0) op ≡ Ok d → Step c ws d
unfolding process_line op_in
process_found c d ws op named at read e =
    let version = c.said.trace.version in
    let has = demands_ok NoForm (has_operation version (drop 1 ws)) (op_of c.said.names (drop 1 ws)) op read in
    let found = op_found c.said (drop 1 ws) named op has.1 in
    let p = number_of c.said.names.procs (word_at ws 0) in
    let a = demands_ok _ _ _ d e in
    let b = demands_ok _ _ _ d a.1 in
    let g = demands_ok _ _ _ d b.1 in
    OfOperation (record {
      process = p;
      op = op;
      at = at;
      declared = number_below c.said.names.procs (word_at ws 0) a.0;
      ranged = found.in_range;
      spelled = found.spelled;
      of_version = sym (has_own_operation version c.said.names op) ∙ ap (has_operation version) found.words ∙ has.0;
      few = ltb-true _ _ b.0;
      lives = not_true _ g.0;
      words = rw (found.words, name_at c.said.names.procs (word_at ws 0) a.0) (one_up ws c.said op read);
      after = sym (ok_is (at_place Operations (with_op c.said p op)) d g.1);
    })

operation_cases : (c d : SoFar) (ws : List Text) (r : Result Op Reason) → op_in c.said.trace.version c.said.names (drop 1 ws) ≡ r → AreNamed c.said → has_process c.place ≡ true
    → process_line_of c.said (word_at ws 0) r ≡ Ok d → Step c ws d
operation_cases c d ws (Err reason) read named at e = absurd cc
operation_cases c d ws (Ok op) read named at e = process_found c d ws op named at read e

operation_found : (c d : SoFar) (ws : List Text) → AreNamed c.said → has_process c.place ≡ true → operation_line c.said ws ≡ Ok d → Step c ws d
unfolding operation_line
operation_found c d ws named at e = operation_cases c d ws (op_in c.said.trace.version c.said.names (drop 1 ws)) refl named at e

-- one of two lines was judged good
branch : (c d : SoFar) (ws : List Text) (test : Bool) (a b : Judged) → (test ≡ true → a ≡ Ok d → Step c ws d) → (b ≡ Ok d → Step c ws d) → cond test a b ≡ Ok d → Step c ws d
branch c d ws true a b f g e = f refl e
branch c d ws false a b f g e = g e

nothing : (c d : SoFar) (ws : List Text) → (let r : Judged = Err NoForm in r) ≡ Ok d → Step c ws d
nothing c d ws e = absurd cc

later_found : (c d : SoFar) (ws : List Text) → AreNamed c.said → (c.place ≡ Procs) ⊎ (c.place ≡ Shared) → has_process c.place ≡ true → later_line c.said ws ≡ Ok d → Step c ws d
unfolding later_line
later_found c d ws named at late e =
    branch c d ws (bytes_eq (word_at ws 0) (codes "shared")) _ _ (λ first. shared_found c d ws at first)
    (branch c d ws (is_keyword (word_at ws 0)) _ _ (λ first. nothing c d ws) (operation_found c d ws named late)) e

found_in : (p : Place) (c d : SoFar) (ws : List Text) → c.place ≡ p → AreNamed c.said → line_in p c.said ws ≡ Ok d → Step c ws d
unfolding line_in line_of_types line_of_limits line_of_procs
found_in Version c d ws at named e = version_found c d ws at e
found_in Kernel c d ws at named e = kernel_found c d ws at e
found_in Types c d ws at named e =
    branch c d ws (bytes_eq (word_at ws 0) (codes "type")) _ _ (λ first. type_found c d ws at first)
    (branch c d ws (bytes_eq (word_at ws 0) (codes "limit")) _ _ (λ first. root_found c d ws at first) (nothing c d ws)) e
found_in Limits c d ws at named e =
    branch c d ws (bytes_eq (word_at ws 0) (codes "limit")) _ _ (λ first. limit_found c d ws at first)
    (branch c d ws (bytes_eq (word_at ws 0) (codes "proc")) _ _ (λ first. proc_found c d ws (inl at) first) (nothing c d ws)) e
found_in Procs c d ws at named e =
    branch c d ws (bytes_eq (word_at ws 0) (codes "proc")) _ _ (λ first. proc_found c d ws (inr at) first) (later_found c d ws named (inl at) (rw at refl)) e
found_in Shared c d ws at named e = later_found c d ws named (inr at) (rw at refl) e
found_in Operations c d ws at named e = operation_found c d ws named (rw at refl) e

-- a line that is judged good is a step
pub step_found : (c d : SoFar) (ws : List Text) → AreNamed c.said → line_in c.place c.said ws ≡ Ok d → Step c ws d
step_found c d ws named e = found_in c.place c d ws refl named e
