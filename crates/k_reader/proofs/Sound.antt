-- What is judged good is a trace, and is spelled by the bytes.
use Rattle.std.proofs.Common.{◌≡◌, ℕ, ◌+◌, ◌≤◌, Bool, true, false, cond, leb, List, [], ◌∷◌, ◌++◌, length, map, Result, Ok, Err, refl, sym, subst, append_assoc}
use Rattle.std.proofs.lemmas.Bool.{leb-true}
use Rattle.std.proofs.lemmas.List.{append-nil}
use Rattle.k_words.specs.Words.{Text, lines_of, words_of, text_of, AreText}
use Rattle.k_words.proofs.Proper.{text_of_lines}
use Rattle.k_trace.specs.declared.place.Place.{Place}
use Rattle.k_trace.specs.declared.place.Place.TheVariants.{Version, Kernel, Types, Limits, Procs, Shared, Operations}
use Rattle.k_trace.specs.Named.{NamedTrace}
use Rattle.k_trace.specs.Rules.{IsTrace, Spells}
use Rattle.k_trace.specs.Grown.{blank, with_version}
use Rattle.k_trace.specs.Judgement.{SoFar, Judged, BadLine, start, judged_line, judged_lines, then_lines, has_process, at_end, judgement}
use Rattle.k_reader.proofs.Readers.{demands_ok}
use Rattle.k_reader.proofs.OpForms.{AreNamed}
use Rattle.k_reader.proofs.Found.{step_found}
use Rattle.k_reader.proofs.Kept.{Holds, IsSaid}
use Rattle.k_reader.proofs.Keeps.{IsLate, late, step_keeps}

blank_named : (t : NamedTrace) (version : ℕ) → t ≡ with_version blank version → AreNamed t
blank_named t version e = rw e (record { types = refl; limits = refl; procs = refl; shared = refl })

said_named : (t : NamedTrace) (wss : List (List Text)) → IsSaid t wss → AreNamed t
said_named t wss h = record {
  types = h.begun.types.named;
  limits = h.begun.limits.named;
  procs = h.begun.heaps.procs_named;
  shared = h.begun.heaps.shared_named;
}

-- all that was declared has a name
pub named_in : (p : Place) (t : NamedTrace) (wss : List (List Text)) → Holds p t wss → AreNamed t
named_in Version t wss h = blank_named t 1 h.0
named_in Kernel t wss h = blank_named t t.trace.version h.0
named_in Types t wss h = said_named t wss h.0
named_in Limits t wss h = said_named t wss h.0
named_in Procs t wss h = said_named t wss h.0
named_in Shared t wss h = said_named t wss h.0
named_in Operations t wss h = said_named t wss h.0

-- a good line keeps what holds
pub line_keeps : (c d : SoFar) (line : Text) (wss : List (List Text)) → Holds c.place c.said wss → judged_line c line ≡ Ok d → Holds d.place d.said (wss ++ words_of line ∷ [])
unfolding judged_line
line_keeps c d line wss h e =
    let a = demands_ok _ _ _ d e in
    let b = demands_ok _ _ _ d a.1 in
    let g = demands_ok _ _ _ d b.1 in
    step_keeps c d (words_of line) wss h (step_found c d (words_of line) (named_in c.place c.said wss h) g.1)

-- what holds after more good lines
abbrev Leads : List Text → SoFar → ℕ → Type 0
Leads lines d n = (c : SoFar) (wss : List (List Text)) → Holds c.place c.said wss → judged_lines n c lines ≡ Ok d → Holds d.place d.said (wss ++ map words_of lines)

after_line : (n : ℕ) (c d : SoFar) (l : Text) (ls : List Text) (wss : List (List Text)) (r : Judged) → Holds c.place c.said wss → judged_line c l ≡ r → Leads ls d (n + 1)
    → then_lines (λ x. judged_lines (n + 1) x ls) n r ≡ Ok d → Holds d.place d.said (wss ++ map words_of (l ∷ ls))
after_line n c d l ls wss (Err reason) h good ih e = absurd cc
after_line n c d l ls wss (Ok x) h good ih e =
    subst (λ (us : List (List Text)). Holds d.place d.said us) (append_assoc wss (words_of l ∷ []) (map words_of ls)) (ih x (wss ++ words_of l ∷ []) (line_keeps c x l wss h good) e)

pub lines_keep : (n : ℕ) (d : SoFar) (lines : List Text) → Leads lines d n
unfolding judged_lines
lines_keep n d [] c wss h e =
    let same : c ≡ d = cc in
    subst (λ (x : SoFar). Holds x.place x.said (wss ++ [])) same (rw append-nil h)
lines_keep n d (l ∷ ls) c wss h e = after_line n c d l ls wss (judged_line c l) h refl (lines_keep (n + 1) d ls) e

-- what was said once there is a process keeps all rules
pub is_trace : (t : NamedTrace) (wss : List (List Text)) → IsLate t wss → IsTrace t
is_trace t wss h =
    let b = h.said.begun in
    record {
      rules = record {
        version = b.version;
        ceiling = b.kernel.small;
        directory = b.kernel.few;
        directory_fits = b.kernel.room;
        types = b.types.few;
        fields = b.types.few_fields;
        limit_count = b.limits.few;
        processes = b.heaps.few_procs;
        some_process = h.process;
        shared = b.heaps.few_shared;
        limits = record { tree = b.limits.tree; root = b.limits.root; rooted = b.limits.rooted; limited = b.heaps.limited; fits = b.limits.fits; small = b.limits.small };
        operations = b.operations;
      };
      type_names = b.types.are_names;
      limit_names = b.limits.are_names;
      heap_names = b.heaps.are_names;
      types_named = b.types.named;
      limits_named = b.limits.named;
      procs_named = b.heaps.procs_named;
      shared_named = b.heaps.shared_named;
      has_root = h.root;
    }

-- what good lines say is spelled by them
lines_sound : (bytes : Text) (t : NamedTrace) (r : Result SoFar BadLine) (n : ℕ) → length bytes ≤ 16777216 → judged_lines 1 start (lines_of bytes) ≡ r → at_end n r ≡ Ok t → Spells bytes t
lines_sound bytes t (Err bad) n few e good = absurd cc
lines_sound bytes t (Ok c) n few e good = ended (has_process c.place) refl good
  where
    ended : (b : Bool) → has_process c.place ≡ b → cond {A = Result NamedTrace BadLine} b (Ok c.said) (Err (record { line = n; reason = 12 })) ≡ Ok t → Spells bytes t
    ended false at good = absurd cc
    ended true at good =
        let same : c.said ≡ t = cc in
        let h = late c (map words_of (lines_of bytes)) at (lines_keep 1 c (lines_of bytes) start [] (refl, refl) e) in
        subst (Spells bytes) same (record {
          few = few;
          is_trace = is_trace c.said (map words_of (lines_of bytes)) h;
          is_text = subst (λ (us : List (List Text)). AreText bytes (text_of us)) (sym h.said.lines) (text_of_lines bytes);
        })

-- bytes that are judged good spell the trace that they are judged to be
pub sound : (bytes : Text) (t : NamedTrace) → judgement bytes ≡ Ok t → Spells bytes t
unfolding judgement
sound bytes t e = within (leb (length bytes) 16777216) refl e
  where
    within : (b : Bool) → leb (length bytes) 16777216 ≡ b
        → cond {A = Result NamedTrace BadLine} b (at_end (length (lines_of bytes) + 1) (judged_lines 1 start (lines_of bytes))) (Err (record { line = 0; reason = 1 })) ≡ Ok t → Spells bytes t
    within false few e = absurd cc
    within true few e = lines_sound bytes t (judged_lines 1 start (lines_of bytes)) (length (lines_of bytes) + 1) (leb-true _ _ few) refl e
