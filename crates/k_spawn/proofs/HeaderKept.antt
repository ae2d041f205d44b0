-- What is kept by a header line of a script.
use Rattle.std.proofs.Common.{◌≡◌, ◌∙◌, not, Bool, true, false, cond, codes, List, [], ◌∷◌, ◌++◌, length, Result, Ok, Err, refl, sym, ap, subst, arith, append_assoc, append-nil}
use Rattle.std.proofs.lemmas.Bool.{eqb-true, false≢true}
use Rattle.std.specs.Str.{bytes_eq}
use Rattle.k_types.specs.declared.names.Pid.{Pid}
use Rattle.k_trace.specs.Words.{Text, word_at}
use Rattle.k_trace.specs.Names.{declares, is_keyword, is_name}
use Rattle.k_trace.specs.Named.{NamedTrace}
use Rattle.k_trace.specs.Rules.{AreNames}
use Rattle.k_trace.specs.declared.place.Place.{Place}
use Rattle.k_trace.specs.declared.place.Place.TheVariants.{Version, Kernel, Types, Limits, Procs, Shared, Operations}
use Rattle.k_trace.specs.declared.reasons.Reason.TheVariants.{NoForm, NoName, NameTaken}
use Rattle.k_trace.specs.Grown.{with_shared}
use Rattle.k_trace.specs.Judgement.{SoFar as TraceSoFar, Judged as TraceJudged, has_process, later_line as trace_later_line, line_in as trace_line, line_of_procs as trace_line_of_procs, operation_line as trace_operation_line, proc_line, shared_line}
use Rattle.k_reader.proofs.Found.{not_true, step_found}
use Rattle.k_reader.proofs.Keeps.{step_keeps}
use Rattle.k_reader.proofs.Kept.{Holds, IsSaid}
use Rattle.k_trace.proofs.Pushed.{AreNames_push, neither_declares}
use Rattle.k_reader.proofs.Readers.{demands_ok as asks_ok, ok_is}
use Rattle.k_reader.proofs.Sound.{named_in}
use Rattle.k_reader.proofs.Steps.{at_place, Step, OfVersion, OfKernel, OfType, OfRoot, OfLimit, OfProc, OfShared, OfOperation}
use Rattle.k_spawn.specs.declared.reasons.ScriptReason.{ScriptReason}
use Rattle.k_spawn.specs.declared.reasons.ScriptReason.TheVariants.{OfTrace}
use Rattle.k_spawn.specs.Judgement.{SoFar, has_no_child, header_line, in_header, is_child_word}
use Rattle.k_spawn.specs.Reasons.{also, demands}
use Rattle.k_spawn.specs.Scripts.{Script}
use Rattle.k_spawn.proofs.Headers.{later_step}
use Rattle.k_spawn.proofs.KeptSoFar.{AreChildren, IsHeader, IsPeopled, Keeps}
use Rattle.std.proofs.lemmas.List.{nil_from_length}

-- ---- good lines that something was demanded of

pub demands_ok : {A : Type 0} (reason : ScriptReason) (test : Bool) (next : Result A ScriptReason) (d : A) → demands reason test next ≡ Ok d → (test ≡ true) × (next ≡ Ok d)
unfolding demands
demands_ok reason true next d e = (refl, e)
demands_ok reason false next d e = absurd cc

also_ok : {A : Type 0} (reason : ScriptReason) (test : Bool) (judged : Result A ScriptReason) (d : A) → also reason test judged ≡ Ok d → (test ≡ true) × (judged ≡ Ok d)
unfolding also
also_ok reason true judged d e = (refl, e)
also_ok reason false (Ok c) d e = absurd cc
also_ok reason false (Err other) d e = absurd cc

-- ---- what a good header line is

-- the script with another header
abbrev pub with_header : Script → NamedTrace → Script
with_header s t = record s { header = t }

-- the line is a good one of the header, and its name is none of a child
record IsGrown (place : Place) (s : Script) (ws : List Text) (d : SoFar) : Type 0 where
  pub after : TraceSoFar
  pub fresh : declares s.child_names (word_at ws 1) ≡ false
  pub good : trace_line place s.header ws ≡ Ok after
  pub leads_to : record { place = after.place; said = with_header s after.said } ≡ d

header_grown : (place : Place) (s : Script) (ws : List Text) (d : SoFar) → header_line place s ws ≡ Ok d → IsGrown place s ws d
unfolding header_line
header_grown place s ws d e =
    let a = also_ok (OfTrace NoName) (not (is_child_word (word_at ws 1))) (also (OfTrace NameTaken) (not (declares s.child_names (word_at ws 1))) (in_header s (trace_line place s.header ws))) d e in
    let b = also_ok (OfTrace NameTaken) (not (declares s.child_names (word_at ws 1))) (in_header s (trace_line place s.header ws)) d a.1 in
    by_header (trace_line place s.header ws) refl (not_true (declares s.child_names (word_at ws 1)) b.0) b.1
  where
    by_header : (r : TraceJudged) → trace_line place s.header ws ≡ r → declares s.child_names (word_at ws 1) ≡ false → in_header s r ≡ Ok d → IsGrown place s ws d
    by_header (Ok c) is fresh good = record { after = c; fresh = fresh; good = is; leads_to = ok_is (let x : SoFar = record { place = c.place; said = with_header s c.said } in x) d good }
    by_header (Err reason) is fresh good = absurd cc

-- ---- where no line leads

abbrev IsNot : Place → Place → Type 0
IsNot place other = place ≡ other → ⊥

-- before a process no step is an operation
no_operation_early : (c d : TraceSoFar) (ws : List Text) → has_process c.place ≡ false → Step c ws d → IsNot d.place Operations
no_operation_early c d ws early (OfVersion s) = subst (λ (x : TraceSoFar). IsNot x.place Operations) (sym s.after) (λ e. absurd cc)
no_operation_early c d ws early (OfKernel s) = subst (λ (x : TraceSoFar). IsNot x.place Operations) (sym s.after) (λ e. absurd cc)
no_operation_early c d ws early (OfType s) = subst (λ (x : TraceSoFar). IsNot x.place Operations) (sym s.after) (λ e. absurd cc)
no_operation_early c d ws early (OfRoot s) = subst (λ (x : TraceSoFar). IsNot x.place Operations) (sym s.after) (λ e. absurd cc)
no_operation_early c d ws early (OfLimit s) = subst (λ (x : TraceSoFar). IsNot x.place Operations) (sym s.after) (λ e. absurd cc)
no_operation_early c d ws early (OfProc s) = subst (λ (x : TraceSoFar). IsNot x.place Operations) (sym s.after) (λ e. absurd cc)
no_operation_early c d ws early (OfShared s) = subst (λ (x : TraceSoFar). IsNot x.place Operations) (sym s.after) (λ e. absurd cc)
no_operation_early c d ws early (OfOperation s) = absurd (false≢true (sym early ∙ s.at))

not_operations : (place other : Place) → place ≡ other → IsNot other Operations → IsNot place Operations
not_operations place other same late e = late (sym same ∙ e)

proc_leads : (t : NamedTrace) (ws : List Text) (d : TraceSoFar) → proc_line t ws ≡ Ok d → d.place ≡ Procs
unfolding proc_line
proc_leads t ws d e =
    let a = asks_ok _ _ _ d e in
    let b = asks_ok _ _ _ d a.1 in
    let g = asks_ok _ _ _ d b.1 in
    let h = asks_ok _ _ _ d g.1 in
    let i = asks_ok _ _ _ d h.1 in
    ap (λ (x : TraceSoFar). x.place) (sym (ok_is _ d i.1))

shared_leads : (t : NamedTrace) (ws : List Text) (d : TraceSoFar) → shared_line t ws ≡ Ok d → d.place ≡ Shared
unfolding shared_line
shared_leads t ws d e =
    let a = asks_ok _ _ _ d e in
    let b = asks_ok _ _ _ d a.1 in
    let g = asks_ok _ _ _ d b.1 in
    let h = asks_ok _ _ _ d g.1 in
    ap (λ (x : TraceSoFar). x.place) (sym (ok_is _ d h.1))

abbrev pub begins_with : List Text → Text → Type 0
begins_with ws keyword = bytes_eq (word_at ws 0) keyword ≡ true

-- the line of a shared heap is no operation
later_leads : (t : NamedTrace) (ws : List Text) (d : TraceSoFar) → begins_with ws (codes "shared") → trace_later_line t ws ≡ Ok d → IsNot d.place Operations
unfolding trace_later_line
later_leads t ws d first e =
    let good : shared_line t ws ≡ Ok d = sym (ap (λ (b : Bool). cond b (shared_line t ws) (cond (is_keyword (word_at ws 0)) (Err NoForm) (trace_operation_line t ws))) first) ∙ e in
    not_operations d.place Shared (shared_leads t ws d good) (λ f. absurd cc)

-- nor that of a process
procs_leads : (t : NamedTrace) (ws : List Text) (d : TraceSoFar) → begins_with ws (codes "proc") → trace_line Procs t ws ≡ Ok d → IsNot d.place Operations
unfolding trace_line trace_line_of_procs
procs_leads t ws d first e =
    let good : proc_line t ws ≡ Ok d = sym (ap (λ (b : Bool). cond b (proc_line t ws) (trace_later_line t ws)) first) ∙ e in
    not_operations d.place Procs (proc_leads t ws d good) (λ f. absurd cc)

shared_after_procs : (t : NamedTrace) (ws : List Text) (d : TraceSoFar) → begins_with ws (codes "shared") → trace_line Procs t ws ≡ Ok d → IsNot d.place Operations
unfolding trace_line trace_line_of_procs
shared_after_procs t ws d first e = by_first (bytes_eq (word_at ws 0) (codes "proc")) e
  where
    by_first : (b : Bool) → cond b (proc_line t ws) (trace_later_line t ws) ≡ Ok d → IsNot d.place Operations
    by_first true good = not_operations d.place Procs (proc_leads t ws d good) (λ f. absurd cc)
    by_first false good = later_leads t ws d first good

shared_after_shared : (t : NamedTrace) (ws : List Text) (d : TraceSoFar) → begins_with ws (codes "shared") → trace_line Shared t ws ≡ Ok d → IsNot d.place Operations
unfolding trace_line
shared_after_shared t ws d first e = later_leads t ws d first e

-- ---- a header without children

no_children : (header : NamedTrace) (wss : List (List Text)) → IsSaid header wss → AreChildren header [] []
no_children header wss said =
    let b = said.begun in record {
      in_order = record { few = let h = b.heaps.few_procs in omega (arith, h); before = λ k lt. absurd (omega (arith, lt)) };
      few_limits = let h = b.limits.few in omega (arith, h);
      named = refl;
      heap_names = subst (λ (ns : List Text). AreNames (ns ++ header.names.shared)) (sym (append-nil header.names.procs)) b.heaps.are_names;
      limit_names = subst AreNames (sym (append-nil header.names.limits)) b.limits.are_names;
    }

children_none : (s : Script) (wss : List (List Text)) → s.child_names ≡ [] → s.parents ≡ [] → IsSaid s.header wss → AreChildren s.header s.child_names s.parents
children_none s wss names parents said =
    subst (λ (ns : List Text). AreChildren s.header ns s.parents) (sym names)
    (subst (λ (ps : List Pid). AreChildren s.header [] ps) (sym parents) (no_children s.header wss said))

-- what is kept where a header alone leads
grown : (place : Place) (s : Script) → IsHeader place s → IsNot place Version → IsNot place Operations → Keeps place s
grown Version s kept early late = absurd (early refl)
grown Kernel s kept early late = kept
grown Types s kept early late = kept
grown Limits s kept early late = kept
grown Procs s kept early late =
    record { spelled = kept.spelled; header = kept.header; children = children_none s kept.spelled kept.names kept.parents kept.header.0; lines = kept.lines }
grown Shared s kept early late =
    record { spelled = kept.spelled; header = kept.header; children = children_none s kept.spelled kept.names kept.parents kept.header.0; lines = kept.lines }
grown Operations s kept early late = absurd (late refl)

-- a line of a header alone, which is no operation
alone_kept : (place : Place) (s : Script) (ws : List Text) (d : SoFar) → IsHeader place s → (g : IsGrown place s ws d) → IsNot g.after.place Operations → Keeps d.place d.said
alone_kept place s ws d kept g late =
    let step : Step (at_place place s.header) ws g.after = step_found (at_place place s.header) g.after ws (named_in place s.header kept.spelled kept.header) g.good in
    let holds : Holds g.after.place g.after.said (kept.spelled ++ ws ∷ []) = step_keeps (at_place place s.header) g.after ws kept.spelled kept.header step in
    let more : IsHeader g.after.place (with_header s g.after.said) = record { spelled = kept.spelled ++ ws ∷ []; header = holds; names = kept.names; parents = kept.parents; lines = kept.lines } in
    subst (λ (x : SoFar). Keeps x.place x.said) g.leads_to (grown g.after.place (with_header s g.after.said) more (later_step (at_place place s.header) g.after ws step) late)

-- a header line before a process
pub early_kept : (place : Place) (s : Script) (ws : List Text) (d : SoFar) → has_process place ≡ false → IsHeader place s → header_line place s ws ≡ Ok d → Keeps d.place d.said
early_kept place s ws d early kept e =
    let g = header_grown place s ws d e in
    let step : Step (at_place place s.header) ws g.after = step_found (at_place place s.header) g.after ws (named_in place s.header kept.spelled kept.header) g.good in
    alone_kept place s ws d kept g (no_operation_early (at_place place s.header) g.after ws early step)

-- the line of a process, where there is no child
pub proc_kept : (s : Script) (ws : List Text) (d : SoFar) → IsPeopled Procs s → has_no_child s ≡ true → begins_with ws (codes "proc") → header_line Procs s ws ≡ Ok d → Keeps d.place d.said
proc_kept s ws d kept none first e =
    let g = header_grown Procs s ws d e in
    let no_parents : length s.parents ≡ 0 = eqb-true _ _ none in
    let alone : IsHeader Procs s = record {
      spelled = kept.spelled;
      header = kept.header;
      names = nil_from_length s.child_names (kept.children.named ∙ no_parents);
      parents = nil_from_length s.parents no_parents;
      lines = kept.lines;
    } in
    alone_kept Procs s ws d alone g (procs_leads s.header ws g.after first g.good)

-- ---- a shared heap behind children

shared_more : (t : NamedTrace) (names : List Text) (parents : List Pid) (name : Text) → AreChildren t names parents → is_name name ≡ true → declares t.names.procs name ≡ false
    → declares names name ≡ false → declares t.names.shared name ≡ false → AreChildren (with_shared t name) names parents
shared_more t names parents name old good fresh fresh_child fresh_shared =
    let new : declares ((t.names.procs ++ names) ++ t.names.shared) name ≡ false =
    neither_declares (t.names.procs ++ names) t.names.shared name (neither_declares t.names.procs names name fresh fresh_child) fresh_shared in
    record {
      in_order = old.in_order;
      few_limits = old.few_limits;
      named = old.named;
      heap_names = subst AreNames (append_assoc (t.names.procs ++ names) t.names.shared (name ∷ [])) (AreNames_push ((t.names.procs ++ names) ++ t.names.shared) name old.heap_names good new);
      limit_names = old.limit_names;
    }

abbrev KeptBy : Script → TraceSoFar → Type 0
KeptBy s after = Keeps after.place (with_header s after.said)

-- the step of a line that begins with `shared`
shared_step : (place : Place) (s : Script) (ws : List Text) (after : TraceSoFar) → has_process place ≡ true → (kept : IsPeopled place s) → begins_with ws (codes "shared")
    → declares s.child_names (word_at ws 1) ≡ false → IsNot after.place Operations → Holds after.place after.said (kept.spelled ++ ws ∷ []) → Step (at_place place s.header) ws after → KeptBy s after
shared_step place s ws after late kept first fresh no_op holds (OfVersion st) = absurd (false≢true (sym (ap has_process st.at) ∙ late))
shared_step place s ws after late kept first fresh no_op holds (OfKernel st) = absurd (false≢true (sym (ap has_process st.at) ∙ late))
shared_step place s ws after late kept first fresh no_op holds (OfType st) = absurd (false≢true (sym (ap has_process st.at) ∙ late))
shared_step place s ws after late kept first fresh no_op holds (OfRoot st) = absurd (false≢true (sym (ap has_process st.at) ∙ late))
shared_step place s ws after late kept first fresh no_op holds (OfLimit st) = absurd (false≢true (sym (ap has_process st.at) ∙ late))
shared_step place s ws after late kept first fresh no_op holds (OfProc st) = absurd (false≢true (sym (ap (λ (w : List Text). bytes_eq (word_at w 0) (codes "shared")) st.words) ∙ first))
shared_step place s ws after late kept first fresh no_op holds (OfOperation st) = absurd (no_op (ap (λ (x : TraceSoFar). x.place) st.after))
shared_step place s ws after late kept first fresh no_op holds (OfShared st) =
    let name : word_at ws 1 ≡ st.name = ap (λ (w : List Text). word_at w 1) st.words in
    let fresh_child : declares s.child_names st.name ≡ false = subst (λ (w : Text). declares s.child_names w ≡ false) name fresh in
    let now : Holds Shared (with_shared s.header st.name) (kept.spelled ++ ws ∷ []) = subst (λ (x : TraceSoFar). Holds x.place x.said (kept.spelled ++ ws ∷ [])) st.after holds in
    let more : IsPeopled Shared (with_header s (with_shared s.header st.name)) = record {
      spelled = kept.spelled ++ ws ∷ [];
      header = now;
      children = shared_more s.header s.child_names s.parents st.name kept.children st.named st.fresh fresh_child st.fresh_shared;
      lines = kept.lines;
    } in
    subst (KeptBy s) (sym st.after) more

shared_kept_at : (place : Place) (s : Script) (ws : List Text) (d : SoFar) → has_process place ≡ true → IsPeopled place s → begins_with ws (codes "shared")
    → ((after : TraceSoFar) → trace_line place s.header ws ≡ Ok after → IsNot after.place Operations) → header_line place s ws ≡ Ok d → Keeps d.place d.said
shared_kept_at place s ws d late kept first leads e =
    let g = header_grown place s ws d e in
    let step : Step (at_place place s.header) ws g.after = step_found (at_place place s.header) g.after ws (named_in place s.header kept.spelled kept.header) g.good in
    let holds : Holds g.after.place g.after.said (kept.spelled ++ ws ∷ []) = step_keeps (at_place place s.header) g.after ws kept.spelled kept.header step in
    subst (λ (x : SoFar). Keeps x.place x.said) g.leads_to (shared_step place s ws g.after late kept first g.fresh (leads g.after g.good) holds step)

-- the line of a shared heap after the processes and children
pub shared_kept_procs : (s : Script) (ws : List Text) (d : SoFar) → IsPeopled Procs s → begins_with ws (codes "shared") → header_line Procs s ws ≡ Ok d → Keeps d.place d.said
shared_kept_procs s ws d kept first e = shared_kept_at Procs s ws d refl kept first (λ after good. shared_after_procs s.header ws after first good) e

-- and after another shared heap
pub shared_kept_shared : (s : Script) (ws : List Text) (d : SoFar) → IsPeopled Shared s → begins_with ws (codes "shared") → header_line Shared s ws ≡ Ok d → Keeps d.place d.said
shared_kept_shared s ws d kept first e = shared_kept_at Shared s ws d refl kept first (λ after good. shared_after_shared s.header ws after first good) e
