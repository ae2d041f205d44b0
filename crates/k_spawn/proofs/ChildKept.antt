-- What is kept by the line of a child.
use Rattle.std.proofs.Common.{◌≡◌, ℕ, ◌+◌, ◌<◌, not, nat_lt, true, false, List, [], ◌∷◌, ◌++◌, length, Ok, sym, subst, arith, inl, inr, append_assoc, append-nil, slice_index_or}
use Rattle.std.proofs.lemmas.Bool.{cases_lt, ltb-true}
use Rattle.std.proofs.lemmas.List.{get_or_append_left, length-append}
use Rattle.std.proofs.Math.Seq.{get_or-append_seam}
use Rattle.k_types.proofs.Lists.{length_push}
use Rattle.k_types.specs.declared.names.Pid.{Pid}
use Rattle.k_types.specs.Trace.{process_count}
use Rattle.k_words.proofs.Spelled.{both}
use Rattle.k_trace.specs.Words.{Text, word_at}
use Rattle.k_trace.specs.Names.{declares, is_name, number_of}
use Rattle.k_trace.specs.Named.{NamedTrace}
use Rattle.k_trace.specs.Rules.{AreNames}
use Rattle.k_trace.specs.declared.place.Place.TheVariants.{Procs}
use Rattle.k_reader.proofs.Again.{nor}
use Rattle.k_reader.proofs.Found.{not_true}
use Rattle.k_reader.proofs.Kept.{IsSaid}
use Rattle.k_trace.proofs.Pushed.{AreNames_front, AreNames_push, number_below}
use Rattle.k_spawn.specs.Judgement.{SoFar, child_line, is_child_word, with_child}
use Rattle.k_spawn.specs.Scripts.{Script, limit_names, process_names}
use Rattle.k_spawn.proofs.HeaderKept.{demands_ok}
use Rattle.k_spawn.proofs.KeptSoFar.{AreChildren, IsPeopled, Keeps}
use Rattle.k_reader.proofs.Readers.{ok_is}

-- there are as many names as processes
pub names_counted : (s : Script) (wss : List (List Text)) → IsSaid s.header wss → AreChildren s.header s.child_names s.parents → length (process_names s) ≡ process_count s.header.trace + length s.parents
names_counted s wss said children =
    let header : length s.header.names.procs ≡ length s.header.trace.procs = said.begun.heaps.procs_named in
    omega (arith, length-append s.header.names.procs s.child_names, header, children.named)

parent_of_new : (first : ℕ) (parents : List Pid) (p : Pid) (k : ℕ) → ((k : ℕ) → k < length parents → (slice_index_or parents k (record { 0 = 0 })).0 < first + k) → p.0 < first + length parents
    → k < length (parents ++ p ∷ []) → (slice_index_or (parents ++ p ∷ []) k (record { 0 = 0 })).0 < first + k
parent_of_new first parents p k old new lt = elim (cases_lt k (length parents)) [
  | inl below ↦ subst (λ (x : Pid). x.0 < first + k) (sym (get_or_append_left parents (p ∷ []) (record { 0 = 0 }) k below)) (old k below)
  | inr above ↦ let e : length parents ≡ k = omega (arith, length_push parents p) in
      subst (λ (i : ℕ). (slice_index_or (parents ++ p ∷ []) i (record { 0 = 0 })).0 < first + i) e
      (subst (λ (x : Pid). x.0 < first + length parents) (sym (get_or-append_seam parents p [] (record { 0 = 0 }))) new)
]

-- one child more
child_more : (t : NamedTrace) (names : List Text) (parents : List Pid) (name : Text) (parent : Pid) → AreChildren t names parents → t.names.shared ≡ [] → length t.trace.limits + length parents < 128
    → process_count t.trace + length parents < 64 → is_name name ≡ true → declares (t.names.procs ++ names) name ≡ false → declares (t.names.limits ++ names) name ≡ false
    → parent.0 < process_count t.trace + length parents → AreChildren t (names ++ name ∷ []) (parents ++ parent ∷ [])
child_more t names parents name parent old none room_limits room good fresh fresh_limit known =
    let heaps : AreNames (t.names.procs ++ names) = AreNames_front (t.names.procs ++ names) t.names.shared old.heap_names in
    let pushed : AreNames (t.names.procs ++ (names ++ name ∷ [])) = subst AreNames (append_assoc t.names.procs names (name ∷ [])) (AreNames_push (t.names.procs ++ names) name heaps good fresh) in
    let more = length_push parents parent in
    record {
      in_order = record { few = omega (arith, more, room); before = λ k lt. parent_of_new (process_count t.trace) parents parent k old.in_order.before known lt };
      few_limits = omega (arith, more, room_limits);
      named = let one = length_push names name in let same = old.named in omega (arith, one, more, same);
      heap_names = subst (λ (ns : List Text). AreNames ((t.names.procs ++ (names ++ name ∷ [])) ++ ns)) (sym none) (subst AreNames (sym (append-nil (t.names.procs ++ (names ++ name ∷ [])))) pushed);
      limit_names = subst AreNames (append_assoc t.names.limits names (name ∷ [])) (AreNames_push (t.names.limits ++ names) name old.limit_names good fresh_limit);
    }

-- the line of a child
pub child_kept : (s : Script) (ws : List Text) (d : SoFar) → IsPeopled Procs s → child_line s ws ≡ Ok d → Keeps d.place d.said
unfolding child_line
child_kept s ws d kept e =
    let a = demands_ok _ _ _ d e in
    let b = demands_ok _ _ _ d a.1 in
    let g = demands_ok _ _ _ d b.1 in
    let h = demands_ok _ _ _ d g.1 in
    let i = demands_ok _ _ _ d h.1 in
    let good = both (is_name (word_at ws 1)) (not (is_child_word (word_at ws 1))) b.0 in
    let fresh = nor (declares (process_names s) (word_at ws 1)) (declares (limit_names s) (word_at ws 1)) (not_true _ g.0) in
    let room = both (nat_lt (length (process_names s)) 64) (nat_lt (length (limit_names s)) 128) i.0 in
    let few : length (process_names s) < 64 = ltb-true _ _ room.0 in
    let few_limits : length (limit_names s) < 128 = ltb-true _ _ room.1 in
    let said = kept.header.0 in
    let counted = names_counted s kept.spelled said kept.children in
    let limits : length s.header.names.limits ≡ length s.header.trace.limits = said.begun.limits.named in
    let known : number_of (process_names s) (word_at ws 2) < length (process_names s) = number_below (process_names s) (word_at ws 2) h.0 in
    let children : AreChildren s.header (s.child_names ++ word_at ws 1 ∷ []) (s.parents ++ record { 0 = number_of (process_names s) (word_at ws 2) } ∷ []) =
    child_more s.header s.child_names s.parents (word_at ws 1) (record { 0 = number_of (process_names s) (word_at ws 2) }) kept.children kept.header.3.names
    (omega (arith, few_limits, limits, kept.children.named, length-append s.header.names.limits s.child_names)) (omega (arith, few, counted)) good.0 fresh.0 fresh.1 (omega (arith, known, counted)) in
    let more : IsPeopled Procs (with_child s (word_at ws 1) (number_of (process_names s) (word_at ws 2))) = record { spelled = kept.spelled; header = kept.header; children = children; lines = kept.lines } in
    subst (λ (x : SoFar). Keeps x.place x.said) (ok_is _ d i.1) more
