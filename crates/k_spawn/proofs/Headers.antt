-- What a header line keeps.
use Rattle.std.proofs.Common.{◌≡◌, ◌≢◌, ◌⊎◌, ◌∙◌, ◌+◌, ◌==◌, ◌||◌, nat_lt, Bool, true, false, cond, codes, refl, List, [], ◌∷◌, ◌++◌, length, Ok, inl, inr, sym, ap, subst, arith}
use Rattle.std.proofs.lemmas.Bool.{false≢true, eqb-true, eq-eqb}
use Rattle.std.proofs.lemmas.Grind.{common_steps}
use Rattle.std.specs.Str.{bytes_eq}
use Rattle.k_trace.specs.Words.{Text, word_at}
use Rattle.k_trace.specs.Named.{NamedTrace}
use Rattle.k_trace.specs.declared.place.Place.{Place}
use Rattle.k_trace.specs.declared.place.Place.TheVariants.{Version, Kernel, Types, Limits, Operations}
use Rattle.k_trace.specs.Judgement.{SoFar, has_process, line_in}
use Rattle.k_reader.proofs.OpForms.{AreNamed}
use Rattle.k_reader.proofs.Found.{step_found}
use Rattle.k_reader.proofs.Steps.{Step, OfVersion, OfKernel, OfType, OfRoot, OfLimit, OfProc, OfShared, OfOperation}
use Rattle.k_spawn.specs.Outcome.{ReaderState, IsNamed, IsReader, IsHeaderPlace, IsOfHeader, place_now, so_far}
use Rattle.k_spawn.specs.Scripts.{Script}
use Rattle.k_types.proofs.Lists.{length_push}

-- a place that is not the first line's
abbrev IsLater : Place → Type 0
IsLater place = place ≢ Version

-- no step leads before the first line
pub later_step : (c d : SoFar) (ws : List Text) → Step c ws d → IsLater d.place
later_step c d ws (OfVersion s) = subst (λ (x : SoFar). IsLater x.place) (sym s.after) (λ e. absurd cc)
later_step c d ws (OfKernel s) = subst (λ (x : SoFar). IsLater x.place) (sym s.after) (λ e. absurd cc)
later_step c d ws (OfType s) = subst (λ (x : SoFar). IsLater x.place) (sym s.after) (λ e. absurd cc)
later_step c d ws (OfRoot s) = subst (λ (x : SoFar). IsLater x.place) (sym s.after) (λ e. absurd cc)
later_step c d ws (OfLimit s) = subst (λ (x : SoFar). IsLater x.place) (sym s.after) (λ e. absurd cc)
later_step c d ws (OfProc s) = subst (λ (x : SoFar). IsLater x.place) (sym s.after) (λ e. absurd cc)
later_step c d ws (OfShared s) = subst (λ (x : SoFar). IsLater x.place) (sym s.after) (λ e. absurd cc)
later_step c d ws (OfOperation s) = subst (λ (x : SoFar). IsLater x.place) (sym s.after) (λ e. absurd cc)

one_more : {A B : Type 0} (xs : List A) (ys : List B) (x : A) (y : B) → length xs ≡ length ys → length (xs ++ x ∷ []) ≡ length (ys ++ y ∷ [])
one_more xs ys x y same = grind (arith, common_steps, same)

named_step : (c d : SoFar) (ws : List Text) → IsNamed c.said → Step c ws d → IsNamed d.said
named_step c d ws n (OfVersion s) = subst (λ (x : SoFar). IsNamed x.said) (sym s.after) (record { types = n.types; limits = n.limits; procs = n.procs; shared = n.shared })
named_step c d ws n (OfKernel s) = subst (λ (x : SoFar). IsNamed x.said) (sym s.after) (record { types = n.types; limits = n.limits; procs = n.procs; shared = n.shared })
named_step c d ws n (OfType s) = subst (λ (x : SoFar). IsNamed x.said) (sym s.after) (record { types = one_more _ _ _ _ n.types; limits = n.limits; procs = n.procs; shared = n.shared })
named_step c d ws n (OfRoot s) = subst (λ (x : SoFar). IsNamed x.said) (sym s.after) (record { types = n.types; limits = one_more _ _ _ _ n.limits; procs = n.procs; shared = n.shared })
named_step c d ws n (OfLimit s) = subst (λ (x : SoFar). IsNamed x.said) (sym s.after) (record { types = n.types; limits = one_more _ _ _ _ n.limits; procs = n.procs; shared = n.shared })
named_step c d ws n (OfProc s) = subst (λ (x : SoFar). IsNamed x.said) (sym s.after) (record { types = n.types; limits = n.limits; procs = one_more _ _ _ _ n.procs; shared = n.shared })
named_step c d ws n (OfShared s) =
    subst (λ (x : SoFar). IsNamed x.said) (sym s.after) (record { types = n.types; limits = n.limits; procs = n.procs; shared = length_push _ _ ∙ ap (λ k. k + 1) n.shared })
named_step c d ws n (OfOperation s) = subst (λ (x : SoFar). IsNamed x.said) (sym s.after) (record { types = n.types; limits = n.limits; procs = n.procs; shared = n.shared })

are_named : (t : NamedTrace) → IsNamed t → AreNamed t
are_named t n = record { types = n.types; limits = n.limits; procs = n.procs; shared = n.shared }

-- after a good line the header is past the first line, and all that is declared has a name
pub header_kept : (c d : SoFar) (ws : List Text) → IsNamed c.said → line_in c.place c.said ws ≡ Ok d → IsLater d.place × IsNamed d.said
header_kept c d ws n good =
    let s = step_found c d ws (are_named c.said n) good in
    (later_step c d ws s, named_step c d ws n s)

procs_step : (c d : SoFar) (ws : List Text) → bytes_eq (word_at ws 0) (codes "shared") ≡ true → Step c ws d → d.said.trace.procs ≡ c.said.trace.procs
procs_step c d ws shared (OfVersion s) = ap (λ (x : SoFar). x.said.trace.procs) s.after
procs_step c d ws shared (OfKernel s) = ap (λ (x : SoFar). x.said.trace.procs) s.after
procs_step c d ws shared (OfType s) = ap (λ (x : SoFar). x.said.trace.procs) s.after
procs_step c d ws shared (OfRoot s) = ap (λ (x : SoFar). x.said.trace.procs) s.after
procs_step c d ws shared (OfLimit s) = ap (λ (x : SoFar). x.said.trace.procs) s.after
procs_step c d ws shared (OfProc s) = absurd (false≢true (sym (ap (λ (w : List Text). bytes_eq (word_at w 0) (codes "shared")) s.words) ∙ shared))
procs_step c d ws shared (OfShared s) = ap (λ (x : SoFar). x.said.trace.procs) s.after
procs_step c d ws shared (OfOperation s) = ap (λ (x : SoFar). x.said.trace.procs) s.after

-- after the line of a shared heap the processes are the same
pub procs_kept : (c d : SoFar) (ws : List Text) → IsNamed c.said → bytes_eq (word_at ws 0) (codes "shared") ≡ true → line_in c.place c.said ws ≡ Ok d → d.said.trace.procs ≡ c.said.trace.procs
procs_kept c d ws n shared good = procs_step c d ws shared (step_found c d ws (are_named c.said n) good)

-- where the header may grow the first line was read
pub has_begun : (r : ReaderState) → IsHeaderPlace (place_now r) → r.begun ≡ false → ⊥
has_begun r here e = here.0 (ap (λ b. cond b (cond (nat_lt 0 (length r.course.lines)) Operations r.header.place) Version) e)

-- where there is a child, the line is that of a shared heap
pub is_shared : (s : Script) (ws : List Text) → IsOfHeader s ws → (length s.parents ≡ 0 → ⊥) → bytes_eq (word_at ws 0) (codes "shared") ≡ true
is_shared s ws line some = by_test (length s.parents == 0) refl
  where
    by_test : (b : Bool) → (length s.parents == 0) ≡ b → bytes_eq (word_at ws 0) (codes "shared") ≡ true
    by_test true e = absurd (some (eqb-true _ _ e))
    by_test false e = sym (ap (λ b. b || bytes_eq (word_at ws 0) (codes "shared")) e) ∙ line

late_step : (c d : SoFar) (ws : List Text) → has_process c.place ≡ true → Step c ws d → has_process d.place ≡ true
late_step c d ws late (OfVersion s) = absurd (false≢true (sym (ap has_process s.at) ∙ late))
late_step c d ws late (OfKernel s) = absurd (false≢true (sym (ap has_process s.at) ∙ late))
late_step c d ws late (OfType s) = absurd (false≢true (sym (ap has_process s.at) ∙ late))
late_step c d ws late (OfRoot s) = absurd (false≢true (sym (ap has_process s.at) ∙ late))
late_step c d ws late (OfLimit s) = absurd (false≢true (sym (ap has_process s.at) ∙ late))
late_step c d ws late (OfProc s) = ap (λ (x : SoFar). has_process x.place) s.after
late_step c d ws late (OfShared s) = ap (λ (x : SoFar). has_process x.place) s.after
late_step c d ws late (OfOperation s) = ap (λ (x : SoFar). has_process x.place) s.after

not_false : (b : Bool) → (b ≡ false → ⊥) → b ≡ true
not_false true h = refl
not_false false h = absurd (h refl)

-- behind a process there stays one
pub still_late : (c d : SoFar) (ws : List Text) → IsNamed c.said → (has_process c.place ≡ false → ⊥) → line_in c.place c.said ws ≡ Ok d → has_process d.place ≡ false → ⊥
still_late c d ws n late good e = false≢true (sym e ∙ late_step c d ws (not_false (has_process c.place) late) (step_found c d ws (are_named c.said n) good))

-- where the header may grow, or an operation stands, the first line was read
pub begun_here : (r : ReaderState) → IsHeaderPlace (place_now r) → r.begun ≡ true
begun_here r here = not_false r.begun (has_begun r here)

pub begun_at : (r : ReaderState) → (place_now r ≡ Version → ⊥) → r.begun ≡ true
begun_at r late = not_false r.begun (λ e. late (ap (λ b. cond b (cond (nat_lt 0 (length r.course.lines)) Operations r.header.place) Version) e))

-- the header's place, where there is no line
pub place_is : (r : ReaderState) (place : Place) → place_now r ≡ place → place ≢ Version → place ≢ Operations → r.header.place ≡ place
place_is r place at early late = by_test (nat_lt 0 (length r.course.lines)) refl
  where
    now : cond (nat_lt 0 (length r.course.lines)) Operations r.header.place ≡ place
    now = sym (ap (λ b. cond b (cond (nat_lt 0 (length r.course.lines)) Operations r.header.place) Version) (begun_at r (λ e. early (sym at ∙ e)))) ∙ at

    by_test : (b : Bool) → nat_lt 0 (length r.course.lines) ≡ b → r.header.place ≡ place
    by_test true e = absurd (late (sym now ∙ ap (λ x. cond x Operations r.header.place) e))
    by_test false e = sym (ap (λ x. cond x Operations r.header.place) e) ∙ now

-- no child stands before a process
pub no_child_before : (r : ReaderState) (place : Place) (ws : List Text) → IsReader r → place_now r ≡ place → place ≢ Version → place ≢ Operations → has_process place ≡ false → IsOfHeader (so_far r).said ws
no_child_before r place ws ready at early late none =
    let nobody = ready.grown (ap has_process (place_is r place at early late) ∙ none) in
    ap (λ b. b || bytes_eq (word_at ws 0) (codes "shared")) (eq-eqb (length r.course.family.parents) 0 nobody)

-- nor where the kernel, a type or a limit stands
pub no_child_early : (r : ReaderState) (place : Place) (ws : List Text) → IsReader r → place ≡ place_now r → (place ≡ Kernel) ⊎ (place ≡ Types) ⊎ (place ≡ Limits) → IsOfHeader (so_far r).said ws
no_child_early r place ws ready at (inl e) = no_child_before r Kernel ws ready (sym at ∙ e) (λ x. absurd cc) (λ x. absurd cc) refl
no_child_early r place ws ready at (inr (inl e)) = no_child_before r Types ws ready (sym at ∙ e) (λ x. absurd cc) (λ x. absurd cc) refl
no_child_early r place ws ready at (inr (inr e)) = no_child_before r Limits ws ready (sym at ∙ e) (λ x. absurd cc) (λ x. absurd cc) refl
