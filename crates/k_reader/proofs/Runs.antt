-- The header of a trace is a run.
use Rattle.std.proofs.Common.{◌≡◌, ◌∙◌, ℕ, ◌+◌, ◌^◌, ◌<◌, ◌≤◌, Bool, true, false, not, ◌||◌, List, [], ◌∷◌, ◌++◌, length, Option, Some, None, refl, sym, ap, subst, arith, append_assoc}
use Rattle.std.proofs.lemmas.List.{get_or_append_left, length-append, append-nil}
use Rattle.std.proofs.Math.Seq.{get_or-append_seam}
use Rattle.k_limits.specs.k_types.declared.names.Field.{Field}
use Rattle.k_limits.specs.k_types.declared.names.LimitId.{LimitId}
use Rattle.k_limits.specs.k_types.declared.setup.LimitRow.{LimitRow}
use Rattle.k_limits.specs.k_types.Trace.{row_of, no_row}
use Rattle.k_limits.specs.k_types.TraceRules.{IsTree}
use Rattle.k_limits.specs.k_types.Limits.{max_of}
use Rattle.k_words.specs.Words.{Text, word_at}
use Rattle.k_words.specs.Names.{is_name}
use Rattle.k_trace.specs.declared.place.Place.TheVariants.{Types, Limits}
use Rattle.k_trace.specs.Named.{DeclaredNames, NamedTrace}
use Rattle.k_trace.specs.Rules.{AreNames}
use Rattle.k_trace.specs.Spelling.{declarations, type_words, limit_words}
use Rattle.k_trace.specs.Grown.{fits, with_type, with_limit}
use Rattle.k_trace.specs.Judgement.{SoFar}
use Rattle.k_trace.proofs.Pushed.{fresh_at}
use Rattle.k_limits.proofs.Lists.{length_push}
use Rattle.k_reader.proofs.Reserved.{AllFit, fit_none, fit_before}
use Rattle.k_reader.proofs.Steps.{at_place, limit_row, Step, OfType, OfLimit, Run}

pub run_to : (c d e : SoFar) (wss : List (List Text)) → Run c wss d → d ≡ e → Run c wss e
run_to c d e wss run same = subst (λ (x : SoFar). Run c wss x) same run

pub run_then : (c d e : SoFar) (a b : List (List Text)) → Run c a d → Run d b e → Run c (a ++ b) e
run_then c d e [] b r s = subst (λ (x : SoFar). Run x b e) (sym r) s
run_then c d e (ws ∷ a) b r s = (r.0, r.1, run_then r.0 d e a b r.2 s)

-- ---- names

pub good_at : (xs : List Text) (n : Text) (ns : List Text) → AreNames (xs ++ n ∷ ns) → is_name n ≡ true
good_at xs n ns all = subst (λ (w : Text). is_name w ≡ true) (get_or-append_seam xs n ns []) (all.each (length xs) (omega (arith, length-append xs (n ∷ ns))))

pub moved : (xs : List Text) (n : Text) (ns : List Text) → AreNames (xs ++ n ∷ ns) → AreNames ((xs ++ n ∷ []) ++ ns)
moved xs n ns all = subst AreNames (sym (append_assoc xs (n ∷ []) ns)) all

-- ---- types

abbrev pub with_types : NamedTrace → List Text → List (List Field) → NamedTrace
with_types t ns rows = record { names = record t.names { types = t.names.types ++ ns }; trace = record t.trace { types = t.trace.types ++ rows } }

types_none : (t : NamedTrace) → t ≡ with_types t [] []
types_none t = rw (append-nil t.names.types, append-nil t.trace.types) refl

types_more : (t : NamedTrace) (n : Text) (ns : List Text) (r : List Field) (rs : List (List Field)) → with_types (with_type t n r) ns rs ≡ with_types t (n ∷ ns) (r ∷ rs)
types_more t n ns r rs = rw (append_assoc t.names.types (n ∷ []) ns, append_assoc t.trace.types (r ∷ []) rs) refl

abbrev pub AllSmall : List (List Field) → Type 0
AllSmall [] = Unit {0}
AllSmall (r ∷ rs) = (length r ≤ 16) × AllSmall rs

pub types_run : (ns : List Text) (rs : List (List Field)) (t : NamedTrace) → length ns ≡ length rs → AreNames (t.names.types ++ ns) → length t.names.types + length ns ≤ 256 → AllSmall rs
    → Run (at_place Types t) (declarations type_words ns rs) (at_place Types (with_types t ns rs))
types_run [] [] t e all few small = ap (at_place Types) (types_none t)
types_run [] (r ∷ rs) t e all few small = absurd cc
types_run (n ∷ ns) [] t e all few small = absurd cc
types_run (n ∷ ns) (r ∷ rs) t e all few small =
    let f : length ns ≡ length rs = cc in
    let step : Step (at_place Types t) (type_words n r) (at_place Types (with_type t n r)) = OfType (record {
      name = n;
      fields = r;
      at = refl;
      named = good_at t.names.types n ns all;
      fresh = fresh_at t.names.types n ns all;
      few_fields = small.0;
      few = omega (arith, few);
      words = refl;
      after = refl;
    }) in (
      at_place Types (with_type t n r),
      step,
      run_to (at_place Types (with_type t n r)) (at_place Types (with_types (with_type t n r) ns rs)) (at_place Types (with_types t (n ∷ ns) (r ∷ rs))) (declarations type_words ns rs)
          (types_run ns rs (with_type t n r) f (moved t.names.types n ns all) (omega (arith, few, length_push t.names.types n)) small.1)
          (ap (at_place Types) (types_more t n ns r rs)),
    )

-- ---- limits

abbrev pub with_limits : NamedTrace → List Text → List LimitRow → NamedTrace
with_limits t ns rows = record { names = record t.names { limits = t.names.limits ++ ns }; trace = record t.trace { limits = t.trace.limits ++ rows } }

pub limits_more : (t : NamedTrace) (n : Text) (ns : List Text) (r : LimitRow) (rs : List LimitRow) → with_limits (with_limit t n r) ns rs ≡ with_limits t (n ∷ ns) (r ∷ rs)
limits_more t n ns r rs = rw (append_assoc t.names.limits (n ∷ []) ns, append_assoc t.trace.limits (r ∷ []) rs) refl

-- a row by its parent
pub row_is : (row : LimitRow) (p : LimitId) → row.parent ≡ Some p → row ≡ limit_row p.0 row.hard row.max
row_is row p e = ap (λ (o : Option LimitId). let r : LimitRow = record { parent = o; hard = row.hard; max = row.max } in r) e

-- rows of which the first one alone may be a root
pub record AreLater (rows : List LimitRow) : Type 0 where
  pub tree : IsTree rows
  pub rooted : (m : ℕ) → m < length rows → (row_of rows m).parent ≡ None → m ≡ 0
  pub fits : AllFit rows
  pub small : (m : ℕ) → m < length rows → max_of rows m < 2 ^ 40

pub front_tree : (xs ys : List LimitRow) → IsTree (xs ++ ys) → IsTree xs
front_tree xs ys tree m parent lt is = tree m parent (omega (arith, lt, length-append xs ys)) (rw (get_or_append_left xs ys no_row m lt) is)

-- what holds of the row behind others
pub seam : (xs : List LimitRow) (y : LimitRow) (ys : List LimitRow) → row_of (xs ++ y ∷ ys) (length xs) ≡ y
seam xs y ys = get_or-append_seam xs y ys no_row

fit_less : (xs : List LimitRow) (y : LimitRow) → IsTree (xs ++ y ∷ []) → (y.parent ≡ None → xs ≡ []) → AllFit (xs ++ y ∷ []) → AllFit xs
fit_less xs y tree rooted all = go y.parent refl
  where
    go : (o : Option LimitId) → y.parent ≡ o → AllFit xs
    go None e = subst AllFit (sym (rooted e)) fit_none
    go (Some p) e =
        let known : p.0 < length xs = tree (length xs) p (omega (arith, length_push xs y)) (ap (λ (r : LimitRow). r.parent) (seam xs y []) ∙ e) in
        let f = row_is y p e in
        fit_before xs p.0 y.hard y.max (subst (λ (r : LimitRow). IsTree (xs ++ r ∷ [])) f tree) known (subst (λ (r : LimitRow). AllFit (xs ++ r ∷ [])) f all)

nothing_before : (xs : List LimitRow) → length xs ≡ 0 → xs ≡ []
nothing_before [] e = refl
nothing_before (x ∷ xs) e = absurd cc

pub fit_front : (ys xs : List LimitRow) → IsTree (xs ++ ys) → ((m : ℕ) → m < length (xs ++ ys) → (row_of (xs ++ ys) m).parent ≡ None → m ≡ 0) → AllFit (xs ++ ys) → AllFit xs
fit_front [] xs tree rooted all = subst AllFit (append-nil xs) all
fit_front (y ∷ ys) xs tree rooted all =
    let e = append_assoc xs (y ∷ []) ys in
    let tree' : IsTree ((xs ++ y ∷ []) ++ ys) = subst IsTree (sym e) tree in
    let front = fit_front ys (xs ++ y ∷ []) tree' (subst (λ (rows : List LimitRow). (m : ℕ) → m < length rows → (row_of rows m).parent ≡ None → m ≡ 0) (sym e) rooted) (subst AllFit (sym e) all) in
    fit_less xs y (front_tree (xs ++ y ∷ []) ys tree')
    (λ none. nothing_before xs (rooted (length xs) (omega (arith, length-append xs (y ∷ ys))) (ap (λ (r : LimitRow). r.parent) (seam xs y ys) ∙ none))) front

-- a limit's words go by the name of its parent
words_by_parent : (a b : DeclaredNames) (m : Text) (parent : ℕ) (hard : Bool) (max : ℕ) → word_at a.limits parent ≡ word_at b.limits parent
    → limit_words a m (limit_row parent hard max) ≡ limit_words b m (limit_row parent hard max)
words_by_parent a b m parent true max e = rw e refl
words_by_parent a b m parent false max e = rw e refl

pub limit_step : (t : NamedTrace) (full : DeclaredNames) (n : Text) (ns : List Text) (row : LimitRow) (p : LimitId) → row.parent ≡ Some p → full.limits ≡ t.names.limits ++ n ∷ ns
    → AreNames (t.names.limits ++ n ∷ ns) → length t.names.limits ≡ length t.trace.limits → p.0 < length t.trace.limits → length t.names.limits < 128 → row.max < 2 ^ 40
    → (not row.hard || fits t.trace.limits p.0 row.max) ≡ true
    → Step (at_place Limits t) (limit_words full n row) (at_place Limits (with_limit t n row))
limit_step t full n ns row p e names all same known few small room =
    let declared : p.0 < length t.names.limits = omega (arith, same, known) in
    let f = row_is row p e in
    OfLimit (record {
      name = n;
      parent = p.0;
      hard = row.hard;
      max = row.max;
      at = refl;
      named = good_at t.names.limits n ns all;
      fresh = fresh_at t.names.limits n ns all;
      small = small;
      declared = declared;
      few = few;
      room = room;
      words = ap (limit_words full n) f ∙ words_by_parent full t.names n p.0 row.hard row.max
          (ap (λ (ws : List Text). word_at ws p.0) names ∙ get_or_append_left t.names.limits (n ∷ ns) [] p.0 declared);
      after = ap (λ (r : LimitRow). at_place Limits (with_limit t n r)) f;
    })
