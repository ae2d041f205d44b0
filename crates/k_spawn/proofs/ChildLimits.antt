-- The limits of a translation are a tree in which what is reserved fits.
use Rattle.std.proofs.Common.{◌≡◌, ◌∙◌, ℕ, zero, suc, ◌+◌, ◌-◌, ◌*◌, ◌^◌, ◌<◌, ◌≤◌, ◌==◌, Bool, true, false, cond, List, [], ◌∷◌, ◌++◌, length, map, None, refl, sym, ap, subst, arith, inl, inr, append_assoc, append-nil, slice_index_or}
use Rattle.std.proofs.lemmas.Bool.{cases_lt, leb-true, leb-false}
use Rattle.std.proofs.lemmas.List.{length-append, length-map, map-append, get_or_append_left, get_or-append-add}
use Rattle.k_types.specs.declared.names.LimitId.{LimitId}
use Rattle.k_types.specs.declared.setup.LimitRow.{LimitRow}
use Rattle.k_types.specs.Limits.{max_of, use_within}
use Rattle.k_types.specs.Numbers.{numbers_from}
use Rattle.k_types.specs.Trace.{limit_of, process_count}
use Rattle.k_types.specs.TraceRules.{AreLimits, IsTree}
use Rattle.k_types.proofs.Lists.{length_push, numbers_length, numbers_push, at_number}
use Rattle.k_types.proofs.Sums.{bit}
use Rattle.k_limits.proofs.Charges.{use_charged, use_deep}
use Rattle.k_limits.proofs.Reserves.{reservation, row_before, tree_before, use_before, use_last}
use Rattle.k_reader.proofs.Keeps.{each_row, tree_push}
use Rattle.k_reader.proofs.Kept.{AreRows}
use Rattle.k_reader.proofs.Reserved.{AllFit}
use Rattle.k_reader.proofs.Runs.{AreLater}
use Rattle.k_reader.proofs.Steps.{limit_row}
use Rattle.k_spawn.specs.Families.{IsFamily, children, is_child, parent_of, place_of}
use Rattle.k_spawn.specs.Scripts.{Script, family, limit_for}
use Rattle.k_spawn.specs.Translation.{child_row, limit_id, translation}
use Rattle.k_spawn.proofs.Gathered.{processes_are}

-- ---- a hard limit of maximum 0 fits under any limit

module _ (rows : List LimitRow) (parent : ℕ) (tree : IsTree (rows ++ limit_row parent true 0 ∷ [])) (known : parent < length rows) where
  -- it reserves nothing
  nothing_reserved : (q : ℕ) → 0 + reservation (limit_row parent true 0) q ≡ 0 + 0 * bit (q == parent)
  nothing_reserved q = elim (parent == q) as (λ b. 0 + cond b 0 0 ≡ 0 + 0 * bit (q == parent)) [
    | true ↦ omega arith
    | false ↦ omega arith
  ]

  use_kept : (m : ℕ) → m < length rows → use_within (rows ++ limit_row parent true 0 ∷ []) (λ q. 0) (length (rows ++ limit_row parent true 0 ∷ [])) m ≡ use_within rows (λ q. 0) (length rows) m
  use_kept m lt =
      let old = tree_before rows (limit_row parent true 0) tree in
      let more = length_push rows (limit_row parent true 0) in
      let before = use_before rows (limit_row parent true 0) tree (λ q. 0) refl (length (rows ++ limit_row parent true 0 ∷ [])) m lt in
      let deep = use_deep rows old (λ q. 0 + reservation (limit_row parent true 0) q) (length (rows ++ limit_row parent true 0 ∷ [])) (length rows) m lt (omega (arith, more)) (omega arith) in
      let charged = use_charged rows old parent known (λ q. 0) (λ q. 0 + reservation (limit_row parent true 0) q) 0 nothing_reserved m in
      omega (arith, before, deep, charged)

  max_kept : (m : ℕ) → m < length rows → max_of (rows ++ limit_row parent true 0 ∷ []) m ≡ max_of rows m
  max_kept m lt = ap (λ (r : LimitRow). r.max) (row_before rows (limit_row parent true 0) m lt)

  pub empty_fits : AllFit rows → AllFit (rows ++ limit_row parent true 0 ∷ [])
  empty_fits old m lt = elim (cases_lt m (length rows)) [
    | inl below ↦ let h = old m below in omega (arith, h, use_kept m below, max_kept m below)
    | inr above ↦ let e : m ≡ length rows = omega (arith, length_push rows (limit_row parent true 0)) in
        rw (e, use_last rows (limit_row parent true 0) tree (λ q. 0) refl (length (rows ++ limit_row parent true 0 ∷ []))) (omega arith)
  ]

-- one such limit more
empty_more : (rows : List LimitRow) (parent : ℕ) → parent < length rows → AreLater rows → AreLater (rows ++ limit_row parent true 0 ∷ [])
empty_more rows parent known later =
    let tree = tree_push rows (limit_row parent true 0) later.tree (λ p is. let e : parent ≡ p.0 = cc in omega (arith, e, known)) in record {
      tree = tree;
      rooted = each_row (λ k r. r.parent ≡ None → k ≡ 0) rows (limit_row parent true 0) later.rooted (λ is. absurd cc);
      fits = empty_fits rows parent tree known later.fits;
      small = each_row (λ k r. r.max < 2 ^ 40) rows (limit_row parent true 0) later.small (omega arith);
    }

-- ---- the limits of processes

-- the limit of each process of the header is one of the header's
abbrev pub AreLimited : Script → Type 0
AreLimited s = (p : ℕ) → p < process_count s.header.trace → limit_of s.header.trace p < length s.header.trace.limits

limit_by : (s : Script) (k p : ℕ) (b : Bool) → is_child (family s) p ≡ b → AreLimited s → p < process_count s.header.trace + k
    → cond b (length s.header.trace.limits + place_of (family s) p) (limit_of s.header.trace p) < length s.header.trace.limits + k
limit_by s k p true e limited lt = let first : process_count s.header.trace ≤ p = leb-true _ _ e in omega (arith, first, lt)
limit_by s k p false e limited lt = let h = limited p (leb-false _ _ e) in omega (arith, h)

-- the limit of a process before so many children stands before those of the others
pub limit_before : (s : Script) (k p : ℕ) → AreLimited s → p < process_count s.header.trace + k → limit_for s p < length s.header.trace.limits + k
limit_before s k p limited lt = limit_by s k p (is_child (family s) p) refl limited lt

-- how much a function gives for the children
pub given_length : {A : Type 0} (f : ℕ → A) (s : Script) (n : ℕ) → length (map f (numbers_from (process_count s.header.trace) n)) ≡ n
given_length f s n = length-map (numbers_from (process_count s.header.trace) n) f ∙ numbers_length (process_count s.header.trace) n

-- there are the limits of the header, and one for each child
pub limits_are : (s : Script) → length (translation s).trace.limits ≡ length s.header.trace.limits + length s.parents
limits_are s = length-append s.header.trace.limits (map (child_row s) (children (family s))) ∙ ap (λ n. length s.header.trace.limits + n) (given_length (child_row s) s (length s.parents))

limit_is_by : (s : Script) (p : ℕ) (b : Bool) → is_child (family s) p ≡ b → p < process_count s.header.trace + length s.parents
    → limit_of (translation s).trace p ≡ cond b (length s.header.trace.limits + place_of (family s) p) (limit_of s.header.trace p)
limit_is_by s p true e lt =
    let first : process_count s.header.trace ≤ p = leb-true _ _ e in
    let at : p ≡ process_count s.header.trace + (p - process_count s.header.trace) = omega (arith, first) in
    ap (limit_of (translation s).trace) at
    ∙ ap (λ (l : LimitId). l.0) (get_or-append-add s.header.trace.procs (map (limit_id s) (children (family s))) (p - process_count s.header.trace) (record { 0 = 0 }))
    ∙ ap (λ (l : LimitId). l.0) (at_number (limit_id s) (process_count s.header.trace) (length s.parents) (p - process_count s.header.trace) (record { 0 = 0 }) (omega (arith, first, lt)))
    ∙ ap (limit_for s) (sym at)
    ∙ ap (λ x. cond x (length s.header.trace.limits + place_of (family s) p) (limit_of s.header.trace p)) e
limit_is_by s p false e lt =
    ap (λ (l : LimitId). l.0) (get_or_append_left s.header.trace.procs (map (limit_id s) (children (family s))) (record { 0 = 0 }) p (leb-false _ _ e))

-- the limit of each process in the translation
pub limit_is : (s : Script) (p : ℕ) → p < process_count s.header.trace + length s.parents → limit_of (translation s).trace p ≡ limit_for s p
limit_is s p lt = limit_is_by s p (is_child (family s) p) refl lt

-- ---- the limits of the header and of so many children

abbrev rows_to : Script → ℕ → List LimitRow
rows_to s k = s.header.trace.limits ++ map (child_row s) (numbers_from (process_count s.header.trace) k)

rows_length : (s : Script) (k : ℕ) → length (rows_to s k) ≡ length s.header.trace.limits + k
rows_length s k = length-append s.header.trace.limits (map (child_row s) (numbers_from (process_count s.header.trace) k)) ∙ ap (λ n. length s.header.trace.limits + n) (given_length (child_row s) s k)

rows_next : (s : Script) (k : ℕ) → rows_to s (suc k) ≡ rows_to s k ++ child_row s (process_count s.header.trace + k) ∷ []
rows_next s k =
    let first = process_count s.header.trace in
    ap (λ (ns : List ℕ). s.header.trace.limits ++ map (child_row s) ns) (numbers_push first k)
    ∙ ap (λ (rows : List LimitRow). s.header.trace.limits ++ rows) (map-append (child_row s) (numbers_from first k) ((first + k) ∷ []))
    ∙ sym (append_assoc s.header.trace.limits (map (child_row s) (numbers_from first k)) (child_row s (first + k) ∷ []))

-- the parent of a child stands before it
parent_before : (s : Script) (k : ℕ) → IsFamily (family s) → k < length s.parents → parent_of (family s) (process_count s.header.trace + k) < process_count s.header.trace + k
parent_before s k fam inside =
    let place : process_count s.header.trace + k - process_count s.header.trace ≡ k = omega arith in
    subst (λ (i : ℕ). (slice_index_or s.parents i (record { 0 = 0 })).0 < process_count s.header.trace + k) (sym place) (fam.before k inside)

rows_kept : (s : Script) (k : ℕ) → IsFamily (family s) → AreLimited s → AreLater s.header.trace.limits → k ≤ length s.parents → AreLater (rows_to s k)
rows_kept s zero fam limited later le = subst AreLater (sym (append-nil s.header.trace.limits)) later
rows_kept s (suc k) fam limited later le =
    let known : limit_for s (parent_of (family s) (process_count s.header.trace + k)) < length (rows_to s k) =
    rw (rows_length s k) (limit_before s k (parent_of (family s) (process_count s.header.trace + k)) limited (parent_before s k fam (omega (arith, le)))) in
    subst AreLater (sym (rows_next s k)) (empty_more (rows_to s k) (limit_for s (parent_of (family s) (process_count s.header.trace + k))) known (rows_kept s k fam limited later (omega (arith, le))))

-- the limits of a translation keep the rules
pub limits_keep : (s : Script) → AreRows s.header.names.limits s.header.trace.limits → 0 < length s.header.trace.limits → AreLimited s → IsFamily (family s) → AreLimits (translation s).trace
limits_keep s rows some limited fam =
    let later = rows_kept s (length s.parents) fam limited (record { tree = rows.tree; rooted = rows.rooted; fits = rows.fits; small = rows.small }) (omega arith) in record {
      tree = later.tree;
      root = ap (λ (r : LimitRow). r.hard) (get_or_append_left s.header.trace.limits (map (child_row s) (children (family s))) (record { parent = None; hard = true; max = 0 }) 0 some) ∙ rows.root;
      rooted = later.rooted;
      limited = λ p lt.
          let inside : p < process_count s.header.trace + length s.parents = rw (← processes_are s) lt in
          rw (limit_is s p inside, limits_are s) (limit_before s (length s.parents) p limited inside);
      fits = later.fits;
      small = later.small;
    }
