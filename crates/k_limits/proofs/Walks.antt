-- Paths and ancestries, one limit after the other.
use Rattle.std.proofs.Common.{◌≡◌, ℕ, zero, suc, ◌+◌, ◌-◌, ◌*◌, ◌^◌, Fits, w64, ◌<◌, ◌≤◌, ◌==◌, ◌||◌, slice_set, Bool, true, false, cond, refl, ap, ◌∙◌, sym, List, ◌∷◌, length, find, Option, Some, None, subst, slice_index, slice_index_or, arith, eq-eqb, ne_eqb, inl, inr, zero-le}
use Rattle.std.proofs.lemmas.Bool.{cases_eq, lt-ltb, le-ltb}
use Rattle.std.proofs.lemmas.List.{get_or_default, get_or-set_same, get_or-set_other}
use Rattle.k_types.specs.Names.{among}
use Rattle.k_types.specs.declared.names.LimitId.{LimitId}
use Rattle.k_types.specs.declared.setup.LimitRow.{LimitRow}
use Rattle.k_types.specs.Trace.{row_of, no_row}
use Rattle.k_types.specs.TraceRules.{IsTree}
use Rattle.k_types.specs.Limits.{max_of, path_within, path_above, path_of, ancestors_within, ancestors_above, ancestors_of}
use Rattle.k_limits.specs.Paths.{InRows, is_over, passed_to, path_from, ancestry_from, times_on, steps_left}
use Rattle.k_types.proofs.Sums.{bit}

module _ (rows : List LimitRow) (tree : IsTree rows) where
  -- a path is whole at any depth that is enough
  pub path_deep : (d e m : ℕ) → m < d → m < e → m < length rows → path_within rows d m ≡ path_within rows e m
  unfolding path_within
  path_deep zero e m low high known = absurd (omega arith)
  path_deep (suc d) zero m low high known = absurd (omega arith)
  path_deep (suc d) (suc e) m low high known =
      ap (λ path. m ∷ path) (go (row_of rows m).hard (row_of rows m).parent refl (path_deep d e))
    where
      go : (hard : Bool) (parent : Option LimitId) → (row_of rows m).parent ≡ parent →
          ((r : ℕ) → r < d → r < e → r < length rows → path_within rows d r ≡ path_within rows e r) → path_above (path_within rows d) hard parent ≡ path_above (path_within rows e) hard parent
      go true parent is ih = refl
      go false None is ih = refl
      go false (Some r) is ih = let lower = tree m r known is in ih r.0 (omega arith) (omega arith) (omega arith)

  pub path_step : (m : ℕ) → m < length rows → path_of rows m ≡ m ∷ path_from rows (passed_to (row_of rows m))
  unfolding path_within
  path_step m known = go (length rows) known refl
    where
      above : (d : ℕ) → m ≤ d → d < length rows → (hard : Bool) (parent : Option LimitId) → (row_of rows m).parent ≡ parent →
          path_above (path_within rows d) hard parent ≡ path_from rows (cond hard None parent)
      above d low high true parent is = refl
      above d low high false None is = refl
      above d low high false (Some r) is = let lower = tree m r known is in path_deep d (length rows) r.0 (omega arith) (omega arith) (omega arith)

      go : (n : ℕ) → m < n → n ≡ length rows → path_within rows n m ≡ m ∷ path_from rows (passed_to (row_of rows m))
      go zero low is = absurd (omega arith)
      go (suc d) low is = ap (λ path. m ∷ path) (above d (omega arith) (omega arith) (row_of rows m).hard (row_of rows m).parent refl)

  -- the limit that a charge goes on to comes before the limit
  pub passed_lower : (m : ℕ) (r : LimitId) → m < length rows → passed_to (row_of rows m) ≡ Some r → r.0 < m
  passed_lower m r known is = go (row_of rows m).hard (row_of rows m).parent refl is
    where
      go : (hard : Bool) (parent : Option LimitId) → (row_of rows m).parent ≡ parent → cond hard None parent ≡ Some r → r.0 < m
      go true parent up is = absurd (cc)
      go false parent up is = tree m r known (up ∙ is)

  pub path_low : (depth m q : ℕ) → m < length rows → m < q → times_on (path_within rows depth m) q ≡ 0
  unfolding path_within
  path_low zero m q known high = refl
  path_low (suc depth) m q known high =
      let first = ap bit (ne_eqb m q (λ e. absurd (omega arith))) in
      omega (arith, first, go (row_of rows m).hard (row_of rows m).parent refl (path_low depth))
    where
      go : (hard : Bool) (parent : Option LimitId) → (row_of rows m).parent ≡ parent →
          ((r q : ℕ) → r < length rows → r < q → times_on (path_within rows depth r) q ≡ 0) → times_on (path_above (path_within rows depth) hard parent) q ≡ 0
      go true parent is ih = refl
      go false None is ih = refl
      go false (Some r) is ih = let lower = tree m r known is in ih r.0 q (omega arith) (omega arith)

  -- no limit stands twice on a path
  pub path_once : (depth m q : ℕ) → m < length rows → times_on (path_within rows depth m) q ≤ 1
  unfolding path_within
  path_once zero m q known = zero-le
  path_once (suc depth) m q known =
      elim (cases_eq m q) [
        | inl e ↦ let first = ap bit (eq-eqb m q e) in omega (arith, first, low (row_of rows m).hard (row_of rows m).parent refl (omega arith))
        | inr ne ↦ let first = ap bit (ne_eqb m q ne) in omega (arith, first, go (row_of rows m).hard (row_of rows m).parent refl (path_once depth))
      ]
    where
      low : (hard : Bool) (parent : Option LimitId) → (row_of rows m).parent ≡ parent → m ≤ q → times_on (path_above (path_within rows depth) hard parent) q ≡ 0
      low true parent is le = refl
      low false None is le = refl
      low false (Some r) is le = let lower = tree m r known is in path_low depth r.0 q (omega arith) (omega arith)

      go : (hard : Bool) (parent : Option LimitId) → (row_of rows m).parent ≡ parent →
          ((r q : ℕ) → r < length rows → times_on (path_within rows depth r) q ≤ 1) → times_on (path_above (path_within rows depth) hard parent) q ≤ 1
      go true parent is ih = zero-le
      go false None is ih = zero-le
      go false (Some r) is ih = let lower = tree m r known is in ih r.0 q (omega arith)

  -- the same of ancestors
  pub ancestors_deep : (d e m : ℕ) → m < d → m < e → m < length rows → ancestors_within rows d m ≡ ancestors_within rows e m
  unfolding ancestors_within
  ancestors_deep zero e m low high known = absurd (omega arith)
  ancestors_deep (suc d) zero m low high known = absurd (omega arith)
  ancestors_deep (suc d) (suc e) m low high known = go (row_of rows m).parent refl (ancestors_deep d e)
    where
      go : (parent : Option LimitId) → (row_of rows m).parent ≡ parent →
          ((r : ℕ) → r < d → r < e → r < length rows → ancestors_within rows d r ≡ ancestors_within rows e r) → ancestors_above (ancestors_within rows d) parent ≡ ancestors_above (ancestors_within rows e) parent
      go None is ih = refl
      go (Some r) is ih = let lower = tree m r known is in ap (λ up. r.0 ∷ up) (ih r.0 (omega arith) (omega arith) (omega arith))

  pub ancestors_step : (m : ℕ) → m < length rows → ancestors_of rows m ≡ ancestry_from rows (row_of rows m).parent
  unfolding ancestors_within
  ancestors_step m known = go (length rows) known refl
    where
      above : (d : ℕ) → m ≤ d → d < length rows → (parent : Option LimitId) → (row_of rows m).parent ≡ parent → ancestors_above (ancestors_within rows d) parent ≡ ancestry_from rows parent
      above d low high None is = refl
      above d low high (Some r) is = let lower = tree m r known is in ap (λ up. r.0 ∷ up) (ancestors_deep d (length rows) r.0 (omega arith) (omega arith) (omega arith))

      go : (n : ℕ) → m < n → n ≡ length rows → ancestors_within rows n m ≡ ancestry_from rows (row_of rows m).parent
      go zero low is = absurd (omega arith)
      go (suc d) low is = above d (omega arith) (omega arith) (row_of rows m).parent refl

  pub passed_in : (m : ℕ) → m < length rows → InRows rows (passed_to (row_of rows m))
  passed_in m known = go (passed_to (row_of rows m)) refl
    where
      go : (next : Option LimitId) → passed_to (row_of rows m) ≡ next → InRows rows next
      go None is = tt
      go (Some r) is = let lower = passed_lower m r known is in omega arith

  pub parent_in : (m : ℕ) → m < length rows → InRows rows (row_of rows m).parent
  parent_in m known = go (row_of rows m).parent refl
    where
      go : (next : Option LimitId) → (row_of rows m).parent ≡ next → InRows rows next
      go None is = tt
      go (Some r) is = let lower = tree m r known is in omega arith

  pub passed_fewer : (m : ℕ) → m < length rows → steps_left (passed_to (row_of rows m)) < suc m
  passed_fewer m known = go (passed_to (row_of rows m)) refl
    where
      go : (next : Option LimitId) → passed_to (row_of rows m) ≡ next → steps_left next < suc m
      go None is = omega arith
      go (Some r) is = let lower = passed_lower m r known is in omega arith

  pub parent_fewer : (m : ℕ) → m < length rows → steps_left (row_of rows m).parent < suc m
  parent_fewer m known = go (row_of rows m).parent refl
    where
      go : (next : Option LimitId) → (row_of rows m).parent ≡ next → steps_left next < suc m
      go None is = omega arith
      go (Some r) is = let lower = tree m r known is in omega arith

-- a row as the code reads it
pub row_at : (rows : List LimitRow) (m : ℕ) (d : LimitRow) → m < length rows → slice_index_or rows m d ≡ row_of rows m
row_at rows m d known = get_or_default rows m d no_row known

times_one : (n a b : ℕ) → a ≡ 1 + b → n * a ≡ n + n * b
times_one n a b e = ap (λ k. n * k) e ∙ omega arith

times_none : (n a b : ℕ) → a ≡ b → n * a ≡ n * b
times_none n a b e = ap (λ k. n * k) e

-- a step of a walk from next, which is this limit
module _ (rows : List LimitRow) (tree : IsTree rows) (next : Option LimitId) (limit : LimitId) (is : next ≡ Some limit) (known : InRows rows next) where
  pub walk_in : limit.0 < length rows
  walk_in = subst (InRows rows) is known

  -- what the code reads of the limit's row
  pub goes_at : (after : Option LimitId) (d : LimitRow) → after ≡ passed_to (slice_index_or rows limit.0 d) → after ≡ passed_to (row_of rows limit.0)
  goes_at after d goes = goes ∙ ap passed_to (row_at rows limit.0 d walk_in)

  path_is : path_from rows next ≡ limit.0 ∷ path_from rows (passed_to (row_of rows limit.0))
  path_is = ap (path_from rows) is ∙ path_step rows tree limit.0 walk_in

  pub next_in : (after : Option LimitId) → after ≡ passed_to (row_of rows limit.0) → InRows rows after
  next_in after goes = subst (InRows rows) (sym goes) (passed_in rows tree limit.0 walk_in)

  pub next_fewer : (after : Option LimitId) → after ≡ passed_to (row_of rows limit.0) → steps_left after < steps_left next
  next_fewer after goes =
      let before : steps_left next ≡ suc limit.0 = ap steps_left is in
      let e : steps_left after ≡ steps_left (passed_to (row_of rows limit.0)) = ap steps_left goes in
      omega (arith, before, e, passed_fewer rows tree limit.0 walk_in)

  pub up_in : (d : LimitRow) → InRows rows (slice_index_or rows limit.0 d).parent
  up_in d = subst (λ (row : LimitRow). InRows rows row.parent) (sym (row_at rows limit.0 d walk_in)) (parent_in rows tree limit.0 walk_in)

  pub up_fewer : (d : LimitRow) → steps_left (slice_index_or rows limit.0 d).parent < steps_left next
  up_fewer d =
      let before : steps_left next ≡ suc limit.0 = ap steps_left is in
      let e : steps_left (slice_index_or rows limit.0 d).parent ≡ steps_left (row_of rows limit.0).parent = ap (λ (row : LimitRow). steps_left row.parent) (row_at rows limit.0 d walk_in) in
      omega (arith, before, e, parent_fewer rows tree limit.0 walk_in)

  ancestry_is : (d : LimitRow) → ancestry_from rows next ≡ limit.0 ∷ ancestry_from rows (slice_index_or rows limit.0 d).parent
  ancestry_is d = ap (ancestry_from rows) is ∙ ap (λ up. limit.0 ∷ up) (ancestors_step rows tree limit.0 walk_in) ∙ ap (λ row. limit.0 ∷ ancestry_from rows row.parent) (sym (row_at rows limit.0 d walk_in))

  -- the limit is the one that is looked for
  pub below_here : (upper : ℕ) (ancestry : List ℕ) → among upper (ancestry_from rows next) ≡ among upper ancestry → (limit.0 == upper) ≡ true → true ≡ among upper ancestry
  below_here upper ancestry same here = sym (ap (among upper) (ancestry_is no_row) ∙ ap (λ b. b || among upper (ancestry_from rows (row_of rows limit.0).parent)) here) ∙ same

  -- it isn't, and the search goes on
  pub below_later : (d : LimitRow) (upper : ℕ) (ancestry : List ℕ) → among upper (ancestry_from rows next) ≡ among upper ancestry → (limit.0 == upper) ≡ false →
      among upper (ancestry_from rows (slice_index_or rows limit.0 d).parent) ≡ among upper ancestry
  below_later d upper ancestry same other = sym (ap (among upper) (ancestry_is d) ∙ ap (λ b. b || among upper (ancestry_from rows (slice_index_or rows limit.0 d).parent)) other) ∙ same

  -- the limit passes the test, and is what is found
  pub found_here : (p : ℕ → Bool) (path : List ℕ) → find p (path_from rows next) ≡ find p path → p limit.0 ≡ true → Some limit.0 ≡ find p path
  found_here p path same here = sym (ap (find p) path_is ∙ ap (λ b. cond b (Some limit.0) (find p (path_from rows (passed_to (row_of rows limit.0))))) here) ∙ same

  -- it doesn't, and the search goes on
  pub found_later : (p : ℕ → Bool) (path : List ℕ) (after : Option LimitId) → after ≡ passed_to (row_of rows limit.0) → find p (path_from rows next) ≡ find p path → p limit.0 ≡ false → find p (path_from rows after) ≡ find p path
  found_later p path after goes same not_here =
      ap (λ to. find p (path_from rows to)) goes
      ∙ sym (ap (find p) path_is ∙ ap (λ b. cond b (Some limit.0) (find p (path_from rows (passed_to (row_of rows limit.0))))) not_here)
      ∙ same

  -- the limit is one of those that are left, and the rest are those after it
  pub times_left : (after : Option LimitId) → after ≡ passed_to (row_of rows limit.0) → (m : ℕ) → times_on (path_from rows next) m ≡ bit (limit.0 == m) + times_on (path_from rows after) m
  times_left after goes m = ap (λ path. times_on path m) path_is ∙ ap (λ to. bit (limit.0 == m) + times_on (path_from rows to) m) (sym goes)

  module _ (uses : List ℕ) (n : ℕ) (all : length uses ≡ length rows) where
    set_at : (v m : ℕ) → slice_index (slice_set uses limit.0 v) m ≡ cond (limit.0 == m) v (slice_index uses m)
    set_at v m =
        elim (cases_eq limit.0 m) [
          | inl e ↦ rw (eq-eqb limit.0 m e) (ap (λ k. slice_index (slice_set uses limit.0 v) k) (sym e) ∙ get_or-set_same uses limit.0 v 0 (omega (arith, walk_in)))
          | inr ne ↦ rw (ne_eqb limit.0 m ne) (get_or-set_other uses limit.0 m v 0 (λ e. ne (sym e)))
        ]

    times_here : (after : Option LimitId) → after ≡ passed_to (row_of rows limit.0) → times_on (path_from rows next) limit.0 ≡ 1 + times_on (path_from rows after) limit.0
    times_here after goes = let here = ap bit (eq-eqb limit.0 limit.0 refl) in let left = times_left after goes limit.0 in omega (arith, here, left)

    -- the limit is raised, and with what is left every use is what it was to be
    pub raised_left : (whole : ℕ → ℕ) (after : Option LimitId) → after ≡ passed_to (row_of rows limit.0)
        → ((m : ℕ) → m < length rows → slice_index uses m + n * times_on (path_from rows next) m ≡ whole m)
        → (m : ℕ) → m < length rows → slice_index (slice_set uses limit.0 (slice_index uses limit.0 + n)) m + n * times_on (path_from rows after) m ≡ whole m
    raised_left whole after goes before m inside =
        let set = set_at (slice_index uses limit.0 + n) m in
        let left = times_left after goes m in
        let was = before m inside in
        elim (cases_eq limit.0 m) [
          | inl e ↦ (let same = ap (slice_index uses) e in let one = eq-eqb limit.0 m e in let here = ap bit one in let now = ap (λ b. cond b (slice_index uses limit.0 + n) (slice_index uses m)) one in
              let t = times_one n (times_on (path_from rows next) m) (times_on (path_from rows after) m) (omega (arith, left, here)) in omega (arith, set, now, was, same, t))
          | inr ne ↦ (let none = ne_eqb limit.0 m ne in let here = ap bit none in let now = ap (λ b. cond b (slice_index uses limit.0 + n) (slice_index uses m)) none in
              let t = times_none n (times_on (path_from rows next) m) (times_on (path_from rows after) m) (omega (arith, left, here)) in omega (arith, set, now, was, t))
        ]

    pub room_left : (most : ℕ) (whole : ℕ → ℕ) → ((m : ℕ) → m < length rows → slice_index uses m + n * times_on (path_from rows next) m ≡ whole m) → ((m : ℕ) → m < length rows → whole m < most) → slice_index uses limit.0 + n < most
    room_left most whole before small =
        let t = times_one n (times_on (path_from rows next) limit.0) (times_on (path_from rows (passed_to (row_of rows limit.0))) limit.0) (times_here (passed_to (row_of rows limit.0)) refl) in
        omega (arith, before limit.0 walk_in, small limit.0 walk_in, t)

    pub enough_left : (whole taken : ℕ → ℕ) → ((m : ℕ) → m < length rows → slice_index uses m + taken m ≡ whole m + n * times_on (path_from rows next) m) → ((m : ℕ) → m < length rows → taken m ≤ whole m) → n ≤ slice_index uses limit.0
    enough_left whole taken before enough =
        let t = times_one n (times_on (path_from rows next) limit.0) (times_on (path_from rows (passed_to (row_of rows limit.0))) limit.0) (times_here (passed_to (row_of rows limit.0)) refl) in
        omega (arith, before limit.0 walk_in, enough limit.0 walk_in, t)

    -- the limit is lowered, and with what was to be taken from it every use is what it was and what is left to be taken
    pub lowered_left : (whole taken : ℕ → ℕ) (after : Option LimitId) → after ≡ passed_to (row_of rows limit.0)
        → ((m : ℕ) → m < length rows → slice_index uses m + taken m ≡ whole m + n * times_on (path_from rows next) m) → ((m : ℕ) → m < length rows → taken m ≤ whole m)
        → (m : ℕ) → m < length rows → slice_index (slice_set uses limit.0 (slice_index uses limit.0 - n)) m + taken m ≡ whole m + n * times_on (path_from rows after) m
    lowered_left whole taken after goes before enough m inside =
        let set = set_at (slice_index uses limit.0 - n) m in
        let left = times_left after goes m in
        let was = before m inside in
        elim (cases_eq limit.0 m) [
          | inl e ↦ (let same = ap (slice_index uses) e in let one = eq-eqb limit.0 m e in let here = ap bit one in let now = ap (λ b. cond b (slice_index uses limit.0 - n) (slice_index uses m)) one in
              let low = enough_left whole taken before enough in
              let t = times_one n (times_on (path_from rows next) m) (times_on (path_from rows after) m) (omega (arith, left, here)) in omega (arith, set, now, was, same, t, low))
          | inr ne ↦ (let none = ne_eqb limit.0 m ne in let here = ap bit none in let now = ap (λ b. cond b (slice_index uses limit.0 - n) (slice_index uses m)) none in
              let t = times_none n (times_on (path_from rows next) m) (times_on (path_from rows after) m) (omega (arith, left, here)) in omega (arith, set, now, was, t))
        ]

-- the code's test of a limit, and that of the definitions
pub over : (rows : List LimitRow) (uses : List ℕ) (n m : ℕ) (d : LimitRow) → m < length rows → slice_index uses m ≤ max_of rows m → (slice_index_or rows m d).max - slice_index uses m < n → is_over rows uses n m ≡ true
over rows uses n m d known fit test =
    let e : (slice_index_or rows m d).max ≡ max_of rows m = ap (λ (row : LimitRow). row.max) (row_at rows m d known) in
    lt-ltb (max_of rows m) (slice_index uses m + n) (omega (arith, e, fit, test))

pub not_over : (rows : List LimitRow) (uses : List ℕ) (n m : ℕ) (d : LimitRow) → m < length rows → slice_index uses m ≤ max_of rows m → n ≤ (slice_index_or rows m d).max - slice_index uses m → is_over rows uses n m ≡ false
not_over rows uses n m d known fit test =
    let e : (slice_index_or rows m d).max ≡ max_of rows m = ap (λ (row : LimitRow). row.max) (row_at rows m d known) in
    le-ltb (max_of rows m) (slice_index uses m + n) (omega (arith, e, fit, test))

-- the search for an ancestor begins at the parent
pub first_up : (rows : List LimitRow) → IsTree rows → (m : ℕ) (d : LimitRow) → m < length rows → (upper : ℕ) →
    InRows rows (slice_index_or rows m d).parent × (among upper (ancestry_from rows (slice_index_or rows m d).parent) ≡ among upper (ancestors_of rows m))
first_up rows tree m d known upper = (
  subst (λ (row : LimitRow). InRows rows row.parent) (sym (row_at rows m d known)) (parent_in rows tree m known),
  ap (λ (row : LimitRow). among upper (ancestry_from rows row.parent)) (row_at rows m d known) ∙ ap (among upper) (sym (ancestors_step rows tree m known)),
)

pub fits : (n : ℕ) → n < 2 ^ 64 → Fits w64 n
fits n small = omega (arith, small)
