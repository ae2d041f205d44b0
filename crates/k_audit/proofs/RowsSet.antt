-- A register that is set behind all others: one line more, at the end.
use Rattle.std.proofs.Common.{◌≡◌, ◌∙◌, ℕ, zero, suc, ◌+◌, ◌*◌, ◌<◌, ◌≤◌, inl, inr, List, [], ◌∷◌, ◌++◌, length, get_or, set, length-set, Option, Some, None, refl, sym, ap, ap₂, arith, append_assoc, append-nil, get_or-set_same, get_or-set_other}
use Rattle.std.specs.Prelude.{IfSome}
use Rattle.std.specs.List.{AllByRecursion}
use Rattle.std.proofs.lemmas.Bool.{cases_eq}
use Rattle.k_types.specs.declared.names.Name.{Name}
use Rattle.k_words.specs.Words.{Text}
use Rattle.k_trace.specs.Named.{DeclaredNames}
use Rattle.k_audit.proofs.RootRuns.{root_words, row_lines, rows_lines}
use Rattle.k_state.proofs.Shapes.{all_at_index}

-- no register from that number on is set; the first row is that of this process
abbrev pub AreNullFrom : ℕ → ℕ → List (List (Option Name)) → Type 0
AreNullFrom first least rows = (i r : ℕ) → i < length rows → r < 16 → least ≤ (first + i) * 16 + r → get_or (get_or rows i []) r None ≡ None

-- ---- rows of null registers have no lines

null_row : (names : DeclaredNames) (p r : ℕ) (row : List (Option Name)) → ((j : ℕ) → j < length row → get_or row j None ≡ None) → row_lines names p r row ≡ []
null_row names p r [] null = refl
null_row names p r (None ∷ row) null = null_row names p (suc r) row (λ j inside. null (suc j) (omega (arith, inside)))
null_row names p r (Some n ∷ row) null = absurd (let bad : Some n ≡ None = null 0 (omega arith) in cc)

pub null_rows : (names : DeclaredNames) (p : ℕ) (rows : List (List (Option Name))) → AllByRecursion (λ row. length row ≡ 16) rows → ((i r : ℕ) → i < length rows → r < 16 → get_or (get_or rows i []) r None ≡ None) → rows_lines names p rows ≡ []
null_rows names p [] each null = refl
null_rows names p (row ∷ rows) each null =
    let sixteen = each.0 in
    ap₂ (λ (a : List (List Text)) (b : List (List Text)). a ++ b) (null_row names p 0 row (λ j inside. null 0 j (omega arith) (omega (arith, sixteen, inside))))
    (null_rows names (suc p) rows each.1 (λ i r inside low. null (suc i) r (omega (arith, inside)) low))

-- ---- one register more

row_set : (names : DeclaredNames) (p r k : ℕ) (n : Name) (row : List (Option Name)) → k < length row → ((j : ℕ) → k ≤ j → j < length row → get_or row j None ≡ None) →
    row_lines names p r (set row k (Some n)) ≡ row_lines names p r row ++ root_words names p (r + k) n ∷ []
row_set names p r k n [] inside null = absurd (omega (arith, inside))
row_set names p r zero n (None ∷ row) inside null =
    let none = null_row names p (suc r) row (λ j low. null (suc j) (omega arith) (omega (arith, low))) in
    ap (λ (ls : List (List Text)). root_words names p r n ∷ ls) none
    ∙ ap (λ k. root_words names p k n ∷ []) (let e : r ≡ r + 0 = omega arith in e)
    ∙ ap (λ (ls : List (List Text)). ls ++ root_words names p (r + 0) n ∷ []) (sym none)
row_set names p r zero n (Some m ∷ row) inside null = absurd (let bad : Some m ≡ None = null 0 (omega arith) (omega arith) in cc)
row_set names p r (suc k) n (None ∷ row) inside null =
    row_set names p (suc r) k n row (omega (arith, inside)) (λ j low there. null (suc j) (omega (arith, low)) (omega (arith, there)))
    ∙ ap (λ q. row_lines names p (suc r) row ++ root_words names p q n ∷ []) (let e : suc r + k ≡ r + suc k = omega arith in e)
row_set names p r (suc k) n (Some m ∷ row) inside null =
    ap (λ (ls : List (List Text)). root_words names p r m ∷ ls)
    (row_set names p (suc r) k n row (omega (arith, inside)) (λ j low there. null (suc j) (omega (arith, low)) (omega (arith, there)))
    ∙ ap (λ q. row_lines names p (suc r) row ++ root_words names p q n ∷ []) (let e : suc r + k ≡ r + suc k = omega arith in e))

pub rows_set : (names : DeclaredNames) (p i r least : ℕ) (n : Name) (rows : List (List (Option Name))) → i < length rows → r < 16 → least ≤ (p + i) * 16 + r → AllByRecursion (λ row. length row ≡ 16) rows → AreNullFrom p least rows →
    rows_lines names p (set rows i (set (get_or rows i []) r (Some n))) ≡ rows_lines names p rows ++ root_words names (p + i) r n ∷ []
rows_set names p i r least n [] inside small low each null = absurd (omega (arith, inside))
rows_set names p zero r least n (row ∷ rows) inside small low each null =
    let sixteen = each.0 in
    let none = null_rows names (suc p) rows each.1 (λ j q there below. null (suc j) q (omega (arith, there)) below (omega (arith, low, small))) in
    let one = row_set names p 0 r n row (omega (arith, sixteen, small)) (λ j above there. null 0 j (omega arith) (omega (arith, sixteen, there)) (omega (arith, low, above))) in
    ap₂ (λ (a : List (List Text)) (b : List (List Text)). a ++ b) one none
    ∙ append-nil (row_lines names p 0 row ++ root_words names p (0 + r) n ∷ [])
    ∙ ap₂ (λ (a : List (List Text)) (l : List Text). a ++ l ∷ []) (sym (append-nil (row_lines names p 0 row)) ∙ ap (λ (b : List (List Text)). row_lines names p 0 row ++ b) (sym none))
    (ap₂ (λ x y. root_words names x y n) (let e : p ≡ p + 0 = omega arith in e) (let e : 0 + r ≡ r = omega arith in e))
rows_set names p (suc i) r least n (row ∷ rows) inside small low each null =
    ap (λ (ls : List (List Text)). row_lines names p 0 row ++ ls)
    (rows_set names (suc p) i r least n rows (omega (arith, inside)) small (omega (arith, low)) each.1 (λ j q there below high. null (suc j) q (omega (arith, there)) below (omega (arith, high))))
    ∙ sym (append_assoc (row_lines names p 0 row) (rows_lines names (suc p) rows) (root_words names (suc p + i) r n ∷ []))
    ∙ ap (λ q. (row_lines names p 0 row ++ rows_lines names (suc p) rows) ++ root_words names q r n ∷ []) (let e : suc p + i ≡ p + suc i = omega arith in e)

-- ---- what the rows keep

all_set : {A : Type 0} (holds : A → Type 0) (xs : List A) (i : ℕ) (x : A) → AllByRecursion holds xs → holds x → AllByRecursion holds (set xs i x)
all_set holds [] i x all one = all
all_set holds (y ∷ xs) zero x all one = (one, all.1)
all_set holds (y ∷ xs) (suc i) x all one = (all.0, all_set holds xs i x all.1 one)

pub rows_sixteen : (rows : List (List (Option Name))) (p r : ℕ) (n : Name) → p < length rows → AllByRecursion (λ row. length row ≡ 16) rows → AllByRecursion (λ row. length row ≡ 16) (set rows p (set (get_or rows p []) r (Some n)))
rows_sixteen rows p r n inside each =
    all_set (λ row. length row ≡ 16) rows p (set (get_or rows p []) r (Some n)) each (length-set (get_or rows p []) r (Some n) ∙ all_at_index (λ (row : List (Option Name)). length row ≡ 16) rows p [] each inside)

pub rows_spelled : (holds : Name → Type 0) (rows : List (List (Option Name))) (p r : ℕ) (n : Name) → p < length rows → holds n → AllByRecursion (AllByRecursion (λ x. IfSome x holds)) rows → AllByRecursion (AllByRecursion (λ x. IfSome x holds)) (set rows p (set (get_or rows p []) r (Some n)))
rows_spelled holds rows p r n inside one all =
    all_set (AllByRecursion (λ x. IfSome x holds)) rows p (set (get_or rows p []) r (Some n)) all
    (all_set (λ x. IfSome x holds) (get_or rows p []) r (Some n) (all_at_index (AllByRecursion (λ (x : Option Name). IfSome x holds)) rows p [] all inside) one)

pub rows_null : (rows : List (List (Option Name))) (p r least : ℕ) (n : Name) → p < length rows → r < 16 → least ≤ p * 16 + r → AreNullFrom 0 least rows → AreNullFrom 0 (p * 16 + r + 1) (set rows p (set (get_or rows p []) r (Some n)))
rows_null rows p r least n inside small low null i q there below high =
    let long = length-set rows p (set (get_or rows p []) r (Some n)) in
    let lt : i < length rows = omega (arith, there, long) in
    elim (cases_eq i p) [
      | inl same ↦
          let other : q ≡ r → ⊥ = λ e. absurd (omega (arith, e, same, high)) in
          let row = get_or rows p [] in
          ap (λ k. get_or (get_or (set rows p (set row r (Some n))) k []) q None) same
          ∙ ap (λ (x : List (Option Name)). get_or x q None) (get_or-set_same rows p (set row r (Some n)) [] inside)
          ∙ get_or-set_other row r q (Some n) None other
          ∙ null p q inside below (omega (arith, high, same, low))
      | inr ne ↦
          ap (λ (x : List (Option Name)). get_or x q None) (get_or-set_other rows p i (set (get_or rows p []) r (Some n)) [] ne)
          ∙ null i q lt below (omega (arith, high, low))
    ]
