-- A trace of one object's fields.
use Rattle.std.proofs.Common.{◌≡◌, ℕ, zero, suc, ◌+◌, true, false, refl, sym, ap, ap₂, subst, ◌∙◌, inl, inr, List, [], ◌∷◌, ◌++◌, count_by, cond, take, slice_get, Option, Some, None, is_some, option_map, add-one}
use Rattle.std.proofs.lemmas.Bool.{or_left, or_right, or_cases, false≢true}
use Rattle.std.proofs.lemmas.List.Sums.{sum_by-append}
use Rattle.k_laws.specs.k_types.declared.names.Name.{Name}
use Rattle.k_mark.proofs.Looks.{Looked, looked_list}
use Rattle.k_laws.specs.k_types.State.{Content, content_leads_to}
use Rattle.k_space.specs.Segments.{Row}
use Rattle.k_space.specs.Areas.{AreaValue, row_of_name, fields_at}
use Rattle.k_exit.specs.Exits.{ExitRow}
use Rattle.k_mark.specs.Marking.{Marks, looked, looked_all, fields_lead_to, is_ref}

abbrev pub TracedTo : AreaValue → List ExitRow → Name → ℕ → AreaValue → List ExitRow → Type 0
TracedTo area exits at i after items =
    (fields : List Content) → fields_at area at ≡ Some fields →
    record { area = after; exits = items } ≡ looked_all (take i fields) (record { area = area; exits = exits })

pub so_far : (area : AreaValue) (exits : List ExitRow) (at : Name) (i : ℕ) (after : AreaValue) (items : List ExitRow) (fields : List Content) → TracedTo area exits at i after items → fields_at area at ≡ Some fields →
    Looked (record { area = area; exits = exits }) (record { area = after; exits = items }) (take i fields)
so_far area exits at i after items fields traced e =
    subst (λ (m : Marks). Looked (record { area = area; exits = exits }) m (take i fields)) (sym (traced fields e)) (looked_list (take i fields) (record { area = area; exits = exits }))

looked_push : (cs : List Content) (c : Content) (m : Marks) → looked_all (cs ++ c ∷ []) m ≡ looked (looked_all cs m) c
looked_push [] c m = refl
looked_push (x ∷ xs) c m = looked_push xs c (looked m x)

take_next : (fields : List Content) (i : ℕ) (c : Content) → slice_get fields i ≡ Some c → take (suc i) fields ≡ take i fields ++ c ∷ []
take_next [] i c e = absurd (cc)
take_next (x ∷ xs) zero c e = ap (λ y. y ∷ []) (same_content e)
  where
    same_content : {x y : Content} → ◌≡◌ {A = Option Content} (Some x) (Some y) → x ≡ y
    same_content e = cc
take_next (x ∷ xs) (suc i) c e = ap (λ ys. x ∷ ys) (take_next xs i c e)

pub leads_at : (fields : List Content) (i : ℕ) (c : Content) (n : Name) → slice_get fields i ≡ Some c → fields_lead_to (c ∷ []) n ≡ true → fields_lead_to fields n ≡ true
leads_at [] i c n e t = absurd (cc)
leads_at (x ∷ xs) zero c n e t =
    let one : content_leads_to n c ≡ true = (elim (or_cases (content_leads_to n c) false t) [ inl y ↦ y | inr f ↦ absurd (false≢true f) ]) in
    or_left (content_leads_to n x) (fields_lead_to xs n) (ap (content_leads_to n) (same_content e) ∙ one)
  where
    same_content : {x y : Content} → ◌≡◌ {A = Option Content} (Some x) (Some y) → x ≡ y
    same_content e = cc
leads_at (x ∷ xs) (suc i) c n e t = or_right (content_leads_to n x) (fields_lead_to xs n) (leads_at xs i c n e t)

pub traced_more : (area : AreaValue) (exits : List ExitRow) (at : Name) (i : ℕ) (now after : AreaValue) (es items : List ExitRow) (c : Content) → TracedTo area exits at i now es →
    ((fields : List Content) → fields_at area at ≡ Some fields → slice_get fields i ≡ Some c) →
    after ≡ (looked (record { area = now; exits = es }) c).area → items ≡ (looked (record { area = now; exits = es }) c).exits → TracedTo area exits at (i + 1) after items
traced_more area exits at i now after es items c traced at_i a e fields is =
    ap₂ (λ (x : AreaValue) (y : List ExitRow). record { area = x; exits = y }) a e
    ∙ ap (λ (m : Marks). looked m c) (traced fields is)
    ∙ sym (looked_push (take i fields) c (record { area = area; exits = exits }))
    ∙ sym (ap (λ cs. looked_all cs (record { area = area; exits = exits })) (ap (λ k. take k fields) (add-one i) ∙ take_next fields i c (at_i fields is)))

pub fields_live : (a : AreaValue) (n : Name) → is_some (row_of_name a.segments n) ≡ true → (fields : List Content) × (fields_at a n ≡ Some fields)
fields_live a n live = by_row (row_of_name a.segments n) refl live
  where
    by_row : (o : Option Row) → row_of_name a.segments n ≡ o → is_some o ≡ true → (fields : List Content) × (fields_at a n ≡ Some fields)
    by_row None e l = absurd (false≢true l)
    by_row (Some row) e l = (row.fields, ap (option_map (λ (r : Row). r.fields)) e)

pub count_next : (fields : List Content) (i : ℕ) (c : Content) → slice_get fields i ≡ Some c → count_by is_ref (take (i + 1) fields) ≡ count_by is_ref (take i fields) + count_by is_ref (c ∷ [])
count_next fields i c e =
    ap (λ (l : List Content). count_by is_ref l) (ap (λ k. take k fields) (add-one i) ∙ take_next fields i c e)
    ∙ sum_by-append (λ (x : Content). cond (is_ref x) 1 0) (take i fields) (c ∷ [])
