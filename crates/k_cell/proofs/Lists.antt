-- Lists of objects, of fields and of exit items.
use Rattle.std.proofs.Common.{◌≡◌, ℕ, zero, suc, ◌+◌, ◌<◌, ◌&&◌, ◌||◌, Bool, true, false, cond, refl, sym, ap, ap₂, ◌∙◌, List, [], ◌∷◌, ◌++◌, length, map, get_or, slice_set, slice_get, Option, Some, arith}
use Rattle.std.specs.List.{list_any}
use Rattle.std.proofs.lemmas.Bool.{false≢true}
use Rattle.std.proofs.lemmas.List.{length-set, map-append}
use Rattle.k_mark.specs.k_types.declared.names.Name.{Name}
use Rattle.k_mark.specs.k_types.Names.{name_eq, name_lt, name_among}
use Rattle.k_mark.specs.k_types.Owners.{object_bytes}
use Rattle.k_mark.specs.k_types.Replies.{is_ref}
use Rattle.k_mark.specs.k_types.State.{Content, Object, Refers, Holds}
use Rattle.k_mark.specs.k_types.Totals.{total}
use Rattle.k_mark.specs.k_types.Types.{object_size}
use Rattle.k_mark.specs.k_types.Updates.{object_after_write, with_object}
use Rattle.k_mark.specs.k_laws.CellChanges.{with_objects}
use Rattle.k_mark.specs.k_exit.Exits.{ExitRow, ExitList, has_target, target_marked, targets, unmarked_row, with_target}
use Rattle.k_mark.proofs.Named.{targets_named}

pub total_placed : (f : Object → ℕ) (o : Object) (xs : List Object) → total f (with_object o xs) ≡ f o + total f xs
total_placed f o [] = refl
total_placed f o (x ∷ xs) = by_place (name_lt x.name o.name) (total_placed f o xs)
  where
    by_place : (b : Bool) → total f (with_object o xs) ≡ f o + total f xs → total f (cond b (x ∷ with_object o xs) (o ∷ x ∷ xs)) ≡ f o + (f x + total f xs)
    by_place true ih = omega (arith, ih)
    by_place false ih = refl

pub total_joined : (f : Object → ℕ) (os xs : List Object) → total f (with_objects os xs) ≡ total f os + total f xs
total_joined f [] xs = omega arith
total_joined f (o ∷ os) xs = omega (arith, total_placed f o (with_objects os xs), total_joined f os xs)

pub total_written : (n : Name) (i : ℕ) (content : Content) (xs : List Object) → total object_bytes (map (object_after_write n i content) xs) ≡ total object_bytes xs
total_written n i content [] = refl
total_written n i content (x ∷ xs) = ap₂ (λ a b. a + b) (by_name (name_eq x.name n)) (total_written n i content xs)
  where
    by_name : (b : Bool) → object_bytes (cond b (record x { fields = slice_set x.fields i content }) x) ≡ object_bytes x
    by_name true = ap object_size (length-set x.fields i content)
    by_name false = refl

-- the kind of a field
pub ref_field : (xs : List Content) (i : ℕ) → is_ref (get_or xs i (Holds 0)) ≡ true → (target : Option Name) × (slice_get xs i ≡ Some (Refers target))
ref_field [] i t = absurd (false≢true t)
ref_field (Refers r ∷ xs) zero t = (r, refl)
ref_field (Holds k ∷ xs) zero t = absurd (false≢true t)
ref_field (x ∷ xs) (suc i) t = ref_field xs i t

pub int_field : (xs : List Content) (i : ℕ) → i < length xs → is_ref (get_or xs i (Holds 0)) ≡ false → (number : ℕ) × (slice_get xs i ≡ Some (Holds number))
int_field [] i within f = absurd (omega (arith, within))
int_field (Refers r ∷ xs) zero within f = absurd (false≢true (sym f))
int_field (Holds k ∷ xs) zero within f = (k, refl)
int_field (x ∷ xs) (suc i) within f = int_field xs i (omega (arith, within)) f

-- exit items
pub added_targets : (e : ExitList) (n : Name) → targets (with_target e n).items ≡ cond (name_among n (targets e.items)) (targets e.items) (targets e.items ++ n ∷ [])
added_targets e n =
    by_test (has_target e.items n)
    ∙ sym (ap (λ b. cond b (targets e.items) (targets e.items ++ n ∷ [])) (targets_named e.items n))
  where
    by_test : (b : Bool) → targets (cond b e (record e { items = e.items ++ record { target = n; marked = false } ∷ [] })).items ≡ cond b (targets e.items) (targets e.items ++ n ∷ [])
    by_test true = refl
    by_test false = map-append (λ (x : ExitRow). x.target) e.items (record { target = n; marked = false } ∷ [])

pub added_room : (e : ExitList) (n : Name) → (with_target e n).room ≡ e.room
added_room e n = by_test (has_target e.items n)
  where
    by_test : (b : Bool) → (cond b e (record e { items = e.items ++ record { target = n; marked = false } ∷ [] })).room ≡ e.room
    by_test true = refl
    by_test false = refl

pub unmarked_targets : (items : List ExitRow) → targets (map unmarked_row items) ≡ targets items
unmarked_targets [] = refl
unmarked_targets (e ∷ items) = ap (λ ts. e.target ∷ ts) (unmarked_targets items)

pub none_target_marked : (items : List ExitRow) (n : Name) → target_marked (map unmarked_row items) n ≡ false
none_target_marked [] n = refl
none_target_marked (e ∷ items) n = ap₂ (λ a b. a || b) (and_false (name_eq e.target n)) (none_target_marked items n)
  where
    and_false : (b : Bool) → (b && false) ≡ false
    and_false true = refl
    and_false false = refl

pub targets_lead : (items : List ExitRow) (p : Name → Bool) → list_any (λ (e : ExitRow). p e.target) items ≡ list_any p (targets items)
targets_lead [] p = refl
targets_lead (e ∷ items) p = ap (λ b. p e.target || b) (targets_lead items p)

pub target_at : (items : List ExitRow) (i : ℕ) (n : Name) → i < length items → ((row : ExitRow) → slice_get items i ≡ Some row → n ≡ row.target) → slice_get (targets items) i ≡ Some n
target_at [] i n within is = absurd (omega (arith, within))
target_at (e ∷ items) zero n within is = ap Some (sym (is e refl))
target_at (e ∷ items) (suc i) n within is = target_at items i n (omega (arith, within)) is

-- a row that is there
pub all_rows_marked : (items : List ExitRow) → ((i : ℕ) (row : ExitRow) → slice_get items i ≡ Some row → row.marked ≡ true) → (n : Name) → has_target items n ≡ true → target_marked items n ≡ true
all_rows_marked [] all n t = t
all_rows_marked (e ∷ items) all n t = by_name (name_eq e.target n) (all zero e refl) (all_rows_marked items (λ i row at. all (suc i) row at) n) t
  where
    by_name : (b : Bool) → e.marked ≡ true → (has_target items n ≡ true → target_marked items n ≡ true) → (b || has_target items n) ≡ true → ((b && e.marked) || target_marked items n) ≡ true
    by_name true m rest u = ap (λ x. x || target_marked items n) m
    by_name false m rest u = rest u
