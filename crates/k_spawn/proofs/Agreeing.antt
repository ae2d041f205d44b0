-- Two functions that agree on what stands in a list.
use Rattle.std.proofs.Common.{◌≡◌, ◌||◌, Bool, true, cond, refl, ap₂, List, [], ◌∷◌, filter, filter_map, Option, Some, None}
use Rattle.std.specs.List.{list_any, AllByRecursion, cons_option}
use Rattle.std.proofs.lemmas.Bool.{or_left, or_right, and_from}
use Rattle.k_types.specs.declared.names.Name.{Name}
use Rattle.k_types.specs.Names.{name_eq, leads_to}
use Rattle.k_types.specs.State.{Object, ExitItem, has, has_exit}
use Rattle.k_types.proofs.NameTests.{name_eq_refl, heap_eq_refl}

pub kept_agree : {A : Type 0} (f g : A → Bool) (xs : List A) → AllByRecursion (λ x. f x ≡ g x) xs → filter f xs ≡ filter g xs
kept_agree f g [] same = refl
kept_agree f g (x ∷ xs) same = ap₂ (λ b rest. cond b (x ∷ rest) rest) same.0 (kept_agree f g xs same.1)

pub any_agree : {A : Type 0} (f g : A → Bool) (xs : List A) → AllByRecursion (λ x. f x ≡ g x) xs → list_any f xs ≡ list_any g xs
any_agree f g [] same = refl
any_agree f g (x ∷ xs) same = ap₂ (λ a b. a || b) same.0 (any_agree f g xs same.1)

pub turned_agree : {A B : Type 0} (f g : A → Option B) (xs : List A) → AllByRecursion (λ x. f x ≡ g x) xs → filter_map f xs ≡ filter_map g xs
turned_agree f g [] same = refl
turned_agree f g (x ∷ xs) same = ap₂ cons_option same.0 (turned_agree f g xs same.1)

pub all_of : {A : Type 0} (P : A → Type 0) → ((x : A) → P x) → (xs : List A) → AllByRecursion P xs
all_of P each [] = tt
all_of P each (x ∷ xs) = (each x, all_of P each xs)

-- what holds of each name that is there holds of each object
pub all_objects : (P : Name → Type 0) (xs : List Object) → ((n : Name) → has xs n ≡ true → P n) → AllByRecursion (λ o. P o.name) xs
all_objects P [] each = tt
all_objects P (o ∷ xs) each = (each o.name (or_left _ _ (name_eq_refl o.name)), all_objects P xs (λ n there. each n (or_right (name_eq o.name n) _ there)))

pub all_exits : (P : ExitItem → Type 0) (xs : List ExitItem) → ((e : ExitItem) → has_exit xs e.heap e.target ≡ true → P e) → AllByRecursion P xs
all_exits P [] each = tt
all_exits P (e ∷ xs) each =
    (each e (or_left _ _ (and_from _ _ (heap_eq_refl e.heap) (name_eq_refl e.target))), all_exits P xs (λ d there. each d (or_right _ _ there)))

pub all_registers : (P : Option Name → Type 0) (rs : List (Option Name)) → P None → ((n : Name) → list_any (λ r. leads_to r n) rs ≡ true → P (Some n)) → AllByRecursion P rs
all_registers P [] none some = tt
all_registers P (None ∷ rs) none some = (none, all_registers P rs none (λ n there. some n there))
all_registers P (Some m ∷ rs) none some = (some m (or_left _ _ (name_eq_refl m)), all_registers P rs none (λ n there. some n (or_right _ _ there)))
