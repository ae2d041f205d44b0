-- How often a test passes so far.
use Rattle.std.proofs.Common.{◌≡◌, ◌∙◌, ℕ, ◌+◌, Bool, true, false, List, take, Some, slice_get, ap}
use Rattle.std.specs.Prelude.{count_by}
use Rattle.std.proofs.lemmas.List.Sums.{count_by_more_yes, count_by_more_no}
use Rattle.std.proofs.lemmas.Option.{slice_get_within, get_or_from_slice_get}

pub count_yes : {A : Type 0} (p : A → Bool) (xs : List A) (i : ℕ) (v : A) → slice_get xs i ≡ Some v → p v ≡ true → count_by p (take (i + 1) xs) ≡ count_by p (take i xs) + 1
count_yes p xs i v at passes = count_by_more_yes p xs i v (slice_get_within xs i v at) (ap p (get_or_from_slice_get xs i v v at) ∙ passes)

pub count_no : {A : Type 0} (p : A → Bool) (xs : List A) (i : ℕ) (v : A) → slice_get xs i ≡ Some v → p v ≡ false → count_by p (take (i + 1) xs) ≡ count_by p (take i xs)
count_no p xs i v at fails = count_by_more_no p xs i v (slice_get_within xs i v at) (ap p (get_or_from_slice_get xs i v v at) ∙ fails)
