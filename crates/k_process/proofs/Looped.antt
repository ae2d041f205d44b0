-- The list that a loop over all elements leaves, and places that are read.
use Rattle.std.proofs.Common.{◌≡◌, ◌<◌, ◌++◌, ℕ, sym, ap, ◌∙◌, List, length, take, drop, get_or, append-nil, Some, slice_get, arith}
use Rattle.std.proofs.lemmas.List.{drop_all, take_all}
use Rattle.std.proofs.lemmas.Option.{slice_get_read}

pub all_of : {A : Type 0} (xs ys : List A) (n : ℕ) → length xs ≡ length ys → n ≡ length ys → take n (xs ++ drop (length xs) ys) ≡ xs
all_of xs ys n same all =
    let none = drop_all (length xs) ys (omega (arith, same)) in
    ap (λ zs. take n (xs ++ zs)) none ∙ ap (λ zs. take n zs) (append-nil xs) ∙ take_all n xs (omega (arith, same, all))

-- what a place that is read holds
pub found_at : {A : Type 0} (xs : List A) (n i j : ℕ) (x r : A) → length xs ≡ n → j < n → i ≡ j → x ≡ get_or xs i x → r ≡ x → slice_get xs j ≡ Some r
found_at xs n i j x r all inside same read is =
    slice_get_read xs n j x (sym all) inside (read ∙ ap (λ k. get_or xs k x) same) ∙ ap (λ y. Some y) (sym is)
