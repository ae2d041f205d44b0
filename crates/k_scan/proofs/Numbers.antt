-- Tests of what stands past the end of a list.
use Rattle.std.proofs.Common.{◌≡◌, ℕ, ◌≤◌, Bool, false, refl, List, [], get_or, length, Option}
use Rattle.std.specs.List.{list_any}
use Rattle.std.proofs.lemmas.List.{get_or_past}
use Rattle.k_types.specs.declared.names.Name.{Name}

pub none_leads_past : (test : Option Name → Bool) (registers : List (List (Option Name))) (p : ℕ) → length registers ≤ p → list_any test (get_or registers p []) ≡ false
none_leads_past test registers p past = rw (get_or_past registers p [] past) refl
