-- Cells that are gathered in the places of their numbers.
use Rattle.std.proofs.Common.{◌≡◌, ◌⊎◌, ◌+◌, ℕ, refl, sym, ap, ◌∙◌, subst, inl, inr, List, length, set, map, Option, Some, None, replicate, slice_get, length-set, arith}
use Rattle.std.proofs.lemmas.List.{length-map, length-replicate}
use Rattle.k_types.specs.Trace.{process_count}
use Rattle.k_process.specs.k_shared.SharedHeaps.{SharedRecord}
use Rattle.k_process.specs.declared.process.Process.{Process}
use Rattle.k_process.specs.k_book.Books.{BookRecord}
use Rattle.k_process.specs.Keeping.{SharedKeeps}
use Rattle.k_locks.specs.Places.{ArePlaces, ArePlacesShared, HasPlaced, HasPlacedShared, filled}
use Rattle.k_process.specs.BetweenSteps.{HeapsStand, ProcessStands, ProcessesStand}
use Rattle.k_process.specs.Worlds.{WorldValue}
use Rattle.k_process.proofs.Written.{get_set_cases}
use Rattle.k_locks.proofs.Places.{filled_none, filled_set, get_mapped_some, none_there}

-- what stands in a place after the free one was taken
pub taken_cases : {A : Type 0} (xs : List (Option A)) (n k : ℕ) (x y : A) → slice_get (set (set xs n None) n (Some x)) k ≡ Some (Some y) → ((k ≡ n) × (x ≡ y)) ⊎ (slice_get xs k ≡ Some (Some y))
taken_cases xs n k x y found =
    elim (get_set_cases (set xs n None) n k (Some x) (Some y) found) [
      | inl here ↦ inl (here.0, cc)
      | inr there ↦ elim (get_set_cases xs n k None (Some y) there) [ inl none ↦ absurd (cc) | inr before ↦ inr before ]
    ]

pub free_places : (world : WorldValue) → ArePlaces world (replicate (process_count world.trace) None)
free_places world = record {
  count = length-replicate (process_count world.trace) None;
  each = λ k p e. absurd (none_there (process_count world.trace) k p e);
  placed = λ k p e. absurd (none_there (process_count world.trace) k p e);
}

pub free_shared_places : (world : WorldValue) → ArePlacesShared world (replicate world.trace.shared_heaps None)
free_shared_places world = record {
  count = length-replicate world.trace.shared_heaps None;
  each = λ k s e. absurd (none_there world.trace.shared_heaps k s e);
  placed = λ k s e. absurd (none_there world.trace.shared_heaps k s e);
}

pub all_free : {A : Type 0} (places : List (Option A)) (locks n : ℕ) → places ≡ replicate n None → locks ≡ n → filled places + locks ≡ n
all_free {A = A} places locks n is same = let none = ap filled is ∙ filled_none A n in omega (arith, none, same)

pub gathered : (world : WorldValue) (places : List (Option Process)) (ps : List Process) → ArePlaces world places → map Some ps ≡ places → ProcessesStand world ps
gathered world places ps a is = record {
  count = sym (length-map ps Some) ∙ ap length is ∙ a.count;
  each = λ k p at. a.each k p (get_mapped_some ps places k p is at);
  placed = λ k p at. a.placed k p (get_mapped_some ps places k p is at);
}

pub gathered_shared : (world : WorldValue) (places : List (Option SharedRecord)) (ss : List SharedRecord) → ArePlacesShared world places → map Some ss ≡ places → HeapsStand world ss
gathered_shared world places ss a is = record {
  count = sym (length-map ss Some) ∙ ap length is ∙ a.count;
  each = λ k s at. a.each k s (get_mapped_some ss places k s is at);
  placed = λ k s at. a.placed k s (get_mapped_some ss places k s is at);
}

-- a process takes the free place of its number
pub placed_process : (world : WorldValue) (ps : List (Option Process)) (p : Process) (b : BookRecord) → ArePlaces world ps → ProcessStands world p → slice_get ps p.cell.pid.0 ≡ Some None →
    HasPlaced world ps (set (set ps p.cell.pid.0 None) p.cell.pid.0 (Some p)) b b
placed_process world ps p b a stands free = record {
  places = record {
    count = length-set (set ps p.cell.pid.0 None) p.cell.pid.0 (Some p) ∙ length-set ps p.cell.pid.0 None ∙ a.count;
    each = λ k q found. elim (taken_cases ps p.cell.pid.0 k p q found) [ inl here ↦ subst (ProcessStands world) here.1 stands | inr there ↦ a.each k q there ];
    placed = λ k q found. elim (taken_cases ps p.cell.pid.0 k p q found) [ inl here ↦ ap (λ (x : Process). x.cell.pid.0) (sym here.1) ∙ sym here.0 | inr there ↦ a.placed k q there ];
  };
  more = filled_set ps p.cell.pid.0 None p free;
  book_is = refl;
}

-- the cell of a shared heap takes the free place of its number
pub placed_shared : (world : WorldValue) (ss : List (Option SharedRecord)) (s : SharedRecord) (b : BookRecord) → ArePlacesShared world ss → SharedKeeps world.trace world.table s → slice_get ss s.id.0 ≡ Some None →
    HasPlacedShared world ss (set (set ss s.id.0 None) s.id.0 (Some s)) b b
placed_shared world ss s b a stands free = record {
  places = record {
    count = length-set (set ss s.id.0 None) s.id.0 (Some s) ∙ length-set ss s.id.0 None ∙ a.count;
    each = λ k q found. elim (taken_cases ss s.id.0 k s q found) [ inl here ↦ subst (SharedKeeps world.trace world.table) here.1 stands | inr there ↦ a.each k q there ];
    placed = λ k q found. elim (taken_cases ss s.id.0 k s q found) [ inl here ↦ ap (λ (x : SharedRecord). x.id.0) (sym here.1) ∙ sym here.0 | inr there ↦ a.placed k q there ];
  };
  more = filled_set ss s.id.0 None s free;
  book_is = refl;
}

-- two processes of one number have one cell
pub one_number : (world : WorldValue) (ps : List (Option Process)) (p q : Process) → ArePlaces world ps → ProcessStands world p → slice_get ps p.cell.pid.0 ≡ Some (Some q) → p.cell.note.cell ≡ q.cell.note.cell
one_number world ps p q a stands found =
    stands.cell.agrees.number
    ∙ ap (λ n. n + 1) (sym (a.placed p.cell.pid.0 q found))
    ∙ sym (a.each p.cell.pid.0 q found).cell.agrees.number

-- and so have two shared heaps
pub one_shared_number : (world : WorldValue) (ss : List (Option SharedRecord)) (s q : SharedRecord) → ArePlacesShared world ss → SharedKeeps world.trace world.table s → slice_get ss s.id.0 ≡ Some (Some q) →
    s.note.cell ≡ q.note.cell
one_shared_number world ss s q a stands found =
    stands.agrees.number
    ∙ ap (λ n. 1 + process_count world.trace + n) (sym (a.placed s.id.0 q found))
    ∙ sym (a.each s.id.0 q found).agrees.number
