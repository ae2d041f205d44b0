-- Operations that events have done, compared with those of a list.
use Rattle.std.specs.Prelude.{IsFalse, IsTrue}
use Rattle.std.proofs.Common.{◌≡◌, not, ℕ, zero, suc, ◌+◌, ◌<◌, ◌≤◌, Bool, true, false, refl, sym, ap, subst, ◌∙◌, List, [], ◌∷◌, ◌++◌, length, take, drop, get_or, slice_get, Some, arith}
use Rattle.std.proofs.lemmas.List.{drop_more}
use Rattle.k_types.specs.declared.event.Event.{Event}
use Rattle.k_types.specs.declared.op.Op.{Op}
use Rattle.k_types.specs.Complete.{IsPrefixOf}
use Rattle.k_types.specs.Steps.{done_by}
use Rattle.k_laws.proofs.Histories.{done_append}

-- one operation more
pub take_one : (ops : List Op) (n : ℕ) (op : Op) → slice_get ops n ≡ Some op → take n ops ++ op ∷ [] ≡ take (n + 1) ops
take_one [] n op found = absurd (cc found)
take_one (x ∷ ops) zero op found = let same : x ≡ op = cc in ap (λ (o : Op). o ∷ []) (sym same)
take_one (x ∷ ops) (suc n) op found =
    let one : suc n + 1 ≡ suc (n + 1) = omega arith in
    ap (λ (os : List Op). x ∷ os) (take_one ops n op found) ∙ ap (λ k. take k (x ∷ ops)) (sym one)

pub there_more : (ops : List Op) (n : ℕ) (op : Op) → slice_get ops n ≡ Some op → n + 1 ≤ length ops
there_more [] n op found = absurd (cc found)
there_more (x ∷ ops) zero op found = omega arith
there_more (x ∷ ops) (suc n) op found = omega (arith, there_more ops n op found)

-- what goes on with another operation is no first part of the list
pub not_first : (ops : List Op) (n : ℕ) (op : Op) (rest : List Op) → n ≤ length ops → (slice_get ops n ≡ Some op → ⊥) → IsPrefixOf (take n ops ++ op ∷ rest) ops → ⊥
not_first [] zero op rest inside other first = absurd (cc first.1)
not_first [] (suc n) op rest inside other first = absurd (omega arith)
not_first (x ∷ ops) zero op rest inside other first = let same : x ≡ op = cc first.1 in other (ap Some same)
not_first (x ∷ ops) (suc n) op rest inside other first =
    let tails : take n ops ++ op ∷ rest ++ first.0 ≡ ops = cc first.1 in
    not_first ops n op rest (omega arith) other (first.0, tails)

pub take_first : (ops : List Op) (n : ℕ) → take n ops ++ drop n ops ≡ ops
take_first [] zero = refl
take_first [] (suc n) = refl
take_first (x ∷ ops) zero = refl
take_first (x ∷ ops) (suc n) = ap (λ (os : List Op). x ∷ os) (take_first ops n)

-- the operations of the next event, and of those after it
pub done_step : (p : ℕ) (events : List Event) (i : ℕ) (d : Event) → i < length events →
    done_by p (drop i events) ≡ done_by p (get_or events i d ∷ []) ++ done_by p (drop (i + 1) events)
done_step p events i d inside = ap (done_by p) (drop_more events i d inside) ∙ done_append p (get_or events i d ∷ []) (drop (i + 1) events)

-- an event that does another operation
pub other_done : (p : ℕ) (events : List Event) (ops : List Op) (n i : ℕ) (d : Event) → done_by p events ≡ take n ops ++ done_by p (drop i events) → i < length events →
    ((rest : List Op) → IsPrefixOf (take n ops ++ (done_by p (get_or events i d ∷ []) ++ rest)) ops → ⊥) → IsPrefixOf (done_by p events) ops → ⊥
other_done p events ops n i d so_far inside other first =
    other (done_by p (drop (i + 1) events))
    (subst (λ (os : List Op). IsPrefixOf os ops) (so_far ∙ ap (λ (os : List Op). take n ops ++ os) (done_step p events i d inside)) first)

-- the first operations of an ended process
pub ended_done : (ops : List Op) (n : ℕ) (lives ended : Bool) (done : List Op) → done ≡ take n ops → lives ≡ not ended → not lives ≡ true →
    (IsTrue (not lives) → IsPrefixOf done ops × (IsFalse ended → done ≡ ops)) × (IsPrefixOf done ops × (IsFalse ended → done ≡ ops) → IsTrue (not lives))
ended_done ops n lives ended done is alive over =
    (λ on. ((drop n ops, ap (λ os. os ++ drop n ops) is ∙ take_first ops n), λ not_ended. let bad : true ≡ false = sym over ∙ ap not (alive ∙ ap not not_ended) in absurd cc), λ both. over)
