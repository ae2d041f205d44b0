-- The roots of a collection are told by the heap's cell and the book.
use Rattle.std.proofs.Common.{◌≡◌, ◌||◌, Bool, cond, refl, ap, ap₂, ◌∙◌, List, [], ◌∷◌, map, filter}
use Rattle.k_types.specs.declared.names.Name.{Name}
use Rattle.k_types.specs.declared.names.Heap.{Heap}
use Rattle.k_types.specs.declared.names.Heap.TheVariants.{Kernel, User, Shared}
use Rattle.k_types.specs.Trace.{Trace}
use Rattle.k_types.specs.State.{State, Object}
use Rattle.k_types.specs.Owners.{owner_of, objects_of}
use Rattle.k_types.specs.Reach.{roots_of, is_root, is_held, is_entered}
use Rattle.k_types.specs.Cells.{part, book_part}
use Rattle.k_types.specs.Sound.{IsSound}
use Rattle.k_laws.specs.Roots.{roots_in, entered_in, held_by}
use Rattle.k_laws.proofs.Entered.{entered_counted}

filter_same : (p q : Object → Bool) → ((o : Object) → p o ≡ q o) → (xs : List Object) → filter p xs ≡ filter q xs
filter_same p q same [] = refl
filter_same p q same (x ∷ xs) = ap₂ (λ b ys. cond b (x ∷ ys) ys) (same x) (filter_same p q same xs)

held_told : (trace : Trace) (st : State) (h : Heap) (n : Name) → is_held st h n ≡ held_by h (part trace st h) n
unfolding is_held part
held_told trace st Kernel n = refl
held_told trace st (User p) n = refl
held_told trace st (Shared s) n = refl

entered_told : (trace : Trace) (st : State) (n : Name) → IsSound trace st → is_entered trace st n ≡ entered_in (book_part trace st) n
unfolding book_part
entered_told trace st n sound = entered_counted trace st n sound

objects_shown : (trace : Trace) (st : State) (h : Heap) → objects_of (owner_of trace st) h st.objects ≡ (part trace st h).objects
unfolding part
objects_shown trace st h = refl

pub roots_told : (trace : Trace) (st : State) (h : Heap) → IsSound trace st → roots_of trace st h ≡ roots_in h (book_part trace st) (part trace st h)
unfolding roots_of
roots_told trace st h sound =
    ap (map (λ (o : Object). o.name))
    (filter_same (λ o. is_root trace st h o.name) (λ o. entered_in (book_part trace st) o.name || held_by h (part trace st h) o.name)
    (λ o. ap₂ (λ a b. a || b) (entered_told trace st o.name sound) (held_told trace st h o.name)) (objects_of (owner_of trace st) h st.objects)
    ∙ ap (filter (λ o. entered_in (book_part trace st) o.name || held_by h (part trace st h) o.name)) (objects_shown trace st h))
