-- The walk of a home, by the slots of its segments.
use Rattle.std.proofs.Common.{◌≡◌, ◌≢◌, ◌==◌, ◌||◌, ℕ, zero, suc, ◌+◌, ◌<◌, Bool, true, false, cond, refl, sym, ap, ap₂, subst, ◌∙◌, List, [], ◌∷◌, ◌++◌, append_assoc, append-nil, length, map, filter, slice_get, get_or, Option, Some, None, IfSome, option_map, arith}
use Rattle.std.proofs.lemmas.Bool.{false_from_ne_true, or_right}
use Rattle.std.proofs.lemmas.List.{map-append}
use Rattle.std.proofs.lemmas.List.Elements.{filter-append}
use Rattle.std.specs.List.{concat}
use Rattle.k_types.proofs.NameTests.{heap_eq_refl, heap_eq-true}
use Rattle.k_types.specs.declared.names.Name.{Name}
use Rattle.k_types.specs.declared.names.Heap.{Heap}
use Rattle.k_types.specs.Names.{name_eq, heap_eq}
use Rattle.k_types.specs.Counted.{Counted}
use Rattle.k_lists.specs.Lists.{members, is_in}
use Rattle.k_entry.specs.declared.item.Item.{Item}
use Rattle.k_entry.specs.Entries.{first_object, object_after, items_of, is_at_home, home_of}
use Rattle.k_entry.specs.Slots.{at, row_at, walk_of, homed, first_slot, onward, Parts, order, used, shown, AreKept}
use Rattle.k_lists.proofs.Apart.{apart_in, apart_one}
use Rattle.k_lists.proofs.Members.{in_head, in_at, place_of, in_differs}
use Rattle.k_entry.proofs.Members.{Once, Split, split, seam, seam_next, cons_in, once_of, onward_rest, is_in_append, shifted}
use Rattle.k_entry.proofs.Joined.{joined, joined_append, in_joined, in_concat, or_cases}
use Rattle.k_entry.proofs.Counts.{one_slot}
use Rattle.k_entry.proofs.Items.{once_hit, IsFound, used_of}

-- filters
filter_all : {X : Type 0} (p : X → Bool) (f : ℕ → X) (xs : List ℕ) → ((j : ℕ) → is_in xs j ≡ true → p (f j) ≡ true) → filter p (map f xs) ≡ map f xs
filter_all p f [] all = refl
filter_all p f (x ∷ xs) all =
    ap (λ b. cond b (f x ∷ filter p (map f xs)) (filter p (map f xs))) (all x (in_head x xs)) ∙ ap (λ ys. f x ∷ ys) (filter_all p f xs (λ j e. all j (cons_in x j xs e)))

filter_none : {X : Type 0} (p : X → Bool) (f : ℕ → X) (xs : List ℕ) → ((j : ℕ) → is_in xs j ≡ true → p (f j) ≡ false) → filter p (map f xs) ≡ []
filter_none p f [] none = refl
filter_none p f (x ∷ xs) none =
    ap (λ b. cond b (f x ∷ filter p (map f xs)) (filter p (map f xs))) (none x (in_head x xs)) ∙ filter_none p f xs (λ j e. none j (cons_in x j xs e))

none_of : (q : ℕ → Bool) (xs : List ℕ) → ((s : ℕ) → is_in xs s ≡ true → q s ≡ false) → filter q xs ≡ []
none_of q [] none = refl
none_of q (x ∷ xs) none = ap (λ b. cond b (x ∷ filter q xs) (filter q xs)) (none x (in_head x xs)) ∙ none_of q xs (λ s e. none s (cons_in x s xs e))

-- a segment's slots pass where the segment does
filter_joined : (p : Counted → Bool) (f : ℕ → Counted) (q : ℕ → Bool) (g : ℕ → List ℕ) (xs : List ℕ) → ((s j : ℕ) → is_in xs s ≡ true → is_in (g s) j ≡ true → p (f j) ≡ q s) → filter p (map f (joined g xs)) ≡ map f (joined g (filter q xs))
filter_joined p f q g [] same = refl
filter_joined p f q g (x ∷ xs) same =
    ap (λ ys. filter p ys) (map-append f (g x) (joined g xs)) ∙ filter-append p (map f (g x)) (map f (joined g xs)) ∙ by_test (q x) refl (filter_joined p f q g xs (λ s j e there. same s j (cons_in x s xs e) there))
  where
    by_test : (b : Bool) → q x ≡ b → filter p (map f (joined g xs)) ≡ map f (joined g (filter q xs)) → filter p (map f (g x)) ++ filter p (map f (joined g xs)) ≡ map f (joined g (filter q (x ∷ xs)))
    by_test true on ih =
        ap₂ (λ ys zs. ys ++ zs) (filter_all p f (g x) (λ j e. same x j (in_head x xs) e ∙ on)) ih
        ∙ sym (map-append f (g x) (joined g (filter q xs)))
        ∙ sym (ap (λ b. map f (joined g (cond b (x ∷ filter q xs) (filter q xs)))) on)
    by_test false off ih =
        ap₂ (λ ys zs. ys ++ zs) (filter_none p f (g x) (λ j e. same x j (in_head x xs) e ∙ off)) ih
        ∙ sym (ap (λ b. map f (joined g (cond b (x ∷ filter q xs) (filter q xs)))) off)

-- what passes stands in one of the lists
filter_concat : (q : ℕ → Bool) (ls : List (List ℕ)) (k : ℕ) → ((a s : ℕ) → (a ≢ k) → is_in (get_or ls a []) s ≡ true → q s ≡ false) → filter q (concat ls) ≡ filter q (get_or ls k [])
filter_concat q [] k off = refl
filter_concat q (l ∷ ls) zero off =
    filter-append q l (concat ls) ∙ ap (λ ys. filter q l ++ ys) (none_of q (concat ls) (λ s e. let a = in_concat ls s e in off (suc a.0) s (λ same. let bad : suc a.0 ≡ 0 = same in absurd (omega arith)) a.1)) ∙ append-nil (filter q l)
filter_concat q (l ∷ ls) (suc k) off =
    filter-append q l (concat ls) ∙ ap (λ ys. ys ++ filter q (concat ls)) (none_of q l (λ s e. off 0 s (λ same. let bad : 0 ≡ suc k = same in absurd (omega arith)) e))
    ∙ filter_concat q ls k (λ a s ne e. off (suc a) s (λ same. ne (let bad : suc a ≡ suc k = same in omega arith)) e)

-- the walk of a home: the segments of that home on the walk of its number
abbrev pub segments_of : Parts → Heap → List ℕ
segments_of p h = homed p.homes h (members p.walks (walk_of (length p.homes) h))

pub walk_is : (p : Parts) (h : Heap) → AreKept p → items_of (shown p) h ≡ map (row_at p.slots) (joined (members p.segments) (segments_of p h))
walk_is p h k =
    filter_joined (is_at_home p.homes h) (row_at p.slots) (λ s. heap_eq (home_of p.homes s) h) (members p.segments) (order p)
    (λ s j e there.
    let w = in_concat p.walks.lists s e in
    let below : s < length p.homes = omega (arith, apart_in p.walks w.0 s k.walks_apart w.1, k.sizes.walks_room) in
    ap (λ n. heap_eq (home_of p.homes n) h) (k.placed s j below there))
    ∙ ap (λ xs. map (row_at p.slots) (joined (members p.segments) xs)) (filter_concat (λ s. heap_eq (home_of p.homes s) h) p.walks.lists (walk_of (length p.homes) h)
    (λ a s ne e. false_from_ne_true (heap_eq (home_of p.homes s) h) (λ is. absurd (ne ((k.live a s e).0 ∙ ap (λ x. walk_of (length p.homes) x) (heap_eq-true (home_of p.homes s) h is))))))

in_filter : (q : ℕ → Bool) (xs : List ℕ) (s : ℕ) → is_in (filter q xs) s ≡ true → is_in xs s ≡ true
in_filter q [] s e = e
in_filter q (x ∷ xs) s e = by_test (q x) refl (in_filter q xs s)
  where
    by_test : (b : Bool) → q x ≡ b → (is_in (filter q xs) s ≡ true → is_in xs s ≡ true) → is_in (x ∷ xs) s ≡ true
    by_test true on ih =
        or_cases (x == s) (is_in (filter q xs) s) (sym (ap (λ b. is_in (cond b (x ∷ filter q xs) (filter q xs)) s) on) ∙ e) (is_in (x ∷ xs) s ≡ true)
        (λ is. ap (λ b. b || is_in xs s) is) (λ later. cons_in x s xs (ih later))
    by_test false off ih = cons_in x s xs (ih (sym (ap (λ b. is_in (cond b (x ∷ filter q xs) (filter q xs)) s) off) ∙ e))

-- the object of a slot
abbrev pub object_at : List Item → ℕ → Name
object_at slots i = (at slots i).target

-- where each of the segments has a slot, the first object is that of the first slot of the first one
pub first_is : (p : Parts) (xs : List ℕ) → ((s : ℕ) → is_in xs s ≡ true → 0 < length (members p.segments s)) → first_object (map (row_at p.slots) (joined (members p.segments) xs)) ≡ option_map (object_at p.slots) (first_slot p.segments xs)
first_is p [] some = refl
first_is p (s ∷ xs) some = by_list (members p.segments s) refl (some s (in_head s xs))
  where
    by_list : (ys : List ℕ) → members p.segments s ≡ ys → 0 < length (members p.segments s) → first_object (map (row_at p.slots) (members p.segments s ++ joined (members p.segments) xs)) ≡ option_map (object_at p.slots) (slice_get (members p.segments s) 0)
    by_list [] e less = absurd (omega (arith, less, ap (λ zs. length zs) e))
    by_list (y ∷ ys) e less =
        ap (λ zs. first_object (map (row_at p.slots) (zs ++ joined (members p.segments) xs))) e ∙ sym (ap (λ zs. option_map (object_at p.slots) (slice_get zs 0)) e)

pub live_segments : (p : Parts) (walk : ℕ) (q : ℕ → Bool) (xs : List ℕ) → AreKept p → ((s : ℕ) → is_in xs s ≡ true → is_in (members p.walks walk) s ≡ true) → (s : ℕ) → is_in (filter q xs) s ≡ true → 0 < length (members p.segments s)
live_segments p walk q xs k sub s e = (k.live walk s (sub s (in_filter q xs s e))).1

-- the walk from its first segment on is whole
pub onward_first : (xs : List ℕ) → Once xs → onward xs (slice_get xs 0) ≡ xs
onward_first xs once = onward_rest [] xs once

pub first_of_is : (p : Parts) (h : Heap) → AreKept p → first_object (items_of (shown p) h) ≡ option_map (object_at p.slots) (first_slot p.segments (segments_of p h))
first_of_is p h k =
    ap (λ xs. first_object xs) (walk_is p h k)
    ∙ first_is p (segments_of p h) (live_segments p (walk_of (length p.homes) h) (λ s. heap_eq (home_of p.homes s) h) (members p.walks (walk_of (length p.homes) h)) k (λ s e. e))

-- the object after one
after_append : (slots : List Item) (before after : List ℕ) (i : ℕ) (t : Name) → ((j : ℕ) → is_in before j ≡ true → name_eq (at slots j).target t ≡ false) → name_eq (at slots i).target t ≡ true → object_after (map (row_at slots) (before ++ i ∷ after)) t ≡ first_object (map (row_at slots) after)
after_append slots [] after i t none is = ap (λ b. cond b (first_object (map (row_at slots) after)) (object_after (map (row_at slots) after) t)) is
after_append slots (x ∷ before) after i t none is =
    ap (λ b. cond b (first_object (map (row_at slots) (before ++ i ∷ after))) (object_after (map (row_at slots) (before ++ i ∷ after)) t)) (none x (in_head x before))
    ∙ after_append slots before after i t (λ j e. none j (cons_in x j before e)) is

-- an object's place on the walk of its home: its slot in the list of its segment, and that segment on the walk
pub record IsOnWalk (p : Parts) (t : Name) (i : ℕ) : Type 0 where
  pub slot : Split (members p.segments t.seg.0) i
  pub seg : Split (members p.walks (walk_of (length p.homes) (home_of p.homes t.seg.0))) t.seg.0

pub on_walk : (p : Parts) (t : Name) (i : ℕ) → AreKept p → IsFound p t i → IsOnWalk p t i
on_walk p t i k f = record {
  slot = split (members p.segments t.seg.0) i f.there;
  seg = split (members p.walks (walk_of (length p.homes) (home_of p.homes t.seg.0))) t.seg.0 (k.walked t.seg.0 i f.homed f.there);
}

pub after_is : (p : Parts) (t : Name) (i : ℕ) → AreKept p → IsFound p t i → (w : IsOnWalk p t i) → object_after (items_of (shown p) (home_of p.homes t.seg.0)) t ≡ first_object (map (row_at p.slots) (w.slot.after ++ joined (members p.segments) (homed p.homes (home_of p.homes t.seg.0) w.seg.after)))
after_is p t i k f w =
    let h = home_of p.homes t.seg.0 in
    let q = λ (s : ℕ). heap_eq (home_of p.homes s) h in
    let ws = members p.walks (walk_of (length p.homes) h) in
    let g = members p.segments in
    let front = joined g (filter q w.seg.before) in
    let back = joined g (filter q w.seg.after) in
    let segs : filter q ws ≡ filter q w.seg.before ++ t.seg.0 ∷ filter q w.seg.after =
    ap (λ xs. filter q xs) w.seg.whole ∙ filter-append q w.seg.before (t.seg.0 ∷ w.seg.after)
    ∙ ap (λ b. filter q w.seg.before ++ cond b (t.seg.0 ∷ filter q w.seg.after) (filter q w.seg.after)) (heap_eq_refl h) in
    let slots : joined g (filter q ws) ≡ (front ++ w.slot.before) ++ i ∷ (w.slot.after ++ back) =
    ap (λ xs. joined g xs) segs ∙ joined_append g (filter q w.seg.before) (t.seg.0 ∷ filter q w.seg.after)
    ∙ ap (λ xs. front ++ (xs ++ back)) w.slot.whole
    ∙ ap (λ xs. front ++ xs) (append_assoc w.slot.before (i ∷ w.slot.after) back)
    ∙ sym (append_assoc front w.slot.before (i ∷ (w.slot.after ++ back))) in
    ap (λ xs. object_after xs t) (walk_is p h k) ∙ ap (λ xs. object_after (map (row_at p.slots) xs) t) slots
    ∙ after_append p.slots (front ++ w.slot.before) (w.slot.after ++ back) i t
    (λ j e. false_from_ne_true (name_eq (at p.slots j).target t) (λ is.
    or_cases (is_in front j) (is_in w.slot.before j) (sym (is_in_append front w.slot.before j) ∙ e) ⊥
    (λ in_front.
    let at = in_joined g (filter q w.seg.before) j in_front in
    let listed : is_in w.seg.before at.list ≡ true = in_filter q w.seg.before at.list at.listed in
    let on : is_in ws at.list ≡ true = ap (λ xs. is_in xs at.list) w.seg.whole ∙ is_in_append w.seg.before (t.seg.0 ∷ w.seg.after) at.list ∙ ap (λ b. b || is_in (t.seg.0 ∷ w.seg.after) at.list) listed in
    let below : at.list < length p.homes = omega (arith, apart_in p.walks (walk_of (length p.homes) h) at.list k.walks_apart on, k.sizes.walks_room) in
    let same : j ≡ i = one_slot p.slots (used p) t i j (once_hit p t k) f.in_use f.hit (used_of p at.list j k below at.there) is in
    let seg : at.list ≡ t.seg.0 = apart_one p.segments at.list t.seg.0 i k.segments_apart (subst (λ n. is_in (g at.list) n ≡ true) same at.there) f.there in
    in_differs w.seg.before t.seg.0 at.list w.seg.absent listed seg)
    (λ in_slots.
    let there : is_in (g t.seg.0) j ≡ true = ap (λ xs. is_in xs j) w.slot.whole ∙ is_in_append w.slot.before (i ∷ w.slot.after) j ∙ ap (λ b. b || is_in (i ∷ w.slot.after) j) in_slots in
    let same : j ≡ i = one_slot p.slots (used p) t i j (once_hit p t k) f.in_use f.hit (used_of p t.seg.0 j k f.homed there) is in
    in_differs w.slot.before i j w.slot.absent in_slots same)))
    f.hit

-- the next slot in the list of the segment
pub next_slot : (p : Parts) (t : Name) (i j : ℕ) → AreKept p → IsFound p t i → ((place : ℕ) → slice_get (members p.segments t.seg.0) place ≡ Some i → Some j ≡ slice_get (members p.segments t.seg.0) (place + 1)) → object_after (items_of (shown p) (home_of p.homes t.seg.0)) t ≡ Some (object_at p.slots j)
next_slot p t i j k f leads = after_is p t i k f w ∙ by_rest w.slot.after (leads (length w.slot.before) (ap (λ xs. slice_get xs (length w.slot.before)) w.slot.whole ∙ seam w.slot.before w.slot.after i) ∙ ap (λ xs. slice_get xs (length w.slot.before + 1)) w.slot.whole ∙ seam_next w.slot.before w.slot.after i)
  where
    w : IsOnWalk p t i
    w = on_walk p t i k f

    by_rest : (ys : List ℕ) → Some j ≡ slice_get ys 0 → first_object (map (row_at p.slots) (ys ++ joined (members p.segments) (homed p.homes (home_of p.homes t.seg.0) w.seg.after))) ≡ Some (object_at p.slots j)
    by_rest [] e = absurd (cc)
    by_rest (y ∷ ys) e = let same : y ≡ j = cc in ap (λ n. Some (object_at p.slots n)) same

-- else the first slot of the next segment of that home
pub next_segment : (p : Parts) (t : Name) (i : ℕ) (next : Option ℕ) → AreKept p → IsFound p t i → ((place : ℕ) → slice_get (members p.segments t.seg.0) place ≡ Some i → None ≡ slice_get (members p.segments t.seg.0) (place + 1)) → ((place : ℕ) → slice_get (members p.walks (walk_of (length p.homes) (home_of p.homes t.seg.0))) place ≡ Some t.seg.0 → next ≡ slice_get (members p.walks (walk_of (length p.homes) (home_of p.homes t.seg.0))) (place + 1)) → object_after (items_of (shown p) (home_of p.homes t.seg.0)) t ≡ option_map (object_at p.slots) (first_slot p.segments (homed p.homes (home_of p.homes t.seg.0) (onward (members p.walks (walk_of (length p.homes) (home_of p.homes t.seg.0))) next)))
next_segment p t i next k f last leads =
    let h = home_of p.homes t.seg.0 in
    let walk = walk_of (length p.homes) h in
    let none = last (length w.slot.before) (ap (λ xs. slice_get xs (length w.slot.before)) w.slot.whole ∙ seam w.slot.before w.slot.after i) ∙ ap (λ xs. slice_get xs (length w.slot.before + 1)) w.slot.whole ∙ seam_next w.slot.before w.slot.after i in
    let next_is : next ≡ slice_get w.seg.after 0 = leads (length w.seg.before) (ap (λ xs. slice_get xs (length w.seg.before)) w.seg.whole ∙ seam w.seg.before w.seg.after t.seg.0) ∙ ap (λ xs. slice_get xs (length w.seg.before + 1)) w.seg.whole ∙ seam_next w.seg.before w.seg.after t.seg.0 in
    let whole : members p.walks walk ≡ (w.seg.before ++ t.seg.0 ∷ []) ++ w.seg.after = w.seg.whole ∙ sym (shifted w.seg.before w.seg.after t.seg.0) in
    let rest : onward (members p.walks walk) next ≡ w.seg.after =
    ap₂ (λ xs o. onward xs o) whole next_is ∙ onward_rest (w.seg.before ++ t.seg.0 ∷ []) w.seg.after (subst (λ xs. Once xs) whole (once_of p.walks walk k.walks_apart)) in
    after_is p t i k f w
    ∙ ap (λ xs. first_object (map (row_at p.slots) (xs ++ joined (members p.segments) (homed p.homes h w.seg.after)))) (by_rest w.slot.after none)
    ∙ first_is p (homed p.homes h w.seg.after) (live_segments p walk (λ s. heap_eq (home_of p.homes s) h) w.seg.after k (λ s e.
    ap (λ xs. is_in xs s) w.seg.whole ∙ is_in_append w.seg.before (t.seg.0 ∷ w.seg.after) s ∙ or_right (is_in w.seg.before s) (is_in (t.seg.0 ∷ w.seg.after) s) (cons_in t.seg.0 s w.seg.after e)))
    ∙ sym (ap (λ xs. option_map (object_at p.slots) (first_slot p.segments (homed p.homes h xs))) rest)
  where
    w : IsOnWalk p t i
    w = on_walk p t i k f

    by_rest : (ys : List ℕ) → None ≡ slice_get ys 0 → ys ≡ []
    by_rest [] e = refl
    by_rest (y ∷ ys) e = absurd (cc)

-- what the calls tell
pub answer_below : (p : Parts) (xs : List ℕ) (i : ℕ) → AreKept p → Some i ≡ first_slot p.segments xs → i < length p.slots
answer_below p [] i k e = absurd (cc)
answer_below p (s ∷ xs) i k e = k.below s i (in_at (members p.segments s) 0 i (sym e))

pub first_may : (xs : List ℕ) (o : Option ℕ) → o ≡ slice_get xs 0 → IfSome o (λ s. is_in xs s ≡ true)
first_may xs None e = tt
first_may xs (Some s) e = in_at xs 0 s (sym e)

pub next_may : (xs : List ℕ) (i : ℕ) (o : Option ℕ) → is_in xs i ≡ true → ((place : ℕ) → slice_get xs place ≡ Some i → o ≡ slice_get xs (place + 1)) → IfSome o (λ s. is_in xs s ≡ true)
next_may xs i None there leads = tt
next_may xs i (Some s) there leads = let at = place_of xs i there in in_at xs (at.0 + 1) s (sym (leads at.0 at.1))

pub first_told : (p : Parts) (h : Heap) (homes : List Heap) (n walk : ℕ) (first answer : Option ℕ) → AreKept p → homes ≡ p.homes → n ≡ length p.homes → walk ≡ walk_of n h → first ≡ slice_get (members p.walks walk) 0 → answer ≡ first_slot p.segments (homed homes h (onward (members p.walks (walk_of (length homes) h)) first)) → answer ≡ first_slot p.segments (segments_of p h)
first_told p h homes n walk first answer k same len is begins told =
    let xs = members p.walks (walk_of (length p.homes) h) in
    let first_is : first ≡ slice_get xs 0 = begins ∙ ap (λ w. slice_get (members p.walks w) 0) (is ∙ ap (λ m. walk_of m h) len) in
    told ∙ ap (λ (hs : List Heap). first_slot p.segments (homed hs h (onward (members p.walks (walk_of (length hs) h)) first))) same
    ∙ ap (λ o. first_slot p.segments (homed p.homes h (onward xs o))) first_is
    ∙ ap (λ ys. first_slot p.segments (homed p.homes h ys)) (onward_first xs (once_of p.walks (walk_of (length p.homes) h) k.walks_apart))

pub next_told : (p : Parts) (g h : Heap) (homes : List Heap) (next answer : Option ℕ) → homes ≡ p.homes → g ≡ h → answer ≡ first_slot p.segments (homed homes g (onward (members p.walks (walk_of (length homes) g)) next)) → answer ≡ first_slot p.segments (homed p.homes h (onward (members p.walks (walk_of (length p.homes) h)) next))
next_told p g h homes next answer same is told =
    told ∙ ap₂ (λ (hs : List Heap) (f : Heap). first_slot p.segments (homed hs f (onward (members p.walks (walk_of (length hs) f)) next))) same is
