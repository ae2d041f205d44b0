-- A table where a segment has another home.
use Rattle.std.proofs.Common.{◌≡◌, ◌≢◌, ℕ, ◌<◌, ◌≤◌, true, false, refl, sym, ap, ap₂, subst, ◌∙◌, List, [], ◌∷◌, ◌++◌, append_assoc, length, set, length-set, get_or-set_same, get_or-set_other, arith}
use Rattle.std.specs.List.{concat}
use Rattle.std.specs.List.Sorted.{IsPermutation}
use Rattle.std.proofs.lemmas.List.Sorted.{IsPermutation-refl, IsPermutation-sym, IsPermutation-trans, IsPermutation-append_comm, IsPermutation-append_left, IsPermutation-map, sum_by-IsPermutation, length_permutation}
use Rattle.k_types.specs.Totals.{total}
use Rattle.k_types.specs.declared.names.Name.{Name}
use Rattle.k_types.specs.declared.names.Heap.{Heap}
use Rattle.k_types.specs.Counted.{Counted, counted}
use Rattle.k_types.specs.declared.names.Heap.TheVariants.{Kernel}
use Rattle.k_lists.specs.Lists.{ListsValue, AreApart, members, is_in}
use Rattle.k_entry.specs.Entries.{home_of}
use Rattle.k_entry.specs.Slots.{row_at, walk_of, left, changed, Parts, order, used, shown, AreKept}
use Rattle.k_lists.proofs.Apart.{apart_one}
use Rattle.k_lists.proofs.Members.{in_head}
use Rattle.k_entry.proofs.Members.{in_within}
use Rattle.k_entry.proofs.With.{IsWith}
use Rattle.k_entry.proofs.Joined.{joined, joined_append}
use Rattle.k_entry.proofs.Counts.{adds, hits, hits_are, total_is}
use Rattle.k_entry.proofs.Changes.{same_or_not, IsPut, put_old, put_new, put_cases, put_size, put_joined, IsOut, out_old, out_other, out_gone, out_size, out_joined}

-- the table where the segment has that home
abbrev pub rehomed : Parts → ListsValue → ℕ → Heap → Parts
rehomed p walks s to = record { slots = p.slots; chains = p.chains; segments = p.segments; walks = walks; homes = set p.homes s to; room = p.room }

-- where a list of the joined ones is put in does not matter, but for the order
block : (g : ℕ → List ℕ) (s : ℕ) (rest whole : List ℕ) → IsWith s rest whole → IsPermutation (joined g whole) (g s ++ joined g rest)
block g s rest whole w =
    let a = joined g w.before in
    let b = joined g w.after in
    let from : joined g whole ≡ (a ++ g s) ++ b = ap (λ xs. joined g xs) w.more ∙ joined_append g w.before (s ∷ w.after) ∙ sym (append_assoc a (g s) b) in
    let to : g s ++ joined g rest ≡ (g s ++ a) ++ b = ap (λ xs. g s ++ joined g xs) w.less ∙ ap (λ xs. g s ++ xs) (joined_append g w.before w.after) ∙ sym (append_assoc (g s) a b) in
    subst (λ xs. IsPermutation xs (g s ++ joined g rest)) (sym from) (subst (λ xs. IsPermutation ((a ++ g s) ++ b) xs) (sym to) (IsPermutation-append_left b (a ++ g s) (g s ++ a) (IsPermutation-append_comm a (g s))))

-- the segment, if it has a slot, is on the walk of its new home, and the others stay
pub record AreRehomed (p : Parts) (walks : ListsValue) (s : ℕ) (to : Heap) : Type 0 where
  pub within : s < length p.homes
  pub apart : AreApart walks
  pub on : (j : ℕ) → is_in (members p.segments s) j ≡ true → is_in (members walks (walk_of (length p.homes) to)) s ≡ true
  pub old : (a x : ℕ) → is_in (members walks a) x ≡ true → (x ≢ s) → is_in (members p.walks a) x ≡ true
  pub others : (a x : ℕ) → is_in (members p.walks a) x ≡ true → (x ≢ s) → is_in (members walks a) x ≡ true
  pub only : (a : ℕ) → is_in (members walks a) s ≡ true → (a ≡ walk_of (length p.homes) to) × (0 < length (members p.segments s))
  pub permuted : IsPermutation (used p) (joined (members p.segments) (concat walks.lists))
  pub size : length walks.lists ≡ length p.walks.lists
  pub room : walks.room ≡ p.walks.room

pub rehomed_empty : (p : Parts) (s : ℕ) (to : Heap) → AreKept p → s < length p.homes → members p.segments s ≡ [] → AreRehomed p p.walks s to
rehomed_empty p s to k within empty = record {
  within = within;
  apart = k.walks_apart;
  on = λ j e. let bad : false ≡ true = sym (ap (λ xs. is_in xs j) empty) ∙ e in absurd (cc);
  old = λ a x e ne. e;
  others = λ a x e ne. e;
  only = λ a e. absurd (omega (arith, (k.live a s e).1, ap (λ xs. length xs) empty));
  permuted = IsPermutation-refl (used p);
  size = refl;
  room = refl;
}

pub rehomed_full : (p : Parts) (v walks : ListsValue) (s : ℕ) (to : Heap) → AreKept p → s < length p.homes → 0 < length (members p.segments s) → is_in (members p.walks (walk_of (length p.homes) (home_of p.homes s))) s ≡ true → IsOut p.walks v (walk_of (length p.homes) (home_of p.homes s)) s → IsPut v walks (walk_of (length p.homes) to) s → AreApart walks → AreRehomed p walks s to
rehomed_full p v walks s to k within some there out put apart =
    let from = walk_of (length p.homes) (home_of p.homes s) in
    let into = walk_of (length p.homes) to in
    let was = block (members p.segments) s (concat v.lists) (order p) (out_joined p.walks v from s k.walks_apart out there) in
    let is = block (members p.segments) s (concat v.lists) (concat walks.lists) (put_joined v walks into s put) in
    record {
      within = within;
      apart = apart;
      on = λ j e. put_new v walks into s put;
      old = λ a x e ne. put_cases v walks into s a x (is_in (members p.walks a) x ≡ true) put e (λ in_v. out_old p.walks v from s a x out in_v) (λ list same. absurd (ne same));
      others = λ a x e ne. put_old v walks into s a x put (out_other p.walks v from s a x out e ne);
      only = λ a e. put_cases v walks into s a s ((a ≡ into) × (0 < length (members p.segments s))) put e
          (λ in_v.
          let same : a ≡ from = apart_one p.walks a from s k.walks_apart (out_old p.walks v from s a s out in_v) there in
          absurd (out_gone p.walks v from s out (subst (λ l. is_in (members v l) s ≡ true) same in_v)))
          (λ list same. (list, some));
      permuted =
          IsPermutation-trans (used p) (members p.segments s ++ joined (members p.segments) (concat v.lists)) (joined (members p.segments) (concat walks.lists)) was
          (IsPermutation-sym (joined (members p.segments) (concat walks.lists)) (members p.segments s ++ joined (members p.segments) (concat v.lists)) is);
      size = (put_size v walks into s put).0 ∙ (out_size p.walks v from s out).0;
      room = (put_size v walks into s put).1 ∙ (out_size p.walks v from s out).1;
    }

pub items_rehomed : (p : Parts) (walks : ListsValue) (s : ℕ) (to : Heap) → AreRehomed p walks s to → IsPermutation (shown p).items (shown (rehomed p walks s to)).items
items_rehomed p walks s to r = IsPermutation-map (row_at p.slots) (used p) (joined (members p.segments) (concat walks.lists)) r.permuted

-- a permutation counts the same
pub counted_same : (xs ys : List Counted) (n : Name) → IsPermutation xs ys → counted ys n ≡ counted xs n
counted_same xs ys n same = total_is (adds n) ys ∙ sum_by-IsPermutation (adds n) xs ys same ∙ sym (total_is (adds n) xs)

home_here : (p : Parts) (s : ℕ) (to : Heap) → s < length p.homes → home_of (set p.homes s to) s ≡ to
home_here p s to within = get_or-set_same p.homes s to Kernel within

home_there : (p : Parts) (s x : ℕ) (to : Heap) → (x ≢ s) → home_of (set p.homes s to) x ≡ home_of p.homes x
home_there p s x to ne = get_or-set_other p.homes s x to Kernel ne

pub kept_rehomed : (p : Parts) (walks : ListsValue) (s : ℕ) (to : Heap) → AreKept p → AreRehomed p walks s to → AreKept (rehomed p walks s to)
kept_rehomed p walks s to k r =
    let q = rehomed p walks s to in
    record {
      distinct = λ t.
          let same : total (hits t) (shown q).items ≡ total (hits t) (shown p).items =
          total_is (hits t) (shown q).items ∙ sum_by-IsPermutation (hits t) (shown p).items (shown q).items (items_rehomed p walks s to r) ∙ sym (total_is (hits t) (shown p).items) in
          omega (arith, same, k.distinct t, hits_are (shown p).items t, hits_are (shown q).items t);
      sizes = record {
        chains = k.sizes.chains;
        chains_room = k.sizes.chains_room;
        segments = omega (arith, len, k.sizes.segments);
        segments_room = k.sizes.segments_room;
        walks = omega (arith, len, r.size, k.sizes.walks);
        walks_room = omega (arith, len, r.room, k.sizes.walks_room);
        homes = omega (arith, len, k.sizes.homes);
        slots = k.sizes.slots;
      };
      segments_apart = k.segments_apart;
      walks_apart = r.apart;
      below = k.below;
      positive = λ x j within e. k.positive x j (omega (arith, len, within)) e;
      placed = λ x j within e. k.placed x j (omega (arith, len, within)) e;
      chained = λ x j within e. k.chained x j (omega (arith, len, within)) e;
      listed = λ b j e. let l = k.listed b j e in record { own = l.own; homed = omega (arith, len, l.homed); there = l.there };
      walked = λ x j within e. same_or_not x s (is_in (members walks (walk_of (length (set p.homes s to)) (home_of (set p.homes s to) x))) x ≡ true)
          (λ same. subst (λ y. is_in (members walks (walk_of (length (set p.homes s to)) (home_of (set p.homes s to) y))) y ≡ true) (sym same)
          (subst (λ w. is_in (members walks w) s ≡ true) (sym (ap₂ (λ n h. walk_of n h) len (home_here p s to r.within))) (r.on j (subst (λ y. is_in (members p.segments y) j ≡ true) same e))))
          (λ ne. subst (λ w. is_in (members walks w) x ≡ true) (sym (ap₂ (λ n h. walk_of n h) len (home_there p s x to ne)))
          (r.others (walk_of (length p.homes) (home_of p.homes x)) x (k.walked x j (omega (arith, len, within)) e) ne));
      live = λ a x e. same_or_not x s ((a ≡ walk_of (length (set p.homes s to)) (home_of (set p.homes s to) x)) × (0 < length (members p.segments x)))
          (λ same.
          let at = r.only a (subst (λ y. is_in (members walks a) y ≡ true) same e) in
          (at.0 ∙ sym (ap₂ (λ n h. walk_of n h) len (ap (λ y. home_of (set p.homes s to) y) same ∙ home_here p s to r.within)), subst (λ y. 0 < length (members p.segments y)) (sym same) at.1))
          (λ ne. let at = k.live a x (r.old a x e ne) in (at.0 ∙ sym (ap₂ (λ n h. walk_of n h) len (home_there p s x to ne)), at.1));
      full =
          omega (arith, k.full, length_permutation (used p) (joined (members p.segments) (concat walks.lists)) r.permuted, ap (λ n. length (members p.segments n)) len);
    }
  where
    len : length (set p.homes s to) ≡ length p.homes
    len = length-set p.homes s to

-- what the calls tell
pub rehomed_by : (p : Parts) (walks : ListsValue) (s from into : ℕ) (to : Heap) → AreKept p → s < length p.homes → from ≡ walk_of (length p.homes) (home_of p.homes s) → into ≡ walk_of (length p.homes) to → into ≤ length p.homes → walks ≡ changed p.walks from into s (members p.segments s) → AreApart walks → AreRehomed p walks s to
rehomed_by p walks s from into to k within from_is into_is into_in moved apart = by_list (members p.segments s) refl
  where
    by_list : (xs : List ℕ) → members p.segments s ≡ xs → AreRehomed p walks s to
    by_list [] e = subst (λ (w : ListsValue). AreRehomed p w s to) (sym (moved ∙ ap (λ xs. changed p.walks from into s xs) e)) (rehomed_empty p s to k within e)
    by_list (x ∷ xs) e =
        let there : is_in (members p.segments s) x ≡ true = ap (λ ys. is_in ys x) e ∙ in_head x xs in
        let on = k.walked s x within there in
        let v : ListsValue = left p.walks from s [] in
        let is : walks ≡ changed p.walks from into s (x ∷ xs) = moved ∙ ap (λ ys. changed p.walks from into s ys) e in
        let out : IsOut p.walks v from s = record { within = in_within p.walks from s (subst (λ w. is_in (members p.walks w) s ≡ true) (sym from_is) on); is = refl } in
        let put : IsPut v walks into s = record { within = omega (arith, into_in, (out_size p.walks v from s out).0, k.sizes.walks); is = is } in
        rehomed_full p v walks s to k within (omega (arith, ap (λ ys. length ys) e)) on (subst (λ w. IsOut p.walks v w s) from_is out) (subst (λ w. IsPut v walks w s) into_is put) apart
