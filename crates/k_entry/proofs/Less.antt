-- A table with an item less.
use Rattle.std.proofs.Common.{◌≡◌, ◌+◌, ◌≢◌, ℕ, ◌<◌, true, refl, sym, ap, subst, ◌∙◌, ◌∷◌, length, set, arith}
use Rattle.std.specs.List.{concat}
use Rattle.k_types.specs.declared.names.Name.{Name}
use Rattle.k_lists.specs.Lists.{ListsValue, AreApart, IsFree, members, is_in, without}
use Rattle.k_entry.specs.Entries.{HasLess, home_of}
use Rattle.k_entry.specs.Slots.{at, row_at, bucket, walk_of, left, Parts, order, used, shown, AreKept, HaveSizes}
use Rattle.k_lists.proofs.Apart.{apart_in, apart_one}
use Rattle.k_entry.proofs.Members.{in_within}
use Rattle.k_entry.proofs.With.{IsWith, with_map, with_total, with_length}
use Rattle.k_entry.proofs.Joined.{joined, joined_same, joined_with, in_concat, concat_in}
use Rattle.k_entry.proofs.Counts.{hits, hits_are, less_gone}
use Rattle.k_entry.proofs.Items.{order_below, order_single, once_hit, entries_of, IsFound}
use Rattle.k_entry.proofs.Changes.{same_or_not, IsPut, put_here, put_there, put_old, put_new, put_cases, put_size, IsOut, out_here, out_there, out_old, out_other, out_gone, out_free, out_size, out_with}
use Rattle.k_entry.proofs.Entered.{IsLeft, left_of}
use Rattle.k_entry.proofs.More.{moved}

-- the slot of the object was taken out of its lists, and is free
pub record IsLess (p : Parts) (v : ListsValue) (t : Name) (i : ℕ) (chains segments walks : ListsValue) : Type 0 where
  pub found : IsFound p t i
  pub chain_out : IsOut p.chains chains (bucket p.room t) i
  pub segment_out : IsOut p.segments v t.seg.0 i
  pub walk_left : IsLeft p.walks walks (walk_of (length p.homes) (home_of p.homes t.seg.0)) t.seg.0 (members v t.seg.0)
  pub freed : IsPut v segments (length p.homes) i
  pub segments_apart : AreApart segments
  pub walks_apart : AreApart walks

-- a slot in a segment's list was there
was_in : (p : Parts) (v : ListsValue) (t : Name) (i : ℕ) (chains segments walks : ListsValue) (s j : ℕ) → IsLess p v t i chains segments walks → s < length p.homes → is_in (members segments s) j ≡ true → is_in (members v s) j ≡ true
was_in p v t i chains segments walks s j m within e = sym (ap (λ xs. is_in xs j) (put_there v segments (length p.homes) i s m.freed (λ same. omega (arith, within, same)))) ∙ e

was : (p : Parts) (v : ListsValue) (t : Name) (i : ℕ) (chains segments walks : ListsValue) (s j : ℕ) → IsLess p v t i chains segments walks → s < length p.homes → is_in (members segments s) j ≡ true → is_in (members p.segments s) j ≡ true
was p v t i chains segments walks s j m within e = out_old p.segments v t.seg.0 i s j m.segment_out (was_in p v t i chains segments walks s j m within e)

-- and is another slot than the one that was freed
other : (p : Parts) (v : ListsValue) (t : Name) (i : ℕ) (chains segments walks : ListsValue) (s j : ℕ) → AreKept p → IsLess p v t i chains segments walks → s < length p.homes → is_in (members segments s) j ≡ true → j ≢ i
other p v t i chains segments walks s j k m within e same =
    let here : is_in (members v s) i ≡ true = subst (λ n. is_in (members v s) n ≡ true) same (was_in p v t i chains segments walks s j m within e) in
    let list : s ≡ t.seg.0 = apart_one p.segments s t.seg.0 i k.segments_apart (out_old p.segments v t.seg.0 i s i m.segment_out here) m.found.there in
    out_gone p.segments v t.seg.0 i m.segment_out (subst (λ l. is_in (members v l) i ≡ true) list here)

-- another slot stays in its list
still : (p : Parts) (v : ListsValue) (t : Name) (i : ℕ) (chains segments walks : ListsValue) (s j : ℕ) → IsLess p v t i chains segments walks → is_in (members p.segments s) j ≡ true → (j ≢ i) → is_in (members segments s) j ≡ true
still p v t i chains segments walks s j m there ne = put_old v segments (length p.homes) i s j m.freed (out_other p.segments v t.seg.0 i s j m.segment_out there ne)

used_less : (p : Parts) (v : ListsValue) (t : Name) (i : ℕ) (chains segments walks : ListsValue) → AreKept p → IsLess p v t i chains segments walks → IsWith i (used (moved p p.slots chains segments walks)) (used p)
used_less p v t i chains segments walks k m =
    let s = t.seg.0 in
    let out : IsWith i (joined (members v) (order p)) (used p) =
    joined_with (members v) (members p.segments) (order p) s i (order_single p s i k m.found.homed m.found.there)
    (λ x ne. out_there p.segments v s i x m.segment_out ne)
    (out_with p.segments v s i k.segments_apart m.segment_out m.found.there) in
    let empty : joined (members v) (order p) ≡ joined (members v) (concat walks.lists) = m.walk_left.same (members v) refl in
    let free : joined (members v) (concat walks.lists) ≡ joined (members segments) (concat walks.lists) =
    joined_same (members v) (members segments) (concat walks.lists) (λ x e.
    let w = in_concat walks.lists x e in
    let below = order_below p x k (concat_in p.walks.lists w.0 x (m.walk_left.old w.0 x w.1)) in
    sym (put_there v segments (length p.homes) i x m.freed (λ same. omega (arith, below, same)))) in
    subst (λ ys. IsWith i ys (used p)) (empty ∙ free) out

-- there is one item less
pub one_less : (p : Parts) (v : ListsValue) (t : Name) (i : ℕ) (chains segments walks : ListsValue) → AreKept p → IsLess p v t i chains segments walks → length (used p) ≡ length (used (moved p p.slots chains segments walks)) + 1
one_less p v t i chains segments walks k m = with_length i (used (moved p p.slots chains segments walks)) (used p) (used_less p v t i chains segments walks k m)

pub items_less : (p : Parts) (v : ListsValue) (t : Name) (i : ℕ) (chains segments walks : ListsValue) → AreKept p → IsLess p v t i chains segments walks → IsWith (row_at p.slots i) (shown (moved p p.slots chains segments walks)).items (shown p).items
items_less p v t i chains segments walks k m = with_map (row_at p.slots) i (used (moved p p.slots chains segments walks)) (used p) (used_less p v t i chains segments walks k m)

sizes_less : (p : Parts) (v : ListsValue) (t : Name) (i : ℕ) (chains segments walks : ListsValue) → AreKept p → IsLess p v t i chains segments walks → HaveSizes (moved p p.slots chains segments walks)
sizes_less p v t i chains segments walks k m =
    let c = out_size p.chains chains (bucket p.room t) i m.chain_out in
    let o = out_size p.segments v t.seg.0 i m.segment_out in
    let s = put_size v segments (length p.homes) i m.freed in
    record {
      chains = c.0 ∙ k.sizes.chains;
      chains_room = c.1 ∙ k.sizes.chains_room;
      segments = s.0 ∙ o.0 ∙ k.sizes.segments;
      segments_room = s.1 ∙ o.1 ∙ k.sizes.segments_room;
      walks = m.walk_left.size ∙ k.sizes.walks;
      walks_room = m.walk_left.room ∙ k.sizes.walks_room;
      homes = k.sizes.homes;
      slots = k.sizes.slots;
    }

pub kept_less : (p : Parts) (v : ListsValue) (t : Name) (i : ℕ) (chains segments walks : ListsValue) → AreKept p → IsLess p v t i chains segments walks → AreKept (moved p p.slots chains segments walks)
kept_less p v t i chains segments walks k m =
    record {
      distinct = λ n.
          omega (
            arith,
            k.distinct n,
            hits_are (shown p).items n,
            hits_are (shown (moved p p.slots chains segments walks)).items n,
            with_total (hits n) (row_at p.slots i) (shown (moved p p.slots chains segments walks)).items (shown p).items (items_less p v t i chains segments walks k m),
          );
      sizes = sizes_less p v t i chains segments walks k m;
      segments_apart = m.segments_apart;
      walks_apart = m.walks_apart;
      below = λ s j e. put_cases v segments (length p.homes) i s j (j < length p.slots) m.freed e
          (λ in_v. k.below s j (out_old p.segments v t.seg.0 i s j m.segment_out in_v))
          (λ list is. subst (λ n. n < length p.slots) (sym is) m.found.within);
      positive = λ s j within e. k.positive s j within (was p v t i chains segments walks s j m within e);
      placed = λ s j within e. k.placed s j within (was p v t i chains segments walks s j m within e);
      chained = λ s j within e.
          out_other p.chains chains (bucket p.room t) i (bucket p.room (at p.slots j).target) j m.chain_out
          (k.chained s j within (was p v t i chains segments walks s j m within e)) (other p v t i chains segments walks s j k m within e);
      listed = λ b j e.
          let l = k.listed b j (out_old p.chains chains (bucket p.room t) i b j m.chain_out e) in
          record {
            own = l.own;
            homed = l.homed;
            there = still p v t i chains segments walks (at p.slots j).target.seg.0 j m l.there (λ same.
                let chain : b ≡ bucket p.room t = l.own ∙ ap (λ n. bucket p.room (at p.slots n).target) same ∙ ap (λ (n : Name). bucket p.room n) m.found.target in
                out_gone p.chains chains (bucket p.room t) i m.chain_out (subst (λ c. is_in (members chains c) i ≡ true) chain (subst (λ n. is_in (members chains b) n ≡ true) same e)));
          };
      walked = λ s j within e. same_or_not s t.seg.0 (is_in (members walks (walk_of (length p.homes) (home_of p.homes s))) s ≡ true)
          (λ same. subst (λ l. is_in (members walks (walk_of (length p.homes) (home_of p.homes l))) l ≡ true) (sym same)
          (m.walk_left.stays j (subst (λ l. is_in (members v l) j ≡ true) same (was_in p v t i chains segments walks s j m within e))))
          (λ ne. m.walk_left.others (walk_of (length p.homes) (home_of p.homes s)) s (k.walked s j within (was p v t i chains segments walks s j m within e)) ne);
      live = λ a s e.
          let l = k.live a s (m.walk_left.old a s e) in
          let below : s < length p.homes = omega (arith, apart_in p.walks a s k.walks_apart (m.walk_left.old a s e), k.sizes.walks_room) in
          let list : members segments s ≡ members v s = put_there v segments (length p.homes) i s m.freed (λ same. omega (arith, below, same)) in (
            l.0,
            same_or_not s t.seg.0 (0 < length (members segments s))
                (λ same.
                let some : 0 < length (members v t.seg.0) = m.walk_left.some a (subst (λ x. is_in (members walks a) x ≡ true) same e) in
                omega (arith, some, ap (λ xs. length xs) list, ap (λ x. length (members v x)) same))
                (λ ne. omega (arith, l.1, ap (λ xs. length xs) list, ap (λ xs. length xs) (out_there p.segments v t.seg.0 i s m.segment_out ne))),
          );
      full =
          omega (
            arith,
            k.full,
            one_less p v t i chains segments walks k m,
            ap (λ xs. length xs) (put_here v segments (length p.homes) i m.freed),
            ap (λ xs. length xs) (out_there p.segments v t.seg.0 i (length p.homes) m.segment_out (λ same. omega (arith, m.found.homed, same))),
          );
    }

pub has_less : (p : Parts) (v : ListsValue) (t : Name) (i : ℕ) (chains segments walks : ListsValue) → AreKept p → IsLess p v t i chains segments walks → (at p.slots i).count ≡ 1 → HasLess (shown p) (shown (moved p p.slots chains segments walks)) t
has_less p v t i chains segments walks k m one =
    less_gone (row_at p.slots i) (shown p) (shown (moved p p.slots chains segments walks)) t (items_less p v t i chains segments walks k m) (once_hit p t k) m.found.target m.found.hit one refl refl (entries_of (moved p p.slots chains segments walks) (kept_less p v t i chains segments walks k m))

-- what the calls tell
pub less_by : (p : Parts) (v : ListsValue) (t : Name) (i free chain walk : ℕ) (chains segments walks : ListsValue) → AreKept p → IsFound p t i → free ≡ length p.homes → chain ≡ bucket p.room t → walk ≡ walk_of (length p.homes) (home_of p.homes t.seg.0) → chains ≡ record p.chains { lists = set p.chains.lists chain (without i (members p.chains chain)) } → v ≡ record p.segments { lists = set p.segments.lists t.seg.0 (without i (members p.segments t.seg.0)) } → walks ≡ left p.walks walk t.seg.0 (without i (members p.segments t.seg.0)) → segments ≡ record v { lists = set v.lists free (i ∷ members v free) } → AreApart segments → AreApart walks → IsLess p v t i chains segments walks
less_by p v t i free chain walk chains segments walks k f free_is chain_is walk_is chain_out segment_out walk_left freed segments_apart walks_apart =
    let o : IsOut p.segments v t.seg.0 i = record { within = omega (arith, f.homed, k.sizes.segments); is = segment_out } in
    let on : is_in (members p.walks walk) t.seg.0 ≡ true = subst (λ w. is_in (members p.walks w) t.seg.0 ≡ true) (sym walk_is) (k.walked t.seg.0 i f.homed f.there) in
    let chained : is_in (members p.chains (bucket p.room t)) i ≡ true = subst (λ (n : Name). is_in (members p.chains (bucket p.room n)) i ≡ true) f.target (k.chained t.seg.0 i f.homed f.there) in
    let l : IsLeft p.walks walks walk t.seg.0 (without i (members p.segments t.seg.0)) = left_of p.walks walks walk t.seg.0 (without i (members p.segments t.seg.0)) k.walks_apart walk_left on in
    record {
      found = f;
      chain_out = subst (λ b. IsOut p.chains chains b i) chain_is (record { within = in_within p.chains chain i (subst (λ b. is_in (members p.chains b) i ≡ true) (sym chain_is) chained); is = chain_out });
      segment_out = o;
      walk_left = subst (λ w. IsLeft p.walks walks w t.seg.0 (members v t.seg.0)) walk_is (subst (λ xs. IsLeft p.walks walks walk t.seg.0 xs) (sym (out_here p.segments v t.seg.0 i o)) l);
      freed = subst (λ n. IsPut v segments n i) free_is (record { within = omega (arith, free_is, (out_size p.segments v t.seg.0 i o).0, k.sizes.segments); is = freed });
      segments_apart = segments_apart;
      walks_apart = walks_apart;
    }

-- the slot is among the free ones then
pub freed_there : (p : Parts) (v : ListsValue) (t : Name) (i : ℕ) (chains segments walks : ListsValue) → IsLess p v t i chains segments walks → is_in (members segments (length p.homes)) i ≡ true
freed_there p v t i chains segments walks m = put_new v segments (length p.homes) i m.freed

-- a slot that was taken out of its list is in none
pub freed_is_free : (p : Parts) (v : ListsValue) (t : Name) (i : ℕ) → AreKept p → IsFound p t i → v ≡ record p.segments { lists = set p.segments.lists t.seg.0 (without i (members p.segments t.seg.0)) } → IsFree v i
freed_is_free p v t i k f segment_out =
    let o : IsOut p.segments v t.seg.0 i = record { within = omega (arith, f.homed, k.sizes.segments); is = segment_out } in
    out_free p.segments v t.seg.0 i k.segments_apart o f.there
