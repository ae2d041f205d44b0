-- An item is replaced, or goes.
use Rattle.std.proofs.Common.{◌≡◌, ◌≢◌, ◌==◌, ℕ, zero, suc, ◌<◌, ◌≤◌, ◌&&◌, not, true, refl, sym, ap, ap₂, ◌∙◌, inl, inr, List, [], ◌∷◌, length, map, take, replicate, get_or, set, arith, ◌^◌, eq-eqb}
use Rattle.std.proofs.lemmas.Bool.{cases_eq}
use Rattle.std.proofs.lemmas.List.{length-map}
use Rattle.k_exit.specs.declared.chains.Item.{Item}
use Rattle.k_lists.specs.Hash.{bucket}
use Rattle.k_exit.specs.Chains.{row_of, at, last, in_chain, IsLinked, IsChained}
use Rattle.k_exit.specs.Exits.{ExitRow}
use Rattle.k_exit.proofs.Last.{last_same, last_not}
use Rattle.k_exit.proofs.Links.{out_other, in_out}

-- whatever lies at the place that is left out doesn't matter, nor what lies past the end
pub relinked : (items other : List Item) (heads : List ℕ) (end out : ℕ) → IsLinked items heads end out → end ≤ length other → length other ≤ length heads →
    ((j : ℕ) → j < end → j ≢ out → at other j ≡ at items j) → IsLinked other heads end out
relinked items other heads end out linked fits room same =
    record {
      end_in = fits;
      room = room;
      small = linked.small;
      firsts = λ b within. linked.firsts b within ∙ sym (last_same (in_chain items (length heads) out b) (in_chain other (length heads) out b) end (λ j below. tests b j below));
      nexts = λ i below apart.
          ap (λ (x : Item). x.next) (same i below apart) ∙ linked.nexts i below apart
          ∙ sym (last_same (in_chain items (length heads) out (bucket (length heads) (at items i).target)) (in_chain other (length heads) out (bucket (length heads) (at items i).target)) i
          (λ j lower. tests (bucket (length heads) (at items i).target) j (omega (arith, lower, below))))
          ∙ ap (λ (x : Item). last (in_chain other (length heads) out (bucket (length heads) x.target)) i) (sym (same i below apart));
    }
  where
    tests : (b j : ℕ) → j < end → in_chain other (length heads) out b j ≡ in_chain items (length heads) out b j
    tests b j below =
        elim (cases_eq j out) [
          | inl is ↦ ap₂ (λ k t. not t && (bucket (length heads) (at other k).target == b)) refl (eq_test j out is) ∙ sym (ap₂ (λ k t. not t && (bucket (length heads) (at items k).target == b)) refl (eq_test j out is))
          | inr differs ↦ ap (λ (x : Item). not (j == out) && (bucket (length heads) x.target == b)) (same j below differs)
        ]
      where
        eq_test : (a c : ℕ) → a ≡ c → (a == c) ≡ true
        eq_test a c e = eq-eqb a c e

-- the last item, which is left out, is cut off
pub cut_off : (items other : List Item) (heads : List ℕ) (last_one : ℕ) → IsLinked items heads (suc last_one) last_one → length other ≡ last_one → ((j : ℕ) → j < last_one → at other j ≡ at items j) → IsChained other heads
cut_off items other heads last_one linked len same =
    record {
      end_in = omega arith;
      room = omega (arith, len, linked.end_in, linked.room);
      small = linked.small;
      firsts = λ b within.
          linked.firsts b within ∙ low b (suc last_one) (omega arith) ∙ ap (λ n. last (in_chain other (length heads) (length other) b) n) (sym len);
      nexts = λ i below apart.
          let inside : i < last_one = omega (arith, below, len) in
          ap (λ (x : Item). x.next) (same i inside) ∙ linked.nexts i (omega (arith, inside)) (λ s. omega (arith, inside, s))
          ∙ sym (last_same (in_chain items (length heads) last_one (bucket (length heads) (at items i).target)) (in_chain other (length heads) (length other) (bucket (length heads) (at items i).target)) i
          (λ j lower. tests (bucket (length heads) (at items i).target) j (omega (arith, lower, inside))))
          ∙ ap (λ (x : Item). last (in_chain other (length heads) (length other) (bucket (length heads) x.target)) i) (sym (same i inside));
    }
  where
    tests : (b j : ℕ) → j < last_one → in_chain other (length heads) (length other) b j ≡ in_chain items (length heads) last_one b j
    tests b j below =
        ap (λ (x : Item). not (j == length other) && (bucket (length heads) x.target == b)) (same j below)
        ∙ out_other items (length heads) last_one (length other) b j (λ s. omega (arith, below, s)) (λ s. omega (arith, below, s, len))

    low : (b k : ℕ) → k ≡ suc last_one → last (in_chain items (length heads) last_one b) k ≡ last (in_chain other (length heads) (length other) b) last_one
    low b k is =
        ap (last (in_chain items (length heads) last_one b)) is
        ∙ last_not (in_chain items (length heads) last_one b) last_one (in_out items (length heads) last_one b)
        ∙ sym (last_same (in_chain items (length heads) last_one b) (in_chain other (length heads) (length other) b) last_one (λ j below. tests b j below))

-- no items, no links
pub none_linked : (items : List Item) (heads : List ℕ) → ((b : ℕ) → get_or heads b 0 ≡ 0) → length items ≤ length heads → length heads < 2 ^ 32 → IsLinked items heads 0 0
unfolding last
none_linked items heads zeros fits small =
    record { end_in = omega arith; room = fits; small = small; firsts = λ b within. zeros b; nexts = λ i below apart. absurd (omega (arith, below)) }

-- one item more to link
pub one_more : (items : List Item) (heads : List ℕ) (end : ℕ) → IsLinked items heads end end → end < length items → IsLinked items heads (suc end) end
one_more items heads end linked inside =
    record {
      end_in = omega (arith, inside);
      room = linked.room;
      small = linked.small;
      firsts = λ b within. linked.firsts b within ∙ sym (last_not (in_chain items (length heads) end b) end (in_out items (length heads) end b));
      nexts = λ i below apart. linked.nexts i (omega (arith, below, apart)) apart;
    }

pub same_len : (xs ys : List Item) → map row_of xs ≡ map row_of ys → length xs ≡ length ys
same_len xs ys e = sym (length-map xs row_of) ∙ ap (λ (rs : List ExitRow). length rs) e ∙ length-map ys row_of

pub map_front : {A B : Type 0} (f : A → B) (n : ℕ) (xs : List A) → map f (take n xs) ≡ take n (map f xs)
map_front f zero xs = refl
map_front f (suc n) [] = refl
map_front f (suc n) (x ∷ xs) = ap (λ ys. f x ∷ ys) (map_front f n xs)

pub set_front : {A : Type 0} (n i : ℕ) (xs : List A) (y : A) → i < n → set (take n xs) i y ≡ take n (set xs i y)
set_front zero i xs y below = absurd (omega (arith, below))
set_front (suc n) i [] y below = refl
set_front (suc n) zero (x ∷ xs) y below = refl
set_front (suc n) (suc i) (x ∷ xs) y below = ap (λ ys. x ∷ ys) (set_front n i xs y (omega (arith, below)))

pub front_at : {A : Type 0} (n i : ℕ) (xs : List A) (d : A) → i < n → get_or (take n xs) i d ≡ get_or xs i d
front_at zero i xs d below = absurd (omega (arith, below))
front_at (suc n) i [] d below = refl
front_at (suc n) zero (x ∷ xs) d below = refl
front_at (suc n) (suc i) (x ∷ xs) d below = front_at n i xs d (omega (arith, below))

pub front_len : {A : Type 0} (n : ℕ) (xs : List A) → n ≤ length xs → length (take n xs) ≡ n
front_len zero xs within = refl
front_len (suc n) [] within = absurd (omega (arith, within))
front_len (suc n) (x ∷ xs) within = ap suc (front_len n xs (omega (arith, within)))

pub all_zero : (n b : ℕ) → get_or (replicate {A = ℕ} n 0) b 0 ≡ 0
all_zero zero b = refl
all_zero (suc n) zero = refl
all_zero (suc n) (suc b) = all_zero n b

pub zeros_len : (n : ℕ) → length (replicate {A = ℕ} n 0) ≡ n
zeros_len zero = refl
zeros_len (suc n) = ap suc (zeros_len n)
