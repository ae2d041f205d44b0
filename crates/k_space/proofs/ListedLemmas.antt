-- The list of live objects after a change.
use Rattle.std.proofs.Common.{◌≡◌, ◌≢◌, ℕ, ◌+◌, ◌-◌, ◌<◌, false, refl, sym, ap, ◌∙◌, inl, inr, List, [], ◌∷◌, ◌++◌, length, map, get_or, set, arith}
use Rattle.std.proofs.lemmas.Bool.{cases_eq}
use Rattle.std.proofs.lemmas.List.{get_or-set_same, get_or-set_other, length-set, get_or_append_left, get_or_push, get_or_default, length-append, length-map}
use Rattle.k_space.specs.declared.marks.Place.{Place}
use Rattle.k_space.specs.declared.marks.Place.TheVariants.{Empty, At}
use Rattle.k_space.specs.declared.marks.Mark.{Mark}
use Rattle.k_space.specs.declared.marks.Mark.TheVariants.{White}
use Rattle.k_space.specs.Places.{is_white_place, white_place}
use Rattle.k_space.specs.Listed.{ArePassed, IsAmong, IsListed, IsNextWhite}
use Rattle.k_space.proofs.GrayLists.{At_inside}
use Rattle.k_space.proofs.Numbers.{IsWithout}
use Rattle.k_space.proofs.Pushed.{at_pushed}
use Rattle.k_space.proofs.Rows.{taken_white, white_there}
use Rattle.k_space.proofs.Taken.{taken_freed, taken_map, taken_pushed, taken_recolored}

-- one object more
pub listed_pushed : (places : List Place) (live : List ℕ) (passed slot serial : ℕ) → IsListed places live passed → serial ≡ length places → IsListed (places ++ At slot White ∷ []) (live ++ serial ∷ []) passed
listed_pushed places live passed slot serial was last = record {
  counted = omega (arith, was.counted, taken_pushed places slot White, length-append live (serial ∷ []));
  reached = omega (arith, was.reached, length-append live (serial ∷ []));
  inside = λ k below.
      elim (cases_eq k (length live)) [
        | inl same ↦
            let here : get_or (live ++ serial ∷ []) k 0 ≡ serial = get_or_push live serial 0 k (sym same) in
            omega (arith, here, last, length-append places (At slot White ∷ []))
        | inr differs ↦
            let low : k < length live = omega (arith, differs, below, length-append live (serial ∷ [])) in
            let here = stays k low in
            omega (arith, here, was.inside k low, length-append places (At slot White ∷ []))
      ];
  covers = λ i s mark e.
      elim (at_pushed places (At slot White) i s mark e) [
        | inl there ↦
            let a = was.covers i s mark there in
            record { at = a.at; below = omega (arith, a.below, length-append live (serial ∷ [])); is = stays a.at a.below ∙ a.is }
        | inr here ↦
            record { at = length live; below = omega (arith, length-append live (serial ∷ [])); is = get_or_push live serial 0 (length live) refl ∙ last ∙ sym here.0 }
      ];
  done = λ k low.
      let before : k < length live = omega (arith, low, was.reached) in
      ap (λ n. is_white_place (get_or (places ++ At slot White ∷ []) n Empty)) (stays k before)
      ∙ ap is_white_place (get_or_append_left places (At slot White ∷ []) Empty (get_or live k 0) (was.inside k before)) ∙ was.done k low;
}
  where
    stays : (k : ℕ) → k < length live → get_or (live ++ serial ∷ []) k 0 ≡ get_or live k 0
    stays k low = get_or_append_left live (serial ∷ []) 0 k low

-- places that are not white stay so where the one at i is not white
still_passed : (places : List Place) (live : List ℕ) (count i : ℕ) (x : Place) → ArePassed places live count → i < length places → is_white_place x ≡ false → ArePassed (set places i x) live count
still_passed places live count i x was within dark = λ k low.
    elim (cases_eq (get_or live k 0) i) [
      | inl same ↦ ap (λ n. is_white_place (get_or (set places i x) n Empty)) same ∙ ap is_white_place (get_or-set_same places i x Empty within) ∙ dark
      | inr differs ↦ ap is_white_place (get_or-set_other places i (get_or live k 0) x Empty differs) ∙ was k low
    ]

-- another mark that is not white
pub listed_recolored : (places : List Place) (live : List ℕ) (passed i slot : ℕ) (m n : Mark) → IsListed places live passed → get_or places i Empty ≡ At slot m → is_white_place (At slot n) ≡ false → IsListed (set places i (At slot n)) live passed
listed_recolored places live passed i slot m n was here dark =
    let within = At_inside places i slot m here in
    record {
      counted = was.counted ∙ sym (taken_recolored places i slot m n here);
      reached = was.reached;
      inside = λ k below. omega (arith, was.inside k below, length-set places i (At slot n));
      covers = λ j s mark e.
          elim (cases_eq j i) [
            | inl same ↦ was.covers j slot m (ap (λ k. get_or places k Empty) same ∙ here)
            | inr differs ↦ was.covers j s mark (sym (get_or-set_other places i j (At slot n) Empty differs) ∙ e)
          ];
      done = still_passed places live passed i (At slot n) was.done within dark;
    }

-- no marks
pub listed_whitened : (places : List Place) (live : List ℕ) (passed : ℕ) → IsListed places live passed → IsListed (map white_place places) live 0
listed_whitened places live passed was = record {
  counted = was.counted ∙ sym (taken_map white_place taken_white places);
  reached = omega arith;
  inside = λ k below. omega (arith, was.inside k below, length-map places white_place);
  covers = λ i s mark e. let there = white_there places i s mark e in was.covers i s there.0 there.1;
  done = λ k low. absurd (omega (arith, low));
}

-- the object of one entry is gone, and the last entry stands in its place
module _ (places : List Place) (live after : List ℕ) (passed at slot : ℕ) (was : IsListed places live passed) (next : IsNextWhite places live at slot) (without : IsWithout live after at) where
  abbrev gone : ℕ
  gone = get_or live at 0

  within : gone < length places
  within = was.inside at next.below

  -- where an entry came from
  from : (k : ℕ) → k < length after → (j : ℕ) × (j < length live) × (get_or after k 0 ≡ get_or live j 0)
  from k below =
      elim (cases_eq k at) [
        | inl same ↦
            let more : at + 1 < length live = omega (arith, same, below, without.len) in
            (length live - 1, omega (arith, more), ap (λ n. get_or after n 0) same ∙ without.moved 0 more)
        | inr differs ↦
            let more : k + 1 < length live = omega (arith, below, without.len) in
            (k, omega (arith, more), without.others k 0 differs more)
      ]

  -- and where each other one went
  to : (j : ℕ) → j < length live → j ≢ at → IsAmong after (get_or live j 0)
  to j below differs =
      elim (cases_eq (j + 1) (length live)) [
        | inl last ↦
            let more : at + 1 < length live = omega (arith, next.below, last, differs) in
            let is : length live - 1 ≡ j = omega (arith, last) in
            record { at = at; below = omega (arith, more, without.len); is = without.moved 0 more ∙ ap (λ n. get_or live n 0) is }
        | inr inner ↦
            let more : j + 1 < length live = omega (arith, below, inner) in
            record { at = j; below = omega (arith, more, without.len); is = without.others j 0 differs more }
      ]

  others_still : (i s : ℕ) (mark : Mark) → get_or (set places gone Empty) i Empty ≡ At s mark → IsAmong after i
  others_still i s mark e =
      elim (cases_eq i gone) [
        | inl same ↦
            let none : Empty ≡ At s mark = sym (get_or-set_same places gone Empty Empty within) ∙ ap (λ k. get_or (set places gone Empty) k Empty) (sym same) ∙ e in
            absurd (cc)
        | inr differs ↦
            let a = was.covers i s mark (sym (get_or-set_other places gone i Empty Empty differs) ∙ e) in
            let b = to a.at a.below (λ same. differs (sym a.is ∙ ap (λ n. get_or live n 0) same)) in
            record { at = b.at; below = b.below; is = b.is ∙ a.is }
      ]

  pub listed_freed : IsListed (set places gone Empty) after at
  listed_freed = record {
    counted = omega (arith, was.counted, without.len, taken_freed places gone slot White next.there);
    reached = omega (arith, next.below, without.len);
    inside = λ k below. let j = from k below in let is = j.2 in omega (arith, is, was.inside j.0 j.1, length-set places gone Empty);
    covers = others_still;
    done = λ k low.
        ap (λ n. is_white_place (get_or (set places gone Empty) n Empty)) (without.others k 0 (λ same. omega (arith, same, low)) (omega (arith, low, next.below)))
        ∙ still_passed places live at gone Empty next.done within refl k low;
  }

-- the serial of an entry that was read
pub next_serial : (places : List Place) (live : List ℕ) (at slot serial : ℕ) → IsNextWhite places live at slot → serial ≡ get_or live at serial → serial ≡ get_or live at 0
next_serial places live at slot serial next read = read ∙ get_or_default live at serial 0 next.below

pub next_place : (places : List Place) (live : List ℕ) (at slot serial : ℕ) → IsNextWhite places live at slot → serial ≡ get_or live at serial → get_or places serial Empty ≡ At slot White
next_place places live at slot serial next read = ap (λ n. get_or places n Empty) (next_serial places live at slot serial next read) ∙ next.there

-- where all are passed no place is white
pub none_white : (places : List Place) (live : List ℕ) (passed : ℕ) → IsListed places live passed → ArePassed places live (length live) → (i slot : ℕ) (mark : Mark) → get_or places i Empty ≡ At slot mark → is_white_place (At slot mark) ≡ false
none_white places live passed was all i slot mark e =
    let a = was.covers i slot mark e in
    sym (ap (λ n. is_white_place (get_or places n Empty)) a.is ∙ ap is_white_place e) ∙ all a.at a.below
