-- The names that a sweep tells.
use Rattle.std.proofs.Common.{◌≡◌, ◌==◌, ◌&&◌, not, ℕ, zero, suc, ◌+◌, ◌<◌, Bool, true, false, cond, refl, sym, ap, ap₂, ◌∙◌, inl, inr, List, [], ◌∷◌, ◌++◌, length, get_or, set, slice_get, sum_by, Option, Some, None, arith, eqb-true, eq-eqb}
use Rattle.std.proofs.lemmas.Bool.{cases_eq, false_from_ne_true}
use Rattle.std.proofs.lemmas.List.{get_or-set_same, get_or-set_other, length-append}
use Rattle.std.proofs.lemmas.List.Sums.{sum_by-append, sum_by-cons, sum_by-set}
use Rattle.k_exit.proofs.BaseLists.{some_inside}
use Rattle.k_exit.proofs.Sums.{bit}
use Rattle.k_laws.specs.k_types.declared.names.Name.{Name}
use Rattle.k_laws.specs.k_types.Names.{name_eq}
use Rattle.k_space.specs.declared.segment.Gone.{Gone}
use Rattle.k_space.specs.Segments.{Row, SegmentValue, row_at, is_marked}
use Rattle.k_space.specs.Areas.{HasDistinct, place_of, row_in_segment, row_of_name}
use Rattle.k_space.specs.Sweeping.{IsTakenAway}
use Rattle.k_mark.specs.Listening.{AreTold, dead_in, times}
use Rattle.k_mark.specs.Sweeping.{dead_row}

-- what was told and is dead still is what was there and was dead
pub record IsTelling (old now : SegmentValue) (begun heard : List Name) : Type 0 where
  pub more : length heard + sum_by dead_row now.rows ≡ length begun + sum_by dead_row old.rows
  pub each_is : (n : Name) → times n heard + dead_in now n ≡ times n begun + dead_in old n

pub telling_begins : (s : SegmentValue) (begun : List Name) → IsTelling s s begun begun
telling_begins s begun = record { more = refl; each_is = λ n. refl }

times_push : (n m : Name) (names : List Name) → times n (names ++ m ∷ []) ≡ times n names + cond (name_eq m n) 1 0
times_push n m names =
    let f : Name → ℕ = λ k. cond (name_eq k n) 1 0 in
    let all : sum_by f (names ++ m ∷ []) ≡ sum_by f names + sum_by f (m ∷ []) = sum_by-append f names (m ∷ []) in
    let one : sum_by f (m ∷ []) ≡ f m + 0 = sum_by-cons f m [] in
    omega (arith, all, one)

-- an object that goes is one less
dead_set : (number : ℕ) (rows : List (Option Row)) (k seg serial : ℕ) → dead_row (get_or rows k None) ≡ 1 → k < length rows →
    cond (number == seg) (dead_row (get_or (set rows k None) serial None)) 0 + cond ((number == seg) && (k == serial)) 1 0 ≡ cond (number == seg) (dead_row (get_or rows serial None)) 0
dead_set number rows k seg serial one within = by_segment (number == seg)
  where
    by_segment : (b : Bool) → cond b (dead_row (get_or (set rows k None) serial None)) 0 + cond (b && (k == serial)) 1 0 ≡ cond b (dead_row (get_or rows serial None)) 0
    by_segment false = refl
    by_segment true =
        elim (cases_eq serial k) [
          | inl same ↦
              let gone : dead_row (get_or (set rows k None) serial None) ≡ 0 = ap (λ j. dead_row (get_or (set rows k None) j None)) same ∙ ap dead_row (get_or-set_same rows k None None within) in
              let told : bit (k == serial) ≡ bit true = ap bit (eq-eqb k serial (sym same)) in
              let was : dead_row (get_or rows serial None) ≡ 1 = ap (λ j. dead_row (get_or rows j None)) same ∙ one in
              omega (arith, gone, told, was)
          | inr differs ↦
              let stays : dead_row (get_or (set rows k None) serial None) ≡ dead_row (get_or rows serial None) = ap dead_row (get_or-set_other rows k serial None None differs) in
              let told : bit (k == serial) ≡ bit false = ap bit (false_from_ne_true (k == serial) (λ e. differs (sym (eqb-true k serial e)))) in
              omega (arith, stays, told)
        ]

module _ (now after : SegmentValue) (gone : Gone) (freed : IsTakenAway now after gone) where
  within : gone.serial.0 < length now.rows
  within = some_inside now.rows gone.serial.0 freed.row freed.there

  one : dead_row (get_or now.rows gone.serial.0 None) ≡ 1
  one = ap dead_row freed.there ∙ ap (λ c. cond (is_marked c) 0 1) freed.unmarked

  pub one_less : sum_by dead_row after.rows + 1 ≡ sum_by dead_row now.rows
  one_less =
      let sums : sum_by dead_row after.rows + dead_row (get_or now.rows gone.serial.0 None) ≡ sum_by dead_row now.rows + 0 =
      ap (λ (s : SegmentValue). sum_by dead_row s.rows + dead_row (get_or now.rows gone.serial.0 None)) freed.freed ∙ sum_by-set dead_row now.rows gone.serial.0 None None within in
      omega (arith, sums, one)

  dead_less : (m n : Name) → m.seg.0 ≡ now.number → m.serial.0 ≡ gone.serial.0 → dead_in after n + cond (name_eq m n) 1 0 ≡ dead_in now n
  dead_less m n seg serial =
      let set_is : dead_in after n ≡ cond (now.number == n.seg.0) (dead_row (get_or (set now.rows gone.serial.0 None) n.serial.0 None)) 0 = ap (λ (s : SegmentValue). dead_in s n) freed.freed in
      let test : name_eq m n ≡ ((now.number == n.seg.0) && (gone.serial.0 == n.serial.0)) = ap₂ (λ (a b : ℕ). (a == n.seg.0) && (b == n.serial.0)) seg serial in
      ap₂ (λ (k : ℕ) (b : Bool). k + cond b 1 0) set_is test ∙ dead_set now.number now.rows gone.serial.0 n.seg.0 n.serial.0 one within

  -- its name is told
  pub telling_goes_on : (old : SegmentValue) (begun heard : List Name) (m : Name) → IsTelling old now begun heard → m.seg.0 ≡ now.number → m.serial.0 ≡ gone.serial.0 → IsTelling old after begun (heard ++ m ∷ [])
  telling_goes_on old begun heard m was seg serial = record {
    more = let longer = length-append heard (m ∷ []) in let before = was.more in omega (arith, longer, one_less, before);
    each_is = λ n. let more = times_push n m heard in let less = dead_less m n seg serial in let before = was.each_is n in omega (arith, more, less, before);
  }

-- all were told once nothing is dead
pub telling_ends : (old now : SegmentValue) (begun heard : List Name) → IsTelling old now begun heard → sum_by dead_row now.rows ≡ 0 →
    ((serial : ℕ) (row : Row) → row_at now serial ≡ Some row → is_marked row.color ≡ true) → AreTold (dead_in old) (sum_by dead_row old.rows) begun heard
telling_ends old now begun heard was none marked = record {
  more = let all = was.more in omega (arith, all, none);
  each_is = λ n. let all = was.each_is n in let gone = none_in n in omega (arith, all, gone);
}
  where
    by_row : (b : Bool) (o : Option Row) → ((row : Row) → o ≡ Some row → is_marked row.color ≡ true) → cond b (dead_row o) 0 ≡ 0
    by_row false o all = refl
    by_row true None all = refl
    by_row true (Some row) all = ap (λ t. cond t 0 1) (all row refl)

    none_in : (n : Name) → dead_in now n ≡ 0
    none_in n = by_row (now.number == n.seg.0) (row_at now n.serial.0) (marked n.serial.0)

-- the first segments have told theirs
abbrev pub told_by : List SegmentValue → Name → ℕ
told_by segments n = sum_by (λ s. dead_in s n) segments

-- the object of a name lies in the one segment of its number
module _ (n : Name) where
  absent : (segments : List SegmentValue) → ((i : ℕ) (s : SegmentValue) → slice_get segments i ≡ Some s → (s.number == n.seg.0) ≡ false) → told_by segments n ≡ 0
  absent [] other = refl
  absent (s ∷ ss) other =
      let more : told_by (s ∷ ss) n ≡ dead_in s n + told_by ss n = sum_by-cons (λ (t : SegmentValue). dead_in t n) s ss in
      let here : dead_in s n ≡ 0 = ap (λ b. cond b (dead_row (row_at s n.serial.0)) 0) (other 0 s refl) in
      let rest = absent ss (λ i t at. other (suc i) t at) in
      omega (arith, more, here, rest)

  tail_distinct : (s : SegmentValue) (ss : List SegmentValue) → HasDistinct (s ∷ ss) → HasDistinct ss
  tail_distinct s ss distinct i t at = by_head (s.number == t.number) (distinct (suc i) t at)
    where
      by_head : (b : Bool) → cond (not b) (1 + place_of ss t.number) 0 ≡ suc i → place_of ss t.number ≡ i
      by_head true e = absurd (omega (arith, e))
      by_head false e = omega (arith, e)

  -- no other segment has the number of the first
  others : (s : SegmentValue) (ss : List SegmentValue) → HasDistinct (s ∷ ss) → (s.number == n.seg.0) ≡ true → (i : ℕ) (t : SegmentValue) → slice_get ss i ≡ Some t → (t.number == n.seg.0) ≡ false
  others s ss distinct same i t at =
      false_from_ne_true (t.number == n.seg.0)
      (λ e.
      let both : s.number ≡ t.number = eqb-true s.number n.seg.0 same ∙ sym (eqb-true t.number n.seg.0 e) in
      let first : place_of (s ∷ ss) t.number ≡ zero = ap (λ b. cond (not b) (1 + place_of ss t.number) zero) (eq-eqb s.number t.number both) in
      let later : place_of (s ∷ ss) t.number ≡ suc i = distinct (suc i) t at in
      omega (arith, first, later))

  pub told_by_all : (segments : List SegmentValue) → HasDistinct segments → told_by segments n ≡ dead_row (row_of_name segments n)
  told_by_all [] distinct = refl
  told_by_all (s ∷ ss) distinct = by_head (s.number == n.seg.0) refl (told_by_all ss (tail_distinct s ss distinct))
    where
      more : told_by (s ∷ ss) n ≡ dead_in s n + told_by ss n
      more = sum_by-cons (λ (t : SegmentValue). dead_in t n) s ss

      at_head : Bool → Option SegmentValue
      at_head b = slice_get (s ∷ ss) (cond (not b) (1 + place_of ss n.seg.0) zero)

      by_head : (b : Bool) → (s.number == n.seg.0) ≡ b → told_by ss n ≡ dead_row (row_of_name ss n) → told_by (s ∷ ss) n ≡ dead_row (row_of_name (s ∷ ss) n)
      by_head true e rest =
          let here : dead_in s n ≡ dead_row (row_at s n.serial.0) = ap (λ b. cond b (dead_row (row_at s n.serial.0)) 0) e in
          let none = absent ss (others s ss distinct e) in
          let found : dead_row (row_of_name (s ∷ ss) n) ≡ dead_row (row_at s n.serial.0) = ap (λ b. dead_row (row_in_segment (at_head b) n.serial.0)) e in
          omega (arith, more, here, none, found)
      by_head false e rest =
          let here : dead_in s n ≡ 0 = ap (λ b. cond b (dead_row (row_at s n.serial.0)) 0) e in
          let next : 1 + place_of ss n.seg.0 ≡ suc (place_of ss n.seg.0) = omega arith in
          let found : dead_row (row_of_name (s ∷ ss) n) ≡ dead_row (row_of_name ss n) =
          ap (λ b. dead_row (row_in_segment (at_head b) n.serial.0)) e ∙ ap (λ k. dead_row (row_in_segment (slice_get (s ∷ ss) k) n.serial.0)) next in
          omega (arith, more, here, rest, found)

-- one segment more has told its own
pub told_on : (each some : Name → ℕ) (count more : ℕ) (begun heard then : List Name) → AreTold each count begun heard → AreTold some more heard then → AreTold (λ n. each n + some n) (count + more) begun then
told_on each some count more begun heard then first second = record {
  more = let one = first.more in let two = second.more in omega (arith, one, two);
  each_is = λ n. let one = first.each_is n in let two = second.each_is n in omega (arith, one, two);
}

-- told so often, by another way of counting
pub told_same : (each other : Name → ℕ) (count number : ℕ) (begun heard : List Name) → AreTold each count begun heard → ((n : Name) → each n ≡ other n) → count ≡ number → AreTold other number begun heard
told_same each other count number begun heard told same so_many = record {
  more = let more = told.more in omega (arith, more, so_many);
  each_is = λ n. told.each_is n ∙ ap (λ k. times n begun + k) (same n);
}

pub told_none : (begun : List Name) → AreTold (λ n. 0) 0 begun begun
told_none begun = record { more = omega arith; each_is = λ n. omega arith }
