-- What one sweep of a segment has done so far.
use Rattle.std.proofs.Common.{◌≡◌, ℕ, suc, ◌+◌, ◌<◌, true, cond, refl, sym, ap, ap₂, ◌∙◌, List, [], ◌∷◌, length, map, get_or, sum_by, Option, Some, None, arith, ◌≤◌, Bool, false}
use Rattle.std.proofs.Math.Seq.{map-set_same}
use Rattle.std.proofs.lemmas.List.Sums.{sum_by-cons, sum_by-set}
use Rattle.k_exit.proofs.BaseLists.{some_inside}
use Rattle.k_laws.specs.k_types.Types.{object_size}
use Rattle.k_space.specs.declared.segment.Gone.{Gone}
use Rattle.k_space.specs.Segments.{Row, SegmentValue, row_at, is_marked}
use Rattle.k_space.specs.Sweeping.{IsTakenAway}
use Rattle.k_mark.specs.Sweeping.{survivor, swept_segment, dead_row, dead_bytes_of}

-- the survivors are the same, and what was freed and is dead still is what was dead
pub record IsSweeping (old now : SegmentValue) (objects bytes begun_objects begun_bytes : ℕ) : Type 0 where
  pub number : now.number ≡ old.number
  pub room : now.room ≡ old.room
  pub survivors : map survivor now.rows ≡ map survivor old.rows
  pub objects_are : objects + sum_by dead_row now.rows ≡ begun_objects + sum_by dead_row old.rows
  pub bytes_are : bytes + sum_by dead_bytes_of now.rows ≡ begun_bytes + sum_by dead_bytes_of old.rows

dead_once : (o : Option Row) → dead_row o ≤ 1
dead_once None = omega arith
dead_once (Some row) = by_mark (is_marked row.color)
  where
    by_mark : (b : Bool) → cond b 0 1 ≤ 1
    by_mark true = omega arith
    by_mark false = omega arith

-- no more objects are dead than there are places for them
pub dead_rows : (rows : List (Option Row)) → sum_by dead_row rows ≤ length rows
dead_rows [] = omega arith
dead_rows (o ∷ rows) = omega (arith, sum_by-cons dead_row o rows, dead_once o, dead_rows rows)

pub goes_on : (old now after : SegmentValue) (objects bytes begun_objects begun_bytes : ℕ) (gone : Gone) → IsSweeping old now objects bytes begun_objects begun_bytes → IsTakenAway now after gone →
    IsSweeping old after (objects + 1) (bytes + gone.bytes) begun_objects begun_bytes × (sum_by dead_row after.rows < sum_by dead_row now.rows)
goes_on old now after objects bytes begun_objects begun_bytes gone was freed = (
  record {
    number = ap (λ (s : SegmentValue). s.number) freed.freed ∙ was.number;
    room = ap (λ (s : SegmentValue). s.room) freed.freed ∙ was.room;
    survivors = ap (λ (s : SegmentValue). map survivor s.rows) freed.freed ∙ map-set_same survivor now.rows gone.serial.0 None None (sym dead_survivor) ∙ was.survivors;
    objects_are = omega (arith, was.objects_are, objects_less, one);
    bytes_are = omega (arith, was.bytes_are, bytes_less, size);
  },
  omega (arith, objects_less, one),
)
  where
    within : gone.serial.0 < length now.rows
    within = some_inside now.rows gone.serial.0 freed.row freed.there

    dead_survivor : survivor (get_or now.rows gone.serial.0 None) ≡ None
    dead_survivor = ap survivor freed.there ∙ ap (λ c. cond (is_marked c) (Some freed.row) None) freed.unmarked

    objects_less : sum_by dead_row after.rows + dead_row (get_or now.rows gone.serial.0 None) ≡ sum_by dead_row now.rows + 0
    objects_less = ap (λ (s : SegmentValue). sum_by dead_row s.rows + dead_row (get_or now.rows gone.serial.0 None)) freed.freed ∙ sum_by-set dead_row now.rows gone.serial.0 None None within

    one : dead_row (get_or now.rows gone.serial.0 None) ≡ 1
    one = ap dead_row freed.there ∙ ap (λ c. cond (is_marked c) 0 1) freed.unmarked

    bytes_less : sum_by dead_bytes_of after.rows + dead_bytes_of (get_or now.rows gone.serial.0 None) ≡ sum_by dead_bytes_of now.rows + 0
    bytes_less = ap (λ (s : SegmentValue). sum_by dead_bytes_of s.rows + dead_bytes_of (get_or now.rows gone.serial.0 None)) freed.freed ∙ sum_by-set dead_bytes_of now.rows gone.serial.0 None None within

    size : dead_bytes_of (get_or now.rows gone.serial.0 None) ≡ gone.bytes
    size = ap dead_bytes_of freed.there ∙ ap (λ c. cond (is_marked c) 0 (object_size (length freed.row.fields))) freed.unmarked ∙ sym freed.bytes

-- nothing dead is left
none_dead : (f : Option Row → ℕ) (rows : List (Option Row)) → ((serial : ℕ) → f (get_or rows serial None) ≡ 0) → sum_by f rows ≡ 0
none_dead f [] none = refl
none_dead f (r ∷ rs) none = omega (arith, sum_by-cons f r rs, none 0, none_dead f rs (λ serial. none (suc serial)))

all_survive : (rows : List (Option Row)) → ((serial : ℕ) → survivor (get_or rows serial None) ≡ get_or rows serial None) → map survivor rows ≡ rows
all_survive [] same = refl
all_survive (r ∷ rs) same = ap₂ (λ x xs. x ∷ xs) (same 0) (all_survive rs (λ serial. same (suc serial)))

pub ends : (old now : SegmentValue) (objects bytes begun_objects begun_bytes : ℕ) → IsSweeping old now objects bytes begun_objects begun_bytes →
    ((serial : ℕ) (row : Row) → row_at now serial ≡ Some row → is_marked row.color ≡ true) →
    (now ≡ swept_segment old) × (objects ≡ begun_objects + sum_by dead_row old.rows) × (bytes ≡ begun_bytes + sum_by dead_bytes_of old.rows)
ends old now objects bytes begun_objects begun_bytes was marked = (
  whole,
  omega (arith, was.objects_are, none_dead dead_row now.rows (λ serial. by_row dead_row refl (λ row e. ap (λ b. cond b 0 1) e) (get_or now.rows serial None) (marked serial))),
  omega (arith, was.bytes_are, none_dead dead_bytes_of now.rows (λ serial. by_row dead_bytes_of refl (λ row e. ap (λ b. cond b 0 (object_size (length row.fields))) e) (get_or now.rows serial None) (marked serial))),
)
  where
    by_row : (f : Option Row → ℕ) → f None ≡ 0 → ((row : Row) → is_marked row.color ≡ true → f (Some row) ≡ 0) → (o : Option Row) → ((row : Row) → o ≡ Some row → is_marked row.color ≡ true) → f o ≡ 0
    by_row f zero_at one_at None m = zero_at
    by_row f zero_at one_at (Some row) m = one_at row (m row refl)

    same_row : (o : Option Row) → ((row : Row) → o ≡ Some row → is_marked row.color ≡ true) → survivor o ≡ o
    same_row None m = refl
    same_row (Some row) m = ap (λ b. cond b (Some row) None) (m row refl)

    rows : now.rows ≡ map survivor old.rows
    rows = sym (all_survive now.rows (λ serial. same_row (get_or now.rows serial None) (marked serial))) ∙ was.survivors

    whole : now ≡ swept_segment old
    whole = made now.number now.room now.rows was.number was.room rows
      where
        made : (n r : ℕ) (rs : List (Option Row)) → n ≡ old.number → r ≡ old.room → rs ≡ map survivor old.rows → record { number = n; room = r; rows = rs } ≡ swept_segment old
        made n r rs a b e = ap₂ (λ n r. record { number = n; room = r; rows = rs }) a b ∙ ap (λ (rs : List (Option Row)). record { number = old.number; room = old.room; rows = rs }) e
