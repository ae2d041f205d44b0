-- Parts that have one number are of one host, and each rests again once it serves.
use Rattle.std.proofs.Common.{◌≡◌, ◌≤◌, ℕ, sym, ap, ◌∙◌, subst, List, Option, Some, None, Result}
use Rattle.std.specs.Prelude.{IfErr, IfOk}
use Rattle.std.proofs.lemmas.Bool.{false≢true}
use Rattle.atomic_table.specs.Seated.{TableId}
use Rattle.k_types.specs.declared.names.Name.{Name}
use Rattle.k_mark.specs.Listening.{FreedNames}
use Rattle.k_book.specs.Books.{BookRecord}
use Rattle.k_cell.specs.Holdings.{HoldingsValue}
use Rattle.k_shared.specs.SharedHeaps.{SharedRecord}
use Rattle.k_ends.specs.HostError.{HostError}
use Rattle.k_ends.specs.k_guests.declared.guest.Guest.{Guest}
use Rattle.k_ends.specs.k_guests.Serving.{Basis, KernelServes, SharedServes, basis_of}
use Rattle.k_parts.specs.declared.errors.PartError.{PartError}
use Rattle.k_parts.specs.declared.head.Head.{Head}
use Rattle.k_parts.specs.Calls.{AreOne, MayRefuse, hosted}
use Rattle.k_parts.specs.Parts.{BookPartValue, BookRests, BookServesApart, CanMeet, GuestPartValue, GuestRests, GuestServesApart, Home, IsNamed, IsOf, KernelPartValue, KernelRests, Rests, SharedPartValue, SharedRests, book_seen, guest_seen, home_at, kernel_seen, shared_seen}
use Rattle.k_parts.proofs.Hosted.{done_hosted, why_hosted}

-- parts whose type names their host can meet
pub named_meet : (named : Option Home) (a b : Home) → IsNamed named → CanMeet named a b
named_meet None a b is = absurd (false≢true is)
named_meet (Some home) a b is = tt

-- parts that can meet and have one number are of one host
same_home : (named : Option Home) (a b : Home) → CanMeet named a b → IsOf named a → IsOf named b → a.number ≡ b.number → b ≡ a
same_home None a b can of_a of_b same = can same
same_home (Some home) a b can of_a of_b same = of_b ∙ sym of_a

-- a part that a call is lent: it rested, and this is seen of it
pub record Held {A : Type 0} (Serves : Basis → TableId → A → Type 0) (named : Option Home) (head : Head) (table : TableId) (part : A) (home : Home) (seen : A) : Type 0 where
  pub rests : Rests Serves named (home_at head table) part
  pub home_is : home_at head table ≡ home
  pub part_is : part ≡ seen

pub guest_held : {named : Option Home} (head : Head) (g : Guest) {old : GuestPartValue} → guest_seen head g ≡ old → GuestRests named (home_at head g.cell.note.table) g →
    Held GuestServesApart named head g.cell.note.table g old.home old.guest
guest_held head g is rests = record { rests = rests; home_is = ap (λ (v : GuestPartValue). v.home) is; part_is = ap (λ (v : GuestPartValue). v.guest) is }

pub kernel_held : {named : Option Home} (head : Head) (k : HoldingsValue) {old : KernelPartValue} → kernel_seen head k ≡ old → KernelRests named (home_at head k.note.table) k →
    Held KernelServes named head k.note.table k old.home old.kernel
kernel_held head k is rests = record { rests = rests; home_is = ap (λ (v : KernelPartValue). v.home) is; part_is = ap (λ (v : KernelPartValue). v.kernel) is }

pub shared_held : {named : Option Home} (head : Head) (s : SharedRecord) {old : SharedPartValue} → shared_seen head s ≡ old → SharedRests named (home_at head s.note.table) s →
    Held SharedServes named head s.note.table s old.home old.heap
shared_held head s is rests = record { rests = rests; home_is = ap (λ (v : SharedPartValue). v.home) is; part_is = ap (λ (v : SharedPartValue). v.heap) is }

pub book_held : {named : Option Home} (head : Head) (b : BookRecord) (n : FreedNames) {taken : ℕ} {old : BookPartValue} → book_seen head b n taken ≡ old → BookRests named (home_at head b.journal.table) b →
    Held BookServesApart named head b.journal.table b old.home old.book
book_held head b n is rests = record { rests = rests; home_is = ap (λ (v : BookPartValue). v.home) is; part_is = ap (λ (v : BookPartValue). v.book) is }

-- what rested is seen to rest
pub rests_seen : {A : Type 0} {Serves : Basis → TableId → A → Type 0} {named : Option Home} {head : Head} {table : TableId} {part : A} {home : Home} {seen : A} → Held Serves named head table part home seen → Rests Serves named home seen
rests_seen {Serves = Serves} {named = named} {part = part} {home = home} held =
    subst (λ x. Rests Serves named home x) held.part_is (subst (λ (x : Home). Rests Serves named x part) held.home_is held.rests)

-- whether two parts have one number is seen
module _ {A B : Type 0} {S : Basis → TableId → A → Type 0} {T : Basis → TableId → B → Type 0} {named : Option Home} {head other : Head} {table other_table : TableId} {x : A} {y : B} {home other_home : Home} {seen : A} {other_seen : B}
    (a : Held S named head table x home seen) (b : Held T named other other_table y other_home other_seen) where
  own_number : head.number ≡ home.number
  own_number = ap (λ (h : Home). h.number) a.home_is

  other_number : other.number ≡ other_home.number
  other_number = ap (λ (h : Home). h.number) b.home_is

  pub is_one : head.number ≡ other.number → AreOne home other_home
  is_one same = sym own_number ∙ same ∙ other_number

  pub was_one : AreOne home other_home → head.number ≡ other.number
  was_one one = own_number ∙ one ∙ sym other_number

abbrev book_part : Home → BookRecord → List Name → ℕ → ℕ → BookPartValue
book_part home b freed room taken = record { home = home; book = b; freed = freed; room = room; taken = taken }

-- nothing of the book's part has changed but the book, or that and the names of what was freed
module _ (head : Head) (b : BookRecord) (n : FreedNames) {taken : ℕ} {old : BookPartValue} (is : book_seen head b n taken ≡ old) (l : BookRecord) where
  pub book_changed : home_at head l.journal.table ≡ old.home → book_seen head l n taken ≡ record old { book = l }
  book_changed stays = ap (λ (h : Home). book_part h l n.names n.room taken) stays ∙ ap (λ (v : BookPartValue). book_part old.home l v.freed v.room v.taken) is

  pub book_collected : (m : FreedNames) → m.room ≡ n.room → home_at head l.journal.table ≡ old.home → book_seen head l m taken ≡ record old { book = l; freed = m.names }
  book_collected m same stays =
      ap (λ (h : Home). book_part h l m.names m.room taken) stays ∙ ap (λ (k : ℕ). book_part old.home l m.names k taken) same ∙ ap (λ (v : BookPartValue). book_part old.home l m.names v.room v.taken) is

-- a part that is of the host of the first one that the call is lent; what the call reads of the first part is seen of its home
pub record Lent {A : Type 0} (Serves : Basis → TableId → A → Type 0) (basis : Basis) (table : TableId) (named : Option Home) (head : Head) (own_table : TableId) (part : A) (home : Home) (seen : A) : Type 0 where
  pub held : Held Serves named head own_table part home seen
  pub basis_is : basis ≡ home.basis
  pub table_is : table ≡ home.table

-- a part that is lent first
pub lent_first : {A : Type 0} {S : Basis → TableId → A → Type 0} {named : Option Home} {read head : Head} {table : TableId} {x : A} {home : Home} {seen : A} → read ≡ head → Held S named head table x home seen → Lent S (basis_of read.terms) table named head table x home seen
lent_first is held = record {
  held = held;
  basis_is = ap (λ (h : Head). basis_of h.terms) is ∙ ap (λ (h : Home). h.basis) held.home_is;
  table_is = ap (λ (h : Home). h.table) held.home_is;
}

-- one whose host is that of the first
module _ {A B : Type 0} {S : Basis → TableId → A → Type 0} {T : Basis → TableId → B → Type 0} {named : Option Home} {head other : Head} {table other_table : TableId} {x : A} {y : B} {home other_home : Home} {seen : A} {other_seen : B} where
  meets : Held S named head table x home seen → Held T named other other_table y other_home other_seen → CanMeet named home other_home → head.number ≡ other.number → other_home ≡ home
  meets a b can same =
      same_home named home other_home can (subst (IsOf named) a.home_is a.rests.of_host) (subst (IsOf named) b.home_is b.rests.of_host) (is_one a b same)

  pub lent_with : {basis : Basis} → Lent S basis table named head table x home seen → Held T named other other_table y other_home other_seen → CanMeet named home other_home → head.number ≡ other.number →
      Lent T basis table named other other_table y other_home other_seen
  lent_with a b can same =
      let one = meets a.held b can same in
      record { held = b; basis_is = a.basis_is ∙ sym (ap (λ (h : Home). h.basis) one); table_is = a.table_is ∙ sym (ap (λ (h : Home). h.table) one) }

-- a part that is lent serves with the others, and once it serves again it rests, and is of the same host
module _ {A : Type 0} {Serves : Basis → TableId → A → Type 0} {basis : Basis} {table : TableId} {named : Option Home} {head : Head} {own_table : TableId} {part : A} {home : Home} {seen : A} (lent : Lent Serves basis table named head own_table part home seen) where
  home_seen : home_at head own_table ≡ home
  home_seen = lent.held.home_is

  pub serves_lent : Serves basis table part
  serves_lent =
      subst (λ (n : TableId). Serves basis n part) (sym lent.table_is)
      (subst (λ (n : Basis). Serves n home.table part) (sym lent.basis_is) (subst (λ (h : Home). Serves h.basis h.table part) home_seen lent.held.rests.serves))

  pub of_table : own_table ≡ table
  of_table = ap (λ (h : Home). h.table) home_seen ∙ sym lent.table_is

  pub stays : (now : TableId) → now ≡ table → home_at head now ≡ home
  stays now is = ap (home_at head) (is ∙ sym of_table) ∙ home_seen

  pub rests_again : (now : TableId) (later : A) → now ≡ table → Serves basis table later → Rests Serves named (home_at head now) later
  rests_again now later is serves =
      subst (λ (h : Home). Rests Serves named h later) (sym (stays now is))
      (record {
        serves = subst (λ (n : Basis). Serves n home.table later) lent.basis_is (subst (λ (n : TableId). Serves basis n later) lent.table_is serves);
        of_host = subst (IsOf named) home_seen lent.held.rests.of_host;
      })

  -- it serves by the table of a book that is lent with it
  pub serves_on : (b : BookRecord) → BookServesApart basis table b → Serves basis b.journal.table part
  serves_on b book = subst (λ (n : TableId). Serves basis n part) (sym book.table_is) serves_lent

  -- what a call tells of what it found is what is seen
  pub told : (P : Basis → A → Type 0) → P basis part → P home.basis seen
  told P t = subst (λ (n : Basis). P n seen) lent.basis_is (subst (P basis) lent.held.part_is t)

  -- the same of two parts and of three, and of what comes of a call
  module _ {B : Type 0} {T : Basis → TableId → B → Type 0} {other : Head} {other_table : TableId} {y : B} {other_home : Home} {other_seen : B} (beside : Lent T basis table named other other_table y other_home other_seen) where
    pub told_both : (P : Basis → A → B → Type 0) → P basis part y → P home.basis seen other_seen
    told_both P t = subst (P home.basis seen) beside.held.part_is (told (λ n x. P n x y) t)

    module _ {X : Type 0} (r : Result X HostError) {a : Result X PartError} (is : a ≡ hosted r) where
      pub done_of_two : (P : Basis → A → B → X → Type 0) → IfOk r (P basis part y) → IfOk a (P home.basis seen other_seen)
      done_of_two P d = done_hosted r is (P home.basis seen other_seen) (told_both (λ n x z. IfOk r (P n x z)) d)

      -- the names of what was freed, where there was room for as many
      pub names_of : (objects : Basis → B → ℕ) (Names : Basis → Type 0) (room old_room : ℕ) → room ≡ old_room → (objects basis y ≤ room → IfOk r (λ _. Names basis)) → objects home.basis other_seen ≤ old_room → IfOk a (λ _. Names home.basis)
      names_of objects Names room old_room same d few =
          done_hosted r is (λ _. Names home.basis)
          (told_both (λ n x z. objects n z ≤ old_room → IfOk r (λ _. Names n)) (λ now. d (subst (λ (n : ℕ). objects basis y ≤ n) (sym same) now)) few)

      pub why_of_two : (P : Basis → A → B → HostError → Type 0) → head.number ≡ other.number → IfErr r (P basis part y) → IfErr a (MayRefuse (AreOne home other_home) (P home.basis seen other_seen))
      why_of_two P same d = why_hosted r is (AreOne home other_home) (P home.basis seen other_seen) (is_one lent.held beside.held same) (told_both (λ n x z. IfErr r (P n x z)) d)

    module _ {C : Type 0} {U : Basis → TableId → C → Type 0} {third : Head} {third_table : TableId} {z : C} {third_home : Home} {third_seen : C} (besides : Lent U basis table named third third_table z third_home third_seen) where
      pub told_three : (P : Basis → A → B → C → Type 0) → P basis part y z → P home.basis seen other_seen third_seen
      told_three P t = subst (P home.basis seen other_seen) besides.held.part_is (told_both (λ n x w. P n x w z) t)

      module _ {X : Type 0} (r : Result X HostError) {a : Result X PartError} (is : a ≡ hosted r) where
        pub done_of_three : (P : Basis → A → B → C → X → Type 0) → IfOk r (P basis part y z) → IfOk a (P home.basis seen other_seen third_seen)
        done_of_three P d = done_hosted r is (P home.basis seen other_seen third_seen) (told_three (λ n x w v. IfOk r (P n x w v)) d)

        pub why_of_three : (P : Basis → A → B → C → HostError → Type 0) → (head.number ≡ other.number) × (head.number ≡ third.number) → IfErr r (P basis part y z) →
            IfErr a (MayRefuse (AreOne home other_home × AreOne home third_home) (P home.basis seen other_seen third_seen))
        why_of_three P same d =
            why_hosted r is (AreOne home other_home × AreOne home third_home) (P home.basis seen other_seen third_seen) (is_one lent.held beside.held same.0, is_one lent.held besides.held same.1)
            (told_three (λ n x w v. IfErr r (P n x w v)) d)

      -- and of four
      module _ {D : Type 0} {V : Basis → TableId → D → Type 0} {fourth : Head} {fourth_table : TableId} {w : D} {fourth_home : Home} {fourth_seen : D} (last : Lent V basis table named fourth fourth_table w fourth_home fourth_seen) where
        pub told_four : (P : Basis → A → B → C → D → Type 0) → P basis part y z w → P home.basis seen other_seen third_seen fourth_seen
        told_four P t = subst (P home.basis seen other_seen third_seen) last.held.part_is (told_three (λ n a b c. P n a b c w) t)

        module _ {X : Type 0} (r : Result X HostError) {a : Result X PartError} (is : a ≡ hosted r) where
          pub done_of_four : (P : Basis → A → B → C → D → X → Type 0) → IfOk r (P basis part y z w) → IfOk a (P home.basis seen other_seen third_seen fourth_seen)
          done_of_four P d = done_hosted r is (P home.basis seen other_seen third_seen fourth_seen) (told_four (λ n x b c e. IfOk r (P n x b c e)) d)

          pub why_of_four : (P : Basis → A → B → C → D → HostError → Type 0) → (head.number ≡ other.number) × (head.number ≡ third.number) × (head.number ≡ fourth.number) → IfErr r (P basis part y z w) →
              IfErr a (MayRefuse (AreOne home other_home × AreOne home third_home × AreOne home fourth_home) (P home.basis seen other_seen third_seen fourth_seen))
          why_of_four P same d =
              why_hosted r is (AreOne home other_home × AreOne home third_home × AreOne home fourth_home) (P home.basis seen other_seen third_seen fourth_seen)
              (is_one lent.held beside.held same.0, is_one lent.held besides.held same.1, is_one lent.held last.held same.2) (told_four (λ n x b c e. IfErr r (P n x b c e)) d)
