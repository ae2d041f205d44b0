-- What the calls change, as changes of the book's part and as steps of drains.
use Rattle.std.proofs.Common.{◌≡◌, ℕ, ◌+◌, ◌-◌, ◌==◌, ◌&&◌, ◌||◌, not, Bool, true, false, cond, [], ◌∷◌, Option, Some, None, refl, sym, ap, ◌∙◌, arith, eqb-true, eq-eqb, IsTrue, IsFalse}
use Rattle.std.proofs.Math.Bool.{or-false}
use Rattle.std.proofs.Math.Path.{fun_ext}
use Rattle.k_types.specs.declared.names.Heap.{Heap}
use Rattle.k_types.specs.declared.names.Name.{Name}
use Rattle.k_types.specs.Agree.{BookValue, book_shown_by}
use Rattle.k_types.specs.Cells.{BookPart}
use Rattle.k_types.specs.Counted.{counted}
use Rattle.k_types.specs.Names.{heap_eq, name_eq}
use Rattle.k_types.specs.Owners.{user}
use Rattle.k_types.specs.State.{has_share}
use Rattle.k_types.proofs.NameTests.{name_eq-true}
use Rattle.k_types.proofs.Tests.{same_test}
use Rattle.k_agree.specs.k_laws.BookChanges.{keeping_shares, pins_by, with_entry, with_pin_moved, with_share, without_entries}
use Rattle.k_entry.specs.Entries.{HasLess, HasMore}
use Rattle.k_agree.specs.Ending.{HasLeft}
use Rattle.k_agree.specs.GivingOnTheBook.{HasEntered, HasUnpinned}
use Rattle.k_shares.specs.Sharers.{GainsEnded, GainsShare, LosesShare}
use Rattle.k_book.specs.Books.{BookRecord, book_entries, book_pins}
use Rattle.k_book.specs.Calls.{ChangesEnded, ChangesEntries, ChangesPins, ChangesShares, with_ended}

-- a register counts so often, where it holds no object of the process's own heap
abbrev unless_own : Bool → ℕ → ℕ
unless_own mine n = cond mine 0 n

either_none : (b : Bool) → unless_own b 0 ≡ 0
either_none true = refl
either_none false = refl

-- a register with null counts among no pins
none_by : (own : ℕ → Heap) (p : ℕ) (n : Name) → pins_by own p None n ≡ 0
none_by own p n = either_none (heap_eq (user p) (own n.seg.0))

-- a register with an object of another heap counts among its pins
foreign_by : (own : ℕ → Heap) (p : ℕ) (y n : Name) → IsFalse (heap_eq (user p) (own y.seg.0)) → pins_by own p (Some y) n ≡ cond (name_eq y n) 1 0
foreign_by own p y n foreign = go (name_eq y n) refl
  where
    go : (b : Bool) → name_eq y n ≡ b → unless_own (heap_eq (user p) (own n.seg.0)) (cond b 1 0) ≡ cond b 1 0
    go true e = ap (λ t. unless_own t 1) (ap (λ (m : Name). heap_eq (user p) (own m.seg.0)) (sym (name_eq-true y n e)) ∙ foreign)
    go false e = either_none (heap_eq (user p) (own n.seg.0))

-- a register with an object of the process's own heap counts among no pins
own_by : (own : ℕ → Heap) (p : ℕ) (y n : Name) → IsTrue (heap_eq (user p) (own y.seg.0)) → pins_by own p (Some y) n ≡ 0
own_by own p y n mine = go (name_eq y n) refl
  where
    go : (b : Bool) → name_eq y n ≡ b → unless_own (heap_eq (user p) (own n.seg.0)) (cond b 1 0) ≡ 0
    go true e = ap (λ t. unless_own t 1) (ap (λ (m : Name). heap_eq (user p) (own m.seg.0)) (sym (name_eq-true y n e)) ∙ mine)
    go false e = either_none (heap_eq (user p) (own n.seg.0))

module _ (old new : BookRecord) where
  entered_counts : (y : Name) → HasMore (book_entries old) (book_entries new) y → counted new.value.entries ≡ (λ n. counted old.value.entries n + cond (name_eq y n) 1 0)
  entered_counts y more = fun_ext (λ n. more.counts n)

  pub entered_on : (y : Name) → HasMore (book_entries old) (book_entries new) y → ChangesEntries old new → book_shown_by new.value ≡ with_entry true y (book_shown_by old.value)
  entered_on y more rest = ap (λ (b : BookRecord). book_shown_by b.value) rest ∙ ap (λ (f : Name → ℕ). record (book_shown_by old.value) { entries = f }) (entered_counts y more)

  less_by : (y : Name) → HasLess (book_entries old) (book_entries new) y → (n : Name) → counted new.value.entries n ≡ counted old.value.entries n - cond (name_eq y n) 1 0
  less_by y less n = let e = less.counts n in omega (arith, e)

  pub left_on : (y : Name) → HasLess (book_entries old) (book_entries new) y → ChangesEntries old new → book_shown_by new.value ≡ without_entries (name_eq y) (book_shown_by old.value)
  left_on y less rest = ap (λ (b : BookRecord). book_shown_by b.value) rest ∙ ap (λ (f : Name → ℕ). record (book_shown_by old.value) { entries = f }) (fun_ext (less_by y less))

  pinned_by : (own : ℕ → Heap) (p : ℕ) (y : Name) → HasMore (book_pins old) (book_pins new) y → IsFalse (heap_eq (user p) (own y.seg.0)) →
      (n : Name) → counted new.value.pins n ≡ (counted old.value.pins n + pins_by own p (Some y) n) - pins_by own p None n
  pinned_by own p y more foreign n =
      let e = more.counts n in
      let some = foreign_by own p y n foreign in
      let none = none_by own p n in
      omega (arith, e, some, none)

  pub pinned_on : (own : ℕ → Heap) (p : ℕ) (y : Name) → HasMore (book_pins old) (book_pins new) y → IsFalse (heap_eq (user p) (own y.seg.0)) → ChangesPins old new →
      book_shown_by new.value ≡ with_pin_moved own p None (Some y) (book_shown_by old.value)
  pinned_on own p y more foreign rest =
      ap (λ (b : BookRecord). book_shown_by b.value) rest ∙ ap (λ (f : Name → ℕ). record (book_shown_by old.value) { pins = f }) (fun_ext (pinned_by own p y more foreign))

  unpinned_by : (own : ℕ → Heap) (p : ℕ) (y : Name) → HasLess (book_pins old) (book_pins new) y → IsFalse (heap_eq (user p) (own y.seg.0)) →
      (n : Name) → counted new.value.pins n ≡ (counted old.value.pins n + pins_by own p None n) - pins_by own p (Some y) n
  unpinned_by own p y less foreign n =
      let e = less.counts n in
      let some = foreign_by own p y n foreign in
      let none = none_by own p n in
      omega (arith, e, some, none)

  pub unpinned_on : (own : ℕ → Heap) (p : ℕ) (y : Name) → HasLess (book_pins old) (book_pins new) y → IsFalse (heap_eq (user p) (own y.seg.0)) → ChangesPins old new →
      book_shown_by new.value ≡ with_pin_moved own p (Some y) None (book_shown_by old.value)
  unpinned_on own p y less foreign rest =
      ap (λ (b : BookRecord). book_shown_by b.value) rest ∙ ap (λ (f : Name → ℕ). record (book_shown_by old.value) { pins = f }) (fun_ext (unpinned_by own p y less foreign))

  pub shared_on : (p s : ℕ) → GainsShare old.value.shares new.value.shares p s → ChangesShares old new → book_shown_by new.value ≡ with_share p s (book_shown_by old.value)
  shared_on p s gains rest =
      ap (λ (b : BookRecord). book_shown_by b.value) rest
      ∙ ap (λ (f : ℕ → ℕ → Bool). record (book_shown_by old.value) { shares = f }) (fun_ext (λ q. fun_ext (λ t. gains q t)))

  lost_by : (p s q t : ℕ) → (has_share old.value.shares q t && not ((p == q) && (s == t))) ≡ (has_share old.value.shares q t && (not (q == p) || not (s == t)))
  lost_by p s q t = ap (λ b. has_share old.value.shares q t && b) (not_both (p == q) (s == t) ∙ ap (λ b. not b || not (s == t)) (turned p q))
    where
      not_both : (a b : Bool) → not (a && b) ≡ (not a || not b)
      not_both true b = refl
      not_both false b = refl

      turned : (a b : ℕ) → (a == b) ≡ (b == a)
      turned a b = same_test (a == b) (b == a) (λ t. eq-eqb b a (sym (eqb-true a b t))) (λ t. eq-eqb a b (sym (eqb-true b a t)))

  pub unshared_on : (p s : ℕ) → LosesShare old.value.shares new.value.shares p s → ChangesShares old new →
      book_shown_by new.value ≡ keeping_shares p (λ t. not (s == t)) (book_shown_by old.value)
  unshared_on p s loses rest =
      ap (λ (b : BookRecord). book_shown_by b.value) rest
      ∙ ap (λ (f : ℕ → ℕ → Bool). record (book_shown_by old.value) { shares = f }) (fun_ext (λ q. fun_ext (λ t. loses q t ∙ lost_by p s q t)))

  pub ended_on : (p : ℕ) → GainsEnded old.value.ended new.value.ended p → ChangesEnded old new → book_shown_by new.value ≡ with_ended p (book_shown_by old.value)
  ended_on p gains rest =
      ap (λ (b : BookRecord). book_shown_by b.value) rest ∙ ap (λ (f : ℕ → Bool). record (book_shown_by old.value) { ended = f }) (fun_ext (λ q. gains q))

  pub entered_drain : (y : Name) → HasMore (book_entries old) (book_entries new) y → HasEntered (y ∷ []) old.value new.value
  entered_drain y more = λ n. more.counts n ∙ ap (λ b. counted old.value.entries n + cond b 1 0) (sym (or-false (name_eq y n)))

  pub left_drain : (y : Name) → HasLess (book_entries old) (book_entries new) y → HasLeft (y ∷ []) old.value new.value
  left_drain y less = λ n. ap (λ b. counted new.value.entries n + cond b 1 0) (or-false (name_eq y n)) ∙ less.counts n

  one : (c : ℕ) → c + 0 ≡ c
  one c = omega arith

  pub unpinned_drain : (own : ℕ → Heap) (p : ℕ) (y : Name) → HasLess (book_pins old) (book_pins new) y → IsFalse (heap_eq (user p) (own y.seg.0)) →
      HasUnpinned own p (Some y ∷ []) old.value new.value
  unpinned_drain own p y less foreign = λ n.
      ap (λ c. counted new.value.pins n + unless_own (heap_eq (user p) (own n.seg.0)) c) (one (cond (name_eq y n) 1 0))
      ∙ ap (λ c. counted new.value.pins n + c) (foreign_by own p y n foreign)
      ∙ less.counts n

-- a null register and one with an object of the process's own heap let no pin go
pub null_drain : (own : ℕ → Heap) (p : ℕ) (b : BookValue) → HasUnpinned own p (None ∷ []) b b
null_drain own p b = λ n. let none = none_by own p n in ap (λ c. counted b.pins n + c) none ∙ omega arith

pub own_drain : (own : ℕ → Heap) (p : ℕ) (y : Name) (b : BookValue) → IsTrue (heap_eq (user p) (own y.seg.0)) → HasUnpinned own p (Some y ∷ []) b b
own_drain own p y b mine = λ n.
    ap (λ c. counted b.pins n + unless_own (heap_eq (user p) (own n.seg.0)) c) (one (cond (name_eq y n) 1 0))
    ∙ ap (λ c. counted b.pins n + c) (own_by own p y n mine)
    ∙ one (counted b.pins n)
  where
    one : (c : ℕ) → c + 0 ≡ c
    one c = omega arith

-- a pin moves in two steps
pub moved_on : (own : ℕ → Heap) (p : ℕ) (x y : Option Name) (b : BookPart) → with_pin_moved own p x None (with_pin_moved own p None y b) ≡ with_pin_moved own p x y b
moved_on own p x y b = ap (λ (f : Name → ℕ). record b { pins = f }) (fun_ext steps)
  where
    steps : (n : Name) → (((b.pins n + pins_by own p y n) - pins_by own p None n) + pins_by own p None n) - pins_by own p x n ≡ (b.pins n + pins_by own p y n) - pins_by own p x n
    steps n = let none = none_by own p n in omega (arith, none)

-- an object of the process's own heap is no pin
pub own_pinned : (own : ℕ → Heap) (p : ℕ) (y : Name) (b : BookPart) → IsTrue (heap_eq (user p) (own y.seg.0)) → with_pin_moved own p None (Some y) b ≡ b
own_pinned own p y b mine = ap (λ (f : Name → ℕ). record b { pins = f }) (fun_ext steps)
  where
    steps : (n : Name) → (b.pins n + pins_by own p (Some y) n) - pins_by own p None n ≡ b.pins n
    steps n = let none = none_by own p n in let mine_too = own_by own p y n mine in omega (arith, none, mine_too)

pub own_unpinned : (own : ℕ → Heap) (p : ℕ) (y : Name) (b : BookPart) → IsTrue (heap_eq (user p) (own y.seg.0)) → with_pin_moved own p (Some y) None b ≡ b
own_unpinned own p y b mine = ap (λ (f : Name → ℕ). record b { pins = f }) (fun_ext steps)
  where
    steps : (n : Name) → (b.pins n + pins_by own p None n) - pins_by own p (Some y) n ≡ b.pins n
    steps n = let none = none_by own p n in let mine_too = own_by own p y n mine in omega (arith, none, mine_too)
