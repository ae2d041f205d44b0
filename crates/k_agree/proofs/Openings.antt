-- The values before the first event agree with it.
use Rattle.std.proofs.Common.{◌≡◌, ℕ, zero, suc, ◌+◌, ◌-◌, ◌<◌, ◌≤◌, ◌==◌, cond, Bool, true, false, refl, sym, ap, ap₂, ◌∙◌, List, [], ◌∷◌, ◌++◌, map, length, filter, replicate, Option, Some, None, arith, get_or, nat_le, eqb-true, false-eqb, leb-true, leb-false}
use Rattle.std.proofs.Math.Path.{fun_ext}
use Rattle.std.proofs.lemmas.Bool.{false_from_ne_true}
use Rattle.atomic_table.specs.Seated.{TableId}
use Rattle.k_laws.specs.k_types.declared.names.Heap.TheVariants.{Kernel, User, Shared}
use Rattle.k_laws.specs.k_types.declared.names.Name.{Name}
use Rattle.k_laws.specs.k_types.declared.names.Phase.TheVariants.{Unmade}
use Rattle.k_laws.specs.k_types.Agree.{BookValue, shown_by, book_shown_by}
use Rattle.k_laws.specs.k_types.Cells.{Cell, ProcessPart, part, shown, book_part, pins, pins_of, made_of}
use Rattle.k_laws.specs.k_types.Limits.{direct_by}
use Rattle.k_laws.specs.k_types.Names.{heap_eq}
use Rattle.k_laws.specs.k_types.Numbers.{numbers_below, numbers_from}
use Rattle.k_laws.specs.k_types.Owners.{owner_of, owner_of_segment, bytes_by, bytes_of, charge_of, user, shared, phase_of, is_absorbed}
use Rattle.k_laws.specs.k_types.State.{opening}
use Rattle.k_laws.specs.k_types.Trace.{Trace, IsHeap, segment_of, segment_count, process_count, limit_of}
use Rattle.k_tie.proofs.NameTests.{heap_eq-same, heap_eq-true}
use Rattle.k_laws.proofs.OwnerOf.{owner_user, owner_shared}
use Rattle.k_laws.proofs.Sizes.{get_or-same, zeros_at}
use Rattle.k_tie.proofs.Sums.{sum_same, zeros}
use Rattle.k_laws.proofs.SoundOpening.{all_unmade, charged_nothing}
use Rattle.k_tie.specs.Values.{blank_note, empty_journal}
use Rattle.k_agree.specs.Agreement.{BookShows, Agrees, BookAgrees}
use Rattle.k_agree.specs.Opening.{opening_cell, opening_book, serials_at_first, made_at_first, homes_at_first}
use Rattle.k_agree.proofs.Meetings.{no_tail}
use Rattle.k_tie.proofs.Lists.{at_number}
use Rattle.k_tie.proofs.Owners.{segment_known}

pub past_numbers : {A : Type 0} (f : ℕ → A) (first n k : ℕ) (d : A) → n ≤ k → get_or (map f (numbers_from first n)) k d ≡ d
past_numbers f first zero k d h = refl
past_numbers f first (suc n) zero d h = absurd (omega arith)
past_numbers f first (suc n) (suc k) d h = past_numbers f (suc first) n k d (omega (arith, h))

map_constant : {A : Type 0} (f : ℕ → A) (x : A) → ((k : ℕ) → f k ≡ x) → (first n : ℕ) → map f (numbers_from first n) ≡ replicate n x
map_constant f x is first zero = refl
map_constant f x is first (suc n) = ap₂ (λ y ys. y ∷ ys) (is first) (map_constant f x is (suc first) n)

-- the first segment is the kernel's, then come those of the processes and of the shared heaps
module _ (trace : Trace) where
  own_absent : (s : ℕ) → is_absorbed (phase_of (replicate trace.shared_heaps Unmade) s) ≡ false
  own_absent s = ap is_absorbed (all_unmade trace.shared_heaps s)

  pub first_owner : (c : Cell) → IsHeap trace c → owner_of trace (opening trace) (segment_of trace c) ≡ c
  unfolding owner_of_segment
  first_owner Kernel there = refl
  first_owner (User p) there = owner_user trace (opening trace) p.0 there refl
  first_owner (Shared s) there = owner_shared trace (opening trace) s.0 (own_absent s.0)

  pub owner_begins : (seg : ℕ) → segment_of trace (owner_of trace (opening trace) seg) ≡ seg
  unfolding owner_of_segment
  owner_begins seg = go (seg == 0) (nat_le seg (process_count trace)) refl refl
    where
      go : (a b : Bool) → (seg == 0) ≡ a → nat_le seg (process_count trace) ≡ b →
          segment_of trace (cond a Kernel (cond b (user (seg - 1)) (cond (is_absorbed (phase_of (replicate trace.shared_heaps Unmade) (seg - 1 - process_count trace))) Kernel (shared (seg - 1 - process_count trace))))) ≡ seg
      go true b e f = sym (eqb-true seg 0 e)
      go false true e f = let ne = false-eqb seg 0 (sym e) in omega arith
      go false false e f =
          let ne = false-eqb seg 0 (sym e) in
          let high = leb-false seg (process_count trace) f in
          rw (own_absent (seg - 1 - process_count trace)) (omega arith)

  owns : (c : Cell) (seg : ℕ) → IsHeap trace c → heap_eq (owner_of trace (opening trace) seg) c ≡ (seg == segment_of trace c)
  owns c seg there = go (seg == segment_of trace c) refl
    where
      go : (b : Bool) → (seg == segment_of trace c) ≡ b → heap_eq (owner_of trace (opening trace) seg) c ≡ b
      go true e = heap_eq-same _ c (ap (owner_of trace (opening trace)) (eqb-true seg (segment_of trace c) e) ∙ first_owner c there)
      go false e =
          false_from_ne_true _ (λ same. false-eqb seg (segment_of trace c) (sym e) (sym (owner_begins seg) ∙ ap (segment_of trace) (heap_eq-true _ c same)))

  no_serials : (n k : ℕ) → 0 < k → get_or {A = ℕ} (1 ∷ replicate n 0) k 0 ≡ 0
  no_serials n zero h = absurd (omega arith)
  no_serials n (suc k) h = zeros_at n k

  first_serials : (c : Cell) → get_or (opening trace).made (segment_of trace c) 0 ≡ serials_at_first c
  first_serials Kernel = refl
  first_serials (User p) = no_serials (length trace.procs + trace.shared_heaps) (p.0 + 1) (omega arith)
  first_serials (Shared s) = no_serials (length trace.procs + trace.shared_heaps) (1 + process_count trace + s.0) (omega arith)

  made_first : (c : Cell) → IsHeap trace c → (seg : ℕ) → get_or (made_at_first trace c) seg None ≡ made_of (owner_of trace (opening trace)) (opening trace).made c seg
  made_first c there seg = found (nat_le (segment_count trace) seg) refl ∙ mine (seg == segment_of trace c) refl
    where
      wanted : Option ℕ
      wanted = cond (seg == segment_of trace c) (Some (serials_at_first c)) None

      found : (b : Bool) → nat_le (segment_count trace) seg ≡ b → get_or (made_at_first trace c) seg None ≡ wanted
      found true f =
          let high = leb-true (segment_count trace) seg f in
          let low = segment_known trace c there in
          past_numbers _ 0 (segment_count trace) seg None high
          ∙ ap (λ b. cond b (Some (serials_at_first c)) None) (sym (false_from_ne_true (seg == segment_of trace c) (λ e. let same = eqb-true seg (segment_of trace c) e in absurd (omega (arith, high, low, same)))))
      found false f =
          let low = leb-false (segment_count trace) seg f in
          at_number (λ k. cond (k == segment_of trace c) (Some (serials_at_first c)) None) 0 (segment_count trace) seg None (omega (arith, low))
          ∙ ap (λ k. cond (k == segment_of trace c) (Some (serials_at_first c)) None) (omega arith)

      mine : (b : Bool) → (seg == segment_of trace c) ≡ b → wanted ≡ made_of (owner_of trace (opening trace)) (opening trace).made c seg
      mine true e =
          ap (λ b. cond b (Some (serials_at_first c)) None) e
          ∙ ap Some (sym (ap (λ k. get_or (opening trace).made k 0) (eqb-true seg (segment_of trace c) e) ∙ first_serials c))
          ∙ ap (λ b. cond b (Some (get_or (opening trace).made seg 0)) None) (sym (owns c seg there ∙ e))
      mine false e =
          ap (λ b. cond b (Some (serials_at_first c)) None) e
          ∙ ap (λ b. cond b (Some (get_or (opening trace).made seg 0)) None) (sym (owns c seg there ∙ e))

  shown_with_made : (c : Cell) → IsHeap trace c → shown_by (opening_cell trace c) ≡ record (shown_by (opening_cell trace c)) { made = made_of (owner_of trace (opening trace)) (opening trace).made c }
  shown_with_made c there = ap (λ made. record (shown_by (opening_cell trace c)) { made = made }) (fun_ext (made_first c there))

  first_process : (p : ℕ) → p < process_count trace → ◌≡◌ {A = ProcessPart} (record { registers = replicate 16 None; done = 0; has_ended = false })
      (record { registers = get_or (replicate (process_count trace) (replicate 16 None)) p []; done = get_or (replicate (process_count trace) 0) p 0; has_ended = false })
  first_process p known =
      ap₂ (λ registers done. record { registers = registers; done = done; has_ended = false })
      (sym (get_or-same (process_count trace) p (replicate 16 None) [] known)) (sym (zeros_at (process_count trace) p))

  first_shown : (c : Cell) → IsHeap trace c → shown_by (opening_cell trace c) ≡ shown (part trace (opening trace) c)
  unfolding part owner_of_segment
  first_shown Kernel there = shown_with_made Kernel there
  first_shown (User p) there =
      shown_with_made (User p) there
      ∙ ap (λ (q : ProcessPart). record (shown_by (opening_cell trace (User p))) { made = made_of (owner_of trace (opening trace)) (opening trace).made (User p); process = Some q }) (first_process p.0 there)
  first_shown (Shared s) there =
      shown_with_made (Shared s) there
      ∙ ap (λ phase. record (shown_by (opening_cell trace (Shared s))) { made = made_of (owner_of trace (opening trace)) (opening trace).made (Shared s); phase = Some phase }) (sym (all_unmade trace.shared_heaps s.0))

  pub opened_cell : (table : TableId) (c : Cell) → IsHeap trace c → Agrees trace c (blank_note table (segment_of trace c)) (opening_cell trace c)
  opened_cell table c there = record {
    there = there;
    number = refl;
    legal = tt;
    tail = no_tail trace c (opening trace);
    shows = record { part = first_shown c there; marks = refl };
    counted = refl;
  }

  -- the book
  direct_nothing : (m : ℕ) → direct_by trace (charge_of trace (opening trace)) m ≡ 0
  direct_nothing m =
      let mine = filter (λ p. limit_of trace p == m) (numbers_below (process_count trace)) in
      sum_same (charge_of trace (opening trace)) (λ p. 0) (charged_nothing trace) mine ∙ zeros mine

  bytes_nothing : (s : ℕ) → bytes_of trace (opening trace) (shared s) ≡ 0
  unfolding bytes_by owner_of_segment
  bytes_nothing s = refl

  null_pins : (k : ℕ) (n : Name) → pins_of (replicate k None) n ≡ 0
  null_pins zero n = refl
  null_pins (suc k) n = omega (arith, null_pins k n)

  row_pins : (k p : ℕ) (n : Name) → pins_of (get_or (replicate k (replicate 16 None)) p []) n ≡ 0
  row_pins zero p n = refl
  row_pins (suc k) zero n = null_pins 16 n
  row_pins (suc k) (suc p) n = row_pins k p n

  no_pins : (n : Name) → 0 ≡ pins trace (opening trace) n
  no_pins n =
      sym (sum_same (λ p. cond (heap_eq (user p) (owner_of trace (opening trace) n.seg.0)) 0 (pins_of (get_or (replicate (process_count trace) (replicate 16 None)) p []) n)) (λ p. 0)
      (λ p. elim (heap_eq (user p) (owner_of trace (opening trace) n.seg.0)) as (λ b. ◌≡◌ {A = ℕ} (cond b 0 (pins_of (get_or (replicate (process_count trace) (replicate 16 None)) p []) n)) 0) [ true ↦ refl | false ↦ row_pins (process_count trace) p n ])
      (numbers_below (process_count trace)) ∙ zeros (numbers_below (process_count trace)))

  book_first : book_shown_by (opening_book trace) ≡ book_part trace (opening trace)
  unfolding book_part
  book_first =
      let b = book_shown_by (opening_book trace) in
      let bytes = sym (map_constant (λ s. bytes_of trace (opening trace) (shared s)) 0 bytes_nothing 0 trace.shared_heaps) in
      let direct = sym (map_constant (direct_by trace (charge_of trace (opening trace))) 0 direct_nothing 0 (length trace.limits)) in
      ap (λ x. record b { shared_bytes = x }) bytes
      ∙ ap (λ x. record b { shared_bytes = map (λ s. bytes_of trace (opening trace) (shared s)) (numbers_below trace.shared_heaps); direct = x }) direct
      ∙ ap (λ x. record b { shared_bytes = map (λ s. bytes_of trace (opening trace) (shared s)) (numbers_below trace.shared_heaps); direct = map (direct_by trace (charge_of trace (opening trace))) (numbers_below (length trace.limits)); pins = x }) (fun_ext no_pins)

  -- the owners of the segments, in order
  numbers_split : (first a b : ℕ) → numbers_from first (a + b) ≡ numbers_from first a ++ numbers_from (first + a) b
  numbers_split first zero b =
      let none : 0 + b ≡ b = omega arith in
      let here : first ≡ first + 0 = omega arith in
      ap (numbers_from first) none ∙ ap (λ k. numbers_from k b) here
  numbers_split first (suc a) b =
      let more : suc a + b ≡ suc (a + b) = omega arith in
      let here : suc first + a ≡ first + suc a = omega arith in
      ap (numbers_from first) more
      ∙ ap (λ ns. first ∷ ns) (numbers_split (suc first) a b ∙ ap (λ k. numbers_from (suc first) a ++ numbers_from k b) here)

  map_split : {A B : Type 0} (f : A → B) (xs ys : List A) → map f (xs ++ ys) ≡ map f xs ++ map f ys
  map_split f [] ys = refl
  map_split f (x ∷ xs) ys = ap (λ zs. f x ∷ zs) (map_split f xs ys)

  user_homes : (first n : ℕ) → first + n ≤ process_count trace → map user (numbers_from first n) ≡ map (owner_of trace (opening trace)) (numbers_from (suc first) n)
  user_homes first zero h = refl
  user_homes first (suc n) h =
      ap₂ (λ y ys. y ∷ ys)
      (sym (first_owner (user first) (omega (arith, h))) ∙ ap (owner_of trace (opening trace)) (omega arith))
      (user_homes (suc first) n (omega (arith, h)))

  shared_homes : (first n : ℕ) → first + n ≤ trace.shared_heaps → map shared (numbers_from first n) ≡ map (owner_of trace (opening trace)) (numbers_from (1 + process_count trace + first) n)
  shared_homes first zero h = refl
  shared_homes first (suc n) h =
      ap₂ (λ y ys. y ∷ ys)
      (sym (first_owner (shared first) (omega (arith, h))))
      (shared_homes (suc first) n (omega (arith, h)) ∙ ap (λ k. map (owner_of trace (opening trace)) (numbers_from k n)) (omega arith))

  homes_first : homes_at_first trace ≡ map (owner_of trace (opening trace)) (numbers_below (segment_count trace))
  homes_first =
      let own = owner_of trace (opening trace) in
      let procs = process_count trace in
      let several = trace.shared_heaps in
      let whole : 1 + procs + several ≡ suc (procs + several) = omega arith in
      ap₂ (λ xs ys. Kernel ∷ xs ++ ys) (user_homes 0 procs (omega arith)) (shared_homes 0 several (omega arith) ∙ ap (λ k. map own (numbers_from k several)) (omega arith))
      ∙ ap₂ (λ h hs. h ∷ hs) (sym (first_owner Kernel tt)) (sym (map_split own (numbers_from 1 procs) (numbers_from (1 + procs) several)) ∙ ap (map own) (sym (numbers_split 1 procs several)))
      ∙ ap (λ k. map own (numbers_below k)) (sym whole)

  pub opened_book : (table : TableId) → BookAgrees trace (empty_journal table) (opening_book trace)
  opened_book table = record {
    legal = tt;
    shows = record { part = book_first; homes = homes_first };
    totals = λ c there. refl;
  }

pub home_at : (trace : Trace) (st : Rattle.k_laws.specs.k_types.State.State) (book : BookValue) (seg : ℕ) → BookShows trace st book → seg < segment_count trace → get_or book.homes seg Kernel ≡ owner_of trace st seg
home_at trace st book seg seen known =
    ap (λ homes. get_or homes seg Kernel) seen.homes
    ∙ at_number (owner_of trace st) 0 (segment_count trace) seg Kernel known
    ∙ ap (owner_of trace st) (omega arith)
