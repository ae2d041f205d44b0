-- The book after the end of a collection.
use Rattle.std.proofs.Common.{◌≡◌, ℕ, ◌+◌, ◌-◌, ◌==◌, ◌||◌, ◌&&◌, not, Bool, true, false, cond, refl, sym, ap, ap₂, ◌∙◌, List, [], ◌∷◌, map, filter, get_or, set, arith}
use Rattle.std.specs.List.{list_any}
use Rattle.std.proofs.lemmas.Bool.{false≢true}
use Rattle.std.proofs.Math.Path.{fun_ext}
use Rattle.k_laws.specs.k_types.declared.names.CellPhase.TheVariants.{Marked}
use Rattle.k_laws.specs.k_types.declared.names.Heap.{Heap}
use Rattle.k_laws.specs.k_types.declared.names.Heap.TheVariants.{Kernel}
use Rattle.k_laws.specs.k_types.declared.names.Name.{Name}
use Rattle.k_laws.specs.k_types.Agree.{BookValue, CellValue, book_shown_by}
use Rattle.k_laws.specs.k_types.Counted.{counted}
use Rattle.k_laws.specs.k_types.Cells.{BookPart, Cell, CellPart, part, book_part}
use Rattle.k_laws.specs.k_types.Effects.{after_ended}
use Rattle.k_laws.specs.k_types.Names.{name_among, name_eq}
use Rattle.k_laws.specs.k_types.Numbers.{numbers_below}
use Rattle.k_laws.specs.k_types.Owners.{owner_of, user, object_bytes}
use Rattle.k_laws.specs.k_types.Sound.{IsSound}
use Rattle.k_laws.specs.k_types.State.{State, has_exit, has_share, refers}
use Rattle.k_laws.specs.k_types.Totals.{total}
use Rattle.k_laws.specs.k_types.Trace.{Trace, limit_of, segment_count}
use Rattle.k_laws.specs.k_types.TraceRules.{AreLimits}
use Rattle.k_laws.specs.k_types.Updates.{close_scan, keep_shares, keep_exits, keep_objects}
use Rattle.k_tie.proofs.NameTests.{name_eq-true}
use Rattle.k_tie.proofs.Sums.{sum_same, parts_sum}
use Rattle.k_laws.specs.k_types.Distinct.{AreDistinctNames}
use Rattle.k_laws.specs.BookChanges.{bytes_in, drops, has_way_into, shared_by}
use Rattle.k_laws.specs.CellChanges.{collected}
use Rattle.k_laws.proofs.CollectedOnBook.{kernel_collected_on_book, collected_on_book}
use Rattle.k_agree.specs.Agreement.{Shows, BookShows}
use Rattle.k_agree.specs.Ending.{dropped, freed_bytes, keeps_way, bytes_unshared, HasLeft, HasSettledWith}
use Rattle.k_agree.proofs.Swept.{among_kept, marks, reached, reached_here, exits_are, black_exit, objects_are, kept_objects}
use Rattle.k_agree.proofs.Shared.{ways}

not_kept : (e a b : Bool) → (e && a) ≡ (e && b) → (e && not a) ≡ (e && not b)
not_kept true a b same = ap not same
not_kept false a b same = refl

module _ (trace : Trace) (st : State) (cell : Cell) (value : CellValue) (sound : IsSound trace st) (shows : Shows trace st cell value) (phase : value.collection ≡ Marked)
    (distinct : AreDistinctNames value.exits) where
  drops_are : (n : Name) → drops (part trace st cell) n ≡ name_among n (dropped value)
  unfolding part
  drops_are n =
      ap (λ objects. has_exit st.exits cell n && not (list_any (λ x. refers x n) objects)) (reached_here trace st cell value sound shows phase distinct)
      ∙ sym (not_kept (has_exit st.exits cell n) (name_among n value.black_exits) (list_any (λ x. refers x n) (reached trace st cell value sound shows phase distinct))
      (black_exit trace st cell value sound shows phase distinct n))
      ∙ ap (λ b. b && not (name_among n value.black_exits)) (sym (exits_are trace st cell value sound shows phase distinct n))
      ∙ sym (among_kept (λ m. not (name_among m value.black_exits)) value.exits n)

  freed_are : freed_bytes value ≡ bytes_in (part trace st cell) - bytes_in (collected (part trace st cell))
  unfolding part
  freed_are =
      let all = parts_sum object_bytes (λ o. name_among o.name value.black) value.objects in
      let here = ap (total object_bytes) (objects_are trace st cell value sound shows phase distinct) in
      let kept = ap (total object_bytes) (kept_objects trace st cell value sound shows phase distinct) in
      omega (arith, all, here, kept)

  entries_left : (before after : BookValue) → BookShows trace st before → HasLeft (dropped value) before after → (n : Name) →
      counted after.entries n ≡ (book_part trace st).entries n - cond (drops (part trace st cell) n) 1 0
  unfolding book_part
  entries_left before after seen gone n =
      let one = gone n in
      let was = ap (λ (b : BookPart). b.entries n) seen.part in
      let is : ◌≡◌ {A = ℕ} (cond (drops (part trace st cell) n) 1 0) (cond (name_among n (dropped value)) 1 0) = ap (λ b. cond b 1 0) (drops_are n) in
      omega (arith, one, was, is)

  homes_stay : owner_of trace (after_ended trace cell st) ≡ owner_of trace st
  unfolding after_ended close_scan keep_shares keep_exits keep_objects
  homes_stay = refl

  homes_after : (before after : BookValue) → BookShows trace st before → before.homes ≡ after.homes → after.homes ≡ map (owner_of trace (after_ended trace cell st)) (numbers_below (segment_count trace))
  homes_after before after seen same = sym same ∙ seen.homes ∙ ap (λ own. map own (numbers_below (segment_count trace))) (sym homes_stay)

pub kernel_settles : (trace : Trace) (st : State) (value : CellValue) (before after : BookValue) → IsSound trace st → BookShows trace st before → Shows trace st Kernel value →
    value.collection ≡ Marked → AreDistinctNames value.exits → HasLeft (dropped value) before after → after ≡ record before { entries = after.entries } →
    BookShows trace (after_ended trace Kernel st) after
kernel_settles trace st value before after sound seen shows phase distinct gone rest = record {
  part =
      ap book_shown_by rest
      ∙ ap (λ (b : BookPart). record b { entries = counted after.entries }) seen.part
      ∙ ap (λ entries. record (book_part trace st) { entries = entries }) (fun_ext (entries_left trace st Kernel value sound shows phase distinct before after seen gone))
      ∙ sym (kernel_collected_on_book trace st sound);
  homes = homes_after trace st Kernel value sound shows phase distinct before after seen (sym (ap (λ (b : BookValue). b.homes) rest));
}

module _ (trace : Trace) (limits : AreLimits trace) (st : State) (p : ℕ) (value : CellValue) (before after : BookValue) (sound : IsSound trace st) (seen : BookShows trace st before)
    (shows : Shows trace st (user p) value) (phase : value.collection ≡ Marked) (distinct : AreDistinctNames value.exits) (settled : HasSettledWith trace (owner_of trace st) p value before after) where
  abbrev own : ℕ → Heap
  own = owner_of trace st

  abbrev b : BookPart
  b = book_part trace st

  abbrev c : CellPart
  c = part trace st (user p)

  way : (t : ℕ) → keeps_way own before value p t ≡ has_way_into own b c p t
  way = ways trace st p value before sound seen shows phase distinct

  shares_seen : (q t : ℕ) → has_share before.shares q t ≡ b.shares q t
  unfolding book_part
  shares_seen q t = ap (λ (x : BookPart). x.shares q t) seen.part

  bytes_seen : before.shared_bytes ≡ b.shared_bytes
  unfolding book_part
  bytes_seen = ap (λ (x : BookPart). x.shared_bytes) seen.part

  direct_seen : before.direct ≡ b.direct
  unfolding book_part
  direct_seen = ap (λ (x : BookPart). x.direct) seen.part

  unshared : bytes_unshared trace own before value p ≡ shared_by trace b p (λ t. not (has_way_into own b c p t))
  unshared = sum_same
      (λ t. cond (has_share before.shares p t && not (keeps_way own before value p t)) (get_or before.shared_bytes t 0) 0)
      (λ t. cond (b.shares p t && not (has_way_into own b c p t)) (get_or b.shared_bytes t 0) 0)
      (λ t. ap₂ (λ x y. cond x y 0) (ap₂ (λ x y. x && not y) (shares_seen p t) (way t)) (ap (λ bytes. get_or bytes t 0) bytes_seen))
      (numbers_below trace.shared_heaps)

  shares_after : (q t : ℕ) → has_share after.shares q t ≡ (b.shares q t && (not (q == p) || has_way_into own b c p t))
  shares_after q t = settled.shares q t ∙ ap₂ (λ x y. x && (not (q == p) || y)) (shares_seen q t) (way t)

  direct_after : after.direct ≡ set b.direct (limit_of trace p) (get_or b.direct (limit_of trace p) 0 - ((bytes_in c - bytes_in (collected c)) + shared_by trace b p (λ t. not (has_way_into own b c p t))))
  direct_after =
      settled.direct
      ∙ ap₂ (λ direct less. set direct (limit_of trace p) (get_or direct (limit_of trace p) 0 - less)) direct_seen
      (ap₂ (λ x y. x + y) (freed_are trace st (user p) value sound shows phase distinct) unshared)

  pub user_settles : BookShows trace (after_ended trace (user p) st) after
  user_settles =
      let m = marks trace st (user p) value sound shows phase distinct in
      record {
        part =
            ap book_shown_by settled.rest
            ∙ ap (λ (x : BookPart). record x { shares = has_share after.shares; direct = after.direct; entries = counted after.entries }) seen.part
            ∙ ap (λ shares. record b { shares = shares; direct = after.direct; entries = counted after.entries }) (fun_ext (λ q. fun_ext (λ t. shares_after q t)))
            ∙ ap₂ (λ direct entries. record b { shares = λ q t. b.shares q t && (not (q == p) || has_way_into own b c p t); direct = direct; entries = entries })
            direct_after (fun_ext (entries_left trace st (user p) value sound shows phase distinct before after seen settled.entries))
            ∙ sym (collected_on_book trace limits st p sound m.0 m.1);
        homes = homes_after trace st (user p) value sound shows phase distinct before after seen (sym (ap (λ (x : BookValue). x.homes) settled.rest));
      }

pub left_bit : (a b : Bool) → (a ≡ true → b ≡ false) → ◌≡◌ {A = ℕ} (cond (a || b) 1 0) (cond (a || false) 1 0 + cond b 1 0)
left_bit true true apart = absurd (false≢true (sym (apart refl)))
left_bit true false apart = refl
left_bit false b apart = omega arith

pub left_none : (book : BookValue) → HasLeft [] book book
left_none book n = omega arith

pub left_more : (first last after : BookValue) (n : Name) (gone : List Name) → HasLeft (n ∷ []) first last → HasLeft gone last after → name_among n gone ≡ false → HasLeft (n ∷ gone) first after
left_more first last after n gone one rest apart m =
    let a = one m in
    let b = rest m in
    let both = left_bit (name_eq n m) (name_among m gone) (λ same. ap (λ k. name_among k gone) (sym (name_eq-true n m same)) ∙ apart) in
    omega (arith, a, b, both)

pub kept_distinct : (p : Name → Bool) (xs : List Name) → AreDistinctNames xs → AreDistinctNames (filter p xs)
kept_distinct p [] d = tt
kept_distinct p (x ∷ xs) d =
    elim (p x) as (λ b. AreDistinctNames (cond b (x ∷ filter p xs) (filter p xs))) [
      | true ↦ (among_kept p xs x ∙ ap (λ b. b && p x) d.0, kept_distinct p xs d.1)
      | false ↦ kept_distinct p xs d.1
    ]

pub dropped_distinct : (value : CellValue) → AreDistinctNames value.exits → AreDistinctNames (dropped value)
dropped_distinct value = kept_distinct (λ n. not (name_among n value.black_exits)) value.exits
