-- The cells and the book after the changes of an absorption show the state after it.
use Rattle.std.proofs.Common.{◌≡◌, ℕ, ◌+◌, ◌==◌, ◌&&◌, ◌||◌, not, true, false, refl, sym, ap, ap₂, ◌∙◌, subst, List, [], get_or, set, Option, Some, None, inl, inr}
use Rattle.std.proofs.Math.Path.{fun_ext}
use Rattle.std.proofs.lemmas.Bool.{cases_Bool, false≢true}
use Rattle.k_types.specs.declared.event.Event.TheVariants.{Absorbed}
use Rattle.k_types.specs.declared.names.Heap.{Heap}
use Rattle.k_types.specs.declared.names.Heap.TheVariants.{Kernel, Shared, User}
use Rattle.k_types.specs.declared.names.Name.{Name}
use Rattle.k_types.specs.declared.names.Phase.TheVariants.{Absorbed as AbsorbedPhase}
use Rattle.k_types.specs.Agree.{BookValue, CellValue, book_shown_by}
use Rattle.k_types.specs.Barrier.{legal_store}
use Rattle.k_types.specs.Counted.{counted}
use Rattle.k_types.specs.Names.{heap_eq, kind_of, name_among}
use Rattle.k_types.specs.Owners.{owner_of, shared}
use Rattle.k_types.specs.Reach.{is_shared_heap}
use Rattle.k_types.specs.Trace.{Trace}
use Rattle.k_agree.specs.Agreement.{BookShows, Shows}
use Rattle.k_agree.specs.Ending.{HasLeft}
use Rattle.k_agree.specs.GivingAway.{HasTakenIn, absorbed_cell}
use Rattle.k_agree.specs.GivingOnTheBook.{HasAbsorbed}
use Rattle.k_agree.proofs.GivenInJournal.{absorbed_cell_shows, absorbed_kernel_shows}
use Rattle.k_agree.proofs.GivenOnTheBook.{absorption_in_journal}
use Rattle.k_laws.specs.Counts.{one_if}
use Rattle.k_commit.specs.k_book.Books.{BookRecord}
use Rattle.k_commit.specs.k_book.Calls.{ChangesEntries}
use Rattle.k_commit.specs.k_cell.Holdings.{HoldingsValue}
use Rattle.k_laws.specs.CellChanges.{either_of, with_objects}
use Rattle.k_commit.specs.k_shared.SharedHeaps.{SharedRecord, holdings_of, with_phase}
use Rattle.k_own.specs.Absorbing.{HasTakenOver, HaveMetToAbsorb}
use Rattle.k_own.specs.Ending.{MarksAbsorbed, state_with}
use Rattle.k_own.specs.Exits.{HasCut, HasNoExits, into_segment}
use Rattle.k_own.specs.Segments.{HasGiven}
use Rattle.k_own.proofs.Leaving.{and_none, entries_change, or_none}
use Rattle.k_own.proofs.Orphaned.{kernel_shows, now, numbered, possible, shows, sound}
use Rattle.k_own.proofs.HeapTold.{book_shows_as, exits_shown, led_by_segment, none_shown, shows_as}

-- the heap is the same one throughout
pub same_heap : (s s1 s2 : SharedRecord) → s1 ≡ record s { value = s1.value } → s2 ≡ record s1 { value = record s1.value { objects = s2.value.objects; made = s2.value.made }; serial_rooms = s2.serial_rooms } →
    (s2.id.0 ≡ s.id.0) × (s2.seg.0 ≡ s.seg.0)
same_heap s s1 s2 first second = (
  ap (λ (x : SharedRecord). x.id.0) second ∙ ap (λ (x : SharedRecord). x.id.0) first,
  ap (λ (x : SharedRecord). x.seg.0) second ∙ ap (λ (x : SharedRecord). x.seg.0) first,
)

-- after the drains
module _ (s s1 : SharedRecord) (k k1 : HoldingsValue) (same : s1 ≡ record s { value = s1.value }) (none : HasNoExits s.value s1.value)
    (kernel_same : k1 ≡ record k { value = k1.value }) (cut : HasCut s.seg.0 k.value k1.value) where
  pub shared_drained : s1 ≡ record s { value = record s.value { exits = []; black_exits = s1.value.black_exits } }
  shared_drained = same ∙ ap (λ (v : CellValue). record s { value = v }) none

  pub kernel_drained : k1 ≡ record k { value = record k.value { exits = k1.value.exits; black_exits = k1.value.black_exits } }
  kernel_drained = kernel_same ∙ ap (λ (v : CellValue). record k { value = v }) cut.rest

  -- and once the segment is given
  module _ (s2 s3 : SharedRecord) (k2 : HoldingsValue) (rest : s2 ≡ record s1 { value = record s1.value { objects = s2.value.objects; made = s2.value.made }; serial_rooms = s2.serial_rooms })
      (given : HasGiven s1.seg.0 (holdings_of s1) (holdings_of s2) k1 k2) (marked : s3 ≡ record s2 { value = with_phase AbsorbedPhase s2.value }) where
    emptied : s2 ≡ record s1 { value = record s1.value { objects = []; made = s2.value.made }; serial_rooms = set s1.serial_rooms s1.seg.0 None }
    emptied =
        rest
        ∙ ap₂ (λ objects rooms. record s1 { value = record s1.value { objects = objects; made = s2.value.made }; serial_rooms = rooms })
        (ap (λ (h : HoldingsValue). h.value.objects) given.given_is) (ap (λ (h : HoldingsValue). h.serial_rooms) given.given_is)

    pub shared_then : s3 ≡ record s {
      value = record s.value { objects = []; made = s2.value.made; exits = []; black_exits = s1.value.black_exits; phase = Some AbsorbedPhase };
      serial_rooms = set s.serial_rooms s.seg.0 None;
    }
    shared_then =
        marked
        ∙ ap (λ (x : SharedRecord). record x { value = with_phase AbsorbedPhase x.value }) emptied
        ∙ ap (λ (x : SharedRecord). record x { value = record x.value { objects = []; made = s2.value.made; phase = Some AbsorbedPhase }; serial_rooms = set x.serial_rooms x.seg.0 None }) shared_drained

    pub kernel_then : k2 ≡ record k {
      value = record k.value { objects = with_objects s.value.objects k.value.objects; made = k2.value.made; exits = k1.value.exits; black_exits = k1.value.black_exits };
      serial_rooms = set k.serial_rooms s.seg.0 (get_or s.serial_rooms s.seg.0 None);
    }
    kernel_then =
        given.taken_is
        ∙ ap₂ (λ (x : HoldingsValue) (y : SharedRecord). record x {
          value = record x.value { objects = with_objects y.value.objects x.value.objects; made = k2.value.made };
          serial_rooms = set x.serial_rooms y.seg.0 (get_or y.serial_rooms y.seg.0 None);
        }) kernel_drained shared_drained

    pub kernel_made : (j : ℕ) → get_or k2.value.made j None ≡ either_of (get_or k.value.made j None) (get_or s.value.made j None)
    kernel_made j =
        given.made j
        ∙ ap₂ (λ (x : HoldingsValue) (y : SharedRecord). either_of (get_or x.value.made j None) (get_or y.value.made j None)) kernel_drained shared_drained

-- a shared heap has exit items to objects of the kernel alone
not_to_shared : (t : ℕ) (h : Heap) → heap_eq (shared t) h ≡ false → legal_store (kind_of (shared t)) (kind_of h) (heap_eq (shared t) h) ≡ true → is_shared_heap h ≡ false
not_to_shared t Kernel apart legal = refl
not_to_shared t (User p) apart legal = refl
not_to_shared t (Shared u) apart legal = absurd (false≢true (sym apart ∙ legal))

module _ (trace : Trace) (s : SharedRecord) (k : HoldingsValue) (b : BookRecord) (met : HaveMetToAbsorb trace s k b) where
  abbrev own : ℕ → Heap
  own = owner_of trace (now trace s k b met)

  none_passed : (n : Name) → (name_among n s.value.exits && is_shared_heap (own n.seg.0)) ≡ false
  none_passed n =
      elim (cases_Bool (name_among n s.value.exits)) [
        | inl there ↦
            let had = sym (exits_shown trace (now trace s k b met) (Shared s.id) s.value (shows trace s k b met) n) ∙ there in
            let to = not_to_shared s.id.0 (own n.seg.0) ((sound trace s k b met).exits.leave (Shared s.id) n had) ((sound trace s k b met).exits.allowed (Shared s.id) n had) in
            ap (λ t. name_among n s.value.exits && t) to ∙ and_none (name_among n s.value.exits)
        | inr gone ↦ ap (λ t. t && is_shared_heap (own n.seg.0)) gone
      ]

  -- the kernel's cell
  module _ (made : List (Option ℕ)) (exits black : List Name) (made_is : (j : ℕ) → get_or made j None ≡ either_of (get_or k.value.made j None) (get_or s.value.made j None))
      (exits_are : (n : Name) → name_among n exits ≡ (name_among n k.value.exits && not (n.seg.0 == s.seg.0))) where
    abbrev taken : CellValue
    taken = record k.value { objects = with_objects s.value.objects k.value.objects; made = made; exits = exits }

    takes_in : HasTakenIn own (Shared s.id) s.value k.value taken
    takes_in = record {
      objects = refl;
      made = made_is;
      exits = λ n.
          exits_are n
          ∙ ap (λ t. name_among n k.value.exits && not t) (sym (numbered trace s k b met n.seg.0))
          ∙ sym (ap (λ t. (name_among n k.value.exits && not (heap_eq (own n.seg.0) (Shared s.id))) || t) (none_passed n) ∙ or_none (name_among n k.value.exits && not (heap_eq (own n.seg.0) (Shared s.id))));
      rest = refl;
    }

    pub kernel_shows_then : Shows trace (state_with trace b (Absorbed s.id)) Kernel (record taken { black_exits = black })
    kernel_shows_then =
        shows_as trace (state_with trace b (Absorbed s.id)) Kernel taken (record taken { black_exits = black })
        (absorbed_kernel_shows trace b.journal s.id s.value k.value taken b.value met.book_stands.keeps.limits met.book_stands.agrees (possible trace s k b met) (shows trace s k b met) (kernel_shows trace s k b met)
        met.kernel_stands.idle takes_in)
        met.kernel_stands.idle met.kernel_stands.idle refl

  -- the heap's cell
  pub shared_shows_then : (made : List (Option ℕ)) (black : List Name) → ((j : ℕ) → get_or made j None ≡ None) →
      Shows trace (state_with trace b (Absorbed s.id)) (Shared s.id) (record s.value { objects = []; made = made; exits = []; black_exits = black; phase = Some AbsorbedPhase })
  shared_shows_then made black none =
      shows_as trace (state_with trace b (Absorbed s.id)) (Shared s.id) (absorbed_cell s.value) (record s.value { objects = []; made = made; exits = []; black_exits = black; phase = Some AbsorbedPhase })
      (absorbed_cell_shows trace b.journal s.id s.value b.value met.book_stands.keeps.limits met.book_stands.agrees (possible trace s k b met) (shows trace s k b met) met.shared_stands.idle)
      met.shared_stands.idle met.shared_stands.idle
      (none_shown (record s.value { objects = []; exits = []; black_exits = black; phase = Some AbsorbedPhase }) made none)

  -- the book
  module _ (b1 b2 b3 : BookRecord) (left : HasLeft s.value.exits b.value b1.value) (first : ChangesEntries b b1) (cut : HasLeft (into_segment s.seg.0 k.value.exits) b1.value b2.value) (second : ChangesEntries b1 b2)
      (marks : MarksAbsorbed b2 b3 s.id.0 s.seg.0) where
    pub book_then : b3 ≡ record b {
      value = record b.value {
        phases = set b.value.phases s.id.0 AbsorbedPhase;
        shared_bytes = set b.value.shared_bytes s.id.0 0;
        homes = set b.value.homes s.seg.0 Kernel;
        entries = b3.value.entries;
        pins = b3.value.pins;
      };
    }
    book_then =
        marks.rest
        ∙ ap (λ (x : BookRecord). record x {
          value = record x.value {
            phases = set x.value.phases s.id.0 AbsorbedPhase;
            shared_bytes = set x.value.shared_bytes s.id.0 0;
            homes = set x.value.homes s.seg.0 Kernel;
            entries = b3.value.entries;
            pins = b3.value.pins;
          };
        }) (entries_change b b1 b2 first second)

    abbrev settled : BookValue
    settled = record b.value {
      phases = set b.value.phases s.id.0 AbsorbedPhase;
      shared_bytes = set b.value.shared_bytes s.id.0 0;
      homes = set b.value.homes s.seg.0 Kernel;
      entries = b3.value.entries;
    }

    absorbs : HasAbsorbed trace own s.id.0 s.value k.value b.value b1.value settled
    absorbs = record {
      left = left;
      cut = λ n.
          ap₂ (λ x t. x + one_if t) (marks.counts.entries n) (led_by_segment own (Shared s.id) s.seg.0 k.value (numbered trace s k b met) n) ∙ cut n;
      phases = refl;
      bytes = refl;
      homes = ap (λ j. set b.value.homes j Kernel) met.shared_stands.segment;
      rest = refl;
    }

    pins_kept : (n : Name) → counted b3.value.pins n ≡ counted b.value.pins n
    pins_kept n = marks.counts.pins n ∙ ap (λ (x : BookRecord). counted x.value.pins n) (entries_change b b1 b2 first second)

    pub book_shows_then : BookShows trace (state_with trace b (Absorbed s.id)) b3.value
    book_shows_then =
        subst (λ (x : BookRecord). BookShows trace (state_with trace b (Absorbed s.id)) x.value) (sym book_then)
        (book_shows_as trace (state_with trace b (Absorbed s.id)) settled (record settled { pins = b3.value.pins })
        (absorption_in_journal trace b.journal s.id s.value k.value b.value b1.value settled met.book_stands.keeps.limits met.book_stands.agrees (possible trace s k b met) (shows trace s k b met) (kernel_shows trace s k b met) absorbs)
        (ap (λ (pins : Name → ℕ). record (book_shown_by settled) { pins = pins }) (fun_ext pins_kept)) refl)

  -- all together
  pub taken_over : (s1 s2 s3 : SharedRecord) (k1 k2 : HoldingsValue) (b1 b2 b3 : BookRecord) →
      s1 ≡ record s { value = s1.value } → HasNoExits s.value s1.value → HasLeft s.value.exits b.value b1.value → ChangesEntries b b1 →
      k1 ≡ record k { value = k1.value } → HasCut s.seg.0 k.value k1.value → HasLeft (into_segment s.seg.0 k.value.exits) b1.value b2.value → ChangesEntries b1 b2 →
      s2 ≡ record s1 { value = record s1.value { objects = s2.value.objects; made = s2.value.made }; serial_rooms = s2.serial_rooms } → HasGiven s1.seg.0 (holdings_of s1) (holdings_of s2) k1 k2 →
      s3 ≡ record s2 { value = with_phase AbsorbedPhase s2.value } → MarksAbsorbed b2 b3 s.id.0 s.seg.0 → HasTakenOver trace s s3 k k2 b b3
  taken_over s1 s2 s3 k1 k2 b1 b2 b3 same none left first kernel_same cut cut_left second rest given marked marks =
      let shared_is = shared_then s s1 k k1 same none kernel_same cut s2 s3 k2 rest given marked in
      let kernel_is = kernel_then s s1 k k1 same none kernel_same cut s2 s3 k2 rest given marked in
      let made_is = kernel_made s s1 k k1 same none kernel_same cut s2 s3 k2 rest given marked in
      let book_is = book_then b1 b2 b3 left first cut_left second marks in
      record {
        shared_is = shared_is ∙ ap (λ (v : CellValue). record s { value = v; serial_rooms = set s.serial_rooms s.seg.0 None }) (sym (ap (λ (x : SharedRecord). x.value) shared_is));
        kernel_is =
            kernel_is
            ∙ ap (λ (v : CellValue). record k { value = v; serial_rooms = set k.serial_rooms s.seg.0 (get_or s.serial_rooms s.seg.0 None) }) (sym (ap (λ (x : HoldingsValue). x.value) kernel_is));
        book_is = book_is ∙ ap (λ (v : BookValue). record b { value = v }) (sym (ap (λ (x : BookRecord). x.value) book_is));
        settled = ap (λ (x : SharedRecord). x.value.tail) shared_is;
        kernel_settled = ap (λ (x : HoldingsValue). x.value.tail) kernel_is;
        phase = ap (λ (x : SharedRecord). x.value.phase) shared_is;
        idle = ap (λ (x : SharedRecord). x.value.collection) shared_is ∙ met.shared_stands.idle;
        kernel_idle = ap (λ (x : HoldingsValue). x.value.collection) kernel_is ∙ met.kernel_stands.idle;
        shows = subst (λ (x : SharedRecord). Shows trace (state_with trace b (Absorbed s.id)) (Shared s.id) x.value) (sym shared_is) (shared_shows_then s2.value.made s1.value.black_exits given.none);
        kernel_shows = subst (λ (x : HoldingsValue). Shows trace (state_with trace b (Absorbed s.id)) Kernel x.value) (sym kernel_is)
            (kernel_shows_then k2.value.made k1.value.exits k1.value.black_exits made_is cut.exits);
        book_shows = book_shows_then b1 b2 b3 left first cut_left second marks;
      }
