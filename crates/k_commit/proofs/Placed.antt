-- What registers and fields refer to lies in a segment of the trace, and the book tells its owner.
use Rattle.std.proofs.Common.{◌≡◌, ◌<◌, ℕ, zero, suc, refl, sym, ap, ◌∙◌, List, [], ◌∷◌, get_or, length, Option, Some, None, true}
use Rattle.std.specs.List.{list_any}
use Rattle.std.proofs.lemmas.Bool.{and_parts, or_left, or_right}
use Rattle.std.proofs.lemmas.List.{length-map}
use Rattle.k_types.specs.declared.names.Heap.{Heap}
use Rattle.k_types.specs.declared.names.Heap.TheVariants.{User}
use Rattle.k_types.specs.declared.names.Name.{Name}
use Rattle.k_types.specs.Agree.{CellValue, book_shown_by}
use Rattle.k_types.specs.Cells.{Cell, ProcessPart, ShownPart, part}
use Rattle.k_types.specs.Names.{heap_eq}
use Rattle.k_types.specs.Numbers.{numbers_below}
use Rattle.k_types.specs.Owners.{objects_of, owner_of}
use Rattle.k_types.specs.Sound.{IsSound}
use Rattle.k_types.specs.State.{Content, Holds, Object, Refers, State, content_leads_to, fields_of, object_at, refers_in, register}
use Rattle.k_types.specs.Steps.{state_after}
use Rattle.k_types.specs.Trace.{Trace, segment_count}
use Rattle.k_types.proofs.Lists.{numbers_length}
use Rattle.k_types.proofs.NameTests.{name_eq_refl}
use Rattle.k_types.proofs.Objects.{refers_found, refers_in-kept}
use Rattle.k_book.proofs.SoundSteps.{legal_sound}
use Rattle.k_book.proofs.SoundStore.{register_holds}
use Rattle.k_book.specs.k_agree.Agreement.{Shows}
use Rattle.k_book.proofs.Openings.{home_at}
use Rattle.k_heap.specs.Looks.{field_among}
use Rattle.k_book.specs.k_laws.BookChanges.{owner_in}
use Rattle.k_book.proofs.Laws.{the_book_tells_the_owners}
use Rattle.k_book.proofs.ToldBy.{register_told}
use Rattle.k_book.specs.k_entry.Entries.{home_of}
use Rattle.k_laws.specs.PartUpdates.{held_in}
use Rattle.k_commit.specs.Met.{Before, HaveMet}

leads_from : (contents : List Content) (i : ℕ) (y : Name) → get_or contents i (Holds 0) ≡ Refers (Some y) → list_any (content_leads_to y) contents ≡ true
leads_from [] i y e = absurd (cc e)
leads_from (c ∷ contents) zero y e = or_left _ _ (ap (content_leads_to y) e ∙ name_eq_refl y)
leads_from (c ∷ contents) (suc i) y e = or_right (content_leads_to y c) _ (leads_from contents i y e)

-- an object whose field refers to the other refers to it
pub field_refers : (objects : List Object) (x y : Name) (i : ℕ) → field_among objects x i ≡ Refers (Some y) → refers_in objects x y ≡ true
field_refers objects x y i e = go (object_at objects x) refl e
  where
    go : (o : Option Object) → object_at objects x ≡ o → get_or (fields_of o) i (Holds 0) ≡ Refers (Some y) → refers_in objects x y ≡ true
    go None found e = absurd (cc e)
    go (Some o) found e = refers_found objects x y o found (leads_from o.fields i y e)

module _ (trace : Trace) (st : State) (sound : IsSound trace st) where
  pub register_is_placed : (p r : ℕ) (n : Name) → register st.registers p r ≡ Some n → n.seg.0 < segment_count trace
  register_is_placed p r n is = (sound.shape.placed n (sound.no_dangling.registers p n (register_holds st.registers p r n is))).1

  pub field_is_placed : (cell : Cell) (value : CellValue) → Shows trace st cell value → (x n : Name) (i : ℕ) → field_among value.objects x i ≡ Refers (Some n) →
      n.seg.0 < segment_count trace
  unfolding part
  field_is_placed cell value shows x n i is =
      let objects : value.objects ≡ objects_of (owner_of trace st) cell st.objects = ap (λ (s : ShownPart). s.objects) shows.part in
      let kept = refers_in-kept (λ m. heap_eq (owner_of trace st m.seg.0) cell) st.objects x n in
      let there = and_parts _ _ (sym kept ∙ ap (λ (os : List Object). refers_in os x n) (sym objects) ∙ field_refers value.objects x n i is) in
      (sound.shape.placed n (sound.no_dangling.fields x n there.0)).1

module _ (before : Before) (met : HaveMet before) where
  abbrev now : State
  now = state_after before.trace before.book.journal.list

  pub sound_now : IsSound before.trace now
  sound_now = legal_sound before.trace before.book.journal.list met.book.keeps.limits met.book.agrees.legal

  pub held_is_placed : (r : ℕ) (n : Name) → held_in before.cell.value.process r ≡ Some n → n.seg.0 < segment_count before.trace
  held_is_placed r n held =
      let process : before.cell.value.process ≡ (part before.trace now (User before.cell.pid)).process = ap (λ (s : ShownPart). s.process) met.after.shows.part in
      register_is_placed before.trace now sound_now before.cell.pid.0 r n
      (sym (register_told before.trace now before.cell.pid.0 r) ∙ ap (λ (p : Option ProcessPart). held_in p r) (sym process) ∙ held)

  pub homes_count : length before.book.value.homes ≡ segment_count before.trace
  homes_count =
      ap length met.book.agrees.shows.homes ∙ length-map (numbers_below (segment_count before.trace)) (owner_of before.trace now) ∙ numbers_length 0 (segment_count before.trace)

  pub owners_told : owner_in before.trace (book_shown_by before.book.value) ≡ owner_of before.trace now
  owners_told = ap (owner_in before.trace) met.book.agrees.shows.part ∙ the_book_tells_the_owners before.trace now

  pub home_is_owner : (seg : ℕ) → seg < segment_count before.trace → home_of before.book.value.homes seg ≡ owner_in before.trace (book_shown_by before.book.value) seg
  home_is_owner seg inside =
      home_at before.trace now before.book.value seg met.book.agrees.shows inside ∙ ap (λ (own : ℕ → Heap). own seg) (sym owners_told)
