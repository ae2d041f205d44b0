-- A journal with more events.
use Rattle.std.specs.Prelude.{◌≡◌, ℕ, ◌+◌, ◌-◌, ◌<◌, ◌≤◌, List, [], ◌∷◌, ◌++◌, drop, length}
use Rattle.std.proofs.Common.{sym, ap, ◌∙◌, arith, length-append}
use Rattle.std.proofs.lemmas.List.{length-drop}
use Rattle.atomic_table.specs.Seated.{TableId}
use Rattle.circular_buffer.specs.Buffer.{Buffer, buffer, keep_last}
use Rattle.k_types.specs.declared.event.Event.{Event}
use Rattle.k_tie.specs.Values.{JournalValue}
use Rattle.k_book.specs.Kept.{AreKept, with_event, with_events}
use Rattle.k_book.specs.Objects.{objects_by, objects_told}
use Rattle.k_book.proofs.Counted.{told_append}
use Rattle.k_book.proofs.Lasting.{held_on}

-- count, objects and the last events go on with them
pub appended_all : (table : TableId) (journal later : JournalValue) (count objects more room kept : ℕ) (last now : Buffer Event) (events : List Event) → AreKept table journal count objects room kept last →
    length journal.list + length events ≤ room → later ≡ with_events events journal → more ≡ objects_told (journal.list ++ events) → now ≡ buffer (keep_last last.capacity (last.items ++ events)) last.capacity →
    AreKept table later (count + length events) more room kept now
appended_all table journal later count objects more room kept last now events was left is counts keeps = record {
  same = ap (λ (j : JournalValue). j.table) is ∙ was.same;
  counted = let counted = was.counted in omega (arith, longer, counted);
  objects_counted = counts ∙ sym (ap (λ (j : JournalValue). objects_told j.list) is);
  within = omega (arith, longer, left);
  few = was.few;
  gone = was.gone + (length last.items + length events - last.capacity);
  held =
      ap (λ (b : Buffer Event). b.items) keeps ∙ held_on last.capacity was.gone journal.list last.items events was.held low
      ∙ sym (ap (λ (j : JournalValue). drop (was.gone + (length last.items + length events - last.capacity)) j.list) is);
  reach = let reach = was.reach in let fits = was.fits in let fit = was.fit in omega (arith, reach, fits, fit, longer, there);
  fits = omega (arith, size, all, ap (λ (b : Buffer Event). b.capacity) keeps, length-drop (length (last.items ++ events) - last.capacity) (last.items ++ events));
  fit = let fit = was.fit in omega (arith, fit, ap (λ (b : Buffer Event). b.capacity) keeps);
}
  where
    longer : length later.list ≡ length journal.list + length events
    longer = ap (λ (j : JournalValue). length j.list) is ∙ length-append journal.list events

    low : was.gone ≤ length journal.list
    low = let reach = was.reach in omega (arith, reach)

    there : length last.items ≡ length journal.list - was.gone
    there = ap (λ (xs : List Event). length xs) was.held ∙ length-drop was.gone journal.list

    all : length (last.items ++ events) ≡ length last.items + length events
    all = length-append last.items events

    size : length now.items ≡ length (keep_last last.capacity (last.items ++ events))
    size = ap (λ (b : Buffer Event). length b.items) keeps

pub appended : (table : TableId) (journal later : JournalValue) (count objects more room kept : ℕ) (last now : Buffer Event) (event : Event) → AreKept table journal count objects room kept last → length journal.list < room →
    later ≡ with_event event journal → more ≡ objects_by objects event → now ≡ buffer (keep_last last.capacity (last.items ++ event ∷ [])) last.capacity → AreKept table later (count + 1) more room kept now
appended table journal later count objects more room kept last now event was left is counts keeps =
    appended_all table journal later count objects more room kept last now (event ∷ []) was (omega arith) is
    (counts ∙ ap (λ n. objects_by n event) was.objects_counted ∙ sym (told_append journal.list event)) keeps
