-- The objects that are gray once all roots were walked.
use Rattle.std.proofs.Common.{◌≡◌, ◌<◌, ◌||◌, ◌&&◌, nat_lt, Bool, true, false, refl, sym, ap, ◌∙◌, List, [], map, filter, length}
use Rattle.std.proofs.lemmas.Bool.{and_parts, false≢true}
use Rattle.k_types.specs.declared.names.Heap.{Heap}
use Rattle.k_types.specs.declared.names.Heap.TheVariants.{User}
use Rattle.k_types.specs.declared.names.Name.{Name}
use Rattle.k_types.specs.declared.names.Pid.{Pid}
use Rattle.k_types.specs.Agree.{CellValue, book_shown_by}
use Rattle.k_types.specs.Bounds.{register_count}
use Rattle.k_types.specs.Cells.{ShownPart, part}
use Rattle.k_types.specs.Counted.{counted}
use Rattle.k_types.specs.Names.{heap_eq, name_among}
use Rattle.k_types.specs.Owners.{objects_of, owner_of}
use Rattle.k_types.specs.Sound.{IsSound}
use Rattle.k_types.specs.State.{Object, State, has}
use Rattle.k_types.specs.Trace.{Trace, process_count}
use Rattle.k_types.proofs.Objects.{has-kept, names_have}
use Rattle.k_agree.specs.Agreement.{BookShows, Shows}
use Rattle.k_agree.specs.Marking.{begun, idle_part, roots_seen}
use Rattle.k_agree.proofs.Openings.{home_at}
use Rattle.k_commit.specs.k_book.Books.{BookRecord}
use Rattle.k_laws.specs.BookChanges.{registers_in}
use Rattle.k_laws.specs.Roots.{entered_in, held_by}
use Rattle.k_entry.specs.Entries.{home_of}
use Rattle.k_commit.specs.k_cell.Changes.{HasGrayed}
use Rattle.k_collect.specs.Graying.{is_root_by}

listed : (p : Name → Bool) (objects : List Object) (n : Name) → name_among n (map (λ (o : Object). o.name) (filter (λ o. p o.name) objects)) ≡ (has objects n && p n)
listed p objects n = names_have (filter (λ o. p o.name) objects) n ∙ has-kept p objects n

roots_found : (x h e p o : Bool) → (x ≡ true → o ≡ true) → (false || (((h || (e && o)) || (p && o)) && x)) ≡ (x && ((e || p) || h))
roots_found true true true p true own = refl
roots_found true true false true true own = refl
roots_found true true false false true own = refl
roots_found true false true p true own = refl
roots_found true false false true true own = refl
roots_found true false false false true own = refl
roots_found true h e p false own = absurd (false≢true (own refl))
roots_found false true e p o own = refl
roots_found false false true p true own = refl
roots_found false false true true false own = refl
roots_found false false true false false own = refl
roots_found false false false true true own = refl
roots_found false false false true false own = refl
roots_found false false false false o own = refl

module _ (trace : Trace) (st : State) (heap : Heap) (b : BookRecord) (v : CellValue) (sound : IsSound trace st) (seen : BookShows trace st b.value) (shows : Shows trace st heap v) where
  -- the home of an object of the cell is the heap
  at_home : (n : Name) → has v.objects n ≡ true → heap_eq (home_of b.value.homes n.seg.0) heap ≡ true
  unfolding part
  at_home n there =
      let objects : v.objects ≡ objects_of (owner_of trace st) heap st.objects = ap (λ (s : ShownPart). s.objects) shows.part in
      let both = and_parts (has st.objects n) (heap_eq (owner_of trace st n.seg.0) heap)
      (sym (has-kept (λ m. heap_eq (owner_of trace st m.seg.0) heap) st.objects n) ∙ sym (ap (λ (os : List Object). has os n) objects) ∙ there) in
      ap (λ (h : Heap). heap_eq h heap) (home_at trace st b.value n.seg.0 seen (sound.shape.placed n both.0).1) ∙ both.1

  pub gray_at_roots : (w : CellValue) → HasGrayed (is_root_by heap b v) (begun [] v) w → (n : Name) → name_among n w.gray ≡ name_among n (roots_seen heap b.value v)
  gray_at_roots w grayed n =
      grayed.gray n
      ∙ roots_found (has v.objects n) (held_by heap (idle_part v) n) (nat_lt 0 (counted b.value.entries n)) (nat_lt 0 (counted b.value.pins n)) (heap_eq (home_of b.value.homes n.seg.0) heap) (at_home n)
      ∙ sym (listed (λ m. entered_in (book_shown_by b.value) m || held_by heap (idle_part v) m) v.objects n)

pub registers_all : (trace : Trace) (st : State) (pid : Pid) (v : CellValue) → IsSound trace st → Shows trace st (User pid) v → pid.0 < process_count trace → length (registers_in v.process) ≡ register_count
unfolding part
registers_all trace st pid v sound shows known = ap (λ (s : ShownPart). length (registers_in s.process)) shows.part ∙ sound.shape.sized.each pid.0 known
