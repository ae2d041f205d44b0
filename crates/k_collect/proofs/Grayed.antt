-- What has been made gray so far.
use Rattle.std.proofs.Common.{◌≡◌, ℕ, ◌-◌, ◌<◌, ◌||◌, Bool, true, false, sym, ap, ◌∙◌, subst, List, length, take, Option, Some, None}
use Rattle.std.specs.List.{list_any}
use Rattle.k_types.specs.declared.names.Heap.{Heap}
use Rattle.k_types.specs.declared.names.Name.{Name}
use Rattle.k_types.specs.Agree.{CellValue}
use Rattle.k_types.specs.Names.{leads_to, name_among, name_eq}
use Rattle.k_commit.specs.k_cell.Changes.{HasBegun, HasGrayed, HasRoot}
use Rattle.k_commit.proofs.Grayed.{grays_none, grays_one, grays_same}
use Rattle.k_laws.specs.BookChanges.{registers_in}
use Rattle.k_entry.specs.Entries.{AreEntries, EntryValue, first_object, home_of, items_of, object_after, objects}
use Rattle.k_collect.specs.Graying.{is_counted_at}
use Rattle.k_collect.proofs.Walks.{IsOnWalk, distinct_walk, first_on_walk, next_on_walk, none_before, on_walk_counted, passed_before, passed_more, passed_next, walk_counts}
use Rattle.k_types.specs.Counted.{Counted, counted}
use Rattle.k_types.specs.Distinct.{AreDistinctNames}
use Rattle.k_commit.proofs.Changed.{among_pushed}

-- what the first registers hold
abbrev pub held_by_first : ℕ → CellValue → Name → Bool
held_by_first count v n = list_any (λ r. leads_to r n) (take count (registers_in v.process))

module _ (v : EntryValue) (heap : Heap) (are : AreEntries v) where
  abbrev items : List Counted
  items = items_of v heap

  pub walk_begins : (w : CellValue) → HasBegun w → HasGrayed (λ n. name_among n (passed_before items (first_object items))) w w
  walk_begins w begins = grays_same (λ n. false) (λ n. name_among n (passed_before items (first_object items))) w w (λ n. sym (ap (name_among n) (none_before items))) (grays_none w begins)

  pub walk_goes_on : (t : Name) (w x y : CellValue) → AreDistinctNames (objects items) → name_among t (objects items) ≡ true →
      HasGrayed (λ n. name_among n (passed_before items (Some t))) w x → HasRoot x y t →
      HasGrayed (λ n. name_among n (passed_before items (object_after items t))) w y
  walk_goes_on t w x y distinct there grayed root =
      grays_same (λ n. name_among n (passed_before items (Some t)) || name_eq t n) (λ n. name_among n (passed_before items (object_after items t))) w y
      (λ n. sym (ap (name_among n) (passed_next items t distinct there) ∙ among_pushed (passed_before items (Some t)) t n))
      (grays_one (λ n. name_among n (passed_before items (Some t))) t w x y grayed root)

  pub walk_ends : (w x : CellValue) → HasGrayed (λ n. name_among n (passed_before items None)) w x → HasGrayed (is_counted_at v heap) w x
  walk_ends w x grayed = grays_same (λ n. name_among n (passed_before items None)) (is_counted_at v heap) w x (walk_counts v heap are) grayed

-- so far the walk over the items has made gray what it has passed, and the cell is otherwise as it was
pub record IsGraying (items : List Counted) (old now : CellValue) (at : Option Name) : Type 0 where
  pub grayed : HasGrayed (λ n. name_among n (passed_before items at)) old now
  pub on_walk : IsOnWalk items at

module _ (v : EntryValue) (heap : Heap) (are : AreEntries v) where
  pub graying_begins : (w : CellValue) (at : Option Name) → at ≡ first_object (items_of v heap) → HasBegun w → IsGraying (items_of v heap) w w at
  graying_begins w at is begins =
      subst (λ (a : Option Name). IsGraying (items_of v heap) w w a) (sym is) (record { grayed = walk_begins v heap are w begins; on_walk = first_on_walk (items_of v heap) })

  module _ (t : Name) (at next : Option Name) (w x y : CellValue) (graying : IsGraying (items_of v heap) w x at) (here : at ≡ Some t) where
    pub on_walk_here : name_among t (objects (items_of v heap)) ≡ true
    on_walk_here = graying.on_walk t here

    pub counted_here : 0 < counted v.items t
    counted_here = (on_walk_counted v heap are t on_walk_here).0

    pub next_here : next ≡ object_after (items_of v (home_of v.homes t.seg.0)) t → next ≡ object_after (items_of v heap) t
    next_here is = is ∙ ap (λ (h : Heap). object_after (items_of v h) t) (on_walk_counted v heap are t on_walk_here).1

    pub graying_goes_on : next ≡ object_after (items_of v (home_of v.homes t.seg.0)) t → HasRoot x y t → IsGraying (items_of v heap) w y next
    graying_goes_on is root =
        subst (λ (a : Option Name). IsGraying (items_of v heap) w y a) (sym (next_here is)) (record {
          grayed = walk_goes_on v heap are t w x y (distinct_walk v heap are) on_walk_here (subst (λ (a : Option Name). HasGrayed (λ n. name_among n (passed_before (items_of v heap) a)) w x) here graying.grayed) root;
          on_walk = next_on_walk (items_of v heap) t;
        })

    pub walk_shorter : next ≡ object_after (items_of v (home_of v.homes t.seg.0)) t →
        length (items_of v heap) - length (passed_before (items_of v heap) next) < length (items_of v heap) - length (passed_before (items_of v heap) at)
    walk_shorter is =
        subst (λ (a : Option Name). length (items_of v heap) - length (passed_before (items_of v heap) next) < length (items_of v heap) - length (passed_before (items_of v heap) a)) (sym here)
        (subst (λ (a : Option Name). length (items_of v heap) - length (passed_before (items_of v heap) a) < length (items_of v heap) - length (passed_before (items_of v heap) (Some t))) (sym (next_here is))
        (passed_more (items_of v heap) t (distinct_walk v heap are) on_walk_here))

  pub graying_ends : (w x : CellValue) (at : Option Name) → IsGraying (items_of v heap) w x at → at ≡ None → HasGrayed (is_counted_at v heap) w x
  graying_ends w x at graying none =
      walk_ends v heap are w x (subst (λ (a : Option Name). HasGrayed (λ n. name_among n (passed_before (items_of v heap) a)) w x) none graying.grayed)
