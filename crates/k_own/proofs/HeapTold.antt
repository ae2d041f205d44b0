-- What cells and book that show a state tell of the heap that becomes the kernel's.
use Rattle.std.proofs.Common.{◌≡◌, ℕ, ◌+◌, ◌-◌, ◌<◌, ◌≤◌, ◌==◌, ◌&&◌, Bool, true, false, cond, refl, sym, ap, ◌∙◌, subst, List, [], length, get_or, arith, nat_le, eqb-true, eq-eqb, false-eqb, leb-false, Option, Some, None, is_some, IsFalse}
use Rattle.std.proofs.Math.Path.{fun_ext}
use Rattle.std.proofs.lemmas.List.{length-map}
use Rattle.k_types.specs.declared.names.CellPhase.TheVariants.{Idle}
use Rattle.k_types.specs.declared.names.Heap.{Heap}
use Rattle.k_types.specs.declared.names.Heap.TheVariants.{Kernel, Shared, User}
use Rattle.k_types.specs.declared.names.Name.{Name}
use Rattle.k_types.specs.declared.names.Phase.{Phase}
use Rattle.k_types.specs.Agree.{AreMarks, BookValue, CellValue, book_shown_by, shown_by}
use Rattle.k_types.specs.Cells.{Cell, ShownPart, part}
use Rattle.k_types.specs.Names.{among, heap_eq, name_among}
use Rattle.k_types.specs.Numbers.{numbers_below}
use Rattle.k_types.specs.Owners.{is_absorbed, object_bytes, objects_of, owner_of, owner_of_segment, phase_of, shared, user}
use Rattle.k_types.specs.State.{Object, State, has_exit, scan_of}
use Rattle.k_types.specs.Totals.{total}
use Rattle.k_types.specs.Trace.{Trace, process_count, segment_count}
use Rattle.k_types.proofs.Lists.{numbers_length}
use Rattle.k_types.proofs.NameTests.{heap_eq-same, heap_eq-true}
use Rattle.k_types.proofs.Sums.{sum-filter, total_at_most}
use Rattle.k_types.proofs.Tests.{same_test}
use Rattle.k_laws.proofs.OwnerOf.{owner_shared}
use Rattle.k_laws.proofs.Means.{is_own_if, own_is}
use Rattle.k_agree.specs.Agreement.{BookShows, Shows}
use Rattle.k_agree.specs.GivingOnTheBook.{leading_into}
use Rattle.k_agree.proofs.Swept.{among_kept}
use Rattle.k_own.specs.Exits.{into_segment}

-- a cell without an open collection shows what its value shows, however the value has it
pub shows_as : (trace : Trace) (st : State) (c : Cell) (v w : CellValue) → Shows trace st c v → v.collection ≡ Idle → w.collection ≡ Idle → shown_by w ≡ shown_by v → Shows trace st c w
shows_as trace st c v w shows idle still is =
    let none : scan_of st.scans c ≡ None = subst (λ k. AreMarks k (scan_of st.scans c) v) idle shows.marks in
    record { part = is ∙ shows.part; marks = subst (λ k. AreMarks k (scan_of st.scans c) w) (sym still) none }

-- and so does the book
pub book_shows_as : (trace : Trace) (st : State) (v w : BookValue) → BookShows trace st v → book_shown_by w ≡ book_shown_by v → w.homes ≡ v.homes → BookShows trace st w
book_shows_as trace st v w shows is homes = record { part = is ∙ shows.part; homes = homes ∙ shows.homes }

-- a list of no segments shows none, as the empty list does
pub none_shown : (v : CellValue) (list : List (Option ℕ)) → ((k : ℕ) → get_or list k None ≡ None) → shown_by (record v { made = list }) ≡ shown_by (record v { made = [] })
none_shown v list none = ap (λ (made : ℕ → Option ℕ). record (shown_by v) { made = made }) (fun_ext none)

abbrev shared_number : Heap → ℕ
shared_number Kernel = 0
shared_number (User p) = 0
shared_number (Shared s) = s.0

shared_segment_if : (procs seg s : ℕ) (a b c d : Bool) → (seg == 0) ≡ a → nat_le seg procs ≡ b →
    cond a Kernel (cond b (cond c Kernel (user (seg - 1))) (cond d Kernel (shared (seg - 1 - procs)))) ≡ shared s → seg ≡ 1 + procs + s
shared_segment_if procs seg s true b c d z low e = absurd (cc e)
shared_segment_if procs seg s false true true d z low e = absurd (cc e)
shared_segment_if procs seg s false true false d z low e = absurd (cc e)
shared_segment_if procs seg s false false c true z low e = absurd (cc e)
shared_segment_if procs seg s false false c false z low e =
    let ne = false-eqb seg 0 (sym z) in
    let above = leb-false seg procs low in
    let same = ap shared_number e in
    omega (arith, ne, above, same)

shared_segment : (procs : ℕ) (ended : List ℕ) (phases : List Phase) (seg s : ℕ) → owner_of_segment procs ended phases seg ≡ shared s → seg ≡ 1 + procs + s
unfolding owner_of_segment
shared_segment procs ended phases seg s e = shared_segment_if procs seg s (seg == 0) (nat_le seg procs) _ (is_absorbed (phase_of phases (seg - 1 - procs))) refl refl e

pub shared_numbered : (trace : Trace) (st : State) (s : ℕ) → is_absorbed (phase_of st.phases s) ≡ false → (k : ℕ) → heap_eq (owner_of trace st k) (shared s) ≡ (k == 1 + process_count trace + s)
shared_numbered trace st s stands k =
    same_test (heap_eq (owner_of trace st k) (shared s)) (k == 1 + process_count trace + s)
    (λ t. eq-eqb k (1 + process_count trace + s) (shared_segment (process_count trace) st.ended st.phases k s (heap_eq-true (owner_of trace st k) (shared s) t)))
    (λ t. heap_eq-same (owner_of trace st k) (shared s) (ap (owner_of trace st) (eqb-true k (1 + process_count trace + s) t) ∙ owner_shared trace st s stands))

named : ℕ → Name
named k = record { seg = record { 0 = k }; serial = record { 0 = 0 } }

pub user_numbered : (trace : Trace) (st : State) (p : ℕ) → p < process_count trace → IsFalse (among p st.ended) → (k : ℕ) → heap_eq (owner_of trace st k) (user p) ≡ (k == p + 1)
unfolding named
user_numbered trace st p known lives k =
    same_test (heap_eq (owner_of trace st k) (user p)) (k == p + 1)
    (λ t. is_own_if trace st p (named k) (heap_eq-true (owner_of trace st k) (user p) t))
    (λ t. heap_eq-same (owner_of trace st k) (user p) (own_is trace st p (named k) known lives t))

-- the kernel's exit items into the heap are those into its segment
pub led_by_segment : (own : ℕ → Heap) (g : Heap) (seg : ℕ) (v : CellValue) → ((k : ℕ) → heap_eq (own k) g ≡ (k == seg)) → (n : Name) → name_among n (leading_into own g v) ≡ name_among n (into_segment seg v.exits)
led_by_segment own g seg v numbered n =
    among_kept (λ m. heap_eq (own m.seg.0) g) v.exits n
    ∙ ap (λ t. name_among n v.exits && t) (numbered n.seg.0)
    ∙ sym (among_kept (λ m. m.seg.0 == seg) v.exits n)

-- a cell shows for each segment whether its heap owns it
module _ (trace : Trace) (st : State) (c : Cell) (v : CellValue) (shows : Shows trace st c v) where
  made_shown : (k : ℕ) → get_or v.made k None ≡ cond (heap_eq (owner_of trace st k) c) (Some (get_or st.made k 0)) None
  unfolding part
  made_shown k = ap (λ (s : ShownPart). s.made k) shows.part

  pub owned_made : (k : ℕ) → heap_eq (owner_of trace st k) c ≡ true → is_some (get_or v.made k None) ≡ true
  owned_made k t = ap is_some (made_shown k ∙ ap (λ b. cond b (Some (get_or st.made k 0)) None) t)

  pub other_made : (k : ℕ) → heap_eq (owner_of trace st k) c ≡ false → get_or v.made k None ≡ None
  other_made k t = made_shown k ∙ ap (λ b. cond b (Some (get_or st.made k 0)) None) t

  pub exits_shown : (n : Name) → name_among n v.exits ≡ has_exit st.exits c n
  unfolding part
  exits_shown n = ap (λ (s : ShownPart). s.exits n) shows.part

  pub objects_shown : v.objects ≡ objects_of (owner_of trace st) c st.objects
  unfolding part
  objects_shown = ap (λ (s : ShownPart). s.objects) shows.part

  pub cell_bytes : total object_bytes v.objects ≤ total object_bytes st.objects
  cell_bytes =
      let kept = ap (total object_bytes) objects_shown ∙ sum-filter (λ (o : Object). heap_eq (owner_of trace st o.name.seg.0) c) object_bytes st.objects in
      let most = total_at_most (λ (o : Object). cond (heap_eq (owner_of trace st o.name.seg.0) c) (object_bytes o) 0) object_bytes (λ o. at_most (heap_eq (owner_of trace st o.name.seg.0) c) (object_bytes o)) st.objects in
      omega (arith, kept, most)
    where
      at_most : (b : Bool) (x : ℕ) → cond b x 0 ≤ x
      at_most true x = omega arith
      at_most false x = omega arith

-- the book has a home for each segment of the trace, which is its owner
module _ (trace : Trace) (st : State) (b : BookValue) (shows : BookShows trace st b) where
  pub home_count : length b.homes ≡ segment_count trace
  home_count = ap length shows.homes ∙ length-map (numbers_below (segment_count trace)) (owner_of trace st) ∙ numbers_length 0 (segment_count trace)
