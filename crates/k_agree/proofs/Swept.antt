-- A marked cell, swept, shows the state after the end of its collection.
use Rattle.std.proofs.Common.{◌≡◌, ℕ, ◌+◌, ◌||◌, ◌&&◌, not, Bool, true, false, cond, refl, sym, ap, ap₂, ◌∙◌, subst, List, [], ◌∷◌, length, filter, count_by, arith, None, is_some, unwrap_or}
use Rattle.std.specs.List.{list_any}
use Rattle.std.proofs.Math.Path.{fun_ext}
use Rattle.std.proofs.lemmas.Bool.{or_left, or_right, not_from_false}
use Rattle.k_laws.specs.k_types.declared.names.CellPhase.TheVariants.{Marked}
use Rattle.k_laws.specs.k_types.declared.names.Name.{Name}
use Rattle.k_laws.specs.k_types.Agree.{CellValue, AreMarks, shown_by}
use Rattle.k_laws.specs.k_types.Cells.{Cell, CellPart, ShownPart, part, shown}
use Rattle.k_laws.specs.k_types.Effects.{after_ended, survives, exit_stays, open_roots}
use Rattle.k_laws.specs.k_types.Names.{heap_eq, name_eq, name_among}
use Rattle.k_laws.specs.k_types.Owners.{owner_of, objects_of, object_bytes}
use Rattle.k_laws.specs.k_types.Reach.{reach_among}
use Rattle.k_laws.specs.k_types.Sound.{IsSound}
use Rattle.k_laws.specs.k_types.State.{State, Object, ExitItem, has, has_exit, refers, scan_of}
use Rattle.k_laws.specs.k_types.Totals.{total}
use Rattle.k_laws.specs.k_types.Trace.{Trace}
use Rattle.k_tie.proofs.NameTests.{name_eq-true, name_eq_refl, heap_eq_sym}
use Rattle.k_tie.proofs.Objects.{has-kept}
use Rattle.k_tie.proofs.Sums.{bit, sum_same, not_or_bit, count_is_total}
use Rattle.k_laws.proofs.Means.{reach_is}
use Rattle.k_laws.specs.k_types.Distinct.{AreDistinctNames}
use Rattle.k_laws.proofs.Distinct.{targets_sum}
use Rattle.k_laws.specs.CellChanges.{collected, reached_in}
use Rattle.k_laws.proofs.Collected.{ended_on_cell}
use Rattle.k_agree.specs.Agreement.{Shows}
use Rattle.k_agree.specs.Ending.{swept, dropped_exits, ShowsItsEnd}
use Rattle.k_tie.proofs.Lists.{both_kept}
use Rattle.k_tie.proofs.Tests.{not_or}

and_false : (b : Bool) → (b && false) ≡ false
and_false true = refl
and_false false = refl

kept_step : (p : Name → Bool) (x : Name) (xs : List Name) (n : Name) → name_among n (filter p xs) ≡ (name_among n xs && p n) → (b c : Bool) → p x ≡ b → name_eq x n ≡ c →
    name_among n (cond b (x ∷ filter p xs) (filter p xs)) ≡ ((c || name_among n xs) && p n)
kept_step p x xs n ih true true e f = ap (λ b. b || name_among n (filter p xs)) f ∙ sym (ap p (sym (name_eq-true x n f)) ∙ e)
kept_step p x xs n ih true false e f = ap (λ b. b || name_among n (filter p xs)) f ∙ ih
kept_step p x xs n ih false true e f =
    let none : p n ≡ false = ap p (sym (name_eq-true x n f)) ∙ e in
    ih ∙ ap (λ b. name_among n xs && b) none ∙ and_false (name_among n xs) ∙ sym none
kept_step p x xs n ih false false e f = ih

-- a name is among those kept where it was among all and passes the test
pub among_kept : (p : Name → Bool) (xs : List Name) (n : Name) → name_among n (filter p xs) ≡ (name_among n xs && p n)
among_kept p [] n = refl
among_kept p (x ∷ xs) n = kept_step p x xs n (among_kept p xs n) (p x) (name_eq x n) refl refl

-- sums that agree on the names of the list
sum_members : (f g : Name → ℕ) (xs : List Name) → ((n : Name) → name_among n xs ≡ true → f n ≡ g n) → total f xs ≡ total g xs
sum_members f g [] same = refl
sum_members f g (x ∷ xs) same =
    ap₂ (λ a b. a + b) (same x (or_left (name_eq x x) (name_among x xs) (name_eq_refl x)))
    (sum_members f g xs (λ n t. same n (or_right (name_eq x n) (name_among n xs) t)))

length_counts : {A : Type 0} (q : A → Bool) (xs : List A) → length (filter q xs) ≡ total (λ x. bit (q x)) xs
length_counts q [] = refl
length_counts q (x ∷ xs) = elim (q x) as (λ b. length (cond b (x ∷ filter q xs) (filter q xs)) ≡ bit b + total (λ x. bit (q x)) xs) [
  | true ↦ omega (arith, length_counts q xs)
  | false ↦ omega (arith, length_counts q xs)
]

when_there : (e a b : Bool) → (e ≡ true → a ≡ true) → (e && (a && b)) ≡ (e && b)
when_there true a b there = ap (λ x. x && b) (there refl)
when_there false a b there = refl

module _ (trace : Trace) (st : State) (cell : Cell) (value : CellValue) (sound : IsSound trace st) (shows : Shows trace st cell value) (phase : value.collection ≡ Marked)
    (distinct : AreDistinctNames value.exits) where
  pub marks : AreMarks Marked (scan_of st.scans cell) value
  marks = subst (λ k. AreMarks k (scan_of st.scans cell) value) phase shows.marks

  -- what the collection reached
  abbrev pub reached : List Object
  reached = reach_among value.objects marks.0

  pub objects_are : value.objects ≡ objects_of (owner_of trace st) cell st.objects
  unfolding part
  objects_are = ap (λ (s : ShownPart). s.objects) shows.part

  pub exits_are : (n : Name) → name_among n value.exits ≡ has_exit st.exits cell n
  unfolding part
  exits_are n = ap (λ (s : ShownPart). s.exits n) shows.part

  pub reached_here : reached_in (part trace st cell) ≡ reached
  unfolding part
  reached_here = ap₂ (λ os scan. reach_among os (unwrap_or scan [])) (sym objects_are) marks.1

  pub reached_state : reach_among (objects_of (owner_of trace st) cell st.objects) (open_roots st cell) ≡ reached
  reached_state = ap₂ (λ os scan. reach_among os (unwrap_or scan [])) (sym objects_are) marks.1

  -- the target of an exit item is no object of the cell
  leaves : (n : Name) → has_exit st.exits cell n ≡ true → not (has value.objects n) ≡ true
  leaves n there =
      not_from_false _
      (ap (λ os. has os n) objects_are
      ∙ has-kept (λ m. heap_eq (owner_of trace st m.seg.0) cell) st.objects n
      ∙ ap (λ b. has st.objects n && b) (heap_eq_sym (owner_of trace st n.seg.0) cell ∙ sound.exits.leave cell n there)
      ∙ and_false (has st.objects n))

  pub black_exit : (n : Name) → (has_exit st.exits cell n && name_among n value.black_exits) ≡ (has_exit st.exits cell n && list_any (λ x. refers x n) reached)
  black_exit n =
      ap (λ b. has_exit st.exits cell n && b) (marks.4 n)
      ∙ when_there (has_exit st.exits cell n) (not (has value.objects n)) (list_any (λ x. refers x n) reached) (leaves n)

  pub kept_objects : filter (λ o. name_among o.name value.black) value.objects ≡ (collected (part trace st cell)).objects
  unfolding part
  kept_objects =
      ap₂ (λ p os. filter p os) (fun_ext (λ (o : Object). marks.3 o.name ∙ ap (λ set. has set o.name) (sym reached_here))) objects_are

  pub kept_exits : (n : Name) → name_among n (filter (λ m. name_among m value.black_exits) value.exits) ≡ (collected (part trace st cell)).exits n
  unfolding part
  kept_exits n =
      among_kept (λ m. name_among m value.black_exits) value.exits n
      ∙ ap (λ b. b && name_among n value.black_exits) (exits_are n)
      ∙ black_exit n
      ∙ ap (λ set. has_exit st.exits cell n && list_any (λ x. refers x n) set) (sym reached_here)

  swept_part : shown_by (swept value) ≡ shown (part trace (after_ended trace cell st) cell)
  swept_part =
      ap (λ (s : ShownPart). record s { objects = (swept value).objects; exits = λ n. name_among n (swept value).exits }) shows.part
      ∙ ap₂ (λ os ex. record (shown (part trace st cell)) { objects = os; exits = ex }) kept_objects (fun_ext kept_exits)
      ∙ ap shown (sym (ended_on_cell trace st cell))

  closed : scan_of (after_ended trace cell st).scans cell ≡ None
  unfolding part
  closed = ap (λ (c : CellPart). c.scan) (ended_on_cell trace st cell)

  gone_objects : filter (λ o. not (name_among o.name value.black)) value.objects ≡ filter (λ o. not (survives trace st cell o.name)) st.objects
  unfolding survives
  gone_objects =
      ap₂ (λ p os. filter p os) (fun_ext (λ (o : Object). ap not (marks.3 o.name))) objects_are
      ∙ sym (both_kept (λ o. heap_eq (owner_of trace st o.name.seg.0) cell) (λ o. not (has reached o.name)) (λ o. not (survives trace st cell o.name))
      (λ o. ap (λ set. not (not (heap_eq (owner_of trace st o.name.seg.0) cell) || has set o.name)) (reach_is trace st cell (open_roots st cell) ∙ reached_state)
      ∙ not_or (heap_eq (owner_of trace st o.name.seg.0) cell) (has reached o.name)) st.objects)

  missed_bit : Name → ℕ
  missed_bit n = bit (not (list_any (λ x. refers x n) reached))

  missed_here : (n : Name) → name_among n value.exits ≡ true → bit (not (name_among n value.black_exits)) ≡ missed_bit n
  unfolding missed_bit
  missed_here n there =
      let in_state : has_exit st.exits cell n ≡ true = sym (exits_are n) ∙ there in
      ap (λ b. bit (not b))
      (ap (λ b. b && name_among n value.black_exits) (sym in_state) ∙ black_exit n ∙ ap (λ b. b && list_any (λ x. refers x n) reached) in_state)

  gone_exits : dropped_exits value ≡ count_by (λ e. not (exit_stays trace st cell e)) st.exits
  unfolding exit_stays missed_bit
  gone_exits =
      length_counts (λ n. not (name_among n value.black_exits)) value.exits
      ∙ sum_members (λ n. bit (not (name_among n value.black_exits))) missed_bit value.exits missed_here
      ∙ targets_sum missed_bit cell st.exits value.exits sound.shape.distinct_exits distinct exits_are
      ∙ sum_same (λ (e : ExitItem). cond (heap_eq e.heap cell) (missed_bit e.target) 0) (λ e. bit (not (exit_stays trace st cell e)))
      (λ e. sym (ap (λ set. bit (not (not (heap_eq e.heap cell) || list_any (λ x. refers x e.target) set))) (reach_is trace st cell (open_roots st cell) ∙ reached_state)
      ∙ not_or_bit (heap_eq e.heap cell) (list_any (λ x. refers x e.target) reached))) st.exits
      ∙ sym (count_is_total (λ e. not (exit_stays trace st cell e)) st.exits)

  pub shows_end : ShowsItsEnd trace st cell value
  shows_end = record {
    scanned = ap is_some marks.1;
    shows = record { part = swept_part; marks = closed };
    objects = ap length gone_objects;
    bytes = ap (total object_bytes) gone_objects;
    exits = gone_exits;
  }
