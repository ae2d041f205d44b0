-- Every state can be shown.
use Rattle.std.proofs.Common.{◌≡◌, ℕ, zero, suc, ◌+◌, ◌-◌, ◌≤◌, ◌||◌, ◌&&◌, Bool, true, false, cond, refl, sym, ap, ap₂, ◌∙◌, List, [], ◌∷◌, ◌++◌, map, filter, length, get_or, arith, nat_le, Option, Some, None, unwrap_or, ne_eqb, leb-true, leb-false}
use Rattle.std.proofs.Math.Path.{fun_ext}
use Rattle.std.proofs.lemmas.Bool.{lt-leb}
use Rattle.k_laws.specs.k_types.declared.names.Heap.{Heap}
use Rattle.k_laws.specs.k_types.declared.names.Heap.TheVariants.{Kernel, User, Shared}
use Rattle.k_laws.specs.k_types.declared.names.Name.{Name}
use Rattle.k_laws.specs.k_types.declared.names.Phase.TheVariants.{Unmade}
use Rattle.k_laws.specs.k_types.declared.event.Event.{Event}
use Rattle.k_laws.specs.k_types.Agree.{AreMarks, CellValue}
use Rattle.k_laws.specs.k_types.Counted.{Counted, counted}
use Rattle.k_laws.specs.k_types.Cells.{Cell, book_part, made_of, part, pins_of, shown}
use Rattle.k_laws.specs.k_types.Names.{heap_eq, leads_to, name_among, name_eq}
use Rattle.k_laws.specs.k_types.Numbers.{numbers_below}
use Rattle.k_laws.specs.k_types.Owners.{is_absorbed, owner_of, owner_of_segment, shared, user}
use Rattle.k_laws.specs.k_types.State.{ExitItem, State, has_exit, scan_of}
use Rattle.k_laws.specs.k_types.Steps.{state_after}
use Rattle.k_laws.specs.k_types.Totals.{total}
use Rattle.k_laws.specs.k_types.Trace.{IsHeap, Trace, process_count, segment_count}
use Rattle.k_tie.proofs.NameTests.{name_eq-true}
use Rattle.k_laws.proofs.Sizes.{history_sized}
use Rattle.k_tie.proofs.Sums.{total_append}
use Rattle.k_agree.specs.Agreement.{BookShows, Shows}
use Rattle.k_agree.specs.Showing.{all_pins, book_of, cell_of, once, phase_of_scan, pin_of, row_pins, targets_of}
use Rattle.k_agree.proofs.Openings.{past_numbers}
use Rattle.k_tie.proofs.Lists.{at_number}

-- past the end of a list there is what stands for an element that is missing
get_past : {A : Type 0} (xs : List A) (k : ℕ) (d : A) → length xs ≤ k → get_or xs k d ≡ d
get_past [] k d h = refl
get_past (x ∷ xs) zero d h = absurd (omega arith)
get_past (x ∷ xs) (suc k) d h = get_past xs k d (omega (arith, h))

shared_past : (trace : Trace) (c : Cell) (s : ℕ) → IsHeap trace c → trace.shared_heaps ≤ s → heap_eq (shared s) c ≡ false
shared_past trace Kernel s there h = refl
shared_past trace (User p) s there h = refl
shared_past trace (Shared t) s there h = ne_eqb s t.0 (λ e. absurd (omega (arith, e, there, h)))

-- what is no segment of the trace belongs to no heap of the trace
nobody : (trace : Trace) (st : State) (c : Cell) (seg : ℕ) → length st.phases ≡ trace.shared_heaps → IsHeap trace c → segment_count trace ≤ seg → heap_eq (owner_of trace st seg) c ≡ false
unfolding owner_of_segment
nobody trace st c seg sized there past =
    rw (ne_eqb seg 0 (λ e. absurd (omega (arith, e, past))), lt-leb seg (process_count trace) (omega (arith, past)))
    (ap (λ phase. heap_eq (cond (is_absorbed phase) Kernel (shared (seg - 1 - process_count trace))) c) (get_past st.phases (seg - 1 - process_count trace) Unmade (omega (arith, sized, past)))
    ∙ shared_past trace c (seg - 1 - process_count trace) there (omega (arith, past)))

made_all : (trace : Trace) (st : State) (c : Cell) → length st.phases ≡ trace.shared_heaps → IsHeap trace c → (seg : ℕ) →
    get_or (map (made_of (owner_of trace st) st.made c) (numbers_below (segment_count trace))) seg None ≡ made_of (owner_of trace st) st.made c seg
made_all trace st c sized there seg = go (nat_le (segment_count trace) seg) refl
  where
    go : (b : Bool) → nat_le (segment_count trace) seg ≡ b → get_or (map (made_of (owner_of trace st) st.made c) (numbers_below (segment_count trace))) seg None ≡ made_of (owner_of trace st) st.made c seg
    go true e =
        let past = leb-true (segment_count trace) seg e in
        past_numbers (made_of (owner_of trace st) st.made c) 0 (segment_count trace) seg None past
        ∙ ap (λ b. cond b (Some (get_or st.made seg 0)) None) (sym (nobody trace st c seg sized there past))
    go false e =
        let low = leb-false (segment_count trace) seg e in
        at_number (made_of (owner_of trace st) st.made c) 0 (segment_count trace) seg None (omega (arith, low))
        ∙ ap (made_of (owner_of trace st) st.made c) (omega arith)

targets_listed : (h : Heap) (exits : List ExitItem) (n : Name) → name_among n (targets_of h exits) ≡ has_exit exits h n
targets_listed h [] n = refl
targets_listed h (e ∷ exits) n =
    elim (heap_eq e.heap h) as (λ b. name_among n (map (λ (e : ExitItem). e.target) (cond b (e ∷ filter (λ (e : ExitItem). heap_eq e.heap h) exits) (filter (λ (e : ExitItem). heap_eq e.heap h) exits))) ≡ ((b && name_eq e.target n) || has_exit exits h n)) [
      | true ↦ ap (λ b. name_eq e.target n || b) (targets_listed h exits n)
      | false ↦ targets_listed h exits n
    ]

marks_begun : (scan : Option (List Name)) (value : CellValue) → value.black ≡ [] → value.black_exits ≡ [] → value.gray ≡ unwrap_or scan [] → AreMarks (phase_of_scan scan) scan value
marks_begun None value black black_exits gray = refl
marks_begun (Some roots) value black black_exits gray = (roots, refl, λ n. ap (name_among n) gray, black, black_exits)

pub cell_shows : (trace : Trace) (history : List Event) (c : Cell) → IsHeap trace c → Shows trace (state_after trace history) c (cell_of trace (state_after trace history) c)
unfolding part
cell_shows trace history c there =
    let st = state_after trace history in
    record {
      part = ap₂ (λ made exits. record (shown (part trace st c)) { made = made; exits = exits })
          (fun_ext (made_all trace st c (history_sized trace history).phases there)) (fun_ext (targets_listed c st.exits));
      marks = marks_begun (scan_of st.scans c) (cell_of trace st c) refl refl refl;
    }

entries_counted : (exits : List ExitItem) (n : Name) → counted (map (λ e. once e.target) exits) n ≡ total (λ (e : ExitItem). cond (name_eq e.target n) 1 0) exits
entries_counted [] n = refl
entries_counted (e ∷ exits) n = ap (λ k. cond (name_eq e.target n) 1 0 + k) (entries_counted exits n)

counts_append : (xs ys : List Counted) (n : Name) → counted (xs ++ ys) n ≡ counted xs n + counted ys n
counts_append xs ys n = total_append (λ item. cond (name_eq item.object n) item.count 0) xs ys

-- a register's pin is counted at what it holds
pin_counted : (own : ℕ → Heap) (p : ℕ) (r : Option Name) (n : Name) → counted (pin_of own p r) n ≡ cond (heap_eq (user p) (own n.seg.0)) 0 (cond (leads_to r n) 1 0)
pin_counted own p None n = none (heap_eq (user p) (own n.seg.0))
  where
    none : (b : Bool) → ◌≡◌ {A = ℕ} 0 (cond b 0 0)
    none true = refl
    none false = refl
pin_counted own p (Some m) n = go (name_eq m n) refl (heap_eq (user p) (own m.seg.0))
  where
    none : (b : Bool) → ◌≡◌ {A = ℕ} 0 (cond b 0 0)
    none true = refl
    none false = refl

    other : (b c : Bool) → name_eq m n ≡ false → counted (cond b [] (once m ∷ [])) n ≡ cond c 0 (cond (name_eq m n) 1 0)
    other true c e = none c ∙ ap (λ x. cond c 0 (cond x 1 0)) (sym e)
    other false c e = ap (λ x. cond x 1 0 + 0) e ∙ none c ∙ ap (λ x. cond c 0 (cond x 1 0)) (sym e)

    same : (b : Bool) → name_eq m n ≡ true → counted (cond b [] (once m ∷ [])) n ≡ cond b 0 (cond (name_eq m n) 1 0)
    same true e = refl
    same false e = omega arith

    go : (t : Bool) → name_eq m n ≡ t → (b : Bool) → counted (cond (heap_eq (user p) (own m.seg.0)) [] (once m ∷ [])) n ≡ cond (heap_eq (user p) (own n.seg.0)) 0 (cond (name_eq m n) 1 0)
    go true e b =
        same (heap_eq (user p) (own m.seg.0)) e
        ∙ ap (λ (k : Name). cond (heap_eq (user p) (own k.seg.0)) 0 (cond (name_eq m n) 1 0)) (name_eq-true m n e)
    go false e b = other (heap_eq (user p) (own m.seg.0)) (heap_eq (user p) (own n.seg.0)) e

sum_cond : (b : Bool) (x y : ℕ) → ◌≡◌ {A = ℕ} (cond b 0 x + cond b 0 y) (cond b 0 (x + y))
sum_cond true x y = omega arith
sum_cond false x y = refl

row_counted : (own : ℕ → Heap) (p : ℕ) (registers : List (Option Name)) (n : Name) → counted (row_pins own p registers) n ≡ cond (heap_eq (user p) (own n.seg.0)) 0 (pins_of registers n)
row_counted own p [] n = none (heap_eq (user p) (own n.seg.0))
  where
    none : (b : Bool) → ◌≡◌ {A = ℕ} 0 (cond b 0 0)
    none true = refl
    none false = refl
row_counted own p (r ∷ registers) n =
    counts_append (pin_of own p r) (row_pins own p registers) n
    ∙ ap₂ (λ x y. x + y) (pin_counted own p r n) (row_counted own p registers n)
    ∙ sum_cond (heap_eq (user p) (own n.seg.0)) (cond (leads_to r n) 1 0) (pins_of registers n)

all_counted : (own : ℕ → Heap) (rows : List (List (Option Name))) (processes : List ℕ) (n : Name) →
    counted (all_pins own rows processes) n ≡ total (λ p. cond (heap_eq (user p) (own n.seg.0)) 0 (pins_of (get_or rows p []) n)) processes
all_counted own rows [] n = refl
all_counted own rows (p ∷ processes) n =
    counts_append (row_pins own p (get_or rows p [])) (all_pins own rows processes) n
    ∙ ap₂ (λ x y. x + y) (row_counted own p (get_or rows p []) n) (all_counted own rows processes n)

pub book_shows : (trace : Trace) (st : State) → BookShows trace st (book_of trace st)
unfolding book_part
book_shows trace st = record {
  part = ap₂ (λ entries pins. record (book_part trace st) { entries = entries; pins = pins })
      (fun_ext (entries_counted st.exits)) (fun_ext (all_counted (owner_of trace st) st.registers (numbers_below (process_count trace))));
  homes = refl;
}
