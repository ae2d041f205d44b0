-- A collection that begins with its roots gray.
use Rattle.std.proofs.Common.{◌≡◌, ◌||◌, cond, refl, sym, ap, ◌∙◌, subst, List, ◌∷◌, map, filter, find, Option, Some, option_map}
use Rattle.std.proofs.Math.Path.{fun_ext}
use Rattle.k_laws.specs.k_types.declared.event.Event.{Event}
use Rattle.k_laws.specs.k_types.declared.event.Event.TheVariants.{Done, Ended, Absorbed, Closing}
use Rattle.k_laws.specs.k_types.declared.names.Heap.{Heap}
use Rattle.k_laws.specs.k_types.declared.names.Heap.TheVariants.{Kernel, User, Shared}
use Rattle.k_laws.specs.k_types.declared.names.Name.{Name}
use Rattle.k_laws.specs.k_types.declared.names.CellPhase.TheVariants.{Begun}
use Rattle.k_laws.specs.k_types.declared.op.Op.TheVariants.{Collect, KCollect}
use Rattle.k_laws.specs.k_types.Agree.{BookValue, CellValue, AreMarks}
use Rattle.k_laws.specs.k_types.Cells.{BookPart, CellPart, ShownPart, part, book_part}
use Rattle.k_laws.specs.k_types.Effects.{step, after_operation, effect, after_closing}
use Rattle.k_laws.specs.k_types.Names.{heap_eq, name_among}
use Rattle.k_laws.specs.k_types.Reach.{roots_of}
use Rattle.k_laws.specs.k_types.Replies.{faults, first_fault}
use Rattle.k_laws.specs.k_types.Sound.{IsSound}
use Rattle.k_laws.specs.k_types.State.{State, Object, Scan, scan_of}
use Rattle.k_laws.specs.k_types.Trace.{Trace}
use Rattle.k_laws.specs.k_types.Updates.{open_scan, count_done, close}
use Rattle.k_tie.proofs.NameTests.{heap_eq_refl}
use Rattle.k_laws.specs.Roots.{roots_in, held_by, entered_in}
use Rattle.k_laws.proofs.RootsTold.{roots_told}
use Rattle.k_agree.specs.Agreement.{Shows, BookShows}
use Rattle.k_agree.specs.Marking.{heap_begun_by, idle_part, roots_seen, begun}

newest_scan : (h : Heap) (roots : List Name) (scans : List Scan) → scan_of (record { heap = h; roots = roots } ∷ scans) h ≡ Some roots
newest_scan h roots scans =
    ap (λ b. option_map (λ (scan : Scan). scan.roots) (cond b (Some (record { heap = h; roots = roots })) (find (λ scan. heap_eq scan.heap h) scans))) (heap_eq_refl h)

opened_by : (trace : Trace) (st : State) (k h : Heap) → ◌≡◌ {A = Option Heap} (Some k) (Some h) →
    scan_of (record { heap = k; roots = roots_of trace st k } ∷ st.scans) h ≡ Some (roots_of trace st h)
opened_by trace st k h e =
    let same : k ≡ h = cc e in
    subst (λ g. scan_of (record { heap = k; roots = roots_of trace st k } ∷ st.scans) g ≡ Some (roots_of trace st g)) same (newest_scan k (roots_of trace st k) st.scans)

-- the event opens a scan with the roots
opened : (trace : Trace) (st : State) (event : Event) (h : Heap) → heap_begun_by event ≡ Some h → scan_of (step trace st event).scans h ≡ Some (roots_of trace st h)
unfolding step after_operation first_fault faults effect count_done open_scan after_closing close
opened trace st Closing h e = opened_by trace st Kernel h e
opened trace st (Ended k a b c d) h e = absurd (cc e)
opened trace st (Absorbed s) h e = absurd (cc e)
opened trace st (Done pid Collect said) h e = opened_by trace st (User pid) h e
opened trace st (Done pid KCollect said) h e = opened_by trace st Kernel h e
opened trace st (Done pid _ said) h e = absurd (cc e)

held_same : (h : Heap) (c d : CellPart) → c.process ≡ d.process → (n : Name) → held_by h c n ≡ held_by h d n
held_same Kernel c d same n = refl
held_same (User p) c d same n = ap (λ process. held_by (User p) (record c { process = process }) n) same
held_same (Shared s) c d same n = refl

-- the roots go by the objects and the process of the cell, and by the book
roots_same : (h : Heap) (b : BookPart) (c d : CellPart) → c.objects ≡ d.objects → c.process ≡ d.process → roots_in h b c ≡ roots_in h b d
roots_same h b c d objects process =
    ap (λ os. map (λ (o : Object). o.name) (filter (λ o. entered_in b o.name || held_by h c o.name) os)) objects
    ∙ ap (λ p. map (λ (o : Object). o.name) (filter p d.objects)) (fun_ext (λ (o : Object). ap (λ t. entered_in b o.name || t) (held_same h c d process o.name)))

pub begun_gray : (trace : Trace) (st : State) (event : Event) (h : Heap) (book : BookValue) (before after : CellValue) (gray : List Name) → IsSound trace st → heap_begun_by event ≡ Some h →
    BookShows trace st book → Shows trace st h before → ((n : Name) → name_among n gray ≡ name_among n (roots_seen h book before)) →
    AreMarks Begun (scan_of (step trace st event).scans h) (begun gray after)
begun_gray trace st event h book before after gray sound begins seen shows same =
    let told : roots_seen h book before ≡ roots_of trace st h =
    ap (λ b. roots_in h b (idle_part before)) seen.part
    ∙ roots_same h (book_part trace st) (idle_part before) (part trace st h) (ap (λ (s : ShownPart). s.objects) shows.part) (ap (λ (s : ShownPart). s.process) shows.part)
    ∙ sym (roots_told trace st h sound) in
    (roots_of trace st h, opened trace st event h begins, λ n. same n ∙ ap (name_among n) told, refl, refl)
