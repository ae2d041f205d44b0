-- Operations, absorptions and the closing are possible alike in two states where the parts are the same to them.
use Rattle.std.proofs.Common.{◌≡◌, ℕ, ◌&&◌, ◌||◌, not, refl, sym, ap, ap₂, ◌∙◌, List, [], ◌∷◌, is_some, IsTrue}
use Rattle.std.specs.List.{list_any, list_all}
use Rattle.std.proofs.Math.Path.{fun_ext}
use Rattle.std.proofs.lemmas.Bool.{or_left, or_right}
use Rattle.k_types.specs.declared.names.Pid.{Pid}
use Rattle.k_types.specs.declared.names.SharedId.{SharedId}
use Rattle.k_types.specs.declared.names.Heap.{Heap}
use Rattle.k_types.specs.declared.names.Heap.TheVariants.{Kernel}
use Rattle.k_types.specs.declared.names.Phase.{Phase}
use Rattle.k_types.specs.declared.op.Op.{Op}
use Rattle.k_types.specs.declared.event.Reply.{Reply}
use Rattle.k_types.specs.declared.event.Event.TheVariants.{Done, Absorbed, Closing}
use Rattle.k_types.specs.Names.{heap_eq, among}
use Rattle.k_types.specs.Numbers.{numbers_below}
use Rattle.k_types.specs.Trace.{Trace, process_count}
use Rattle.k_types.specs.TraceRules.{AreLimits}
use Rattle.k_types.specs.State.{State, scan_of, is_scanned}
use Rattle.k_types.specs.Owners.{phase_of}
use Rattle.k_types.specs.Steps.{IsPossible, is_live, is_orphan, no_orphan, waits_for_orphans}
use Rattle.k_types.specs.Cells.{CellPart, part, book_part, cells_touched}
use Rattle.k_laws.specs.Same.{SameToEvent}
use Rattle.k_laws.proofs.SameRead.{shares_same, closed_same}
use Rattle.k_laws.proofs.SameReplies.{touched_same, done_reply_same}
use Rattle.k_types.proofs.NameTests.{heap_eq_refl}
use Rattle.k_types.proofs.Shares.{sharers_same}
use Rattle.k_laws.proofs.PartsTell.{phases_same, ended_same}

module _ (trace : Trace) (st su : State) where
  pub scan_same : (c : Heap) → part trace st c ≡ part trace su c → scan_of st.scans c ≡ scan_of su.scans c
  unfolding part
  scan_same c same = ap (λ (q : CellPart). q.scan) same

  pub scanned_same : (c : Heap) → part trace st c ≡ part trace su c → is_scanned st.scans c ≡ is_scanned su.scans c
  scanned_same c same = ap is_some (scan_same c same)

  idle_same : (cells : List Heap) → ((c : Heap) → IsTrue (list_any (λ k. heap_eq k c) cells) → part trace st c ≡ part trace su c) →
      list_all (λ c. not (is_scanned st.scans c)) cells ≡ list_all (λ c. not (is_scanned su.scans c)) cells
  idle_same [] same = refl
  idle_same (c ∷ cells) same =
      ap₂ (λ a b. not a && b) (scanned_same c (same c (or_left _ _ (heap_eq_refl c)))) (idle_same cells (λ d t. same d (or_right (heap_eq c d) _ t)))

  module _ (book : book_part trace st ≡ book_part trace su) where
    orphan_same : (s : ℕ) → is_orphan st s ≡ is_orphan su s
    orphan_same s =
        ap₂ (λ (phases : List Phase) b. is_live (phase_of phases s) && not b) (phases_same trace st su book) (sharers_same st.shares su.shares (shares_same trace st su book) s)

    no_orphan_same : no_orphan trace st ≡ no_orphan trace su
    no_orphan_same = ap (λ f. list_all f (numbers_below trace.shared_heaps)) (fun_ext (λ s. ap not (orphan_same s)))

    all_ended_same : list_all (λ p. among p st.ended) (numbers_below (process_count trace)) ≡ list_all (λ p. among p su.ended) (numbers_below (process_count trace))
    all_ended_same = ap (λ f. list_all f (numbers_below (process_count trace))) (fun_ext (ended_same trace st su book))

  pub done_possible : (pid : Pid) (op : Op) (said : Reply) → AreLimits trace → SameToEvent trace st su (Done pid op said) → IsPossible trace st (Done pid op said) → IsPossible trace su (Done pid op said)
  done_possible pid op said limits same may =
      record {
        known = may.known;
        lives = sym (ended_same trace st su same.book pid.0) ∙ may.lives;
        in_range = may.in_range;
        idle = sym (idle_same (cells_touched trace su (Done pid op said)) (λ c t. same.cells c (ap (list_any (λ k. heap_eq k c)) (touched_same trace st su (Done pid op said) same) ∙ t)))
            ∙ ap (list_all (λ c. not (is_scanned st.scans c))) (sym (touched_same trace st su (Done pid op said) same)) ∙ may.idle;
        orphans = ap (λ b. not (waits_for_orphans op) || b) (sym (no_orphan_same same.book)) ∙ may.orphans;
        replied = may.replied ∙ done_reply_same trace st su limits pid op said may.known may.lives may.in_range same;
      }

  pub absorbed_possible : (s : SharedId) → SameToEvent trace st su (Absorbed s) → IsPossible trace st (Absorbed s) → IsPossible trace su (Absorbed s)
  unfolding cells_touched
  absorbed_possible s same may =
      record {
        known = may.known;
        orphan = sym (orphan_same same.book s.0) ∙ may.orphan;
        idle = sym (scanned_same Kernel (same.cells Kernel refl)) ∙ may.idle;
      }

  pub closing_possible : SameToEvent trace st su Closing → IsPossible trace st Closing → IsPossible trace su Closing
  unfolding cells_touched
  closing_possible same may =
      record {
        all_ended = sym (all_ended_same same.book) ∙ may.all_ended;
        orphans = sym (no_orphan_same same.book) ∙ may.orphans;
        idle = sym (scanned_same Kernel (same.cells Kernel refl)) ∙ may.idle;
        first = sym (closed_same trace st su same.book) ∙ may.first;
      }
