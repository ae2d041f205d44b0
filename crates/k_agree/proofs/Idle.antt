-- What an idle cell shows, and the owners that the book shows.
use Rattle.std.proofs.Common.{◌≡◌, ◌==◌, ◌-◌, ℕ, sym, ap, ap₂, subst, ◌∙◌, map, cond, List, Option, None, is_some, nat_le, not, Bool, true}
use Rattle.std.proofs.Math.Path.{fun_ext}
use Rattle.k_types.specs.declared.names.Heap.{Heap}
use Rattle.k_types.specs.declared.names.Heap.TheVariants.{Kernel}
use Rattle.k_types.specs.declared.names.Name.{Name}
use Rattle.k_types.specs.declared.names.CellPhase.TheVariants.{Idle}
use Rattle.k_types.specs.Agree.{AreMarks, BookValue, CellValue, book_shown_by}
use Rattle.k_types.specs.Cells.{Cell, CellPart, ShownPart, book_part, part, shown}
use Rattle.k_types.specs.Names.{among}
use Rattle.k_types.specs.Numbers.{numbers_below}
use Rattle.k_types.specs.Owners.{is_absorbed, phase_of, shared, user}
use Rattle.k_types.specs.State.{State, is_scanned, scan_of}
use Rattle.k_types.specs.Trace.{Trace, process_count, segment_count}
use Rattle.k_laws.specs.BookChanges.{owner_in}
use Rattle.k_laws.proofs.ChangesLaws.{the_book_tells_the_owners}
use Rattle.k_agree.specs.Agreement.{BookShows}
use Rattle.k_agree.specs.Shown.{ShowsIdle, idle_part}
use Rattle.k_agree.specs.Moves.{KeepsOwners}

module _ (trace : Trace) (st : State) (c : Cell) (v : CellValue) where
  pub not_open : ShowsIdle trace st c v → scan_of st.scans c ≡ None
  not_open s = subst (λ phase. AreMarks phase (scan_of st.scans c) v) s.idle s.shows.marks

  pub part_shown : ShowsIdle trace st c v → idle_part v ≡ part trace st c
  unfolding part
  part_shown s =
      ap₂ (λ (shown : ShownPart) (scan : Option (List Name)). with_scan_of shown scan) s.shows.part (sym (not_open s))
    where
      with_scan_of : ShownPart → Option (List Name) → CellPart
      with_scan_of s scan = record { objects = s.objects; made = s.made; exits = s.exits; scan = scan; process = s.process; phase = s.phase }

  pub shows_part : v.collection ≡ Idle → idle_part v ≡ part trace st c → ShowsIdle trace st c v
  unfolding part
  shows_part idle is = record {
    shows = record {
      part = ap shown is;
      marks = subst (λ phase. AreMarks phase (scan_of st.scans c) v) (sym idle) (sym (ap (λ (p : CellPart). p.scan) is));
    };
    idle = idle;
  }

  pub unscanned : ShowsIdle trace st c v → not (is_scanned st.scans c) ≡ true
  unscanned s = ap (λ (scan : Option (List Name)). not (is_some scan)) (not_open s)

-- of the phases only which shared heaps were absorbed
pub owners_by_absorbed : (trace : Trace) (b k : BookValue) → k.homes ≡ b.homes → k.ended ≡ b.ended →
    ((t : ℕ) → is_absorbed (phase_of k.phases t) ≡ is_absorbed (phase_of b.phases t)) → KeepsOwners trace b k
owners_by_absorbed trace b k homes ended absorbed = record {
  homes = homes;
  owners =
      fun_ext (λ seg.
      ap₂ (λ (ended : List ℕ) (gone : Bool).
      cond (seg == 0) Kernel
      (cond (nat_le seg (process_count trace)) (cond (among (seg - 1) ended) Kernel (user (seg - 1))) (cond gone Kernel (shared (seg - 1 - process_count trace)))))
      ended (absorbed (seg - 1 - process_count trace)));
}

pub book_follows : (trace : Trace) (st su : State) (b k : BookValue) → BookShows trace st b → KeepsOwners trace b k → book_shown_by k ≡ book_part trace su → BookShows trace su k
book_follows trace st su b k shows kept is = record {
  part = is;
  homes =
      kept.homes ∙ shows.homes
      ∙ ap (λ (own : ℕ → Heap). map own (numbers_below (segment_count trace)))
      (sym (the_book_tells_the_owners trace st) ∙ ap (owner_in trace) (sym shows.part) ∙ sym kept.owners ∙ ap (owner_in trace) is ∙ the_book_tells_the_owners trace su);
}
