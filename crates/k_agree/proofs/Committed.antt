-- An operation whose values are changed as it asks can be appended.
use Rattle.std.proofs.Common.{[], ◌∷◌}
use Rattle.k_types.specs.declared.event.Event.TheVariants.{Done}
use Rattle.k_types.specs.declared.event.Reply.{Reply}
use Rattle.k_types.specs.declared.names.Heap.TheVariants.{User}
use Rattle.k_types.specs.declared.names.Pid.{Pid}
use Rattle.k_types.specs.declared.op.Op.{Op}
use Rattle.k_types.specs.Agree.{BookValue, CellValue}
use Rattle.k_types.specs.Cells.{Cell}
use Rattle.k_types.specs.Sound.{IsSound}
use Rattle.k_types.specs.State.{State}
use Rattle.k_types.specs.Steps.{state_after}
use Rattle.k_types.specs.Trace.{Trace}
use Rattle.k_tie.specs.Values.{JournalValue, NoteValue}
use Rattle.k_laws.proofs.SoundSteps.{legal_sound}
use Rattle.k_agree.specs.Committing.{CanCommit}
use Rattle.k_agree.proofs.Touched.{as_listed}
use Rattle.k_agree.specs.Moves.{CommitsAlone, CommitsBoth, HasMoved, HasMovedBoth, noted}
use Rattle.k_agree.proofs.Followed.{moved_alone, moved_both, told_alone, told_both}

pub commit_alone : (trace : Trace) (journal : JournalValue) (note : NoteValue) (pid : Pid) (op : Op) (said : Reply) (v w : CellValue) (b k : BookValue) →
    CommitsAlone trace journal note pid op said v w b k → CanCommit trace journal (Done pid op said) (noted (User pid) note w ∷ []) k
commit_alone trace journal note pid op said v w b k c =
    let st : State = state_after trace journal.list in
    let sound : IsSound trace st = legal_sound trace journal.list c.limits c.legal in
    let m : HasMoved trace st pid op said w k = moved_alone trace st c.limits sound pid op said v w b k c.moves in
    let listed = as_listed trace st (Done pid op said) (User pid ∷ []) c.limits m.possible (told_alone trace st c.limits sound pid op said v w b k c.moves) in
    record {
      legal = c.legal;
      totals = c.totals;
      possible = m.possible;
      exactly = listed.1;
      distinct = listed.0;
      ready = (record { met = c.met; settled = c.settled; shows = m.cell.shows }, tt);
      shows = m.book;
    }

pub commit_both : (trace : Trace) (journal : JournalValue) (note other_note : NoteValue) (pid : Pid) (op : Op) (said : Reply) (cell : Cell) (v w u x : CellValue) (b k : BookValue) →
    CommitsBoth trace journal note other_note pid op said cell v w u x b k → CanCommit trace journal (Done pid op said) (noted (User pid) note w ∷ noted cell other_note x ∷ []) k
commit_both trace journal note other_note pid op said cell v w u x b k c =
    let st : State = state_after trace journal.list in
    let sound : IsSound trace st = legal_sound trace journal.list c.limits c.legal in
    let m : HasMovedBoth trace st pid op said cell w x k = moved_both trace st c.limits sound pid op said cell v w u x b k c.moves in
    let listed = as_listed trace st (Done pid op said) (User pid ∷ cell ∷ []) c.limits m.possible (told_both trace st c.limits sound pid op said cell v w u x b k c.moves) in
    record {
      legal = c.legal;
      totals = c.totals;
      possible = m.possible;
      exactly = listed.1;
      distinct = listed.0;
      ready = (record { met = c.met; settled = c.settled; shows = m.own.shows }, (record { met = c.other_met; settled = c.other_settled; shows = m.other.shows }, tt));
      shows = m.book;
    }
