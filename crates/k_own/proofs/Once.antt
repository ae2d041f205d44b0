-- A process that a kill does not end by one book is not ended by it later.
use Rattle.std.proofs.Common.{◌≡◌, ◌&&◌, ℕ, Bool, true, false, not, refl, sym, ap, ◌∙◌, subst, List, IsFalse, IsTrue}
use Rattle.k_types.specs.declared.event.Event.{Event}
use Rattle.k_types.specs.Agree.{book_shown_by}
use Rattle.k_types.specs.Cells.{BookPart, book_part}
use Rattle.k_types.specs.Complete.{IsPrefixOf}
use Rattle.k_types.specs.Limits.{is_above}
use Rattle.k_types.specs.Names.{among}
use Rattle.k_types.specs.Steps.{state_after}
use Rattle.k_types.specs.Trace.{Trace}
use Rattle.k_laws.proofs.KeptLaws.{ended_processes_stay_ended}
use Rattle.k_agree.specs.Agreement.{BookAgrees}
use Rattle.k_commit.specs.k_book.Books.{BookRecord}
use Rattle.k_laws.specs.Touches.{ends_other_in}

-- the book tells who has ended
ended_told : (trace : Trace) (b : BookRecord) (q : ℕ) → BookAgrees trace b.journal b.value → (book_shown_by b.value).ended q ≡ among q (state_after trace b.journal.list).ended
unfolding book_part
ended_told trace b q agrees = ap (λ (k : BookPart). k.ended q) agrees.shows.part

spared : (above ended later : Bool) → (ended ≡ true → later ≡ true) → (above && not ended) ≡ false → (above && not later) ≡ false
spared false ended later stays none = refl
spared true true later stays none = ap not (stays refl)
spared true false later stays none = absurd cc

pub ends_once : (trace : Trace) (old new : BookRecord) (p q : ℕ) → BookAgrees trace old.journal old.value → BookAgrees trace new.journal new.value → IsPrefixOf old.journal.list new.journal.list →
    IsFalse (ends_other_in trace (book_shown_by old.value) p q) → IsFalse (ends_other_in trace (book_shown_by new.value) p q)
ends_once trace old new p q one two grows =
    let stays : (book_shown_by old.value).ended q ≡ true → (book_shown_by new.value).ended q ≡ true =
    λ ended. ended_told trace new q two
    ∙ subst (λ (list : List Event). IsTrue (among q (state_after trace list).ended)) grows.1
    (ended_processes_stay_ended trace old.journal.list grows.0 q (sym (ended_told trace old q one) ∙ ended)) in
    spared (is_above trace p q) ((book_shown_by old.value).ended q) ((book_shown_by new.value).ended q) stays
