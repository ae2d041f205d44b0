-- What was published still tells of a journal that has grown.
use Rattle.std.proofs.Common.{◌≡◌, ◌≤◌, refl, sym, ap, ◌∙◌, subst, List, [], ◌∷◌, ◌++◌, length, Option, Some, None, arith, length-append}
use Rattle.std.proofs.lemmas.List.{take-append-le, take_all}
use Rattle.atomic_table.specs.Seated.{TableId}
use Rattle.k_types.specs.declared.event.Event.{Event}
use Rattle.k_types.specs.Complete.{IsPrefixOf}
use Rattle.k_types.specs.Trace.{Trace}
use Rattle.k_book.specs.Books.{BookRecord}
use Rattle.k_commit.specs.Standing.{BookStands}
use Rattle.k_watch.specs.declared.sample.Sample.{Sample}
use Rattle.k_watch.specs.Samples.{newest_of}
use Rattle.k_watch.specs.Numbers.{numbers_of, numbers_after}
use Rattle.k_watch.specs.Shown.{AllTellOf, CanShow, IsShown, Showing, TellsOf, WasShown}
use Rattle.k_watch.specs.Values.{PenValue}
use Rattle.k_watch.proofs.SampleLists.{newest_snoc}
use Rattle.k_watch.proofs.Told.{book_tells}

tells_longer : (trace : Trace) (h rest : List Event) (s : Sample) → TellsOf trace h s → TellsOf trace (h ++ rest) s
tells_longer trace h rest s t = (
  (let l = length-append h rest in let le = t.0 in omega (arith, l, le)),
  t.1 ∙ ap (numbers_after trace) (sym (take-append-le s.events h rest t.0)),
)

all_tell_longer : (trace : Trace) (h rest : List Event) (ss : List Sample) → AllTellOf trace h ss → AllTellOf trace (h ++ rest) ss
all_tell_longer trace h rest [] a = tt
all_tell_longer trace h rest (s ∷ ss) a = (tells_longer trace h rest s a.0, all_tell_longer trace h rest ss a.1)

pub all_tell_on : (trace : Trace) (h j : List Event) (ss : List Sample) → IsPrefixOf h j → AllTellOf trace h ss → AllTellOf trace j ss
all_tell_on trace h j ss p a = subst (λ (l : List Event). AllTellOf trace l ss) p.1 (all_tell_longer trace h p.0 ss a)

pub one_more_tells : (trace : Trace) (h : List Event) (ss : List Sample) (s : Sample) → AllTellOf trace h ss → TellsOf trace h s → AllTellOf trace h (ss ++ s ∷ [])
one_more_tells trace h [] s a t = (t, tt)
one_more_tells trace h (x ∷ xs) s a t = (a.0, one_more_tells trace h xs s a.1 t)

-- the numbers of all events tell of all
pub whole_tells : (trace : Trace) (b : BookRecord) → numbers_of b ≡ numbers_after trace b.journal.list → TellsOf trace b.journal.list (numbers_of b)
whole_tells trace b is = (omega arith, is ∙ ap (numbers_after trace) (sym (take_all (length b.journal.list) b.journal.list (omega arith))))

-- where the journal has grown, what was published still tells of it
pub was_shown : (watched : Option TableId) (trace : Trace) (before j : List Event) (pen : Option PenValue) → IsShown watched trace before pen → IsPrefixOf before j → WasShown watched trace j pen
was_shown None trace before j None shown grows = tt
was_shown None trace before j (Some pen) shown grows = absurd shown
was_shown (Some cell) trace before j None shown grows = absurd shown
was_shown (Some cell) trace before j (Some pen) shown grows = (
  shown.0,
  all_tell_on trace before j pen.samples grows shown.1,
  (let l = length-append before grows.0 in let k : length j ≡ length (before ++ grows.0) = ap length (sym grows.1) in let n = shown.2 in omega (arith, l, k, n)),
)

pub none_newer : (watched : Option TableId) (trace : Trace) (j : List Event) (pen : PenValue) → WasShown watched trace j (Some pen) → newest_of pen.samples ≤ length j
none_newer None trace j pen shown = absurd shown
none_newer (Some cell) trace j pen shown = shown.2

-- published once more
shown_more : (watched : Option TableId) (trace : Trace) (b : BookRecord) (pen : PenValue) → WasShown watched trace b.journal.list (Some pen) → TellsOf trace b.journal.list (numbers_of b)
    → IsShown watched trace b.journal.list (Some (record pen { samples = pen.samples ++ numbers_of b ∷ [] }))
shown_more None trace b pen shown tells = absurd shown
shown_more (Some cell) trace b pen shown tells = (shown.0, one_more_tells trace b.journal.list pen.samples (numbers_of b) shown.1 tells, newest_snoc pen.samples (numbers_of b))

pub shown_on : (run : Showing) (pen new : PenValue) (b : BookRecord) → CanShow run (Some pen) b → new ≡ record pen { samples = pen.samples ++ numbers_of b ∷ [] } → IsShown run.watched run.trace b.journal.list (Some new)
shown_on run pen new b c is =
    subst (λ (p : PenValue). IsShown run.watched run.trace b.journal.list (Some p)) (sym is)
    (shown_more run.watched run.trace b pen c.shown (whole_tells run.trace b (book_tells run.trace b c.stands)))

-- where there is no pen, there is nothing to say
none_shown_by : (watched : Option TableId) (trace : Trace) (j : List Event) → WasShown watched trace j None → IsShown watched trace j None
none_shown_by None trace j shown = tt
none_shown_by (Some cell) trace j shown = absurd shown

pub none_shown : (run : Showing) (b : BookRecord) → CanShow run None b → IsShown run.watched run.trace b.journal.list None
none_shown run b c = none_shown_by run.watched run.trace b.journal.list c.shown

-- before the first event, the pen has published the numbers of the book
pub first_shown : (trace : Trace) (b : BookRecord) (pen : PenValue) → BookStands trace b → pen.samples ≡ numbers_of b ∷ [] → IsShown (Some pen.cell) trace b.journal.list (Some pen)
first_shown trace b pen stands is = (
  refl,
  subst (AllTellOf trace b.journal.list) (sym is) (whole_tells trace b (book_tells trace b stands), tt),
  ap newest_of is,
)
