-- The last sample of a run that is over.
use Rattle.std.proofs.Common.{◌≡◌, ◌≤◌, sym, ap, ◌∙◌, subst, List, [], ◌∷◌, ◌++◌, length, ⊎_elim, arith}
use Rattle.std.proofs.lemmas.List.{take_all}
use Rattle.k_types.specs.declared.event.Event.{Event}
use Rattle.k_types.specs.Trace.{Trace}
use Rattle.k_book.specs.Books.{BookRecord}
use Rattle.k_watch.specs.declared.sample.Sample.{Sample}
use Rattle.k_watch.specs.Samples.{AllAmong, AllBelow, IsAmong, newest_of}
use Rattle.k_watch.specs.Numbers.{numbers_of, numbers_after}
use Rattle.k_watch.specs.Shown.{AllTellOf, CanShowEnd, HasWatched, TellsOf}
use Rattle.k_watch.specs.Values.{PenValue, WatcherValue}
use Rattle.k_watch.proofs.SampleLists.{newest_snoc}
use Rattle.k_watch.proofs.ShownOn.{one_more_tells, whole_tells}
use Rattle.k_watch.proofs.Told.{shown_tells}

-- each of these tells, so one of them does
among_tells : (trace : Trace) (h : List Event) (ss : List Sample) (s : Sample) → AllTellOf trace h ss → IsAmong s ss → TellsOf trace h s
among_tells trace h [] s a m = absurd m
among_tells trace h (x ∷ xs) s a m = ⊎_elim (λ (e : x ≡ s). subst (TellsOf trace h) e a.0) (λ (n : IsAmong s xs). among_tells trace h xs s a.1 n) m

pub all_among_tell : (trace : Trace) (h : List Event) (ss ts : List Sample) → AllTellOf trace h ts → AllAmong ss ts → AllTellOf trace h ss
all_among_tell trace h [] ts a m = tt
all_among_tell trace h (s ∷ ss) ts a m = (among_tells trace h ts s a m.0, all_among_tell trace h ss ts a m.1)

-- one that has all events is of the whole history
whole_sample : (trace : Trace) (h : List Event) (s : Sample) → TellsOf trace h s → length h ≤ s.events → s ≡ numbers_after trace h
whole_sample trace h s t le = t.1 ∙ ap (numbers_after trace) (take_all s.events h le)

-- all that the pen has published tells, with the numbers of the whole journal
pub published_tells : (trace : Trace) (b : BookRecord) (pen : PenValue) (w : WatcherValue) → CanShowEnd trace b pen w → AllTellOf trace b.journal.list (pen.samples ++ numbers_of b ∷ [])
published_tells trace b pen w c =
    one_more_tells trace b.journal.list pen.samples (numbers_of b) c.shown.1 (whole_tells trace b (shown_tells trace b c.rules c.of_trace c.shows))

-- a watcher that was told of the whole journal takes a sample, which was published
pub has_watched : (trace : Trace) (b : BookRecord) (published : List Sample) (s : Sample) (old new : WatcherValue)
    → AllTellOf trace b.journal.list published → length b.journal.list ≤ s.events → AllAmong (old.samples ++ s ∷ []) published → AllBelow s.events old.samples
    → new.cell ≡ old.cell → new.samples ≡ old.samples ++ s ∷ [] → HasWatched trace b.journal.list old new s
has_watched trace b published s old new all told among rises same taken =
    let each = all_among_tell trace b.journal.list (old.samples ++ s ∷ []) published all among in
    record {
      cell = same;
      taken = taken;
      rises = rises;
      each = subst (AllTellOf trace b.journal.list) (sym taken) each;
      last_is = whole_sample trace b.journal.list s (last_of old.samples each) told;
    }
  where
    last_of : (ss : List Sample) → AllTellOf trace b.journal.list (ss ++ s ∷ []) → TellsOf trace b.journal.list s
    last_of [] a = a.0
    last_of (x ∷ xs) a = last_of xs a.1

-- the pen publishes the numbers of the whole journal, tells the watcher, which takes a sample, and tells it again
pub watched_through : (trace : Trace) (b : BookRecord) (pen p q : PenValue) (w told taken new : WatcherValue) (s : Sample) → CanShowEnd trace b pen w
    → p ≡ record pen { samples = pen.samples ++ numbers_of b ∷ [] } → q ≡ p → told ≡ record w { least = newest_of p.samples }
    → taken ≡ record told { samples = told.samples ++ s ∷ []; least = s.events } → told.least ≤ s.events → AllBelow s.events told.samples
    → new ≡ record taken { least = newest_of q.samples } → AllAmong taken.samples q.samples → HasWatched trace b.journal.list w new s
watched_through trace b pen p q w told taken new s can publishes same tells takes at_least rises tells_again among =
    let all = pen.samples ++ numbers_of b ∷ [] in
    let published : p.samples ≡ all = ap (λ (v : PenValue). v.samples) publishes in
    let before : told.samples ≡ w.samples = ap (λ (v : WatcherValue). v.samples) tells in
    let after : taken.samples ≡ w.samples ++ s ∷ [] = ap (λ (v : WatcherValue). v.samples) takes ∙ ap (λ (l : List Sample). l ++ s ∷ []) before in
    let least : told.least ≡ newest_of p.samples = ap (λ (v : WatcherValue). v.least) tells in
    let newest : newest_of p.samples ≡ length b.journal.list = ap newest_of published ∙ newest_snoc pen.samples (numbers_of b) in
    has_watched trace b all s w new (published_tells trace b pen w can)
    (omega (arith, at_least, least, newest))
    (subst (AllAmong (w.samples ++ s ∷ [])) (ap (λ (v : PenValue). v.samples) same ∙ published) (subst (λ (l : List Sample). AllAmong l q.samples) after among))
    (subst (AllBelow s.events) before rises)
    (ap (λ (v : WatcherValue). v.cell) tells_again ∙ ap (λ (v : WatcherValue). v.cell) takes ∙ ap (λ (v : WatcherValue). v.cell) tells)
    (ap (λ (v : WatcherValue). v.samples) tells_again ∙ after)
