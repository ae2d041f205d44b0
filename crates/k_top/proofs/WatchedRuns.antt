-- Samples that are taken one after the other, and the end of a watched run.
use Rattle.std.proofs.Common.{◌≡◌, ℕ, ◌+◌, ◌≤◌, List, [], ◌∷◌, ◌++◌, length, sym, ap, ◌∙◌, subst, arith}
use Rattle.std.proofs.lemmas.List.{length_push}
use Rattle.atomic_table.specs.Seated.{TableId}
use Rattle.k_trace.specs.Named.{NamedTrace}
use Rattle.k_run.specs.k_outcome.Ends.{EndValue, journal_of}
use Rattle.k_run.specs.k_watch.declared.sample.Sample.{Sample}
use Rattle.k_run.specs.k_watch.Samples.{AllBelow, IsRising}
use Rattle.k_run.specs.k_watch.Shown.{AllTellOf, HasWatched}
use Rattle.k_run.specs.k_watch.Values.{WatcherValue}
use Rattle.k_run.proofs.SampleLists.{rising_one_more}
use Rattle.k_run.specs.Runs.{IsRunOf}
use Rattle.k_top.specs.Watched.{HasTaken, IsWatchedRunOf}

-- one sample more
pub taken_more : (count capacity room : ℕ) (cell : TableId) (old new : WatcherValue) (samples more : List Sample) (s : Sample) →
    new ≡ record old { samples = old.samples ++ s ∷ []; least = s.events } → AllBelow s.events old.samples → HasTaken count cell old samples capacity → more ≡ samples ++ s ∷ [] → count + 2 ≤ room →
    HasTaken (count + 1) cell new more room
taken_more count capacity room cell old new samples more s is below h pushed enough = record {
  cell_is = ap (λ (w : WatcherValue). w.cell) is ∙ h.cell_is;
  same = pushed ∙ ap (λ (ss : List Sample). ss ++ s ∷ []) h.same ∙ sym (ap (λ (w : WatcherValue). w.samples) is);
  taken = (let l = length_push samples s in let p = ap length pushed in omega (arith, l, p, h.taken));
  rising = subst IsRising (sym pushed) (rising_one_more samples s h.rising (subst (AllBelow s.events) (sym h.same) below));
  room = omega (arith, enough);
}

-- a run that is over, and its last sample
pub watched_run : (named : NamedTrace) (count capacity : ℕ) (cell : TableId) (end : EndValue) (old new : WatcherValue) (samples all : List Sample) (last : Sample) →
    IsRunOf named end → HasTaken count cell old samples capacity → HasWatched named.trace (journal_of end) old new last → all ≡ samples ++ last ∷ [] → IsWatchedRunOf named count end all
watched_run named count capacity cell end old new samples all last run h w pushed = record {
  run = run;
  taken = (let l = length_push samples last in let p = ap length pushed in omega (arith, l, p, h.taken));
  each = subst (AllTellOf named.trace (journal_of end)) (sym (pushed ∙ ap (λ (ss : List Sample). ss ++ last ∷ []) h.same ∙ sym w.taken)) w.each;
  rising = subst IsRising (sym pushed) (rising_one_more samples last h.rising (subst (AllBelow last.events) (sym h.same) w.rises));
  last = (samples, pushed ∙ ap (λ (s : Sample). samples ++ s ∷ []) w.last_is);
}
