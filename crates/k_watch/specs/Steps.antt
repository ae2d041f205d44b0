-- The five kinds of step, each as what it does to a view.
--   make   the first sample is published: the pen's list has it alone, and one watcher is in hand, which has taken none
--   split  a watcher that was in hand is so no longer, and the new pass is its pass. It is told the events of the last sample of
--          the pen's list, which is its least number from then on. Where no watcher is in hand, the new pass is spent
--   swap   by the pen: its list grows by the sample that the words become
--   load   by a watcher: its list grows by the sample that the words are, whose events are its least number from then on. By the pen
--          no view changes, and it tells that each sample in the lists of watchers in hand is in its own
--   join   the pen has a watcher in hand, with its list and least number, and the watcher's pass is spent
-- Beside them a pass may hand over all that it knows to a new pass.
use Rattle.std.specs.Prelude.{◌≡◌, ℕ, ◌≤◌, List, [], ◌∷◌, ◌++◌, slice_index}
use Rattle.k_watch.specs.declared.sample.Sample.{Sample}
use Rattle.k_watch.specs.declared.view.Taken.{Taken}
use Rattle.k_watch.specs.declared.view.View.{View}
use Rattle.k_watch.specs.declared.view.View.TheVariants.{Opening, Pen, Watching, Spent}
use Rattle.k_watch.specs.Samples.{sample_in, newest_of, AllBelow, IsSmall}
use Rattle.k_watch.specs.Rule.{AllTakenFit}

-- what a watcher has taken, by its parts
abbrev pub taken : List Sample → ℕ → Taken
taken samples least = record { samples = samples; least = least }

-- a watcher that has taken nothing
abbrev pub newcomer : Taken
newcomer = taken [] 0

-- what the pen has published, from its view
abbrev pub published_in : View → List Sample
published_in Opening = []
published_in (Pen samples in_hand) = samples
published_in (Watching own) = []
published_in Spent = []

-- what a watcher has taken, from its view
abbrev pub taken_in : View → Taken
taken_in Opening = newcomer
taken_in (Pen samples in_hand) = newcomer
taken_in (Watching own) = own
taken_in Spent = newcomer

-- make
abbrev pub Opens : View → List ℕ → List ℕ → View → Type 0
Opens before old new after = after ≡ Pen (sample_in new ∷ []) (newcomer ∷ [])

-- swap by the pen
abbrev pub after_publish : Sample → View → View
after_publish s Opening = Opening
after_publish s (Pen samples in_hand) = Pen (samples ++ s ∷ []) in_hand
after_publish s (Watching own) = Watching own
after_publish s Spent = Spent

-- swap as what a step tells
abbrev pub Publishes : View → List ℕ → List ℕ → View → Type 0
Publishes before old new after = after ≡ after_publish (sample_in new) before

-- load by a watcher
abbrev pub after_load : Sample → View → View
after_load s Opening = Opening
after_load s (Pen samples in_hand) = Pen samples in_hand
after_load s (Watching own) = Watching (taken (own.samples ++ s ∷ []) s.events)
after_load s Spent = Spent

-- load by a watcher as what a step tells: the sample has no fewer events than the least number, nor than those taken before
pub record Takes (before : View) (old new : List ℕ) (after : View) : Type 0 where
  pub is : after ≡ after_load (sample_in new) before
  pub small : IsSmall (sample_in new)
  pub told : (taken_in before).least ≤ slice_index new 0
  pub rises : AllBelow (slice_index new 0) (taken_in before).samples

-- load by the pen: what it tells of the watchers in hand
abbrev pub IsToldOf : View → Type 0
IsToldOf Opening = Unit {0}
IsToldOf (Pen samples in_hand) = AllTakenFit samples in_hand
IsToldOf (Watching own) = Unit {0}
IsToldOf Spent = Unit {0}

-- load by the pen as what a step tells
abbrev pub Looks : View → List ℕ → List ℕ → View → Type 0
Looks before old new after = (after ≡ before) × IsToldOf before

-- join
abbrev pub after_take : View → View → View
after_take (Pen samples in_hand) (Watching own) = Pen samples (own ∷ in_hand)
after_take view other = view

-- split: what is left to the pen
abbrev pub after_give : View → View
after_give Opening = Opening
after_give (Pen samples []) = Pen samples []
after_give (Pen samples (own ∷ others)) = Pen samples others
after_give (Watching own) = Watching own
after_give Spent = Spent

-- split: the watcher's pass
abbrev pub watcher_given : View → View
watcher_given Opening = Spent
watcher_given (Pen samples []) = Spent
watcher_given (Pen samples (own ∷ others)) = Watching (taken own.samples (newest_of samples))
watcher_given (Watching own) = Spent
watcher_given Spent = Spent
