-- The rule of the cell. Its words are the numbers of the sample that was published last; and the passes are one pen, which knows
-- all that was published, and watchers, each of which knows what it has taken. A watcher is in hand while the pen has its view and
-- no pass of that watcher exists: so it is when the cell is made, and from the join of a watcher to the next split that gives one.
use Rattle.std.specs.Prelude.{◌≡◌, ℕ, ◌≤◌, ◌⊎◌, List, [], ◌∷◌}
use mathlib.Core.Option.{some}
use lib.ListN.{get_elem?}
use Rattle.k_types.specs.Totals.{total}
use Rattle.k_watch.specs.declared.sample.Sample.{Sample}
use Rattle.k_watch.specs.declared.view.Taken.{Taken}
use Rattle.k_watch.specs.declared.view.View.{View}
use Rattle.k_watch.specs.declared.view.View.TheVariants.{Opening, Pen, Watching, Spent}
use Rattle.k_watch.specs.Samples.{sample_in, newest_of, AllAmong, IsLast, IsRising, IsSmall}

-- each sample that a watcher has taken was published, in its list the numbers of events never fall, and its least number is not
-- above that of the sample that was published last
abbrev pub TakenFits : List Sample → Taken → Type 0
TakenFits published taken = AllAmong taken.samples published × IsRising taken.samples × (taken.least ≤ newest_of published)

-- so it is of each of these watchers
abbrev pub AllTakenFit : List Sample → List Taken → Type 0
AllTakenFit published [] = Unit {0}
AllTakenFit published (taken ∷ others) = TakenFits published taken × AllTakenFit published others

-- the pen has what was published; it, and each watcher in hand or with a pass of its own, fits that
abbrev pub ViewFits : List Sample → View → Type 0
ViewFits published Opening = ⊥
ViewFits published (Pen samples in_hand) = (samples ≡ published) × AllTakenFit published in_hand
ViewFits published (Watching taken) = TakenFits published taken
ViewFits published Spent = Unit {0}

-- 1 for the pen's view
abbrev pub one_if_pen : View → ℕ
one_if_pen Opening = 0
one_if_pen (Pen samples in_hand) = 1
one_if_pen (Watching taken) = 0
one_if_pen Spent = 0

-- the rule once the cell is made: exactly one view is the pen's; the words are the last sample of its list, in which the numbers of
-- events never fall; and each view fits
pub record KeepsSamples (words : List ℕ) (views : List View) : Type 0 where
  pub published : List Sample
  pub last : IsLast (sample_in words) published
  pub small : IsSmall (sample_in words)
  pub rising : IsRising published
  pub one_pen : total one_if_pen views ≡ 1
  pub fits : (pass : ℕ) (view : View) → get_elem? views pass ≡ some view → ViewFits published view

-- the rule while the cell is made: there is one pass, which knows nothing
abbrev pub IsOpening : List View → Type 0
IsOpening views = views ≡ Opening ∷ []

-- the rule
abbrev pub KeepsRule : List ℕ → List View → Type 0
KeepsRule words views = IsOpening views ⊎ KeepsSamples words views
