-- Each step keeps the rule.
use Rattle.std.proofs.Common.{◌≡◌, ◌≢◌, ℕ, zero, suc, ◌+◌, ◌≤◌, List, [], ◌∷◌, ◌++◌, slice_index, set, refl, sym, ap, ◌∙◌, subst, ⊎_elim, inl, inr, arith, le_refl}
use mathlib.Core.Option.{some, some-injective, some-ne-none}
use lib.ListN.{get_elem?}
use Rattle.crossbeam_utils.specs.Register.{Turns, Forks, Merges}
use Rattle.atomic_table.proofs.Lists.{at_set, at_snoc}
use Rattle.k_watch.specs.declared.sample.Sample.{Sample}
use Rattle.k_watch.specs.declared.view.Taken.{Taken}
use Rattle.k_watch.specs.declared.view.View.{View}
use Rattle.k_watch.specs.declared.view.View.TheVariants.{Opening, Pen, Watching, Spent}
use Rattle.k_watch.specs.Samples.{sample_in, words_of, newest_of, IsLast, IsRising, IsSmall}
use Rattle.k_watch.specs.Rule.{TakenFits, AllTakenFit, ViewFits, one_if_pen, KeepsSamples, IsOpening, KeepsRule}
use Rattle.k_watch.specs.Steps.{taken, newcomer, Opens, Publishes, Takes, Looks, after_take, after_give, watcher_given}
use Rattle.k_watch.proofs.SampleLists.{newest_snoc, newest_last, last_snoc, rising_below, rising_one_more, all_among_longer, among_last, all_among_one_more, all_among_below, below_more}
use Rattle.k_types.proofs.Places.{total_set_there, total_two, only_one}
use Rattle.k_types.proofs.Sums.{total_push}

-- one view changes, and what was published
kept_set : (ws ws' : List ℕ) (vs : List View) (k : KeepsSamples ws vs) (l : List Sample) (id : ℕ) (v w : View)
    → get_elem? vs id ≡ some v → one_if_pen w ≡ one_if_pen v
    → IsLast (sample_in ws') l → IsSmall (sample_in ws') → IsRising l
    → ((j : ℕ) (u : View) → j ≢ id → get_elem? vs j ≡ some u → ViewFits l u) → ViewFits l w
    → KeepsSamples ws' (set vs id w)
kept_set ws ws' vs k l id v w at ones last small rises others mine = record {
  published = l;
  last = last;
  small = small;
  rising = rises;
  one_pen = (let s = total_set_there one_if_pen vs id v w at in let o = k.one_pen in omega arith);
  fits = λ j u e. ⊎_elim
      (λ (x : (j ≡ id) × (w ≡ u)). subst (ViewFits l) x.1 mine)
      (λ (x : (j ≢ id) × (get_elem? vs j ≡ some u)). others j u x.0 x.1)
      (at_set vs id j w u e);
}

-- a view is cut in two
kept_split : (ws : List ℕ) (vs : List View) (k : KeepsSamples ws vs) (id : ℕ) (v w x : View)
    → get_elem? vs id ≡ some v → one_if_pen w + one_if_pen x ≡ one_if_pen v
    → ViewFits k.published w → ViewFits k.published x
    → KeepsSamples ws (set vs id w ++ x ∷ [])
kept_split ws vs k id v w x at ones left right = record {
  published = k.published;
  last = k.last;
  small = k.small;
  rising = k.rising;
  one_pen = (let s = total_set_there one_if_pen vs id v w at in let p = total_push one_if_pen (set vs id w) x in let o = k.one_pen in omega arith);
  fits = λ j u e. ⊎_elim
      (λ (was : get_elem? (set vs id w) j ≡ some u). ⊎_elim
      (λ (y : (j ≡ id) × (w ≡ u)). subst (ViewFits k.published) y.1 left)
      (λ (y : (j ≢ id) × (get_elem? vs j ≡ some u)). k.fits j u y.1)
      (at_set vs id j w u was))
      (λ (new : x ≡ u). subst (ViewFits k.published) new right)
      (at_snoc (set vs id w) x u j e);
}

-- two views are made one
kept_join : (ws : List ℕ) (vs : List View) (k : KeepsSamples ws vs) (id other : ℕ) (v u w : View)
    → get_elem? vs id ≡ some v → other ≢ id → get_elem? (set vs id w) other ≡ some u
    → one_if_pen w ≡ one_if_pen v + one_if_pen u
    → (ViewFits k.published v → ViewFits k.published u → ViewFits k.published w)
    → KeepsSamples ws (set (set vs id w) other Spent)
kept_join ws vs k id other v u w at apart there ones both = record {
  published = k.published;
  last = k.last;
  small = k.small;
  rising = k.rising;
  one_pen = (let s = total_set_there one_if_pen vs id v w at in let p = total_set_there one_if_pen (set vs id w) other u Spent there in let o = k.one_pen in omega arith);
  fits = λ j y e. ⊎_elim
      (λ (x : (j ≡ other) × (Spent ≡ y)). subst (ViewFits k.published) x.1 tt)
      (λ (x : (j ≢ other) × (get_elem? (set vs id w) j ≡ some y)). ⊎_elim
      (λ (z : (j ≡ id) × (w ≡ y)). subst (ViewFits k.published) z.1 (both (k.fits id v at) theirs))
      (λ (z : (j ≢ id) × (get_elem? vs j ≡ some y)). k.fits j y z.1)
      (at_set vs id j w y x.1))
      (at_set (set vs id w) other j Spent y e);
}
  where
    theirs : ViewFits k.published u
    theirs = ⊎_elim
        (λ (x : (other ≡ id) × (w ≡ u)). absurd (apart x.0))
        (λ (x : (other ≢ id) × (get_elem? vs other ≡ some u)). k.fits other u x.1)
        (at_set vs id other w u there)

abbrev opens_in : View → ℕ
opens_in Opening = 1
opens_in (Pen samples in_hand) = 0
opens_in (Watching own) = 0
opens_in Spent = 0

-- while the cell is made no pass knows anything
running : (ws : List ℕ) (vs : List View) (id : ℕ) (v : View) → KeepsRule ws vs → get_elem? vs id ≡ some v → opens_in v ≡ 0 → KeepsSamples ws vs
running ws vs id v h at none = ⊎_elim
    (λ (o : IsOpening vs).
    let same = only_one Opening v id (ap (λ (l : List View). get_elem? l id) (sym o) ∙ at) in
    let one : 1 ≡ opens_in v = ap opens_in same.1 in
    absurd (omega arith))
    (λ (k : KeepsSamples ws vs). k)
    h

opened : (ws : List ℕ) (vs : List View) (id : ℕ) → KeepsRule ws vs → get_elem? vs id ≡ some Opening → (id ≡ 0) × (vs ≡ Opening ∷ [])
opened ws vs id h at = ⊎_elim
    (λ (o : IsOpening vs). ((only_one Opening Opening id (ap (λ (l : List View). get_elem? l id) (sym o) ∙ at)).0, o))
    (λ (k : KeepsSamples ws vs). absurd (k.fits id Opening at))
    h

-- make
pub begins : (ws : List ℕ) → KeepsRule ws (Opening ∷ [])
begins ws = inl refl

pub opens : (id : ℕ) (v : View) (new : List ℕ) → v ≡ Opening → IsSmall (sample_in new) → Turns KeepsRule id v (λ _. new) Opens
opens id v new is small ws vs h at =
    let o = opened ws vs id h (at ∙ ap some is) in
    let s = sample_in new in
    let w = Pen (s ∷ []) (newcomer ∷ []) in
    (w, inr (subst (KeepsSamples new) (λ i. set (sym o.1 i) (sym o.0 i) w) made), refl)
  where
    only : (j : ℕ) (u : View) → get_elem? (Pen (sample_in new ∷ []) (newcomer ∷ []) ∷ []) j ≡ some u → ViewFits (sample_in new ∷ []) u
    only zero u e = subst (ViewFits (sample_in new ∷ [])) (some-injective _ u e) (refl, ((tt, tt, omega arith), tt))
    only (suc j) u e = absurd (some-ne-none u (sym e))

    made : KeepsSamples new (Pen (sample_in new ∷ []) (newcomer ∷ []) ∷ [])
    made = record {
      published = sample_in new ∷ [];
      last = ([], refl);
      small = small;
      rising = (tt, tt);
      one_pen = refl;
      fits = only;
    }

-- what fits still fits where one more sample was published, with no fewer events
taken_longer : (l : List Sample) (s : Sample) (t : Taken) → newest_of l ≤ s.events → TakenFits l t → TakenFits (l ++ s ∷ []) t
taken_longer l s t le f = (all_among_longer t.samples l (s ∷ []) f.0, f.1, let n = newest_snoc l s in let h = f.2 in omega arith)

all_taken_longer : (l : List Sample) (s : Sample) (ts : List Taken) → newest_of l ≤ s.events → AllTakenFit l ts → AllTakenFit (l ++ s ∷ []) ts
all_taken_longer l s [] le f = tt
all_taken_longer l s (t ∷ ts) le f = (taken_longer l s t le f.0, all_taken_longer l s ts le f.1)

others_longer : (l : List Sample) (s : Sample) (u : View) → newest_of l ≤ s.events → one_if_pen u ≡ 0 → ViewFits l u → ViewFits (l ++ s ∷ []) u
others_longer l s Opening le none f = absurd f
others_longer l s (Pen samples in_hand) le none f = absurd (omega arith)
others_longer l s (Watching own) le none f = taken_longer l s own le f
others_longer l s Spent le none f = tt

no_other : (ws : List ℕ) (vs : List View) (k : KeepsSamples ws vs) (id j : ℕ) (v u : View) → get_elem? vs id ≡ some v → one_if_pen v ≡ 1 → j ≢ id → get_elem? vs j ≡ some u → one_if_pen u ≡ 0
no_other ws vs k id j v u at pen n e = let p = total_two one_if_pen vs id j v u at e n in let o = k.one_pen in omega arith

-- swap by the pen
pub publishes : (id : ℕ) (v : View) (samples : List Sample) (new : List ℕ) → v ≡ Pen samples [] → IsSmall (sample_in new) → newest_of samples ≤ slice_index new 0 → Turns KeepsRule id v (λ _. new) Publishes
publishes id v samples new is small later = subst (λ (x : View). Turns KeepsRule id x (λ _. new) Publishes) (sym is) published
  where
    published : Turns KeepsRule id (Pen samples []) (λ _. new) Publishes
    published ws vs h at =
        let pen = Pen samples [] in
        let k = running ws vs id pen h at refl in
        let f = k.fits id pen at in
        let s = sample_in new in
        let w = Pen (samples ++ s ∷ []) [] in
        let le : newest_of k.published ≤ s.events = subst (λ (l : List Sample). newest_of l ≤ s.events) f.0 later in
        let last = newest_last k.published (sample_in ws) k.last in
        let below = below_more (slice_index ws 0) s.events k.published (omega (arith, le, last)) (rising_below k.published (sample_in ws) k.last k.rising) in (
          w,
          inr (kept_set ws new vs k (k.published ++ s ∷ []) id pen w at refl (last_snoc k.published s) small (rising_one_more k.published s k.rising below)
              (λ j u n e. others_longer k.published s u le (no_other ws vs k id j pen u at refl n e) (k.fits j u e))
              (ap (λ (l : List Sample). l ++ s ∷ []) f.0, tt)),
          refl,
        )

-- load by a watcher
pub takes : (id : ℕ) (v : View) (own : Taken) → v ≡ Watching own → Turns KeepsRule id v (λ x. x) Takes
takes id v own is = subst (λ (x : View). Turns KeepsRule id x (λ y. y) Takes) (sym is) took
  where
    took : Turns KeepsRule id (Watching own) (λ y. y) Takes
    took ws vs h at =
        let k = running ws vs id (Watching own) h at refl in
        let f = k.fits id (Watching own) at in
        let s = sample_in ws in
        let w = Watching (taken (own.samples ++ s ∷ []) s.events) in
        let newest = newest_last k.published s k.last in
        let below = all_among_below s.events own.samples k.published (rising_below k.published s k.last k.rising) f.0 in (
          w,
          inr (kept_set ws ws vs k k.published id (Watching own) w at refl k.last k.small k.rising
              (λ j u n e. k.fits j u e)
              (all_among_one_more own.samples k.published s f.0 (among_last s k.published k.last), rising_one_more own.samples s f.1 below, omega (arith, newest))),
          record { is = refl; small = k.small; told = (let t = f.2 in omega (arith, newest, t)); rises = below },
        )

-- load by the pen
pub looks : (id : ℕ) (v : View) (samples : List Sample) (in_hand : List Taken) → v ≡ Pen samples in_hand → Turns KeepsRule id v (λ x. x) Looks
looks id v samples in_hand is = subst (λ (x : View). Turns KeepsRule id x (λ y. y) Looks) (sym is) looked
  where
    looked : Turns KeepsRule id (Pen samples in_hand) (λ y. y) Looks
    looked ws vs h at =
        let pen = Pen samples in_hand in
        let k = running ws vs id pen h at refl in
        let f = k.fits id pen at in (
          pen,
          inr (kept_set ws ws vs k k.published id pen pen at refl k.last k.small k.rising (λ j u n e. k.fits j u e) f),
          (refl, subst (λ (l : List Sample). AllTakenFit l in_hand) (sym f.0) f.1),
        )

-- a watcher's pass hands over what it knows
pub hands_over : (id : ℕ) (v : View) (own : Taken) → v ≡ Watching own → Forks KeepsRule id v Spent v
hands_over id v own is = subst (λ (x : View). Forks KeepsRule id x Spent x) (sym is) (λ ws vs h at.
    let k = running ws vs id (Watching own) h at refl in
    inr (kept_split ws vs k id (Watching own) Spent (Watching own) at refl tt (k.fits id (Watching own) at)))

-- join
pub takes_in : (id other : ℕ) (v u : View) (samples : List Sample) (own : Taken) → v ≡ Pen samples [] → u ≡ Watching own → Merges KeepsRule id v other u (after_take v u) Spent
takes_in id other v u samples own is are = let P : (View × View) → Type 0 = λ x. Merges KeepsRule id x.0 other x.1 (after_take x.0 x.1) Spent in
    subst P (λ i. (sym is i, sym are i)) (λ ws vs h at apart there.
    let k = running ws vs id (Pen samples []) h at refl in
    inr (kept_join ws vs k id other (Pen samples []) (Watching own) (Pen samples (own ∷ [])) at apart there refl (λ mine theirs. (mine.0, (theirs, mine.1)))))

-- split
pub gives : (id : ℕ) (v : View) (samples : List Sample) (own : Taken) (others : List Taken) → v ≡ Pen samples (own ∷ others) → Forks KeepsRule id v (after_give v) (watcher_given v)
gives id v samples own others is = let P : View → Type 0 = λ x. Forks KeepsRule id x (after_give x) (watcher_given x) in
    subst P (sym is) (λ ws vs h at.
    let k = running ws vs id (Pen samples (own ∷ others)) h at refl in
    let f = k.fits id (Pen samples (own ∷ others)) at in
    let told : newest_of samples ≤ newest_of k.published = subst (λ (l : List Sample). newest_of samples ≤ newest_of l) f.0 (le_refl (newest_of samples)) in
    inr (kept_split ws vs k id (Pen samples (own ∷ others)) (Pen samples others) (Watching (taken own.samples (newest_of samples))) at refl (f.0, f.1.1) (f.1.0.0, f.1.0.1, told)))

-- the swaps, at the words of a sample
pub opens_with : (id : ℕ) (v : View) (new : List ℕ) (s : Sample) → v ≡ Opening → new ≡ words_of s → IsSmall s → Turns KeepsRule id v (λ _. new) Opens
opens_with id v new s is words small = opens id v new is (subst (λ (ws : List ℕ). IsSmall (sample_in ws)) (sym words) small)

pub publishes_with : (id : ℕ) (v : View) (samples : List Sample) (new : List ℕ) (s : Sample) → v ≡ Pen samples [] → new ≡ words_of s → IsSmall s → newest_of samples ≤ s.events → Turns KeepsRule id v (λ _. new) Publishes
publishes_with id v samples new s is words small later =
    publishes id v samples new is (subst (λ (ws : List ℕ). IsSmall (sample_in ws)) (sym words) small) (subst (λ (ws : List ℕ). newest_of samples ≤ slice_index ws 0) (sym words) later)

-- a pen that has taken a watcher in hand
pub joined : (v u w : View) (samples : List Sample) (own : Taken) → v ≡ Pen samples [] → u ≡ Watching own → w ≡ after_take v u → w ≡ Pen samples (own ∷ [])
joined v u w samples own is are e = e ∙ (λ i. after_take (is i) (are i))
