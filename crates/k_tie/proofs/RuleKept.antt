-- Each step keeps the rule.
use Rattle.std.proofs.Common.{◌≡◌, ◌≢◌, ℕ, ◌+◌, ◌%◌, ◌^◌, ◌<◌, List, [], ◌∷◌, ◌++◌, length, replicate, set, refl, sym, ap, ◌∙◌, subst, ⊎_elim, arith, length-append}
use Rattle.std.specs.Prelude.{slice_index}
use Rattle.k_types.specs.Complete.{IsPrefixOf}
use mathlib.Core.Option.{some}
use lib.ListN.{get_elem?}
use Rattle.atomic_table.specs.Table.{State, Me, keeps, Allows, Splits, Joins}
use Rattle.atomic_table.proofs.Lists.{at_set, at_snoc, set_again}
use Rattle.k_types.specs.declared.event.Event.{Event}
use Rattle.k_tie.specs.declared.view.CellView.{CellView}
use Rattle.k_tie.specs.declared.view.View.{View}
use Rattle.k_tie.specs.declared.view.View.TheVariants.{Journal, Note, Spent}
use Rattle.k_tie.specs.Rule.{total_of, CellFits, CellsFit, ViewFits, times_among, times_in, one_if_journal, KeepsRule, Holds}
use Rattle.k_tie.specs.Steps.{cell_view, after_give, note_as_held, note_of_whole, after_touch, note_touched, after_take, after_append, IsToldOf}
use Rattle.k_tie.proofs.Totals.{one_if_same-swap, prefix_longer, total_apart, total_touched}
use Rattle.k_types.proofs.Places.{total_set_there, total_one, total_two}
use Rattle.k_types.proofs.Sums.{total_push, one_if_same-same}
use Rattle.k_types.specs.Counts.{one_if_same}

-- one view changes
pub kept_set : (ws : List ℕ) (vs : List View) (k : KeepsRule ws vs) (l : List Event) (t : List ℕ) (id : ℕ) (v w : View)
    → get_elem? vs id ≡ some v → one_if_journal w ≡ one_if_journal v → ((c : ℕ) → times_in c w ≡ times_in c v)
    → ((j : ℕ) (u : View) → j ≢ id → get_elem? vs j ≡ some u → ViewFits l t u) → ViewFits l t w
    → KeepsRule (length l ∷ []) (set vs id w)
kept_set ws vs k l t id v w at ones cells others mine = record {
  list = l;
  touches = t;
  word = refl;
  one_journal = (let s = total_set_there one_if_journal vs id v w at in let o = k.one_journal in omega arith);
  fits = λ j u e. ⊎_elim
      (λ (x : (j ≡ id) × (w ≡ u)). subst (ViewFits l t) x.1 mine)
      (λ (x : (j ≢ id) × (get_elem? vs j ≡ some u)). others j u x.0 x.1)
      (at_set vs id j w u e);
  distinct = λ c. let s = total_set_there (times_in c) vs id v w at in let a = k.distinct c in let h = cells c in omega arith;
}

-- a view is cut in two
pub kept_split : (ws : List ℕ) (vs : List View) (k : KeepsRule ws vs) (t : List ℕ) (id : ℕ) (v w x : View)
    → get_elem? vs id ≡ some v → one_if_journal w + one_if_journal x ≡ one_if_journal v → ((c : ℕ) → times_in c w + times_in c x ≡ times_in c v)
    → ((j : ℕ) (u : View) → j ≢ id → get_elem? vs j ≡ some u → ViewFits k.list t u) → ViewFits k.list t w → ViewFits k.list t x
    → KeepsRule ws (set vs id w ++ x ∷ [])
kept_split ws vs k t id v w x at ones cells others left right = record {
  list = k.list;
  touches = t;
  word = k.word;
  one_journal = (let s = total_set_there one_if_journal vs id v w at in let p = total_push one_if_journal (set vs id w) x in let o = k.one_journal in omega arith);
  fits = λ j u e. ⊎_elim
      (λ (was : get_elem? (set vs id w) j ≡ some u). ⊎_elim
      (λ (y : (j ≡ id) × (w ≡ u)). subst (ViewFits k.list t) y.1 left)
      (λ (y : (j ≢ id) × (get_elem? vs j ≡ some u)). others j u y.0 y.1)
      (at_set vs id j w u was))
      (λ (new : x ≡ u). subst (ViewFits k.list t) new right)
      (at_snoc (set vs id w) x u j e);
  distinct = λ c. let s = total_set_there (times_in c) vs id v w at in let p = total_push (times_in c) (set vs id w) x in let a = k.distinct c in let h = cells c in omega arith;
}

-- two views are made one
pub kept_join : (ws : List ℕ) (vs : List View) (k : KeepsRule ws vs) (id other : ℕ) (v u w : View)
    → get_elem? vs id ≡ some v → other ≢ id → get_elem? (set vs id w) other ≡ some u
    → one_if_journal w ≡ one_if_journal v + one_if_journal u → ((c : ℕ) → times_in c w ≡ times_in c v + times_in c u)
    → (ViewFits k.list k.touches v → ViewFits k.list k.touches u → ViewFits k.list k.touches w)
    → KeepsRule ws (set (set vs id w) other Spent)
kept_join ws vs k id other v u w at apart there ones cells both = record {
  list = k.list;
  touches = k.touches;
  word = k.word;
  one_journal = (let s = total_set_there one_if_journal vs id v w at in let p = total_set_there one_if_journal (set vs id w) other u Spent there in let o = k.one_journal in omega arith);
  fits = λ j y e. ⊎_elim
      (λ (x : (j ≡ other) × (Spent ≡ y)). subst (ViewFits k.list k.touches) x.1 tt)
      (λ (x : (j ≢ other) × (get_elem? (set vs id w) j ≡ some y)). ⊎_elim
      (λ (z : (j ≡ id) × (w ≡ y)). subst (ViewFits k.list k.touches) z.1 (both (k.fits id v at) theirs))
      (λ (z : (j ≢ id) × (get_elem? vs j ≡ some y)). k.fits j y z.1)
      (at_set vs id j w y x.1))
      (at_set (set vs id w) other j Spent y e);
  distinct = λ c. let s = total_set_there (times_in c) vs id v w at in let p = total_set_there (times_in c) (set vs id w) other u Spent there in let a = k.distinct c in let h = cells c in omega arith;
}
  where
    theirs : ViewFits k.list k.touches u
    theirs = ⊎_elim
        (λ (x : (other ≡ id) × (w ≡ u)). absurd (apart x.0))
        (λ (x : (other ≢ id) × (get_elem? vs other ≡ some u)). k.fits other u x.1)
        (at_set vs id other w u there)

-- beside the journal's view there are notes and spent views
others_fit : (l l' : List Event) (t t' : List ℕ) (u : View) → one_if_journal u ≡ 0 → ((h : CellView) → u ≡ Note h → CellFits l t h → CellFits l' t' h) → ViewFits l t u → ViewFits l' t' u
others_fit l l' t t' (Journal a b c) none go fits = absurd (omega arith)
others_fit l l' t t' (Note h) none go fits = go h refl fits
others_fit l l' t t' Spent none go fits = tt

no_other : (ws : List ℕ) (vs : List View) (k : KeepsRule ws vs) (id j : ℕ) (l : List Event) (t : List ℕ) (hs : List CellView) (u : View) → get_elem? vs id ≡ some (Journal l t hs) → j ≢ id → get_elem? vs j ≡ some u → one_if_journal u ≡ 0
no_other ws vs k id j l t hs u at n e = let p = total_two one_if_journal vs id j (Journal l t hs) u at e n in let o = k.one_journal in omega arith

-- a load tells of the cells in cell_view
pub looks : (ws : List ℕ) (vs : List View) (k : KeepsRule ws vs) (id : ℕ) (v : View) → get_elem? vs id ≡ some v → IsToldOf v
looks ws vs k id (Journal l t hs) at =
    let f = k.fits id (Journal l t hs) at in
    (subst (λ (p : List Event × List ℕ). CellsFit p.0 p.1 hs) (λ i. (sym f.0 i, sym f.1 i)) f.2, λ c. let o = total_one (times_in c) vs id (Journal l t hs) at in let a = k.distinct c in omega arith)
looks ws vs k id (Note h) at = tt
looks ws vs k id Spent at = tt

pub load_allows : (slots id : ℕ) (me : Me (Unit {0}) View) → Allows Holds slots id me 0 (λ n. n) (λ _ w. (w ≡ me) × IsToldOf me.0)
load_allows slots id me s h counts at fits =
    let n = slice_index s.words 0 in
    (me.0, keeps, tt, same s h me.0 at, (λ i. (me.0, me.1), looks s.words s.views h id me.0 at))
  where
    same : (s : State (Unit {0}) View) (h : KeepsRule s.words s.views) (v : View) → get_elem? s.views id ≡ some v → KeepsRule (set s.words 0 (slice_index s.words 0)) (set s.views id v)
    same s h v at =
        let P : List ℕ → Type 0 = λ ws. KeepsRule (set ws 0 (slice_index ws 0)) (set s.views id v) in
        subst P (sym h.word) (subst (KeepsRule (length h.list ∷ [])) (sym (set_again s.views id v at)) (subst (λ ws. KeepsRule ws s.views) h.word h))

pub prefix_all : {A : Type 0} (xs : List A) → IsPrefixOf xs xs
prefix_all [] = ([], refl)
prefix_all (x ∷ xs) = let p = prefix_all xs in (p.0, ap (λ ys. x ∷ ys) p.1)

-- whatever stands behind the cut, nothing is lost
nothing_given : (id : ℕ) (v : View) → Splits Holds id v v Spent
nothing_given id v s k at = kept_split s.words s.views k k.touches id v v Spent at (omega arith) (λ c. omega arith) (λ j u _ e. k.fits j u e) (k.fits id v at) tt

pub gives : (id : ℕ) (v : View) → Splits Holds id v (after_give v) (note_as_held v)
gives id (Journal l t []) = nothing_given id (Journal l t [])
gives id (Journal l t (h ∷ hs)) = λ s k at.
    let f = k.fits id (Journal l t (h ∷ hs)) at in
    kept_split s.words s.views k k.touches id (Journal l t (h ∷ hs)) (Journal l t hs) (Note h) at refl (λ c. omega arith) (λ j u _ e. k.fits j u e) (f.0, f.1, f.2.1) f.2.0
gives id (Note h) = nothing_given id (Note h)
gives id Spent = nothing_given id Spent

pub gives_whole : (id : ℕ) (v : View) → Splits Holds id v (after_give v) (note_of_whole v)
gives_whole id (Journal l t []) = nothing_given id (Journal l t [])
gives_whole id (Journal l t (h ∷ hs)) = λ s k at.
    let f = k.fits id (Journal l t (h ∷ hs)) at in
    let new : CellFits k.list k.touches (cell_view h.cell l h.share) = (subst (λ m. IsPrefixOf l m) f.0 (prefix_all l), f.2.0.1) in
    kept_split s.words s.views k k.touches id (Journal l t (h ∷ hs)) (Journal l t hs) (Note (cell_view h.cell l h.share)) at refl (λ c. omega arith) (λ j u _ e. k.fits j u e) (f.0, f.1, f.2.1) new
gives_whole id (Note h) = nothing_given id (Note h)
gives_whole id Spent = nothing_given id Spent

-- touches of another cell
fits_touched : (n : ℕ) (l : List Event) (t : List ℕ) (c : ℕ) (h : CellView) → one_if_same h.cell c ≡ 0 → CellFits l t h → CellFits l (replicate n c ++ t) h
fits_touched n l t c h other f = (f.0, f.1 ∙ sym (total_apart n t c h.cell (one_if_same-swap h.cell c other)))

all_touched : (n : ℕ) (l : List Event) (t : List ℕ) (c : ℕ) (hs : List CellView) → times_among c hs ≡ 0 → CellsFit l t hs → CellsFit l (replicate n c ++ t) hs
all_touched n l t c [] none f = tt
all_touched n l t c (h ∷ hs) none f = (fits_touched n l t c h (omega arith) f.0, all_touched n l t c hs (omega arith) f.1)

pub touches_it : (n id : ℕ) (v : View) → Splits Holds id v (after_touch n v) (note_touched n v)
touches_it n id (Journal l t []) = nothing_given id (Journal l t [])
touches_it n id (Journal l t (h ∷ hs)) = λ s k at.
    let v = Journal l t (h ∷ hs) in
    let c = h.cell in
    let f = k.fits id v at in
    let here : one_if_same h.cell c ≡ 1 = one_if_same-same c in
    let once = k.distinct c in
    let mine = total_one (times_in c) s.views id v at in
    let ts : replicate n c ++ t ≡ replicate n c ++ k.touches = ap (λ (m : List ℕ). replicate n c ++ m) f.1 in
    let share : h.share + n ≡ total_of (replicate n c ++ k.touches) c = ap (λ m. m + n) f.2.0.1 ∙ sym (total_touched n k.touches c) in
    kept_split s.words s.views k (replicate n c ++ k.touches) id v (Journal l (replicate n c ++ t) hs) (Note (cell_view c h.list (h.share + n))) at refl (λ d. omega arith)
    (λ j u ne e. others_fit k.list k.list k.touches (replicate n c ++ k.touches) u (no_other s.words s.views k id j l t (h ∷ hs) u at ne e)
    (λ g is fits. fits_touched n k.list k.touches c g (let two = total_two (times_in c) s.views id j v u at e ne in let same : times_in c u ≡ one_if_same g.cell c = ap (times_in c) is in omega arith) fits)
    (k.fits j u e))
    (f.0, ts, all_touched n k.list k.touches c hs (omega arith) f.2.1)
    (f.2.0.0, share)
touches_it n id (Note h) = nothing_given id (Note h)
touches_it n id Spent = nothing_given id Spent

joined : (s : State (Unit {0}) View) (k : Holds s) (id other : ℕ) (l : List Event) (t : List ℕ) (hs : List CellView) (u : View)
    → get_elem? s.views id ≡ some (Journal l t hs) → other ≢ id → get_elem? (set s.views id (after_take (Journal l t hs) u)) other ≡ some u
    → KeepsRule s.words (set (set s.views id (after_take (Journal l t hs) u)) other Spent)
joined s k id other l t hs (Note h) at n there =
    kept_join s.words s.views k id other (Journal l t hs) (Note h) (Journal l t (h ∷ hs)) at n there (omega arith) (λ c. omega arith) (λ mine theirs. (mine.0, mine.1, (theirs, mine.2)))
joined s k id other l t hs Spent at n there =
    kept_join s.words s.views k id other (Journal l t hs) Spent (Journal l t hs) at n there (omega arith) (λ c. omega arith) (λ mine theirs. mine)
joined s k id other l t hs (Journal a b c) at n there =
    let e : get_elem? s.views other ≡ some (Journal a b c) = ⊎_elim
    (λ (x : (other ≡ id) × (Journal l t hs ≡ Journal a b c)). absurd (n x.0))
    (λ (x : (other ≢ id) × (get_elem? s.views other ≡ some (Journal a b c))). x.1)
    (at_set s.views id other (Journal l t hs) (Journal a b c) there) in
    absurd (let z = no_other s.words s.views k id other l t hs (Journal a b c) at n e in omega arith)

pub takes : (id other : ℕ) (v u : View) (l : List Event) (t : List ℕ) (hs : List CellView) → v ≡ Journal l t hs → Joins Holds id v other u (after_take v u) Spent
takes id other v u l t hs is =
    let P : View → Type 0 = λ x. Joins Holds id x other u (after_take x u) Spent in
    subst P (sym is) (λ s k at n there. joined s k id other l t hs u at n there)

-- events are added
pub append_allows : (slots : ℕ) (es : List Event) (k : ℕ) (id : ℕ) (me : Me (Unit {0}) View) (l : List Event) (t : List ℕ) → me.0 ≡ Journal l t [] → k ≡ length es → length l + length es < 2 ^ 64
    → Allows Holds slots id me 0 (λ n. (n + k) % 2 ^ 64) (λ _ w. w ≡ (after_append es me.0, me.1))
append_allows slots es k id me l t is number room s h counts at fits =
    let w = Journal (l ++ es) t [] in
    let at' : get_elem? s.views id ≡ some (Journal l t []) = at ∙ ap some is in
    (w, keeps, tt, grown s h at', (λ i. (ap (after_append es) (sym is) i, me.1)))
  where
    grown : (s : State (Unit {0}) View) (h : Holds s) → get_elem? s.views id ≡ some (Journal l t [])
        → KeepsRule (set s.words 0 ((slice_index s.words 0 + k) % 2 ^ 64)) (set s.views id (Journal (l ++ es) t []))
    grown s h at =
        let f = h.fits id (Journal l t []) at in
        let v = Journal l t [] in
        let w = Journal (l ++ es) t [] in
        let l' = h.list ++ es in
        let kept = kept_set s.words s.views h l' h.touches id v w at refl (λ c. refl)
        (λ j u n at'. others_fit h.list l' h.touches h.touches u (no_other s.words s.views h id j l t [] u at n at') (λ g _ fits. (prefix_longer g.list h.list es fits.0, fits.1)) (h.fits j u at'))
        (ap (λ (m : List Event). m ++ es) f.0, f.1, tt) in
        let P : List ℕ → Type 0 = λ ws. KeepsRule (set ws 0 ((slice_index ws 0 + k) % 2 ^ 64)) (set s.views id w) in
        let few : length h.list + length es < 2 ^ 64 = subst (λ (m : List Event). length m + length es < 2 ^ 64) f.0 room in
        let n : length l' ≡ (length h.list + k) % 2 ^ 64 = wrapped (length h.list) (length es) k (length l') (length-append h.list es) number few in
        subst P (sym h.word) (subst (λ (m : ℕ). KeepsRule (m ∷ []) (set s.views id w)) n kept)
      where
        wrapped : (n more k m : ℕ) → m ≡ n + more → k ≡ more → n + more < 2 ^ 64 → m ≡ (n + k) % 2 ^ 64
        wrapped n more k m e same lt = omega arith
