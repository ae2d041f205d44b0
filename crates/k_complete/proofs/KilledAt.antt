-- The kill of the process of one number by that of another, whose places are in the two parts of a list that was cut at the higher one.
use Rattle.std.proofs.Common.{◌≡◌, ◌<◌, ◌++◌, ℕ, sym, ap, ◌∙◌, subst, List, length, set, get_or, Some, slice_get, arith}
use Rattle.k_types.specs.declared.op.Op.{Op}
use Rattle.k_book.specs.Books.{BookRecord}
use Rattle.k_cell.specs.Holdings.{HoldingsValue}
use Rattle.k_operate.specs.k_process.declared.process.Process.{Process}
use Rattle.k_operate.specs.k_process.Worlds.{WorldValue}
use Rattle.k_operate.specs.Adding.{AddsOperation, known_to}
use Rattle.k_operate.specs.Killing.{CanKillNow, HasDoneKill, known_to_both}
use Rattle.k_complete.specs.Placed.{HasKilledAt}
use Rattle.k_complete.proofs.Halves.{back_read, front_read, set_high, set_low}

-- what is lent is what the list holds
module _ (world : WorldValue) (ps : List Process) (at target : ℕ) (p t : Process) (k : HoldingsValue) (b : BookRecord) (op : Op) (x y : Process) (own : x ≡ p) (other : y ≡ t) where
  both_can : CanKillNow world p t k b op → CanKillNow world x y k b op
  both_can can = subst (λ (q : Process). CanKillNow world q y k b op) (sym own) (subst (λ (q : Process). CanKillNow world p q k b op) (sym other) can)

  both_killed : (new : List Process) (q u : Process) (z : HoldingsValue) (l : BookRecord) → new ≡ set (set ps at q) target u → HasDoneKill world op x q y u z l →
      AddsOperation world.trace x.cell.pid op (known_to_both x y b) (known_to q l) → HasKilledAt world op at target p t ps new z b l
  both_killed new q u z l is done adds = record {
    process = q;
    other = u;
    new_is = is;
    done = subst (λ (r : Process). HasDoneKill world op r q t u z l) own (subst (λ (r : Process). HasDoneKill world op x q r u z l) other done);
    events = subst (λ (r : Process). AddsOperation world.trace r.cell.pid op (known_to_both r t b) (known_to q l)) own
        (subst (λ (r : Process). AddsOperation world.trace x.cell.pid op (known_to_both x r b) (known_to q l)) other adds);
  }

module _ (world : WorldValue) (ps front back : List Process) (at target : ℕ) (p t : Process) (k : HoldingsValue) (b : BookRecord) (op : Op) (cut : ps ≡ front ++ back)
    (own : slice_get ps at ≡ Some p) (other : slice_get ps target ≡ Some t) (x y : Process) where
  own_cut : slice_get (front ++ back) at ≡ Some p
  own_cut = ap (λ (qs : List Process). slice_get qs at) (sym cut) ∙ own

  other_cut : slice_get (front ++ back) target ≡ Some t
  other_cut = ap (λ (qs : List Process). slice_get qs target) (sym cut) ∙ other

  -- the target is the first of the back
  module _ (long : length front ≡ target) (inside : at < target) where
    low_own : get_or front at x ≡ p
    low_own = front_read front back at p x own_cut (omega (arith, long, inside))

    low_other : get_or back 0 y ≡ t
    low_other = back_read front back target t y long other_cut

    pub low_can : CanKillNow world p t k b op → CanKillNow world (get_or front at x) (get_or back 0 y) k b op
    low_can can = both_can world ps at target p t k b op (get_or front at x) (get_or back 0 y) low_own low_other can

    pub low_killed : (q u : Process) (z : HoldingsValue) (l : BookRecord) → HasDoneKill world op (get_or front at x) q (get_or back 0 y) u z l →
        AddsOperation world.trace (get_or front at x).cell.pid op (known_to_both (get_or front at x) (get_or back 0 y) b) (known_to q l) →
        HasKilledAt world op at target p t ps (set front at q ++ set back 0 u) z b l
    low_killed q u z l done adds =
        both_killed world ps at target p t k b op (get_or front at x) (get_or back 0 y) low_own low_other (set front at q ++ set back 0 u) q u z l
        (set_low front back at target q u long inside ∙ ap (λ (qs : List Process). set (set qs at q) target u) (sym cut)) done adds

  -- or the killer is
  module _ (long : length front ≡ at) (inside : target < at) where
    high_own : get_or back 0 y ≡ p
    high_own = back_read front back at p y long own_cut

    high_other : get_or front target x ≡ t
    high_other = front_read front back target t x other_cut (omega (arith, long, inside))

    pub high_can : CanKillNow world p t k b op → CanKillNow world (get_or back 0 y) (get_or front target x) k b op
    high_can can = both_can world ps at target p t k b op (get_or back 0 y) (get_or front target x) high_own high_other can

    pub high_killed : (q u : Process) (z : HoldingsValue) (l : BookRecord) → HasDoneKill world op (get_or back 0 y) q (get_or front target x) u z l →
        AddsOperation world.trace (get_or back 0 y).cell.pid op (known_to_both (get_or back 0 y) (get_or front target x) b) (known_to q l) →
        HasKilledAt world op at target p t ps (set front target u ++ set back 0 q) z b l
    high_killed q u z l done adds =
        both_killed world ps at target p t k b op (get_or back 0 y) (get_or front target x) high_own high_other (set front target u ++ set back 0 q) q u z l
        (set_high front back target at q u long inside ∙ ap (λ (qs : List Process). set (set qs at q) target u) (sym cut)) done adds
