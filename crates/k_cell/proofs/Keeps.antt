-- What is kept, as it is seen after a change elsewhere.
use Rattle.std.proofs.Common.{◌≡◌, ◌↔◌, ◌&&◌, ◌≤◌, ℕ, Bool, true, false, refl, sym, ap, subst, ◌∙◌, List, length, take, is_some}
use Rattle.std.proofs.lemmas.Bool.{and_parts, false≢true}
use Rattle.k_mark.specs.k_types.declared.names.Name.{Name}
use Rattle.k_mark.specs.k_types.Names.{name_among}
use Rattle.k_mark.specs.k_space.declared.bound.Bound.{Bound}
use Rattle.k_mark.specs.k_space.Bounds.{is_covered, nothing}
use Rattle.k_mark.specs.k_space.Areas.{AreaValue, fields_at, is_foreign}
use Rattle.k_mark.proofs.Segs.{uncovered}
use Rattle.k_mark.specs.k_exit.Exits.{ExitRow, targets}
use Rattle.k_mark.specs.Reached.{IsReached, begins, follows}
use Rattle.k_mark.specs.Kept.{IsKept, IsLedTo, old_at}
use Rattle.k_mark.specs.Marking.{lives_at, refers_at, some_lead_to}
use Rattle.k_cell.specs.Carried.{IsWhole, known_bound}

-- of the same objects that refer to the same
kept_of_reached : {kept : Name → Bool} {refers : Name → Name → Bool} {start : Name → Bool} (n : Name) → IsReached kept refers start n → kept n ≡ true
kept_of_reached _ (begins n s l) = l
kept_of_reached _ (follows a n r ref l) = l

pub reached_same : (kept others : Name → Bool) (refers leads : Name → Name → Bool) (start : Name → Bool) → ((n : Name) → others n ≡ kept n) → ((n m : Name) → kept n ≡ true → leads n m ≡ refers n m) → (n : Name) → IsReached kept refers start n →
    IsReached others leads start n
reached_same kept others refers leads start same alike _ (begins n s l) = begins n s (same n ∙ l)
reached_same kept others refers leads start same alike _ (follows a n r ref l) =
    follows a n (reached_same kept others refers leads start same alike a r) (alike a n (kept_of_reached a r) ∙ ref) (same n ∙ l)

pub same_kept : (kept others : Name → Bool) (refers leads : Name → Name → Bool) (start : Name → Bool) (below : Bound) → ((n : Name) → others n ≡ kept n) → ((n m : Name) → kept n ≡ true → leads n m ≡ refers n m) → IsKept kept refers start below →
    IsKept others leads start below
same_kept kept others refers leads start below same alike was = record {
  low = λ n e. was.low n (sym (same n) ∙ e);
  closed = λ n m e ref. was.closed n m (sym (same n) ∙ e) (sym (alike n m (sym (same n) ∙ e)) ∙ ref);
  reached = λ n e. reached_same kept others refers leads start same alike n (was.reached n (sym (same n) ∙ e));
}

-- from other roots, among which are these
reached_from : (kept : Name → Bool) (refers : Name → Name → Bool) (start others : Name → Bool) → ((n : Name) → start n ≡ true → kept n ≡ true → others n ≡ true) → (n : Name) → IsReached kept refers start n → IsReached kept refers others n
reached_from kept refers start others more _ (begins n s l) = begins n (more n s l) l
reached_from kept refers start others more _ (follows a n r ref l) = follows a n (reached_from kept refers start others more a r) ref l

pub kept_from : (kept : Name → Bool) (refers : Name → Name → Bool) (start others : Name → Bool) (below : Bound) → ((n : Name) → start n ≡ true → kept n ≡ true → others n ≡ true) → IsKept kept refers start below → IsKept kept refers others below
kept_from kept refers start others below more was = record { low = was.low; closed = was.closed; reached = λ n e. reached_from kept refers start others more n (was.reached n e) }

-- of objects below a serial, in another area
pub old_same : (a new : AreaValue) (below : Bound) → ((n : Name) → is_covered below n ≡ true → lives_at new n ≡ lives_at a n) → (n : Name) → old_at new below n ≡ old_at a below n
old_same a new below lives n = by_bound (is_covered below n) refl
  where
    none : (b : Bool) → (b && false) ≡ false
    none true = refl
    none false = refl

    by_bound : (b : Bool) → is_covered below n ≡ b → (lives_at new n && is_covered below n) ≡ (lives_at a n && is_covered below n)
    by_bound true e = ap (λ b. b && is_covered below n) (lives n e)
    by_bound false e = ap (λ b. lives_at new n && b) e ∙ none (lives_at new n) ∙ sym (ap (λ b. lives_at a n && b) e ∙ none (lives_at a n))

pub same_below_kept : (a new : AreaValue) (start : Name → Bool) (below : Bound) → ((n : Name) → is_covered below n ≡ true → lives_at new n ≡ lives_at a n) → ((n m : Name) → is_covered below n ≡ true → refers_at new n m ≡ refers_at a n m) →
    IsKept (old_at a below) (refers_at a) start below → IsKept (old_at new below) (refers_at new) start below
same_below_kept a new start below lives refers was = same_kept (old_at a below) (old_at new below) (refers_at a) (refers_at new) start below (old_same a new below lives) (λ n m e. refers n m (was.low n e)) was

pub same_fields_kept : (a new : AreaValue) (start : Name → Bool) (below : Bound) → ((n : Name) → is_covered below n ≡ true → fields_at new n ≡ fields_at a n) → IsKept (old_at a below) (refers_at a) start below → IsKept (old_at new below) (refers_at new) start below
same_fields_kept a new start below same was = same_below_kept a new start below (λ n low. ap is_some (same n low)) (λ n m low. ap (λ o. some_lead_to o m) (same n low)) was

-- what is not covered was not kept
pub not_old : (a : AreaValue) (below : Bound) (n : Name) → is_covered below n ≡ false → old_at a below n ≡ true → ⊥
not_old a below n off e = false≢true (sym off ∙ (and_parts (lives_at a n) (is_covered below n) e).1)

pub none_old : (a : AreaValue) (own : ℕ) (n : Name) → old_at a (nothing own) n ≡ true → ⊥
none_old a own n e = not_old a (nothing own) n (uncovered own n) e

pub none_kept : (a : AreaValue) (own : ℕ) (start : Name → Bool) → IsKept (old_at a (nothing own)) (refers_at a) start (nothing own)
none_kept a own start = record { low = λ n e. absurd (none_old a own n e); closed = λ n m e ref. absurd (none_old a own n e); reached = λ n e. absurd (none_old a own n e) }

pub known_kept : (a : AreaValue) (known : Bool) (below : Bound) (start : Name → Bool) → (known ≡ true → IsKept (old_at a below) (refers_at a) start below) → IsKept (old_at a (known_bound known below)) (refers_at a) start (known_bound known below)
known_kept a true below start kept = kept refl
known_kept a false below start kept = none_kept a below.own.0 start

-- the exit items to which objects refer, in another area
pub led_from : (a new : AreaValue) (these others : Name → Bool) → ((n : Name) → others n ≡ these n) → ((n m : Name) → these n ≡ true → refers_at new n m ≡ refers_at a n m) → ((n : Name) → is_foreign new n ≡ is_foreign a n) → (t : Name) →
    IsLedTo a these t ↔ IsLedTo new others t
led_from a new these others same alike far t = (
  λ l. record { from = l.from; one = same l.from ∙ l.one; refers = alike l.from t l.one ∙ l.refers; foreign = far t ∙ l.foreign },
  λ l. record { from = l.from; one = sym (same l.from) ∙ l.one; refers = sym (alike l.from t (sym (same l.from) ∙ l.one)) ∙ l.refers; foreign = sym (far t) ∙ l.foreign },
)

pub through : {A B C : Type 0} → A ↔ B → B ↔ C → A ↔ C
through f g = (λ x. g.0 (f.0 x), λ z. f.1 (g.1 z))

-- all that is known, in another area
pub whole_same : (a new : AreaValue) (items others : List ExitRow) (below : Bound) (first : ℕ) (roots : List Name) → ((n : Name) → is_covered below n ≡ true → lives_at new n ≡ lives_at a n) → ((n m : Name) → is_covered below n ≡ true → refers_at new n m ≡ refers_at a n m) →
    ((n : Name) → is_foreign new n ≡ is_foreign a n) → (first ≤ length items → first ≤ length others) → (first ≤ length items → take first (targets others) ≡ take first (targets items)) → IsWhole a items below first roots → IsWhole new others below first roots
whole_same a new items others below first roots lives refers far most names was = record {
  kept = same_below_kept a new (λ n. name_among n roots) below lives refers was.kept;
  most = most was.most;
  led = λ n.
      through (subst (λ (ns : List Name). (name_among n ns ≡ true) ↔ IsLedTo a (old_at a below) n) (sym (names was.most)) (was.led n))
      (led_from a new (old_at a below) (old_at new below) (old_same a new below lives) (λ k m e. refers k m (was.kept.low k e)) far n);
}

pub fields_whole : (a new : AreaValue) (items : List ExitRow) (below : Bound) (first : ℕ) (roots : List Name) → ((n : Name) → is_covered below n ≡ true → fields_at new n ≡ fields_at a n) → ((n : Name) → is_foreign new n ≡ is_foreign a n) → IsWhole a items below first roots →
    IsWhole new items below first roots
fields_whole a new items below first roots same far was = whole_same a new items items below first roots (λ n low. ap is_some (same n low)) (λ n m low. ap (λ o. some_lead_to o m) (same n low)) far (λ e. e) (λ e. refl) was
