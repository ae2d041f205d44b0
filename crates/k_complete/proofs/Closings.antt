-- What absorptions and the last collection of the kernel leave of processes and shared heaps.
use Rattle.std.proofs.Common.{◌≡◌, ℕ, ◌<◌, ◌&&◌, not, Bool, true, false, refl, sym, ap, ap₂, ◌∙◌, List, [], ◌∷◌, find, map, arith}
use Rattle.std.specs.List.{list_all}
use Rattle.std.proofs.Math.Path.{fun_ext}
use Rattle.std.proofs.lemmas.Bool.{false_from_ne_true, false≢true}
use Rattle.k_types.specs.declared.event.Event.{Event}
use Rattle.k_types.specs.declared.event.Event.TheVariants.{Done, Ended, Absorbed, Closing}
use Rattle.k_types.specs.declared.names.Heap.{Heap}
use Rattle.k_types.specs.declared.names.Heap.TheVariants.{Kernel}
use Rattle.k_types.specs.Effects.{after_absorbed, after_closing, after_ended, share_stays, step}
use Rattle.k_types.specs.FileOrder.{end_of}
use Rattle.k_types.specs.Following.{is_closing}
use Rattle.k_types.specs.Numbers.{numbers_below}
use Rattle.k_types.specs.Owners.{phase_of}
use Rattle.k_types.specs.State.{Sharing, State}
use Rattle.k_types.specs.Steps.{IsLegalHistory, IsPossible, has_sharer, is_live, is_orphan, run, state_after}
use Rattle.k_types.specs.Trace.{Trace}
use Rattle.k_types.specs.Updates.{close, close_scan, keep_exits, keep_objects, keep_shares, open_scan, set_phase}
use Rattle.k_types.proofs.Numbered.{all_at_below}
use Rattle.k_laws.specs.Counts.{closing_count, one_if}
use Rattle.k_laws.proofs.AbsorbedCounts.{closings}
use Rattle.k_laws.proofs.FileOrders.{all_kept}

-- phases and shares are the same
record HasSameSharing (st su : State) : Type 0 where
  phases : su.phases ≡ st.phases
  shares : su.shares ≡ st.shares

module _ (trace : Trace) where
  absorption_ends_none : (st : State) (s : ℕ) → (step trace st (Absorbed (record { 0 = s }))).ended ≡ st.ended
  unfolding step after_absorbed set_phase keep_exits
  absorption_ends_none st s = refl

  -- absorptions end no process
  pub absorptions_end_none : (ss : List ℕ) (st : State) → (run trace st (map (λ s. Absorbed (record { 0 = s })) ss)).ended ≡ st.ended
  absorptions_end_none [] st = refl
  absorptions_end_none (s ∷ ss) st = absorptions_end_none ss (step trace st (Absorbed (record { 0 = s }))) ∙ absorption_ends_none st s

  closing_leaves : (st : State) → HasSameSharing st (step trace st Closing)
  unfolding step after_closing close open_scan
  closing_leaves st = record { phases = refl; shares = refl }

  end_leaves : (st : State) (objects bytes exits shares : ℕ) → HasSameSharing st (step trace st (Ended Kernel objects bytes exits shares))
  unfolding step after_ended close_scan keep_shares keep_exits keep_objects share_stays
  end_leaves st objects bytes exits shares = record { phases = refl; shares = all_kept (share_stays trace st Kernel) (λ e. refl) st.shares }

  same_orphans : (st su : State) → HasSameSharing st su → (s : ℕ) → is_orphan su s ≡ is_orphan st s
  same_orphans st su same s = ap₂ (λ phases (shares : List Sharing). is_live (phase_of phases s) && not (has_sharer shares s)) same.phases same.shares

  -- the last collection makes no orphan
  pub orphans_stay : (st : State) (objects bytes exits shares : ℕ) (ns : List ℕ) →
      find (is_orphan (step trace (step trace st Closing) (Ended Kernel objects bytes exits shares))) ns ≡ find (is_orphan st) ns
  orphans_stay st objects bytes exits shares ns =
      let closed : State = step trace st Closing in
      ap (λ (test : ℕ → Bool). find test ns)
      (fun_ext (λ s. same_orphans closed (step trace closed (Ended Kernel objects bytes exits shares)) (end_leaves closed objects bytes exits shares) s ∙ same_orphans st closed (closing_leaves st) s))

  -- the end of a collection that is possible is the one of the file's order
  pub end_is : (st : State) (heap : Heap) (objects bytes exits shares : ℕ) → IsPossible trace st (Ended heap objects bytes exits shares) → Ended heap objects bytes exits shares ≡ end_of trace st heap
  end_is st heap objects bytes exits shares may = λ i. Ended heap (may.objects_gone i) (may.bytes_gone i) (may.exits_gone i) (may.shares_gone i)

  -- where no event is the closing, the last collection has not begun
  pub still_open : (history : List Event) → IsLegalHistory trace history → list_all (λ event. not (is_closing event)) history ≡ true → (state_after trace history).closed ≡ false
  still_open history legal none = not_one (state_after trace history).closed (let count = closings trace history legal in let zero = no_closings history none in omega (arith, count, zero))
    where
      not_one : (b : Bool) → one_if b ≡ 0 → b ≡ false
      not_one true e = absurd (omega (arith, e))
      not_one false e = refl

      no_closings : (events : List Event) → list_all (λ event. not (is_closing event)) events ≡ true → closing_count events ≡ 0
      no_closings [] all = refl
      no_closings (Done pid op said ∷ events) all = let rest = no_closings events all in omega (arith, rest)
      no_closings (Ended h a b c d ∷ events) all = let rest = no_closings events all in omega (arith, rest)
      no_closings (Absorbed s ∷ events) all = let rest = no_closings events all in omega (arith, rest)
      no_closings (Closing ∷ events) all = absurd (false≢true all)

-- where one fails, not all pass
pub all_fails : (f : ℕ → Bool) (n k : ℕ) → k < n → f k ≡ false → list_all f (numbers_below n) ≡ false
all_fails f n k inside fails = false_from_ne_true (list_all f (numbers_below n)) (λ t. false≢true (sym fails ∙ all_at_below f n k t inside))
