-- The end of a collection and the end of a process, change by change.
use Rattle.std.proofs.Common.{◌≡◌, ℕ, ◌==◌, not, Bool, sym, ap, ◌∙◌, List, map, length, Option}
use Rattle.std.proofs.lemmas.List.{length-map}
use Rattle.k_types.specs.declared.names.Name.{Name}
use Rattle.k_types.specs.declared.names.Heap.{Heap}
use Rattle.k_types.specs.Effects.{after_end_of, after_ended, exit_after, exit_stays, share_stays, survives}
use Rattle.k_types.specs.State.{ExitItem, Sharing, State}
use Rattle.k_types.specs.Trace.{Trace}
use Rattle.k_types.specs.Updates.{clear_registers, close_scan, end_process, keep_exits, keep_objects, keep_shares, turn_exits}
use Rattle.k_state.specs.Marks.{turned_items}

pub same_exits : (passes : Name → Bool) (st now : State) → now ≡ keep_objects passes st → now.exits ≡ st.exits
unfolding keep_objects
same_exits passes st now is = ap (λ (s : State). s.exits) is

pub same_shares : (passes : Name → Bool) (keeps : ExitItem → Bool) (st between now : State) → between ≡ keep_objects passes st → now ≡ keep_exits keeps between → now.shares ≡ st.shares
unfolding keep_objects keep_exits
same_shares passes keeps st between now first then = ap (λ (s : State). s.shares) then ∙ ap (λ (s : State). s.shares) first

module _ (trace : Trace) (h : Heap) (st first second third last : State) (exits shares : List Bool)
    (items : exits ≡ map (exit_stays trace st h) st.exits) (those : shares ≡ map (share_stays trace st h) st.shares)
    (first_is : first ≡ keep_objects (survives trace st h) st) where
  pub exits_fit : length exits ≡ length first.exits
  exits_fit = ap length items ∙ length-map st.exits (exit_stays trace st h) ∙ ap (λ (xs : List ExitItem). length xs) (sym (same_exits (survives trace st h) st first first_is))

  module _ (held : (passes : ExitItem → Bool) → exits ≡ map passes first.exits → second ≡ keep_exits passes first) where
    second_is : second ≡ keep_exits (exit_stays trace st h) first
    second_is = held (exit_stays trace st h) (items ∙ ap (map (exit_stays trace st h)) (sym (same_exits (survives trace st h) st first first_is)))

    shares_are : second.shares ≡ st.shares
    shares_are = same_shares (survives trace st h) (exit_stays trace st h) st first second first_is second_is

    pub shares_fit : length shares ≡ length second.shares
    shares_fit = ap length those ∙ length-map st.shares (share_stays trace st h) ∙ ap (λ (xs : List Sharing). length xs) (sym shares_are)

    pub collection_ends : ((passes : Sharing → Bool) → shares ≡ map passes second.shares → third ≡ keep_shares passes second) → last ≡ close_scan h third → last ≡ after_ended trace h st
    unfolding after_ended
    collection_ends paid closed =
        closed
        ∙ ap (close_scan h)
        (paid (share_stays trace st h) (those ∙ ap (map (share_stays trace st h)) (sym shares_are))
        ∙ ap (keep_shares (share_stays trace st h)) (second_is ∙ ap (keep_exits (exit_stays trace st h)) first_is))

abbrev pub of_others : ℕ → Sharing → Bool
of_others p e = not (e.process == p)

module _ (trace : Trace) (p : ℕ) (st first second third last : State) (heaps : List (Option Heap)) (shares : List Bool) (turned : turned_items heaps st.exits ≡ map (exit_after trace st p) st.exits)
    (those : shares ≡ map (of_others p) st.shares) (ended : first ≡ end_process p st) where
  pub exits_still : first.exits ≡ st.exits
  unfolding end_process
  exits_still = ap (λ (s : State). s.exits) ended

  module _ (passed : (f : ExitItem → Option ExitItem) → turned_items heaps first.exits ≡ map f first.exits → second ≡ turn_exits f first) where
    turned_is : second ≡ turn_exits (exit_after trace st p) first
    turned_is = passed (exit_after trace st p) (ap (turned_items heaps) exits_still ∙ turned ∙ ap (map (exit_after trace st p)) (sym exits_still))

    pub shares_still : second.shares ≡ st.shares
    unfolding end_process turn_exits
    shares_still = ap (λ (s : State). s.shares) turned_is ∙ ap (λ (s : State). s.shares) ended

    pub process_ends : ((passes : Sharing → Bool) → shares ≡ map passes second.shares → third ≡ keep_shares passes second) → last ≡ clear_registers p third → last ≡ after_end_of trace p st
    unfolding after_end_of end_process clear_registers keep_shares turn_exits
    process_ends paid cleared =
        cleared
        ∙ ap (clear_registers p)
        (paid (of_others p) (those ∙ ap (map (of_others p)) (sym shares_still))
        ∙ ap (keep_shares (of_others p)) (turned_is ∙ ap (turn_exits (exit_after trace st p)) ended))
