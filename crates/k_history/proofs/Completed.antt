-- A history that is begun is complete, or not.
use Rattle.std.proofs.Common.{◌≡◌, ◌∙◌, ℕ, zero, suc, ◌+◌, ◌<◌, Bool, true, false, List, [], ◌∷◌, ◌++◌, length, refl, sym, ap, subst, arith, inl, inr, length-append}
use Rattle.std.specs.Prelude.{IsFalse}
use Rattle.std.proofs.lemmas.Bool.{cases_lt}
use Rattle.std.proofs.lemmas.List.{append-nil}
use Rattle.k_types.specs.declared.names.Heap.TheVariants.{Kernel, User, Shared}
use Rattle.k_types.specs.declared.op.Op.{Op}
use Rattle.k_types.specs.declared.event.Event.{Event}
use Rattle.k_types.specs.declared.event.Event.TheVariants.{Done, Ended, Absorbed, Closing}
use Rattle.k_types.specs.Names.{among}
use Rattle.k_types.specs.Trace.{Trace, process_count, operations_of}
use Rattle.k_types.specs.State.{Scan}
use Rattle.k_types.specs.Steps.{state_after, done_by, no_orphan}
use Rattle.k_types.specs.Complete.{all_ended, EndsWithClosing, IsComplete}
use Rattle.k_reports.specs.Begun.{IsBegun}
use Rattle.k_history.proofs.Possible.{Decided, decide_true, decide_both, decide_as}

-- What is decided for each number below a bound is decided for all.
all_below : (n : ℕ) (Q : ℕ → Type 0) → ((p : ℕ) → p < n → Decided (Q p)) → Decided ((p : ℕ) → p < n → Q p)
all_below zero Q d = inl (λ p lt. absurd (omega arith))
all_below (suc n) Q d = decide_as
    (λ w. λ p lt. elim (cases_lt p n) [ inl below ↦ w.0 p below | inr above ↦ (let same : n ≡ p = omega arith in subst Q same w.1) ])
    (λ all. (λ p lt. all p (omega arith), all n (omega arith)))
    (decide_both (all_below n Q (λ p lt. d p (omega arith))) (d n (omega arith)))

-- Where the test passes the other holds.
where_true : (b : Bool) (Q : Type 0) → Decided Q → Decided (b ≡ true → Q)
where_true true Q d = decide_as (λ q. λ e. q) (λ f. f refl) d
where_true false Q d = inl (λ e. absurd cc)

where_false : (b : Bool) (Q : Type 0) → Decided Q → Decided (b ≡ false → Q)
where_false true Q d = inl (λ e. absurd cc)
where_false false Q d = decide_as (λ q. λ e. q) (λ f. f refl) d

-- The first operations are all of them, or not.
all_done : (done ops : List Op) (rest : List Op) → done ++ rest ≡ ops → Decided (done ≡ ops)
all_done done ops [] e = inl (sym (append-nil done) ∙ e)
all_done done ops (o ∷ rest) e = inr (λ same. absurd (let more : length ops ≡ length done + length (o ∷ rest) = ap length (sym e) ∙ length-append done (o ∷ rest) in let equal : length done ≡ length ops = ap length same in omega arith))

no_scans : (scans : List Scan) → Decided (scans ≡ [])
no_scans [] = inl refl
no_scans (s ∷ scans) = inr (λ e. absurd cc)

-- ---- the last two events

-- The events are the opening of the last collection and its end.
abbrev pub IsClosing : List Event → Type 0
IsClosing events = (a : ℕ) × (b : ℕ) × (c : ℕ) × (d : ℕ) × (events ≡ Closing ∷ Ended Kernel a b c d ∷ [])

closing_end : (f : Event) → Decided (IsClosing (Closing ∷ f ∷ []))
closing_end (Ended Kernel a b c d) = inl (a, b, c, d, refl)
closing_end (Ended (User p) a b c d) = inr (λ w. absurd (let e = w.4 in cc))
closing_end (Ended (Shared s) a b c d) = inr (λ w. absurd (let e = w.4 in cc))
closing_end (Done pid op said) = inr (λ w. absurd (let e = w.4 in cc))
closing_end (Absorbed s) = inr (λ w. absurd (let e = w.4 in cc))
closing_end Closing = inr (λ w. absurd (let e = w.4 in cc))

closing_events : (events : List Event) → Decided (IsClosing (Closing ∷ events))
closing_events [] = inr (λ w. absurd (let e = w.4 in cc))
closing_events (f ∷ []) = closing_end f
closing_events (f ∷ g ∷ events) = inr (λ w. absurd (let e = w.4 in cc))

is_closing : (e : Event) (events : List Event) → Decided (IsClosing (e ∷ events))
is_closing Closing events = closing_events events
is_closing (Done pid op said) events = inr (λ w. absurd (let e = w.4 in cc))
is_closing (Ended h a b c d) events = inr (λ w. absurd (let e = w.4 in cc))
is_closing (Absorbed s) events = inr (λ w. absurd (let e = w.4 in cc))

ends_here : (e : Event) (events : List Event) → IsClosing (e ∷ events) → EndsWithClosing (e ∷ events)
ends_here e events w = ([], w.0, w.1, w.2, w.3, w.4)

ends_later : (e : Event) (events : List Event) → EndsWithClosing events → EndsWithClosing (e ∷ events)
ends_later e events w = (e ∷ w.0, w.1, w.2, w.3, w.4, ap (λ (es : List Event). e ∷ es) w.5)

pub ends_either : (e : Event) (events before : List Event) (a b c d : ℕ) → e ∷ events ≡ before ++ Closing ∷ Ended Kernel a b c d ∷ [] → ¬ IsClosing (e ∷ events) → ¬ EndsWithClosing events → ⊥
ends_either e events [] a b c d is here later = here (a, b, c, d, is)
ends_either e events (f ∷ before) a b c d is here later = later (before, a, b, c, d, (let g : events ≡ before ++ Closing ∷ Ended Kernel a b c d ∷ [] = cc in g))

nothing_ends : (before : List Event) (a b c d : ℕ) → (let none : List Event = [] in none) ≡ before ++ Closing ∷ Ended Kernel a b c d ∷ [] → ⊥
nothing_ends [] a b c d e = absurd cc
nothing_ends (f ∷ before) a b c d e = absurd cc

decide_ends : (events : List Event) → Decided (EndsWithClosing events)
decide_ends [] = inr (λ w. nothing_ends w.0 w.1 w.2 w.3 w.4 w.5)
decide_ends (e ∷ events) = elim (is_closing e events) [
  | inl here ↦ inl (ends_here e events here)
  | inr here ↦ elim (decide_ends events) [
    | inl later ↦ inl (ends_later e events later)
    | inr later ↦ inr (λ w. ends_either e events w.0 w.1 w.2 w.3 w.4 w.5 here later)
  ]
]

-- A history that is begun is complete, or not.
pub decide_complete : (trace : Trace) (history : List Event) → IsBegun trace history → Decided (IsComplete trace history)
decide_complete trace history h =
    let st = state_after trace history in
    decide_as (λ w. record { in_order = h.in_order; all = w.0; no_scan = w.1.0; no_orphan = w.1.1.0; ends = w.1.1.1 })
    (λ c. (c.all, (c.no_scan, (c.no_orphan, c.ends))))
    (decide_both (all_below (process_count trace) (λ p. IsFalse (among p st.ended) → done_by p history ≡ operations_of trace p)
    (λ p below. let rest = h.in_order p below in where_false (among p st.ended) _ (all_done (done_by p history) (operations_of trace p) rest.0 rest.1)))
    (decide_both (no_scans st.scans)
    (decide_both (where_true (all_ended trace st) _ (decide_true (no_orphan trace st))) (where_true (all_ended trace st) _ (decide_ends history)))))
