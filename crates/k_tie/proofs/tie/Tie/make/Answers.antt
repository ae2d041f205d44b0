use Rattle.std.proofs.Common.{◌≡◌, ◌<◌, ◌-◌, [], ◌∷◌, ◌++◌, sym, ap, ◌∙◌, arith}
use Rattle.k_tie.specs.declared.view.View.TheVariants.{Note}
use Rattle.k_tie.specs.Steps.{blank_cell, after_give, note_as_held}
use Rattle.k_tie.proofs.RuleKept.{gives}
use Rattle.k_tie.proofs.Opening.{opens, given_blank, rest_blank, blank_push, next_note}
use Rattle.k_tie.proofs.Seats.{has_word, note_made}
use Rattle.k_tie.proofs.tie.Tie.make.Goals as goal

pub of_words-requires : goal.of_words-requires
of_words-requires c = opens _

pub split_seat-given-requires : goal.split_seat-given-requires
split_seat-given-requires c =
    let i = c.loop.invariant in
    (i.0, has_word _ i.1, gives _ _)

pub invariant_of-push : goal.invariant_of-push
invariant_of-push c =
    let i = c.loop.invariant in
    let h = given_blank c.loop.counter (c.args.cells - c.loop.counter) (omega (arith, c.loop-test.true)) in
    let v : c.split_seat-given.result.me.0 ≡ Note (blank_cell c.loop.counter) = ap (λ m. m.0) c.split_seat-given.ensures.4 ∙ (ap (λ m. note_as_held m.0) i.2 ∙ h.0) in
    note_made _ _ _ v (ap (λ m. m.1) c.split_seat-given.ensures.4)

pub loop-preserved : goal.loop-preserved
loop-preserved c =
    let i = c.loop.invariant in
    let k = c.loop.counter in
    let below : k < c.args.cells = omega (arith, c.loop-test.true) in
    let h = given_blank k (c.args.cells - k) (omega (arith, below)) in
    let v : c.split_seat-given.result.me.0 ≡ Note (blank_cell k) = ap (λ m. m.0) c.split_seat-given.ensures.4 ∙ (ap (λ m. note_as_held m.0) i.2 ∙ h.0) in
    let t = c.split_seat-given.ensures.3 ∙ i.0 in
    let left = ap (λ m. m.0) c.split_seat-given.ensures.2 ∙ (ap (λ m. after_give m.0) i.2 ∙ rest_blank k c.args.cells below) in
    let none = ap (λ m. m.1) c.split_seat-given.ensures.2 ∙ ap (λ m. m.1) i.2 in
    (c.split_seat-given.ensures.0 ∙ i.0, i.1, (λ j. (left j, none j)), c.in_ok-push.ensures.items ∙ ((λ j. i.3 j ++ next_note _ _ _ k t v j ∷ []) ∙ sym (blank_push _ 0 k)))
