use Rattle.std.proofs.Common.{◌≡◌, ℕ, [], sym, ap, ap₂, ◌∙◌, subst, arith}
use Rattle.k_tie.proofs.Seats.{has_word, of_journal, of_note}
use Rattle.k_tie.specs.Values.{NoteValue}
use Rattle.k_tie.specs.Steps.{after_give, after_take, IsToldOf}
use Rattle.k_tie.proofs.RuleKept.{takes, load_allows, gives}
use Rattle.k_tie.proofs.journal.JournalSeat.apart_in_place.Goals as goal
use Rattle.k_types.proofs.Sums.{one_if_same-same}
use Rattle.k_types.specs.Counts.{one_if_same}

pub split_seat-one-requires : goal.split_seat-one-requires
split_seat-one-requires c =
    (of_journal _ _ _ _ c.self.view_is (c.requires.0 ∙ sym c.tie.view_is), has_word _ c.tie.invariant, gives _ _)

pub split_seat-two-requires : goal.split_seat-two-requires
split_seat-two-requires c =
    let at = of_journal _ _ _ _ c.self.view_is (c.requires.0 ∙ sym c.tie.view_is) in
    (c.split_seat-one.ensures.0 ∙ at, has_word _ c.tie.invariant, gives _ _)

pub join_seat-requires : goal.join_seat-requires
join_seat-requires c =
    let at = of_journal _ _ _ _ c.self.view_is (c.requires.0 ∙ sym c.tie.view_is) in
    let was = c.replace-seat_b.ensures.value in (
      c.split_seat-two.ensures.0 ∙ (c.split_seat-one.ensures.0 ∙ at),
      ap (λ s. s.table_id) was ∙ of_note _ _ _ _ c.b.view_is (c.requires.2 ∙ sym c.tie.view_is),
      ap (λ s. s.me.1) was ∙ ap (λ m. m.1) c.b.invariant,
      has_word _ c.tie.invariant,
      takes _ _ _ _ _ _ [] (ap (λ m. m.0) c.split_seat-two.ensures.2 ∙ ap after_give (ap (λ m. m.0) c.split_seat-one.ensures.2 ∙ ap (λ m. after_give m.0) c.self.invariant)),
    )

pub join_seat-requires-2 : goal.join_seat-requires-2
join_seat-requires-2 c =
    let at = of_journal _ _ _ _ c.self.view_is (c.requires.0 ∙ sym c.tie.view_is) in
    let was = c.replace-seat_a.ensures.value in
    let one = ap (λ m. m.0) c.join_seat.ensures.2 ∙ ap₂ after_take (ap (λ m. m.0) c.split_seat-two.ensures.2 ∙ ap after_give (ap (λ m. m.0) c.split_seat-one.ensures.2 ∙ ap (λ m. after_give m.0) c.self.invariant)) (ap (λ s. s.me.0) c.replace-seat_b.ensures.value ∙ ap (λ m. m.0) c.b.invariant) in (
      c.join_seat.ensures.0 ∙ (c.split_seat-two.ensures.0 ∙ (c.split_seat-one.ensures.0 ∙ at)),
      ap (λ s. s.table_id) was ∙ of_note _ _ _ _ c.a.view_is (c.requires.1 ∙ sym c.tie.view_is),
      ap (λ s. s.me.1) was ∙ ap (λ m. m.1) c.a.invariant,
      has_word _ c.tie.invariant,
      takes _ _ _ _ _ _ _ one,
    )

pub load-requires : goal.load-requires
load-requires c =
    let at = of_journal _ _ _ _ c.self.view_is (c.requires.0 ∙ sym c.tie.view_is) in
    (c.join_seat-2.ensures.0 ∙ (c.join_seat.ensures.0 ∙ (c.split_seat-two.ensures.0 ∙ (c.split_seat-one.ensures.0 ∙ at))), has_word _ c.tie.invariant, load_allows _ _ _)

pub split_seat-requires : goal.split_seat-requires
split_seat-requires c =
    let at = of_journal _ _ _ _ c.self.view_is (c.requires.0 ∙ sym c.tie.view_is) in
    (c.load.ensures.0 ∙ (c.join_seat-2.ensures.0 ∙ (c.join_seat.ensures.0 ∙ (c.split_seat-two.ensures.0 ∙ (c.split_seat-one.ensures.0 ∙ at)))), has_word _ c.tie.invariant, gives _ _)

pub split_seat-requires-2 : goal.split_seat-requires-2
split_seat-requires-2 c =
    let at = of_journal _ _ _ _ c.self.view_is (c.requires.0 ∙ sym c.tie.view_is) in
    (c.split_seat.ensures.0 ∙ (c.load.ensures.0 ∙ (c.join_seat-2.ensures.0 ∙ (c.join_seat.ensures.0 ∙ (c.split_seat-two.ensures.0 ∙ (c.split_seat-one.ensures.0 ∙ at))))), has_word _ c.tie.invariant, gives _ _)

pub returns-clause-apart : goal.returns-clause-apart
returns-clause-apart c same =
    let one = ap (λ m. m.0) c.join_seat.ensures.2 ∙ ap₂ after_take (ap (λ m. m.0) c.split_seat-two.ensures.2 ∙ ap after_give (ap (λ m. m.0) c.split_seat-one.ensures.2 ∙ ap (λ m. after_give m.0) c.self.invariant)) (ap (λ s. s.me.0) c.replace-seat_b.ensures.value ∙ ap (λ m. m.0) c.b.invariant) in
    let two = ap (λ m. m.0) c.join_seat-2.ensures.2 ∙ ap₂ after_take one (ap (λ s. s.me.0) c.replace-seat_a.ensures.value ∙ ap (λ m. m.0) c.a.invariant) in
    let told = (subst IsToldOf two c.load.ensures.2.1).1 c.args.a.now.cell in
    let mine = ap (λ (n : NoteValue). n.cell) c.a.view_is in
    let theirs = ap (λ (n : NoteValue). n.cell) c.b.view_is in
    let here : one_if_same c.args.a.now.cell c.args.a.now.cell ≡ 1 = one_if_same-same c.args.a.now.cell in
    let a = subst (λ (x : ℕ). one_if_same x c.args.a.now.cell ≡ 1) (sym mine) here in
    let b = subst (λ (x : ℕ). one_if_same x c.args.a.now.cell ≡ 1) (same ∙ sym theirs) here in
    omega (arith, told, a, b)
