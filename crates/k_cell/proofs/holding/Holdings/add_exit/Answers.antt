use Rattle.std.proofs.Common.{◌≡◌, not, length, inl, inr, sym, ap, ◌∙◌, arith}
use Rattle.std.proofs.lemmas.List.{length-map}
use Rattle.k_mark.specs.k_types.declared.names.CellPhase.TheVariants.{Idle}
use Rattle.k_mark.specs.k_types.Names.{name_of, name_among}
use Rattle.k_mark.specs.k_exit.Exits.{ExitList, ExitRow}
use Rattle.k_mark.proofs.Named.{targets_named}
use Rattle.k_cell.specs.Holdings.{HoldingsValue, holdings_seen}
use Rattle.k_cell.proofs.Carried.{added_carried}
use Rattle.k_cell.proofs.Marks.{added_kept}
use Rattle.k_cell.proofs.Seen.{added_seen}
use Rattle.k_cell.proofs.holding.Holdings.add_exit.Goals as goal

pub add-requires : goal.add-requires
add-requires c =
    elim c.requires.room [
      | inl there ↦ inl (sym (targets_named c.self.inside.exits.items (name_of c.args.target)) ∙ ap (λ (h : HoldingsValue). name_among (name_of c.args.target) h.value.exits) c.self.view_is ∙ there)
      | inr left ↦
          let long = ap (λ (h : HoldingsValue). length h.value.exits) c.self.view_is in
          let room = ap (λ (h : HoldingsValue). h.exit_room) c.self.view_is in
          inr (omega (arith, left, long, room, length-map c.self.inside.exits.items (λ (e : ExitRow). e.target)))
    ]

pub returns-clause-value : goal.returns-clause-value
returns-clause-value c = rw (← c.self.view_is) (c.add.ensures.value ∙ ap not (sym (targets_named c.self.inside.exits.items (name_of c.args.target))))

pub returns-clause-added : goal.returns-clause-added
returns-clause-added c =
    let idle : c.self.inside.phase ≡ Idle = ap (λ (h : HoldingsValue). h.value.collection) c.self.view_is ∙ c.requires.idle in
    rw (← c.self.view_is)
    (ap (λ (e : ExitList). holdings_seen c.self.inside.bound c.self.inside.phase c.self.inside.area e c.self.inside.note) c.add.ensures.added
    ∙ added_seen c.self.inside.bound c.self.inside.phase c.self.inside.area c.self.inside.exits c.self.inside.note (name_of c.args.target) idle)

pub invariant_of-self : goal.invariant_of-self
invariant_of-self c =
    let idle : c.self.inside.phase ≡ Idle = ap (λ (h : HoldingsValue). h.value.collection) c.self.view_is ∙ c.requires.idle in
    record {
      tables = added_kept c.self.inside.bound c.self.inside.bytes c.self.inside.phase c.self.inside.area c.self.inside.exits.items c.add.new.self.items c.self.invariant.tables idle;
      carried = added_carried c.self.inside.phase c.self.inside.area c.self.inside.exits c.add.new.self c.self.inside.carried (name_of c.args.target) c.self.invariant.carried idle c.add.ensures.added;
    }
