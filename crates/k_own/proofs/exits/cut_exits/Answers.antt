use Rattle.std.proofs.Common.{◌==◌, ◌∙◌, sym, subst, eq-eqb}
use Rattle.std.proofs.lemmas.Bool.{and_from}
use Rattle.k_types.specs.Names.{name_among}
use Rattle.k_agree.proofs.Swept.{among_kept}
use Rattle.k_commit.specs.k_cell.Holdings.{HoldingsValue}
use Rattle.k_own.specs.Exits.{HasCut}
use Rattle.k_own.proofs.Leaving.{all_cut, cut_left, still_entered}
use Rattle.k_own.proofs.exits.cut_exits.Goals as goal

pub leave-requires : goal.leave-requires
leave-requires c =
    let n = c.in-Some.target in
    let p = c.loop-target.invariant.1 in
    let d = c.in-Some.ensures.some in
    still_entered c.loop-target.kernel.value c.take_into.new.self.value n d.0 c.args.kernel.now.value c.args.book.now c.loop-target.book p.leaving
    (c.requires n
    (among_kept (λ m. m.seg.0 == c.args.seg.0) c.args.kernel.now.value.exits n
    ∙ and_from (name_among n c.args.kernel.now.value.exits) (n.seg.0 == c.args.seg.0) (p.leaving.there n d.0.was) (eq-eqb n.seg.0 c.args.seg.0 d.1)))

pub returns-clause-cut : goal.returns-clause-cut
returns-clause-cut c =
    subst (λ (x : HoldingsValue). HasCut c.args.seg.0 c.args.kernel.now.value x.value) (sym c.in_default.ensures.kept)
    (all_cut c.args.seg.0 c.args.kernel.now.value c.loop-target.kernel.value c.args.book.now c.loop-target.book c.loop-target.invariant.1 c.in_default.ensures.none)

pub returns-clause-left : goal.returns-clause-left
returns-clause-left c = cut_left c.args.seg.0 c.args.kernel.now.value c.loop-target.kernel.value c.args.book.now c.loop-target.book c.loop-target.invariant.1 c.in_default.ensures.none
