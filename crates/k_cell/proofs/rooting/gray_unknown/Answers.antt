use Rattle.std.proofs.Common.{sym, ap, subst, ◌∙◌}
use Rattle.k_mark.specs.k_space.Areas.{AreaValue, HasDistinct, black_at, gray_at, unmarked}
use Rattle.k_cell.specs.Rooted.{grayed_all}
use Rattle.k_cell.specs.Carried.{known_bound}
use Rattle.k_cell.proofs.Carried.{marks_kept}
use Rattle.k_cell.proofs.Keeps.{known_kept}
use Rattle.k_cell.proofs.Rooted.{alike_distinct, all_same, black_all, gray_beginning, known_beginning}
use Rattle.k_cell.proofs.rooting.gray_unknown.Goals as goal

pub returns-then-is_known-clause-beginning : goal.returns-then-is_known-clause-beginning
returns-then-is_known-clause-beginning c =
    known_beginning c.args.area.now c.gray_others.new.area c.args.noted.now c.args.roots.now c.args.bound c.requires.clean c.gray_others.ensures (c.is_known.ensures.noted c.if-is_known.true)
    (c.requires.carried (c.is_known.ensures.whole c.if-is_known.true))

pub is_reached_still-requires-clause-distinct : goal.is_reached_still-requires-clause-distinct
is_reached_still-requires-clause-distinct c =
    subst (λ (x : AreaValue). HasDistinct x.segments) (sym c.gray_all.ensures)
    (alike_distinct c.args.area.now (grayed_all c.args.area.now c.args.noted.now) (all_same c.args.area.now c.args.noted.now) c.requires.distinct)

pub is_reached_still-requires-clause-kept : goal.is_reached_still-requires-clause-kept
is_reached_still-requires-clause-kept c = λ t.
    marks_kept c.args.area.now c.gray_all.new.area _ c.args.bound (ap unmarked c.gray_all.ensures ∙ all_same c.args.area.now c.args.noted.now) (c.requires.carried t)

pub returns-clause-same : goal.returns-clause-same
returns-clause-same c = ap unmarked c.gray_all.ensures ∙ all_same c.args.area.now c.args.noted.now

pub returns-clause-black : goal.returns-clause-black
returns-clause-black c = λ n. ap (λ (x : AreaValue). black_at x n) c.gray_all.ensures ∙ black_all c.args.area.now c.args.noted.now n ∙ c.requires.clean n

pub returns-clause-beginning : goal.returns-clause-beginning
returns-clause-beginning c =
    gray_beginning c.gray_all.new.area (grayed_all c.args.area.now c.args.noted.now) (known_bound c.is_reached_still.result c.args.bound) c.gray_all.ensures
    (known_kept c.gray_all.new.area c.is_reached_still.result c.args.bound (gray_at c.gray_all.new.area) c.is_reached_still.ensures.kept)
