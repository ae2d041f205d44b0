use Rattle.std.proofs.Common.{◌+◌, ap, ◌∙◌}
use Rattle.k_mark.proofs.Example.{rooted, marked_nodes, work_of_nodes}
use Rattle.k_table_tests.proofs.mark_tests.mark_from_first.Goals as goal

pub returns-clause-two : goal.returns-clause-two
returns-clause-two g c = marked_nodes c.root.new.area c.mark.new.area (rooted c.args.area.now c.clear.new.area c.root.new.area c.requires.nodes c.clear.ensures.area c.root.ensures) c.mark.ensures.kept c.mark.ensures.black c.mark.ensures.reached

pub returns-clause-six : goal.returns-clause-six
returns-clause-six g c =
    let two = marked_nodes c.root.new.area c.mark.new.area (rooted c.args.area.now c.clear.new.area c.root.new.area c.requires.nodes c.clear.ensures.area c.root.ensures) c.mark.ensures.kept c.mark.ensures.black c.mark.ensures.reached in
    c.mark.ensures.steps ∙ ap (λ n. c.args.steps.now + n) (work_of_nodes c.mark.new.area two)
