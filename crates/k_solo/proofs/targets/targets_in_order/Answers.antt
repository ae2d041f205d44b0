use Rattle.std.proofs.Common.{arith, rules}
use Rattle.std.proofs.lemmas.List.Sorted.{answers_always}
use Rattle.k_types.specs.declared.names.Name.{Name}
use Rattle.k_text.proofs.Sorted.{sorted_exits}
use Rattle.k_solo.proofs.targets.targets_in_order.Goals as goal

pub returns : goal.returns
returns c =
    let sorted = c.sort_unstable_by_key.ensures.sorted (λ (n : Name). n) (answers_always _ _ _ (λ f a r g h. search rules)) in
    sorted_exits c.args.lists.now.state.exits c.args.heap c.in_ok-names.names.items c.sort_unstable_by_key.new.self.items c.requires c.in_ok-names.ensures
    c.sort_unstable_by_key.ensures.permutation (λ k d inside. sorted k d (omega arith) inside)
