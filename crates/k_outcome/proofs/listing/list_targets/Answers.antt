use Rattle.std.proofs.Common.{◌≡◌, ◌<◌, ◌≤◌, sym, ap, ◌∙◌, subst, List, [], ◌∷◌, ◌++◌, length, take, arith, rules}
use Rattle.std.proofs.lemmas.List.{take_all, take_more}
use Rattle.std.proofs.lemmas.List.Sorted.{answers_always}
use Rattle.std.proofs.lemmas.Option.{get_or_from_slice_get}
use Rattle.k_types.specs.declared.names.Name.{Name}
use Rattle.k_types.specs.Distinct.{AreDistinctNames}
use Rattle.k_text.specs.Shown.{in_order}
use Rattle.k_outcome.specs.Cells.{cell_at}
use Rattle.k_outcome.proofs.Sorted.{sorted_names}
use Rattle.k_outcome.proofs.listing.list_targets.Goals as goal

pub loop-i-preserved : goal.loop-i-preserved
loop-i-preserved c =
    let exits = (cell_at c.args.cells.now c.args.heap).exits in
    let inside : c.loop-i.i < length exits = subst (λ n. c.loop-i.i < n) c.exit_count-count.ensures.count c.loop-i-test.true in
    record {
      all = c.loop-i.invariant.all;
      room = subst (λ n. length exits ≤ n) (sym c.push_reserved.ensures.capacity) c.loop-i.invariant.room;
      listed = c.push_reserved.ensures.items ∙ ap (λ (names : List Name). names ++ c.exit_at.result ∷ []) c.loop-i.invariant.listed
          ∙ ap (λ (n : Name). take c.loop-i.i exits ++ n ∷ []) (sym (get_or_from_slice_get exits c.loop-i.i c.exit_at.result c.exit_at.result c.exit_at.ensures))
          ∙ sym (take_more exits c.loop-i.i c.exit_at.result inside);
    }

pub returns : goal.returns
returns c =
    let exits = (cell_at c.args.cells.now c.args.heap).exits in
    let all : c.loop-i.row.items ≡ exits = c.loop-i.invariant.listed ∙ take_all c.loop-i.i exits (omega (arith, c.loop-i.invariant.all, c.loop-i-test.false)) in
    let sorted = c.sort_unstable_by_key.ensures.sorted (λ (n : Name). n) (answers_always _ _ _ (λ f a r g h. search rules)) in
    sorted_names c.loop-i.row.items c.sort_unstable_by_key.new.self.items (subst AreDistinctNames (sym all) c.exit_count-count.ensures.distinct)
    c.sort_unstable_by_key.ensures.permutation (λ k d inside. sorted k d (omega arith) inside)
    ∙ ap in_order all
