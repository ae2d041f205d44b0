use Rattle.std.proofs.Common.{◌≡◌, ◌<◌, ap₂, subst, sym, ◌∙◌, length, get_or, arith}
use Rattle.std.proofs.lemmas.List.{get_or_read}
use Rattle.k_types.specs.declared.setup.LimitRow.{LimitRow}
use Rattle.k_types.specs.Trace.{no_row, row_of}
use Rattle.k_state.specs.Machines.{Machine}
use Rattle.k_types.specs.Bounds.{maximum_below}
use Rattle.k_state.proofs.Rows.{row_in}
use Rattle.k_laws.proofs.SetupShapes.{all_at_index}
use Rattle.k_state.proofs.lists.PlainLists.row.Goals as goal

pub returns : goal.returns
returns c =
    let limits = c.self.inside.setup.limits.items in
    let maxima = c.self.inside.maxima.items in
    let inside : c.args.limit.0 < length limits = subst (λ (m : Machine). c.args.limit.0 < length m.setup.limits) (sym c.self.view_is) c.requires in
    let row : c.index-row.result.now ≡ row_of limits c.args.limit.0 = get_or_read limits c.args.limit.0 _ inside c.index-row.ensures no_row in
    let max : c.index.result.now ≡ get_or maxima c.args.limit.0 c.index.result.now = c.index.ensures in
    let small : c.index.result.now < maximum_below
    = subst (λ n. n < maximum_below) (sym max)
    (all_at_index (λ n. n < maximum_below) maxima c.args.limit.0 c.index.result.now c.self.invariant.plain.maxima (omega (arith, inside, c.self.invariant.plain.sized.maxima))) in
    rw (← c.self.view_is)
    record {
      row = ap₂ (λ (r : LimitRow) n. record r { max = n }) row max
          ∙ sym (row_in limits maxima c.args.limit.0 c.index.result.now inside c.self.invariant.plain.sized.maxima);
      small = small;
    }
