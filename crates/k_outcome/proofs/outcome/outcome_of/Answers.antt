use Rattle.std.proofs.Common.{◌≡◌, sym, ap, ◌∙◌, subst, List, [], ℕ, length, replicate, vec_capacity, Vec, Global, arith}
use Rattle.std.proofs.lemmas.List.{length-map}
use Rattle.k_types.specs.declared.names.Name.{Name}
use Rattle.k_types.specs.State.{State}
use Rattle.k_types.specs.Steps.{state_after}
use Rattle.k_types.specs.Trace.{Trace, segment_count, trace_of}
use Rattle.k_book.specs.Books.{BookRecord}
use Rattle.k_process.specs.Heaps.{value_of}
use Rattle.k_process.specs.Over.{cells_of}
use Rattle.k_process.proofs.Looped.{all_of}
use Rattle.k_outcome.specs.Listed.{CanCount, HaveRoom}
use Rattle.k_outcome.proofs.Setups.{counts, is_end, rooms_enough, same_state}
use Rattle.k_outcome.proofs.outcome.outcome_of.Goals as goal

pub count_made-requires : goal.count_made-requires
count_made-requires g c =
    let rows = c.rooms.inside.targets.items in
    let sized : length rows ≡ segment_count g.trace = sym (length-map rows (λ (row : Vec Name Global). vec_capacity row)) ∙ ap (λ (ns : List ℕ). length ns) c.rooms.view_is ∙ c.requires.room.sized in
    subst (λ (b : BookRecord). CanCount g.trace c.deref_mut.result.now b.journal.list b.kept) (sym c.book.ensures)
    (counts g.trace (trace_of c.args.setup [] []) (cells_of (value_of c.args.heaps)) c.deref_mut.result.now c.requires.over
    (c.deref_mut.ensures.value ∙ c.rooms.invariant.counts ∙ ap (λ n. replicate n 0) sized))

pub list_all_targets-requires : goal.list_all_targets-requires
list_all_targets-requires g c =
    let setup = trace_of c.args.setup [] [] in
    let end = is_end c.args.names g.trace setup (cells_of (value_of c.args.heaps)) c.requires.over in
    record {
      few = omega (arith, end.rules.processes, end.rules.shared);
      there = end.there;
      empty = c.rooms.invariant.empty;
      room = subst (λ (rooms : List ℕ). HaveRoom setup (cells_of (value_of c.args.heaps)) rooms) (sym c.rooms.view_is) (rooms_enough g.trace setup (cells_of (value_of c.args.heaps)) c.args.rooms c.requires.over c.requires.room);
    }

pub invariant_of-result : goal.invariant_of-result
invariant_of-result g c =
    let setup = trace_of c.args.setup [] [] in
    let history = c.args.heaps.book.journal.list in
    let long : length c.count_made.new.made ≡ length c.rooms.inside.made.items = c.count_made.auto.made ∙ ap length c.deref_mut.ensures.value in
    let whole = all_of c.count_made.new.made c.rooms.inside.made.items c.rooms.inside.made.len long c.rooms.inside.made.ok.0 in
    record {
      end = is_end c.args.names g.trace setup (cells_of (value_of c.args.heaps)) c.requires.over;
      given = whole ∙ c.count_made.ensures ∙ ap (λ (b : BookRecord). (state_after g.trace b.journal.list).made) c.book.ensures
          ∙ ap (λ (st : State). st.made) (same_state g.trace history) ∙ ap (λ (t : Trace). (state_after t history).made) (sym c.requires.over.same_setup);
      ordered = c.list_all_targets.ensures;
    }
