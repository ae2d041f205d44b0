use Rattle.k_mark.proofs.Example.{placed_nodes, first_name, second_name}
use Rattle.k_table_tests.proofs.mark_tests.place_nodes.Goals as goal

pub returns : goal.returns
returns c = record {
  z = c.place.result.slot.0;
  is = placed_nodes c.in_ok-types.types c.in_ok-segment.segment c.place-first.new.self c.place-second.new.self c.place.new.self c.in_ok-make.field-0 c.in_ok-make-2.field-0 c.in_ok-make-3.field-0
      c.place-first.result.slot.0 c.place-second.result.slot.0 c.place.result.slot.0 c.in_ok-types.ensures c.in_ok-segment.ensures c.in_ok-make.ensures c.in_ok-make-2.ensures c.in_ok-make-3.ensures
      c.place-first.ensures.placed c.place-second.ensures.placed c.place.ensures.placed;
  first_is = first_name c.in_ok-segment.segment c.place-first.result c.in_ok-segment.ensures c.place-first.ensures.seg c.place-first.ensures.serial;
  second_is = second_name c.in_ok-segment.segment c.place-first.new.self c.in_ok-make.field-0 c.place-first.result.slot.0 c.place-second.result c.in_ok-segment.ensures c.place-first.ensures.placed c.place-second.ensures.seg c.place-second.ensures.serial;
}
