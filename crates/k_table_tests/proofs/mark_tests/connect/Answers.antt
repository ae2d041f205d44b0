use Rattle.std.proofs.Common.{None, Some}
use Rattle.k_space.specs.Segments.{White}
use Rattle.k_mark.specs.Example.{node, node_name}
use Rattle.k_mark.proofs.Example.{first_lives, second_lives, has_refs, once_written, twice_written, written_second}
use Rattle.k_table_tests.proofs.mark_tests.connect.Goals as goal

pub write_ref-requires-clause-live : goal.write_ref-requires-clause-live
write_ref-requires-clause-live c =
    record { serial = 1; row = node c.args.first.slot.0 White None None; lies = first_lives c.args.segment.now c.args.first.slot.0 c.args.second.slot.0 c.requires.z None None None c.requires.is }

pub write_ref-requires-clause-kind : goal.write_ref-requires-clause-kind
write_ref-requires-clause-kind c = λ serial row lies.
    (has_refs c.args.segment.now c.args.first.slot.0 c.args.second.slot.0 c.requires.z None None None c.requires.is serial row lies.there).0

pub write_ref-requires-2-clause-live : goal.write_ref-requires-2-clause-live
write_ref-requires-2-clause-live c =
    let once = once_written c.args.segment.now c.write_ref.new.self c.args.first c.args.second c.requires c.write_ref.ensures in
    record { serial = 1; row = node c.args.first.slot.0 White (Some (node_name 2)) None; lies = first_lives c.write_ref.new.self c.args.first.slot.0 c.args.second.slot.0 c.requires.z (Some (node_name 2)) None None once }

pub write_ref-requires-2-clause-kind : goal.write_ref-requires-2-clause-kind
write_ref-requires-2-clause-kind c = λ serial row lies.
    let once = once_written c.args.segment.now c.write_ref.new.self c.args.first c.args.second c.requires c.write_ref.ensures in
    (has_refs c.write_ref.new.self c.args.first.slot.0 c.args.second.slot.0 c.requires.z (Some (node_name 2)) None None once serial row lies.there).1

pub write_ref-requires-3-clause-live : goal.write_ref-requires-3-clause-live
write_ref-requires-3-clause-live c =
    let twice = twice_written c.args.segment.now c.write_ref.new.self c.write_ref-2.new.self c.args.first c.args.second c.requires c.write_ref.ensures c.write_ref-2.ensures in
    record { serial = 2; row = node c.args.second.slot.0 White None None; lies = second_lives c.write_ref-2.new.self c.args.first.slot.0 c.args.second.slot.0 c.requires.z (Some (node_name 2)) (Some (node_name 2)) None twice }

pub write_ref-requires-3-clause-kind : goal.write_ref-requires-3-clause-kind
write_ref-requires-3-clause-kind c = λ serial row lies.
    let twice = twice_written c.args.segment.now c.write_ref.new.self c.write_ref-2.new.self c.args.first c.args.second c.requires c.write_ref.ensures c.write_ref-2.ensures in
    (has_refs c.write_ref-2.new.self c.args.first.slot.0 c.args.second.slot.0 c.requires.z (Some (node_name 2)) (Some (node_name 2)) None twice serial row lies.there).0

pub returns : goal.returns
returns c =
    let twice = twice_written c.args.segment.now c.write_ref.new.self c.write_ref-2.new.self c.args.first c.args.second c.requires c.write_ref.ensures c.write_ref-2.ensures in
    record {
      z = c.requires.z;
      is = written_second c.write_ref-2.new.self c.write_ref-3.new.self c.args.first.slot.0 c.args.second.slot.0 c.requires.z (Some (node_name 2)) (Some (node_name 2)) None 0 c.args.first (node_name 1) twice c.requires.first_is c.write_ref-3.ensures;
    }
