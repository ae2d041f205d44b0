use Rattle.std.proofs.Common.{Some, sym, subst, ap, ◌∙◌, option_map}
use Rattle.k_types.specs.Names.{name_of}
use Rattle.k_types.specs.declared.names.Field.{Field}
use Rattle.k_space.specs.Segments.{SegmentValue}
use Rattle.k_measure.specs.Inside.{IsInside, KeepsInside}
use Rattle.k_measure.proofs.Inside.{found_lies, ref_there, target_into, written_to}
use Rattle.k_measure.proofs.heap.link_one.Goals as goal

pub write_ref-requires-clause-kind : goal.write_ref-requires-clause-kind
write_ref-requires-clause-kind c serial row lies =
    ref_there row.fields c.args.field (ap (λ (k : Field). Some k) (sym c.in-Some-Ref.field-0-is) ∙ c.in-Some-Ref.ensures serial row lies)

pub returns-in-Some-Ref-clause-inside : goal.returns-in-Some-Ref-clause-inside
returns-in-Some-Ref-clause-inside c =
    let f = found_lies c.args.segment.now c.args.from c.in-Some.slot.0 c.in-Some.ensures in
    subst (λ (s : SegmentValue). KeepsInside s) (sym (c.write_ref.ensures c.args.from f.0 f.1))
    (written_to (IsInside c.args.segment.now.number) c.args.segment.now c.args.from f.0 c.args.field (option_map name_of c.link_to-target.result) f.1.there (target_into c.link_to-target.result c.args.segment.now.number c.link_to-target.ensures) c.requires.inside)

pub returns-in-Some-Ref-clause-number : goal.returns-in-Some-Ref-clause-number
returns-in-Some-Ref-clause-number c =
    let f = found_lies c.args.segment.now c.args.from c.in-Some.slot.0 c.in-Some.ensures in
    ap (λ (s : SegmentValue). s.number) (c.write_ref.ensures c.args.from f.0 f.1)
