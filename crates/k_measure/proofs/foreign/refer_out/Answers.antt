use Rattle.std.proofs.Common.{Some, sym, subst, ap, ◌∙◌}
use Rattle.k_types.specs.Names.{name_of}
use Rattle.k_types.specs.declared.names.Field.{Field}
use Rattle.k_space.specs.Segments.{SegmentValue}
use Rattle.k_measure.specs.Inside.{KeepsExits}
use Rattle.k_measure.proofs.Inside.{found_lies, kept_referred, ref_there}
use Rattle.k_measure.proofs.foreign.refer_out.Goals as goal

pub write_ref-requires-clause-kind : goal.write_ref-requires-clause-kind
write_ref-requires-clause-kind c serial row lies =
    ref_there row.fields c.args.field (ap (λ (k : Field). Some k) (sym c.in-Some-Ref.field-0-is) ∙ c.in-Some-Ref.ensures serial row lies)

pub returns-in-Some-Ref-clause-kept : goal.returns-in-Some-Ref-clause-kept
returns-in-Some-Ref-clause-kept c =
    let f = found_lies c.args.segment.now c.args.from c.in-Some.slot.0 c.in-Some.ensures in
    subst (λ (s : SegmentValue). KeepsExits c.add.new.self.items s) (sym (c.write_ref.ensures c.args.from f.0 f.1))
    (kept_referred c.args.exits.now c.add.new.self c.args.segment.now (name_of c.args.target) c.args.from f.0 c.args.field c.add.ensures.added f.1.there c.requires.kept)
