use Rattle.std.proofs.Common.{◌∙◌, arith}
use Rattle.k_guests.specs.Growing.{guest_with_objects, heap_with_objects}
use Rattle.k_guests.proofs.Changed.{changed_all}
use Rattle.k_guests.proofs.segments.narrow_objects.Goals as goal

pub returns : goal.returns
returns c = record {
  guests_are = c.narrow_guests.ensures ∙ changed_all (guest_with_objects c.args.old) c.len-count.result c.args.guests.now.items (omega (arith, c.len-count.ensures));
  kernel_is = c.narrow_objects.ensures;
  shared_are = c.narrow_heaps.ensures ∙ changed_all (heap_with_objects c.args.old) c.len-count-2.result c.args.shared.now.items (omega (arith, c.len-count-2.ensures));
}
