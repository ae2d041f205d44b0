use Rattle.std.proofs.Common.{◌≡◌, arith}
use Rattle.k_types.specs.declared.names.Heap.TheVariants.{Kernel}
use Rattle.k_agree.specs.Ending.{freed_bytes, freed_objects}
use Rattle.k_collect.proofs.Alone.{bytes_alone, objects_alone}
use Rattle.k_collect.proofs.sweeping.sweep_kernel_telling.Goals as goal

pub sweep_telling-requires-clause-objects : goal.sweep_telling-requires-clause-objects
sweep_telling-requires-clause-objects g c =
    let fits = objects_alone g.trace Kernel c.args.kernel.now.note c.args.kernel.now.value c.requires.1 in
    omega (arith, fits)

pub sweep_telling-requires-clause-bytes : goal.sweep_telling-requires-clause-bytes
sweep_telling-requires-clause-bytes g c =
    let fits = bytes_alone g.trace Kernel c.args.kernel.now.note c.args.kernel.now.value c.requires.1 in
    omega (arith, fits)

pub returns-clause-swept : goal.returns-clause-swept
returns-clause-swept g c =
    let objects : c.sweep_telling.new.into.objects ≡ freed_objects c.args.kernel.now.value = omega (arith, c.sweep_telling.ensures.objects) in
    let bytes : c.sweep_telling.new.into.bytes ≡ freed_bytes c.args.kernel.now.value = omega (arith, c.sweep_telling.ensures.bytes) in
    record { kernel_is = c.sweep_telling.ensures.swept; objects = objects; bytes = bytes }
