-- What holds of the parts of a reading at each stage.
use Rattle.std.proofs.Common.{◌≡◌, length}
use Rattle.k_types.specs.Trace.{Trace, process_count, segment_count}
use Rattle.k_audit.specs.Grammar.{IsNumber}
use Rattle.k_audit.proofs.Begun.{GoodCharges, GoodEnded, GoodExits, GoodHeaps, GoodLimits, GoodMade, GoodObjects, GoodRegisters, GoodShares}
use Rattle.k_audit.proofs.RowsSet.{AreNullFrom}
use Rattle.k_audit.proofs.Stages.{Parts, Stage, AtStart, AtGone, AtMade, AtGraph, AtRoots, AtExits, AtShares, AtKernel, AtLimits, AtProcesses, AtHeaps, AtOver}

abbrev pub Upto2 : Trace → Parts → Type 0
Upto2 trace x = GoodEnded trace x.ended × GoodMade trace x.made × (length x.made ≡ segment_count trace)

abbrev pub Upto3 : Trace → Parts → Type 0
Upto3 trace x = Upto2 trace x × GoodObjects trace x.owners x.objects

abbrev pub Upto4 : Trace → Parts → Type 0
Upto4 trace x = Upto3 trace x × GoodRegisters trace x.rows

abbrev pub Upto5 : Trace → Parts → Type 0
Upto5 trace x = Upto4 trace x × GoodExits trace x.exits

abbrev pub Upto6 : Trace → Parts → Type 0
Upto6 trace x = Upto5 trace x × GoodShares trace x.shares

abbrev pub Upto7 : Trace → Parts → Type 0
Upto7 trace x = Upto6 trace x × IsNumber x.kernel × IsNumber x.ceiling

abbrev pub Upto8 : Trace → Parts → Type 0
Upto8 trace x = Upto7 trace x × GoodLimits trace x.uses x.maxima × (length x.uses ≡ length trace.limits)

abbrev pub Upto9 : Trace → Parts → Type 0
Upto9 trace x = Upto8 trace x × GoodCharges trace x.charges × (length x.charges ≡ process_count trace)

abbrev pub Upto10 : Trace → Parts → Type 0
Upto10 trace x = Upto9 trace x × GoodHeaps trace x.bytes x.phases × (length x.bytes ≡ trace.shared_heaps)

abbrev pub Good : Trace → Stage → Parts → Type 0
Good trace AtStart x = Unit {0}
Good trace AtGone x = GoodEnded trace x.ended
Good trace AtMade x = GoodEnded trace x.ended × GoodMade trace x.made
Good trace AtGraph x = Upto2 trace x × GoodObjects trace x.owners x.objects
Good trace (AtRoots least) x = Upto3 trace x × GoodRegisters trace x.rows × AreNullFrom 0 least x.rows
Good trace AtExits x = Upto4 trace x × GoodExits trace x.exits
Good trace AtShares x = Upto5 trace x × GoodShares trace x.shares
Good trace AtKernel x = Upto6 trace x
Good trace AtLimits x = Upto7 trace x × GoodLimits trace x.uses x.maxima
Good trace AtProcesses x = Upto8 trace x × GoodCharges trace x.charges
Good trace AtHeaps x = Upto9 trace x × GoodHeaps trace x.bytes x.phases
Good trace AtOver x = Upto10 trace x
