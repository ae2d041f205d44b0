-- Registers, exit items and shares that were read.
use Rattle.k_types.specs.State.{ExitItem, Sharing}
use Rattle.k_audit.specs.Reading.{Root}
use Rattle.k_audit.specs.declared.items.RootLine.{RootLine}
use Rattle.k_audit.specs.declared.items.ExitLine.{ExitLine}
use Rattle.k_audit.specs.declared.items.ShareLine.{ShareLine}

-- The register of the line.
abbrev pub root : RootLine → Root
root line = record { process = line.pid.0; register = line.r.0; name = line.name }

-- The exit item of the line.
abbrev pub exit_item : ExitLine → ExitItem
exit_item e = record { heap = e.heap; target = e.target }

-- The share of the line.
abbrev pub sharing : ShareLine → Sharing
sharing e = record { process = e.pid.0; heap = e.heap.0 }
