-- An object that was read, with its owner.
use Rattle.k_audit.specs.Reading.{Owned}
use Rattle.k_audit.specs.declared.objects.OwnedObject.{OwnedObject}

-- The object and its owner.
abbrev pub owned : OwnedObject → Owned
owned o = record { owner = o.owner; object = o.object }
