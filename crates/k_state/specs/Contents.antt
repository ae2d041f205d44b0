-- What a field holds, as the machine has it.
use Rattle.k_types.specs.State.{Content, Refers, Holds}
use Rattle.k_state.specs.declared.objects.FieldValue.{FieldValue}
use Rattle.k_state.specs.declared.objects.FieldValue.TheVariants.{Reference, Integer}

-- The value of a field, as the machine has it.
abbrev pub content : FieldValue → Content
content (Reference r) = Refers r
content (Integer n) = Holds n
