-- What is reached by references, with no order and no count.
use Rattle.std.specs.Prelude.{Bool, IsTrue}
use Rattle.k_laws.specs.k_types.declared.names.Name.{Name}

-- the live objects to which references lead from those that begin
pub data IsReached (lives : Name → Bool) (refers : Name → Name → Bool) (start : Name → Bool) : Name → Type 0 where
  begins : (n : Name) → IsTrue (start n) → IsTrue (lives n) → IsReached lives refers start n
  follows : (a b : Name) → IsReached lives refers start a → IsTrue (refers a b) → IsTrue (lives b) → IsReached lives refers start b
