-- Which states a snapshot's text can say.
use Rattle.std.specs.Prelude.{◌<◌, ◌^◌}
use Rattle.std.specs.List.{AllByRecursion}
use Rattle.k_types.specs.Bounds.{maximum_below}
use Rattle.k_types.specs.State.{State, Content, Holds, Refers}
use Rattle.k_types.specs.Trace.{Trace}
use Rattle.k_audit.specs.Claims.{Claims, claims_of}
use Rattle.k_audit.specs.Grammar.{IsNumber}

-- Where the field holds a number, it is one of 64 bits.
abbrev pub HoldsNumber : Content → Type 0
HoldsNumber (Refers r) = Unit {0}
HoldsNumber (Holds number) = IsNumber number

-- What is claimed are numbers of 64 bits.
pub record AreNumbers (claims : Claims) : Type 0 where
  pub kernel : IsNumber claims.kernel
  pub ceiling : IsNumber claims.ceiling
  pub uses : AllByRecursion IsNumber claims.uses
  pub charges : AllByRecursion IsNumber claims.charges
  pub shared_bytes : AllByRecursion IsNumber claims.shared_bytes

-- The numbers of the state, and the sums that are true of it, are in the ranges of a snapshot's text.
pub record IsInRange (trace : Trace) (st : State) : Type 0 where
  pub made : AllByRecursion (λ n. n < 2 ^ 32) st.made
  pub fields : AllByRecursion (λ o. AllByRecursion HoldsNumber o.fields) st.objects
  pub maxima : AllByRecursion (λ max. max < maximum_below) st.maxima
  pub claims : AreNumbers (claims_of trace st)
