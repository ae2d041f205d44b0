-- What an answer that is there was made of.
use Rattle.std.proofs.Common.{◌≡◌, Bool, true, false, cond, Option, Some, None, refl}
use Rattle.std.specs.Prelude.{option_map}

pub some_is : {A : Type 0} (x y : A) → (let r : Option A = Some x in r) ≡ Some y → x ≡ y
some_is x y e = cc

-- A test passed, and the answer is what was given for it.
pub if_some : {A : Type 0} (t : Bool) (o : Option A) (y : A) → cond t o None ≡ Some y → (t ≡ true) × (o ≡ Some y)
if_some true o y e = (refl, e)
if_some false o y e = absurd cc

-- What the answer was made from.
pub record IsFrom {A B : Type 0} (f : A → B) (o : Option A) (y : B) : Type 0 where
  pub from : A
  pub is : o ≡ Some from
  pub made : f from ≡ y

pub map_some : {A B : Type 0} (f : A → B) (o : Option A) (y : B) → option_map f o ≡ Some y → IsFrom f o y
map_some f None y e = absurd cc
map_some f (Some x) y e = record { from = x; is = refl; made = some_is (f x) y e }

-- Where the test passed the answer is the first, and otherwise the second.
pub branch : {A : Type 0} (P : A → Type 0) (y : A) (t : Bool) (a b : Option A) → (t ≡ true → a ≡ Some y → P y) → (b ≡ Some y → P y) → cond t a b ≡ Some y → P y
branch P y true a b f g e = f refl e
branch P y false a b f g e = g e

pub nothing : {A : Type 0} (P : A → Type 0) (y : A) → (let r : Option A = None in r) ≡ Some y → P y
nothing P y e = absurd cc
