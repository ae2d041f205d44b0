-- Why a call is refused: what it asks for was tested, and does not hold.
use Rattle.std.proofs.Common.{◌≡◌, refl, sym, ◌∙◌, Bool, true, false, not, IsTrue, IsFalse, ◌↔◌}
use Rattle.std.proofs.lemmas.Bool.{false≢true}
use Rattle.k_calls.specs.declared.errors.HostError.{HostError}
use Rattle.k_types.specs.declared.op.Op.{Op}
use Rattle.k_calls.specs.Adding.{lacking}
use Rattle.k_calls.specs.Refusals.{Lacks, LacksRoom}

-- a test that fails decides
pub lacks : (error : HostError) (asked : Type 0) (test : Bool) → (IsTrue test ↔ asked) → test ≡ false → Lacks error asked error
lacks error asked test decides fails = record { error_is = refl; fails = λ holds. false≢true (sym fails ∙ decides.1 holds) }

-- the same of a test that computes
pub lacks_test : (error : HostError) (asked test : Bool) → test ≡ asked → test ≡ false → Lacks error (IsTrue asked) error
lacks_test error asked test same fails = record { error_is = refl; fails = λ holds. false≢true (sym fails ∙ same ∙ holds) }

-- the same of a test that computes the opposite
pub lacks_lives : (error : HostError) (ended lives : Bool) → lives ≡ not ended → lives ≡ false → Lacks error (IsFalse ended) error
lacks_lives error true lives same fails = record { error_is = refl; fails = λ stands. false≢true (sym stands) }
lacks_lives error false lives same fails = absurd (false≢true (sym fails ∙ same))

-- a heap that has no room for what the operation adds
pub lacks_room : (op : Op) (asked : Type 0) (test : Bool) → (IsTrue test ↔ asked) → test ≡ false → (why : HostError) → why ≡ lacking op → LacksRoom op asked why
lacks_room op asked test decides fails why is = record { error_is = is; fails = λ holds. false≢true (sym fails ∙ decides.1 holds) }
