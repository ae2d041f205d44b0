use Rattle.std.proofs.Common.{refl}
use Rattle.k_agree.proofs.Changed.{exit_shown, new_shown}
use Rattle.k_agree.proofs.changing.value_changes_show.Goals as goal

pub returns-clause-register : goal.returns-clause-register
returns-clause-register c = λ v r x. refl

pub returns-clause-done : goal.returns-clause-done
returns-clause-done c = λ v. refl

pub returns-clause-field : goal.returns-clause-field
returns-clause-field c = λ v x i content. refl

pub returns-clause-object : goal.returns-clause-object
returns-clause-object c = new_shown

pub returns-clause-exit : goal.returns-clause-exit
returns-clause-exit c = exit_shown

pub returns-clause-phase : goal.returns-clause-phase
returns-clause-phase c = λ v phase. refl
