use Rattle.k_laws.proofs.KeptLaws.{only_its_own_events_change_a_charge}
use Rattle.k_laws.proofs.accounts.only_its_own_events_change_a_charge.Goals as goal

pub returns : goal.returns
returns c = only_its_own_events_change_a_charge
