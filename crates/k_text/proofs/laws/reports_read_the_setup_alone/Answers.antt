use Rattle.k_text.proofs.Setups.{setup_alone}
use Rattle.k_text.proofs.laws.reports_read_the_setup_alone.Goals as goal

pub returns : goal.returns
returns c = setup_alone
