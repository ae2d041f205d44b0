use Rattle.k_reader.proofs.Sound.{sound}
use Rattle.k_reader.proofs.Whole.{complete}
use Rattle.k_reader.proofs.Exact.{one, either, apart}
use Rattle.k_reader.proofs.laws.judged_as_spelled.Goals as goal

pub returns : goal.returns
returns c = record {
  exact = λ bytes t. (sound bytes t, complete bytes t);
  one = one;
  either = either;
  apart = apart;
}
