use Rattle.std.proofs.Common.{◌≡◌, ◌<◌, drop}
use Rattle.k_words.specs.declared.name_list.TheConstants.{CHAINS}
use Rattle.k_words.specs.Chained.{chain_from, chain_of}
use Rattle.k_words.proofs.name_list.chain.Given as goal

abbrev pub invariant-loop-byte : goal.invariant-loop-byte
invariant-loop-byte l = record { below : l.hash < CHAINS; rest : chain_from l.hash (drop l.byte-index l.name) ≡ chain_of l.name }
