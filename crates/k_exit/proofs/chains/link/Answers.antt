use Rattle.std.proofs.Common.{◌∙◌, arith}
use Rattle.k_exit.proofs.Relinks.{chain_here}
use Rattle.k_exit.proofs.chains.link.Goals as goal

pub link_in-requires-clause-chain : goal.link_in-requires-clause-chain
link_in-requires-clause-chain c =
    chain_here c.args.items.now.items c.args.heads.now.items c.args.i c.len.result c.chain_of-chain.result c.index.result.now (omega (arith, c.requires.linked.end_in, c.requires.place)) c.index.ensures (c.len.ensures ∙ c.args.heads.now.ok.0) c.chain_of-chain.ensures.value
