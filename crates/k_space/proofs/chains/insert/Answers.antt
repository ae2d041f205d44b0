use Rattle.std.proofs.Common.{◌≡◌, ◌<◌, length, ap, ◌∙◌, arith}
use Rattle.std.proofs.lemmas.List.{get_or_default}
use Rattle.k_space.specs.Chains.{chain_by, head_at}
use Rattle.k_space.proofs.ChainWalks.{spot_inserted}
use Rattle.k_space.proofs.chains.insert.Goals as goal

pub returns-clause-linked : goal.returns-clause-linked
returns-clause-linked c =
    let len : c.len.result ≡ length c.args.heads.now.items = c.len.ensures ∙ c.args.heads.now.ok.0 in
    let is : c.chain_of-chain.result ≡ chain_by (length c.args.heads.now.items) c.args.serial = c.chain_of-chain.ensures.value ∙ ap (λ n. chain_by n c.args.serial) len in
    let within : c.chain_of-chain.result < length c.args.heads.now.items = omega (arith, len, c.chain_of-chain.ensures.within) in
    let read : c.index-before.result.now ≡ head_at c.args.heads.now.items c.chain_of-chain.result = c.index-before.ensures ∙ get_or_default c.args.heads.now.items c.chain_of-chain.result c.index-before.result.now 0 within in
    spot_inserted c.args.spots.now.items c.grow.new.spots.items c.args.heads.now.items c.args.serial c.args.slot c.chain_of-chain.result c.index-before.result.now c.requires.linked c.grow.ensures.same c.grow.ensures.within c.requires.free is within read
