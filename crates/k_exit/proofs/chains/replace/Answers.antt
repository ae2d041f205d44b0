use Rattle.std.proofs.Common.{◌≡◌, List, sym, ap, subst, ◌∙◌, length, set, arith}
use Rattle.std.proofs.lemmas.List.{get_or-set_other, length-set, map-set}
use Rattle.k_exit.specs.Chains.{IsLinked, row_of, blank}
use Rattle.k_exit.specs.Exits.{ExitRow}
use Rattle.k_exit.proofs.Removes.{relinked, same_len}
use Rattle.k_exit.proofs.chains.replace.Goals as goal

pub link-requires : goal.link-requires
link-requires c =
    let len = same_len c.unlink.new.items.items c.args.items.now.items c.unlink.ensures.rows in
    let len_is : c.len.result ≡ length c.args.items.now.items = omega (arith, c.len.ensures, c.unlink.new.items.ok.0, len) in
    let set_len = length-set c.unlink.new.items.items c.args.i c.args.moved in
    let linked = c.unlink.ensures.linked in
    record {
      place = omega (arith, len_is, c.requires.place);
      linked =
          subst (λ n. IsLinked (set c.unlink.new.items.items c.args.i c.args.moved) c.unlink.new.heads.items n c.args.i) (sym len_is)
          (relinked c.unlink.new.items.items (set c.unlink.new.items.items c.args.i c.args.moved) c.unlink.new.heads.items (length c.args.items.now.items) c.args.i linked
          (omega (arith, len, set_len)) (omega (arith, set_len, linked.room)) (λ j below apart. get_or-set_other c.unlink.new.items.items c.args.i j c.args.moved blank apart));
    }

pub returns-clause-linked : goal.returns-clause-linked
returns-clause-linked c =
    let len = same_len c.unlink.new.items.items c.args.items.now.items c.unlink.ensures.rows in
    let len_is : c.len.result ≡ length c.args.items.now.items = omega (arith, c.len.ensures, c.unlink.new.items.ok.0, len) in
    let set_len = length-set c.unlink.new.items.items c.args.i c.args.moved in
    let all : c.len.result ≡ length c.link.new.items.items =
    omega (arith, len_is, len, set_len, same_len c.link.new.items.items (set c.unlink.new.items.items c.args.i c.args.moved) c.link.ensures.rows) in
    subst (λ n. IsLinked c.link.new.items.items c.link.new.heads.items n n) all c.link.ensures.linked

pub returns-clause-rows : goal.returns-clause-rows
returns-clause-rows c =
    c.link.ensures.rows ∙ map-set row_of c.unlink.new.items.items c.args.i c.args.moved ∙ ap (λ (rs : List ExitRow). set rs c.args.i (row_of c.args.moved)) c.unlink.ensures.rows
