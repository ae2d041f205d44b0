use Rattle.std.proofs.Common.{◌∙◌, sym, ap, cond}
use Rattle.std.proofs.lemmas.Bool.{not-true}
use Rattle.k_agree.specs.GivingOnTheBook.{charged}
use Rattle.k_ends.specs.k_guests.Serving.{basis_of}
use Rattle.k_host.proofs.Charged.{charge_fits, heaps_are, process_there}
use Rattle.k_host.proofs.asking.charge_by.Goals as goal

pub charged-requires-clause-heaps : goal.charged-requires-clause-heaps
charged-requires-clause-heaps c = heaps_are c.requires.guest c.requires.book

pub charged-requires-clause-process : goal.charged-requires-clause-process
charged-requires-clause-process c = process_there c.requires.guest c.requires.book

pub charged-requires-clause-small : goal.charged-requires-clause-small
charged-requires-clause-small c = charge_fits c.requires.guest c.requires.book (not-true _ (sym c.if-not-lives.ensures))

pub returns : goal.returns
returns c =
    let g = c.args.guest.now in
    c.charged.ensures ∙ sym (ap (λ b. cond b 0 (charged (basis_of c.args.terms.now).trace c.args.book.now.value g.cell.value g.cell.pid.0)) (not-true _ (sym c.if-not-lives.ensures)))
