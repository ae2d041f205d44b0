use Rattle.std.proofs.Common.{sym, ◌∙◌, arith}
use Rattle.std.proofs.lemmas.Bool.{false≢true}
use Rattle.k_scan.proofs.referring.is_noted.Goals as goal

pub is_set-requires : goal.is_set-requires
is_set-requires c =
    let within = c.in-Some.ensures.some.within in
    omega (arith, within, c.requires.noted.size)

pub returns-in-Some : goal.returns-in-Some
returns-in-Some c = c.is_set.ensures ∙ c.requires.noted.marks c.args.target c.in-Some.at c.in-Some.ensures.some

pub returns-in-None : goal.returns-in-None
returns-in-None c = absurd (false≢true (sym c.in-None.ensures.none ∙ c.requires.there))
