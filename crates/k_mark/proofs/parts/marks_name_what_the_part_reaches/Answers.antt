use Rattle.k_mark.proofs.OfParts.{black_reached, exits_reached}
use Rattle.k_mark.proofs.parts.marks_name_what_the_part_reaches.Goals as goal

pub returns-clause-black : goal.returns-clause-black
returns-clause-black c = λ bound begun ended part n p. black_reached bound begun ended part p n

pub returns-clause-exits : goal.returns-clause-exits
returns-clause-exits c = λ bound begun ended part items n p are. exits_reached bound begun ended part p items n are
