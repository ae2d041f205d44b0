use Rattle.k_mark.proofs.Named.{made_listed, made_length, gray_named, black_named, targets_named, marked_named}
use Rattle.k_mark.proofs.lists.lists_name_what_is_there.Goals as goal

pub returns-clause-made : goal.returns-clause-made
returns-clause-made c = made_listed

pub returns-clause-bound : goal.returns-clause-bound
returns-clause-bound c = made_length

pub returns-clause-gray : goal.returns-clause-gray
returns-clause-gray c = gray_named

pub returns-clause-black : goal.returns-clause-black
returns-clause-black c = black_named

pub returns-clause-exits : goal.returns-clause-exits
returns-clause-exits c = targets_named

pub returns-clause-marked_exits : goal.returns-clause-marked_exits
returns-clause-marked_exits c = marked_named
