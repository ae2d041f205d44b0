use Rattle.k_mark.proofs.Named.{gray_empty, black_empty, exits_empty, unmarked_gray_empty, unmarked_black_empty, unmarked_exits_empty}
use Rattle.k_mark.proofs.lists.lists_are_empty_without_marks.Goals as goal

pub returns-clause-gray : goal.returns-clause-gray
returns-clause-gray c = gray_empty

pub returns-clause-black : goal.returns-clause-black
returns-clause-black c = black_empty

pub returns-clause-exits : goal.returns-clause-exits
returns-clause-exits c = exits_empty

pub returns-clause-unmarked_gray : goal.returns-clause-unmarked_gray
returns-clause-unmarked_gray c = unmarked_gray_empty

pub returns-clause-unmarked_black : goal.returns-clause-unmarked_black
returns-clause-unmarked_black c = unmarked_black_empty

pub returns-clause-unmarked_exits : goal.returns-clause-unmarked_exits
returns-clause-unmarked_exits c = unmarked_exits_empty
