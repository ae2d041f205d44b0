use Rattle.k_cell.proofs.Marks.{begun_kept, begun_seen}
use Rattle.k_cell.proofs.Carried.{begun_carried}
use Rattle.k_cell.proofs.holding.Holdings.begin.Goals as goal

pub invariant_of-self : goal.invariant_of-self
invariant_of-self c =
    record {
      tables =
          begun_kept c.self.inside.bound c.self.inside.phase c.self.inside.area c.clear.new.self c.self.inside.exits c.clear.new.exits c.clear.ensures.area c.clear.ensures.exits c.self.inside.bytes c.self.invariant.tables;
      carried =
          begun_carried c.self.inside.phase c.self.inside.area c.clear.new.self c.self.inside.exits c.clear.new.exits c.self.inside.carried c.self.invariant.carried c.clear.ensures.area c.clear.ensures.exits;
    }

pub returns : goal.returns
returns c =
    rw (← c.self.view_is)
    (begun_seen c.self.inside.bound c.self.inside.phase c.self.inside.area c.clear.new.self c.self.inside.exits c.clear.new.exits c.clear.ensures.area c.clear.ensures.exits c.self.inside.note)
