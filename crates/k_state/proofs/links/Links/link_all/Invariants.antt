use Rattle.std.proofs.Common.{◌≡◌, length}
use Rattle.k_state.specs.Links.{AreLinked, HaveRoom}
use Rattle.k_state.proofs.links.Links.link_all.Given as goal

abbrev pub invariant-loop-at : goal.invariant-loop-at
invariant-loop-at l = record {
  linked : AreLinked l.items l.at (length l.self.lasts) l.self;
  room : HaveRoom (length l.items) l.self;
  lasts : length l.self.lasts ≡ length l.fn.self.lasts;
  befores : length l.self.befores ≡ length l.fn.self.befores;
}
