-- A state in which nothing is done, scanned or closed, as one that is given part by part.
use Rattle.std.specs.Prelude.{ℕ, false, None, [], replicate}
use Rattle.k_types.specs.Bounds.{register_count}
use Rattle.k_types.specs.State.{State}

-- Nothing is given yet: each of so many processes has null in its registers.
abbrev pub blank : ℕ → State
blank procs = record {
  objects = [];
  made = [];
  registers = replicate procs (replicate register_count None);
  done = replicate procs 0;
  exits = [];
  shares = [];
  phases = [];
  ended = [];
  scans = [];
  closed = false;
  maxima = [];
}
