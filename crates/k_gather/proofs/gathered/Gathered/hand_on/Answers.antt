use Rattle.k_gather.proofs.gathered.Gathered.hand_on.Goals as goal

pub returns-in-Err-clause-written : goal.returns-in-Err-clause-written
returns-in-Err-clause-written g c = record {
  ok = tt;
  err = (c.in-Err.stopped.taken, rw c.as_slice.ensures at c.in-Err.ensures.front);
  steady = tt;
  cause = record { later = c.pass.ensures.cause.later; failed = c.in-Err.ensures.cause.failed };
}
