-- What is reached from a register through three heaps can still be used, and a cycle that nothing reaches can not.
use Rattle.std.proofs.Common.{◌≡◌, refl, lit<}
use Rattle.k_types.specs.Steps.{IsLegalHistory}
use Rattle.k_types.specs.FileOrder.{file_order, file_order_from}
use Rattle.k_types.specs.TraceRules.{KeepsRules}
use Rattle.k_types.specs.Complete.{IsComplete}
use Rattle.k_rows.specs.Words.{trace_doing, usual}
use Rattle.k_rows.specs.Lefts.{left_by, live_by}
use Rattle.k_rows.specs.Worked.{IsWorked}
use Rattle.k_rows.specs.Liveness.{reached_through_three_heaps, reached_through_three_heaps_left, reached_through_three_heaps_live}
use Rattle.k_rows.proofs.Machine.{machine}
use Rattle.k_rows.proofs.Rules.{rules_kept, is_complete}

legal : IsLegalHistory (trace_doing usual reached_through_three_heaps) reached_through_three_heaps
unfolding machine
legal = (
  record { known = lit< tt; lives = refl; in_range = refl; idle = refl; orphans = refl; replied = refl },
  (
    record { known = lit< tt; lives = refl; in_range = refl; idle = refl; orphans = refl; replied = refl },
    (
      record { known = lit< tt; lives = refl; in_range = refl; idle = refl; orphans = refl; replied = refl },
      (
        record { known = lit< tt; lives = refl; in_range = refl; idle = refl; orphans = refl; replied = refl },
        (
          record { known = lit< tt; lives = refl; in_range = refl; idle = refl; orphans = refl; replied = refl },
          (
            record { known = lit< tt; lives = refl; in_range = refl; idle = refl; orphans = refl; replied = refl },
            (
              record { known = lit< tt; lives = refl; in_range = refl; idle = refl; orphans = refl; replied = refl },
              (
                record { known = lit< tt; lives = refl; in_range = refl; idle = refl; orphans = refl; replied = refl },
                (
                  record { known = lit< tt; lives = refl; in_range = refl; idle = refl; orphans = refl; replied = refl },
                  (
                    record { known = lit< tt; lives = refl; in_range = refl; idle = refl; orphans = refl; replied = refl },
                    (
                      record { known = lit< tt; lives = refl; in_range = refl; idle = refl; orphans = refl; replied = refl },
                      (
                        record { known = lit< tt; lives = refl; in_range = refl; idle = refl; orphans = refl; replied = refl },
                        (
                          record { known = lit< tt; lives = refl; in_range = refl; idle = refl; orphans = refl; replied = refl },
                          (
                            record { known = lit< tt; lives = refl; in_range = refl; idle = refl; orphans = refl; replied = refl },
                            (
                              record { known = lit< tt; lives = refl; in_range = refl; idle = refl; orphans = refl; replied = refl },
                              (
                                record { known = lit< tt; lives = refl; in_range = refl; idle = refl; orphans = refl; replied = refl },
                                (
                                  record { known = lit< tt; lives = refl; in_range = refl; idle = refl; orphans = refl; replied = refl },
                                  (
                                    record { known = lit< tt; lives = refl; in_range = refl; idle = refl; orphans = refl; replied = refl },
                                    (
                                      record { known = lit< tt; lives = refl; in_range = refl; idle = refl; orphans = refl; replied = refl },
                                      (
                                        record { known = lit< tt; lives = refl; in_range = refl; idle = refl; orphans = refl; replied = refl },
                                        (
                                          record { known = lit< tt; lives = refl; in_range = refl; idle = refl; orphans = refl; replied = refl },
                                          (
                                            record { known = lit< tt; lives = refl; in_range = refl; idle = refl; orphans = refl; replied = refl },
                                            (
                                              record { known = lit< tt; lives = refl; in_range = refl; idle = refl; orphans = refl; replied = refl },
                                              (
                                                record { known = lit< tt; lives = refl; in_range = refl; idle = refl; orphans = refl; replied = refl },
                                                (
                                                  record { known = lit< tt; lives = refl; in_range = refl; idle = refl; orphans = refl; replied = refl },
                                                  tt,
                                                ),
                                              ),
                                            ),
                                          ),
                                        ),
                                      ),
                                    ),
                                  ),
                                ),
                              ),
                            ),
                          ),
                        ),
                      ),
                    ),
                  ),
                ),
              ),
            ),
          ),
        ),
      ),
    ),
  ),
)

filed : file_order (trace_doing usual reached_through_three_heaps) ≡ reached_through_three_heaps
unfolding machine file_order_from
filed = refl

left : left_by (trace_doing usual reached_through_three_heaps) reached_through_three_heaps ≡ reached_through_three_heaps_left
unfolding machine
left = refl

rules : KeepsRules (trace_doing usual reached_through_three_heaps)
unfolding machine
rules = rules_kept usual reached_through_three_heaps refl refl refl

complete : IsComplete (trace_doing usual reached_through_three_heaps) reached_through_three_heaps
unfolding machine
complete = is_complete usual reached_through_three_heaps refl refl

pub worked : IsWorked usual reached_through_three_heaps reached_through_three_heaps_left
worked = record { legal = legal; filed = filed; leaves = left; rules = rules; complete = complete }

pub live : live_by (trace_doing usual reached_through_three_heaps) reached_through_three_heaps ≡ reached_through_three_heaps_live
unfolding machine
live = refl
