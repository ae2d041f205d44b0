-- The book of a trace that keeps its rules can be made.
use Rattle.std.proofs.Common.{◌≡◌, ◌<◌, ◌≤◌, ◌^◌, sym, ap, ◌∙◌, subst, length, None, arith}
use Rattle.k_types.specs.declared.setup.Setup.{Setup}
use Rattle.k_book.specs.Books.{HasFewSegments}
use Rattle.k_heap.specs.Heaps.{segments_of}
use Rattle.k_limits.specs.Rows.{AreRows, first_refused}
use Rattle.k_limits.proofs.Fits.{none_refused}
use Rattle.k_process.specs.Worlds.{WorldValue}
use Rattle.k_still.specs.Opening.{IsSetupOf}
use Rattle.k_still.proofs.Stands.{setup_directory, setup_limits, setup_procs, setup_shared}

module _ (world : WorldValue) (setup : Setup) (w : IsSetupOf setup world) where
  pub rows_stand : AreRows setup.limits.items
  rows_stand = subst AreRows (sym (setup_limits world setup w)) (record { tree = w.rules.limits.tree; small = w.rules.limits.small })

  pub few_rows : length setup.limits.items < 2 ^ 32
  few_rows = omega (arith, ap length (setup_limits world setup w), w.rules.limit_count)

  pub few_segments : segments_of setup ≤ 129
  few_segments = omega (arith, setup_procs world setup w, setup_shared world setup w, w.rules.processes, w.rules.shared)

  pub has_few_segments : HasFewSegments setup
  has_few_segments = omega (arith, few_segments)

  -- what the limits reserve fits
  pub none_is_refused : first_refused setup.limits.items ≡ None
  none_is_refused = ap first_refused (setup_limits world setup w) ∙ (none_refused world.trace.limits w.rules.limits.tree).1 w.rules.limits.fits

  pub few_fields : setup.dir_fields ≤ 16
  few_fields = omega (arith, setup_directory world setup w, w.rules.directory)
