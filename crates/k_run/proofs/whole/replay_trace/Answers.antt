use Rattle.std.proofs.Common.{◌≡◌, sym, subst}
use Rattle.k_types.specs.FileOrder.{file_order}
use Rattle.k_opening.specs.k_outcome.Ends.{journal_of}
use Rattle.k_trace.specs.Meaning.{meaning_of}
use Rattle.k_trace.specs.Named.{NamedTrace}
use Rattle.k_run.specs.Runs.{IsRunOf}
use Rattle.k_opening.specs.Stills.{IsOpenedStill}
use Rattle.k_run.proofs.Told.{named_told}
use Rattle.k_run.proofs.whole.replay_trace.Goals as goal

pub replay-requires : goal.replay-requires
replay-requires c =
    subst (λ (n : NamedTrace). IsOpenedStill n c.in_ok-still.still) (named_told (meaning_of c.args.trace) c.in_ok-still.still.cells c.in_ok-still.ensures.cells) c.in_ok-still.ensures

pub returns : goal.returns
returns c =
    let told = sym (named_told (meaning_of c.args.trace) c.in_ok-still.still.cells c.in_ok-still.ensures.cells) in (
      subst (λ (n : NamedTrace). IsRunOf n c.replay.result) told c.replay.ensures.run,
      subst (λ (n : NamedTrace). journal_of c.replay.result ≡ file_order n.trace) told c.replay.ensures.journal,
    )
