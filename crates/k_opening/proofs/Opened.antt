-- A run that is put behind its locks.
use Rattle.std.proofs.Common.{◌≡◌, ◌<◌, ◌^◌, ℕ, refl, sym, ◌∙◌, subst, List, length, replicate, arith}
use Rattle.std.proofs.lemmas.List.Elements.{All-replicate}
use Rattle.k_types.specs.declared.setup.Setup.{Setup}
use Rattle.k_turns.specs.Values.{AreFree, IsFree, PassValue, TurnsValue, fresh_pass}
use Rattle.k_locks.specs.k_process.SharedHeaps.{SharedRecord}
use Rattle.k_outcome.specs.k_process.declared.process.Process.{Process}
use Rattle.k_outcome.specs.k_process.BetweenSteps.{HeapsStand, ProcessesStand}
use Rattle.k_outcome.specs.k_process.Worlds.{WorldValue}
use Rattle.k_still.specs.Opening.{IsSetupOf}
use Rattle.k_outcome.specs.Listed.{AreRoomsFor}
use Rattle.k_locks.specs.declared.rooms.EndRooms.{EndRooms}
use Rattle.k_locks.specs.Rooms.{AreEndRooms}
use Rattle.k_opening.specs.Worlds.{HoldsRun}

-- there are processes, and few of them
pub some_processes : (world : WorldValue) (setup : Setup) (ps : List Process) → ProcessesStand world ps → IsSetupOf setup world → 0 < length ps
some_processes world setup ps stand of = omega (arith, stand.count, of.rules.some_process)

pub few_processes : (world : WorldValue) (setup : Setup) (ps : List Process) → ProcessesStand world ps → IsSetupOf setup world → length ps < 2 ^ 32
few_processes world setup ps stand of = omega (arith, stand.count, of.rules.processes)

-- passes are free as they are made
pub made_free : (turns : TurnsValue) (n : ℕ) (passes : List PassValue) → passes ≡ replicate n (fresh_pass turns n) → AreFree turns passes
made_free turns n passes is = subst (AreFree turns) (sym is) (All-replicate (IsFree turns) n (fresh_pass turns n) ((refl, refl), refl))

-- as many locks and places as cells, rooms for the report, and free passes are what a run holds
pub holds_run : (world : WorldValue) (setup : Setup) (ps : List Process) (ss : List SharedRecord) (locks shared_locks places shared_places : ℕ) (rooms : EndRooms) (report : List ℕ) (turns : TurnsValue) (passes : List PassValue) →
    ProcessesStand world ps → HeapsStand world ss → IsSetupOf setup world → locks ≡ length ps → shared_locks ≡ length ss → places ≡ length ps → shared_places ≡ length ss → AreEndRooms places shared_places rooms →
    AreRoomsFor world.trace report → AreFree turns passes → HoldsRun world locks shared_locks rooms report turns passes setup
holds_run world setup ps ss locks shared_locks places shared_places rooms report turns passes stand heaps of locks_are shared_are places_are shared_places_are room listed free = record {
  processes = locks_are ∙ stand.count;
  shared = shared_are ∙ heaps.count;
  have_rooms = subst (λ k. AreEndRooms k world.trace.shared_heaps rooms) (places_are ∙ stand.count) (subst (λ k. AreEndRooms places k rooms) (shared_places_are ∙ heaps.count) room);
  report = listed;
  are_free = free;
  setup_is = of.is;
}
