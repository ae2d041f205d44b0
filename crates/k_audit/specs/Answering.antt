-- The answer of the audit, computed.
use Rattle.std.specs.Prelude.{ℕ, not, Some, Result, Ok, Err, length, if◌then◌else◌}
use Rattle.std.specs.List.{list_all}
use Rattle.k_types.specs.Numbers.{numbers_below}
use Rattle.k_types.specs.Owners.{owner_of}
use Rattle.k_types.specs.Trace.{Trace}
use Rattle.k_words.specs.Words.{Text}
use Rattle.k_trace.specs.Named.{DeclaredNames}
use Rattle.k_audit.specs.Agreeing.{claims_agree}
use Rattle.k_audit.specs.Claims.{Snap}
use Rattle.k_audit.specs.Reading.{is_whole, read_lines, unread}
use Rattle.k_audit.specs.Tests.{exit_leaves, is_numbered, nothing_dangles, nothing_left, object_guarded, phases_agree, use_fits}
use Rattle.k_audit.specs.Verdicts.{fed_lines}
use Rattle.k_audit.specs.declared.verdicts.Verdict.{Verdict}
use Rattle.k_audit.specs.declared.verdicts.Verdict.TheVariants.{Sound, Line, Point}

-- The first point that does not hold, by the tests.
abbrev pub point_of : Trace → Snap → Verdict
point_of trace snap =
    if not (list_all (is_numbered snap.state.made) snap.state.objects) then Point 1
    else if not (nothing_dangles trace snap.state) then Point 2
    else if not (list_all (object_guarded (owner_of trace snap.state) snap.state.exits) snap.state.objects) then Point 3
    else if not (list_all (exit_leaves (owner_of trace snap.state)) snap.state.exits) then Point 4
    else if not (nothing_left trace snap.state) then Point 5
    else if not (phases_agree trace snap.state) then Point 6
    else if not (list_all (use_fits trace snap.state) (numbers_below (length trace.limits))) then Point 7
    else if not (claims_agree trace snap.state snap.claims) then Point 8
    else Sound

-- The verdict on what was read, or on the line that does not fit.
abbrev pub verdict_of : Trace → Result Snap ℕ → Verdict
verdict_of trace (Ok snap) = point_of trace snap
verdict_of trace (Err line) = Line line

-- The answer to the bytes.
abbrev pub answer_to : DeclaredNames → Trace → Text → Verdict
answer_to names trace bytes = verdict_of trace (read_lines names trace (is_whole bytes) (Some (unread trace)) 1 (fed_lines bytes))
