use Rattle.std.proofs.Common.{◌≡◌, ◌∙◌, [], ap, rules}
use Rattle.k_types.specs.State.{State}
use Rattle.k_types.specs.Trace.{process_count, trace_of}
use Rattle.k_state.specs.Stills.{blank}
use Rattle.k_audit.specs.Claims.{Claims}
use Rattle.k_audit.specs.Reading.{Reading}
use Rattle.k_audit.specs.declared.places.Place.TheVariants.{Start}
use Rattle.k_audit.proofs.reader.Reader.unread.Goals as goal

pub returns : goal.returns
returns c =
    let none : State = blank (process_count (trace_of c.args.setup.now [] [])) in
    let many : c.args.setup.now.procs.len ≡ process_count (trace_of c.args.setup.now [] []) = search rules in
    let state : c.in_ok-blank.field-0 ≡ none = c.in_ok-blank.ensures ∙ ap blank (c.len.ensures ∙ many) in
    ap (λ (s : State). let r : Reading = record { place = Start; snap = record { state = s; claims = c.nothing.result } } in r) state
    ∙ ap (λ (k : Claims). let r : Reading = record { place = Start; snap = record { state = none; claims = k } } in r) c.nothing.ensures
