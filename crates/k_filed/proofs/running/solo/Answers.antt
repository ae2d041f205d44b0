use Rattle.std.proofs.Common.{◌≡◌, ℕ, ◌<◌, ◌+◌, ◌*◌, ◌≤◌, nat_lt, true, List, [], ◌∷◌, Some, None, Result, Ok, Err, map, drop, length, get_or, option_copied, ap, subst, sym, ◌∙◌, arith, Vec, Global}
use Rattle.std.specs.Prelude.{IfOk}
use Rattle.std.specs.List.{list_all}
use Rattle.k_types.specs.declared.names.Pid.{Pid}
use Rattle.k_types.specs.declared.op.Op.{Op}
use Rattle.k_types.specs.declared.event.Event.{Event}
use Rattle.k_types.specs.FileOrder.{events_of, last_events, next_operation}
use Rattle.k_types.specs.Trace.{Trace, process_count}
use Rattle.k_types.specs.TraceRules.{KeepsRules}
use Rattle.k_trace.specs.Meaning.{meaning_of}
use Rattle.k_state.specs.Machines.{Machine}
use Rattle.k_state.specs.Rooms.{HasRoom}
use Rattle.k_solo.specs.Runs.{IsFiled}
use Rattle.k_filed.specs.Taken.{HasTaken}
use Rattle.k_filed.proofs.Follows.{Follows, filed_run, follows_none, follows_some, last_known, last_legal, line_legal}
use Rattle.k_filed.proofs.Lines.{few_events, few_last, few_more, order_length}
use Rattle.k_solo.proofs.Rooms.{history_room}
use Rattle.k_filed.proofs.running.solo.Goals as goal
use Rattle.k_filed.proofs.running.solo.Goals.{in-Some+in_ok-do_operation, in_default}
use Rattle.k_types.proofs.Numbered.{process_known, order_next, order_over}

-- the process of that number in the order is one of the trace's
known_at : (trace : Trace) (pids : List Pid) (i : ℕ) → KeepsRules trace → map (λ (pid : Pid). pid.0) pids ≡ trace.order → i < length pids →
    (get_or pids i (record { 0 = 0 })).0 < process_count trace
known_at trace pids i rules all inside =
    process_known (process_count trace) pids i (record { 0 = 0 })
    (subst (λ (ps : List ℕ). list_all (λ p. nat_lt p (process_count trace)) ps ≡ true) (sym all) rules.operations.ordered) inside

-- the machine's shared heaps are few
few_shared : (trace : Trace) (m : Machine) (events : List Event) (order : List ℕ) → KeepsRules trace → Follows trace m events order → m.setup.shared_heaps ≤ 64
few_shared trace m events order rules f = subst (λ (s : Trace). s.shared_heaps ≤ 64) (sym f.setup) rules.shared

-- there is room for the events of one operation more
room_at : (trace : Trace) (m : Machine) (events : List Event) (pids : List Pid) (order : List ℕ) (i : ℕ) → KeepsRules trace → map (λ (pid : Pid). pid.0) pids ≡ trace.order →
    Follows trace m events order → length events ≤ 66 * i → i ≤ length pids → HasRoom 66 m.state
room_at trace m events pids order i rules all f few inside =
    subst (HasRoom 66) (sym f.after)
    (history_room 66 trace events (omega (arith, few, inside, order_length pids trace.order all, rules.operations.room)))

-- what holds of the one value holds of the answer
ok_same : {A E : Type 0} (P : A → Type 0) (result : Result A E) (value : A) → IfOk result (λ a. a ≡ value) → P value → IfOk result P
ok_same P (Ok a) value is holds = subst P (sym is) holds
ok_same P (Err e) value is holds = tt

pub next_operation-requires : goal.next_operation-requires
next_operation-requires c =
    let trace = (meaning_of c.args.trace.now).trace in
    let pids = c.deref-pid-items.result.now in
    subst (λ (s : Trace). (get_or pids c.loop-pid.pid-index (record { 0 = 0 })).0 < process_count s) (sym c.loop-pid.invariant.follows.setup)
    (known_at trace pids c.loop-pid.pid-index c.requires (ap (map (λ (pid : Pid). pid.0)) c.deref-pid-items.ensures.value) (omega arith))

pub do_operation-requires-clause-legal : goal.do_operation-requires-clause-legal
do_operation-requires-clause-legal c =
    let trace = (meaning_of c.args.trace.now).trace in
    let m = c.loop-pid.state in
    let events = c.loop-pid.events.items in
    let pids = c.deref-pid-items.result.now in
    let i = c.loop-pid.pid-index in
    let pid : Pid = get_or pids i (record { 0 = 0 }) in
    let next : next_operation trace m.state pid.0 ≡ Some c.in-Some.op.now
    = sym (c.next_operation.ensures trace (ap (map (λ (list : Vec Op Global). list.items)) (sym c.deref.ensures.value))) ∙ ap option_copied c.in-Some.is in
    let here : Follows trace m events (pid.0 ∷ map (λ (p : Pid). p.0) (drop (i + 1) pids))
    = subst (Follows trace m events) (order_next pids i (record { 0 = 0 }) (omega arith)) c.loop-pid.invariant.follows in
    line_legal trace m events pid.0 (map (λ (p : Pid). p.0) (drop (i + 1) pids)) c.in-Some.op.now c.requires next here

pub do_operation-requires-clause-room : goal.do_operation-requires-clause-room
do_operation-requires-clause-room c =
    let pids = c.deref-pid-items.result.now in
    room_at (meaning_of c.args.trace.now).trace c.loop-pid.state c.loop-pid.events.items pids (map (λ (p : Pid). p.0) (drop c.loop-pid.pid-index pids)) c.loop-pid.pid-index c.requires
    (ap (map (λ (pid : Pid). pid.0)) c.deref-pid-items.ensures.value) c.loop-pid.invariant.follows c.loop-pid.invariant.few (omega arith)

pub loop-pid-preserved : goal.loop-pid-preserved
loop-pid-preserved c =
    let trace = (meaning_of c.args.trace.now).trace in
    let m = c.loop-pid.state in
    let events = c.loop-pid.events.items in
    let pids = c.deref-pid-items.result.now in
    let i = c.loop-pid.pid-index in
    let pid : Pid = get_or pids i (record { 0 = 0 }) in
    let rest : List ℕ = map (λ (p : Pid). p.0) (drop (i + 1) pids) in
    let told = c.next_operation.ensures trace (ap (map (λ (list : Vec Op Global). list.items)) (sym c.deref.ensures.value)) in
    let here : Follows trace m events (pid.0 ∷ rest) = subst (Follows trace m events) (order_next pids i (record { 0 = 0 }) (omega arith)) c.loop-pid.invariant.follows in
    elim c.match-next_operation.branch [
      | in-Some+in_ok-do_operation w ↦
          let op : Op = w.in-Some.op.now in
          let after = w.do_operation.new.state in
          let newer = w.do_operation.new.events.items in
          let next : next_operation trace m.state pid.0 ≡ Some op = sym told ∙ ap option_copied w.in-Some.is in
          let taken : HasTaken m after events newer (events_of m.setup m.state pid.0 (Some op)) = w.in_ok-do_operation.ensures in
          let moved : Follows trace after newer rest = follows_some trace m after events newer pid.0 rest op next taken here in
          let pushed : c.match-next_operation.events.items ≡ newer = ap (λ (v : Vec Event Global). v.items) w.events-is in
          let more = few_more events newer (events_of m.setup m.state pid.0 (Some op)) i taken.journal
          (few_events m.setup m.state pid.0 op (few_shared trace m events (pid.0 ∷ rest) c.requires here)) c.loop-pid.invariant.few in
          record {
            follows = subst (λ (n : Machine). Follows trace n c.match-next_operation.events.items rest) (sym w.state-is)
                (subst (λ (es : List Event). Follows trace after es rest) (sym pushed) moved);
            few = omega (arith, ap (λ (es : List Event). length es) pushed, more);
          }
      | in_default w ↦
          let next : next_operation trace m.state pid.0 ≡ None = sym told ∙ ap option_copied w.in_default.is in
          let stays : c.match-next_operation.events.items ≡ events = ap (λ (v : Vec Event Global). v.items) w.events-is in
          record {
            follows = subst (λ (n : Machine). Follows trace n c.match-next_operation.events.items rest) (sym w.state-is)
                (subst (λ (es : List Event). Follows trace m es rest) (sym stays) (follows_none trace m events pid.0 rest next here));
            few = omega (arith, ap (λ (es : List Event). length es) stays, c.loop-pid.invariant.few);
          }
    ]

pub do_last-requires-clause-legal : goal.do_last-requires-clause-legal
do_last-requires-clause-legal c =
    let trace = (meaning_of c.args.trace.now).trace in
    let over : Follows trace c.loop-pid.state c.loop-pid.events.items []
    = subst (Follows trace c.loop-pid.state c.loop-pid.events.items) (order_over c.deref-pid-items.result.now c.loop-pid.pid-index (omega arith)) c.loop-pid.invariant.follows in
    last_legal trace c.loop-pid.state c.loop-pid.events.items c.requires over

pub do_last-requires-clause-room : goal.do_last-requires-clause-room
do_last-requires-clause-room c =
    let pids = c.deref-pid-items.result.now in
    room_at (meaning_of c.args.trace.now).trace c.loop-pid.state c.loop-pid.events.items pids (map (λ (p : Pid). p.0) (drop c.loop-pid.pid-index pids)) c.loop-pid.pid-index c.requires
    (ap (map (λ (pid : Pid). pid.0)) c.deref-pid-items.ensures.value) c.loop-pid.invariant.follows c.loop-pid.invariant.few (omega arith)

pub of-requires-clause-known : goal.of-requires-clause-known
of-requires-clause-known c =
    let trace = (meaning_of c.args.trace.now).trace in
    let over : Follows trace c.loop-pid.state c.loop-pid.events.items []
    = subst (Follows trace c.loop-pid.state c.loop-pid.events.items) (order_over c.deref-pid-items.result.now c.loop-pid.pid-index (omega arith)) c.loop-pid.invariant.follows in
    last_known trace c.loop-pid.state c.do_last.new.state c.loop-pid.events.items c.do_last.new.events.items c.requires over c.in_ok-do_last.ensures

pub of-requires-clause-few : goal.of-requires-clause-few
of-requires-clause-few c =
    let trace = (meaning_of c.args.trace.now).trace in
    let m = c.loop-pid.state in
    let events = c.loop-pid.events.items in
    let pids = c.deref-pid-items.result.now in
    let taken : HasTaken m c.do_last.new.state events c.do_last.new.events.items (last_events m.setup m.state) = c.in_ok-do_last.ensures in
    let few = few_shared trace m events (map (λ (p : Pid). p.0) (drop c.loop-pid.pid-index pids)) c.requires c.loop-pid.invariant.follows in
    let more = few_more events c.do_last.new.events.items (last_events m.setup m.state) c.loop-pid.pid-index taken.journal (few_last m.setup m.state few) c.loop-pid.invariant.few in
    let count = order_length pids trace.order (ap (map (λ (pid : Pid). pid.0)) c.deref-pid-items.ensures.value) in
    omega (arith, more, count, c.requires.operations.room)

pub returns : goal.returns
returns c =
    let trace = (meaning_of c.args.trace.now).trace in
    let over : Follows trace c.loop-pid.state c.loop-pid.events.items []
    = subst (Follows trace c.loop-pid.state c.loop-pid.events.items) (order_over c.deref-pid-items.result.now c.loop-pid.pid-index (omega arith)) c.loop-pid.invariant.follows in
    ok_same (IsFiled trace) c.of.result (record { machine = c.do_last.new.state; events = c.do_last.new.events.items }) c.of.ensures
    (filed_run trace c.loop-pid.state c.do_last.new.state c.loop-pid.events.items c.do_last.new.events.items c.requires over c.in_ok-do_last.ensures)
