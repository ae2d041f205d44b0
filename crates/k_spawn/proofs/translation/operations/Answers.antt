use Rattle.std.proofs.Common.{◌≡◌, ◌≤◌, ◌<◌, ◌∙◌, ◌+◌, List, length, drop, sym, ap, subst, arith, slice_index_or}
use Rattle.k_types.specs.declared.op.Op.TheVariants.{New}
use Rattle.k_types.specs.Trace.{process_count}
use Rattle.k_trace.specs.OperationLists.{OperationLists}
use Rattle.k_spawn.specs.declared.script.Deed.TheVariants.{Does}
use Rattle.k_spawn.specs.declared.script.ScriptLine.{ScriptLine}
use Rattle.k_spawn.specs.Scripts.{Script}
use Rattle.k_spawn.specs.Translated.{IsLineOf, idle, with_lines, with_operations}
use Rattle.k_spawn.specs.Translation.{operations_of_deed}
use Rattle.k_spawn.proofs.Gathered.{idle_length, lines_step, lines_end, next_holds, processes_are}
use Rattle.k_spawn.proofs.translation.operations.Goals as goal

-- what stands for a line that is not there
abbrev no_line : ScriptLine
no_line = record { pid = record { 0 = 0 }; deed = Does (New (record { 0 = 0 }) (record { 0 = 0 })) }

pub loop-line-init : goal.loop-line-init
loop-line-init c =
    let s = c.args.script.now in
    let init : c.in_ok-operations.operations ≡ idle (process_count s.header.trace + length s.parents) = c.in_ok-operations.ensures ∙ ap idle c.process_count.ensures in
    record {
      same = ap (λ (o : OperationLists). with_lines s o s.lines) init;
      count = ap (λ (o : OperationLists). length o.operations) init ∙ idle_length (process_count s.header.trace + length s.parents);
      known = c.requires.lines;
    }

pub add_line-requires-clause-few : goal.add_line-requires-clause-few
add_line-requires-clause-few c =
    let s = c.args.script.now in
    let i = c.loop-line.line-index in
    let read : c.deref-line-items.result.now ≡ s.lines = c.deref-line-items.ensures.value ∙ ap (λ (x : Script). x.lines) c.script.view_is in
    let inside : i < length s.lines = omega (arith, ap (λ (ls : List ScriptLine). length ls) read) in
    let line = next_holds (IsLineOf s) s.lines i no_line inside c.loop-line.invariant.known in
    subst (λ (ls : List ScriptLine). (slice_index_or ls i no_line).pid.0 < 64) (sym read) (omega (arith, line.0.process, processes_are s, c.requires.rules.rules.processes))

pub loop-line-preserved : goal.loop-line-preserved
loop-line-preserved c =
    let s = c.args.script.now in
    let i = c.loop-line.line-index in
    let o = c.loop-line.operations in
    let read : c.deref-line-items.result.now ≡ s.lines = c.deref-line-items.ensures.value ∙ ap (λ (x : Script). x.lines) c.script.view_is in
    let inside : i < length s.lines = omega (arith, ap (λ (ls : List ScriptLine). length ls) read) in
    let line = next_holds (IsLineOf s) s.lines i no_line inside c.loop-line.invariant.known in
    record {
      same =
          ap (λ (x : OperationLists). with_lines s x (drop (i + 1) s.lines))
          (c.in_ok-add_line.ensures.added ∙ ap (λ (ls : List ScriptLine). with_operations o (slice_index_or ls i no_line).pid.0 (operations_of_deed s (slice_index_or ls i no_line).deed)) read)
          ∙ lines_step s o s.lines i no_line inside ∙ c.loop-line.invariant.same;
      count = c.in_ok-add_line.ensures.count ∙ c.loop-line.invariant.count;
      known = line.1;
    }

pub returns : goal.returns
returns c =
    let s = c.args.script.now in
    let read : c.deref-line-items.result.now ≡ s.lines = c.deref-line-items.ensures.value ∙ ap (λ (x : Script). x.lines) c.script.view_is in
    let done : length s.lines ≤ c.loop-line.line-index = omega (arith, ap (λ (ls : List ScriptLine). length ls) read) in
    sym (lines_end s c.loop-line.operations s.lines c.loop-line.line-index done) ∙ c.loop-line.invariant.same
