use Rattle.std.proofs.Common.{◌≡◌, ◌∷◌, ◌+◌, None, [], Option, ap, ◌∙◌, length, map, replicate, arith}
use Rattle.k_types.specs.State.{opening}
use Rattle.k_types.specs.Trace.{trace_of}
use Rattle.k_types.specs.declared.names.Name.{Name}
use Rattle.k_types.specs.declared.setup.LimitRow.{LimitRow}
use Rattle.k_state.proofs.Openings.{opening_shown}
use Rattle.k_state.proofs.opening.opening_state.Goals as goal

pub returns : goal.returns
returns c =
    let s = c.args.setup.now in
    let t = trace_of s [] [] in
    let n : c.len-procs.result ≡ length s.procs.items = omega (arith, c.len-procs.ensures) in
    let made : c.in_ok-made.made.items ≡ (opening t).made
    = c.in_ok-made.ensures ∙ ap (λ k. 1 ∷ replicate (k + s.shared) 0) n in
    let registers : c.in_ok-registers.registers.items ≡ (opening t).registers
    = c.in_ok-registers.ensures ∙ ap (λ k. replicate k (replicate {A = Option Name} 16 None)) n in
    let done : c.in_ok-done.done.items ≡ (opening t).done
    = c.in_ok-done.ensures.items_if_clones_equal (λ y e. e) ∙ ap (λ k. replicate k 0) n in
    let phases : c.in_ok-phases.phases.items ≡ (opening t).phases
    = c.in_ok-phases.ensures.items_if_clones_equal (λ y e. e) in
    let maxima : c.in_ok-maxima.maxima.items ≡ (opening t).maxima
    = c.in_ok-maxima.ensures ∙ ap (map (λ (row : LimitRow). row.max)) c.deref.ensures.value in
    opening_shown t _ _ _ _ _ _ _ _ _ c.in_ok-objects.ensures made registers done
    c.new.ensures.items c.new-2.ensures.items phases c.new-3.ensures.items maxima
