-- What a new cell of a shared heap has room for.
use Rattle.std.proofs.Common.{◌≡◌, ℕ, ◌+◌, ◌<◌, ◌==◌, cond, ap, ◌∙◌, inl, [], map, get_or, Some, None, eq-eqb, arith}
use Rattle.k_types.specs.declared.names.SharedId.{SharedId}
use Rattle.k_types.specs.declared.setup.Setup.{Setup}
use Rattle.k_types.specs.Numbers.{numbers_below}
use Rattle.k_types.specs.Trace.{segment_count, trace_of}
use Rattle.k_cell.specs.k_tie.Values.{NoteValue}
use Rattle.k_cell.specs.Holdings.{HasObjectRoom}
use Rattle.k_shared.specs.SharedHeaps.{holdings_of, opened_shared, shared_segment}
use Rattle.k_types.proofs.Lists.{at_number}

own_listed : (setup : Setup) (id : SharedId) (n : ℕ) → id.0 < setup.shared →
    get_or (map (λ number. cond (number == shared_segment setup id) (Some n) None) (numbers_below (segment_count (trace_of setup [] [])))) (shared_segment setup id) None ≡ Some n
own_listed setup id n there =
    at_number (λ number. cond (number == shared_segment setup id) (Some n) None) 0 (segment_count (trace_of setup [] [])) (shared_segment setup id) None (omega (arith, there))
    ∙ ap (λ b. cond b (Some n) None) (eq-eqb (0 + shared_segment setup id) (shared_segment setup id) (omega arith))

pub serial_left : (setup : Setup) (id : SharedId) (objects exits : ℕ) (note : NoteValue) → id.0 < setup.shared → 0 < objects →
    HasObjectRoom (holdings_of (opened_shared setup id objects exits note)) (shared_segment setup id)
serial_left setup id objects exits note there some = record {
  given = 0;
  room = objects;
  there = own_listed setup id 0 there;
  can_give = own_listed setup id objects there;
  left = inl some;
}
