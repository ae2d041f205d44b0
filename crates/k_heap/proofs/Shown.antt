-- What the cell of a process shows at first, and once a register is set.
use Rattle.std.proofs.Common.{◌≡◌, ℕ, Bool, false, ap, ap₂, ◌∙◌, List, [], replicate, set, Option, Some, None, option_map}
use Rattle.std.proofs.lemmas.List.{map-set}
use Rattle.k_types.specs.declared.event.Event.{Event}
use Rattle.k_types.specs.declared.names.Link.{Link}
use Rattle.k_types.specs.declared.names.Name.{Name}
use Rattle.k_types.specs.declared.names.Pid.{Pid}
use Rattle.k_types.specs.declared.setup.Setup.{Setup}
use Rattle.k_types.specs.Names.{name_of}
use Rattle.k_cell.specs.k_space.Objects.{BodyValue}
use Rattle.k_cell.specs.k_tie.Values.{NoteValue}
use Rattle.k_cell.specs.Holdings.{HoldingsValue, fresh_holdings}
use Rattle.k_heap.specs.declared.heap.CellRooms.{CellRooms}
use Rattle.k_heap.specs.Heaps.{heap_seen, of_process, opened_heap, own_segment, segments_of, with_register_in}

pub set_seen : (h : HoldingsValue) (pid : Pid) (registers : List (Option Link)) (done : ℕ) (ended : Bool) (tail : List Event) (room : ℕ) (bodies : List BodyValue) (r : ℕ) (value : Option Link) →
    heap_seen h pid (set registers r value) done ended tail room bodies ≡ record (heap_seen h pid registers done ended tail room bodies) { value = with_register_in r (option_map name_of value) (of_process registers done ended tail h.value) }
set_seen h pid registers done ended tail room bodies r value =
    ap (λ (rs : List (Option Name)). record (heap_seen h pid registers done ended tail room bodies) { value = record h.value { process = Some (record { registers = rs; done = done; has_ended = ended }); tail = tail } })
    (map-set (option_map name_of) registers r value)

pub opened_seen : (setup : Setup) (pid : Pid) (bodies : List BodyValue) (rooms : CellRooms) (note : NoteValue) (h : HoldingsValue) (tail : List Event) (room : ℕ) →
    h ≡ fresh_holdings (own_segment pid) (record { bound = segments_of setup; segments = 1; objects = rooms.objects; exits = rooms.exits }) note → tail ≡ [] → room ≡ rooms.tail →
    heap_seen h pid (replicate 16 None) 0 false tail room bodies ≡ opened_heap setup pid bodies rooms note
opened_seen setup pid bodies rooms note h tail room held empty few =
    ap₂ (λ (h : HoldingsValue) (tail : List Event). heap_seen h pid (replicate 16 None) 0 false tail room bodies) held empty
    ∙ ap (λ k. heap_seen (fresh_holdings (own_segment pid) (record { bound = segments_of setup; segments = 1; objects = rooms.objects; exits = rooms.exits }) note) pid (replicate 16 None) 0 false [] k bodies) few
