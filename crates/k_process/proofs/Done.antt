-- What a local operation leaves of the cell.
use Rattle.std.proofs.Common.{◌≡◌, ℕ, ◌++◌, refl, ap, ap₂, ◌∙◌, List, [], ◌∷◌, Option, Some, None, option_map}
use Rattle.k_types.specs.declared.event.Event.{Event}
use Rattle.k_types.specs.declared.event.Event.TheVariants.{Done as DoneEvent}
use Rattle.k_types.specs.declared.event.Reply.{Reply}
use Rattle.k_types.specs.declared.event.Reply.TheVariants.{Done, Made, Loaded, Value, Refused}
use Rattle.k_types.specs.declared.names.Name.{Name}
use Rattle.k_types.specs.declared.names.Pid.{Pid}
use Rattle.k_types.specs.declared.op.Op.{Op}
use Rattle.k_types.specs.declared.op.Op.TheVariants.{Store, Load, Move, Clear, Put}
use Rattle.k_types.specs.Agree.{CellValue}
use Rattle.k_types.specs.Cells.{ProcessPart}
use Rattle.k_types.specs.State.{Content}
use Rattle.k_laws.specs.PartUpdates.{done_in, held_in, process_with_register}
use Rattle.k_agree.specs.GivingAway.{with_one_done}
use Rattle.k_laws.specs.CellAfter.{unless_refused}
use Rattle.k_commit.specs.k_heap.Heaps.{HeapRecord}
use Rattle.k_process.specs.Locals.{after_local, local_change, written_through}

-- what stays
register_done : (r : ℕ) (value : Option Name) (o : Option ProcessPart) → done_in (option_map (process_with_register r value) o) ≡ done_in o
register_done r value None = refl
register_done r value (Some q) = refl

written_done : (b : Option Name) (i : ℕ) (content : Content) (v : CellValue) → done_in (written_through b i content v).process ≡ done_in v.process
written_done None i content v = refl
written_done (Some x) i content v = refl

written_tail : (b : Option Name) (i : ℕ) (content : Content) (v : CellValue) → (written_through b i content v).tail ≡ v.tail
written_tail None i content v = refl
written_tail (Some x) i content v = refl

change_done : (v : CellValue) (op : Op) → done_in (local_change v op).process ≡ done_in v.process
unfolding local_change
change_done v (Store base i value) = written_done (held_in v.process base.0) i _ v
change_done v (Load r base i) = register_done r.0 _ v.process
change_done v (Move r from) = register_done r.0 _ v.process
change_done v (Clear r) = register_done r.0 None v.process
change_done v (Put base i number) = written_done (held_in v.process base.0) i _ v
change_done v _ = refl

change_tail : (v : CellValue) (op : Op) → (local_change v op).tail ≡ v.tail
unfolding local_change
change_tail v (Store base i value) = written_tail (held_in v.process base.0) i _ v
change_tail v (Put base i number) = written_tail (held_in v.process base.0) i _ v
change_tail v _ = refl

-- of either value something is the same
unless_same : {A : Type 0} (f : CellValue → A) (said : Reply) (w v : CellValue) → f w ≡ f v → f (unless_refused said w v) ≡ f v
unless_same f Done w v e = e
unless_same f (Made n) w v e = e
unless_same f (Loaded value) w v e = e
unless_same f (Value n) w v e = e
unless_same f (Refused fault) w v e = refl

pub done_kept : (v : CellValue) (op : Op) (said : Reply) → done_in (unless_refused said (local_change v op) v).process ≡ done_in v.process
done_kept v op said = unless_same (λ (w : CellValue). done_in w.process) said (local_change v op) v (change_done v op)

pub tail_kept : (v : CellValue) (op : Op) (said : Reply) → (unless_refused said (local_change v op) v).tail ≡ v.tail
tail_kept v op said = unless_same (λ (w : CellValue). w.tail) said (local_change v op) v (change_tail v op)

-- the steps of a local operation together
pub local_seen : (cell one two three : HeapRecord) (op : Op) (said : Reply) (pid : Pid) → one ≡ record cell { value = unless_refused said (local_change cell.value op) cell.value } →
    two ≡ record one { value = with_one_done one.value } → pid ≡ two.pid → three ≡ record two { value = record two.value { tail = two.value.tail ++ DoneEvent pid op said ∷ [] } } →
    three ≡ record cell { value = after_local cell.pid op said cell.value }
local_seen cell one two three op said pid first second whose third =
    let both : two ≡ record cell { value = with_one_done (unless_refused said (local_change cell.value op) cell.value) } = second ∙ ap (λ (o : HeapRecord). record o { value = with_one_done o.value }) first in
    let own : pid ≡ cell.pid = whose ∙ ap (λ (t : HeapRecord). t.pid) both in
    third
    ∙ ap₂ (λ (t : HeapRecord) (q : Pid). record t { value = record t.value { tail = t.value.tail ++ DoneEvent q op said ∷ [] } }) both own
    ∙ ap (λ (events : List Event). record cell { value = record (with_one_done (unless_refused said (local_change cell.value op) cell.value)) { tail = events ++ DoneEvent cell.pid op said ∷ [] } }) (tail_kept cell.value op said)
