use Rattle.std.proofs.Common.{◌≡◌, ap, ◌∙◌, arith}
use Rattle.k_mark.specs.k_types.declared.names.CellPhase.TheVariants.{Marked}
use Rattle.k_mark.specs.Listening.{dead_at}
use Rattle.k_mark.specs.Sweeping.{dead_bytes, dead_objects}
use Rattle.k_mark.proofs.Telling.{told_same}
use Rattle.k_agree.specs.Ending.{freed_bytes, freed_objects}
use Rattle.k_cell.specs.Changes.{freed_at}
use Rattle.k_cell.specs.Holdings.{HoldingsValue, cell_seen}
use Rattle.k_cell.proofs.Marks.{freed_named, sweep_is, swept_kept, swept_seen}
use Rattle.k_cell.proofs.Carried.{swept_carried}
use Rattle.k_cell.proofs.holding.Holdings.sweep_telling.Goals as goal

pub sweep_telling-requires-clause-objects : goal.sweep_telling-requires-clause-objects
sweep_telling-requires-clause-objects g c =
    let marked : c.self.inside.phase ≡ Marked = ap (λ (h : HoldingsValue). h.value.collection) c.self.view_is ∙ c.requires.marked in
    let s = sweep_is c.self.inside.bound c.self.inside.bytes c.self.inside.phase c.self.inside.area c.self.inside.exits.items c.self.invariant.tables marked in
    let many : freed_objects (cell_seen c.self.inside.bound c.self.inside.phase c.self.inside.area c.self.inside.exits.items) ≡ freed_objects c.args.self.now.value = ap (λ (h : HoldingsValue). freed_objects h.value) c.self.view_is in
    let heavy : freed_bytes (cell_seen c.self.inside.bound c.self.inside.phase c.self.inside.area c.self.inside.exits.items) ≡ freed_bytes c.args.self.now.value = ap (λ (h : HoldingsValue). freed_bytes h.value) c.self.view_is in
    let count : dead_objects c.self.inside.area ≡ freed_objects c.args.self.now.value = s.objects ∙ many in
    let weight : dead_bytes c.self.inside.area ≡ freed_bytes c.args.self.now.value = s.bytes_of ∙ heavy in
    omega (arith, count, c.requires.objects)

pub sweep_telling-requires-clause-bytes : goal.sweep_telling-requires-clause-bytes
sweep_telling-requires-clause-bytes g c =
    let marked : c.self.inside.phase ≡ Marked = ap (λ (h : HoldingsValue). h.value.collection) c.self.view_is ∙ c.requires.marked in
    let s = sweep_is c.self.inside.bound c.self.inside.bytes c.self.inside.phase c.self.inside.area c.self.inside.exits.items c.self.invariant.tables marked in
    let many : freed_objects (cell_seen c.self.inside.bound c.self.inside.phase c.self.inside.area c.self.inside.exits.items) ≡ freed_objects c.args.self.now.value = ap (λ (h : HoldingsValue). freed_objects h.value) c.self.view_is in
    let heavy : freed_bytes (cell_seen c.self.inside.bound c.self.inside.phase c.self.inside.area c.self.inside.exits.items) ≡ freed_bytes c.args.self.now.value = ap (λ (h : HoldingsValue). freed_bytes h.value) c.self.view_is in
    let count : dead_objects c.self.inside.area ≡ freed_objects c.args.self.now.value = s.objects ∙ many in
    let weight : dead_bytes c.self.inside.area ≡ freed_bytes c.args.self.now.value = s.bytes_of ∙ heavy in
    omega (arith, weight, c.requires.bytes)

pub overflow_sub-self-2 : goal.overflow_sub-self-2
overflow_sub-self-2 g c =
    let marked : c.self.inside.phase ≡ Marked = ap (λ (h : HoldingsValue). h.value.collection) c.self.view_is ∙ c.requires.marked in
    let s = sweep_is c.self.inside.bound c.self.inside.bytes c.self.inside.phase c.self.inside.area c.self.inside.exits.items c.self.invariant.tables marked in
    let many : freed_objects (cell_seen c.self.inside.bound c.self.inside.phase c.self.inside.area c.self.inside.exits.items) ≡ freed_objects c.args.self.now.value = ap (λ (h : HoldingsValue). freed_objects h.value) c.self.view_is in
    let heavy : freed_bytes (cell_seen c.self.inside.bound c.self.inside.phase c.self.inside.area c.self.inside.exits.items) ≡ freed_bytes c.args.self.now.value = ap (λ (h : HoldingsValue). freed_bytes h.value) c.self.view_is in
    let count : dead_objects c.self.inside.area ≡ freed_objects c.args.self.now.value = s.objects ∙ many in
    let weight : dead_bytes c.self.inside.area ≡ freed_bytes c.args.self.now.value = s.bytes_of ∙ heavy in
    omega (arith, s.most, c.sweep_telling.ensures.bytes)

pub invariant_of-self : goal.invariant_of-self
invariant_of-self g c =
    let marked : c.self.inside.phase ≡ Marked = ap (λ (h : HoldingsValue). h.value.collection) c.self.view_is ∙ c.requires.marked in
    let s = sweep_is c.self.inside.bound c.self.inside.bytes c.self.inside.phase c.self.inside.area c.self.inside.exits.items c.self.invariant.tables marked in
    let many : freed_objects (cell_seen c.self.inside.bound c.self.inside.phase c.self.inside.area c.self.inside.exits.items) ≡ freed_objects c.args.self.now.value = ap (λ (h : HoldingsValue). freed_objects h.value) c.self.view_is in
    let heavy : freed_bytes (cell_seen c.self.inside.bound c.self.inside.phase c.self.inside.area c.self.inside.exits.items) ≡ freed_bytes c.args.self.now.value = ap (λ (h : HoldingsValue). freed_bytes h.value) c.self.view_is in
    let count : dead_objects c.self.inside.area ≡ freed_objects c.args.self.now.value = s.objects ∙ many in
    let weight : dead_bytes c.self.inside.area ≡ freed_bytes c.args.self.now.value = s.bytes_of ∙ heavy in
    rw (c.swap.ensures.x_after, c.swap.ensures.y_after) (record {
      tables =
          swept_kept c.self.inside.bound c.self.inside.bytes _ c.self.inside.phase c.self.inside.area c.sweep_telling.new.self c.self.inside.exits.items c.self.invariant.tables marked c.sweep_telling.ensures.area (omega (arith, s.most, c.sweep_telling.ensures.bytes));
      carried =
          swept_carried c.self.inside.phase c.self.inside.area c.sweep_telling.new.self c.self.inside.exits.items c.self.inside.carried c.self.inside.bound c.self.inside.bytes c.self.invariant.carried marked c.self.invariant.tables c.sweep_telling.ensures.area;
    })

pub returns-clause-swept : goal.returns-clause-swept
returns-clause-swept g c =
    let marked : c.self.inside.phase ≡ Marked = ap (λ (h : HoldingsValue). h.value.collection) c.self.view_is ∙ c.requires.marked in
    let s = sweep_is c.self.inside.bound c.self.inside.bytes c.self.inside.phase c.self.inside.area c.self.inside.exits.items c.self.invariant.tables marked in
    let many : freed_objects (cell_seen c.self.inside.bound c.self.inside.phase c.self.inside.area c.self.inside.exits.items) ≡ freed_objects c.args.self.now.value = ap (λ (h : HoldingsValue). freed_objects h.value) c.self.view_is in
    let heavy : freed_bytes (cell_seen c.self.inside.bound c.self.inside.phase c.self.inside.area c.self.inside.exits.items) ≡ freed_bytes c.args.self.now.value = ap (λ (h : HoldingsValue). freed_bytes h.value) c.self.view_is in
    let count : dead_objects c.self.inside.area ≡ freed_objects c.args.self.now.value = s.objects ∙ many in
    let weight : dead_bytes c.self.inside.area ≡ freed_bytes c.args.self.now.value = s.bytes_of ∙ heavy in
    rw (← c.self.view_is) (swept_seen c.self.inside.bound c.self.inside.bytes c.self.inside.phase c.self.inside.area c.sweep_telling.new.self c.self.inside.exits c.self.inside.note c.self.invariant.tables marked c.sweep_telling.ensures.area)

pub returns-clause-objects : goal.returns-clause-objects
returns-clause-objects g c =
    let marked : c.self.inside.phase ≡ Marked = ap (λ (h : HoldingsValue). h.value.collection) c.self.view_is ∙ c.requires.marked in
    let s = sweep_is c.self.inside.bound c.self.inside.bytes c.self.inside.phase c.self.inside.area c.self.inside.exits.items c.self.invariant.tables marked in
    let many : freed_objects (cell_seen c.self.inside.bound c.self.inside.phase c.self.inside.area c.self.inside.exits.items) ≡ freed_objects c.args.self.now.value = ap (λ (h : HoldingsValue). freed_objects h.value) c.self.view_is in
    let heavy : freed_bytes (cell_seen c.self.inside.bound c.self.inside.phase c.self.inside.area c.self.inside.exits.items) ≡ freed_bytes c.args.self.now.value = ap (λ (h : HoldingsValue). freed_bytes h.value) c.self.view_is in
    let count : dead_objects c.self.inside.area ≡ freed_objects c.args.self.now.value = s.objects ∙ many in
    let weight : dead_bytes c.self.inside.area ≡ freed_bytes c.args.self.now.value = s.bytes_of ∙ heavy in
    omega (arith, count, c.sweep_telling.ensures.objects)

pub returns-clause-bytes : goal.returns-clause-bytes
returns-clause-bytes g c =
    let marked : c.self.inside.phase ≡ Marked = ap (λ (h : HoldingsValue). h.value.collection) c.self.view_is ∙ c.requires.marked in
    let s = sweep_is c.self.inside.bound c.self.inside.bytes c.self.inside.phase c.self.inside.area c.self.inside.exits.items c.self.invariant.tables marked in
    let many : freed_objects (cell_seen c.self.inside.bound c.self.inside.phase c.self.inside.area c.self.inside.exits.items) ≡ freed_objects c.args.self.now.value = ap (λ (h : HoldingsValue). freed_objects h.value) c.self.view_is in
    let heavy : freed_bytes (cell_seen c.self.inside.bound c.self.inside.phase c.self.inside.area c.self.inside.exits.items) ≡ freed_bytes c.args.self.now.value = ap (λ (h : HoldingsValue). freed_bytes h.value) c.self.view_is in
    let count : dead_objects c.self.inside.area ≡ freed_objects c.args.self.now.value = s.objects ∙ many in
    let weight : dead_bytes c.self.inside.area ≡ freed_bytes c.args.self.now.value = s.bytes_of ∙ heavy in
    omega (arith, weight, c.sweep_telling.ensures.bytes)

pub returns-clause-told : goal.returns-clause-told
returns-clause-told g c = λ fits.
    let marked : c.self.inside.phase ≡ Marked = ap (λ (h : HoldingsValue). h.value.collection) c.self.view_is ∙ c.requires.marked in
    let s = sweep_is c.self.inside.bound c.self.inside.bytes c.self.inside.phase c.self.inside.area c.self.inside.exits.items c.self.invariant.tables marked in
    let many : freed_objects (cell_seen c.self.inside.bound c.self.inside.phase c.self.inside.area c.self.inside.exits.items) ≡ freed_objects c.args.self.now.value = ap (λ (h : HoldingsValue). freed_objects h.value) c.self.view_is in
    let count : dead_objects c.self.inside.area ≡ freed_objects c.args.self.now.value = s.objects ∙ many in
    told_same (dead_at c.self.inside.area) (freed_at c.args.self.now.value) (dead_objects c.self.inside.area) (freed_objects c.args.self.now.value) (g.L.Listener.heard c.args.listener.now) (g.L.Listener.heard c.sweep_telling.new.listener)
    (c.sweep_telling.ensures.told (omega (arith, fits, count)))
    (λ n. freed_named c.self.inside.bound c.self.inside.bytes c.self.inside.phase c.self.inside.area c.self.inside.exits.items c.self.invariant.tables marked n ∙ ap (λ (h : HoldingsValue). freed_at h.value n) c.self.view_is)
    count
