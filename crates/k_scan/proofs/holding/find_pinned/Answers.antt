use Rattle.std.proofs.Common.{◌≡◌, ◌&&◌, ◌||◌, ◌+◌, not, Bool, true, false, ap, sym, ◌∙◌}
use Rattle.std.specs.List.{list_any}
use Rattle.k_types.specs.declared.names.Name.{Name}
use Rattle.k_types.specs.Names.{heap_eq, leads_to}
use Rattle.k_types.specs.Owners.{objects_of, owner_of, user}
use Rattle.k_types.specs.Reach.{is_pinned}
use Rattle.k_types.specs.State.{in_registers}
use Rattle.k_scan.proofs.Found.{found_more, found_same, or_false, pinned_more}
use Rattle.k_scan.proofs.holding.find_pinned.Goals as goal
use Rattle.k_scan.proofs.holding.find_pinned.Goals.{then-not-is_same_heap, else-not-is_same_heap}

pub loop-p-preserved : goal.loop-p-preserved
loop-p-preserved c =
    let m = c.args.lists.now in
    let h = c.args.heap in
    let p = c.loop-p.p in
    let pool = objects_of (owner_of m.setup m.state) h m.state.objects in
    let before : Name → Bool = λ n. is_pinned p (λ seg. h) m.state.registers n in
    let after : Name → Bool = λ n. is_pinned (p + 1) (λ seg. h) m.state.registers n in
    elim c.if-not-is_same_heap.branch [
      | then-not-is_same_heap w ↦
          let other : heap_eq (user p) h ≡ false = sym c.is_same_heap.ensures ∙ w.if-not-is_same_heap.true in
          let holds : Name → Bool = λ n. list_any (λ r. leads_to r n) w.registers.result.now in
          let more : (n : Name) → after n ≡ (before n || holds n)
          = λ n.
          pinned_more h m.state.registers p n
          ∙ ap (λ b. before n || (not b && in_registers m.state.registers p n)) other
          ∙ ap (λ rs. before n || list_any (λ r. leads_to r n) rs) (sym w.registers.ensures) in
          rw w.marks-is
          (found_more m.state.objects pool before holds after c.args.marks.now c.loop-p.marks w.find_in_registers.new.marks more c.loop-p.invariant w.find_in_registers.ensures)
      | else-not-is_same_heap w ↦
          let own : heap_eq (user p) h ≡ true = sym c.is_same_heap.ensures ∙ w.if-not-is_same_heap.false in
          let same : (n : Name) → after n ≡ before n
          = λ n. pinned_more h m.state.registers p n ∙ ap (λ b. before n || (not b && in_registers m.state.registers p n)) own ∙ or_false (before n) in
          rw w.marks-is (found_same m.state.objects pool before after c.args.marks.now c.loop-p.marks same c.loop-p.invariant)
    ]
