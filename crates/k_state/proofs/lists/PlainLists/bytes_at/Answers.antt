use Rattle.std.proofs.Common.{◌≡◌, ◌&&◌, ◌<◌, Bool, true, false, nat_lt, cond, ap, ap₂, sym, ◌∙◌, refl, subst, length, get_or, arith}
use Rattle.std.proofs.lemmas.Bool.Decides.{nat_tests}
use Rattle.k_types.specs.declared.names.Heap.{Heap}
use Rattle.k_types.specs.Names.{heap_eq}
use Rattle.k_types.specs.Owners.{bytes_of, owner_of}
use Rattle.k_state.specs.Machines.{IsKept, Machine}
use Rattle.k_state.proofs.Heaps.{bytes_at_one, bytes_small_of}
use Rattle.k_state.proofs.lists.PlainLists.bytes_at.Goals as goal
use Rattle.k_state.proofs.lists.PlainLists.bytes_at.Goals.{else-seg-count-via-then-seg-count+else-is_same_heap, else-seg-count-via-else-seg-count}

pub returns-then-is_same_heap-clause-sum : goal.returns-then-is_same_heap-clause-sum
returns-then-is_same_heap-clause-sum c =
    let m = c.args.self.now in
    let h = c.args.heap in
    let totals = c.self.inside.segments.totals in
    let kept : IsKept m totals = subst (λ (n : Machine). IsKept n totals) c.self.view_is c.self.invariant in
    let inside : c.args.seg < length totals = omega (arith, c.if-seg-count.true, c.count.ensures) in
    let given : c.bytes.result ≡ get_or totals c.args.seg 0 = c.bytes.ensures in
    let low : nat_lt c.args.seg (length totals) ≡ true = grind (arith, nat_tests, inside) in
    let owned : heap_eq (owner_of m.setup m.state c.args.seg) h ≡ true
    = ap (λ (g : Heap). heap_eq g h) (sym c.owner.ensures) ∙ sym c.is_same_heap.ensures ∙ c.if-is_same_heap.true in
    given
    ∙ ap₂ (λ (a b : Bool). cond (a && b) (get_or totals c.args.seg 0) 0) (sym low) (sym owned)
    ∙ sym (bytes_at_one m totals h c.args.seg kept c.requires.other c.requires.own)

pub returns-then-is_same_heap-clause-small : goal.returns-then-is_same_heap-clause-small
returns-then-is_same_heap-clause-small c =
    let m = c.args.self.now in
    let totals = c.self.inside.segments.totals in
    let kept : IsKept m totals = subst (λ (n : Machine). IsKept n totals) c.self.view_is c.self.invariant in
    let is : c.bytes.result ≡ bytes_of m.setup m.state c.args.heap = returns-then-is_same_heap-clause-sum c in
    omega (arith, is, bytes_small_of m totals c.args.heap kept)

pub returns-else-seg-count-clause-sum : goal.returns-else-seg-count-clause-sum
returns-else-seg-count-clause-sum c =
    let m = c.args.self.now in
    let h = c.args.heap in
    let totals = c.self.inside.segments.totals in
    let kept : IsKept m totals = subst (λ (n : Machine). IsKept n totals) c.self.view_is c.self.invariant in
    let one = bytes_at_one m totals h c.args.seg kept c.requires.other c.requires.own in
    let none : (nat_lt c.args.seg (length totals) && heap_eq (owner_of m.setup m.state c.args.seg) h) ≡ false
    = elim c.else-seg-count.branch [
      | else-seg-count-via-then-seg-count+else-is_same_heap w ↦
          let other : heap_eq (owner_of m.setup m.state c.args.seg) h ≡ false
          = ap (λ (g : Heap). heap_eq g h) (sym w.owner.ensures) ∙ sym w.is_same_heap.ensures ∙ w.if-is_same_heap.false in
          ap (λ b. nat_lt c.args.seg (length totals) && b) other ∙ never (nat_lt c.args.seg (length totals))
      | else-seg-count-via-else-seg-count w ↦
          let past : nat_lt c.args.seg (length totals) ≡ false = let out = w.if-seg-count.false in let long = c.count.ensures in grind (arith, nat_tests, out, long) in
          ap (λ b. b && heap_eq (owner_of m.setup m.state c.args.seg) h) past
    ] in
    sym (one ∙ ap (λ b. cond b (get_or totals c.args.seg 0) 0) none)
  where
    never : (a : Bool) → (a && false) ≡ false
    never true = refl
    never false = refl
