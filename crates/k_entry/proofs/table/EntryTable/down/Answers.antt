use Rattle.std.proofs.Common.{◌≡◌, ◌-◌, List, length, set, sym, ap, subst, ◌∙◌, arith}
use Rattle.k_types.specs.Counted.{Counted, counted}
use Rattle.k_entry.specs.declared.item.Item.{Item}
use Rattle.k_entry.specs.Entries.{EntryValue, HasLess}
use Rattle.k_entry.specs.Slots.{Parts, shown, at}
use Rattle.k_entry.proofs.Counts.{no_hits}
use Rattle.k_entry.proofs.Items.{found_by, none_by, read_at, walk_read}
use Rattle.k_entry.proofs.Recounts.{with_slots, recount_by, kept_recount, less_recount}
use Rattle.k_entry.proofs.More.{moved}
use Rattle.k_entry.proofs.Less.{freed_there, one_less, less_by, kept_less, has_less, freed_is_free}
use Rattle.k_entry.proofs.Known.{known_recount, known_less, kept_cleared, shows_cleared}
use Rattle.k_entry.proofs.table.EntryTable.down.Goals as goal

pub unreachable-requires : goal.unreachable-requires
unreachable-requires c =
    let p : Parts = record { slots = c.self.inside.slots.items; chains = c.self.inside.chains; segments = c.self.inside.segments; walks = c.self.inside.walks; homes = c.self.inside.homes.items; room = c.self.inside.room } in
    let none = none_by p c.args.target c.deref.result.now c.chain_of-chain.result c.self.invariant.kept c.deref.ensures.value c.chain_of-chain.ensures.value c.in_default.ensures.none in
    omega (arith, c.requires, ap (λ (v : EntryValue). counted v.items c.args.target) c.self.view_is, no_hits (shown p).items c.args.target none)

pub overflow_sub-item : goal.overflow_sub-item
overflow_sub-item c =
    let p : Parts = record { slots = c.self.inside.slots.items; chains = c.self.inside.chains; segments = c.self.inside.segments; walks = c.self.inside.walks; homes = c.self.inside.homes.items; room = c.self.inside.room } in
    let f = found_by p c.args.target c.deref.result.now c.chain_of-chain.result c.in-Some.i c.self.invariant.kept c.deref.ensures.value c.chain_of-chain.ensures.value c.in-Some.ensures.there c.in-Some.ensures.target in
    let read : c.index-item.result.now.count ≡ (at c.self.inside.slots.items c.in-Some.i).count = ap (λ (x : Item). x.count) (read_at c.self.inside.slots.items c.in-Some.i c.index-item.result.now f.within c.index-item.ensures) in
    omega (arith, read, f.positive)

pub invariant_of-self-else-item-eq1 : goal.invariant_of-self-else-item-eq1
invariant_of-self-else-item-eq1 c =
    let p : Parts = record { slots = c.self.inside.slots.items; chains = c.self.inside.chains; segments = c.self.inside.segments; walks = c.self.inside.walks; homes = c.self.inside.homes.items; room = c.self.inside.room } in
    let f = found_by p c.args.target c.deref.result.now c.chain_of-chain.result c.in-Some.i c.self.invariant.kept c.deref.ensures.value c.chain_of-chain.ensures.value c.in-Some.ensures.there c.in-Some.ensures.target in
    let read : c.index-item.result.now.count ≡ (at c.self.inside.slots.items c.in-Some.i).count = ap (λ (x : Item). x.count) (read_at c.self.inside.slots.items c.in-Some.i c.index-item.result.now f.within c.index-item.ensures) in
    let r = recount_by c.self.inside.slots.items c.in-Some.i (c.index-item.result.now.count - 1) c.index-item.result.now c.with_count-else-item-eq1.result f.within c.index-item.ensures c.with_count-else-item-eq1.ensures in
    record {
      reserved = c.self.invariant.reserved;
      homes_reserved = c.self.invariant.homes_reserved;
      counted = c.self.invariant.counted;
      known = known_recount p c.args.target (set c.self.inside.slots.items c.in-Some.i c.with_count-else-item-eq1.result) c.in-Some.i (c.index-item.result.now.count - 1) c.self.invariant.kept c.self.invariant.known f r;
      kept = kept_recount p (set c.self.inside.slots.items c.in-Some.i c.with_count-else-item-eq1.result) c.in-Some.i (c.index-item.result.now.count - 1) c.self.invariant.kept r (omega (arith, read, f.positive, c.if-item-eq1.false));
    }

pub returns-else-item-eq1 : goal.returns-else-item-eq1
returns-else-item-eq1 c =
    let p : Parts = record { slots = c.self.inside.slots.items; chains = c.self.inside.chains; segments = c.self.inside.segments; walks = c.self.inside.walks; homes = c.self.inside.homes.items; room = c.self.inside.room } in
    let f = found_by p c.args.target c.deref.result.now c.chain_of-chain.result c.in-Some.i c.self.invariant.kept c.deref.ensures.value c.chain_of-chain.ensures.value c.in-Some.ensures.there c.in-Some.ensures.target in
    let read : c.index-item.result.now.count ≡ (at c.self.inside.slots.items c.in-Some.i).count = ap (λ (x : Item). x.count) (read_at c.self.inside.slots.items c.in-Some.i c.index-item.result.now f.within c.index-item.ensures) in
    let r = recount_by c.self.inside.slots.items c.in-Some.i (c.index-item.result.now.count - 1) c.index-item.result.now c.with_count-else-item-eq1.result f.within c.index-item.ensures c.with_count-else-item-eq1.ensures in
    let new : Parts = record p { slots = set c.self.inside.slots.items c.in-Some.i c.with_count-else-item-eq1.result } in
    subst (λ (v : EntryValue). HasLess v (shown new) c.args.target) c.self.view_is
    (less_recount p c.args.target (set c.self.inside.slots.items c.in-Some.i c.with_count-else-item-eq1.result) c.in-Some.i (c.index-item.result.now.count - 1) c.self.invariant.kept f r (λ e. c.if-item-eq1.false (read ∙ e)) (omega (arith, read, f.positive)))

pub push_front-requires-clause-free : goal.push_front-requires-clause-free
push_front-requires-clause-free c =
    let p : Parts = record { slots = c.self.inside.slots.items; chains = c.self.inside.chains; segments = c.self.inside.segments; walks = c.self.inside.walks; homes = c.self.inside.homes.items; room = c.self.inside.room } in
    let f = found_by p c.args.target c.deref.result.now c.chain_of-chain.result c.in-Some.i c.self.invariant.kept c.deref.ensures.value c.chain_of-chain.ensures.value c.in-Some.ensures.there c.in-Some.ensures.target in
    freed_is_free p c.take_out.new.segments c.args.target c.in-Some.i c.self.invariant.kept f c.take_out.ensures.segments

pub overflow_sub-self : goal.overflow_sub-self
overflow_sub-self c =
    let p : Parts = record { slots = c.self.inside.slots.items; chains = c.self.inside.chains; segments = c.self.inside.segments; walks = c.self.inside.walks; homes = c.self.inside.homes.items; room = c.self.inside.room } in
    let f = found_by p c.args.target c.deref.result.now c.chain_of-chain.result c.in-Some.i c.self.invariant.kept c.deref.ensures.value c.chain_of-chain.ensures.value c.in-Some.ensures.there c.in-Some.ensures.target in
    let len : c.len.result ≡ length c.self.inside.homes.items = omega (arith, c.len.ensures, c.self.inside.homes.ok.0) in
    let free : c.len-then-item-eq1.result ≡ length c.self.inside.homes.items = omega (arith, c.len-then-item-eq1.ensures, c.self.inside.homes.ok.0) in
    let walk = walk_read c.self.inside.homes.items c.args.target.seg.0 c.len.result c.walk_number-walk.result c.index.result.now f.homed c.index.ensures len c.walk_number-walk.ensures.value in
    let m = less_by p c.take_out.new.segments c.args.target c.in-Some.i c.len-then-item-eq1.result c.chain_of-chain.result c.walk_number-walk.result c.remove.new.self c.push_front.new.self c.take_out.new.walks c.self.invariant.kept f free c.chain_of-chain.ensures.value walk
    c.remove.ensures.removed c.take_out.ensures.segments c.take_out.ensures.walks c.push_front.ensures.pushed c.push_front.ensures.apart c.take_out.ensures.walks_apart in
    let one = one_less p c.take_out.new.segments c.args.target c.in-Some.i c.remove.new.self c.push_front.new.self c.take_out.new.walks c.self.invariant.kept m in
    omega (arith, c.self.invariant.counted, one)

pub invariant_of-self : goal.invariant_of-self
invariant_of-self c =
    let p : Parts = record { slots = c.self.inside.slots.items; chains = c.self.inside.chains; segments = c.self.inside.segments; walks = c.self.inside.walks; homes = c.self.inside.homes.items; room = c.self.inside.room } in
    let f = found_by p c.args.target c.deref.result.now c.chain_of-chain.result c.in-Some.i c.self.invariant.kept c.deref.ensures.value c.chain_of-chain.ensures.value c.in-Some.ensures.there c.in-Some.ensures.target in
    let len : c.len.result ≡ length c.self.inside.homes.items = omega (arith, c.len.ensures, c.self.inside.homes.ok.0) in
    let free : c.len-then-item-eq1.result ≡ length c.self.inside.homes.items = omega (arith, c.len-then-item-eq1.ensures, c.self.inside.homes.ok.0) in
    let walk = walk_read c.self.inside.homes.items c.args.target.seg.0 c.len.result c.walk_number-walk.result c.index.result.now f.homed c.index.ensures len c.walk_number-walk.ensures.value in
    let m = less_by p c.take_out.new.segments c.args.target c.in-Some.i c.len-then-item-eq1.result c.chain_of-chain.result c.walk_number-walk.result c.remove.new.self c.push_front.new.self c.take_out.new.walks c.self.invariant.kept f free c.chain_of-chain.ensures.value walk
    c.remove.ensures.removed c.take_out.ensures.segments c.take_out.ensures.walks c.push_front.ensures.pushed c.push_front.ensures.apart c.take_out.ensures.walks_apart in
    record {
      reserved = c.self.invariant.reserved;
      homes_reserved = c.self.invariant.homes_reserved;
      counted = let one = one_less p c.take_out.new.segments c.args.target c.in-Some.i c.remove.new.self c.push_front.new.self c.take_out.new.walks c.self.invariant.kept m in omega (arith, c.self.invariant.counted, one);
      kept = kept_cleared (moved p c.self.inside.slots.items c.remove.new.self c.push_front.new.self c.take_out.new.walks) c.in-Some.i c.with_count.result
          (kept_less p c.take_out.new.segments c.args.target c.in-Some.i c.remove.new.self c.push_front.new.self c.take_out.new.walks c.self.invariant.kept m) (freed_there p c.take_out.new.segments c.args.target c.in-Some.i c.remove.new.self c.push_front.new.self c.take_out.new.walks m);
      known = known_less p c.take_out.new.segments c.args.target c.in-Some.i c.with_count.result c.remove.new.self c.push_front.new.self c.take_out.new.walks c.self.invariant.known m (ap (λ (x : Item). x.count) c.with_count.ensures);
    }

pub returns-then-item-eq1 : goal.returns-then-item-eq1
returns-then-item-eq1 c =
    let p : Parts = record { slots = c.self.inside.slots.items; chains = c.self.inside.chains; segments = c.self.inside.segments; walks = c.self.inside.walks; homes = c.self.inside.homes.items; room = c.self.inside.room } in
    let f = found_by p c.args.target c.deref.result.now c.chain_of-chain.result c.in-Some.i c.self.invariant.kept c.deref.ensures.value c.chain_of-chain.ensures.value c.in-Some.ensures.there c.in-Some.ensures.target in
    let read : c.index-item.result.now.count ≡ (at c.self.inside.slots.items c.in-Some.i).count = ap (λ (x : Item). x.count) (read_at c.self.inside.slots.items c.in-Some.i c.index-item.result.now f.within c.index-item.ensures) in
    let len : c.len.result ≡ length c.self.inside.homes.items = omega (arith, c.len.ensures, c.self.inside.homes.ok.0) in
    let free : c.len-then-item-eq1.result ≡ length c.self.inside.homes.items = omega (arith, c.len-then-item-eq1.ensures, c.self.inside.homes.ok.0) in
    let walk = walk_read c.self.inside.homes.items c.args.target.seg.0 c.len.result c.walk_number-walk.result c.index.result.now f.homed c.index.ensures len c.walk_number-walk.ensures.value in
    let m = less_by p c.take_out.new.segments c.args.target c.in-Some.i c.len-then-item-eq1.result c.chain_of-chain.result c.walk_number-walk.result c.remove.new.self c.push_front.new.self c.take_out.new.walks c.self.invariant.kept f free c.chain_of-chain.ensures.value walk
    c.remove.ensures.removed c.take_out.ensures.segments c.take_out.ensures.walks c.push_front.ensures.pushed c.push_front.ensures.apart c.take_out.ensures.walks_apart in
    let new : Parts = moved p c.self.inside.slots.items c.remove.new.self c.push_front.new.self c.take_out.new.walks in
    let kept = kept_less p c.take_out.new.segments c.args.target c.in-Some.i c.remove.new.self c.push_front.new.self c.take_out.new.walks c.self.invariant.kept m in
    let free = freed_there p c.take_out.new.segments c.args.target c.in-Some.i c.remove.new.self c.push_front.new.self c.take_out.new.walks m in
    subst (λ (v : EntryValue). HasLess v (record { items = (shown (with_slots new (set c.self.inside.slots.items c.in-Some.i c.with_count.result))).items; homes = c.self.inside.homes.items; room = c.self.inside.room }) c.args.target) c.self.view_is
    (subst (λ (xs : List Counted). HasLess (shown p) (record { items = xs; homes = c.self.inside.homes.items; room = c.self.inside.room }) c.args.target) (sym (shows_cleared new c.in-Some.i c.with_count.result kept free))
    (has_less p c.take_out.new.segments c.args.target c.in-Some.i c.remove.new.self c.push_front.new.self c.take_out.new.walks c.self.invariant.kept m (sym read ∙ c.if-item-eq1.true)))
