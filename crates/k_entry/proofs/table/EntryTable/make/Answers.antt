use Rattle.std.proofs.Common.{◌≡◌, ◌+◌, List, length, sym, ap, ap₂, ◌∙◌, arith}
use Rattle.k_types.specs.declared.names.Heap.{Heap}
use Rattle.k_types.specs.Counted.{Counted}
use Rattle.k_entry.proofs.Items.{counted_made, entries_of, kept_made, shows_made}
use Rattle.k_entry.proofs.Known.{known_none}
use Rattle.k_entry.proofs.table.EntryTable.make.Goals as goal

pub invariant_of-result : goal.invariant_of-result
invariant_of-result c =
    let same : c.in_ok-homes.homes.items ≡ c.args.homes.now = c.in_ok-homes.ensures.items in
    let len : length c.args.homes.now ≡ length c.in_ok-homes.homes.items = ap (λ (hs : List Heap). length hs) (sym same) in
    record {
      counted = counted_made c.in_ok-slots.slots.items c.in_ok-segments.segments c.in_ok-walks.walks (length c.args.homes.now + 1) (length c.args.homes.now) c.in_ok-walks.ensures;
      reserved = c.in_ok-slots.ensures.exact;
      homes_reserved = c.in_ok-homes.ensures.capacity ∙ len;
      known = known_none (record { slots = c.in_ok-slots.slots.items; chains = c.in_ok-chains.chains; segments = c.in_ok-segments.segments; walks = c.in_ok-walks.walks; homes = c.in_ok-homes.homes.items; room = c.args.room }) c.in_ok-slots.ensures.items;
      kept = kept_made c.in_ok-slots.slots.items c.in_ok-chains.chains c.in_ok-segments.segments c.in_ok-walks.walks c.in_ok-homes.homes.items c.args.room c.chain_count.result (length c.args.homes.now + 1) (length c.args.homes.now + 1) (length c.args.homes.now)
          c.in_ok-slots.ensures.items c.in_ok-chains.ensures c.in_ok-segments.ensures c.in_ok-walks.ensures c.chain_count.ensures (ap (λ n. n + 1) len) (ap (λ n. n + 1) len) len (omega (arith, len, c.requires));
    }

pub returns-clause-made : goal.returns-clause-made
returns-clause-made c =
    let same : c.in_ok-homes.homes.items ≡ c.args.homes.now = c.in_ok-homes.ensures.items in
    ap₂ (λ (xs : List Counted) (hs : List Heap). record { items = xs; homes = hs; room = c.args.room }) (shows_made c.in_ok-slots.slots.items c.in_ok-segments.segments c.in_ok-walks.walks (length c.args.homes.now + 1) (length c.args.homes.now) c.in_ok-walks.ensures) same

pub returns-clause-entries : goal.returns-clause-entries
returns-clause-entries c =
    entries_of (record { slots = c.in_ok-slots.slots.items; chains = c.in_ok-chains.chains; segments = c.in_ok-segments.segments; walks = c.in_ok-walks.walks; homes = c.in_ok-homes.homes.items; room = c.args.room }) (invariant_of-result c).kept
