use Rattle.std.proofs.Common.{◌≡◌, ◌<◌, true, length, length-set, sym, ap, subst, ◌∙◌, arith}
use Rattle.std.specs.List.Sorted.{IsPermutation}
use Rattle.std.specs.List.{concat}
use Rattle.std.proofs.lemmas.List.Sorted.{length_permutation}
use Rattle.k_lists.specs.Lists.{members, is_in}
use Rattle.k_entry.specs.Entries.{EntryValue}
use Rattle.k_entry.specs.Slots.{Parts, shown, used, walk_of}
use Rattle.k_entry.proofs.Items.{entries_of, walk_read}
use Rattle.k_entry.proofs.Given.{some_in}
use Rattle.k_entry.proofs.Joined.{joined}
use Rattle.k_entry.proofs.Rehomes.{counted_same, rehomed, rehomed_by, kept_rehomed, items_rehomed}
use Rattle.k_entry.proofs.table.EntryTable.rehome.Goals as goal

pub change_walk-requires-clause-on : goal.change_walk-requires-clause-on
change_walk-requires-clause-on c = λ some.
    let len : c.len.result ≡ length c.self.inside.homes.items = omega (arith, c.len.ensures, c.self.inside.homes.ok.0) in
    let within : c.args.seg.0 < length c.self.inside.homes.items = omega (arith, c.requires, ap (λ (v : EntryValue). length v.homes) c.self.view_is) in
    let from = walk_read c.self.inside.homes.items c.args.seg.0 c.len.result c.walk_number-from.result c.index.result.now within c.index.ensures len c.walk_number-from.ensures.value in
    let j = some_in (members c.self.inside.segments c.args.seg.0) some in
    subst (λ w. is_in (members c.self.inside.walks w) c.args.seg.0 ≡ true) (sym from) (c.self.invariant.kept.walked c.args.seg.0 j.0 within j.1)

pub invariant_of-self : goal.invariant_of-self
invariant_of-self c =
    let p : Parts = record { slots = c.self.inside.slots.items; chains = c.self.inside.chains; segments = c.self.inside.segments; walks = c.self.inside.walks; homes = c.self.inside.homes.items; room = c.self.inside.room } in
    let len : c.len.result ≡ length c.self.inside.homes.items = omega (arith, c.len.ensures, c.self.inside.homes.ok.0) in
    let within : c.args.seg.0 < length c.self.inside.homes.items = omega (arith, c.requires, ap (λ (v : EntryValue). length v.homes) c.self.view_is) in
    let from = walk_read c.self.inside.homes.items c.args.seg.0 c.len.result c.walk_number-from.result c.index.result.now within c.index.ensures len c.walk_number-from.ensures.value in
    let len_2 : c.len-2.result ≡ length c.self.inside.homes.items = omega (arith, c.len-2.ensures, c.self.inside.homes.ok.0) in
    let r = rehomed_by p c.change_walk.new.walks c.args.seg.0 c.walk_number-from.result c.walk_number-into.result c.args.to c.self.invariant.kept within from (c.walk_number-into.ensures.value ∙ ap (λ n. walk_of n c.args.to) len_2) (omega (arith, c.walk_number-into.ensures.within, len_2)) c.change_walk.ensures.walks c.change_walk.ensures.apart in
    record {
      counted = c.self.invariant.counted ∙ sym (length_permutation (used p) (joined (members p.segments) (concat c.change_walk.new.walks.lists)) r.permuted);
      reserved = c.self.invariant.reserved;
      known = c.self.invariant.known;
      homes_reserved = omega (arith, c.self.invariant.homes_reserved, length-set c.self.inside.homes.items c.args.seg.0 c.args.to);
      kept = kept_rehomed p c.change_walk.new.walks c.args.seg.0 c.args.to c.self.invariant.kept r;
    }

pub returns-clause-items : goal.returns-clause-items
returns-clause-items c =
    let p : Parts = record { slots = c.self.inside.slots.items; chains = c.self.inside.chains; segments = c.self.inside.segments; walks = c.self.inside.walks; homes = c.self.inside.homes.items; room = c.self.inside.room } in
    let len : c.len.result ≡ length c.self.inside.homes.items = omega (arith, c.len.ensures, c.self.inside.homes.ok.0) in
    let within : c.args.seg.0 < length c.self.inside.homes.items = omega (arith, c.requires, ap (λ (v : EntryValue). length v.homes) c.self.view_is) in
    let from = walk_read c.self.inside.homes.items c.args.seg.0 c.len.result c.walk_number-from.result c.index.result.now within c.index.ensures len c.walk_number-from.ensures.value in
    let len_2 : c.len-2.result ≡ length c.self.inside.homes.items = omega (arith, c.len-2.ensures, c.self.inside.homes.ok.0) in
    let r = rehomed_by p c.change_walk.new.walks c.args.seg.0 c.walk_number-from.result c.walk_number-into.result c.args.to c.self.invariant.kept within from (c.walk_number-into.ensures.value ∙ ap (λ n. walk_of n c.args.to) len_2) (omega (arith, c.walk_number-into.ensures.within, len_2)) c.change_walk.ensures.walks c.change_walk.ensures.apart in
    subst (λ (v : EntryValue). IsPermutation v.items (shown (rehomed p c.change_walk.new.walks c.args.seg.0 c.args.to)).items) c.self.view_is (items_rehomed p c.change_walk.new.walks c.args.seg.0 c.args.to r)

pub returns-clause-counts : goal.returns-clause-counts
returns-clause-counts c = λ n.
    let p : Parts = record { slots = c.self.inside.slots.items; chains = c.self.inside.chains; segments = c.self.inside.segments; walks = c.self.inside.walks; homes = c.self.inside.homes.items; room = c.self.inside.room } in
    counted_same c.args.self.now.items (shown (rehomed p c.change_walk.new.walks c.args.seg.0 c.args.to)).items n (returns-clause-items c)

pub returns-clause-entries : goal.returns-clause-entries
returns-clause-entries c =
    let p : Parts = record { slots = c.self.inside.slots.items; chains = c.self.inside.chains; segments = c.self.inside.segments; walks = c.self.inside.walks; homes = c.self.inside.homes.items; room = c.self.inside.room } in
    entries_of (rehomed p c.change_walk.new.walks c.args.seg.0 c.args.to) (invariant_of-self c).kept
