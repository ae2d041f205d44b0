use Rattle.std.proofs.Common.{◌≡◌, ◌+◌, ◌-◌, ◌<◌, ℕ, List, sym, ap, ap₂, subst, ◌∙◌, length, map, take, get_or, set, arith}
use Rattle.std.proofs.Math.ListN.{get_or-map}
use Rattle.std.proofs.lemmas.List.{length-map}
use Rattle.k_exit.specs.declared.chains.Item.{Item}
use Rattle.k_exit.specs.Chains.{IsLinked, IsChained, row_of, blank}
use Rattle.k_exit.specs.Exits.{ExitRow}
use Rattle.k_exit.proofs.Relinks.{read_at}
use Rattle.k_exit.proofs.Removes.{cut_off, same_len, map_front, set_front, front_at, front_len}
use Rattle.k_exit.proofs.chains.remove.Goals as goal

-- the items without the last one are chained
cut : (items other cut_items : List Item) (heads : List ℕ) (last : ℕ) → IsLinked other heads (length items) last → map row_of other ≡ map row_of items → last + 1 ≡ length items → cut_items ≡ take last other → IsChained cut_items heads
cut items other cut_items heads last linked rows len is =
    subst (λ (xs : List Item). IsChained xs heads) (sym is)
    (cut_off other (take last other) heads last
    (subst (λ n. IsLinked other heads n last) (omega (arith, len)) linked)
    (front_len last other (omega (arith, len, same_len other items rows)))
    (λ j below. front_at last j other blank below))

pub replace-requires : goal.replace-requires
replace-requires c =
    let len : c.len-last.result ≡ length c.args.items.now.items = c.len-last.ensures ∙ c.args.items.now.ok.0 in
    let last_is : c.len-last.result - 1 + 1 ≡ length c.args.items.now.items = omega (arith, len, c.requires.place) in
    let same = same_len c.unlink.new.items.items c.args.items.now.items c.unlink.ensures.rows in
    let cut_len : length c.truncate.new.self.items ≡ c.len-last.result - 1 =
    ap (λ (xs : List Item). length xs) c.truncate.ensures.items ∙ front_len (c.len-last.result - 1) c.unlink.new.items.items (omega (arith, same, last_is)) in
    record {
      place = omega (arith, cut_len, c.if-i-last.true);
      linked = cut c.args.items.now.items c.unlink.new.items.items c.truncate.new.self.items c.unlink.new.heads.items (c.len-last.result - 1) c.unlink.ensures.linked c.unlink.ensures.rows last_is c.truncate.ensures.items;
    }

pub returns-else-i-last-clause-linked : goal.returns-else-i-last-clause-linked
returns-else-i-last-clause-linked c =
    let len : c.len-last.result ≡ length c.args.items.now.items = c.len-last.ensures ∙ c.args.items.now.ok.0 in
    let last_is : c.len-last.result - 1 + 1 ≡ length c.args.items.now.items = omega (arith, len, c.requires.place) in
    cut c.args.items.now.items c.unlink.new.items.items c.truncate.new.self.items c.unlink.new.heads.items (c.len-last.result - 1) c.unlink.ensures.linked c.unlink.ensures.rows last_is c.truncate.ensures.items

pub returns-then-i-last-clause-rows : goal.returns-then-i-last-clause-rows
returns-then-i-last-clause-rows c =
    let items = c.args.items.now.items in
    let other = c.unlink.new.items.items in
    let len : c.len-last.result ≡ length items = c.len-last.ensures ∙ c.args.items.now.ok.0 in
    let last = c.len-last.result - 1 in
    let rows = map row_of items in
    let last_in : c.len-last.result - 1 < length other = omega (arith, len, c.requires.place, same_len other items c.unlink.ensures.rows) in
    let moved : row_of c.index-moved.result.now ≡ get_or (map row_of items) (c.len-last.result - 1) (row_of blank) =
    ap row_of (read_at other (c.len-last.result - 1) c.index-moved.result.now last_in c.index-moved.ensures)
    ∙ sym (get_or-map row_of other (c.len-last.result - 1) blank) ∙ ap (λ (rs : List ExitRow). get_or rs (c.len-last.result - 1) (row_of blank)) c.unlink.ensures.rows in
    let front : map row_of c.truncate.new.self.items ≡ take (c.len-last.result - 1) (map row_of items) =
    ap (λ (xs : List Item). map row_of xs) c.truncate.ensures.items ∙ map_front row_of (c.len-last.result - 1) other ∙ ap (take (c.len-last.result - 1)) c.unlink.ensures.rows in
    let n : c.len-last.result - 1 ≡ length (map row_of items) - 1 = ap (λ k. k - 1) (len ∙ sym (length-map items row_of)) in
    c.replace.ensures.rows
    ∙ ap₂ (λ (rs : List ExitRow) (r : ExitRow). set rs c.args.i r) front moved
    ∙ set_front (c.len-last.result - 1) c.args.i (map row_of items) (get_or (map row_of items) (c.len-last.result - 1) (row_of blank)) c.if-i-last.true
    ∙ ap (λ k. take k (set (map row_of items) c.args.i (get_or (map row_of items) k (row_of blank)))) n
