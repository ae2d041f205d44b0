use Rattle.std.proofs.Common.{◌≡◌, ◌<◌, ◌+◌, ◌⊎◌, inl, inr, ℕ, suc, true, false, List, [], ◌∷◌, ◌++◌, map, length, sym, ap, subst, ◌∙◌, arith}
use Rattle.std.proofs.lemmas.List.{get_or_append_left, length-append, map-append, length-map}
use Rattle.std.proofs.lemmas.Bool.{false≢true}
use Rattle.k_types.specs.declared.names.Name.{Name}
use Rattle.k_types.specs.Names.{name_of}
use Rattle.k_exit.specs.declared.chains.Item.{Item}
use Rattle.k_exit.specs.Chains.{IsLinked, IsChained, row_of, blank}
use Rattle.k_exit.specs.Exits.{ExitRow, ExitList, AreDistinct, has_target}
use Rattle.k_exit.proofs.Removes.{relinked, one_more, same_len}
use Rattle.k_exit.proofs.Lists.{passed_end, distinct_push}
use Rattle.k_exit.proofs.table.ExitTable.add.Goals as goal

-- one item more, in no chain yet
pushed : (items : List Item) (heads : List ℕ) (x : Item) → IsChained items heads → length items < length heads → IsLinked (items ++ x ∷ []) heads (suc (length items)) (length items)
pushed items heads x chained room =
    one_more (items ++ x ∷ []) heads (length items)
    (relinked items (items ++ x ∷ []) heads (length items) (length items) chained (omega (arith, len)) (omega (arith, len, room)) (λ j below apart. get_or_append_left items (x ∷ []) blank j below))
    (omega (arith, len))
  where
    len : length (items ++ x ∷ []) ≡ length items + 1
    len = length-append items (x ∷ [])

-- a new target has room
room_left : (e : ExitList) (items : List Item) (heads : List ℕ) (t : Name) → record { items = map row_of items; room = length heads } ≡ e → (has_target e.items t ≡ true) ⊎ (length e.items < e.room) → has_target e.items t ≡ false → length items < length heads
room_left e items heads t is (inl there) none = absurd (false≢true (sym none ∙ there))
room_left e items heads t is (inr room) none =
    let a : length (map row_of items) ≡ length e.items = ap (λ (x : ExitList). length x.items) is in
    let b : length heads ≡ e.room = ap (λ (x : ExitList). x.room) is in
    omega (arith, a, b, room, length-map items row_of)

pub link_in-requires-clause-linked : goal.link_in-requires-clause-linked
link_in-requires-clause-linked c =
    let items = c.self.inside.items.items in
    let len : c.len-i.result ≡ length items = c.len-i.ensures ∙ c.self.inside.items.ok.0 in
    let none : has_target c.args.self.now.items (name_of c.args.target) ≡ false = ap (has_target c.args.self.now.items) (sym c.name-name.ensures) ∙ sym c.has_in.ensures ∙ c.if-has_in.false in
    let room = room_left c.args.self.now items c.self.inside.heads.items (name_of c.args.target) c.self.view_is c.requires none in
    let one : suc (length items) ≡ c.len-i.result + 1 = omega (arith, len) in
    subst (λ (xs : List Item). IsLinked xs c.self.inside.heads.items (c.len-i.result + 1) c.len-i.result) (sym c.push_reserved.ensures.items)
    (subst (λ n. IsLinked (items ++ record { target = c.name-name.result; marked = false; next = 0 } ∷ []) c.self.inside.heads.items (c.len-i.result + 1) n) (sym len)
    (subst (λ n. IsLinked (items ++ record { target = c.name-name.result; marked = false; next = 0 } ∷ []) c.self.inside.heads.items n (length items)) one
    (pushed items c.self.inside.heads.items (record { target = c.name-name.result; marked = false; next = 0 }) c.self.invariant.chained room)))

pub invariant_of-self : goal.invariant_of-self
invariant_of-self c =
    let items = c.self.inside.items.items in
    let new : Item = record { target = c.name-name.result; marked = false; next = 0 } in
    let none : has_target c.args.self.now.items c.name-name.result ≡ false = sym c.has_in.ensures ∙ c.if-has_in.false in
    let rows : map row_of c.link_in.new.items.items ≡ map row_of items ++ row_of new ∷ [] =
    c.link_in.ensures.rows ∙ ap (λ (xs : List Item). map row_of xs) c.push_reserved.ensures.items ∙ map-append row_of items (record { target = c.name-name.result; marked = false; next = 0 } ∷ []) in
    let len : c.len-i.result ≡ length items = c.len-i.ensures ∙ c.self.inside.items.ok.0 in
    let more : length c.link_in.new.items.items ≡ length items + 1 =
    same_len c.link_in.new.items.items c.push_reserved.new.self.items c.link_in.ensures.rows ∙ ap (λ (xs : List Item). length xs) c.push_reserved.ensures.items ∙ length-append items (record { target = c.name-name.result; marked = false; next = 0 } ∷ []) in
    let all : c.len-i.result + 1 ≡ length c.link_in.new.items.items = omega (arith, len, more) in
    let had : has_target (map row_of items) c.name-name.result ≡ false = ap (λ (e : ExitList). has_target e.items c.name-name.result) c.self.view_is ∙ none in
    record {
      chained = subst (λ n. IsLinked c.link_in.new.items.items c.link_in.new.heads.items n n) all c.link_in.ensures.linked;
      reserved = omega (arith, c.link_in.ensures.capacity, c.link_in.ensures.room, c.push_reserved.ensures.capacity, c.self.invariant.reserved);
      heads_reserved = omega (arith, c.link_in.ensures.heads_capacity, c.link_in.ensures.room, c.self.invariant.heads_reserved);
      distinct = subst (λ (rs : List ExitRow). AreDistinct rs) (sym rows) (distinct_push (map row_of items) (row_of new) c.self.invariant.distinct had);
      passed = passed_end (map row_of c.link_in.new.items.items) c.self.inside.wanted (c.len-i.result + 1) (all ∙ sym (length-map c.link_in.new.items.items row_of));
    }
