use Rattle.std.proofs.Common.{◌≡◌, ℕ, ◌+◌, ◌<◌, ◌≤◌, ◌^◌, List, Some, map, ap, ap₂, subst, sym, ◌∙◌, length, get_or, set, refl, arith}
use Rattle.std.specs.Prelude.{IsTrue}
use Rattle.std.specs.List.{AllByRecursion}
use Rattle.k_types.specs.Names.{name_lt}
use Rattle.k_state.specs.Segments.{objects_in}
use Rattle.std.proofs.lemmas.List.{get_or_read, length-map}
use Rattle.k_types.specs.declared.names.Seg.{Seg}
use Rattle.k_types.specs.declared.names.TypeId.{TypeId}
use Rattle.k_types.specs.Owners.{object_bytes}
use Rattle.k_types.specs.State.{Content, Object, fresh}
use Rattle.k_types.specs.Trace.{kinds_of, segment_count}
use Rattle.k_types.specs.Updates.{create, with_object}
use Rattle.k_state.specs.Contents.{content}
use Rattle.k_state.specs.Machines.{IsDeclared, IsKept, Machine}
use Rattle.k_state.proofs.Kept.{kept_placed}
use Rattle.k_state.proofs.Split.{newest}
use Rattle.k_state.proofs.Totals.{segment_small}
use Rattle.k_state.proofs.lists.PlainLists.create.Goals as goal

-- the object that is made
abbrev made_object : Seg → TypeId → ℕ → List Content → Object
made_object seg ty given fields = record { name = record { seg = seg; serial = record { 0 = given + 1 } }; ty = Some ty; fields = fields }

module _ (m : Machine) (totals : List ℕ) (kept : IsKept m totals) (seg : Seg) (ty : TypeId) (given : ℕ) (fields : List Content)
    (known : seg.0 < segment_count m.setup) (typed : ty.0 < length m.setup.types)
    (read : given ≡ get_or m.state.made seg.0 given) (made : fields ≡ map fresh (kinds_of m.setup ty)) where
  count : given ≡ get_or m.state.made seg.0 0
  count = get_or_read m.state.made seg.0 given (omega (arith, kept.plain.sized.made, known)) read 0

  few : length fields ≤ 16
  few = omega (arith, ap (λ (cs : List Content). length cs) made, length-map (kinds_of m.setup ty) fresh, kept.plain.setup.fields ty)

  is : IsDeclared m.setup (made_object seg ty given fields)
  is = record { ty = typed; fields = few; seg = known }

  last_of : AllByRecursion (λ (x : Object). IsTrue (name_lt x.name (made_object seg ty given fields).name)) (objects_in m.state.objects seg.0)
  last_of = newest (made_object seg ty given fields) m.state.objects m.state.made kept.plain.names.numbered (omega (arith, count))

  room_of : 1 + length m.state.objects < 2 ^ 32 → get_or totals seg.0 0 + object_bytes (made_object seg ty given fields) < 2 ^ 64
  room_of room =
      let sum = kept.bytes seg.0 (omega (arith, kept.counted, known)) in
      let small = segment_small m.setup m.state.objects seg.0 kept.plain.declared in
      omega (arith, sum, small, few, room)

  kept_of : (objects : List Object) (totals' : List ℕ) → 1 + length m.state.objects < 2 ^ 32 → objects ≡ with_object (made_object seg ty given fields) m.state.objects →
      totals' ≡ set totals seg.0 (get_or totals seg.0 0 + object_bytes (made_object seg ty given fields)) →
      IsKept (record m { state = record m.state { objects = objects; made = set m.state.made seg.0 (given + 1) } }) totals'
  kept_of objects totals' room placed counted =
      let next : given + 1 ≡ get_or m.state.made seg.0 0 + 1 = ap (λ k. k + 1) count in
      kept_placed m totals totals' (made_object seg ty given fields) objects (set m.state.made seg.0 (given + 1)) (get_or totals seg.0 0) kept room is next refl placed
      (ap (set m.state.made seg.0) next) counted

  state_of : (objects : List Object) → objects ≡ with_object (made_object seg ty given fields) m.state.objects →
      record m.state { objects = objects; made = set m.state.made seg.0 (given + 1) } ≡ create seg.0 ty (kinds_of m.setup ty) m.state
  unfolding create
  state_of objects placed =
      ap₂ (λ xs n. record m.state { objects = xs; made = set m.state.made seg.0 (n + 1) })
      (placed ∙ ap₂ (λ n fs. with_object (made_object seg ty n fs) m.state.objects) count made) count

pub push-requires-clause-last : goal.push-requires-clause-last
push-requires-clause-last c =
    let i = c.self.inside in
    let known = subst (λ (m : Machine). c.args.seg.0 < segment_count m.setup) (sym c.self.view_is) c.requires.seg in
    let typed = subst (λ (m : Machine). c.args.ty.0 < length m.setup.types) (sym c.self.view_is) c.requires.ty in
    last_of _ i.segments.totals c.self.invariant c.args.seg c.args.ty c.index-made.result.now (map content c.in_ok-fields.fields.items) known typed c.index-made.ensures c.in_ok-fields.ensures

pub push-requires-clause-room : goal.push-requires-clause-room
push-requires-clause-room c =
    let i = c.self.inside in
    let known = subst (λ (m : Machine). c.args.seg.0 < segment_count m.setup) (sym c.self.view_is) c.requires.seg in
    let typed = subst (λ (m : Machine). c.args.ty.0 < length m.setup.types) (sym c.self.view_is) c.requires.ty in
    let room : 1 + length i.segments.objects < 2 ^ 32 = subst (λ (m : Machine). 1 + length m.state.objects < 2 ^ 32) (sym c.self.view_is) c.requires.room.objects in
    room_of _ i.segments.totals c.self.invariant c.args.seg c.args.ty c.index-made.result.now (map content c.in_ok-fields.fields.items) known typed c.index-made.ensures c.in_ok-fields.ensures room

pub invariant_of-self-2 : goal.invariant_of-self-2
invariant_of-self-2 c =
    let i = c.self.inside in
    let known = subst (λ (m : Machine). c.args.seg.0 < segment_count m.setup) (sym c.self.view_is) c.requires.seg in
    let typed = subst (λ (m : Machine). c.args.ty.0 < length m.setup.types) (sym c.self.view_is) c.requires.ty in
    let room : 1 + length i.segments.objects < 2 ^ 32 = subst (λ (m : Machine). 1 + length m.state.objects < 2 ^ 32) (sym c.self.view_is) c.requires.room.objects in
    kept_of _ i.segments.totals c.self.invariant c.args.seg c.args.ty c.index-made.result.now (map content c.in_ok-fields.fields.items) known typed c.index-made.ensures c.in_ok-fields.ensures
    c.push.new.self.objects c.push.new.self.totals room c.in_ok-push.ensures.objects c.in_ok-push.ensures.totals

pub returns-clause-ok : goal.returns-clause-ok
returns-clause-ok c =
    let i = c.self.inside in
    let known = subst (λ (m : Machine). c.args.seg.0 < segment_count m.setup) (sym c.self.view_is) c.requires.seg in
    let typed = subst (λ (m : Machine). c.args.ty.0 < length m.setup.types) (sym c.self.view_is) c.requires.ty in
    rw (← c.self.view_is)
    (state_of _ i.segments.totals c.self.invariant c.args.seg c.args.ty c.index-made.result.now (map content c.in_ok-fields.fields.items) known typed c.index-made.ensures c.in_ok-fields.ensures
    c.push.new.self.objects c.in_ok-push.ensures.objects)

pub index-made-requires : goal.index-made-requires
index-made-requires c =
    let known = subst (λ (m : Machine). c.args.seg.0 < segment_count m.setup) (sym c.self.view_is) c.requires.seg in
    omega (arith, known, c.self.invariant.plain.sized.made, c.self.inside.made.ok.0)

pub index_mut-requires : goal.index_mut-requires
index_mut-requires c =
    let known = subst (λ (m : Machine). c.args.seg.0 < segment_count m.setup) (sym c.self.view_is) c.requires.seg in
    omega (arith, known, c.self.invariant.plain.sized.made, c.self.inside.made.ok.0)

pub overflow_add-next : goal.overflow_add-next
overflow_add-next c =
    let known = subst (λ (m : Machine). c.args.seg.0 < segment_count m.setup) (sym c.self.view_is) c.requires.seg in
    let given = c.index-made.result.now in
    let count : given ≡ get_or c.self.inside.made.items c.args.seg.0 0
    = get_or_read c.self.inside.made.items c.args.seg.0 given (omega (arith, known, c.self.invariant.plain.sized.made)) c.index-made.ensures 0 in
    let room = subst (λ (m : Machine). 1 + get_or m.state.made c.args.seg.0 0 < 2 ^ 32) (sym c.self.view_is) (c.requires.room.serials c.args.seg.0) in
    omega (arith, count, room)

pub push-requires-clause-seg : goal.push-requires-clause-seg
push-requires-clause-seg c =
    let known = subst (λ (m : Machine). c.args.seg.0 < segment_count m.setup) (sym c.self.view_is) c.requires.seg in
    omega (arith, known, c.self.invariant.counted)

pub fresh_fields-requires-clause-few : goal.fresh_fields-requires-clause-few
fresh_fields-requires-clause-few c = c.self.invariant.plain.setup.fields

pub fresh_fields-requires-clause-ty : goal.fresh_fields-requires-clause-ty
fresh_fields-requires-clause-ty c = subst (λ (m : Machine). c.args.ty.0 < length m.setup.types) (sym c.self.view_is) c.requires.ty

pub returns-clause-setup : goal.returns-clause-setup
returns-clause-setup c = ap (λ (m : Machine). m.setup) c.self.view_is

pub returns-clause-name : goal.returns-clause-name
returns-clause-name c =
    let known = subst (λ (m : Machine). c.args.seg.0 < segment_count m.setup) (sym c.self.view_is) c.requires.seg in
    let given = c.index-made.result.now in
    let count : given ≡ get_or c.self.inside.made.items c.args.seg.0 0
    = get_or_read c.self.inside.made.items c.args.seg.0 given (omega (arith, known, c.self.invariant.plain.sized.made)) c.index-made.ensures 0 in
    ap (λ n. record { seg = c.args.seg; serial = record { 0 = n + 1 } }) (count ∙ ap (λ (m : Machine). get_or m.state.made c.args.seg.0 0) c.self.view_is)

pub returns-in_err-push-clause-setup : goal.returns-in_err-push-clause-setup
returns-in_err-push-clause-setup c = ap (λ (m : Machine). m.setup) c.self.view_is

pub invariant_of-self : goal.invariant_of-self
invariant_of-self c = rw c.in_err-push.ensures.err c.self.invariant
