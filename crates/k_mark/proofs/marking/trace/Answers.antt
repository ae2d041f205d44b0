use Rattle.std.proofs.Common.{◌≡◌, ◌+◌, List, Some, slice_get, get_or, count_by, refl, sym, ap, ◌∙◌, arith}
use Rattle.std.proofs.lemmas.List.{take_all}
use Rattle.k_laws.specs.k_types.State.{Content}
use Rattle.k_space.specs.Areas.{fields_at}
use Rattle.k_space.specs.Objects.{content_of}
use Rattle.k_space.specs.declared.body.Stored.TheVariants.{Null}
use Rattle.k_mark.specs.Marking.{looked_all, is_ref}
use Rattle.k_mark.proofs.Traces.{so_far, traced_more, count_next, leads_at, fields_live}
use Rattle.k_mark.proofs.marking.trace.Goals as goal

pub look-requires : goal.look-requires
look-requires g c =
    let live = fields_live c.args.area.now c.args.found.name c.requires.live in
    let so = so_far c.args.area.now c.args.exits.now.items c.args.found.name c.loop-field.field c.loop-field.area c.loop-field.exits.items live.0 c.loop-field.invariant.traced live.1 in
    record {
      distinct = so.distinct c.requires.distinct;
      exits = λ n leads far.
          so.exit_has n ∙ c.requires.exits live.0 n live.1
          (leads_at live.0 c.loop-field.field (content_of (get_or c.args.held.now c.loop-field.field Null)) n ((c.requires.held live.0 live.1).each c.loop-field.field c.loop-field-test.true) leads)
          (sym (so.foreign n) ∙ far);
    }

pub loop-field-init : goal.loop-field-init
loop-field-init g c = record { traced = λ fields is. refl; room = refl; steps = λ fields is. omega arith }

pub loop-field-preserved : goal.loop-field-preserved
loop-field-preserved g c =
    let stored = content_of (get_or c.args.held.now c.loop-field.field Null) in
    let at_i : (fields : List Content) → fields_at c.args.area.now c.args.found.name ≡ Some fields → slice_get fields c.loop-field.field ≡ Some stored =
    λ fields is. (c.requires.held fields is).each c.loop-field.field c.loop-field-test.true in
    record {
      traced = traced_more c.args.area.now c.args.exits.now.items c.args.found.name c.loop-field.field c.loop-field.area c.look.new.area c.loop-field.exits.items c.look.new.exits.items stored c.loop-field.invariant.traced at_i
          c.look.ensures.area c.look.ensures.exits;
      room = c.look.ensures.room ∙ c.loop-field.invariant.room;
      steps = λ fields is.
          let next = count_next fields c.loop-field.field stored (at_i fields is) in
          omega (arith, next, c.look.ensures.steps, c.loop-field.invariant.steps fields is);
    }

pub returns : goal.returns
returns g c = record {
  room = c.loop-field.invariant.room;
  steps = λ fields is.
      c.loop-field.invariant.steps fields is
      ∙ ap (λ (f : List Content). c.args.steps.now + count_by is_ref f) (take_all c.loop-field.field fields (omega (arith, (c.requires.held fields is).counted)));
  looked = λ fields is.
      c.loop-field.invariant.traced fields is
      ∙ ap (λ (f : List Content). looked_all f (record { area = c.args.area.now; exits = c.args.exits.now.items })) (take_all c.loop-field.field fields (omega (arith, (c.requires.held fields is).counted)));
}
