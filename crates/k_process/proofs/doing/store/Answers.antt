use Rattle.std.proofs.Common.{◌≡◌, ◌+◌, ◌==◌, true, false, cond, IfSome, Option, Some, None, option_map, refl, sym, ap, ap₂, subst, ◌∙◌}
use Rattle.k_types.specs.declared.event.Reply.{Reply}
use Rattle.k_types.specs.declared.event.Reply.TheVariants.{Done}
use Rattle.k_types.specs.declared.names.Name.{Name}
use Rattle.k_types.specs.declared.names.Pid.{Pid}
use Rattle.k_types.specs.Local.{is_own}
use Rattle.k_types.specs.Names.{name_of}
use Rattle.k_types.specs.State.{Refers}
use Rattle.k_laws.specs.PartUpdates.{held_in}
use Rattle.k_space.specs.Objects.{content_of}
use Rattle.k_commit.specs.k_heap.Changes.{with_stored}
use Rattle.k_commit.specs.k_heap.Looks.{found_among}
use Rattle.k_process.specs.Locals.{IsChanged, written_through}
use Rattle.k_process.proofs.Fields.{store_answered, stored_changed}
use Rattle.k_process.proofs.doing.store.Goals as goal

pub returns-then-not-is_own-clause-answer : goal.returns-then-not-is_own-clause-answer
returns-then-not-is_own-clause-answer c =
    let own : is_own c.args.cell.now.pid.0 (held_in c.args.cell.now.value.process c.args.value.0) ≡ false = sym (c.if-not-is_own.ensures ∙ ap₂ (λ (q : Pid) r. is_own q.0 r) c.pid-2.ensures c.reg-stored.ensures) in
    c.ref_answer.ensures
    ∙ store_answered c.args.cell.now.value c.args.cell.now.pid.0 (held_in c.args.cell.now.value.process c.args.base.0) (name_of c.in-Some.at) c.args.field (option_map content_of c.found.result) c.in-Some.ensures
    (sym (c.if-not-lies_in.ensures ∙ ap (λ (q : Pid). c.in-Some.at.seg.0 == q.0 + 1) c.pid.ensures)) c.found.ensures (held_in c.args.cell.now.value.process c.args.value.0) _ (sym (ap (λ b. cond b (Some Done) None) own))

pub returns-clause-answer : goal.returns-clause-answer
returns-clause-answer c =
    let held = found_among c.args.cell.now.value.objects (name_of c.in-Some.at) c.args.field in
    let own : is_own c.args.cell.now.pid.0 (held_in c.args.cell.now.value.process c.args.value.0) ≡ true = sym (c.if-not-is_own.ensures ∙ ap₂ (λ (q : Pid) r. is_own q.0 r) c.pid-2.ensures c.reg-stored.ensures) in
    c.after_store.ensures held c.store.ensures.kind
    ∙ store_answered c.args.cell.now.value c.args.cell.now.pid.0 (held_in c.args.cell.now.value.process c.args.base.0) (name_of c.in-Some.at) c.args.field held c.in-Some.ensures
    (sym (c.if-not-lies_in.ensures ∙ ap (λ (q : Pid). c.in-Some.at.seg.0 == q.0 + 1) c.pid.ensures)) refl (held_in c.args.cell.now.value.process c.args.value.0) _ (sym (ap (λ b. cond b (Some Done) None) own))

pub returns-clause-some : goal.returns-clause-some
returns-clause-some c =
    let held = found_among c.args.cell.now.value.objects (name_of c.in-Some.at) c.args.field in
    let value = held_in c.args.cell.now.value.process c.args.value.0 in
    subst
    (λ (r : Option Reply). IfSome r (λ said. IsChanged c.args.cell.now c.store.new.self said (written_through (held_in c.args.cell.now.value.process c.args.base.0) c.args.field (Refers value) c.args.cell.now.value)))
    (sym (c.after_store.ensures held c.store.ensures.kind))
    (stored_changed c.args.cell.now c.store.new.self (held_in c.args.cell.now.value.process c.args.base.0) (name_of c.in-Some.at) c.args.field held c.in-Some.ensures refl value
    (c.store.ensures.stored ∙ ap (λ (t : Option Name). record c.args.cell.now { value = with_stored (name_of c.in-Some.at) c.args.field t c.args.cell.now.value }) c.reg-stored.ensures))
