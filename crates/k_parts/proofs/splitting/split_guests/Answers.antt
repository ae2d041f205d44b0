use Rattle.std.proofs.Common.{◌∙◌, refl, sym, ap, length, map}
use Rattle.std.specs.Arc.{arc_value}
use Rattle.std.proofs.lemmas.Iterator.Adapters.{YieldsList-from_vec}
use Rattle.std.proofs.lemmas.Iterator.Consumers.{YieldsList-end, YieldsList-turn}
use Rattle.std.proofs.lemmas.List.{map-id}
use Rattle.std.proofs.lemmas.Option.{slice_get_read}
use Rattle.k_parts.specs.Parts.{guest_seen}
use Rattle.k_parts.proofs.Splits.{seen_more}
use Rattle.k_parts.proofs.splitting.split_guests.Goals as goal

pub loop-guest-init : goal.loop-guest-init
loop-guest-init g c = c.new-made.ensures.items

pub of-requires : goal.of-requires
of-requires g c =
    let road = YieldsList-from_vec {s = c.into_iter-guest-iterator.result} c.args.guests.items c.into_iter-guest-iterator.ensures.into_iter_gives.0 (c.into_iter-guest-iterator.ensures.into_iter_gives.1 ∙ c.args.guests.ok.0) in
    let turn = YieldsList-turn road c.loop-guest.yielded _ c.loop-guest.yielded_by _ c.next.new.self c.in-Some.guest c.in-Some.is c.next.ensures.steps in
    c.requires (length c.loop-guest.yielded) c.in-Some.guest (slice_get_read c.args.guests.items (length c.args.guests.items) (length c.loop-guest.yielded) c.in-Some.guest refl turn.0 turn.1)

pub loop-guest-preserved : goal.loop-guest-preserved
loop-guest-preserved g c =
    seen_more (guest_seen (arc_value c.args.head.now)) c.loop-guest.yielded c.in-Some.guest c.loop-guest.made.items _ c.in_ok-of.field-0 c.in_ok-push.ensures.items c.loop-guest.invariant c.in_ok-of.ensures

pub returns : goal.returns
returns g c =
    let road = YieldsList-from_vec {s = c.into_iter-guest-iterator.result} c.args.guests.items c.into_iter-guest-iterator.ensures.into_iter_gives.0 (c.into_iter-guest-iterator.ensures.into_iter_gives.1 ∙ c.args.guests.ok.0) in
    let end = YieldsList-end road c.loop-guest.yielded _ c.loop-guest.yielded_by _ c.next.new.self c.in-None.is c.next.ensures.steps in
    c.loop-guest.invariant ∙ ap (map (guest_seen (arc_value c.args.head.now))) (sym (map-id c.loop-guest.yielded) ∙ end.0)
