use Rattle.std.proofs.Common.{◌≡◌, ◌↔◌, Some, ◌+◌, List, [], length, true, false, refl, sym, ap, subst, ◌∙◌, arith}
use Rattle.std.proofs.lemmas.List.{length-map}
use Rattle.std.proofs.lemmas.Bool.{false≢true}
use Rattle.k_exit.proofs.BaseLists.{some_one}
use Rattle.k_laws.specs.k_types.declared.names.Name.{Name}
use Rattle.k_laws.specs.k_types.State.{Content}
use Rattle.k_space.specs.Segments.{Black}
use Rattle.k_space.specs.Areas.{AreaValue, HasDistinct, black_at, gray_at, marked_at, unmarked, with_row_of}
use Rattle.k_space.specs.Visiting.{AreHeld}
use Rattle.k_space.proofs.AreaRows.{found, after_distinct}
use Rattle.k_exit.specs.Exits.{ExitList, ExitRow, target_marked, targets}
use Rattle.k_exit.proofs.First.{targets_first}
use Rattle.k_mark.specs.Kept.{IsExitFrom, IsKept, IsReachedFrom, old_at}
use Rattle.k_mark.specs.Marking.{refers_at}
use Rattle.k_mark.proofs.Left.{left}
use Rattle.k_mark.proofs.Looks.{Looked, looked_list}
use Rattle.k_mark.proofs.Marked.{IsMarking, begun, black_cases, demand_now, demands, fields_now, fields_were, less_left, looked_now, stepped, still_live}
use Rattle.k_mark.proofs.KeptMarked.{AreTracedLower, found_old, kept_exits, kept_next, kept_reached, lower_more, none_gray_after, unmarked_same}
use Rattle.k_mark.proofs.keeping.mark_kept_on.Goals.{then-not-are_lower, else-not-are_lower}
use Rattle.k_mark.proofs.keeping.mark_kept_on.Goals as goal

pub loop-found-init : goal.loop-found-init
loop-found-init g c = record {
  marking = begun (old_at c.args.area.now c.args.bound) c.args.area.now c.args.exits.now.items c.requires.distinct c.requires.clean c.requires.unmarked;
  lower = λ e a m plain black ref. absurd (false≢true (sym (c.requires.clean a) ∙ black));
  room = refl;
}

pub trace-requires-clause-distinct : goal.trace-requires-clause-distinct
trace-requires-clause-distinct g c =
    let t = c.in-Some.ensures.some.black in
    subst (λ (a : AreaValue). HasDistinct a.segments) (sym t.now) (after_distinct c.loop-found.area c.in-Some.found.name t.row (record t.row { color = Black }) (found c.loop-found.area c.in-Some.found.name t.row t.there) c.loop-found.invariant.marking.distinct)

pub trace-requires-clause-live : goal.trace-requires-clause-live
trace-requires-clause-live g c =
    let t = c.in-Some.ensures.some.black in
    still_live (old_at c.args.area.now c.args.bound) c.args.area.now c.loop-found.area c.visit_gray_from.new.self c.visit_gray_from.new.self c.args.exits.now.items c.loop-found.exits.items c.loop-found.exits.items c.in-Some.found.name t.row c.loop-found.invariant.marking t.there t.was t.now (demands c.args.area.now c.args.exits.now.items c.requires.exits)

pub trace-requires-clause-held : goal.trace-requires-clause-held
trace-requires-clause-held g c = λ fields is.
    let t = c.in-Some.ensures.some.black in
    let now = fields_now (old_at c.args.area.now c.args.bound) c.args.area.now c.loop-found.area c.visit_gray_from.new.self c.visit_gray_from.new.self c.args.exits.now.items c.loop-found.exits.items c.loop-found.exits.items c.in-Some.found.name t.row c.loop-found.invariant.marking t.there t.was t.now (demands c.args.area.now c.args.exits.now.items c.requires.exits) in
    subst (λ (f : List Content). AreHeld f c.in-Some.found.fields c.visit_gray_from.new.into) (some_one (sym now ∙ is)) (c.in-Some.ensures.some.held (sym c.covers.ensures ∙ c.if-not-covers.true))

pub trace-requires-clause-exits : goal.trace-requires-clause-exits
trace-requires-clause-exits g c =
    let t = c.in-Some.ensures.some.black in
    demand_now (old_at c.args.area.now c.args.bound) c.args.area.now c.loop-found.area c.visit_gray_from.new.self c.visit_gray_from.new.self c.args.exits.now.items c.loop-found.exits.items c.loop-found.exits.items c.in-Some.found.name t.row c.loop-found.invariant.marking t.there t.was t.now (demands c.args.area.now c.args.exits.now.items c.requires.exits)

pub loop-found-smaller-then-not-covers : goal.loop-found-smaller-then-not-covers
loop-found-smaller-then-not-covers g c =
    let t = c.in-Some.ensures.some.black in
    let looked = looked_now (old_at c.args.area.now c.args.bound) c.args.area.now c.loop-found.area c.visit_gray_from.new.self c.trace.new.area c.args.exits.now.items c.loop-found.exits.items c.trace.new.exits.items c.in-Some.found.name t.row c.loop-found.invariant.marking t.there t.was t.now (demands c.args.area.now c.args.exits.now.items c.requires.exits) c.trace.ensures.looked in
    let less : left c.trace.new.area + 1 ≡ left c.loop-found.area = less_left (old_at c.args.area.now c.args.bound) c.args.area.now c.loop-found.area c.trace.new.area c.args.exits.now.items c.loop-found.exits.items c.trace.new.exits.items c.in-Some.found.name t.row t.row.fields c.loop-found.invariant.marking t.there t.was (demands c.args.area.now c.args.exits.now.items c.requires.exits) looked (λ k e. e) (λ e. refl) in
    omega (arith, less)

pub loop-found-preserved-then-not-covers : goal.loop-found-preserved-then-not-covers
loop-found-preserved-then-not-covers g c =
    let t = c.in-Some.ensures.some.black in
    let looked = looked_now (old_at c.args.area.now c.args.bound) c.args.area.now c.loop-found.area c.visit_gray_from.new.self c.trace.new.area c.args.exits.now.items c.loop-found.exits.items c.trace.new.exits.items c.in-Some.found.name t.row c.loop-found.invariant.marking t.there t.was t.now (demands c.args.area.now c.args.exits.now.items c.requires.exits) c.trace.ensures.looked in
    record {
      marking = stepped (old_at c.args.area.now c.args.bound) c.args.area.now c.loop-found.area c.trace.new.area c.args.exits.now.items c.loop-found.exits.items c.trace.new.exits.items c.in-Some.found.name t.row t.row.fields c.loop-found.invariant.marking t.there t.was (demands c.args.area.now c.args.exits.now.items c.requires.exits) looked (λ k e. e) (λ e. refl);
      lower = λ e.
          elim c.if-not-are_lower.branch [
            | then-not-are_lower w ↦ absurd (false≢true (sym w.lower-is ∙ e))
            | else-not-are_lower w ↦
                lower_more c.args.bound c.after-next.result c.args.area.now c.loop-found.area c.trace.new.area c.in-Some.found.name t.row.fields (black_cases (old_at c.args.area.now c.args.bound) c.args.area.now c.loop-found.area c.trace.new.area c.args.exits.now.items c.loop-found.exits.items c.trace.new.exits.items c.in-Some.found.name t.row t.row.fields c.loop-found.invariant.marking t.there t.was (demands c.args.area.now c.args.exits.now.items c.requires.exits) looked (λ k e. e) (λ e. refl)) (fields_were (old_at c.args.area.now c.args.bound) c.args.area.now c.loop-found.area c.trace.new.area c.args.exits.now.items c.loop-found.exits.items c.trace.new.exits.items c.in-Some.found.name t.row t.row.fields c.loop-found.invariant.marking t.there t.was (demands c.args.area.now c.args.exits.now.items c.requires.exits) looked (λ k e. e) (λ e. refl))
                (λ plain m leads. c.are_lower.ensures w.if-not-are_lower.false t.row.fields m (c.in-Some.ensures.some.held (sym c.covers.ensures ∙ c.if-not-covers.true)) leads) (c.loop-found.invariant.lower (sym w.lower-is ∙ e))
          ];
      room = c.trace.ensures.room ∙ c.loop-found.invariant.room;
    }

pub loop-found-smaller : goal.loop-found-smaller
loop-found-smaller g c =
    let t = c.in-Some.ensures.some.black in
    let looked : Looked (record { area = with_row_of c.loop-found.area c.in-Some.found.name (Some (record t.row { color = Black })); exits = c.loop-found.exits.items }) (record { area = c.visit_gray_from.new.self; exits = c.loop-found.exits.items }) [] =
    subst (λ (a : AreaValue). Looked (record { area = with_row_of c.loop-found.area c.in-Some.found.name (Some (record t.row { color = Black })); exits = c.loop-found.exits.items }) (record { area = a; exits = c.loop-found.exits.items }) []) (sym t.now) (looked_list [] (record { area = with_row_of c.loop-found.area c.in-Some.found.name (Some (record t.row { color = Black })); exits = c.loop-found.exits.items })) in
    let kept = found_old c.args.bound c.args.area.now c.loop-found.area c.args.exits.now.items c.loop-found.exits.items c.in-Some.found.name t.row c.loop-found.invariant.marking t.there (sym c.covers.ensures ∙ c.if-not-covers.false) in
    let less : left c.visit_gray_from.new.self + 1 ≡ left c.loop-found.area = less_left (old_at c.args.area.now c.args.bound) c.args.area.now c.loop-found.area c.visit_gray_from.new.self c.args.exits.now.items c.loop-found.exits.items c.loop-found.exits.items c.in-Some.found.name t.row [] c.loop-found.invariant.marking t.there t.was (demands c.args.area.now c.args.exits.now.items c.requires.exits) looked (λ k e. absurd (false≢true e)) (λ plain. absurd (false≢true (sym plain ∙ kept))) in
    omega (arith, less)

pub loop-found-preserved : goal.loop-found-preserved
loop-found-preserved g c =
    let t = c.in-Some.ensures.some.black in
    let looked : Looked (record { area = with_row_of c.loop-found.area c.in-Some.found.name (Some (record t.row { color = Black })); exits = c.loop-found.exits.items }) (record { area = c.visit_gray_from.new.self; exits = c.loop-found.exits.items }) [] =
    subst (λ (a : AreaValue). Looked (record { area = with_row_of c.loop-found.area c.in-Some.found.name (Some (record t.row { color = Black })); exits = c.loop-found.exits.items }) (record { area = a; exits = c.loop-found.exits.items }) []) (sym t.now) (looked_list [] (record { area = with_row_of c.loop-found.area c.in-Some.found.name (Some (record t.row { color = Black })); exits = c.loop-found.exits.items })) in
    let kept = found_old c.args.bound c.args.area.now c.loop-found.area c.args.exits.now.items c.loop-found.exits.items c.in-Some.found.name t.row c.loop-found.invariant.marking t.there (sym c.covers.ensures ∙ c.if-not-covers.false) in
    record {
      marking = stepped (old_at c.args.area.now c.args.bound) c.args.area.now c.loop-found.area c.visit_gray_from.new.self c.args.exits.now.items c.loop-found.exits.items c.loop-found.exits.items c.in-Some.found.name t.row [] c.loop-found.invariant.marking t.there t.was (demands c.args.area.now c.args.exits.now.items c.requires.exits) looked (λ k e. absurd (false≢true e)) (λ plain. absurd (false≢true (sym plain ∙ kept)));
      lower = λ e.
          lower_more c.args.bound c.after-next.result c.args.area.now c.loop-found.area c.visit_gray_from.new.self c.in-Some.found.name t.row.fields (black_cases (old_at c.args.area.now c.args.bound) c.args.area.now c.loop-found.area c.visit_gray_from.new.self c.args.exits.now.items c.loop-found.exits.items c.loop-found.exits.items c.in-Some.found.name t.row [] c.loop-found.invariant.marking t.there t.was (demands c.args.area.now c.args.exits.now.items c.requires.exits) looked (λ k e. absurd (false≢true e)) (λ plain. absurd (false≢true (sym plain ∙ kept)))) (fields_were (old_at c.args.area.now c.args.bound) c.args.area.now c.loop-found.area c.visit_gray_from.new.self c.args.exits.now.items c.loop-found.exits.items c.loop-found.exits.items c.in-Some.found.name t.row [] c.loop-found.invariant.marking t.there t.was (demands c.args.area.now c.args.exits.now.items c.requires.exits) looked (λ k e. absurd (false≢true e)) (λ plain. absurd (false≢true (sym plain ∙ kept))))
          (λ plain m leads. absurd (false≢true (sym plain ∙ kept))) (c.loop-found.invariant.lower e);
      room = c.loop-found.invariant.room;
    }

pub returns-then-lower-clause-kept : goal.returns-then-lower-clause-kept
returns-then-lower-clause-kept g c =
    ap (λ (a : AreaValue). unmarked a) c.blacken_covered.ensures ∙ unmarked_same c.args.bound c.visit_gray_from.new.self ∙ ap (λ (a : AreaValue). unmarked a) c.in_default.ensures.kept ∙ c.loop-found.invariant.marking.same

pub returns-then-lower-clause-black : goal.returns-then-lower-clause-black
returns-then-lower-clause-black g c = λ n.
    let done : (n : Name) → gray_at c.visit_gray_from.new.self n ≡ false = λ n. ap (λ (a : AreaValue). gray_at a n) c.in_default.ensures.kept ∙ c.in_default.ensures.none n in
    ap (λ (a : AreaValue). gray_at a n) c.blacken_covered.ensures ∙ none_gray_after c.args.bound c.visit_gray_from.new.self done n

pub returns-then-lower-clause-reached : goal.returns-then-lower-clause-reached
returns-then-lower-clause-reached g c = λ start beginning n.
    let marking = subst (λ (a : AreaValue). IsMarking (old_at c.args.area.now c.args.bound) c.args.area.now a c.args.exits.now.items c.loop-found.exits.items) (sym c.in_default.ensures.kept) c.loop-found.invariant.marking in
    let done : (n : Name) → gray_at c.visit_gray_from.new.self n ≡ false = λ n. ap (λ (a : AreaValue). gray_at a n) c.in_default.ensures.kept ∙ c.in_default.ensures.none n in
    subst (λ (a : AreaValue). (marked_at a n ≡ true) ↔ IsReachedFrom c.args.area.now start n) (sym c.blacken_covered.ensures) (kept_reached c.args.bound c.args.area.now c.visit_gray_from.new.self c.args.exits.now.items c.loop-found.exits.items marking done start beginning c.args.first c.requires.led n)

pub returns-then-lower-clause-exits : goal.returns-then-lower-clause-exits
returns-then-lower-clause-exits g c = λ start beginning n.
    let marking = subst (λ (a : AreaValue). IsMarking (old_at c.args.area.now c.args.bound) c.args.area.now a c.args.exits.now.items c.loop-found.exits.items) (sym c.in_default.ensures.kept) c.loop-found.invariant.marking in
    let done : (n : Name) → gray_at c.visit_gray_from.new.self n ≡ false = λ n. ap (λ (a : AreaValue). gray_at a n) c.in_default.ensures.kept ∙ c.in_default.ensures.none n in
    subst (λ (e : ExitList). (target_marked e.items n ≡ true) ↔ IsExitFrom c.args.area.now start n) (sym c.mark_first.ensures)
    (kept_exits c.args.bound c.args.area.now c.visit_gray_from.new.self c.args.exits.now.items c.loop-found.exits.items marking done start beginning c.args.first c.requires.led n)

pub returns-clause-kept : goal.returns-clause-kept
returns-clause-kept g c =
    ap (λ (a : AreaValue). unmarked a) c.blacken_covered.ensures ∙ unmarked_same c.args.bound c.visit_gray_from.new.self ∙ ap (λ (a : AreaValue). unmarked a) c.in_default.ensures.kept ∙ c.loop-found.invariant.marking.same

pub returns-clause-black : goal.returns-clause-black
returns-clause-black g c = λ n.
    let done : (n : Name) → gray_at c.visit_gray_from.new.self n ≡ false = λ n. ap (λ (a : AreaValue). gray_at a n) c.in_default.ensures.kept ∙ c.in_default.ensures.none n in
    ap (λ (a : AreaValue). gray_at a n) c.blacken_covered.ensures ∙ none_gray_after c.args.bound c.visit_gray_from.new.self done n

pub returns-clause-reached : goal.returns-clause-reached
returns-clause-reached g c = λ start beginning n.
    let marking = subst (λ (a : AreaValue). IsMarking (old_at c.args.area.now c.args.bound) c.args.area.now a c.args.exits.now.items c.loop-found.exits.items) (sym c.in_default.ensures.kept) c.loop-found.invariant.marking in
    let done : (n : Name) → gray_at c.visit_gray_from.new.self n ≡ false = λ n. ap (λ (a : AreaValue). gray_at a n) c.in_default.ensures.kept ∙ c.in_default.ensures.none n in
    subst (λ (a : AreaValue). (marked_at a n ≡ true) ↔ IsReachedFrom c.args.area.now start n) (sym c.blacken_covered.ensures) (kept_reached c.args.bound c.args.area.now c.visit_gray_from.new.self c.args.exits.now.items c.loop-found.exits.items marking done start beginning c.args.first c.requires.led n)

pub returns-clause-exits : goal.returns-clause-exits
returns-clause-exits g c = λ start beginning n.
    let marking = subst (λ (a : AreaValue). IsMarking (old_at c.args.area.now c.args.bound) c.args.area.now a c.args.exits.now.items c.loop-found.exits.items) (sym c.in_default.ensures.kept) c.loop-found.invariant.marking in
    let done : (n : Name) → gray_at c.visit_gray_from.new.self n ≡ false = λ n. ap (λ (a : AreaValue). gray_at a n) c.in_default.ensures.kept ∙ c.in_default.ensures.none n in
    subst (λ (e : ExitList). (target_marked e.items n ≡ true) ↔ IsExitFrom c.args.area.now start n) (sym c.mark_first.ensures)
    (kept_exits c.args.bound c.args.area.now c.visit_gray_from.new.self c.args.exits.now.items c.loop-found.exits.items marking done start beginning c.args.first c.requires.led n)

pub returns-then-lower-clause-next : goal.returns-then-lower-clause-next
returns-then-lower-clause-next g c = λ start beginning.
    let marking = subst (λ (a : AreaValue). IsMarking (old_at c.args.area.now c.args.bound) c.args.area.now a c.args.exits.now.items c.loop-found.exits.items) (sym c.in_default.ensures.kept) c.loop-found.invariant.marking in
    let done : (n : Name) → gray_at c.visit_gray_from.new.self n ≡ false = λ n. ap (λ (a : AreaValue). gray_at a n) c.in_default.ensures.kept ∙ c.in_default.ensures.none n in
    let lower : AreTracedLower c.args.area.now c.args.bound c.visit_gray_from.new.self c.after-next.result = subst (λ (a : AreaValue). AreTracedLower c.args.area.now c.args.bound a c.after-next.result) (sym c.in_default.ensures.kept) (c.loop-found.invariant.lower c.if-lower.true) in
    subst (λ (a : AreaValue). IsKept (black_at a) (refers_at a) start c.after-next.result) (sym c.blacken_covered.ensures)
    (kept_next c.args.bound c.args.area.now c.visit_gray_from.new.self c.args.exits.now.items c.loop-found.exits.items marking done start beginning c.args.first c.requires.led c.after-next.result c.after-next.ensures.before c.after-next.ensures.live lower)

pub mark_first-requires : goal.mark_first-requires
mark_first-requires g c =
    let same = ap (λ (ns : List Name). length ns) c.loop-found.invariant.marking.names in
    omega (arith, c.requires.first, same, length-map c.loop-found.exits.items (λ (e : ExitRow). e.target), length-map c.args.exits.now.items (λ (e : ExitRow). e.target))

pub returns-then-lower-clause-targets : goal.returns-then-lower-clause-targets
returns-then-lower-clause-targets g c = ap (λ (e : ExitList). targets e.items) c.mark_first.ensures ∙ targets_first c.args.first c.loop-found.exits.items ∙ c.loop-found.invariant.marking.names

pub returns-clause-targets : goal.returns-clause-targets
returns-clause-targets g c = ap (λ (e : ExitList). targets e.items) c.mark_first.ensures ∙ targets_first c.args.first c.loop-found.exits.items ∙ c.loop-found.invariant.marking.names
