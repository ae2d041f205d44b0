use Rattle.std.proofs.Common.{◌≡◌, false, IfSome, Vec, Global, List, Option, sym, ap, subst, ◌∙◌}
use Rattle.k_mark.specs.k_types.declared.names.Name.{Name}
use Rattle.k_mark.specs.k_types.Names.{name_among}
use Rattle.k_mark.specs.k_space.declared.bound.Bound.{Bound}
use Rattle.k_mark.specs.k_space.Areas.{AreaValue, black_at, gray_at, marked_at, unmarked}
use Rattle.k_mark.specs.Kept.{IsBeginning, IsKept}
use Rattle.k_mark.specs.Marking.{refers_at}
use Rattle.k_cell.specs.Rooted.{grayed_all}
use Rattle.k_cell.proofs.Carried.{foreign_alike, known_led, marks_kept}
use Rattle.k_cell.proofs.Keeps.{kept_from}
use Rattle.k_cell.proofs.Rooted.{alike_distinct, all_same, black_all, distinct_inside, exits_seen, gray_noted, reached_seen, refers_alike}
use Rattle.k_cell.proofs.rooting.RootedArea.mark_kept.Goals as goal

pub gray_unknown-known-requires-clause-distinct : goal.gray_unknown-known-requires-clause-distinct
gray_unknown-known-requires-clause-distinct c = distinct_inside c.self.inside.area c.args.self.now c.self.inside.noted.items c.self.view_is c.requires.distinct

pub gray_unknown-known-requires-clause-clean : goal.gray_unknown-known-requires-clause-clean
gray_unknown-known-requires-clause-clean c = λ n.
    sym (black_all c.self.inside.area c.self.inside.noted.items n) ∙ ap (λ (x : AreaValue). black_at x n) c.self.view_is ∙ c.requires.clean n

pub gray_unknown-known-requires-clause-carried : goal.gray_unknown-known-requires-clause-carried
gray_unknown-known-requires-clause-carried c = λ t.
    marks_kept c.args.self.now c.self.inside.area _ c.args.bound (sym (all_same c.self.inside.area c.self.inside.noted.items) ∙ ap unmarked c.self.view_is) (c.requires.carried t).kept

pub mark_kept-next-requires-clause-distinct : goal.mark_kept-next-requires-clause-distinct
mark_kept-next-requires-clause-distinct c =
    alike_distinct c.self.inside.area c.gray_unknown-known.new.area c.gray_unknown-known.ensures.same
    (distinct_inside c.self.inside.area c.args.self.now c.self.inside.noted.items c.self.view_is c.requires.distinct)

pub mark_kept-next-requires-clause-exits : goal.mark_kept-next-requires-clause-exits
mark_kept-next-requires-clause-exits c = λ a n refers foreign.
    let same : unmarked c.gray_unknown-known.new.area ≡ unmarked c.args.self.now
    = c.gray_unknown-known.ensures.same ∙ sym (all_same c.self.inside.area c.self.inside.noted.items) ∙ ap unmarked c.self.view_is in
    c.requires.exits a n (sym (refers_alike c.args.self.now c.gray_unknown-known.new.area a n same) ∙ refers) (sym (foreign_alike c.args.self.now c.gray_unknown-known.new.area n same) ∙ foreign)

pub mark_kept-next-requires-clause-first : goal.mark_kept-next-requires-clause-first
mark_kept-next-requires-clause-first c =
    let same : unmarked c.gray_unknown-known.new.area ≡ unmarked c.args.self.now
    = c.gray_unknown-known.ensures.same ∙ sym (all_same c.self.inside.area c.self.inside.noted.items) ∙ ap unmarked c.self.view_is in
    (known_led c.args.self.now c.gray_unknown-known.new.area c.args.exits.now.items c.args.whole c.gray_unknown-known.result c.args.bound c.known_bound-covered.result c.args.first c.known_first-first.result c.args.roots.now same c.requires.carried c.gray_unknown-known.ensures.whole c.known_bound-covered.ensures c.known_first-first.ensures.yes c.known_first-first.ensures.no).0

pub mark_kept-next-requires-clause-led : goal.mark_kept-next-requires-clause-led
mark_kept-next-requires-clause-led c =
    let same : unmarked c.gray_unknown-known.new.area ≡ unmarked c.args.self.now
    = c.gray_unknown-known.ensures.same ∙ sym (all_same c.self.inside.area c.self.inside.noted.items) ∙ ap unmarked c.self.view_is in
    (known_led c.args.self.now c.gray_unknown-known.new.area c.args.exits.now.items c.args.whole c.gray_unknown-known.result c.args.bound c.known_bound-covered.result c.args.first c.known_first-first.result c.args.roots.now same c.requires.carried c.gray_unknown-known.ensures.whole c.known_bound-covered.ensures c.known_first-first.ensures.yes c.known_first-first.ensures.no).1

pub returns-clause-kept : goal.returns-clause-kept
returns-clause-kept c =
    let same : unmarked c.gray_unknown-known.new.area ≡ unmarked c.args.self.now
    = c.gray_unknown-known.ensures.same ∙ sym (all_same c.self.inside.area c.self.inside.noted.items) ∙ ap unmarked c.self.view_is in
    ap (λ ns. unmarked (grayed_all c.mark_kept-next.new.area ns)) c.clear.ensures.items ∙ c.mark_kept-next.ensures.kept ∙ same

pub returns-clause-black : goal.returns-clause-black
returns-clause-black c = λ n. ap (λ ns. gray_at (grayed_all c.mark_kept-next.new.area ns) n) c.clear.ensures.items ∙ c.mark_kept-next.ensures.black n

pub invariant_of-self : goal.invariant_of-self
invariant_of-self c = λ t n. c.mark_kept-next.ensures.black n

pub returns-clause-reached : goal.returns-clause-reached
returns-clause-reached c = λ n.
    let same : unmarked c.gray_unknown-known.new.area ≡ unmarked c.args.self.now
    = c.gray_unknown-known.ensures.same ∙ sym (all_same c.self.inside.area c.self.inside.noted.items) ∙ ap unmarked c.self.view_is in
    let noted : c.deref.result.now ≡ c.self.inside.noted.items = c.deref.ensures.value ∙ ap (λ (v : Vec Name Global). v.items) c.swap.ensures.y_after in
    let beginning = subst (λ (ns : List Name). IsBeginning c.gray_unknown-known.new.area c.known_bound-covered.result (gray_at (grayed_all c.self.inside.area ns))) noted
    (subst (λ (b : Bound). IsBeginning c.gray_unknown-known.new.area b (gray_at (grayed_all c.self.inside.area c.deref.result.now))) (sym c.known_bound-covered.ensures) c.gray_unknown-known.ensures.beginning) in
    let begun = c.mark_kept-next.ensures.reached (gray_at (grayed_all c.self.inside.area c.self.inside.noted.items)) beginning n in
    let seen = reached_seen c.gray_unknown-known.new.area c.args.self.now (grayed_all c.self.inside.area c.self.inside.noted.items) same c.self.view_is n in
    let here = ap (λ ns. marked_at (grayed_all c.mark_kept-next.new.area ns) n) c.clear.ensures.items in
    (λ m. seen.0 (begun.0 (sym here ∙ m)), λ r. here ∙ begun.1 (seen.1 r))

pub returns-clause-exits : goal.returns-clause-exits
returns-clause-exits c = λ n.
    let same : unmarked c.gray_unknown-known.new.area ≡ unmarked c.args.self.now
    = c.gray_unknown-known.ensures.same ∙ sym (all_same c.self.inside.area c.self.inside.noted.items) ∙ ap unmarked c.self.view_is in
    let noted : c.deref.result.now ≡ c.self.inside.noted.items = c.deref.ensures.value ∙ ap (λ (v : Vec Name Global). v.items) c.swap.ensures.y_after in
    let beginning = subst (λ (ns : List Name). IsBeginning c.gray_unknown-known.new.area c.known_bound-covered.result (gray_at (grayed_all c.self.inside.area ns))) noted
    (subst (λ (b : Bound). IsBeginning c.gray_unknown-known.new.area b (gray_at (grayed_all c.self.inside.area c.deref.result.now))) (sym c.known_bound-covered.ensures) c.gray_unknown-known.ensures.beginning) in
    let begun = c.mark_kept-next.ensures.exits (gray_at (grayed_all c.self.inside.area c.self.inside.noted.items)) beginning n in
    let seen = exits_seen c.gray_unknown-known.new.area c.args.self.now (grayed_all c.self.inside.area c.self.inside.noted.items) same c.self.view_is n in
    (λ m. seen.0 (begun.0 m), λ e. begun.1 (seen.1 e))

pub returns-clause-next : goal.returns-clause-next
returns-clause-next c = λ t.
    let told = c.marked_below.ensures t in
    let noted : c.deref.result.now ≡ c.self.inside.noted.items = c.deref.ensures.value ∙ ap (λ (v : Vec Name Global). v.items) c.swap.ensures.y_after in
    let beginning = subst (λ (ns : List Name). IsBeginning c.gray_unknown-known.new.area c.known_bound-covered.result (gray_at (grayed_all c.self.inside.area ns))) noted
    (subst (λ (b : Bound). IsBeginning c.gray_unknown-known.new.area b (gray_at (grayed_all c.self.inside.area c.deref.result.now))) (sym c.known_bound-covered.ensures) c.gray_unknown-known.ensures.beginning) in
    let found = subst (λ (o : Option Bound). IfSome o (λ k. IsKept (black_at c.mark_kept-next.new.area) (refers_at c.mark_kept-next.new.area) (gray_at (grayed_all c.self.inside.area c.self.inside.noted.items)) k)) told.1
    (c.mark_kept-next.ensures.next (gray_at (grayed_all c.self.inside.area c.self.inside.noted.items)) beginning) in
    let clean : (n : Name) → black_at c.self.inside.area n ≡ false = λ n. sym (black_all c.self.inside.area c.self.inside.noted.items n) ∙ ap (λ (x : AreaValue). black_at x n) c.self.view_is ∙ c.requires.clean n in
    let among = kept_from (black_at c.mark_kept-next.new.area) (refers_at c.mark_kept-next.new.area) (gray_at (grayed_all c.self.inside.area c.self.inside.noted.items)) (λ n. name_among n c.self.inside.noted.items) _
    (λ n g b. gray_noted c.self.inside.area c.self.inside.noted.items n clean (c.self.invariant told.0) g) found in
    subst (λ (v : Vec Name Global). IsKept (black_at (grayed_all c.mark_kept-next.new.area c.clear.new.self.items)) (refers_at (grayed_all c.mark_kept-next.new.area c.clear.new.self.items)) (λ n. name_among n v.items) c.marked_below.result.1) (sym c.swap.ensures.y_after)
    (subst (λ (ns : List Name). IsKept (black_at (grayed_all c.mark_kept-next.new.area ns)) (refers_at (grayed_all c.mark_kept-next.new.area ns)) (λ n. name_among n c.self.inside.noted.items) c.marked_below.result.1) (sym c.clear.ensures.items) among)
