use Rattle.std.proofs.Common.{◌≡◌, ◌<◌, ◌≤◌, ◌≢◌, ◌-◌, ◌∙◌, List, [], ℕ, length, get_or, true, false, refl, sym, ap, subst, arith}
use Rattle.std.proofs.lemmas.List.{length-map, get_or-map}
use Rattle.std.proofs.lemmas.Slice.Eq.{bytes_eq-Decides}
use Rattle.k_words.specs.declared.name_list.Declared.{Declared}
use Rattle.k_words.specs.Words.{Text, word_at}
use Rattle.k_words.specs.Names.{numbered}
use Rattle.k_words.specs.Chained.{texts, befores}
use Rattle.k_words.proofs.Chains.{ahead_first, ahead_next, next_smaller, not_found, numbered_none, numbered_at}
use Rattle.k_words.proofs.name_list.NameList.number.Goals as goal

-- the place is one of the names, and these are its name and its link
low : (names : List Declared) (link : ℕ) → link ≤ length (texts names) → link ≢ 0 → link - 1 < length names
low names link le some = omega (arith, length-map names (λ (d : Declared). d.name.items))

name_there : (names : List Declared) (i : ℕ) (d : Declared) (w : Text) → i < length names → d ≡ get_or names i d → w ≡ d.name.items → word_at (texts names) i ≡ w
name_there names i d w lt e is = get_or-map (λ (x : Declared). x.name.items) names i d [] lt ∙ ap (λ (x : Declared). x.name.items) (sym e) ∙ sym is

link_there : (names : List Declared) (i : ℕ) (d : Declared) → i < length names → d ≡ get_or names i d → d.before ≡ get_or (befores names) i 0
link_there names i d lt e = ap (λ (x : Declared). x.before) e ∙ sym (get_or-map (λ (x : Declared). x.before) names i d 0 lt)

pub loop-link-init : goal.loop-link-init
loop-link-init c = ahead_first (texts c.self.inside.names.items) (befores c.self.inside.names.items) c.self.inside.last c.args.name.now c.chain.result (get_or c.self.inside.last c.chain.result 0) c.self.invariant c.chain.ensures.value c.chain.ensures.below refl

pub index-declared-requires : goal.index-declared-requires
index-declared-requires c = omega (arith, low c.self.inside.names.items c.loop-link.link c.loop-link.invariant.within c.loop-link-test.true, c.self.inside.names.ok.0)

pub returns-then-eq-clause-number : goal.returns-then-eq-clause-number
returns-then-eq-clause-number c =
    let names = c.self.inside.names.items in
    let i = c.loop-link.link - 1 in
    let lt = low names c.loop-link.link c.loop-link.invariant.within c.loop-link-test.true in
    let there = name_there names i c.index-declared.result.now c.as_slice.result.now lt c.index-declared.ensures c.as_slice.ensures.value in
    let same = (bytes_eq-Decides c.as_slice.result.now c.args.name.now).0 (sym c.eq.ensures ∙ c.if-eq.true) in
    numbered_at (texts names) (befores names) c.self.inside.last c.args.name.now i c.self.invariant (omega (arith, lt, length-map names (λ (d : Declared). d.name.items))) (there ∙ same) ∙ ap (λ (ws : List Text). numbered ws c.args.name.now) c.self.view_is

pub returns-then-eq-clause-within : goal.returns-then-eq-clause-within
returns-then-eq-clause-within c =
    let le : c.loop-link.link ≤ length c.args.self.now = subst (λ (ws : List Text). c.loop-link.link ≤ length ws) c.self.view_is c.loop-link.invariant.within in
    let some : c.loop-link.link ≢ 0 = c.loop-link-test.true in
    omega (arith, le, some)

pub loop-link-smaller : goal.loop-link-smaller
loop-link-smaller c =
    let names = c.self.inside.names.items in
    let lt = low names c.loop-link.link c.loop-link.invariant.within c.loop-link-test.true in
    next_smaller (texts names) (befores names) c.self.inside.last c.args.name.now c.loop-link.link c.index-declared.result.now.before c.self.invariant c.loop-link.invariant (omega arith)
    (link_there names (c.loop-link.link - 1) c.index-declared.result.now lt c.index-declared.ensures)

pub loop-link-preserved : goal.loop-link-preserved
loop-link-preserved c =
    let names = c.self.inside.names.items in
    let i = c.loop-link.link - 1 in
    let lt = low names c.loop-link.link c.loop-link.invariant.within c.loop-link-test.true in
    let there = name_there names i c.index-declared.result.now c.as_slice.result.now lt c.index-declared.ensures c.as_slice.ensures.value in
    ahead_next (texts names) (befores names) c.self.inside.last c.args.name.now c.loop-link.link c.index-declared.result.now.before c.self.invariant c.loop-link.invariant (omega arith)
    (link_there names i c.index-declared.result.now lt c.index-declared.ensures)
    (λ e. let yes : c.eq.result ≡ true = c.eq.ensures ∙ (bytes_eq-Decides c.as_slice.result.now c.args.name.now).1 (sym there ∙ e) in let f : true ≡ false = sym yes ∙ c.if-eq.false in cc)

pub returns-clause-number : goal.returns-clause-number
returns-clause-number c =
    let names = texts c.self.inside.names.items in
    numbered_none names c.args.name.now (not_found names c.args.name.now c.loop-link.link c.loop-link.invariant c.loop-link-test.false) ∙ ap (λ (ws : List Text). numbered ws c.args.name.now) c.self.view_is
