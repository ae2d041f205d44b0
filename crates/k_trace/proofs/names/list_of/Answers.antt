use Rattle.std.proofs.Common.{◌≡◌, ◌∙◌, ℕ, ◌+◌, ◌<◌, ◌++◌, [], ◌∷◌, length, map, drop, sym, ap, arith}
use Rattle.std.proofs.lemmas.List.{length-map}
use Rattle.std.specs.Global.{Vec}
use Rattle.k_words.specs.Words.{word_at}
use Rattle.k_words.specs.Names.{declares}
use Rattle.k_trace.proofs.Made.{next_is_new, next_made, word_here}
use Rattle.k_trace.proofs.names.list_of.Goals as goal

pub declare-requires : goal.declare-requires
declare-requires c =
    let texts = map (λ (name : Vec ℕ). name.items) c.args.names.now in
    let within : c.loop-name.name-index < length c.args.names.now = omega arith in
    let inside : c.loop-name.name-index < length texts = omega (arith, length-map c.args.names.now (λ (name : Vec ℕ). name.items)) in
    let word : c.deref.result.now ≡ word_at texts c.loop-name.name-index = c.deref.ensures.value ∙ sym (word_here c.args.names.now c.loop-name.name-index c.name-item.result within c.name-item.is) in
    ap (declares c.loop-name.list) word ∙ next_is_new texts c.loop-name.list c.loop-name.name-index inside c.loop-name.invariant c.requires

pub loop-name-preserved : goal.loop-name-preserved
loop-name-preserved c =
    let texts = map (λ (name : Vec ℕ). name.items) c.args.names.now in
    let within : c.loop-name.name-index < length c.args.names.now = omega arith in
    let inside : c.loop-name.name-index < length texts = omega (arith, length-map c.args.names.now (λ (name : Vec ℕ). name.items)) in
    let word : c.deref.result.now ≡ word_at texts c.loop-name.name-index = c.deref.ensures.value ∙ sym (word_here c.args.names.now c.loop-name.name-index c.name-item.result within c.name-item.is) in
    ap (λ ls. ls ++ drop (c.loop-name.name-index + 1) texts) (c.in_ok-declare.ensures.ok ∙ ap (λ w. c.loop-name.list ++ w ∷ []) word)
    ∙ next_made texts c.loop-name.list c.loop-name.name-index inside c.loop-name.invariant
