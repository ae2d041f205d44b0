use Rattle.std.proofs.Common.{◌+◌, ◌++◌, ◌∷◌, ◌||◌, ◌≡◌, ◌≤◌, [], Bool, List, ap, ap₂, sym, ◌∙◌, length, take, cond, arith}
use Rattle.std.specs.List.{list_any}
use Rattle.k_types.specs.declared.names.Name.{Name}
use Rattle.k_types.specs.State.{Object, refers}
use Rattle.k_state.specs.Marks.{marked}
use Rattle.std.proofs.lemmas.List.Folds.{list_any-append}
use Rattle.std.proofs.lemmas.List.{take_all}
use Rattle.k_scan.proofs.Counts.{marked_take}
use Rattle.k_scan.proofs.Noted.{noted_more, noted_same, or_false}
use Rattle.k_scan.proofs.referring.note_referred_in.Goals as goal
use Rattle.k_scan.proofs.referring.note_referred_in.Goals.{then-reached-at, else-reached-at}

pub loop-at-preserved : goal.loop-at-preserved
loop-at-preserved c =
    let exits = c.args.lists.now.state.exits in
    let h = c.args.heap in
    let xs = c.args.objects.now in
    let ms = c.args.reached.now in
    let o : Object = c.index-objects-at.result in
    let at = c.loop-at.at in
    let some : List Object → Name → Bool = λ ys n. list_any (λ (x : Object). refers x n) ys in
    let before = marked (take at ms) (take at xs) in
    let more = marked_take ms xs at o c.loop-at-test.true c.requires.reached c.index-objects-at.is in
    elim c.if-reached-at.branch [
      | then-reached-at w ↦
          rw w.noted-is
          (noted_more exits h (some before) (refers o) (some (marked (take (at + 1) ms) (take (at + 1) xs))) c.args.noted.now c.loop-at.noted w.note_references.new.noted
          (λ n.
          ap (λ ys. some ys n) (more ∙ ap (λ b. before ++ cond b (o ∷ []) []) w.if-reached-at.true)
          ∙ list_any-append (λ (x : Object). refers x n) before (o ∷ [])
          ∙ ap (λ b. some before n || b) (or_false (refers o n)))
          c.loop-at.invariant w.note_references.ensures)
      | else-reached-at w ↦
          rw w.noted-is
          (noted_same exits h (some before) (some (marked (take (at + 1) ms) (take (at + 1) xs))) c.args.noted.now c.loop-at.noted
          (λ n.
          ap (λ ys. some ys n) (more ∙ ap (λ b. before ++ cond b (o ∷ []) []) w.if-reached-at.false)
          ∙ list_any-append (λ (x : Object). refers x n) before []
          ∙ or_false (some before n))
          c.loop-at.invariant)
    ]

pub returns : goal.returns
returns c =
    let xs = c.args.objects.now in
    let ms = c.args.reached.now in
    let at = c.loop-at.at in
    let some : List Object → Name → Bool = λ ys n. list_any (λ (x : Object). refers x n) ys in
    let over : length xs ≤ at = omega (arith, c.loop-at-test.false) in
    let whole : marked (take at ms) (take at xs) ≡ marked ms xs
    = ap₂ (λ (bs : List Bool) (ys : List Object). marked bs ys) (take_all at ms (omega (arith, over, c.requires.reached))) (take_all at xs over) in
    noted_same c.args.lists.now.state.exits c.args.heap (some (marked (take at ms) (take at xs))) (some (marked ms xs)) c.args.noted.now c.loop-at.noted
    (λ n. ap (λ ys. some ys n) (sym whole)) c.loop-at.invariant
