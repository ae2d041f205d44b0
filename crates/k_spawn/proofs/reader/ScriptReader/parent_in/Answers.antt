use Rattle.std.proofs.Common.{◌≡◌, ◌==◌, nat_lt, true, false, Some, length, subst, arith, rules}
use Rattle.std.proofs.lemmas.Grind.{common_steps}
use Rattle.k_trace.specs.Words.{word_at, words_of}
use Rattle.k_trace.specs.Names.{declares, is_name}
use Rattle.k_spawn.specs.Judgement.{is_child_word}
use Rattle.k_spawn.specs.Outcome.{process_of_name, so_far}
use Rattle.k_spawn.specs.Scripts.{limit_names, process_names}
use Rattle.k_spawn.proofs.Deeds.{child_fits}
use Rattle.k_spawn.proofs.reader.ScriptReader.parent_in.Goals as goal

pub returns-clause-good : goal.returns-clause-good
returns-clause-good c =
    let s = (so_far c.args.self.now).said in
    let ws = words_of c.args.line.now in
    let form : (length ws == 3) ≡ true = search rules in
    let name : is_name (word_at ws 1) ≡ true = search rules in
    let word : is_child_word (word_at ws 1) ≡ false = search rules in
    let process : declares (process_names s) (word_at ws 1) ≡ false = search rules in
    let limit : declares (limit_names s) (word_at ws 1) ≡ false = grind (arith, common_steps) in
    let parent = subst (λ w. Some c.in-Some.parent ≡ process_of_name s w) c.word.ensures c.in-Some.ensures.number in
    let few : nat_lt (length (process_names s)) 64 ≡ true = search rules in
    let fewer : nat_lt (length (limit_names s)) 128 ≡ true = grind (arith, common_steps) in
    child_fits s ws c.in-Some.parent form name word process limit parent few fewer
