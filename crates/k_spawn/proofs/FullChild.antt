-- The script of one child, computed.
use Rattle.std.proofs.Common.{◌≡◌, refl, Ok}
use Rattle.k_text.proofs.Machine.{machine}
use Rattle.k_spawn.specs.Families.{reaped_within}
use Rattle.k_spawn.specs.Judgement.{judgement, IsBad}
use Rattle.k_spawn.specs.Worked.{tree_text, text_by_tree, words_by_tree, full_child, full_child_text, full_child_replies, full_child_report, reaps_itself_text, goes_on_text, spawns_itself_text}
use Rattle.k_spawn.proofs.Opened.{judging}

pub read : judgement full_child_text ≡ Ok full_child
unfolding judging
read = refl

pub reported : tree_text full_child ≡ full_child_report
unfolding machine reaped_within
reported = refl

pub answered : words_by_tree full_child ≡ full_child_replies
unfolding machine reaped_within
answered = refl

pub same_end : text_by_tree full_child ≡ full_child_report
unfolding machine reaped_within
same_end = refl

pub stranger : IsBad reaps_itself_text 15 14
unfolding judging
stranger = refl

pub untimely : IsBad goes_on_text 17 15
unfolding judging
untimely = refl

pub no_child : IsBad spawns_itself_text 15 14
unfolding judging
no_child = refl
