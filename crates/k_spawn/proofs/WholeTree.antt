-- The script of children of children, computed.
use Rattle.std.proofs.Common.{◌≡◌, refl, Ok}
use Rattle.k_text.proofs.Machine.{machine}
use Rattle.k_spawn.specs.Families.{reaped_within}
use Rattle.k_spawn.specs.Judgement.{judgement}
use Rattle.k_spawn.specs.Worked.{tree_text, text_by_tree, whole_tree, whole_tree_text, whole_tree_report}
use Rattle.k_spawn.proofs.Opened.{judging}

pub read : judgement whole_tree_text ≡ Ok whole_tree
unfolding judging
read = refl

pub reported : tree_text whole_tree ≡ whole_tree_report
unfolding machine reaped_within
reported = refl

pub same_end : text_by_tree whole_tree ≡ whole_tree_report
unfolding machine reaped_within
same_end = refl
