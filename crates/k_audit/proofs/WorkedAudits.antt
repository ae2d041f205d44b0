-- The worked audits, computed.
use Rattle.std.proofs.Common.{◌≡◌, ◌++◌, ℕ, [], codes, refl}
use Rattle.k_types.specs.Owners.{bytes_by, owner_of_segment}
use Rattle.k_types.specs.Limits.{use_within}
use Rattle.k_types.specs.Updates.{set_register}
use Rattle.k_text.specs.Worked.{barrier, every_sharer_pays, of_lines}
use Rattle.k_reports.specs.Reading.{heap_named, name_of_word}
use Rattle.k_audit.specs.Answering.{answer_to}
use Rattle.k_audit.specs.Reading.{bare_phase, charge_line, content_of, contents_at, exit_line, exit_of, gone_line, gone_of, graph_line, head_of, heap_line, kernel_line, limit_line, made_line, made_of, object_of, object_with, pair_at, phase_of_words, phase_with, process_line, read_at, read_lines, reference_of, root_line, root_of, share_line, share_of, spelled_name, start_line, type_of_word}
use Rattle.k_audit.specs.WorkedAudits.{audited, barrier_snapshot, one_exit_less, one_share_less, sharing_front, sharing_snapshot}
use Rattle.k_audit.specs.declared.verdicts.Verdict.TheVariants.{Line, Point, Sound}

-- One name that opens every definition that an audit is computed by.
unfoldable auditing : ℕ
unfolding bytes_by owner_of_segment use_within set_register heap_named name_of_word bare_phase charge_line content_of contents_at exit_line exit_of gone_line gone_of graph_line head_of heap_line kernel_line limit_line made_line made_of object_of object_with pair_at phase_of_words phase_with process_line read_at read_lines reference_of root_line root_of share_line share_of spelled_name start_line type_of_word
auditing = 0

pub sharing_is_sound : audited every_sharer_pays sharing_snapshot ≡ Sound
unfolding auditing
sharing_is_sound = refl

pub share_is_missed : audited every_sharer_pays one_share_less ≡ Point 8
unfolding auditing
share_is_missed = refl

pub barrier_is_sound : audited barrier barrier_snapshot ≡ Sound
unfolding auditing
barrier_is_sound = refl

pub exit_is_missed : audited barrier one_exit_less ≡ Point 3
unfolding auditing
exit_is_missed = refl

pub nothing_is_line_one : audited barrier [] ≡ Line 1
unfolding auditing
nothing_is_line_one = refl

pub line_is_missing : audited every_sharer_pays sharing_front ≡ Line 18
unfolding auditing
line_is_missing = refl

pub feed_is_missing : answer_to every_sharer_pays.names every_sharer_pays.trace (of_lines sharing_front ++ codes "p2 s") ≡ Line 18
unfolding auditing
feed_is_missing = refl
