use Rattle.k_commit.proofs.Meetings.{heap_stepped, other_stepped}
use Rattle.k_commit.proofs.laws.steps_began_before_the_meeting.Goals as goal

pub returns-clause-alone : goal.returns-clause-alone
returns-clause-alone c = λ trace op v cell w b book l event met h. heap_stepped trace op v cell w b book l event met h

pub returns-clause-beside : goal.returns-clause-beside
returns-clause-beside c = λ trace op v cell w o other x b book last l event met second h.
    other_stepped trace op v cell w b book l event met o other x last second h
