use Rattle.k_run.proofs.command_line.program.Given as goal

-- the sink that was lent
abbrev pub ghosts-gathered_call : goal.ghosts-gathered_call
ghosts-gathered_call g a = record { name = a.out.ghost_name }
