use Rattle.mb_explore.proofs.replayed.replay_report.Given as goal

abbrev pub ghosts-replay_as : goal.ghosts-replay_as
ghosts-replay_as g a = record { after = g.S.Setup.after a.setup.now; gives = g.S.Setup.gives a.setup.now }
