use Rattle.mb_explore.proofs.search.explore.Given as goal

abbrev pub ghosts-explore_as : goal.ghosts-explore_as
ghosts-explore_as g a = record { after = g.S.Setup.after a.setup.now; gives = g.S.Setup.gives a.setup.now }
