use Rattle.run.proofs.find.+resolve.Given as goal

abbrev pub decreases-resolve : goal.decreases-resolve
decreases-resolve l = l.scope.count
