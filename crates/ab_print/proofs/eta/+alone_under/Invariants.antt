use Rattle.ab_print.proofs.eta.+alone_under.Given as goal

abbrev pub decreases-alone_under : goal.decreases-alone_under
decreases-alone_under l = l.id.0
