use Rattle.ab_patterns.proofs.names.+inner_head.Given as goal

abbrev pub decreases-inner_head : goal.decreases-inner_head
decreases-inner_head l = l.term.0
