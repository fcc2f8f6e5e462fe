use Rattle.ab_typing.proofs.heads.+is_head.Given as goal

abbrev pub decreases-is_head : goal.decreases-is_head
decreases-is_head l = l.id.0
