use Rattle.ab_judgement_forms.proofs.cut_lists.+without_item.Given as goal

abbrev pub decreases-without_item : goal.decreases-without_item
decreases-without_item l = l.list.0
