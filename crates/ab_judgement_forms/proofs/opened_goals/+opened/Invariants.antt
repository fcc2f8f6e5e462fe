use Rattle.ab_judgement_forms.proofs.opened_goals.+opened.Given as goal

abbrev pub decreases-open : goal.decreases-open
decreases-open l = l.goal.0

abbrev pub decreases-open_under : goal.decreases-open_under
decreases-open_under l = l.abstraction.0
