use Rattle.ab_judgement_forms.proofs.focus_parts.+taken.Given as goal

abbrev pub decreases-add_parts : goal.decreases-add_parts
decreases-add_parts l = l.formula.0

abbrev pub decreases-add_parts_under : goal.decreases-add_parts_under
decreases-add_parts_under l = l.abstraction.0
