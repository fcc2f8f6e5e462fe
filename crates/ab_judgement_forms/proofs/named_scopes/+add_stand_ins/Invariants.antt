use Rattle.std.proofs.Common.{◌-◌, length}
use Rattle.ab_judgement_forms.proofs.named_scopes.+add_stand_ins.Given as goal

abbrev pub decreases-add_stand_ins : goal.decreases-add_stand_ins
decreases-add_stand_ins l = length l.cells.now - l.place
