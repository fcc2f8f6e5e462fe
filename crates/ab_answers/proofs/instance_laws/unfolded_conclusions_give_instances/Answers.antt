use Rattle.ab_answers.proofs.Instances.{unfolded_instance}
use Rattle.ab_answers.proofs.instance_laws.unfolded_conclusions_give_instances.Goals as goal

pub returns : goal.returns
returns c = λ D definitions s is d is_atom cells are. unfolded_instance D definitions s is d is_atom cells are
