use Rattle.ab_search_layers.proofs.Closing.{all_shown}
use Rattle.ab_search_layers.proofs.laws.closing_steps_prove.Goals as goal

pub returns : goal.returns
returns c = λ D gs es p. all_shown D p
