use Rattle.ab_store.proofs.Putting.{read_typed}
use Rattle.ab_store.proofs.laws.terms_read_typed.Goals as goal

pub returns : goal.returns
returns c = λ types store typed G t A is. read_typed types store typed G t A is.1
