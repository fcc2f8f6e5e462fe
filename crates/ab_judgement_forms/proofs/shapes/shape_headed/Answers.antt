use Rattle.std.proofs.Common.{subst}
use Rattle.ab_norm.specs.ab_store.specs.Naming.{HeadIsTyped}
use Rattle.ab_judgement_forms.proofs.shapes.shape_headed.Goals as goal

pub returns-in-Logic-clause-typed : goal.returns-in-Logic-clause-typed
returns-in-Logic-clause-typed c = λ types typed. c.shape_by.ensures.typed types (subst (HeadIsTyped types) c.in-Logic.is typed)
