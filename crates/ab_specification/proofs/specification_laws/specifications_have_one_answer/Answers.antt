use Rattle.ab_specification.specs.FileDeclarations.{items_of}
use Rattle.ab_specification.proofs.OneSpecification as law
use Rattle.ab_specification.proofs.specification_laws.specifications_have_one_answer.Goals as goal

pub returns-clause-apart : goal.returns-clause-apart
returns-clause-apart g D files more r a b = law.all_or_first D (items_of files) more r a b

pub returns-clause-one_list : goal.returns-clause-one_list
returns-clause-one_list g D files more others a b = law.one_list D (items_of files) more others a b

pub returns-clause-one_refusal : goal.returns-clause-one_refusal
returns-clause-one_refusal g D files r q a b = law.one_first D (items_of files) r q a b
