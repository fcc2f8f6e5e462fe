use Rattle.ab_infer.proofs.Unbound.{normal_reads}
use Rattle.ab_infer.proofs.reading_laws.terms_read_as_normal_forms.Goals as goal

pub returns : goal.returns
returns c = λ types store e A t k n. normal_reads store types e A t k n
