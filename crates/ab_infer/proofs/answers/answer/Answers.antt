use Rattle.std.proofs.Common.{refl}
use Rattle.ab_infer.proofs.answers.answer.Goals as goal

pub returns-in-One : goal.returns-in-One
returns-in-One c = λ types store e A h. (e, refl, rw c.in-One.is at h)

pub returns-in-Nothing : goal.returns-in-Nothing
returns-in-Nothing c = λ types store e A h. (e, refl, (rw c.in-Nothing.is at h, refl))

pub returns-in-Open : goal.returns-in-Open
returns-in-Open c = λ types store e A h. (e, refl, rw c.in-Open.is at h)
