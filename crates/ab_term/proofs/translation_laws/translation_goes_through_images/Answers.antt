use Rattle.ab_term.proofs.ImageTranslations.{translate-image}
use Rattle.ab_term.proofs.translation_laws.translation_goes_through_images.Goals as goal

pub returns : goal.returns
returns g c = λ f h same same_new agree s t. translate-image f h same same_new agree s t
