use Rattle.std.proofs.Common.{◌≡◌, Option, Some, sym, ◌∙◌, subst}
use Rattle.std.specs.Prelude.{if◌then◌else◌}
use Rattle.ab_term.specs.Terms.{Read}
use Rattle.ab_formulas.specs.Forms.{form_of}
use Rattle.ab_formulas.specs.Sequents.{without}
use Rattle.ab_effects.specs.Row as effects
use Rattle.ab_effects.specs.ProofCommands.{cases}
use Rattle.ab_case_coverage.proofs.CaseCover.{case_covered}
use Rattle.ab_case_coverage.proofs.laws.case_covers_hypotheses.Goals as goal

one : {F G : Read} {o : Option Read} → o ≡ Some F → o ≡ Some G → F ≡ G
one {F = F} {G = G} e f = let whole : Some F ≡ Some G = sym e ∙ f in cc

pub returns : goal.returns
returns c = λ D definitions programs has l H keep s F us is e leads q typed clean.
    case_covered D definitions programs has l H s F is e q typed clean keep us
    (subst (λ G. effects.Leads (cases D (form_of G) G l s (if keep then s else without H s)) us) (one leads.1.1 e) leads.1.2)
