use Rattle.std.proofs.Common.{◌≡◌, Some, None, [], sym, ◌∙◌, ap, subst}
use Rattle.ab_formulas.specs.Forms.{form_of}
use Rattle.ab_logic.specs.SequentReadings.{sequent_of}
use Rattle.ab_formulas.specs.Sequents.{Sequent}
use Rattle.ab_logic.specs.Worlds.{declarations_of}
use Rattle.ab_effects.specs.ProofCommands.{introducing, clashing_names}
use Rattle.ab_effects.specs.Introductions.{taken_off}
use Rattle.ab_steps.specs.ProofEffects.{RefusedBy}
use Rattle.ab_conclusion.proofs.Introduces.{refused_so}
use Rattle.ab_conclusion.proofs.introductions.intros.Goals as goal

pub returns-in-Err-clause-refused : goal.returns-in-Err-clause-refused
returns-in-Err-clause-refused g c fault same l s rest e =
    let w = c.args.world.now in
    let xs = c.args.names.now in
    let goal : sequent_of w c.first_goal-goal.result.now ≡ s = c.first_goal-goal.ensures.reads s rest e in
    let free : None ≡ clashing_names [] xs (sequent_of w c.first_goal-goal.result.now) = rw c.in_default.is at (c.in_ok-place.ensures.first w) in
    let begins : taken_off (form_of (sequent_of w c.first_goal-goal.result.now).conclusion) ≡ Some tt =
    ap taken_off (sym c.shape.ensures.reads) ∙ c.begins.ensures.yes w c.if-not-begins.false in
    let is : c.in-Err.fault ≡ fault = cc in
    refused_so (declarations_of w) l xs s fault
    (subst (λ (t : Sequent). clashing_names [] xs t ≡ None) goal (sym free))
    (subst (λ (t : Sequent). taken_off (form_of t.conclusion) ≡ Some tt) goal begins)
    (subst (RefusedBy (introducing (declarations_of w) xs s)) is (c.introduce.ensures.refused c.in-Err.fault c.in-Err.is s rest e))
