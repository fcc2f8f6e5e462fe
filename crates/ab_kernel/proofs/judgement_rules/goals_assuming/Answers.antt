use Rattle.std.specs.List.{All}
use Rattle.std.proofs.Common.{◌≡◌, List, [], ◌∷◌, map, sym, ap, ◌∙◌, subst}
use Rattle.std.proofs.lemmas.List.Elements.{All-nil, All-cons}
use Rattle.ab_formulas.specs.NewNames.{Names}
use Rattle.ab_logic.specs.SequentReadings.{sequent_of, HoldsSequent}
use Rattle.ab_logic.specs.declared.sequent.Sequent.{Sequent as Kept}
use Rattle.ab_rules.specs.RuleAnswers.{label_of}
use Rattle.ab_kernel.proofs.judgement_rules.goals_assuming.Goals as goal

pub returns : goal.returns
returns c =
    let w = c.args.world.now in
    let one = c.in-Some.named in
    let start : sequent_of w c.in_ok-copy.field-0 ≡ sequent_of w c.args.sequent.now = ap (sequent_of w) c.in_ok-copy.ensures in
    let there : HoldsSequent w c.in_ok-copy.field-0 = subst (HoldsSequent w) (sym c.in_ok-copy.ensures) c.requires.held in
    let first : Names (label_of c.args.given.now) (sequent_of w c.in_ok-copy.field-0) one.name (sequent_of w one.sequent) = rw c.in-Some.is at (c.in_ok-named.ensures.named w) in
    let labelled : Names (label_of c.args.given.now) (sequent_of w c.args.sequent.now) one.name (sequent_of w one.sequent) =
    subst (λ t. Names (label_of c.args.given.now) t one.name (sequent_of w one.sequent)) start first in
    let kept : HoldsSequent w one.sequent = rw c.in-Some.is at (c.in_ok-named.ensures.held w there) in
    let held = c.in_ok-premise.ensures.held w kept c.requires.formula in (
      (_, _, labelled, ap (map (sequent_of w)) c.in_ok-one.ensures ∙ ap (λ q. q ∷ []) (c.in_ok-premise.ensures.reads w)),
      subst (λ (qs : List Kept). All (HoldsSequent w) qs) (sym c.in_ok-one.ensures) (All-cons (HoldsSequent w) c.in_ok-premise.premise [] held (All-nil (HoldsSequent w))),
    )
