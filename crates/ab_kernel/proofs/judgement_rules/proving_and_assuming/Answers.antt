use Rattle.std.specs.List.{All}
use Rattle.std.proofs.Common.{◌≡◌, List, [], ◌∷◌, map, sym, ap, ◌∙◌, subst}
use Rattle.std.proofs.lemmas.List.Elements.{All-nil, All-cons}
use Rattle.ab_formulas.specs.NewNames.{Names}
use Rattle.ab_formulas.specs.Sequents.{Sequent, proving}
use Rattle.ab_logic.specs.Worlds.{read}
use Rattle.ab_logic.specs.SequentReadings.{sequent_of, HoldsSequent}
use Rattle.ab_logic.specs.declared.sequent.Sequent.{Sequent as Kept}
use Rattle.ab_rules.specs.RuleAnswers.{label_of}
use Rattle.ab_kernel.proofs.judgement_rules.proving_and_assuming.Goals as goal

pub returns : goal.returns
returns c =
    let w = c.args.world.now in
    let s = c.args.sequent.now in
    let one = c.in-Some.named in
    let start : sequent_of w c.in_ok-copy.field-0 ≡ sequent_of w s = ap (sequent_of w) c.in_ok-copy.ensures in
    let there : HoldsSequent w c.in_ok-copy.field-0 = subst (HoldsSequent w) (sym c.in_ok-copy.ensures) c.requires.held in
    let first : Names (label_of c.args.given.now) (sequent_of w c.in_ok-copy.field-0) one.name (sequent_of w one.sequent) = rw c.in-Some.is at (c.in_ok-named.ensures.named w) in
    let labelled : Names (label_of c.args.given.now) (sequent_of w s) one.name (sequent_of w one.sequent) =
    subst (λ t. Names (label_of c.args.given.now) t one.name (sequent_of w one.sequent)) start first in
    let kept : HoldsSequent w one.sequent = rw c.in-Some.is at (c.in_ok-named.ensures.held w there) in
    let assumed = c.in_ok-assumed.ensures.held w kept c.requires.second in
    let proved = c.with_conclusion-proved.ensures.held w (subst (HoldsSequent w) (sym c.in_ok-copy-2.ensures) c.requires.held) c.requires.first in
    let proves : sequent_of w c.with_conclusion-proved.result ≡ proving (read w c.args.first) (sequent_of w s) =
    c.with_conclusion-proved.ensures.reads w ∙ ap (proving (read w c.args.first)) (ap (sequent_of w) c.in_ok-copy-2.ensures) in (
      (
        _,
        _,
        labelled,
        ap (map (sequent_of w)) c.in_ok-two.ensures
            ∙ ap (λ (q : Sequent). q ∷ sequent_of w c.in_ok-assumed.assumed ∷ []) proves
            ∙ ap (λ (q : Sequent). proving (read w c.args.first) (sequent_of w s) ∷ q ∷ []) (c.in_ok-assumed.ensures.reads w),
      ),
      subst (λ (qs : List Kept). All (HoldsSequent w) qs) (sym c.in_ok-two.ensures)
          (All-cons (HoldsSequent w) c.with_conclusion-proved.result (c.in_ok-assumed.assumed ∷ []) proved
          (All-cons (HoldsSequent w) c.in_ok-assumed.assumed [] assumed (All-nil (HoldsSequent w)))),
    )
