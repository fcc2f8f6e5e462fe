use Rattle.std.specs.List.{All}
use Rattle.std.proofs.Common.{◌≡◌, List, [], ◌∷◌, map, sym, ap, ◌∙◌, subst, arith}
use Rattle.std.proofs.lemmas.List.Elements.{All-cons}
use Rattle.ab_logic.specs.Worlds.{read}
use Rattle.ab_formulas.specs.Sequents.{assuming, without}
use Rattle.ab_formulas.specs.NewNames.{Names}
use Rattle.ab_logic.specs.SequentReadings.{sequent_of, HoldsSequent}
use Rattle.ab_logic.specs.declared.sequent.Sequent.{Sequent as Kept}
use Rattle.ab_logic.proofs.Growing.{same_sequent, still_held}
use Rattle.ab_equations.specs.Labels.{label_of}
use Rattle.ab_rules.proofs.Chosen.{in_goal}
use Rattle.ab_rules.proofs.eigenvariables.nabla_left.Goals as goal

pub least_name-requires-clause-among : goal.least_name-requires-clause-among
least_name-requires-clause-among g c a there =
    let w = c.args.world.now in
    in_goal (sequent_of w c.args.sequent.now) c.args.hypothesis.now (read w c.in-Some.formula) (sym (c.in-Some.ensures.reads w)) a there

pub returns-clause-answers : goal.returns-clause-answers
returns-clause-answers g c =
    let w = c.args.world.now in
    let v = c.with_name.new.world in
    let grown = c.with_name.ensures.adds.grows in
    let s = c.args.sequent.now in
    let H = c.args.hypothesis.now in
    let first : Names (label_of c.args.given.now) (sequent_of w c.in_ok-copy_without.field-0) c.in-Some-2.named.name (sequent_of w c.in-Some-2.named.sequent) =
    rw c.in-Some-2.is at (c.in_ok-named.ensures.named w) in
    let labelled : Names (label_of c.args.given.now) (without H (sequent_of w s)) c.in-Some-2.named.name (sequent_of w c.in-Some-2.named.sequent) =
    subst (λ t. Names (label_of c.args.given.now) t c.in-Some-2.named.name (sequent_of w c.in-Some-2.named.sequent)) (c.in_ok-copy_without.ensures.reads w) first in
    let kept : HoldsSequent w c.in-Some-2.named.sequent = rw c.in-Some-2.is at (c.in_ok-named.ensures.held w (c.in_ok-copy_without.ensures.held w c.requires.held)) in
    let same : sequent_of v c.in-Some-2.named.sequent ≡ sequent_of w c.in-Some-2.named.sequent = same_sequent w v grown c.in-Some-2.named.sequent kept in
    let there : HoldsSequent v c.in-Some-2.named.sequent = still_held w v grown c.in-Some-2.named.sequent kept in
    let L = c.in-Some-2.named.name in
    let reads =
    c.in_ok-premise.ensures.reads v
    ∙ ap (assuming L (read v c.in_ok-made.made)) same
    ∙ ap (λ t. assuming L t (sequent_of w c.in-Some-2.named.sequent)) c.in_ok-made.ensures.reads in
    let held = c.in_ok-premise.ensures.held v there c.in_ok-made.ensures.held in (
      (
        _,
        sym (c.in-Some.ensures.reads w),
        (
          _,
          sym c.in-Some-as_nabla.ensures.reads,
          (
            _,
            _,
            labelled,
            (c.in_ok-number.number, c.in_ok-number.ensures, ap (map (sequent_of v)) c.in_ok-one.ensures ∙ ap (λ q. q ∷ []) reads),
          ),
        ),
      ),
      subst (λ (qs : List Kept). All (HoldsSequent v) qs) (sym c.in_ok-one.ensures) (All-cons (HoldsSequent v) c.in_ok-premise.premise [] held (λ k d l. absurd (omega arith))),
    )
