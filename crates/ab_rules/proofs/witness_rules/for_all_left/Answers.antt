use Rattle.std.specs.List.{All}
use Rattle.std.proofs.Common.{◌≡◌, List, [], ◌∷◌, map, refl, inl, inr, sym, ap, ◌∙◌, subst, arith}
use Rattle.std.proofs.lemmas.List.Elements.{All-cons}
use Rattle.ab_logic.specs.Worlds.{read}
use Rattle.ab_formulas.specs.Sequents.{assuming}
use Rattle.ab_formulas.specs.NewNames.{Names}
use Rattle.ab_logic.specs.SequentReadings.{sequent_of, HoldsSequent}
use Rattle.ab_logic.specs.declared.sequent.Sequent.{Sequent as Kept}
use Rattle.ab_logic.proofs.Growing.{same_sequent, still_held}
use Rattle.ab_equations.specs.Labels.{label_of}
use Rattle.ab_rules.proofs.witness_rules.for_all_left.Goals as goal

pub returns-then-not-fits-clause-answers : goal.returns-then-not-fits-clause-answers
returns-then-not-fits-clause-answers g c =
    let w = c.args.world.now in
    inr (
      _,
      sym (c.in-Some.ensures.reads w),
      inr (_, sym c.in-Some-as_forall.ensures.reads, inl (λ f. let yes = c.in_ok-fits.ensures.1 f in let no = c.if-not-fits.true in cc, refl)),
    )

pub returns-clause-answers : goal.returns-clause-answers
returns-clause-answers g c =
    let w = c.args.world.now in
    let v = c.instance_of.new.world in
    let grown = c.instance_of.ensures.adds.grows in
    let s = c.args.sequent.now in
    let one = c.in-Some-2.named in
    let start : sequent_of w c.in_ok-copy.field-0 ≡ sequent_of w s = ap (sequent_of w) c.in_ok-copy.ensures in
    let there : HoldsSequent w c.in_ok-copy.field-0 = subst (HoldsSequent w) (sym c.in_ok-copy.ensures) c.requires.held in
    let first : Names (label_of c.args.given.now) (sequent_of w c.in_ok-copy.field-0) one.name (sequent_of w one.sequent) =
    rw c.in-Some-2.is at (c.in_ok-named.ensures.named w) in
    let labelled : Names (label_of c.args.given.now) (sequent_of w s) one.name (sequent_of w one.sequent) =
    subst (λ t. Names (label_of c.args.given.now) t one.name (sequent_of w one.sequent)) start first in
    let kept : HoldsSequent w one.sequent = rw c.in-Some-2.is at (c.in_ok-named.ensures.held w there) in
    let same : sequent_of v one.sequent ≡ sequent_of w one.sequent = same_sequent w v grown one.sequent kept in
    let reads =
    c.in_ok-premise.ensures.reads v
    ∙ ap (assuming one.name (read v c.in_ok-made.made)) same
    ∙ ap (λ t. assuming one.name t (sequent_of w one.sequent)) c.in_ok-made.ensures.reads in
    let held = c.in_ok-premise.ensures.held v (still_held w v grown one.sequent kept) c.in_ok-made.ensures.held in (
      (
        _,
        sym (c.in-Some.ensures.reads w),
        (
          _,
          sym c.in-Some-as_forall.ensures.reads,
          (
            c.in_ok-fits.ensures.0 c.if-not-fits.false,
            (_, _, labelled, ap (map (sequent_of v)) c.in_ok-one.ensures ∙ ap (λ q. q ∷ []) reads),
          ),
        ),
      ),
      subst (λ (qs : List Kept). All (HoldsSequent v) qs) (sym c.in_ok-one.ensures) (All-cons (HoldsSequent v) c.in_ok-premise.premise [] held (λ k d l. absurd (omega arith))),
    )
