use Rattle.std.specs.Prelude.{reverse, Some}
use Rattle.std.proofs.Common.{◌≡◌, ◌∷◌, [], ◌++◌, sym, ◌∙◌, ap, subst, None}
use Rattle.std.proofs.lemmas.List.{reverse-append}
use Rattle.ab_logic.specs.SequentReadings.{sequent_of}
use Rattle.ab_formulas.specs.Sequents.{formula_of}
use Rattle.ab_logic.specs.declared.sequent.Hypothesis.{Hypothesis}
use Rattle.ab_equations.specs.Labels.{label_of}
use Rattle.ab_steps.proofs.Following.{follows_not, found}
use Rattle.ab_formulas.specs.NewNames.{given}
use Rattle.ab_theory.specs.Steps.{and_left}
use Rattle.ab_steps.specs.Progress.{Holds as Sure}
use Rattle.ab_hypothesis.proofs.Goes.{both_sure, both_goes}
use Rattle.ab_hypothesis.proofs.openings.open_both.Goals as goal

pub surely-requires-clause-sure : goal.surely-requires-clause-sure
surely-requires-clause-sure g c =
    let w = c.args.world.now in
    let p = c.args.proof.now in
    let pending = c.requires.pending in
    let both : Some (sequent_of w c.in-Some.goal.now) ≡ Some pending.goal = c.in-Some.ensures.reads w ∙ found w p c.args.place pending.before pending.behind pending.goal pending.at in
    let same : sequent_of w c.in-Some.goal.now ≡ pending.goal = cc in
    let y = c.in_ok-other.other in
    let new : formula_of pending.goal y ≡ None = ap (λ s. formula_of s y) (sym same) ∙ c.in_ok-other.ensures.new w in
    subst (λ z. Sure w p c.args.place (and_left c.in_ok-name.name (given c.in_ok-left.left) (given z))) (sym c.in_ok-right.ensures)
    (both_sure w w p p c.args.place (label_of c.args.label.now) c.args.top (reverse c.args.pending.now.items) (follows_not w p c.requires.world c.requires.proof) pending
    c.args.parts.0 c.args.parts.1 c.in_ok-name.name c.in_ok-left.left y c.requires.form c.in_ok-name.ensures c.in_ok-left.ensures new)

pub returns-clause-goes : goal.returns-clause-goes
returns-clause-goes g c =
    let w = c.args.world.now in
    let p = c.args.proof.now in
    let pending = c.requires.pending in
    let both : Some (sequent_of w c.in-Some.goal.now) ≡ Some pending.goal = c.in-Some.ensures.reads w ∙ found w p c.args.place pending.before pending.behind pending.goal pending.at in
    let same : sequent_of w c.in-Some.goal.now ≡ pending.goal = cc in
    let y = c.in_ok-other.other in
    let new : formula_of pending.goal y ≡ None = ap (λ s. formula_of s y) (sym same) ∙ c.in_ok-other.ensures.new w in
    let old = c.args.pending.now.items in
    let one : Hypothesis = record { name = y; formula = c.args.parts.1 } in
    let two : Hypothesis = record { name = c.args.top.name; formula = c.args.parts.0 } in
    both_goes w c.surely.new.world p c.surely.new.proof c.args.place (label_of c.args.label.now) c.args.top (reverse old) c.surely.ensures.follows pending
    c.args.parts.0 c.args.parts.1 c.in_ok-name.name c.in_ok-left.left y c.in_ok-right.right _ c.requires.form c.in_ok-name.ensures c.in_ok-left.ensures c.in_ok-right.ensures
    new c.in_ok-other.ensures.own c.requires.parts.0 c.requires.parts.1
    (ap reverse (c.in_ok-push-2.ensures.items ∙ ap (λ xs. xs ++ two ∷ []) c.in_ok-push.ensures.items)
    ∙ reverse-append (old ++ one ∷ []) (two ∷ []) ∙ ap (λ xs. two ∷ xs) (reverse-append old (one ∷ [])))
    c.in_ok-surely.ensures.took
