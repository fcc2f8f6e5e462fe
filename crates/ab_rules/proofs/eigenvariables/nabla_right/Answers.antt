use Rattle.std.specs.List.{All}
use Rattle.std.proofs.Common.{◌≡◌, List, [], ◌∷◌, map, sym, ap, ◌∙◌, subst, arith}
use Rattle.std.proofs.lemmas.List.Elements.{All-cons, Contains-append_left}
use Rattle.ab_logic.specs.Worlds.{read}
use Rattle.ab_formulas.specs.Sequents.{proving}
use Rattle.ab_logic.specs.SequentReadings.{sequent_of, HoldsSequent}
use Rattle.ab_logic.specs.declared.sequent.Sequent.{Sequent as Kept}
use Rattle.ab_logic.proofs.Growing.{same_sequent, still_held}
use Rattle.ab_rules.proofs.eigenvariables.nabla_right.Goals as goal

pub least_name-requires-clause-among : goal.least_name-requires-clause-among
least_name-requires-clause-among g c a there = Contains-append_left _ _ a there

pub returns-clause-answers : goal.returns-clause-answers
returns-clause-answers g c =
    let w = c.args.world.now in
    let v = c.with_name.new.world in
    let grown = c.with_name.ensures.adds.grows in
    let s = c.args.sequent.now in
    let start : sequent_of v c.in_ok-premise.premise ≡ sequent_of w s = ap (sequent_of v) c.in_ok-premise.ensures ∙ same_sequent w v grown s c.requires.held in
    let there : HoldsSequent v c.in_ok-premise.premise = subst (HoldsSequent v) (sym c.in_ok-premise.ensures) (still_held w v grown s c.requires.held) in
    let reads =
    c.with_conclusion-premise.ensures.reads v
    ∙ ap (proving (read v c.in_ok-formula.formula)) start
    ∙ ap (λ t. proving t (sequent_of w s)) c.in_ok-formula.ensures.reads in
    let held = c.with_conclusion-premise.ensures.held v there c.in_ok-formula.ensures.held in (
      (_, sym c.in-Some.ensures.reads, (c.in_ok-number.number, c.in_ok-number.ensures, ap (map (sequent_of v)) c.in_ok-one.ensures ∙ ap (λ q. q ∷ []) reads)),
      subst (λ (qs : List Kept). All (HoldsSequent v) qs) (sym c.in_ok-one.ensures) (All-cons (HoldsSequent v) c.with_conclusion-premise.result [] held (λ k d l. absurd (omega arith))),
    )
