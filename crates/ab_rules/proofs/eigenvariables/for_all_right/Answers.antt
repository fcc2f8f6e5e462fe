use Rattle.std.specs.List.{All}
use Rattle.std.proofs.Common.{◌≡◌, ℕ, length, List, [], ◌∷◌, map, sym, ap, ◌∙◌, subst, arith}
use Rattle.std.proofs.lemmas.List.{length-map}
use Rattle.std.proofs.lemmas.List.Elements.{All-cons}
use Rattle.ab_term.specs.Substitution.{instance}
use Rattle.ab_unify.specs.Problem.{cell_read, cells_read}
use Rattle.ab_norm.specs.Nominals.{nominal_of}
use Rattle.ab_formulas.specs.NewNames.{IsNamedFor}
use Rattle.ab_logic.specs.Worlds.{read, variable_of, declarations_of}
use Rattle.ab_formulas.specs.Sequents.{Sequent, proving, over}
use Rattle.ab_logic.specs.SequentReadings.{sequent_of, HoldsSequent}
use Rattle.ab_logic.specs.declared.sequent.Sequent.{Sequent as Kept}
use Rattle.ab_theory.specs.Rules.{IsSupport, raised, applied, hint_of}
use Rattle.ab_norm.specs.ab_types.specs.Ids.{type_of}
use Rattle.ab_logic.proofs.Growing.{same_sequent, still_held}
use Rattle.ab_rules.proofs.eigenvariables.for_all_right.Goals as goal

pub returns-clause-answers : goal.returns-clause-answers
returns-clause-answers g c =
    let w = c.args.world.now in
    let v = c.raise.new.world in
    let grown = c.raise.ensures.grows in
    let s = c.args.sequent.now in
    let names = c.deref.result.now in
    let hint = c.in_ok-asked.asked in
    let name = c.in_ok-name.name in
    let support : IsSupport (read w s.conclusion) (map (nominal_of w.types) names) =
    subst (λ ns. IsSupport (read w s.conclusion) (map (nominal_of w.types) ns)) (sym c.deref.ensures.value) c.in_ok-names.ensures.support in
    let named : IsNamedFor (declarations_of w) (sequent_of w s) (hint_of (read w c.in-Some.body)) name =
    subst (λ x. IsNamedFor (declarations_of w) (sequent_of w s) x name) c.in_ok-asked.ensures c.in_ok-name.ensures in
    let x = raised (length w.store.cells) name (type_of w.types c.in-Some.ty) (map (nominal_of w.types) names) in
    let start : sequent_of v c.in_ok-premise.premise ≡ sequent_of w s = ap (sequent_of v) c.in_ok-premise.ensures ∙ same_sequent w v grown s c.requires.held in
    let there : HoldsSequent v c.in_ok-premise.premise = subst (HoldsSequent v) (sym c.in_ok-premise.ensures) (still_held w v grown s c.requires.held) in
    let reads =
    c.with_conclusion-premise.ensures.reads v
    ∙ ap (proving (read v c.in_ok-made.made.formula)) (c.in_ok-over.ensures.reads v ∙ ap (over (variable_of v c.in_ok-made.made.cell)) start)
    ∙ ap (λ y. proving (read v c.in_ok-made.made.formula) (over y (sequent_of w s))) c.in_ok-made.ensures.variable
    ∙ ap (λ t. proving t (over x (sequent_of w s))) c.in_ok-made.ensures.reads in
    let now : ℕ → Sequent =
    λ n. proving (instance (read w c.in-Some.body) (applied (raised n name (type_of w.types c.in-Some.ty) (map (nominal_of w.types) names)) (map (nominal_of w.types) names)))
    (over (raised n name (type_of w.types c.in-Some.ty) (map (nominal_of w.types) names)) (sequent_of w s)) in
    let numbered : now (length w.store.cells) ≡ now (length (cells_read w.types w.store)) = ap now (sym (length-map w.store.cells (cell_read w.types))) in
    let held = c.with_conclusion-premise.ensures.held v (c.in_ok-over.ensures.held v there c.in_ok-made.ensures.cell) c.in_ok-made.ensures.formula in (
      (_, sym c.in-Some.ensures.reads, ((map (nominal_of w.types) names, name), (support, named), ap (map (sequent_of v)) c.in_ok-one.ensures ∙ ap (λ q. q ∷ []) (reads ∙ numbered))),
      subst (λ (qs : List Kept). All (HoldsSequent v) qs) (sym c.in_ok-one.ensures) (All-cons (HoldsSequent v) c.with_conclusion-premise.result [] held (λ k d l. absurd (omega arith))),
    )
