use Rattle.std.specs.List.{All}
use Rattle.std.proofs.Common.{◌≡◌, ℕ, length, List, [], ◌∷◌, map, sym, ap, ◌∙◌, subst, arith}
use Rattle.std.proofs.lemmas.List.{length-map}
use Rattle.std.proofs.lemmas.List.Elements.{All-cons}
use Rattle.ab_term.specs.Substitution.{instance}
use Rattle.ab_unify.specs.Problem.{cell_read, cells_read}
use Rattle.ab_logic.specs.Worlds.{read, variable_of, declarations_of}
use Rattle.ab_formulas.specs.Sequents.{Sequent, assuming, without, over}
use Rattle.ab_formulas.specs.NewNames.{Names, IsNamedFor}
use Rattle.ab_logic.specs.SequentReadings.{sequent_of, HoldsSequent}
use Rattle.ab_logic.specs.declared.sequent.Sequent.{Sequent as Kept}
use Rattle.ab_logic.proofs.Growing.{grows_not, same_sequent, still_held}
use Rattle.ab_equations.specs.Labels.{label_of}
use Rattle.ab_norm.specs.Nominals.{nominal_of}
use Rattle.ab_norm.specs.ab_types.specs.Ids.{type_of}
use Rattle.ab_theory.specs.Rules.{IsSupport, raised, applied, hint_of}
use Rattle.ab_rules.proofs.eigenvariables.exists_left.Goals as goal

pub returns-in_err-names-clause-grows : goal.returns-in_err-names-clause-grows
returns-in_err-names-clause-grows g c = grows_not c.args.world.now c.requires.world

pub returns-clause-answers : goal.returns-clause-answers
returns-clause-answers g c =
    let w = c.args.world.now in
    let v = c.raise.new.world in
    let grown = c.raise.ensures.grows in
    let s = c.args.sequent.now in
    let names = c.deref.result.now in
    let name = c.in_ok-name.name in
    let F = c.in-Some.formula in
    let body = c.in-Some-as_exists.body in
    let support : IsSupport (read w F) (map (nominal_of w.types) names) =
    subst (λ ns. IsSupport (read w F) (map (nominal_of w.types) ns)) (sym c.deref.ensures.value) c.in_ok-names.ensures.support in
    let named : IsNamedFor (declarations_of w) (sequent_of w s) (hint_of (read w body)) name =
    subst (λ x. IsNamedFor (declarations_of w) (sequent_of w s) x name) c.in_ok-asked.ensures c.in_ok-name.ensures in
    let x = raised (length w.store.cells) name (type_of w.types c.in-Some-as_exists.ty) (map (nominal_of w.types) names) in
    let H = c.args.hypothesis.now in
    let first : Names (label_of c.args.given.now) (sequent_of w c.in_ok-copy_without.field-0) c.in-Some-2.named.name (sequent_of w c.in-Some-2.named.sequent) =
    rw c.in-Some-2.is at (c.in_ok-named.ensures.named w) in
    let labelled : Names (label_of c.args.given.now) (without H (sequent_of w s)) c.in-Some-2.named.name (sequent_of w c.in-Some-2.named.sequent) =
    subst (λ t. Names (label_of c.args.given.now) t c.in-Some-2.named.name (sequent_of w c.in-Some-2.named.sequent)) (c.in_ok-copy_without.ensures.reads w) first in
    let kept : HoldsSequent w c.in-Some-2.named.sequent = rw c.in-Some-2.is at (c.in_ok-named.ensures.held w (c.in_ok-copy_without.ensures.held w c.requires.held)) in
    let same : sequent_of v c.in-Some-2.named.sequent ≡ sequent_of w c.in-Some-2.named.sequent = same_sequent w v grown c.in-Some-2.named.sequent kept in
    let there : HoldsSequent v c.in-Some-2.named.sequent = still_held w v grown c.in-Some-2.named.sequent kept in
    let L = c.in-Some-2.named.name in
    let reads =
    c.in_ok-premise.ensures.reads v
    ∙ ap (assuming L (read v c.in_ok-made.made.formula)) (c.in_ok-over.ensures.reads v ∙ ap (over (variable_of v c.in_ok-made.made.cell)) same)
    ∙ ap (λ y. assuming L (read v c.in_ok-made.made.formula) (over y (sequent_of w c.in-Some-2.named.sequent))) c.in_ok-made.ensures.variable
    ∙ ap (λ t. assuming L t (over x (sequent_of w c.in-Some-2.named.sequent))) c.in_ok-made.ensures.reads in
    let now : ℕ → Sequent =
    λ n. assuming L (instance (read w body) (applied (raised n name (type_of w.types c.in-Some-as_exists.ty) (map (nominal_of w.types) names)) (map (nominal_of w.types) names)))
    (over (raised n name (type_of w.types c.in-Some-as_exists.ty) (map (nominal_of w.types) names)) (sequent_of w c.in-Some-2.named.sequent)) in
    let numbered : now (length w.store.cells) ≡ now (length (cells_read w.types w.store)) = ap now (sym (length-map w.store.cells (cell_read w.types))) in
    let held = c.in_ok-premise.ensures.held v (c.in_ok-over.ensures.held v there c.in_ok-made.ensures.cell) c.in_ok-made.ensures.formula in (
      (
        _,
        sym (c.in-Some.ensures.reads w),
        (
          _,
          sym c.in-Some-as_exists.ensures.reads,
          (
            _,
            _,
            labelled,
            ((map (nominal_of w.types) names, name), (support, named), ap (map (sequent_of v)) c.in_ok-one.ensures ∙ ap (λ q. q ∷ []) (reads ∙ numbered)),
          ),
        ),
      ),
      subst (λ (qs : List Kept). All (HoldsSequent v) qs) (sym c.in_ok-one.ensures) (All-cons (HoldsSequent v) c.in_ok-premise.premise [] held (λ k d l. absurd (omega arith))),
    )
