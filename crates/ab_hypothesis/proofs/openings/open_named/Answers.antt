use Rattle.std.specs.Prelude.{[]}
use Rattle.std.proofs.Common.{◌≡◌, ◌∷◌, List, ℕ, Some, sym, ◌∙◌, subst}
use Rattle.ab_term.specs.Terms.{Read}
use Rattle.ab_formulas.specs.Sequents.{without}
use Rattle.ab_logic.specs.Worlds.{read, declarations_of}
use Rattle.ab_equations.specs.Labels.{label_of}
use Rattle.ab_effects.specs.Openings.{Nameless}
use Rattle.ab_hypothesis.specs.OwnNames.{IsOwn}
use Rattle.ab_hypothesis.specs.HypothesisProgress.{HasAt, OpenedTo}
use Rattle.ab_hypothesis.proofs.Moves.{on_ok}
use Rattle.ab_hypothesis.proofs.openings.open_named.Goals as goal

pub open_one-requires-clause-there : goal.open_one-requires-clause-there
open_one-requires-clause-there g c =
    let w = c.args.world.now in
    let p = c.args.proof.now in
    let there = c.requires.there.1 in
    let F = read w c.formula_at-formula.result in
    subst (λ x. HasAt w p c.args.place x F) (sym c.in_ok-name.ensures)
    (record {
      before = there.before;
      behind = there.behind;
      goal = there.goal;
      at = there.at;
      has = c.formula_at-formula.ensures.reads there.before there.behind there.goal there.at;
    })

pub open_one-requires-clause-own : goal.open_one-requires-clause-own
open_one-requires-clause-own g c = subst (IsOwn (label_of c.args.label.now)) (sym c.in_ok-name.ensures) c.requires.own

pub returns-clause-opened : goal.returns-clause-opened
returns-clause-opened g c =
    let w = c.args.world.now in
    let D = declarations_of w in
    let l = label_of c.args.label.now in
    let own = c.args.own.now in
    let v = c.open_one.new.world in
    let q = c.open_one.new.proof in
    on_ok c.open_one.result
    (λ opens before behind k F at has.
    let G = read w c.formula_at-formula.result in
    let both : Some G ≡ Some F = sym (c.formula_at-formula.ensures.reads before behind k at) ∙ has in
    let same : G ≡ F = cc in
    subst (λ E. OpenedTo D (E ∷ []) l (without own k) v q c.args.place before behind) same
    (subst (λ (x : List ℕ). OpenedTo D (G ∷ []) l (without x k) v q c.args.place before behind) c.in_ok-name.ensures (opens before behind k at)))
    c.open_one.ensures.opened

pub returns-clause-stopped : goal.returns-clause-stopped
returns-clause-stopped g c spent before behind k F at has =
    let w = c.args.world.now in
    let D = declarations_of w in
    let l = label_of c.args.label.now in
    let own = c.args.own.now in
    let G = read w c.formula_at-formula.result in
    let both : Some G ≡ Some F = sym (c.formula_at-formula.ensures.reads before behind k at) ∙ has in
    let same : G ≡ F = cc in
    subst (λ E. Nameless D (E ∷ []) l (without own k)) same
    (subst (λ (x : List ℕ). Nameless D (G ∷ []) l (without x k)) c.in_ok-name.ensures (c.open_one.ensures.stopped spent before behind k at))
