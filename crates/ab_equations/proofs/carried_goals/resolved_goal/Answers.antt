use Rattle.std.specs.List.{All}
use Rattle.std.proofs.Common.{map, refl, sym, ap, subst, ◌∙◌}
use Rattle.ab_norm.specs.ab_store.specs.Trees.{Holds}
use Rattle.ab_logic.specs.declared.sequent.Hypothesis.{Hypothesis}
use Rattle.ab_equations.specs.Meanwhile.{unbound_of, hypothesis_at, hypothesis_read}
use Rattle.ab_norm.proofs.Frame.{adds_on}
use Rattle.ab_equations.proofs.Going.{goes_terms}
use Rattle.ab_equations.proofs.PuttingIn.{put_in_held, is_put_in}
use Rattle.ab_equations.proofs.carried_goals.resolved_goal.Goals as goal

pub returns-in_err-hypotheses-clause-goes : goal.returns-in_err-hypotheses-clause-goes
returns-in_err-hypotheses-clause-goes g c = goes_terms c.args.world.now.types c.args.world.now.store c.resolved_hypotheses.new.store c.args.world.now.additions c.requires.world.typed c.resolved_hypotheses.ensures.adds

pub copy_resolved-requires-clause-store : goal.copy_resolved-requires-clause-store
copy_resolved-requires-clause-store g c = c.resolved_hypotheses.ensures.adds.typed c.args.world.now.types c.requires.world.typed

pub returns-in_err-conclusion-clause-goes : goal.returns-in_err-conclusion-clause-goes
returns-in_err-conclusion-clause-goes g c =
    goes_terms c.args.world.now.types c.args.world.now.store c.copy_resolved.new.store c.args.world.now.additions c.requires.world.typed (adds_on _ _ _ c.resolved_hypotheses.ensures.adds c.copy_resolved.ensures.adds)

pub returns-clause-goes : goal.returns-clause-goes
returns-clause-goes g c =
    goes_terms c.args.world.now.types c.args.world.now.store c.copy_resolved.new.store c.args.world.now.additions c.requires.world.typed (adds_on _ _ _ c.resolved_hypotheses.ensures.adds c.copy_resolved.ensures.adds)

pub returns-clause-held : goal.returns-clause-held
returns-clause-held g c =
    let w = c.args.world.now in
    let hs = c.in_ok-hypotheses.hypotheses.items in
    let held : All (λ (h : Hypothesis). Holds c.resolved_hypotheses.new.store h.formula) c.from_vec-2.result = subst (All (λ (h : Hypothesis). Holds c.resolved_hypotheses.new.store h.formula)) (sym c.from_vec-2.ensures) c.in_ok-hypotheses.ensures.held in
    put_in_held w.types w.store c.resolved_hypotheses.new.store c.copy_resolved.new.store w.additions c.args.goal.now c.resolved_hypotheses.ensures.adds c.copy_resolved.ensures.adds
    c.from_vec.result c.from_vec-2.result c.in_ok-conclusion.conclusion c.args.goal.now.counter
    (c.from_vec.ensures ∙ c.in_ok-variables.ensures ∙ ap (unbound_of w.store) c.as_slice.ensures) held c.in_ok-conclusion.ensures.held c.requires.goal.variables

pub returns-clause-put_in : goal.returns-clause-put_in
returns-clause-put_in g c =
    let w = c.args.world.now in
    let hs = c.in_ok-hypotheses.hypotheses.items in
    let mid = c.resolved_hypotheses.new.store in
    let held : All (λ (h : Hypothesis). Holds mid h.formula) c.from_vec-2.result = subst (All (λ (h : Hypothesis). Holds mid h.formula)) (sym c.from_vec-2.ensures) c.in_ok-hypotheses.ensures.held in
    is_put_in w.types w.store mid c.copy_resolved.new.store w.additions c.args.goal.now c.resolved_hypotheses.ensures.adds c.copy_resolved.ensures.adds
    c.from_vec.result c.from_vec-2.result c.in_ok-conclusion.conclusion c.args.goal.now.counter
    (c.from_vec.ensures ∙ c.in_ok-variables.ensures ∙ ap (unbound_of w.store) c.as_slice.ensures) held c.in_ok-conclusion.ensures.held c.requires.goal refl
    (ap (map (hypothesis_at w.types mid)) c.from_vec-2.ensures ∙ c.in_ok-hypotheses.ensures.reads ∙ ap (map (hypothesis_read w.types w.store)) c.as_slice-2.ensures)
    c.in_ok-conclusion.ensures.tree

pub returns-in_err-hypotheses-clause-cells : goal.returns-in_err-hypotheses-clause-cells
returns-in_err-hypotheses-clause-cells g c = c.resolved_hypotheses.ensures.adds.cells

pub returns-in_err-conclusion-clause-cells : goal.returns-in_err-conclusion-clause-cells
returns-in_err-conclusion-clause-cells g c = c.copy_resolved.ensures.adds.cells ∙ c.resolved_hypotheses.ensures.adds.cells

pub returns-clause-cells : goal.returns-clause-cells
returns-clause-cells g c = c.copy_resolved.ensures.adds.cells ∙ c.resolved_hypotheses.ensures.adds.cells
