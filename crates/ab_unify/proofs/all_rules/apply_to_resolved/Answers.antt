use Rattle.std.proofs.Common.{◌≡◌, map, Some, refl, sym, ◌∙◌, ap, subst}
use Rattle.ab_norm.proofs.Frame.{typed_none}
use Rattle.ab_patterns.specs.EquationReadings.{equation_of, simple_of, HoldsParts}
use Rattle.ab_patterns.specs.ab_unifiers.specs.Unification.{clash, parts, rule}
use Rattle.ab_unify.specs.Problem.{cells_read, variables_read}
use Rattle.ab_unify.specs.Outcome.{still}
use Rattle.ab_unify.proofs.Pruned.{resolved_unbound}
use Rattle.ab_unify.proofs.Ruled.{tells_clash}
use Rattle.ab_unify.proofs.Keeping.{keeps_itself}
use Rattle.ab_unify.proofs.Parts.{first_rules, parts_fine}
use Rattle.ab_unify.proofs.RuledEquations.{rule_some}
use Rattle.ab_unify.proofs.all_rules.apply_to_resolved.Goals as goal

pub returns-in-Clash-clause-tells : goal.returns-in-Clash-clause-tells
returns-in-Clash-clause-tells g c =
    let types = c.args.types.now in
    let store = c.args.store.now in
    let F = c.args.flexible.now.items in
    let cells = cells_read types store in
    let ys = variables_read types store F in
    let e = equation_of types store c.args.equation in
    let first : first_rules ys e ≡ Some clash =
    sym c.in_ok-try_simple_rules.ensures.rule
    ∙ ap (simple_of types store) c.in-Clash.is in
    tells_clash types store store F c.requires.store c.requires.free (typed_none types store c.requires.store) (rule _ cells ys e) (rule_some cells ys e clash first)

pub returns-in-Parts-clause-tells : goal.returns-in-Parts-clause-tells
returns-in-Parts-clause-tells g c =
    let types = c.args.types.now in
    let store = c.args.store.now in
    let F = c.args.flexible.now.items in
    let cells = cells_read types store in
    let ys = variables_read types store F in
    let e = equation_of types store c.args.equation in
    let ps = c.in-Parts.parts.items in
    let first : first_rules ys e ≡ Some (parts (map (equation_of types store) ps)) =
    sym c.in_ok-try_simple_rules.ensures.rule
    ∙ ap (simple_of types store) c.in-Parts.is in
    let fine = parts_fine types store cells ys c.args.equation c.requires.equation
    (resolved_unbound types store c.args.equation.left c.requires.resolved.0)
    (resolved_unbound types store c.args.equation.right c.requires.resolved.1)
    ps (subst (HoldsParts store) c.in-Parts.is c.in_ok-try_simple_rules.ensures.held) first in
    record {
      change = still types store F;
      changed = keeps_itself types store F c.requires.store c.requires.free;
      says = (rule_some cells ys e (parts (map (equation_of types store) ps)) first ∙ ap (λ l. Some (parts l)) (sym fine.1), refl, fine.0);
    }
