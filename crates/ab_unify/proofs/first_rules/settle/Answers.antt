use Rattle.std.proofs.Common.{◌≡◌, ◌++◌, ◌∷◌, [], codes, sym, ◌∙◌, subst, arith}
use Rattle.std.specs.Prelude.{All}
use Rattle.ab_patterns.specs.ab_unifiers.specs.Unification.{rule}
use Rattle.ab_unify.specs.declared.flexible_rules.Step.TheVariants.{NoRule, Clash, Parts, Replaced}
use Rattle.ab_unify.specs.Problem.{cells_read, variables_read}
use Rattle.ab_unify.specs.Outcome.{equation_read, IsTypedEquation, Tells}
use Rattle.ab_unify.proofs.Growth.{grows_on}
use Rattle.ab_unify.specs.States.{Settles}
use Rattle.ab_unify.proofs.Searching.{IsSearch, search_begins, here_typed, search_on, settles_none, settles_clash, settles_parts, settles_replaced, settles_typed, none_left}
use Rattle.ab_unify.proofs.first_rules.settle.Goals as goal

pub equations-init : goal.equations-init
equations-init g c =
    record {
      search = search_begins c.args.types.now c.args.store.now c.args.flexible.now.items c.args.waiting.now.items c.args.queue.now.items c.requires.store c.requires.free c.requires.equations c.requires.rest;
      steps = omega arith;
    }

pub apply_rule-requires-clause-equation : goal.apply_rule-requires-clause-equation
apply_rule-requires-clause-equation g c =
    let T0 = c.args.types.now in
    let S0 = c.args.store.now in
    let F0 = c.args.flexible.now.items in
    let es = c.args.waiting.now.items ++ c.args.queue.now.items in
    let T = c.equations.types in
    let S = c.equations.store in
    let F = c.equations.flexible.items in
    let W = c.equations.waiting.items in
    let e = c.in-Some.equation in
    let Q = c.pop_front.new.self.items in
    let s : IsSearch T0 S0 F0 es T S F W (e ∷ Q) = subst (λ q. IsSearch T0 S0 F0 es T S F W q) c.in-Some.ensures.items c.equations.invariant.search in
    here_typed T0 S0 F0 es T S F W e Q s

pub returns-in_err-apply_rule-clause-grows : goal.returns-in_err-apply_rule-clause-grows
returns-in_err-apply_rule-clause-grows g c =
    grows_on c.args.types.now c.equations.types c.apply_rule.new.types c.args.store.now c.equations.store c.apply_rule.new.store c.equations.invariant.search.keeps.grows c.in_err-apply_rule.ensures.grows

pub equations-preserved : goal.equations-preserved
equations-preserved g c =
    let T0 = c.args.types.now in
    let S0 = c.args.store.now in
    let F0 = c.args.flexible.now.items in
    let es = c.args.waiting.now.items ++ c.args.queue.now.items in
    let T = c.equations.types in
    let S = c.equations.store in
    let F = c.equations.flexible.items in
    let W = c.equations.waiting.items in
    let e = c.in-Some.equation in
    let Q = c.pop_front.new.self.items in
    let s : IsSearch T0 S0 F0 es T S F W (e ∷ Q) = subst (λ q. IsSearch T0 S0 F0 es T S F W q) c.in-Some.ensures.items c.equations.invariant.search in
    let U = c.apply_rule.new.types in
    let V = c.apply_rule.new.store in
    let H = c.apply_rule.new.flexible.items in
    let o = rule (codes "x") (cells_read T S) (variables_read T S F) (equation_read T S e) in
    let t : Tells T S F U V H NoRule o = subst (λ r. Tells T S F U V H r o) c.in-NoRule.is c.in_ok-apply_rule.ensures.tells in
    record {
      search = subst (λ w. IsSearch T0 S0 F0 es U V H w Q) (sym c.in_ok-push-in-NoRule.ensures.items) (search_on T0 S0 F0 es T S F W e Q s U V H t);
      steps = omega (arith, c.equations.invariant.steps, c.in_ok-apply_rule.ensures.steps);
    }

pub returns-in_err-push-in-NoRule-clause-grows : goal.returns-in_err-push-in-NoRule-clause-grows
returns-in_err-push-in-NoRule-clause-grows g c =
    grows_on c.args.types.now c.equations.types c.apply_rule.new.types c.args.store.now c.equations.store c.apply_rule.new.store c.equations.invariant.search.keeps.grows c.in_ok-apply_rule.ensures.grows

pub returns-in-Clash-clause-grows : goal.returns-in-Clash-clause-grows
returns-in-Clash-clause-grows g c =
    grows_on c.args.types.now c.equations.types c.apply_rule.new.types c.args.store.now c.equations.store c.apply_rule.new.store c.equations.invariant.search.keeps.grows c.in_ok-apply_rule.ensures.grows

pub returns-in-Clash-clause-equations : goal.returns-in-Clash-clause-equations
returns-in-Clash-clause-equations g c =
    let T0 = c.args.types.now in
    let S0 = c.args.store.now in
    let F0 = c.args.flexible.now.items in
    let es = c.args.waiting.now.items ++ c.args.queue.now.items in
    let T = c.equations.types in
    let S = c.equations.store in
    let F = c.equations.flexible.items in
    let W = c.equations.waiting.items in
    let e = c.in-Some.equation in
    let Q = c.pop_front.new.self.items in
    let s : IsSearch T0 S0 F0 es T S F W (e ∷ Q) = subst (λ q. IsSearch T0 S0 F0 es T S F W q) c.in-Some.ensures.items c.equations.invariant.search in
    let U = c.apply_rule.new.types in
    let V = c.apply_rule.new.store in
    let H = c.apply_rule.new.flexible.items in
    let o = rule (codes "x") (cells_read T S) (variables_read T S F) (equation_read T S e) in
    let t : Tells T S F U V H Clash o = subst (λ r. Tells T S F U V H r o) c.in-Clash.is c.in_ok-apply_rule.ensures.tells in
    settles_typed T0 S0 F0 es T S F W e Q s U V H Clash t

pub returns-in-Clash-clause-settles : goal.returns-in-Clash-clause-settles
returns-in-Clash-clause-settles g c =
    let T0 = c.args.types.now in
    let S0 = c.args.store.now in
    let F0 = c.args.flexible.now.items in
    let es = c.args.waiting.now.items ++ c.args.queue.now.items in
    let T = c.equations.types in
    let S = c.equations.store in
    let F = c.equations.flexible.items in
    let W = c.equations.waiting.items in
    let e = c.in-Some.equation in
    let Q = c.pop_front.new.self.items in
    let s : IsSearch T0 S0 F0 es T S F W (e ∷ Q) = subst (λ q. IsSearch T0 S0 F0 es T S F W q) c.in-Some.ensures.items c.equations.invariant.search in
    let U = c.apply_rule.new.types in
    let V = c.apply_rule.new.store in
    let H = c.apply_rule.new.flexible.items in
    let o = rule (codes "x") (cells_read T S) (variables_read T S F) (equation_read T S e) in
    let t : Tells T S F U V H Clash o = subst (λ r. Tells T S F U V H r o) c.in-Clash.is c.in_ok-apply_rule.ensures.tells in
    settles_clash T0 S0 F0 es T S F W e Q s U V H t

pub returns-in-Parts-clause-grows : goal.returns-in-Parts-clause-grows
returns-in-Parts-clause-grows g c =
    grows_on c.args.types.now c.equations.types c.apply_rule.new.types c.args.store.now c.equations.store c.apply_rule.new.store c.equations.invariant.search.keeps.grows c.in_ok-apply_rule.ensures.grows

pub returns-in-Parts-clause-equations : goal.returns-in-Parts-clause-equations
returns-in-Parts-clause-equations g c =
    let T0 = c.args.types.now in
    let S0 = c.args.store.now in
    let F0 = c.args.flexible.now.items in
    let es = c.args.waiting.now.items ++ c.args.queue.now.items in
    let T = c.equations.types in
    let S = c.equations.store in
    let F = c.equations.flexible.items in
    let W = c.equations.waiting.items in
    let e = c.in-Some.equation in
    let Q = c.pop_front.new.self.items in
    let s : IsSearch T0 S0 F0 es T S F W (e ∷ Q) = subst (λ q. IsSearch T0 S0 F0 es T S F W q) c.in-Some.ensures.items c.equations.invariant.search in
    let U = c.apply_rule.new.types in
    let V = c.apply_rule.new.store in
    let H = c.apply_rule.new.flexible.items in
    let o = rule (codes "x") (cells_read T S) (variables_read T S F) (equation_read T S e) in
    let t : Tells T S F U V H (Parts c.in-Parts.parts) o = subst (λ r. Tells T S F U V H r o) c.in-Parts.is c.in_ok-apply_rule.ensures.tells in
    settles_typed T0 S0 F0 es T S F W e Q s U V H (Parts c.in-Parts.parts) t

pub returns-in-Parts-clause-settles : goal.returns-in-Parts-clause-settles
returns-in-Parts-clause-settles g c =
    let T0 = c.args.types.now in
    let S0 = c.args.store.now in
    let F0 = c.args.flexible.now.items in
    let es = c.args.waiting.now.items ++ c.args.queue.now.items in
    let T = c.equations.types in
    let S = c.equations.store in
    let F = c.equations.flexible.items in
    let W = c.equations.waiting.items in
    let e = c.in-Some.equation in
    let Q = c.pop_front.new.self.items in
    let s : IsSearch T0 S0 F0 es T S F W (e ∷ Q) = subst (λ q. IsSearch T0 S0 F0 es T S F W q) c.in-Some.ensures.items c.equations.invariant.search in
    let U = c.apply_rule.new.types in
    let V = c.apply_rule.new.store in
    let H = c.apply_rule.new.flexible.items in
    let o = rule (codes "x") (cells_read T S) (variables_read T S F) (equation_read T S e) in
    let t : Tells T S F U V H (Parts c.in-Parts.parts) o = subst (λ r. Tells T S F U V H r o) c.in-Parts.is c.in_ok-apply_rule.ensures.tells in
    settles_parts T0 S0 F0 es T S F W e Q s U V H c.in-Parts.parts t

pub returns-in-Replaced-clause-grows : goal.returns-in-Replaced-clause-grows
returns-in-Replaced-clause-grows g c =
    grows_on c.args.types.now c.equations.types c.apply_rule.new.types c.args.store.now c.equations.store c.apply_rule.new.store c.equations.invariant.search.keeps.grows c.in_ok-apply_rule.ensures.grows

pub returns-in-Replaced-clause-equations : goal.returns-in-Replaced-clause-equations
returns-in-Replaced-clause-equations g c =
    let T0 = c.args.types.now in
    let S0 = c.args.store.now in
    let F0 = c.args.flexible.now.items in
    let es = c.args.waiting.now.items ++ c.args.queue.now.items in
    let T = c.equations.types in
    let S = c.equations.store in
    let F = c.equations.flexible.items in
    let W = c.equations.waiting.items in
    let e = c.in-Some.equation in
    let Q = c.pop_front.new.self.items in
    let s : IsSearch T0 S0 F0 es T S F W (e ∷ Q) = subst (λ q. IsSearch T0 S0 F0 es T S F W q) c.in-Some.ensures.items c.equations.invariant.search in
    let U = c.apply_rule.new.types in
    let V = c.apply_rule.new.store in
    let H = c.apply_rule.new.flexible.items in
    let o = rule (codes "x") (cells_read T S) (variables_read T S F) (equation_read T S e) in
    let t : Tells T S F U V H Replaced o = subst (λ r. Tells T S F U V H r o) c.in-Replaced.is c.in_ok-apply_rule.ensures.tells in
    settles_typed T0 S0 F0 es T S F W e Q s U V H Replaced t

pub returns-in-Replaced-clause-settles : goal.returns-in-Replaced-clause-settles
returns-in-Replaced-clause-settles g c =
    let T0 = c.args.types.now in
    let S0 = c.args.store.now in
    let F0 = c.args.flexible.now.items in
    let es = c.args.waiting.now.items ++ c.args.queue.now.items in
    let T = c.equations.types in
    let S = c.equations.store in
    let F = c.equations.flexible.items in
    let W = c.equations.waiting.items in
    let e = c.in-Some.equation in
    let Q = c.pop_front.new.self.items in
    let s : IsSearch T0 S0 F0 es T S F W (e ∷ Q) = subst (λ q. IsSearch T0 S0 F0 es T S F W q) c.in-Some.ensures.items c.equations.invariant.search in
    let U = c.apply_rule.new.types in
    let V = c.apply_rule.new.store in
    let H = c.apply_rule.new.flexible.items in
    let o = rule (codes "x") (cells_read T S) (variables_read T S F) (equation_read T S e) in
    let t : Tells T S F U V H Replaced o = subst (λ r. Tells T S F U V H r o) c.in-Replaced.is c.in_ok-apply_rule.ensures.tells in
    settles_replaced T0 S0 F0 es T S F W e Q s U V H t

pub returns-clause-equations : goal.returns-clause-equations
returns-clause-equations g c =
    let T0 = c.args.types.now in
    let S0 = c.args.store.now in
    let F0 = c.args.flexible.now.items in
    let es = c.args.waiting.now.items ++ c.args.queue.now.items in
    let T = c.equations.types in
    let S = c.equations.store in
    let F = c.equations.flexible.items in
    let W = c.equations.waiting.items in
    let Q = c.pop_front.new.self.items in
    let same : c.equations.queue.items ≡ Q = c.in_default.ensures.items in
    subst (λ q. All (IsTypedEquation T S) (W ++ q)) same c.equations.invariant.search.typed

pub returns-clause-settles : goal.returns-clause-settles
returns-clause-settles g c =
    let T0 = c.args.types.now in
    let S0 = c.args.store.now in
    let F0 = c.args.flexible.now.items in
    let es = c.args.waiting.now.items ++ c.args.queue.now.items in
    let T = c.equations.types in
    let S = c.equations.store in
    let F = c.equations.flexible.items in
    let W = c.equations.waiting.items in
    let Q = c.pop_front.new.self.items in
    let same : c.equations.queue.items ≡ Q = c.in_default.ensures.items in
    let none : Q ≡ [] = none_left c.equations.queue.items Q same c.in_default.ensures.rest in
    subst (λ q. Settles T0 S0 F0 es T S F W q NoRule) (sym none) (settles_none T0 S0 F0 es T S F W (subst (λ q. IsSearch T0 S0 F0 es T S F W q) (same ∙ none) c.equations.invariant.search))
