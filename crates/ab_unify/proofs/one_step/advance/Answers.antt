use Rattle.std.proofs.Common.{◌≡◌, ◌++◌, Some, None, sym, ◌∙◌, ap, subst}
use Rattle.std.specs.Prelude.{All}
use Rattle.std.proofs.lemmas.List.Elements.{All-append}
use Rattle.ab_unify.specs.declared.flexible_rules.Step.TheVariants.{NoRule, Clash, Parts, Replaced}
use Rattle.ab_unify.specs.Outcome.{IsTypedEquation}
use Rattle.ab_unify.specs.States.{Settles, Advances, verdict_on}
use Rattle.ab_unify.proofs.Searching.{all_left, all_right}
use Rattle.ab_unify.proofs.Advanced.{advances_none, advances_clash, advances_parts, advances_replaced}
use Rattle.ab_unify.proofs.one_step.advance.Goals as goal

pub returns-in-NoRule-clause-advances : goal.returns-in-NoRule-clause-advances
returns-in-NoRule-clause-advances g c =
    let T0 = c.args.types.now in
    let S0 = c.args.store.now in
    let F0 = c.args.flexible.now.items in
    let es = c.args.waiting.now.items ++ c.args.queue.now.items in
    let U = c.settle.new.types in
    let V = c.settle.new.store in
    let H = c.settle.new.flexible.items in
    let W = c.settle.new.waiting.items in
    let Q = c.settle.new.queue.items in
    let d : Settles T0 S0 F0 es U V H W Q NoRule = subst (λ r. Settles T0 S0 F0 es U V H W Q r) c.in-NoRule.is c.in_ok-settle.ensures.settles in
    subst (λ v. Advances T0 S0 F0 es U V H (W ++ Q) (Some v)) (sym (c.verdict_at_rest.ensures ∙ ap verdict_on c.deref.ensures.value)) (advances_none T0 S0 F0 es U V H W Q d)

pub returns-in-Clash-clause-advances : goal.returns-in-Clash-clause-advances
returns-in-Clash-clause-advances g c =
    let T0 = c.args.types.now in
    let S0 = c.args.store.now in
    let F0 = c.args.flexible.now.items in
    let es = c.args.waiting.now.items ++ c.args.queue.now.items in
    let U = c.settle.new.types in
    let V = c.settle.new.store in
    let H = c.settle.new.flexible.items in
    let W = c.settle.new.waiting.items in
    let Q = c.settle.new.queue.items in
    let d : Settles T0 S0 F0 es U V H W Q Clash = subst (λ r. Settles T0 S0 F0 es U V H W Q r) c.in-Clash.is c.in_ok-settle.ensures.settles in
    advances_clash T0 S0 F0 es U V H W Q (W ++ Q) d

pub returns-in_ok-put_back-in-Parts-clause-equations : goal.returns-in_ok-put_back-in-Parts-clause-equations
returns-in_ok-put_back-in-Parts-clause-equations g c =
    let T0 = c.args.types.now in
    let S0 = c.args.store.now in
    let F0 = c.args.flexible.now.items in
    let es = c.args.waiting.now.items ++ c.args.queue.now.items in
    let U = c.settle.new.types in
    let V = c.settle.new.store in
    let H = c.settle.new.flexible.items in
    let W = c.settle.new.waiting.items in
    let Q = c.settle.new.queue.items in
    let d : Settles T0 S0 F0 es U V H W Q (Parts c.in-Parts.parts) = subst (λ r. Settles T0 S0 F0 es U V H W Q r) c.in-Parts.is c.in_ok-settle.ensures.settles in
    let typed = c.in_ok-settle.ensures.equations in
    let P = IsTypedEquation U V in
    subst (λ q. All P (W ++ q)) (sym c.in_ok-put_back-in-Parts.ensures.queue)
    (All-append P W (c.in-Parts.parts.items ++ Q) (all_left P W Q typed) (All-append P c.in-Parts.parts.items Q d.says.2 (all_right P W Q typed)))

pub returns-in_ok-put_back-in-Parts-clause-advances : goal.returns-in_ok-put_back-in-Parts-clause-advances
returns-in_ok-put_back-in-Parts-clause-advances g c =
    let T0 = c.args.types.now in
    let S0 = c.args.store.now in
    let F0 = c.args.flexible.now.items in
    let es = c.args.waiting.now.items ++ c.args.queue.now.items in
    let U = c.settle.new.types in
    let V = c.settle.new.store in
    let H = c.settle.new.flexible.items in
    let W = c.settle.new.waiting.items in
    let Q = c.settle.new.queue.items in
    let d : Settles T0 S0 F0 es U V H W Q (Parts c.in-Parts.parts) = subst (λ r. Settles T0 S0 F0 es U V H W Q r) c.in-Parts.is c.in_ok-settle.ensures.settles in
    subst (λ q. Advances T0 S0 F0 es U V H (W ++ q) None) (sym c.in_ok-put_back-in-Parts.ensures.queue) (advances_parts T0 S0 F0 es U V H W Q c.in-Parts.parts d)

pub returns-in_ok-put_back-in-Replaced-clause-equations : goal.returns-in_ok-put_back-in-Replaced-clause-equations
returns-in_ok-put_back-in-Replaced-clause-equations g c =
    let T0 = c.args.types.now in
    let S0 = c.args.store.now in
    let F0 = c.args.flexible.now.items in
    let es = c.args.waiting.now.items ++ c.args.queue.now.items in
    let U = c.settle.new.types in
    let V = c.settle.new.store in
    let H = c.settle.new.flexible.items in
    let W = c.settle.new.waiting.items in
    let Q = c.settle.new.queue.items in
    let same : c.put_back-in-Replaced.new.equations.items ++ c.put_back-in-Replaced.new.queue.items ≡ W ++ Q = ap (λ w. w ++ c.put_back-in-Replaced.new.queue.items) c.in_ok-put_back-in-Replaced.ensures.none ∙ c.in_ok-put_back-in-Replaced.ensures.queue in
    subst (All (IsTypedEquation U V)) (sym same) c.in_ok-settle.ensures.equations

pub returns-in_ok-put_back-in-Replaced-clause-advances : goal.returns-in_ok-put_back-in-Replaced-clause-advances
returns-in_ok-put_back-in-Replaced-clause-advances g c =
    let T0 = c.args.types.now in
    let S0 = c.args.store.now in
    let F0 = c.args.flexible.now.items in
    let es = c.args.waiting.now.items ++ c.args.queue.now.items in
    let U = c.settle.new.types in
    let V = c.settle.new.store in
    let H = c.settle.new.flexible.items in
    let W = c.settle.new.waiting.items in
    let Q = c.settle.new.queue.items in
    let d : Settles T0 S0 F0 es U V H W Q Replaced = subst (λ r. Settles T0 S0 F0 es U V H W Q r) c.in-Replaced.is c.in_ok-settle.ensures.settles in
    let same : c.put_back-in-Replaced.new.equations.items ++ c.put_back-in-Replaced.new.queue.items ≡ W ++ Q = ap (λ w. w ++ c.put_back-in-Replaced.new.queue.items) c.in_ok-put_back-in-Replaced.ensures.none ∙ c.in_ok-put_back-in-Replaced.ensures.queue in
    subst (λ l. Advances T0 S0 F0 es U V H l None) (sym same) (advances_replaced T0 S0 F0 es U V H W Q d)
