use Rattle.std.proofs.Common.{◌≡◌, List, ℕ, [], ◌∷◌, ◌++◌, sym, ◌∙◌, ap, subst, rules}
use Rattle.ab_logic.specs.Worlds.{read}
use Rattle.ab_hypothesis.specs.ab_steps.proofs.Following.{follows_on}
use Rattle.ab_proofcmd.specs.GoalCounts.{Bares}
use Rattle.ab_proofcmd.proofs.Bared.{awaits_one}
use Rattle.ab_proofcmd.proofs.awaited_goals.await_one.Goals as goal

pub returns-in_err-bare-clause-follows : goal.returns-in_err-bare-clause-follows
returns-in_err-bare-clause-follows g c = follows_on _ _ _ _ _ _ c.step_into.ensures.follows c.bare.ensures.follows

pub returns-in_err-push-clause-follows : goal.returns-in_err-push-clause-follows
returns-in_err-push-clause-follows g c = follows_on _ _ _ _ _ _ c.step_into.ensures.follows c.bare.ensures.follows

pub returns-clause-follows : goal.returns-clause-follows
returns-clause-follows g c = follows_on _ _ _ _ _ _ c.step_into.ensures.follows c.bare.ensures.follows

pub returns-clause-awaits : goal.returns-clause-awaits
returns-clause-awaits g c =
    let w = c.args.world.now in
    let v = c.step_into.new.world in
    let u = c.bare.new.world in
    let q = c.step_into.new.proof in
    let r = c.bare.new.proof in
    let y = c.in_ok-name.name in
    let xs = c.args.names.now.items in
    let same : c.as_slice.result.now ≡ xs = search rules in
    awaits_one w v u c.args.proof.now q r c.args.place (read w c.args.formula) y xs c.push.new.self.items c.in_ok-step_into.ensures.took (subst (Bares v q u r c.args.place) same c.in_ok-bare.ensures.bares)
    (c.in_ok-push.ensures.items ∙ ap (λ z. xs ++ z ∷ []) (sym c.in_ok-name.ensures))
