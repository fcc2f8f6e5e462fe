use Rattle.std.proofs.Common.{sym, ◌∙◌, ap}
use Rattle.ab_formulas.specs.Sequents.{formula_of}
use Rattle.ab_logic.specs.Worlds.{declarations_of, read}
use Rattle.ab_steps.specs.ab_kernel.specs.Layout.{goals_of}
use Rattle.ab_steps.proofs.Following.{one_at_least, follows_on}
use Rattle.ab_consequences.proofs.Allowed.{cut_in, follows_from}
use Rattle.ab_hypothesis.proofs.Changed.{has_first, old_there, own_there, name_free, hypothesis_changed}
use Rattle.ab_hypothesis.proofs.replacements.change_hypothesis.Goals as goal

pub forget-requires-clause-there : goal.forget-requires-clause-there
forget-requires-clause-there g c =
    let w = c.args.world.now in
    let p = c.args.proof.now in
    let one = one_at_least (goals_of w p) c.requires.open in
    old_there w c.put_beside.new.world p c.put_beside.new.proof c.args.name.now c.in_ok-own.own (read w c.args.formula)
    (λ s rest e. ap (λ k. formula_of k c.in_ok-own.own) (sym (c.first_goal.ensures.reads s rest e)) ∙ c.in_ok-own.ensures.new w) c.requires.there
    c.in_ok-put_beside.ensures.put one.0 one.1 one.2

pub shift-requires-clause-formula : goal.shift-requires-clause-formula
shift-requires-clause-formula g c = (follows_on _ _ _ _ _ _ c.put_beside.ensures.follows c.forget.ensures.follows).grows.ids c.args.formula c.requires.formula

pub shift-requires-clause-there : goal.shift-requires-clause-there
shift-requires-clause-there g c =
    let w = c.args.world.now in
    let p = c.args.proof.now in
    let one = one_at_least (goals_of w p) c.requires.open in
    own_there w c.put_beside.new.world p c.put_beside.new.proof c.args.name.now c.in_ok-own.own (read w c.args.formula)
    (λ s rest e. ap (λ k. formula_of k c.in_ok-own.own) (sym (c.first_goal.ensures.reads s rest e)) ∙ c.in_ok-own.ensures.new w) c.requires.there
    c.in_ok-put_beside.ensures.put c.forget.new.world c.forget.new.proof c.in_ok-forget.ensures.forgotten
    (read c.forget.new.world c.args.formula) ((follows_on _ _ _ _ _ _ c.put_beside.ensures.follows c.forget.ensures.follows).grows.readings c.args.formula c.requires.formula)
    one.0 one.1 one.2

pub returns-in_err-forget-clause-follows : goal.returns-in_err-forget-clause-follows
returns-in_err-forget-clause-follows g c = follows_on _ _ _ _ _ _ c.put_beside.ensures.follows c.forget.ensures.follows

pub returns-in_err-moved-clause-follows : goal.returns-in_err-moved-clause-follows
returns-in_err-moved-clause-follows g c =
    follows_on _ _ _ _ _ _ (follows_on _ _ _ _ _ _ c.put_beside.ensures.follows c.forget.ensures.follows) c.shift.ensures.follows

pub returns-clause-follows : goal.returns-clause-follows
returns-clause-follows g c =
    follows_on _ _ _ _ _ _ (follows_on _ _ _ _ _ _ c.put_beside.ensures.follows c.forget.ensures.follows) c.shift.ensures.follows

pub put_beside-requires-clause-allowed : goal.put_beside-requires-clause-allowed
put_beside-requires-clause-allowed g c s rest goals =
    let w = c.args.world.now in
    let has = has_first w c.args.proof.now c.args.name.now c.requires.there.0 c.requires.there.1 s rest goals in
    cut_in (declarations_of w) s (read w c.args.formula) c.requires.there.0 (c.requires.stands s rest c.requires.there.0 goals has) c.in_ok-own.own
    (ap (λ k. formula_of k c.in_ok-own.own) (sym (c.first_goal.ensures.reads s rest goals)) ∙ c.in_ok-own.ensures.new w)

pub put_beside-requires-clause-from : goal.put_beside-requires-clause-from
put_beside-requires-clause-from g c s rest goals =
    let w = c.args.world.now in
    let has = has_first w c.args.proof.now c.args.name.now c.requires.there.0 c.requires.there.1 s rest goals in
    follows_from (declarations_of w) s (read w c.args.formula) c.requires.there.0 (c.requires.stands s rest c.requires.there.0 goals has) c.args.name.now has

pub unreachable-requires : goal.unreachable-requires
unreachable-requires g c =
    let w = c.args.world.now in
    let p = c.args.proof.now in
    let F = read w c.args.formula in
    let one = one_at_least (goals_of w p) c.requires.open in
    name_free w c.put_beside.new.world p c.put_beside.new.proof c.args.name.now c.in_ok-own.own F
    (λ s rest e. ap (λ k. formula_of k c.in_ok-own.own) (sym (c.first_goal.ensures.reads s rest e)) ∙ c.in_ok-own.ensures.new w) c.requires.there
    c.in_ok-put_beside.ensures.put c.forget.new.world c.forget.new.proof c.in_ok-forget.ensures.forgotten
    c.in_ok-back.back c.in_ok-back.ensures (c.in_ok-moved.ensures.unnamed c.if-moved.false) one.0 one.1 one.2

pub returns-clause-changed : goal.returns-clause-changed
returns-clause-changed g c =
    let w = c.args.world.now in
    hypothesis_changed w c.put_beside.new.world c.args.proof.now c.put_beside.new.proof c.args.name.now c.in_ok-own.own (read w c.args.formula)
    (λ s rest e. ap (λ k. formula_of k c.in_ok-own.own) (sym (c.first_goal.ensures.reads s rest e)) ∙ c.in_ok-own.ensures.new w) c.requires.there
    c.in_ok-put_beside.ensures.put c.forget.new.world c.forget.new.proof c.in_ok-forget.ensures.forgotten
    c.shift.new.world c.shift.new.proof c.in_ok-back.back (read c.forget.new.world c.args.formula) c.in_ok-back.ensures
    ((follows_on _ _ _ _ _ _ c.put_beside.ensures.follows c.forget.ensures.follows).grows.readings c.args.formula c.requires.formula) (c.in_ok-moved.ensures.moved c.if-moved.true)
