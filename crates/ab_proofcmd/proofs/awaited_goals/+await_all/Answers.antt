use Rattle.std.proofs.Common.{map, arith, sym, subst}
use Rattle.std.proofs.lemmas.Result.{IfOk-weaker}
use Rattle.ab_logic.specs.Worlds.{read}
use Rattle.ab_hypothesis.specs.ab_steps.proofs.Following.{follows_on}
use Rattle.ab_proofcmd.specs.GoalCounts.{AwaitsAll}
use Rattle.ab_proofcmd.proofs.Bared.{awaits_none}
use Rattle.ab_proofcmd.proofs.Staged.{rest_shorter, none_left}
use Rattle.ab_proofcmd.proofs.Awaited.{rest_held, awaits_first}
use Rattle.ab_proofcmd.proofs.awaited_goals.+await_all.Goals as goal

pub await_all-requires : goal.await_all-requires
await_all-requires g t c κs within =
    let ts = c.args.formulas.now in
    let some = c.in-len1-up.len_at_least in
    let follows = c.await_one.ensures.follows in
    (omega (arith, rest_shorter ts some, c.decreases), (within, (follows.grows.world, (follows.proof, rest_held c.args.world.now c.await_one.new.world follows.grows ts some c.requires.formulas))))

pub returns-in-empty-clause-awaits : goal.returns-in-empty-clause-awaits
returns-in-empty-clause-awaits g t c =
    let w = c.args.world.now in
    let p = c.args.proof.now in
    let xs = c.args.names.now.items in
    subst (λ ts. AwaitsAll w p w p c.args.place xs (map (read w) ts) c.args.place) (sym (none_left c.args.formulas.now c.in-empty.len_below)) (awaits_none w p c.args.place xs)

pub returns-in-Some-clause-follows : goal.returns-in-Some-clause-follows
returns-in-Some-clause-follows g t c = follows_on _ _ _ _ _ _ c.await_one.ensures.follows c.await_all.ensures.follows

pub returns-in-Some-clause-awaits : goal.returns-in-Some-clause-awaits
returns-in-Some-clause-awaits g t c =
    IfOk-weaker c.await_all.result _ _
    (λ last all.
    awaits_first c.args.world.now c.await_one.new.world c.await_all.new.world c.args.proof.now c.await_one.new.proof c.await_all.new.proof c.args.place c.in-Some.next last c.args.formulas.now (record { 0 = 0 })
    c.args.names.now.items c.await_one.new.names.items c.in-len1-up.len_at_least c.await_one.ensures.follows.grows c.requires.formulas c.in-Some.ensures.1 c.in_ok-await_one-in-len1-up.ensures.awaits all)
    c.await_all.ensures.awaits
