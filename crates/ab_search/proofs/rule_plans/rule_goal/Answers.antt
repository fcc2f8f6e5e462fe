use Rattle.ab_steps.specs.ab_kernel.specs.ab_judgements.specs.ab_alternatives.specs.ab_instances.proofs.Made.{names_held}
use Rattle.ab_search.proofs.RulePlans.{later_twice}
use Rattle.ab_search_paths.proofs.Staying.{stand_ins_then}
use Rattle.ab_search.proofs.rule_plans.rule_goal.Goals as goal

pub returns-in_err-open-clause-later : goal.returns-in_err-open-clause-later
returns-in_err-open-clause-later g c =
    let a = c.with_rules.ensures.later in
    let b = c.open_at.ensures.later in
    later_twice c.args.world.now c.with_rules.new.world c.open_at.new.world a.grows a.declared b.grows b.declared

pub compare-requires-clause-stand_ins : goal.compare-requires-clause-stand_ins
compare-requires-clause-stand_ins g c =
    let a = c.with_rules.ensures.later in
    let b = c.open_at.ensures.later in
    let l = later_twice c.args.world.now c.with_rules.new.world c.open_at.new.world a.grows a.declared b.grows b.declared in
    stand_ins_then c.args.world.now c.open_at.new.world l.grows l.declared c.args.stand_ins.now c.requires.stand_ins

pub compare-requires-clause-formula : goal.compare-requires-clause-formula
compare-requires-clause-formula g c = c.open_at.ensures.later.grows.ids c.args.formula (c.with_rules.ensures.later.grows.ids c.args.formula c.requires.formula)

pub compare-requires-clause-conclusion : goal.compare-requires-clause-conclusion
compare-requires-clause-conclusion g c = c.open_at.ensures.later.grows.ids c.args.conclusion (c.with_rules.ensures.later.grows.ids c.args.conclusion c.requires.conclusion.0)

pub returns-in_err-like-clause-later : goal.returns-in_err-like-clause-later
returns-in_err-like-clause-later g c =
    let a = c.with_rules.ensures.later in
    let b = c.open_at.ensures.later in
    let l = later_twice c.args.world.now c.with_rules.new.world c.open_at.new.world a.grows a.declared b.grows b.declared in
    let got = c.compare.ensures.got in
    later_twice c.args.world.now c.open_at.new.world c.compare.new.world l.grows l.declared got.grows got.declared

pub returns-clause-found : goal.returns-clause-found
returns-clause-found g c =
    let u = c.with_rules.new.world in
    let v = c.open_at.new.world in
    let names = c.in_ok-ruled.ruled.constants.items in
    record {
      constants = names_held v.types c.compare.new.world.types c.compare.ensures.got.grows.types names (names_held u.types v.types c.open_at.ensures.later.grows.types names c.in_ok-ruled.ensures.ruled.constants_held);
      like = c.in_ok-like.ensures.like;
    }

pub returns-clause-later : goal.returns-clause-later
returns-clause-later g c =
    let a = c.with_rules.ensures.later in
    let b = c.open_at.ensures.later in
    let l = later_twice c.args.world.now c.with_rules.new.world c.open_at.new.world a.grows a.declared b.grows b.declared in
    let got = c.compare.ensures.got in
    later_twice c.args.world.now c.open_at.new.world c.compare.new.world l.grows l.declared got.grows got.declared
