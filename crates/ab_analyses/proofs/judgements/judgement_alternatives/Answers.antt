use Rattle.std.proofs.Common.{◌≡◌, ◌+◌, [], List, map, take, sym, ◌∙◌, ap, subst, arith, take_all}
use Rattle.ab_unify.specs.Problem.{cells_read}
use Rattle.ab_alternatives.proofs.Passed.{later_not, later_on}
use Rattle.ab_judgements.specs.ab_judgement_forms.specs.JudgementReadings.{judgement_read}
use Rattle.ab_judgements.specs.RuleWalks.{slots}
use Rattle.ab_judgements.proofs.LaterRules.{still_ruled}
use Rattle.ab_analyses.specs.Alternatives.{by_rule}
use Rattle.ab_analyses.specs.AlternativeReadings.{AreMade}
use Rattle.ab_analyses.specs.declared.answers.Alternative.{Alternative as Kept}
use Rattle.ab_analyses.proofs.ListsMade.{none_made}
use Rattle.ab_analyses.proofs.NextRule.{at_places, next_place, all_places}
use Rattle.ab_analyses.proofs.judgements.judgement_alternatives.Goals as goal

pub loop-place-init : goal.loop-place-init
loop-place-init g c =
    let u = c.with_rules.new.world in
    record {
      ruled = c.in_ok-ruled.ensures.ruled;
      made = subst (λ (l : List Kept). AreMade u l [] (cells_read u.types u.store)) (sym c.new-list.ensures.items) (none_made u);
      later = later_not u c.in_ok-ruled.ensures.ruled.world;
      steps = omega arith;
    }

pub add_place-requires : goal.add_place-requires
add_place-requires g c = record { ruled = still_ruled c.with_rules.new.world c.loop-place.world c.loop-place.invariant.later c.in_ok-ruled.ruled c.loop-place.invariant.ruled }

pub loop-place-preserved : goal.loop-place-preserved
loop-place-preserved g c =
    let u = c.with_rules.new.world in
    let i = c.loop-place.invariant in
    let x = c.in_ok-ruled.ruled in
    let s = slots u x.judgement x.source in
    let y = c.add_place.new.world in
    let before = c.loop-place-test.true in
    let last = c.last_place-last.ensures in
    let counted = i.steps in
    let more = c.add_place.ensures.steps in
    record {
      ruled = i.ruled;
      made = next_place u c.loop-place.world i.later x i.ruled c.loop-place.place (omega (arith, before, last)) y c.add_place.new.list.items (cells_read u.types u.store)
          (c.in_ok-add_place.ensures.made (at_places u x (take c.loop-place.place s)) (cells_read u.types u.store) i.made);
      later = later_on u c.loop-place.world y i.later c.add_place.ensures.later;
      steps = omega (arith, counted, more);
    }

pub add_place-requires-2 : goal.add_place-requires-2
add_place-requires-2 g c = record { ruled = still_ruled c.with_rules.new.world c.loop-place.world c.loop-place.invariant.later c.in_ok-ruled.ruled c.loop-place.invariant.ruled }

pub returns-in_err-add_place-clause-later : goal.returns-in_err-add_place-clause-later
returns-in_err-add_place-clause-later g c =
    let u = c.with_rules.new.world in
    let y = c.add_place.new.world in
    later_on c.args.world.now u y c.with_rules.ensures.later (later_on u c.loop-place.world y c.loop-place.invariant.later c.add_place.ensures.later)

pub returns-in_err-add_place-2-clause-later : goal.returns-in_err-add_place-2-clause-later
returns-in_err-add_place-2-clause-later g c =
    let u = c.with_rules.new.world in
    let y = c.add_place-2.new.world in
    later_on c.args.world.now u y c.with_rules.ensures.later (later_on u c.loop-place.world y c.loop-place.invariant.later c.add_place-2.ensures.later)

pub returns-clause-later : goal.returns-clause-later
returns-clause-later g c =
    let u = c.with_rules.new.world in
    let y = c.add_place-2.new.world in
    later_on c.args.world.now u y c.with_rules.ensures.later (later_on u c.loop-place.world y c.loop-place.invariant.later c.add_place-2.ensures.later)

pub returns-clause-list : goal.returns-clause-list
returns-clause-list g c = λ rs listed.
    let w = c.args.world.now in
    let u = c.with_rules.new.world in
    let i = c.loop-place.invariant in
    let x = c.in_ok-ruled.ruled in
    let y = c.add_place-2.new.world in
    let s = slots u x.judgement x.source in
    let k = c.last_place-last.result in
    let least = c.loop-place-test.false in
    let most = c.loop-place.auto.place-end in
    let end : c.loop-place.place ≡ k = omega (arith, least, most) in
    let last = c.last_place-last.ensures in
    let there = subst (λ q. AreMade c.loop-place.world c.loop-place.list.items (at_places u x (take q s)) (cells_read u.types u.store)) end i.made in
    let made = next_place u c.loop-place.world i.later x i.ruled k (omega (arith, last)) y c.add_place-2.new.list.items (cells_read u.types u.store)
    (c.in_ok-add_place-2.ensures.made (at_places u x (take k s)) (cells_read u.types u.store) there) in
    let whole = take_all (k + 1) s (omega (arith, last)) in
    subst (λ l. AreMade y c.add_place-2.new.list.items (map (by_rule (judgement_read w c.args.judgement.now)) rs) l) c.with_rules.ensures.cells
    (subst (λ l. AreMade y c.add_place-2.new.list.items l (cells_read u.types u.store)) (ap (at_places u x) whole ∙ all_places w u c.with_rules.ensures.later c.args.judgement.now c.requires.judgement rs listed x c.in_ok-ruled.ensures.judgement c.in_ok-ruled.ensures.ruled) made)
