use Rattle.std.proofs.Common.{◌≡◌, ◌<◌, ◌+◌, [], ◌∷◌, take, length, Ok, ◌∙◌, ap, subst, arith}
use Rattle.ab_alternatives.proofs.Passed.{later_on}
use Rattle.ab_alternatives.specs.declared.first_choice.Found.TheVariants.{Nothing}
use Rattle.ab_judgement_forms.specs.JudgementReadings.{judgement_read}
use Rattle.ab_judgements.specs.RuleSteps.{NoneOf}
use Rattle.ab_judgements.specs.RuleWalks.{slots, rules_in, rule_in}
use Rattle.ab_unify.specs.Problem.{cells_read}
use Rattle.ab_judgements.proofs.LaterRules.{still_ruled}
use Rattle.ab_judgements.proofs.NumberedRules.{found_before, none_more, counted_more, low_more, found_there, nothing_there}
use Rattle.ab_judgements.proofs.rule_matches.first_rule.Goals as goal

pub find_at-requires : goal.find_at-requires
find_at-requires g c = record { ruled = still_ruled c.with_rules.new.world c.loop-place.world c.loop-place.invariant.later c.in_ok-ruled.ruled c.loop-place.invariant.ruled }

pub find_at-requires-2 : goal.find_at-requires-2
find_at-requires-2 g c = record { ruled = still_ruled c.with_rules.new.world c.loop-place.world c.loop-place.invariant.later c.in_ok-ruled.ruled c.loop-place.invariant.ruled }

pub returns-in_err-found-clause-later : goal.returns-in_err-found-clause-later
returns-in_err-found-clause-later g c =
    later_on c.args.world.now c.with_rules.new.world c.find_at.new.world c.with_rules.ensures.later (later_on c.with_rules.new.world c.loop-place.world c.find_at.new.world c.loop-place.invariant.later c.find_at.ensures.later)

pub returns-in-Some-clause-later : goal.returns-in-Some-clause-later
returns-in-Some-clause-later g c =
    later_on c.args.world.now c.with_rules.new.world c.find_at.new.world c.with_rules.ensures.later (later_on c.with_rules.new.world c.loop-place.world c.find_at.new.world c.loop-place.invariant.later c.find_at.ensures.later)

pub returns-in_err-found-2-clause-later : goal.returns-in_err-found-2-clause-later
returns-in_err-found-2-clause-later g c =
    later_on c.args.world.now c.with_rules.new.world c.find_at-2.new.world c.with_rules.ensures.later (later_on c.with_rules.new.world c.loop-place.world c.find_at-2.new.world c.loop-place.invariant.later c.find_at-2.ensures.later)

pub returns-in-Some-2-clause-later : goal.returns-in-Some-2-clause-later
returns-in-Some-2-clause-later g c =
    later_on c.args.world.now c.with_rules.new.world c.find_at-2.new.world c.with_rules.ensures.later (later_on c.with_rules.new.world c.loop-place.world c.find_at-2.new.world c.loop-place.invariant.later c.find_at-2.ensures.later)

pub returns-clause-later : goal.returns-clause-later
returns-clause-later g c =
    later_on c.args.world.now c.with_rules.new.world c.find_at-2.new.world c.with_rules.ensures.later (later_on c.with_rules.new.world c.loop-place.world c.find_at-2.new.world c.loop-place.invariant.later c.find_at-2.ensures.later)

pub returns-in-Some-clause-found : goal.returns-in-Some-clause-found
returns-in-Some-clause-found g c = λ s rs listed.
    let w = c.args.world.now in
    let u = c.with_rules.new.world in
    let v = c.loop-place.world in
    let i = c.loop-place.invariant in
    let x = c.in_ok-ruled.ruled in
    let last = c.last_place-last.ensures in
    let before = c.loop-place-test.true in
    let f = c.in-Some.found in
    let h = c.in_ok-found.ensures.found s f (ap Ok c.in-Some.is) in
    found_before w u c.with_rules.ensures.later c.with_rules.ensures.cells c.args.judgement.now c.requires.judgement x c.in_ok-ruled.ensures.judgement s rs listed i.ruled f
    (found_there u v i.later i.cells x i.ruled s c.loop-place.place c.loop-place.number (omega (arith, before, last)) i.counted (i.before s) h.0 h.1 f h.2)

pub loop-place-preserved : goal.loop-place-preserved
loop-place-preserved g c =
    let w = c.args.world.now in
    let u = c.with_rules.new.world in
    let v = c.loop-place.world in
    let i = c.loop-place.invariant in
    let x = c.in_ok-ruled.ruled in
    let last = c.last_place-last.ensures in
    let before = c.loop-place-test.true in
    let y = c.find_at.new.world in
    let low = i.low in
    let under : c.loop-place.place < length (slots u x.judgement x.source) = omega (arith, before, last) in
    let few : c.loop-place.number + 1 < 18446744073709551616 = omega (arith, low, before, c.last_place-last.type_inv) in
    let more : c.find_at.new.number ≡ c.loop-place.number + length (rules_in (rule_in (slots v x.judgement x.source) c.loop-place.place ∷ [])) = c.in_ok-found.ensures.counted (ap Ok c.in_default.is) few in
    let counted = i.steps in
    let stepped = c.find_at.ensures.steps in
    record {
      ruled = i.ruled;
      later = later_on u v y i.later c.find_at.ensures.later;
      cells = c.find_at.ensures.cells ∙ i.cells;
      before = λ s. none_more u v i.later i.cells x i.ruled c.loop-place.place under s (i.before s) (c.in_ok-found.ensures.passed s (ap Ok c.in_default.is));
      counted = counted_more u v i.later i.cells x i.ruled c.loop-place.place under c.loop-place.number c.find_at.new.number i.counted more;
      low = low_more u v i.later i.cells x i.ruled c.loop-place.place c.loop-place.number c.find_at.new.number low more;
      steps = omega (arith, counted, stepped);
    }

pub returns-in-Some-2-clause-found : goal.returns-in-Some-2-clause-found
returns-in-Some-2-clause-found g c = λ s rs listed.
    let w = c.args.world.now in
    let u = c.with_rules.new.world in
    let v = c.loop-place.world in
    let i = c.loop-place.invariant in
    let x = c.in_ok-ruled.ruled in
    let last = c.last_place-last.ensures in
    let n = c.last_place-last.result in
    let least = c.loop-place-test.false in
    let most = c.loop-place.auto.place-end in
    let end : c.loop-place.place ≡ n = omega (arith, least, most) in
    let S = slots u x.judgement x.source in
    let f = c.in-Some-2.found in
    let h = c.in_ok-found-2.ensures.found s f (ap Ok c.in-Some-2.is) in
    found_before w u c.with_rules.ensures.later c.with_rules.ensures.cells c.args.judgement.now c.requires.judgement x c.in_ok-ruled.ensures.judgement s rs listed i.ruled f
    (found_there u v i.later i.cells x i.ruled s n c.loop-place.number (omega (arith, last)) (subst (λ k. c.loop-place.number ≡ length (rules_in (take k S))) end i.counted)
    (subst (λ k. NoneOf (cells_read u.types u.store) s (judgement_read u x.judgement) (rules_in (take k S))) end (i.before s)) h.0 h.1 f h.2)

pub returns-clause-found : goal.returns-clause-found
returns-clause-found g c = λ s rs listed.
    let w = c.args.world.now in
    let u = c.with_rules.new.world in
    let v = c.loop-place.world in
    let i = c.loop-place.invariant in
    let x = c.in_ok-ruled.ruled in
    let last = c.last_place-last.ensures in
    let n = c.last_place-last.result in
    let least = c.loop-place-test.false in
    let most = c.loop-place.auto.place-end in
    let end : c.loop-place.place ≡ n = omega (arith, least, most) in
    let S = slots u x.judgement x.source in
    found_before w u c.with_rules.ensures.later c.with_rules.ensures.cells c.args.judgement.now c.requires.judgement x c.in_ok-ruled.ensures.judgement s rs listed i.ruled Nothing
    (nothing_there u v i.later i.cells x i.ruled s n last (subst (λ k. NoneOf (cells_read u.types u.store) s (judgement_read u x.judgement) (rules_in (take k S))) end (i.before s)) (c.in_ok-found-2.ensures.passed s (ap Ok c.in-None.is)))
