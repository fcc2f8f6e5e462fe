use Rattle.std.proofs.Common.{Some, Ok, ◌∙◌, ap, arith}
use Rattle.ab_unify.specs.Problem.{cells_read}
use Rattle.ab_logic.specs.SequentReadings.{sequent_of}
use Rattle.ab_logic.proofs.Growing.{grows_on}
use Rattle.ab_alternatives.specs.AtomReadings.{defined_read}
use Rattle.ab_alternatives.specs.declared.choice_matches.Match.TheVariants.{Closed, Open, Apart, Stuck}
use Rattle.ab_alternatives.proofs.Lasting.{still_defined}
use Rattle.ab_alternatives.proofs.Searched.{sequent_there, conclusion_there, none_here, matched_here, one_more, none_at_all}
use Rattle.ab_alternatives.proofs.first_choice.first_unfolding.Goals as goal

pub match_at-requires-clause-sequent : goal.match_at-requires-clause-sequent
match_at-requires-clause-sequent g c =
    let i = c.loop-place.invariant in
    sequent_there c.args.world.now c.loop-place.world i.grows i.declared i.cells c.args.atom.now c.requires.atom c.args.goal.now c.requires.goal c.requires.sequent

pub match_at-requires-clause-atom : goal.match_at-requires-clause-atom
match_at-requires-clause-atom g c = still_defined c.args.world.now c.loop-place.world c.loop-place.invariant.grows c.args.atom.now c.requires.atom

pub match_at-requires-clause-conclusion : goal.match_at-requires-clause-conclusion
match_at-requires-clause-conclusion g c =
    let i = c.loop-place.invariant in
    conclusion_there c.args.world.now c.loop-place.world i.grows i.declared i.cells c.args.atom.now c.requires.atom c.args.goal.now c.requires.goal c.requires.conclusion

pub returns-in_err-match_at-clause-grows : goal.returns-in_err-match_at-clause-grows
returns-in_err-match_at-clause-grows g c = grows_on c.args.world.now c.loop-place.world c.match_at.new.world c.loop-place.invariant.grows c.match_at.ensures.grows

pub returns-in-None-clause-grows : goal.returns-in-None-clause-grows
returns-in-None-clause-grows g c = grows_on c.args.world.now c.loop-place.world c.match_at.new.world c.loop-place.invariant.grows c.match_at.ensures.grows

pub returns-in-Some-Closed-clause-grows : goal.returns-in-Some-Closed-clause-grows
returns-in-Some-Closed-clause-grows g c = grows_on c.args.world.now c.loop-place.world c.match_at.new.world c.loop-place.invariant.grows c.match_at.ensures.grows

pub returns-in-Some-Open-clause-grows : goal.returns-in-Some-Open-clause-grows
returns-in-Some-Open-clause-grows g c = grows_on c.args.world.now c.loop-place.world c.match_at.new.world c.loop-place.invariant.grows c.match_at.ensures.grows

pub returns-in-Some-Stuck-clause-grows : goal.returns-in-Some-Stuck-clause-grows
returns-in-Some-Stuck-clause-grows g c = grows_on c.args.world.now c.loop-place.world c.match_at.new.world c.loop-place.invariant.grows c.match_at.ensures.grows

pub returns-in-None-clause-found : goal.returns-in-None-clause-found
returns-in-None-clause-found g c =
    let w = c.args.world.now in
    let i = c.loop-place.invariant in
    none_at_all (cells_read w.types w.store) (sequent_of w c.args.goal.now) (defined_read w c.args.atom.now) c.loop-place.place i.before
    (none_here w c.loop-place.world i.grows i.declared i.cells c.args.atom.now c.requires.atom c.args.goal.now c.requires.goal c.loop-place.place (c.in_ok-match_at.ensures.none (ap Ok c.in-None.is)))

pub returns-in-Some-Closed-clause-found : goal.returns-in-Some-Closed-clause-found
returns-in-Some-Closed-clause-found g c =
    let i = c.loop-place.invariant in
    let x = matched_here c.args.world.now c.loop-place.world i.grows i.declared i.cells c.args.atom.now c.requires.atom c.args.goal.now c.requires.goal c.loop-place.place Closed
    (c.in_ok-match_at.ensures.matched Closed (ap Ok (c.in-Some-Closed.is ∙ ap Some c.in-Some-Closed.field-0-is))) in
    (x.0, record { there = x.1; none_before = i.before }, x.2)

pub returns-in-Some-Open-clause-found : goal.returns-in-Some-Open-clause-found
returns-in-Some-Open-clause-found g c =
    let i = c.loop-place.invariant in
    let x = matched_here c.args.world.now c.loop-place.world i.grows i.declared i.cells c.args.atom.now c.requires.atom c.args.goal.now c.requires.goal c.loop-place.place (Open c.in-Some-Open.name)
    (c.in_ok-match_at.ensures.matched (Open c.in-Some-Open.name) (ap Ok (c.in-Some-Open.is ∙ ap Some c.in-Some-Open.field-0-is))) in
    (x.0, record { there = x.1; none_before = i.before }, x.2.0, x.2.1, x.2.2, x.2.3)

pub returns-in-Some-Stuck-clause-found : goal.returns-in-Some-Stuck-clause-found
returns-in-Some-Stuck-clause-found g c =
    let i = c.loop-place.invariant in
    let x = matched_here c.args.world.now c.loop-place.world i.grows i.declared i.cells c.args.atom.now c.requires.atom c.args.goal.now c.requires.goal c.loop-place.place (Stuck c.in-Some-Stuck.equation)
    (c.in_ok-match_at.ensures.matched (Stuck c.in-Some-Stuck.equation) (ap Ok (c.in-Some-Stuck.is ∙ ap Some c.in-Some-Stuck.field-0-is))) in
    (x.0, record { there = x.1; none_before = i.before }, x.2)

pub loop-place-preserved : goal.loop-place-preserved
loop-place-preserved g c =
    let w = c.args.world.now in
    let i = c.loop-place.invariant in
    let x = matched_here w c.loop-place.world i.grows i.declared i.cells c.args.atom.now c.requires.atom c.args.goal.now c.requires.goal c.loop-place.place Apart
    (c.in_ok-match_at.ensures.matched Apart (ap Ok (c.in-Some-Apart.is ∙ ap Some c.in-Some-Apart.field-0-is))) in
    record {
      before = one_more (cells_read w.types w.store) (sequent_of w c.args.goal.now) (defined_read w c.args.atom.now) c.loop-place.place i.before x.0 x.1 x.2;
      cells = c.match_at.ensures.cells ∙ i.cells;
      grows = grows_on w c.loop-place.world c.match_at.new.world i.grows c.match_at.ensures.grows;
      declared = c.match_at.ensures.declared ∙ i.declared;
      steps = omega (arith, i.steps, c.match_at.ensures.steps);
    }
