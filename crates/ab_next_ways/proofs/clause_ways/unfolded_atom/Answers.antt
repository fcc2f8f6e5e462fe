use Rattle.std.proofs.Common.{◌≢◌, sym, ◌∙◌, ap, subst, rules, arith}
use Rattle.std.specs.Prelude.{IfSome}
use Rattle.std.specs.Option.{option_map}
use Rattle.ab_judgements.specs.ab_alternatives.specs.AtomReadings.{defined_read, HoldsDefined}
use Rattle.ab_next_ways.proofs.ClauseChoice.{unfolds_so}
use Rattle.ab_next_ways.proofs.clause_ways.unfolded_atom.Goals as goal

pub returns-then-may_be_unfolded : goal.returns-then-may_be_unfolded
returns-then-may_be_unfolded c =
    let w = c.args.world.now in
    record {
      held = subst (λ o. IfSome o (HoldsDefined w)) c.in-Some.is c.in_ok-atom.ensures.held;
      reads = sym c.in_ok-atom.ensures.reads ∙ ap (option_map (defined_read w)) c.in-Some.is;
      unfolds = unfolds_so (defined_read w c.in-Some.atom).sign c.may_be_unfolded.result c.may_be_unfolded.ensures ∙ c.if-may_be_unfolded.true;
      deep = (let some : c.args.goal.now.depth ≢ 0 = search rules in omega (arith, some));
    }
