use Rattle.std.proofs.Common.{[], subst}
use Rattle.ab_norm.proofs.Frame.{if_ok}
use Rattle.ab_norm.specs.ab_store.specs.Trees.{tree_of}
use Rattle.ab_unify.specs.Problem.{cells_read}
use Rattle.ab_unify.proofs.Growth.{grows_on}
use Rattle.ab_formulas.specs.Sequents.{Sequent}
use Rattle.ab_theory.specs.Splits.{problem_of}
use Rattle.ab_theory.specs.Unfolding.{unfolding_case}
use Rattle.ab_alternatives.specs.ChoiceMatches.{IsMatch, cells_before}
use Rattle.ab_alternatives.specs.AtomReadings.{defined_read, choice_read}
use Rattle.ab_alternatives.proofs.UnfoldingCase.{own_from, problem_is, before_is}
use Rattle.ab_alternatives.proofs.choice_matches.match_in.Goals as goal

pub solve_match-requires-clause-own : goal.solve_match-requires-clause-own
solve_match-requires-clause-own g c =
    let w = c.args.world.now in
    let s : Sequent = record { variables = []; hypotheses = []; conclusion = tree_of w.types w.store c.args.clause.now.head; counter = 0 } in
    own_from w.types c.make_unfolding.new.types w.store c.make_unfolding.new.store s (defined_read w c.args.atom.now) (choice_read w c.args.clause.now c.args.names.now) c.in_ok-made.made c.in_ok-made.ensures.made c.make_unfolding.ensures.unbound

pub returns-clause-grows : goal.returns-clause-grows
returns-clause-grows g c =
    grows_on c.args.world.now.types c.make_unfolding.new.types c.solve_match.new.types c.args.world.now.store c.make_unfolding.new.store c.solve_match.new.store c.make_unfolding.ensures.grows c.solve_match.ensures.grows

pub returns-clause-matched : goal.returns-clause-matched
returns-clause-matched g c =
    let w = c.args.world.now in
    let U = c.make_unfolding.new.types in
    let V = c.make_unfolding.new.store in
    let d = defined_read w c.args.atom.now in
    let ch = choice_read w c.args.clause.now c.args.names.now in
    let made = c.in_ok-made.made in
    let o = c.in_ok-made.ensures.made in
    let none = c.make_unfolding.ensures.unbound in
    if_ok c.solve_match.result
    (λ m t s.
    subst (λ l. IsMatch (problem_of (unfolding_case (cells_read w.types w.store) s d ch)) l m) (before_is w.types U w.store V s d ch made o none)
    (subst (λ p. IsMatch p (cells_before U V made.own.items) m) (problem_is w.types U w.store V s d ch made o none) t))
    c.solve_match.ensures.matched
