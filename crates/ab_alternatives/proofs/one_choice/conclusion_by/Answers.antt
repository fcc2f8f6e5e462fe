use Rattle.std.proofs.Common.{[], codes, ◌∙◌, subst}
use Rattle.ab_norm.specs.ab_store.specs.Trees.{tree_of}
use Rattle.ab_unifiers.specs.Unification.{unified, apart, stuck, Solves}
use Rattle.ab_unify.proofs.Growth.{grows_on}
use Rattle.ab_instances.specs.ListReadings.{names_read}
use Rattle.ab_instances.proofs.Made.{names_stay, names_held}
use Rattle.ab_formulas.specs.Sequents.{Sequent}
use Rattle.ab_alternatives.specs.AtomReadings.{defined_read, choice_read}
use Rattle.ab_alternatives.proofs.UnfoldingCase.{own_from, problem_is, conclusion_is}
use Rattle.ab_alternatives.proofs.one_choice.conclusion_by.Goals as goal

pub solve_unfolding-requires-clause-own : goal.solve_unfolding-requires-clause-own
solve_unfolding-requires-clause-own g c =
    let w = c.args.world.now in
    let s : Sequent = record { variables = []; hypotheses = []; conclusion = tree_of w.types w.store c.args.clause.now.head; counter = 0 } in
    own_from w.types c.make_unfolding.new.types w.store c.make_unfolding.new.store s (defined_read w c.args.atom.now) (choice_read w c.args.clause.now c.args.names.now) c.in_ok-made.made c.in_ok-made.ensures.made c.make_unfolding.ensures.unbound

pub solve_unfolding-requires-clause-names : goal.solve_unfolding-requires-clause-names
solve_unfolding-requires-clause-names g c = names_held c.args.world.now.types c.make_unfolding.new.types c.make_unfolding.ensures.grows.table c.args.names.now c.requires.names

pub returns-clause-grows : goal.returns-clause-grows
returns-clause-grows g c =
    grows_on c.args.world.now.types c.make_unfolding.new.types c.solve_unfolding.new.types c.args.world.now.store c.make_unfolding.new.store c.solve_unfolding.new.store c.make_unfolding.ensures.grows c.solve_unfolding.ensures.grows

pub returns-clause-formula : goal.returns-clause-formula
returns-clause-formula g c = λ s r e.
    let w = c.args.world.now in
    let U = c.make_unfolding.new.types in
    let V = c.make_unfolding.new.store in
    let d = defined_read w c.args.atom.now in
    let ch = choice_read w c.args.clause.now c.args.names.now in
    let made = c.in_ok-made.made in
    let o = c.in_ok-made.ensures.made in
    let none = c.make_unfolding.ensures.unbound in
    let b = c.solve_unfolding.ensures.formula r e in (
      b.0,
      b.1,
      subst (λ p. Solves (codes "x") p (unified b.0 b.1)) (problem_is w.types U w.store V s d ch made o none) b.2,
      conclusion_is w.types U w.store V s d ch made o none c.solve_unfolding.new.types c.solve_unfolding.new.store r c.deref.result.now (names_read U c.args.names.now)
          (c.deref.ensures.value ∙ c.in_ok-hints.ensures) (names_stay w.types U c.make_unfolding.ensures.grows.table c.args.names.now c.requires.names) b,
    )

pub returns-clause-apart : goal.returns-clause-apart
returns-clause-apart g c = λ s e.
    let w = c.args.world.now in
    subst (λ p. Solves (codes "x") p apart)
    (problem_is w.types c.make_unfolding.new.types w.store c.make_unfolding.new.store s (defined_read w c.args.atom.now) (choice_read w c.args.clause.now c.args.names.now) c.in_ok-made.made c.in_ok-made.ensures.made c.make_unfolding.ensures.unbound)
    (c.solve_unfolding.ensures.apart e)

pub returns-clause-stuck : goal.returns-clause-stuck
returns-clause-stuck g c = λ s i e.
    let w = c.args.world.now in
    subst (λ p. Solves (codes "x") p (stuck i))
    (problem_is w.types c.make_unfolding.new.types w.store c.make_unfolding.new.store s (defined_read w c.args.atom.now) (choice_read w c.args.clause.now c.args.names.now) c.in_ok-made.made c.in_ok-made.ensures.made c.make_unfolding.ensures.unbound)
    (c.solve_unfolding.ensures.stuck i e)
