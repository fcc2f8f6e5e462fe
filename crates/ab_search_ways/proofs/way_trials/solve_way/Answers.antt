use Rattle.std.proofs.Common.{◌++◌, Ok, sym, ◌∙◌, ap, subst, codes, List}
use Rattle.std.specs.Prelude.{All, Contains}
use Rattle.ab_term.proofs.Lists.{All-from_contains}
use Rattle.ab_norm.specs.ab_store.specs.declared.node.CellId.{CellId}
use Rattle.ab_norm.specs.ab_store.specs.Trees.{HoldsCell}
use Rattle.ab_unifiers.specs.Unification.{unified, Solves}
use Rattle.ab_unify.specs.Problem.{problem}
use Rattle.ab_unify.specs.UnifyAnswers.{HasSolution, AreNewCells, AreInAge, AreLeft}
use Rattle.ab_unify.specs.declared.answers.Solved.TheVariants.{Unified}
use Rattle.ab_unify.proofs.Growth.{grows_on, grows_terms}
use Rattle.ab_equations.proofs.Outcomes.{at_ok, at_unified}
use Rattle.ab_search_ways.specs.GoalsLeft.{IsLeft}
use Rattle.ab_search_ways.proofs.Ahead.{place_is}
use Rattle.ab_search_ways.proofs.Posed.{posed}
use Rattle.ab_search_ways.proofs.way_trials.solve_way.Goals as goal

pub place_ahead-requires-clause-made : goal.place_ahead-requires-clause-made
place_ahead-requires-clause-made g c =
    let old = c.args.world.now.store in
    let now = c.unify.new.store in
    let made = c.in-Unified.made in
    let new : AreNewCells old now made = at_unified c.unify.result made (AreNewCells old now) (c.in_ok-unify.was ∙ ap Ok c.in-Unified.is) c.unify.ensures.made in
    subst (All (HoldsCell now)) (sym c.as_slice.ensures) (All-from_contains (HoldsCell now) made (λ d m. ((new d).0 m).0))

pub returns-in_err-place-in-Unified-clause-grows : goal.returns-in_err-place-in-Unified-clause-grows
returns-in_err-place-in-Unified-clause-grows g c =
    grows_on c.args.world.now.types c.unify.new.types c.unify.new.types c.args.world.now.store c.unify.new.store c.place_ahead.new.store c.unify.ensures.grows (grows_terms c.unify.new.types c.unify.new.store c.place_ahead.new.store c.place_ahead.ensures.adds)

pub returns-in_ok-place-in-Unified-clause-grows : goal.returns-in_ok-place-in-Unified-clause-grows
returns-in_ok-place-in-Unified-clause-grows g c =
    grows_on c.args.world.now.types c.unify.new.types c.unify.new.types c.args.world.now.store c.unify.new.store c.place_ahead.new.store c.unify.ensures.grows (grows_terms c.unify.new.types c.unify.new.store c.place_ahead.new.store c.place_ahead.ensures.adds)

pub returns-in_ok-place-in-Unified-clause-tried : goal.returns-in_ok-place-in-Unified-clause-tried
returns-in_ok-place-in-Unified-clause-tried g c = λ base now way m.
    let w = c.args.world.now in
    let given = c.args.way.now in
    let rest = c.args.rest.now in
    let U = c.unify.new.types in
    let V = c.unify.new.store in
    let made = c.in-Unified.made in
    let es = c.deref.result.now in
    let fs = c.deref-2.result.now in
    let answered = c.in_ok-unify.was ∙ ap Ok c.in-Unified.is in
    let solution : HasSolution (problem w.types w.store es fs) = (at_ok c.unify.result (Unified made) _ answered c.unify.ensures.unified).0 tt in
    let more = solution.0 in
    let q = solution.1 in
    let solves = solution.2 in
    let flexible_is = c.deref-2.ensures.value in
    let left = subst (λ l. AreLeft w.store l U V q) flexible_is (at_unified c.unify.result made _ answered c.unify.ensures.left more q solves) in
    let new : AreNewCells w.store V made = at_unified c.unify.result made (AreNewCells w.store V) answered c.unify.ensures.made in
    let in_age : AreInAge made = at_unified c.unify.result made AreInAge answered c.unify.ensures.in_age in
    let X = c.place_ahead.new.store in
    let p = c.in_ok-place-in-Unified.place in
    let is_left = subst (λ (l : List CellId). IsLeft U V X (given.flexible.items ++ l) (given.goals.items ++ rest) p) c.as_slice.ensures c.in_ok-place-in-Unified.ensures.left in (
      m.serves.0 c.if-not-way.false,
      more,
      q,
      subst (λ k. Solves (codes "x") k (unified more q)) (posed w base way given m es fs c.deref.ensures.value flexible_is) solves,
      place_is w c.requires.world given c.requires.way c.requires.typed rest c.requires.rest c.requires.rest_typed U V c.unify.ensures.grows more q
          (at_unified c.unify.result made _ answered c.unify.ensures.reads more q solves) (at_unified c.unify.result made _ answered c.unify.ensures.cells more q solves) left
          (λ d free absent. c.unify.ensures.others d free (λ k. absent (subst (λ l. Contains l d) flexible_is k))) made new in_age X c.place_ahead.ensures.adds p is_left base now way m,
    )
