use Rattle.std.proofs.Common.{◌∙◌, ap}
use Rattle.ab_logic.specs.Worlds.{Holds}
use Rattle.ab_search.specs.RulePlans.{NamesTerm}
use Rattle.ab_search_paths.proofs.Parts.{at_place, pushed}
use Rattle.ab_search.proofs.rule_plans.with_terms.Goals as goal
use Rattle.ab_search.proofs.rule_plans.with_terms.Goals.{in-Bound+in_ok-push-in-Bound, in-Term+in-Some+in_ok-push-in-Term}

pub loop-name-preserved : goal.loop-name-preserved
loop-name-preserved c = λ w all.
    elim c.match-name.branch [
      | in-Bound+in_ok-push-in-Bound b ↦
          pushed (NamesTerm w) c.loop-name.list.items c.match-name.list.items _ (ap (λ l. l.items) b.list-is ∙ b.in_ok-push-in-Bound.ensures.items) (c.loop-name.invariant w all) tt
      | in-Term+in-Some+in_ok-push-in-Term b ↦
          let l = b.in-Some.ensures.lookup in
          pushed (NamesTerm w) c.loop-name.list.items c.match-name.list.items _ (ap (λ l. l.items) b.list-is ∙ b.in_ok-push-in-Term.ensures.items) (c.loop-name.invariant w all)
          (at_place (Holds w) c.args.terms.now c.loop-name.next b.in-Some.term.now l.3.0 l.1 all)
    ]
