use Rattle.std.proofs.Common.{◌≡◌, List, [], ◌∷◌, map, ◌∙◌, subst}
use Rattle.ab_norm.specs.ab_store.specs.declared.node.TermId.{TermId}
use Rattle.ab_unify.specs.Problem.{cells_read}
use Rattle.ab_logic.specs.SequentReadings.{sequent_of}
use Rattle.ab_search_trees.specs.Goals.{Goal, Now, beginning, first_goal}
use Rattle.ab_walk.specs.Paths.{WhereFound, LeadToAnswer}
use Rattle.ab_walk.specs.Places.{goals_read}
use Rattle.ab_norm.proofs.Frame.{if_ok}
use Rattle.ab_walk.proofs.Beginnings.{formula_of, begins}
use Rattle.ab_walk.proofs.goal_search.search.Goals as goal

pub walk-requires : goal.walk-requires
walk-requires g c =
    let w = c.args.world.now in
    let p = c.args.goal.now in
    let base = c.deref.result.now in
    let has = begins w c.requires.world p c.requires.goal c.requires.sequent c.args.depth base c.in_ok-place.place c.in_ok-place.ensures.answer (c.in_ok-place.ensures.place base (c.deref.ensures.value ∙ c.in_ok-base.ensures)) in
    λ κs out. (out, (c.requires.world, ((has.0, has.2), c.requires.empty)))

pub returns-clause-told : goal.returns-clause-told
returns-clause-told g c =
    let w = c.args.world.now in
    let p = c.args.goal.now in
    let base = c.deref.result.now in
    let has = begins w c.requires.world p c.requires.goal c.requires.sequent c.args.depth base c.in_ok-place.place c.in_ok-place.ensures.answer (c.in_ok-place.ensures.place base (c.deref.ensures.value ∙ c.in_ok-base.ensures)) in
    if_ok c.walk.result (λ told tells. (has.0, has.1, tells has.0 has.2)) c.walk.ensures.told

pub returns-clause-leads : goal.returns-clause-leads
returns-clause-leads g c =
    let w = c.args.world.now in
    let v = c.walk.new.world in
    let p = c.args.goal.now in
    let base = c.deref.result.now in
    let same : base ≡ map formula_of p.hypotheses = c.deref.ensures.value ∙ c.in_ok-base.ensures in
    let is_place = c.in_ok-place.ensures.place base same in
    let has = begins w c.requires.world p c.requires.goal c.requires.sequent c.args.depth base c.in_ok-place.place c.in_ok-place.ensures.answer is_place in
    if_ok c.walk.result (λ told leads.
    subst (λ (b : List TermId). WhereFound told (LeadToAnswer v b (beginning (cells_read w.types w.store) (sequent_of w p)) (first_goal c.args.depth (sequent_of w p) ∷ []) c.walk.new.path.items)) same
    (subst (λ (gs : List Goal). WhereFound told (LeadToAnswer v base (beginning (cells_read w.types w.store) (sequent_of w p)) gs c.walk.new.path.items)) is_place.reads
    (subst (λ (k : Now). WhereFound told (LeadToAnswer v base k (goals_read w base c.in_ok-place.place.goals) c.walk.new.path.items)) has.3 (leads has.0 has.2)))) c.walk.ensures.leads
