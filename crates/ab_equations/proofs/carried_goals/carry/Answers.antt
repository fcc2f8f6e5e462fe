use Rattle.std.specs.List.{All}
use Rattle.std.specs.Prelude.{AllPairs, is_none}
use Rattle.std.proofs.Common.{◌<◌, List, map, sym, subst, ◌∙◌}
use Rattle.std.proofs.lemmas.List.Elements.{All-filter}
use Rattle.ab_norm.specs.ab_store.specs.declared.node.CellId.{CellId}
use Rattle.ab_norm.specs.ab_store.specs.Trees.{HoldsCell}
use Rattle.ab_norm.specs.ab_store.specs.Reading.{binding_of}
use Rattle.ab_norm.specs.ab_store.specs.Bindings.{IsUnbound}
use Rattle.ab_norm.proofs.Frame.{if_ok}
use Rattle.ab_logic.specs.Worlds.{variable_of}
use Rattle.ab_equations.specs.Meanwhile.{unbound_of, StandForAll}
use Rattle.ab_equations.proofs.Going.{goes_on, still_meanwhile}
use Rattle.ab_equations.proofs.CarryingOver.{unbound_all, pairs_pass, is_carried}
use Rattle.ab_equations.proofs.carried_goals.carry.Goals as goal

pub stand_for_all-requires-clause-cells : goal.stand_for_all-requires-clause-cells
stand_for_all-requires-clause-cells g c =
    let store = c.args.world.now.store in
    subst (All (HoldsCell store)) (sym (c.deref.ensures.value ∙ c.in_ok-left.ensures)) (All-filter (λ d. is_none (binding_of store d)) (HoldsCell store) c.args.made.now c.requires.made)

pub stand_for_all-requires-clause-unbound : goal.stand_for_all-requires-clause-unbound
stand_for_all-requires-clause-unbound g c =
    let store = c.args.world.now.store in
    subst (All (IsUnbound store)) (sym (c.deref.ensures.value ∙ c.in_ok-left.ensures)) (unbound_all store c.args.made.now)

pub stand_for_all-requires-clause-in_age : goal.stand_for_all-requires-clause-in_age
stand_for_all-requires-clause-in_age g c =
    let store = c.args.world.now.store in
    subst (AllPairs (λ (a b : CellId). a.0 < b.0)) (sym (c.deref.ensures.value ∙ c.in_ok-left.ensures)) (pairs_pass (λ d. is_none (binding_of store d)) (λ (a b : CellId). a.0 < b.0) c.args.made.now c.requires.in_age)

pub resolved_goal-requires-clause-world : goal.resolved_goal-requires-clause-world
resolved_goal-requires-clause-world g c = still_meanwhile c.args.world.now c.stand_for_all.new.world c.stand_for_all.ensures.goes c.requires.world

pub returns-clause-goes : goal.returns-clause-goes
returns-clause-goes g c = goes_on c.args.world.now c.stand_for_all.new.world c.resolved_goal.new.world c.stand_for_all.ensures.goes c.resolved_goal.ensures.goes

pub returns-clause-carried : goal.returns-clause-carried
returns-clause-carried g c =
    let w = c.args.world.now in
    let v = c.stand_for_all.new.world in
    let stand : StandForAll w (map (variable_of w) (unbound_of w.store c.args.made.now)) c.args.goal v c.in_ok-over.over =
    subst (λ (l : List CellId). StandForAll w (map (variable_of w) l) c.args.goal v c.in_ok-over.over) (c.deref.ensures.value ∙ c.in_ok-left.ensures) c.in_ok-over.ensures.stand in
    if_ok c.resolved_goal.result (λ k put. is_carried w v c.resolved_goal.new.world c.args.made.now c.args.goal c.in_ok-over.over k c.requires.world c.requires.goal c.requires.made c.requires.apart stand put c.resolved_goal.ensures.goes.types c.resolved_goal.ensures.cells) c.resolved_goal.ensures.put_in
