use Rattle.std.proofs.Common.{◌≡◌, [], refl}
use Rattle.ab_norm.specs.ab_types.specs.Entries.{Table}
use Rattle.ab_norm.specs.ab_store.specs.Trees.{Contents}
use Rattle.ab_unify.specs.StoreChanges as changed
use Rattle.ab_logic.specs.Worlds.{IsWorld}
use Rattle.ab_logic.specs.declared.world.World.{World}
use Rattle.ab_alternatives.specs.CaseSteps.{IsLater}
use Rattle.ab_alternatives.proofs.Tried.{grown, declared}
use Rattle.ab_analyses.specs.declared.answers.Alternative.{Alternative as Kept}
use Rattle.ab_analyses.proofs.ChoiceAlternatives.{raises_are, IsMadeFor, made_for}
use Rattle.ab_analyses.proofs.atoms.by_choice.Given.{Over}
use Rattle.ab_analyses.proofs.atoms.by_choice.Goals as goal

-- the world in which it is made
later_so : (w : World) (U : Table) (V : Contents) → IsWorld w → changed.Grows w.types w.store U V → V.bindings ≡ [] → IsLater w (record { types = U; store = V; additions = w.additions })
later_so w U V is g unbound = record { grown = g; additions = refl; grows = grown w U V is g unbound; declared = declared w U V is g }

pub returns-in_err-made-clause-later : goal.returns-in_err-made-clause-later
returns-in_err-made-clause-later g c = later_so c.args.world.now c.make_alternative.new.types c.make_alternative.new.store c.requires.ready.world c.make_alternative.ensures.grows c.make_alternative.ensures.unbound

pub returns-in_err-add_raises-clause-later : goal.returns-in_err-add_raises-clause-later
returns-in_err-add_raises-clause-later g c = later_so c.args.world.now c.make_alternative.new.types c.make_alternative.new.store c.requires.ready.world c.make_alternative.ensures.grows c.make_alternative.ensures.unbound

pub returns-clause-later : goal.returns-clause-later
returns-clause-later g c = later_so c.args.world.now c.make_alternative.new.types c.make_alternative.new.store c.requires.ready.world c.make_alternative.ensures.grows c.make_alternative.ensures.unbound

-- the alternative that is made
made_here : (g : Over) (c : goal.After-drop-made-3 g)
    → IsMadeFor c.args.world.now (record { types = c.make_alternative.new.types; store = c.make_alternative.new.store; additions = c.args.world.now.additions }) c.args.goal.now c.args.atom.now c.args.choice.now c.args.on_left
    (record { fresh = c.in_ok-fresh.fresh; raised = c.add_raises.new.raised; made = c.in_ok-made.made.own; equations = c.in_ok-made.made.equations; body = c.in_ok-made.made.body })
made_here g c =
    let w = c.args.world.now in
    let v : World = record { types = c.make_alternative.new.types; store = c.make_alternative.new.store; additions = w.additions } in
    let alt = c.in_ok-made.made in
    let k : Kept = record { fresh = c.in_ok-fresh.fresh; raised = c.add_raises.new.raised; made = alt.own; equations = alt.equations; body = alt.body } in
    let ys = c.raised_variables-variables.result.now in
    let raised = raises_are c.add_raises.new.raised.items c.new-raised.result.items ys c.deref-3.result.now alt.raised.terms.items c.in_ok-add_raises.ensures c.new-raised.ensures.items c.deref-3.ensures.value in
    made_for w v c.make_alternative.ensures.grows c.args.goal.now c.args.atom.now c.args.constants.now c.requires.ready c.args.choice.now c.requires.choice c.args.on_left alt ys c.raised_variables-variables.ensures
    c.deref-2.result.now c.deref-2.ensures.value c.in_ok-made.ensures.made k c.in_ok-fresh.fresh.items (refl, raised, refl, refl, refl) c.in_ok-fresh.ensures.held c.deref.result.now c.deref.ensures.value c.in_ok-fresh.ensures.list

pub returns-clause-stands : goal.returns-clause-stands
returns-clause-stands g c = (made_here g c).stands

pub returns-clause-held : goal.returns-clause-held
returns-clause-held g c = (made_here g c).held

pub returns-clause-cells : goal.returns-clause-cells
returns-clause-cells g c = (made_here g c).cells
