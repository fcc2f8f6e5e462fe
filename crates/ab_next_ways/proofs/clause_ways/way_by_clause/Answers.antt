use Rattle.std.proofs.Common.{List, ◌++◌, true, refl, sym, ◌∙◌, ap, subst}
use Rattle.std.specs.List.{All}
use Rattle.ab_norm.specs.ab_types.specs.Entries.{Table}
use Rattle.ab_norm.specs.Nominals.{HoldsNominal}
use Rattle.ab_norm.specs.declared.nominal.Nominal.{Nominal}
use Rattle.ab_unifiers.specs.Choices.{outside}
use Rattle.ab_judgements.specs.ab_alternatives.specs.ab_instances.specs.ListReadings.{names_read}
use Rattle.ab_logic.specs.Worlds.{read, declarations_of}
use Rattle.ab_logic.specs.declared.world.World.{World}
use Rattle.ab_judgements.specs.ab_alternatives.specs.ab_equations.proofs.Going.{world_meanwhile}
use Rattle.ab_judgements.specs.ab_alternatives.specs.ab_equations.proofs.Restored.{came_back, declarations_same}
use Rattle.ab_judgements.specs.ab_alternatives.specs.AtomReadings.{defined_read, choice_read}
use Rattle.ab_judgements.specs.ab_alternatives.specs.Choices.{read_choice}
use Rattle.ab_judgements.specs.ab_alternatives.specs.RightAlternatives.{IsOpened}
use Rattle.ab_judgements.specs.ab_alternatives.proofs.Unfoldable.{clause_defines}
use Rattle.ab_search_trees.specs.Ways.{with_constants}
use Rattle.ab_next_ways.proofs.ClauseChoice.{taken_so}
use Rattle.ab_next_ways.proofs.ClauseMade.{clause_made}
use Rattle.ab_next_ways.proofs.clause_ways.way_by_clause.Goals as goal

pub make_unfolding-requires-clause-taken : goal.make_unfolding-requires-clause-taken
make_unfolding-requires-clause-taken g c =
    let w = c.args.world.now in
    taken_so w (read w c.args.goal.now.conclusion) c.requires.conclusion.1 c.args.atom.now c.requires.atom.reads

pub make_unfolding-requires-clause-formula : goal.make_unfolding-requires-clause-formula
make_unfolding-requires-clause-formula g c = (clause_defines c.args.world.now c.args.atom.now c.requires.atom.held c.args.choice.now.clause.now c.requires.choice.clause).body

pub returns-clause-made : goal.returns-clause-made
returns-clause-made g c = λ base now aside stands.
    let w = c.args.world.now in
    let v : World = record { types = c.make_unfolding.new.types; store = c.make_unfolding.new.store; additions = w.additions } in
    let gr = came_back w v c.requires.world (record { grows = c.make_unfolding.ensures.grows; bindings = c.make_unfolding.ensures.unbound ∙ sym c.requires.world.unbound; additions = refl }) in
    let d = defined_read w c.args.atom.now in
    let ch = read_choice w c.args.choice.now in
    let made = c.in_ok-made.made in
    let opened = subst (λ (l : List Nominal). IsOpened w.types w.store d.block.predicates d.sign d.arguments (choice_read w c.args.choice.now.clause.now l) v.types v.store made) c.as_slice-names.ensures.value c.in_ok-made.ensures.made in
    let fresh = c.in_ok-fresh.fresh.items in
    let k = c.in_ok-only.only in
    let only = c.in_ok-only.ensures in
    clause_made w v c.requires.world gr (declarations_of w) c.args.goal.now c.requires.goal c.args.flexible.now d ch c.requires.among made opened fresh c.in_ok-fresh.ensures.held
    (c.in_ok-fresh.ensures.list ∙ ap (λ (l : List Nominal). outside (names_read w.types l) (names_read w.types c.args.constants.now)) c.deref.ensures.value ∙ ap (outside ch.names) c.requires.constants)
    k only.added only.conclusion
    (λ (types : Table) all new.
    subst (All (HoldsNominal types)) (sym only.constants)
    (c.in_ok-branch.ensures.held types (subst (All (HoldsNominal types)) (sym c.deref-2.ensures.value) all) (subst (All (HoldsNominal types)) (sym c.deref-3.ensures.value) new)))
    (λ (types : Table).
    ap (names_read types) only.constants ∙ c.in_ok-branch.ensures.reads types
    ∙ ap (λ (l : List Nominal). with_constants (names_read types l) (names_read types c.deref-2.result.now)) c.deref-3.ensures.value
    ∙ ap (λ (l : List Nominal). with_constants (names_read types fresh) (names_read types l)) c.deref-2.ensures.value)
    base now aside stands
    (only.reads v base)
    (record { flexible = c.extend_from_slice.new.self; equations = made.equations; serves = true; goals = c.in_ok-goals.goals }) (c.in_ok-extend_from_slice.ensures.items ∙ ap (λ l. l ++ c.deref-4.result.now) c.in_ok-cells.ensures.items ∙ ap (λ l. c.args.flexible.now ++ l) c.deref-4.ensures.value) refl refl c.in_ok-goals.ensures.items

pub returns-in_err-made-clause-grows : goal.returns-in_err-made-clause-grows
returns-in_err-made-clause-grows g c =
    let w = c.args.world.now in
    came_back w (record { types = c.make_unfolding.new.types; store = c.make_unfolding.new.store; additions = w.additions }) c.requires.world
    (record { grows = c.make_unfolding.ensures.grows; bindings = c.make_unfolding.ensures.unbound ∙ sym c.requires.world.unbound; additions = refl })

pub returns-in_err-made-clause-declared : goal.returns-in_err-made-clause-declared
returns-in_err-made-clause-declared g c =
    let w = c.args.world.now in
    declarations_same w (record { types = c.make_unfolding.new.types; store = c.make_unfolding.new.store; additions = w.additions }) (world_meanwhile w c.requires.world) c.make_unfolding.ensures.grows refl

pub returns-in_err-only-clause-grows : goal.returns-in_err-only-clause-grows
returns-in_err-only-clause-grows g c =
    let w = c.args.world.now in
    came_back w (record { types = c.make_unfolding.new.types; store = c.make_unfolding.new.store; additions = w.additions }) c.requires.world
    (record { grows = c.make_unfolding.ensures.grows; bindings = c.make_unfolding.ensures.unbound ∙ sym c.requires.world.unbound; additions = refl })

pub returns-in_err-only-clause-declared : goal.returns-in_err-only-clause-declared
returns-in_err-only-clause-declared g c =
    let w = c.args.world.now in
    declarations_same w (record { types = c.make_unfolding.new.types; store = c.make_unfolding.new.store; additions = w.additions }) (world_meanwhile w c.requires.world) c.make_unfolding.ensures.grows refl

pub returns-in_err-goals-clause-grows : goal.returns-in_err-goals-clause-grows
returns-in_err-goals-clause-grows g c =
    let w = c.args.world.now in
    came_back w (record { types = c.make_unfolding.new.types; store = c.make_unfolding.new.store; additions = w.additions }) c.requires.world
    (record { grows = c.make_unfolding.ensures.grows; bindings = c.make_unfolding.ensures.unbound ∙ sym c.requires.world.unbound; additions = refl })

pub returns-in_err-goals-clause-declared : goal.returns-in_err-goals-clause-declared
returns-in_err-goals-clause-declared g c =
    let w = c.args.world.now in
    declarations_same w (record { types = c.make_unfolding.new.types; store = c.make_unfolding.new.store; additions = w.additions }) (world_meanwhile w c.requires.world) c.make_unfolding.ensures.grows refl

pub returns-in_err-cells-clause-grows : goal.returns-in_err-cells-clause-grows
returns-in_err-cells-clause-grows g c =
    let w = c.args.world.now in
    came_back w (record { types = c.make_unfolding.new.types; store = c.make_unfolding.new.store; additions = w.additions }) c.requires.world
    (record { grows = c.make_unfolding.ensures.grows; bindings = c.make_unfolding.ensures.unbound ∙ sym c.requires.world.unbound; additions = refl })

pub returns-in_err-cells-clause-declared : goal.returns-in_err-cells-clause-declared
returns-in_err-cells-clause-declared g c =
    let w = c.args.world.now in
    declarations_same w (record { types = c.make_unfolding.new.types; store = c.make_unfolding.new.store; additions = w.additions }) (world_meanwhile w c.requires.world) c.make_unfolding.ensures.grows refl

pub returns-in_err-extend_from_slice-clause-grows : goal.returns-in_err-extend_from_slice-clause-grows
returns-in_err-extend_from_slice-clause-grows g c =
    let w = c.args.world.now in
    came_back w (record { types = c.make_unfolding.new.types; store = c.make_unfolding.new.store; additions = w.additions }) c.requires.world
    (record { grows = c.make_unfolding.ensures.grows; bindings = c.make_unfolding.ensures.unbound ∙ sym c.requires.world.unbound; additions = refl })

pub returns-in_err-extend_from_slice-clause-declared : goal.returns-in_err-extend_from_slice-clause-declared
returns-in_err-extend_from_slice-clause-declared g c =
    let w = c.args.world.now in
    declarations_same w (record { types = c.make_unfolding.new.types; store = c.make_unfolding.new.store; additions = w.additions }) (world_meanwhile w c.requires.world) c.make_unfolding.ensures.grows refl

pub returns-clause-grows : goal.returns-clause-grows
returns-clause-grows g c =
    let w = c.args.world.now in
    came_back w (record { types = c.make_unfolding.new.types; store = c.make_unfolding.new.store; additions = w.additions }) c.requires.world
    (record { grows = c.make_unfolding.ensures.grows; bindings = c.make_unfolding.ensures.unbound ∙ sym c.requires.world.unbound; additions = refl })

pub returns-clause-declared : goal.returns-clause-declared
returns-clause-declared g c =
    let w = c.args.world.now in
    declarations_same w (record { types = c.make_unfolding.new.types; store = c.make_unfolding.new.store; additions = w.additions }) (world_meanwhile w c.requires.world) c.make_unfolding.ensures.grows refl
