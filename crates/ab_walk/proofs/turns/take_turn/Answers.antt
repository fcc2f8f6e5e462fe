use Rattle.std.proofs.Common.{◌≡◌, List, ◌∷◌, sym, ◌∙◌, ap, subst}
use Rattle.ab_norm.specs.ab_store.specs.declared.node.CellId.{CellId}
use Rattle.ab_unify.specs.Problem.{variables_read}
use Rattle.ab_logic.specs.Worlds.{read}
use Rattle.ab_logic.proofs.Growing.{grows_on}
use Rattle.ab_search_trees.specs.Judgements.{is_blind}
use Rattle.ab_next_ways.specs.ab_search_ways.specs.GoalReadings.{StandsFor}
use Rattle.ab_next_ways.specs.ab_search_ways.specs.declared.goal.Goal.{Goal}
use Rattle.ab_walk.specs.Standing.{LeftAt}
use Rattle.ab_walk.proofs.TurnsTaken.{opened, typed, held, Stepped, rest_there, turn_passed, turn_over, made_held, made_typed, turn_apart, turn_refused, turn_stuck, turn_ahead}
use Rattle.ab_walk.proofs.turns.take_turn.Goals as goal

pub returns-in_default-clause-turn : goal.returns-in_default-clause-turn
returns-in_default-clause-turn g c = λ at ls n o.
    let w = c.args.world.now in
    (c.in_default.ensures, subst (λ (l : List Goal). LeftAt w c.args.base.now at l c.args.cursor.now ls n) c.in_default.ensures o.1)

pub next_way-requires-clause-goal : goal.next_way-requires-clause-goal
next_way-requires-clause-goal g c =
    let w = c.args.world.now in
    let p = c.args.place.now in
    let k = c.in-Some.goal.now in
    let ks = c.in-Some.rest.now in
    let goals : p.goals ≡ k ∷ ks = c.in-Some.ensures in
    held w c.requires.world c.args.base.now p k ks goals c.requires.open.0 c.requires.open.3.0

pub next_way-requires-clause-cursor : goal.next_way-requires-clause-cursor
next_way-requires-clause-cursor g c =
    let w = c.args.world.now in
    let p = c.args.place.now in
    let k = c.in-Some.goal.now in
    let ks = c.in-Some.rest.now in
    let goals : p.goals ≡ k ∷ ks = c.in-Some.ensures in
    (opened w c.requires.world c.args.base.now p k ks goals c.requires.open.0 c.args.cursor.now c.requires.open.1 c.requires.open.2 c.requires.open.3).1

pub next_way-requires-clause-typed : goal.next_way-requires-clause-typed
next_way-requires-clause-typed g c =
    let w = c.args.world.now in
    let p = c.args.place.now in
    let k = c.in-Some.goal.now in
    let ks = c.in-Some.rest.now in
    let goals : p.goals ≡ k ∷ ks = c.in-Some.ensures in
    typed w c.requires.world c.args.base.now p k ks goals c.requires.open.0 c.requires.open.3.0

pub returns-in-Passed-clause-turn : goal.returns-in-Passed-clause-turn
returns-in-Passed-clause-turn g c = λ at ls n o.
    let w = c.args.world.now in
    let p = c.args.place.now in
    let k = c.in-Some.goal.now in
    let ks = c.in-Some.rest.now in
    let goals : p.goals ≡ k ∷ ks = c.in-Some.ensures in
    let e = c.in_ok-next_way.ensures in
    let v = c.next_way.new.world in
    let d = c.next_way.new.cursor in
    let r = c.in_ok-next_way.field-0 in
    let t : Stepped w c.args.base.now p c.args.cursor.now k ks v d r = record {
      world = c.requires.world;
      goals = goals;
      later = record { grows = e.grows; declared = e.declared };
      cursor = e.held;
      told = λ now ws stands left. e.step now ws (subst (λ (l : List CellId). StandsFor w l now) (sym c.as_slice-flexible.ensures.value) stands) left;
      onward = e.onward;
    } in
    turn_passed w c.args.base.now p c.args.cursor.now k ks v d r t at ls n o c.in-Passed.is

pub is_blind-requires : goal.is_blind-requires
is_blind-requires g c =
    let w = c.args.world.now in
    let p = c.args.place.now in
    let k = c.in-Some.goal.now in
    let ks = c.in-Some.rest.now in
    let goals : p.goals ≡ k ∷ ks = c.in-Some.ensures in
    let e = c.in_ok-next_way.ensures in
    let v = c.next_way.new.world in
    let d = c.next_way.new.cursor in
    let r = c.in_ok-next_way.field-0 in
    let t : Stepped w c.args.base.now p c.args.cursor.now k ks v d r = record {
      world = c.requires.world;
      goals = goals;
      later = record { grows = e.grows; declared = e.declared };
      cursor = e.held;
      told = λ now ws stands left. e.step now ws (subst (λ (l : List CellId). StandsFor w l now) (sym c.as_slice-flexible.ensures.value) stands) left;
      onward = e.onward;
    } in
    record { formula = t.later.grows.ids k.conclusion (held w c.requires.world c.args.base.now p k ks goals c.requires.open.0 c.requires.open.3.0).conclusion }

pub returns-in-Ended-clause-turn : goal.returns-in-Ended-clause-turn
returns-in-Ended-clause-turn g c = λ at ls n o.
    let w = c.args.world.now in
    let p = c.args.place.now in
    let k = c.in-Some.goal.now in
    let ks = c.in-Some.rest.now in
    let goals : p.goals ≡ k ∷ ks = c.in-Some.ensures in
    let e = c.in_ok-next_way.ensures in
    let v = c.next_way.new.world in
    let d = c.next_way.new.cursor in
    let r = c.in_ok-next_way.field-0 in
    let t : Stepped w c.args.base.now p c.args.cursor.now k ks v d r = record {
      world = c.requires.world;
      goals = goals;
      later = record { grows = e.grows; declared = e.declared };
      cursor = e.held;
      told = λ now ws stands left. e.step now ws (subst (λ (l : List CellId). StandsFor w l now) (sym c.as_slice-flexible.ensures.value) stands) left;
      onward = e.onward;
    } in
    turn_over w c.args.base.now p c.args.cursor.now k ks v d r t at ls n o c.in-Ended.is c.is_blind.result
    (c.is_blind.ensures v.types ∙ ap (λ (l : List CellId). is_blind (variables_read v.types v.store l) (read v k.conclusion)) c.as_slice-flexible.ensures.value)

pub try_way-requires-clause-way : goal.try_way-requires-clause-way
try_way-requires-clause-way g c =
    let w = c.args.world.now in
    let p = c.args.place.now in
    let k = c.in-Some.goal.now in
    let ks = c.in-Some.rest.now in
    let goals : p.goals ≡ k ∷ ks = c.in-Some.ensures in
    let e = c.in_ok-next_way.ensures in
    let v = c.next_way.new.world in
    let d = c.next_way.new.cursor in
    let r = c.in_ok-next_way.field-0 in
    let t : Stepped w c.args.base.now p c.args.cursor.now k ks v d r = record {
      world = c.requires.world;
      goals = goals;
      later = record { grows = e.grows; declared = e.declared };
      cursor = e.held;
      told = λ now ws stands left. e.step now ws (subst (λ (l : List CellId). StandsFor w l now) (sym c.as_slice-flexible.ensures.value) stands) left;
      onward = e.onward;
    } in
    made_held w c.args.base.now p c.args.cursor.now k ks v d r t c.requires.open.0 c.requires.open.1 c.requires.open.2 c.requires.open.3 c.in-Made.way c.in-Made.is

pub try_way-requires-clause-typed : goal.try_way-requires-clause-typed
try_way-requires-clause-typed g c =
    let w = c.args.world.now in
    let p = c.args.place.now in
    let k = c.in-Some.goal.now in
    let ks = c.in-Some.rest.now in
    let goals : p.goals ≡ k ∷ ks = c.in-Some.ensures in
    let e = c.in_ok-next_way.ensures in
    let v = c.next_way.new.world in
    let d = c.next_way.new.cursor in
    let r = c.in_ok-next_way.field-0 in
    let t : Stepped w c.args.base.now p c.args.cursor.now k ks v d r = record {
      world = c.requires.world;
      goals = goals;
      later = record { grows = e.grows; declared = e.declared };
      cursor = e.held;
      told = λ now ws stands left. e.step now ws (subst (λ (l : List CellId). StandsFor w l now) (sym c.as_slice-flexible.ensures.value) stands) left;
      onward = e.onward;
    } in
    made_typed w c.args.base.now p c.args.cursor.now k ks v d r t c.requires.open.0 c.requires.open.1 c.requires.open.2 c.requires.open.3 c.in-Made.way c.in-Made.is

pub try_way-requires-clause-rest : goal.try_way-requires-clause-rest
try_way-requires-clause-rest g c =
    let w = c.args.world.now in
    let p = c.args.place.now in
    let k = c.in-Some.goal.now in
    let ks = c.in-Some.rest.now in
    let goals : p.goals ≡ k ∷ ks = c.in-Some.ensures in
    let e = c.in_ok-next_way.ensures in
    let v = c.next_way.new.world in
    let d = c.next_way.new.cursor in
    let r = c.in_ok-next_way.field-0 in
    let t : Stepped w c.args.base.now p c.args.cursor.now k ks v d r = record {
      world = c.requires.world;
      goals = goals;
      later = record { grows = e.grows; declared = e.declared };
      cursor = e.held;
      told = λ now ws stands left. e.step now ws (subst (λ (l : List CellId). StandsFor w l now) (sym c.as_slice-flexible.ensures.value) stands) left;
      onward = e.onward;
    } in
    (rest_there w c.args.base.now p c.args.cursor.now k ks v d r t c.requires.open.0 c.requires.open.1 c.requires.open.2 c.requires.open.3).0

pub try_way-requires-clause-rest_typed : goal.try_way-requires-clause-rest_typed
try_way-requires-clause-rest_typed g c =
    let w = c.args.world.now in
    let p = c.args.place.now in
    let k = c.in-Some.goal.now in
    let ks = c.in-Some.rest.now in
    let goals : p.goals ≡ k ∷ ks = c.in-Some.ensures in
    let e = c.in_ok-next_way.ensures in
    let v = c.next_way.new.world in
    let d = c.next_way.new.cursor in
    let r = c.in_ok-next_way.field-0 in
    let t : Stepped w c.args.base.now p c.args.cursor.now k ks v d r = record {
      world = c.requires.world;
      goals = goals;
      later = record { grows = e.grows; declared = e.declared };
      cursor = e.held;
      told = λ now ws stands left. e.step now ws (subst (λ (l : List CellId). StandsFor w l now) (sym c.as_slice-flexible.ensures.value) stands) left;
      onward = e.onward;
    } in
    (rest_there w c.args.base.now p c.args.cursor.now k ks v d r t c.requires.open.0 c.requires.open.1 c.requires.open.2 c.requires.open.3).1

pub returns-in_err-try_way-in-Made-clause-grows : goal.returns-in_err-try_way-in-Made-clause-grows
returns-in_err-try_way-in-Made-clause-grows g c = grows_on c.args.world.now c.next_way.new.world c.try_way.new.world c.in_ok-next_way.ensures.grows c.try_way.ensures.grows

pub returns-in-Apart-clause-grows : goal.returns-in-Apart-clause-grows
returns-in-Apart-clause-grows g c = grows_on c.args.world.now c.next_way.new.world c.try_way.new.world c.in_ok-next_way.ensures.grows c.try_way.ensures.grows

pub returns-in-Refused-clause-grows : goal.returns-in-Refused-clause-grows
returns-in-Refused-clause-grows g c = grows_on c.args.world.now c.next_way.new.world c.try_way.new.world c.in_ok-next_way.ensures.grows c.try_way.ensures.grows

pub returns-in-Stuck-clause-grows : goal.returns-in-Stuck-clause-grows
returns-in-Stuck-clause-grows g c = grows_on c.args.world.now c.next_way.new.world c.try_way.new.world c.in_ok-next_way.ensures.grows c.try_way.ensures.grows

pub returns-clause-grows : goal.returns-clause-grows
returns-clause-grows g c = grows_on c.args.world.now c.next_way.new.world c.try_way.new.world c.in_ok-next_way.ensures.grows c.try_way.ensures.grows

pub returns-in-Apart-clause-turn : goal.returns-in-Apart-clause-turn
returns-in-Apart-clause-turn g c = λ at ls n o.
    let w = c.args.world.now in
    let p = c.args.place.now in
    let k = c.in-Some.goal.now in
    let ks = c.in-Some.rest.now in
    let goals : p.goals ≡ k ∷ ks = c.in-Some.ensures in
    let e = c.in_ok-next_way.ensures in
    let v = c.next_way.new.world in
    let d = c.next_way.new.cursor in
    let r = c.in_ok-next_way.field-0 in
    let t : Stepped w c.args.base.now p c.args.cursor.now k ks v d r = record {
      world = c.requires.world;
      goals = goals;
      later = record { grows = e.grows; declared = e.declared };
      cursor = e.held;
      told = λ now ws stands left. e.step now ws (subst (λ (l : List CellId). StandsFor w l now) (sym c.as_slice-flexible.ensures.value) stands) left;
      onward = e.onward;
    } in
    turn_apart w c.args.base.now p c.args.cursor.now k ks v d r t at ls n o c.in-Made.way c.in-Made.is c.try_way.new.world (record { grows = c.try_way.ensures.grows; declared = c.try_way.ensures.declared }) c.in_ok-try_way-in-Made.field-0 c.in_ok-try_way-in-Made.ensures.tried c.in-Apart.is

pub returns-in-Refused-clause-turn : goal.returns-in-Refused-clause-turn
returns-in-Refused-clause-turn g c = λ at ls n o.
    let w = c.args.world.now in
    let p = c.args.place.now in
    let k = c.in-Some.goal.now in
    let ks = c.in-Some.rest.now in
    let goals : p.goals ≡ k ∷ ks = c.in-Some.ensures in
    let e = c.in_ok-next_way.ensures in
    let v = c.next_way.new.world in
    let d = c.next_way.new.cursor in
    let r = c.in_ok-next_way.field-0 in
    let t : Stepped w c.args.base.now p c.args.cursor.now k ks v d r = record {
      world = c.requires.world;
      goals = goals;
      later = record { grows = e.grows; declared = e.declared };
      cursor = e.held;
      told = λ now ws stands left. e.step now ws (subst (λ (l : List CellId). StandsFor w l now) (sym c.as_slice-flexible.ensures.value) stands) left;
      onward = e.onward;
    } in
    turn_refused w c.args.base.now p c.args.cursor.now k ks v d r t at ls n o c.in-Made.way c.in-Made.is c.try_way.new.world (record { grows = c.try_way.ensures.grows; declared = c.try_way.ensures.declared }) c.in_ok-try_way-in-Made.field-0 c.in_ok-try_way-in-Made.ensures.tried c.in-Refused.is

pub returns-in-Stuck-clause-turn : goal.returns-in-Stuck-clause-turn
returns-in-Stuck-clause-turn g c = λ at ls n o.
    let w = c.args.world.now in
    let p = c.args.place.now in
    let k = c.in-Some.goal.now in
    let ks = c.in-Some.rest.now in
    let goals : p.goals ≡ k ∷ ks = c.in-Some.ensures in
    let e = c.in_ok-next_way.ensures in
    let v = c.next_way.new.world in
    let d = c.next_way.new.cursor in
    let r = c.in_ok-next_way.field-0 in
    let t : Stepped w c.args.base.now p c.args.cursor.now k ks v d r = record {
      world = c.requires.world;
      goals = goals;
      later = record { grows = e.grows; declared = e.declared };
      cursor = e.held;
      told = λ now ws stands left. e.step now ws (subst (λ (l : List CellId). StandsFor w l now) (sym c.as_slice-flexible.ensures.value) stands) left;
      onward = e.onward;
    } in
    turn_stuck w c.args.base.now p c.args.cursor.now k ks v d r t at ls n o c.in-Made.way c.in-Made.is c.try_way.new.world (record { grows = c.try_way.ensures.grows; declared = c.try_way.ensures.declared }) c.in_ok-try_way-in-Made.field-0 c.in_ok-try_way-in-Made.ensures.tried c.in-Stuck.equation c.in-Stuck.is

pub returns-clause-turn : goal.returns-clause-turn
returns-clause-turn g c = λ at ls n o.
    let w = c.args.world.now in
    let p = c.args.place.now in
    let k = c.in-Some.goal.now in
    let ks = c.in-Some.rest.now in
    let goals : p.goals ≡ k ∷ ks = c.in-Some.ensures in
    let e = c.in_ok-next_way.ensures in
    let v = c.next_way.new.world in
    let d = c.next_way.new.cursor in
    let r = c.in_ok-next_way.field-0 in
    let t : Stepped w c.args.base.now p c.args.cursor.now k ks v d r = record {
      world = c.requires.world;
      goals = goals;
      later = record { grows = e.grows; declared = e.declared };
      cursor = e.held;
      told = λ now ws stands left. e.step now ws (subst (λ (l : List CellId). StandsFor w l now) (sym c.as_slice-flexible.ensures.value) stands) left;
      onward = e.onward;
    } in
    turn_ahead w c.args.base.now p c.args.cursor.now k ks v d r t at ls n o c.in-Made.way c.in-Made.is c.try_way.new.world (record { grows = c.try_way.ensures.grows; declared = c.try_way.ensures.declared }) c.in_ok-try_way-in-Made.field-0 c.in_ok-try_way-in-Made.ensures.tried c.in_ok-try_way-in-Made.ensures.answer c.in-Ahead.ahead c.in-Ahead.is
