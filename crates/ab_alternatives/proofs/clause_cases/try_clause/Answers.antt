use Rattle.std.proofs.Common.{◌≡◌, List, map, bytes_eq, true, sym, ◌∙◌, ap, subst}
use Rattle.ab_formulas.specs.CaseClauses as kept
use Rattle.ab_typing.specs.DefinitionReadings.{clause_of}
use Rattle.ab_instances.specs.ListReadings.{names_read}
use Rattle.ab_logic.specs.SequentReadings.{sequent_of}
use Rattle.ab_theory.specs.Splits.{CaseOver}
use Rattle.ab_alternatives.specs.AtomReadings.{defined_read}
use Rattle.ab_alternatives.specs.CaseSteps.{ArePassed, AreStopped}
use Rattle.ab_alternatives.proofs.Chosen.{listed_fit, clause_cases_are}
use Rattle.ab_alternatives.proofs.clause_cases.try_clause.Goals as goal

pub try_choices-requires-clause-fit : goal.try_choices-requires-clause-fit
try_choices-requires-clause-fit g c =
    let w = c.args.world.now in
    let cl = kept.case_of (clause_of w.types w.store c.args.clause.now) in
    listed_fit w.types c.as_slice-choices.result.now (map (λ z. z.type) cl.names) (names_read w.types c.args.constants.now.of_atom.items) (names_read w.types c.args.constants.now.of_goal.items)
    (ap (map (names_read w.types)) c.as_slice-choices.ensures ∙ c.in_ok-choices.ensures.list)

pub returns-clause-passed : goal.returns-clause-passed
returns-clause-passed g c = λ e.
    let w = c.args.world.now in
    let s = sequent_of w c.args.goal.now in
    let t = sequent_of w c.args.rest.now in
    let d = defined_read w c.args.atom.now in
    let cl = kept.case_of (clause_of w.types w.store c.args.clause.now) in
    let of_it : bytes_eq cl.predicate d.predicate ≡ true = sym c.is_of.ensures ∙ c.if-not-is_of.false in
    let same = clause_cases_are w.types s t c.args.name.now d cl of_it c.as_slice-choices.result.now (names_read w.types c.args.constants.now.of_atom.items) (names_read w.types c.args.constants.now.of_goal.items)
    c.requires.ready.of_atom c.requires.ready.of_goal (ap (map (names_read w.types)) c.as_slice-choices.ensures ∙ c.in_ok-choices.ensures.list) in
    subst (λ (cs : List CaseOver). ArePassed w c.args.goals.now.items cs c.try_choices.new.world c.try_choices.new.goals.items) (sym same) (c.try_choices.ensures.passed e)

pub returns-clause-stopped : goal.returns-clause-stopped
returns-clause-stopped g c = λ i e.
    let w = c.args.world.now in
    let s = sequent_of w c.args.goal.now in
    let t = sequent_of w c.args.rest.now in
    let d = defined_read w c.args.atom.now in
    let cl = kept.case_of (clause_of w.types w.store c.args.clause.now) in
    let of_it : bytes_eq cl.predicate d.predicate ≡ true = sym c.is_of.ensures ∙ c.if-not-is_of.false in
    let same = clause_cases_are w.types s t c.args.name.now d cl of_it c.as_slice-choices.result.now (names_read w.types c.args.constants.now.of_atom.items) (names_read w.types c.args.constants.now.of_goal.items)
    c.requires.ready.of_atom c.requires.ready.of_goal (ap (map (names_read w.types)) c.as_slice-choices.ensures ∙ c.in_ok-choices.ensures.list) in
    subst (λ (cs : List CaseOver). AreStopped w cs i) (sym same) (c.try_choices.ensures.stopped i e)
