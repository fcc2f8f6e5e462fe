use Rattle.std.proofs.Common.{sym, ◌∙◌, subst}
use Rattle.ab_syntax.specs.ab_expressions.specs.SyntaxTrees.{tree_of}
use Rattle.ab_norm.specs.ab_types.specs.Ids.{type_of}
use Rattle.ab_logic.specs.SequentReadings.{sequent_of}
use Rattle.ab_formulas.specs.Sequents.{IsSequent}
use Rattle.ab_logic.specs.Worlds.{declarations_of}
use Rattle.ab_logic.specs.declared.world.World.{World}
use Rattle.ab_logic.proofs.Growing.{grows_on, same_sequent}
use Rattle.ab_declare.proofs.Restoring.{adds_nothing}
use Rattle.ab_declare.proofs.Statements.{grows_later, declares_same}
use Rattle.ab_proofcmd.specs.GoalExpressions.{IsReadAs}
use Rattle.ab_proofcmd.proofs.expressions.read_formula.Goals as goal

pub returns-in_err-expected-clause-grows : goal.returns-in_err-expected-clause-grows
returns-in_err-expected-clause-grows g c =
    grows_later c.args.world.now c.requires.world c.formula_type.new.types c.args.world.now.store c.formula_type.ensures.kept c.formula_type.ensures.kinds c.formula_type.ensures.constants
    (adds_nothing c.args.world.now.types c.formula_type.new.types c.args.world.now.store c.formula_type.ensures.kept c.requires.world.typed)

pub returns-in_err-expected-clause-declared : goal.returns-in_err-expected-clause-declared
returns-in_err-expected-clause-declared g c =
    declares_same c.args.world.now c.requires.world c.formula_type.new.types c.args.world.now.store c.formula_type.ensures.kept c.formula_type.ensures.kinds c.formula_type.ensures.constants
    (adds_nothing c.args.world.now.types c.formula_type.new.types c.args.world.now.store c.formula_type.ensures.kept c.requires.world.typed)

pub read_term-requires-clause-world : goal.read_term-requires-clause-world
read_term-requires-clause-world g c =
    (grows_later c.args.world.now c.requires.world c.formula_type.new.types c.args.world.now.store c.formula_type.ensures.kept c.formula_type.ensures.kinds c.formula_type.ensures.constants
    (adds_nothing c.args.world.now.types c.formula_type.new.types c.args.world.now.store c.formula_type.ensures.kept c.requires.world.typed)).world

pub read_term-requires-clause-sequent : goal.read_term-requires-clause-sequent
read_term-requires-clause-sequent g c =
    let w = c.args.world.now in
    let s = c.args.goal.now in
    let none = adds_nothing w.types c.formula_type.new.types w.store c.formula_type.ensures.kept c.requires.world.typed in
    let grows = grows_later w c.requires.world c.formula_type.new.types w.store c.formula_type.ensures.kept c.formula_type.ensures.kinds c.formula_type.ensures.constants none in
    let declared = declares_same w c.requires.world c.formula_type.new.types w.store c.formula_type.ensures.kept c.formula_type.ensures.kinds c.formula_type.ensures.constants none in
    let m : World = record { types = c.formula_type.new.types; store = w.store; additions = w.additions } in
    subst (λ D. IsSequent D (sequent_of m s)) (sym declared)
    (subst (IsSequent (declarations_of w)) (sym (same_sequent w m grows s c.requires.held)) c.requires.sequent)

pub returns-clause-reads : goal.returns-clause-reads
returns-clause-reads g c =
    let w = c.args.world.now in
    let s = c.args.goal.now in
    let e = tree_of c.args.parse.now in
    let v = c.read_term.new.world in
    let r = c.read_term.result in
    let none = adds_nothing w.types c.formula_type.new.types w.store c.formula_type.ensures.kept c.requires.world.typed in
    let grows = grows_later w c.requires.world c.formula_type.new.types w.store c.formula_type.ensures.kept c.formula_type.ensures.kinds c.formula_type.ensures.constants none in
    let declared = declares_same w c.requires.world c.formula_type.new.types w.store c.formula_type.ensures.kept c.formula_type.ensures.kinds c.formula_type.ensures.constants none in
    let m : World = record { types = c.formula_type.new.types; store = w.store; additions = w.additions } in
    let A = type_of c.formula_type.new.types c.in_ok-expected.expected in
    subst (λ B. IsReadAs (declarations_of w) (sequent_of w s) e B v r) c.in_ok-expected.ensures.is
    (subst (λ S. IsReadAs (declarations_of w) S e A v r) (same_sequent w m grows s c.requires.held)
    (subst (λ D. IsReadAs D (sequent_of m s) e A v r) declared c.read_term.ensures.reads))

pub returns-clause-grows : goal.returns-clause-grows
returns-clause-grows g c =
    let w = c.args.world.now in
    let none = adds_nothing w.types c.formula_type.new.types w.store c.formula_type.ensures.kept c.requires.world.typed in
    grows_on w (record { types = c.formula_type.new.types; store = w.store; additions = w.additions }) c.read_term.new.world
    (grows_later w c.requires.world c.formula_type.new.types w.store c.formula_type.ensures.kept c.formula_type.ensures.kinds c.formula_type.ensures.constants none) c.read_term.ensures.grows

pub returns-clause-declared : goal.returns-clause-declared
returns-clause-declared g c =
    let w = c.args.world.now in
    let none = adds_nothing w.types c.formula_type.new.types w.store c.formula_type.ensures.kept c.requires.world.typed in
    c.read_term.ensures.declared
    ∙ declares_same w c.requires.world c.formula_type.new.types w.store c.formula_type.ensures.kept c.formula_type.ensures.kinds c.formula_type.ensures.constants none
