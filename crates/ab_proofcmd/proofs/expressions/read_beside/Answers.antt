use Rattle.std.proofs.Common.{refl, sym, subst}
use Rattle.ab_norm.specs.ab_types.specs.Ids.{type_of}
use Rattle.ab_syntax.specs.ab_expressions.specs.SyntaxTrees.{tree_of}
use Rattle.ab_declare.proofs.Statements.{grows_later, declares_same}
use Rattle.ab_logic.specs.SequentReadings.{sequent_of}
use Rattle.ab_proofcmd.specs.GivenTerms.{values_in, beside}
use Rattle.ab_proofcmd.specs.GoalScopes.{IsScopeOf}
use Rattle.ab_proofcmd.proofs.Given.{same_variables, names_beside}
use Rattle.ab_proofcmd.proofs.Meaning.{is_read}
use Rattle.ab_proofcmd.proofs.expressions.read_beside.Goals as goal

pub returns-clause-reads : goal.returns-clause-reads
returns-clause-reads g c =
    let w = c.args.world.now in
    let s = c.args.goal.now in
    let ts = values_in w c.args.given.now in
    is_read w c.requires.world c.has_unique_ids.ensures.table s (beside (sequent_of w s) ts) (same_variables (sequent_of w s) ts) c.requires.one_type c.in_ok-scope.scope
    (subst (λ names. IsScopeOf w s names c.in_ok-scope.scope) (sym (names_beside (sequent_of w s) ts)) c.in_ok-scope.ensures) c.elaborate.new.types c.elaborate.new.store
    (record { types = c.elaborate.new.types; store = c.elaborate.new.store; additions = w.additions }) (tree_of c.args.parse.now) (type_of w.types c.args.expected) c.elaborate.result
    refl refl c.elaborate.ensures.constants c.elaborate.ensures.answer

pub returns-clause-grows : goal.returns-clause-grows
returns-clause-grows g c =
    grows_later c.args.world.now c.requires.world c.elaborate.new.types c.elaborate.new.store c.elaborate.ensures.kept c.elaborate.ensures.kinds c.elaborate.ensures.constants c.elaborate.ensures.adds

pub returns-clause-declared : goal.returns-clause-declared
returns-clause-declared g c =
    declares_same c.args.world.now c.requires.world c.elaborate.new.types c.elaborate.new.store c.elaborate.ensures.kept c.elaborate.ensures.kinds c.elaborate.ensures.constants c.elaborate.ensures.adds
