use Rattle.std.specs.Prelude.{◌≡◌}
use Rattle.std.proofs.Common.{subst}
use Rattle.ab_logic.specs.SequentReadings.{sequent_of}
use Rattle.ab_logic.specs.Worlds.{declarations_of}
use Rattle.ab_syntax.specs.ab_expressions.specs.SyntaxTrees.{tree_of}
use Rattle.ab_proofcmd.specs.GoalExpressions.{IsReadAs}
use Rattle.ab_proofcmd.proofs.expressions.read_list.Goals as goal

pub returns-clause-reads : goal.returns-clause-reads
returns-clause-reads g c =
    let w = c.args.world.now in
    subst (λ A. IsReadAs (declarations_of w) (sequent_of w c.args.goal.now) (tree_of c.args.parse.now) A c.read_term.new.world c.read_term.result) c.in_ok-expected.ensures.reads c.read_term.ensures.reads
