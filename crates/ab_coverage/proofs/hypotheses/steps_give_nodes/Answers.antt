use Rattle.ab_coverage.proofs.NodeSteps.{gives_node, keeps_node}
use Rattle.ab_coverage.proofs.hypotheses.steps_give_nodes.Goals as goal

pub returns-clause-given : goal.returns-clause-given
returns-clause-given c = λ place step s ps d is. gives_node s step ps place d is

pub returns-clause-kept : goal.returns-clause-kept
returns-clause-kept c = λ place other qs d s step ps node. keeps_node s step ps other qs place d node
