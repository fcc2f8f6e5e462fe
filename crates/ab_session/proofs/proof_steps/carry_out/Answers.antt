use Rattle.std.specs.Option.{option_copied}
use Rattle.ab_effects.specs.ProofCommands.{given_label}
use Rattle.ab_proofcmd.specs.ab_hypothesis.specs.ab_steps.proofs.Following.{advances}
use Rattle.ab_session.proofs.Carried.{on_answer}
use Rattle.ab_session.proofs.proof_steps.carry_out.Goals as goal

pub returns-in-Search-clause-advances : goal.returns-in-Search-clause-advances
returns-in-Search-clause-advances g c = advances c.by_search.ensures.follows

pub returns-in-Search-clause-owes : goal.returns-in-Search-clause-owes
returns-in-Search-clause-owes g c = rw c.in-Search.is (on_answer c.by_search.result (λ o none s rest e. c.by_search.ensures.follows.owes))

pub returns-in-Search-clause-made : goal.returns-in-Search-clause-made
returns-in-Search-clause-made g c = rw c.in-Search.is (c.by_search.ensures.made (given_label (option_copied c.args.label)))
