use Rattle.ab_proofcmd.proofs.awaited_formulas.has_hypothesis.Goals as goal
