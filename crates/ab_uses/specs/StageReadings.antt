-- What the program's stages of a use stand for.
use Rattle.ab_term.specs.Terms.{Read}
use Rattle.ab_norm.specs.ab_types.specs.Entries.{Table}
use Rattle.ab_norm.specs.ab_store.specs.declared.node.TermId.{TermId}
use Rattle.ab_norm.specs.Nominals.{nominal_of}
use Rattle.ab_consequences.specs.Leading.{Stage, instance_by, chosen, met}
use Rattle.ab_uses.specs.declared.stage.Stage.{Stage as Kept}
use Rattle.ab_uses.specs.declared.stage.Stage.TheVariants.{Instance, Chosen, Antecedent}

-- a stage, where ids stand for what this gives
abbrev pub stage_by : Table → (TermId → Read) → Kept → Stage
stage_by types term (Instance t) = instance_by (term t)
stage_by types term (Chosen a F) = chosen (nominal_of types a)
stage_by types term Antecedent = met
