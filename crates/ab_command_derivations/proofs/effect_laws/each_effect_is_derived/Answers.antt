use Rattle.ab_command_derivations.proofs.Effects.{derived}
use Rattle.ab_command_derivations.proofs.effect_laws.each_effect_is_derived.Goals as goal

pub returns : goal.returns
returns c D sound fit one_name l command s ps is h = derived D sound fit one_name l s is command ps h
