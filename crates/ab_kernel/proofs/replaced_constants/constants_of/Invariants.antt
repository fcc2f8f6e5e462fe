use Rattle.std.proofs.Common.{◌≡◌, map, take}
use Rattle.ab_rules.specs.declared.replaces.Replace.{Replace}
use Rattle.ab_kernel.proofs.replaced_constants.constants_of.Given as goal

abbrev pub invariant-loop-replace : goal.invariant-loop-replace
invariant-loop-replace l = l.constants.items ≡ map (λ (r : Replace). r.from) (take l.replace-index l.replaces)
