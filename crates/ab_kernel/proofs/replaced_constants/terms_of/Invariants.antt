use Rattle.std.proofs.Common.{◌≡◌, map, take}
use Rattle.ab_rules.specs.declared.replaces.Replace.{Replace}
use Rattle.ab_kernel.proofs.replaced_constants.terms_of.Given as goal

abbrev pub invariant-loop-replace : goal.invariant-loop-replace
invariant-loop-replace l = l.terms.items ≡ map (λ (r : Replace). r.to) (take l.replace-index l.replaces)
