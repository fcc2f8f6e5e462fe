use Rattle.std.proofs.Common.{◌≡◌, take}
use Rattle.ab_uses.specs.NamedTerms.{types_named}
use Rattle.ab_uses.proofs.first_choice.types_in.Given as goal

abbrev pub invariant-loop-part : goal.invariant-loop-part
invariant-loop-part l = l.list.items ≡ types_named (take l.part-index l.parts)
