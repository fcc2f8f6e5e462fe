use Rattle.std.proofs.Common.{◌≡◌, take}
use Rattle.ab_uses.specs.NamedTerms.{terms_named}
use Rattle.ab_uses.proofs.first_choice.terms_in.Given as goal

abbrev pub invariant-loop-part : goal.invariant-loop-part
invariant-loop-part l = l.list.items ≡ terms_named (take l.part-index l.parts)
