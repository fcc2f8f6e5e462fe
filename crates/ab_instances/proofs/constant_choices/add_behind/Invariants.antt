use Rattle.std.proofs.Common.{◌≡◌, ◌∷◌, ◌++◌, map, take}
use Rattle.ab_instances.proofs.constant_choices.add_behind.Given as goal

abbrev pub invariant-loop-names : goal.invariant-loop-names
invariant-loop-names l = l.list.items ≡ l.initial.list.items ++ map (λ ns. l.a ∷ ns) (take l.names-index l.choices)
