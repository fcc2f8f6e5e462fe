use Rattle.std.proofs.Common.{◌≡◌, ◌++◌, decimal, ◌+◌, ◌-◌}
use Rattle.ab_print.specs.PrintedNames.{first_from}
use Rattle.ab_print.specs.Places.{places_at, any_within}
use Rattle.ab_print.proofs.bound_names.choose.Given as goal

abbrev pub invariant-loop-number : goal.invariant-loop-number
invariant-loop-number l =
    first_from (λ n. any_within (places_at l.places (l.stem ++ decimal n)) l.part.start l.part.end) l.most 1
    ≡ first_from (λ n. any_within (places_at l.places (l.stem ++ decimal n)) l.part.start l.part.end) (l.most + 1 - l.number) l.number
