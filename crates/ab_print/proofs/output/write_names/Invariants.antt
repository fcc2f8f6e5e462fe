use Rattle.std.proofs.Common.{◌≡◌, ◌++◌, drop, map}
use Rattle.ab_logic.specs.Worlds.{variable_of}
use Rattle.ab_print.specs.GoalText.{names_line}
use Rattle.ab_print.proofs.output.write_names.Given as goal

abbrev pub invariant-names : goal.invariant-names
invariant-names l =
    l.out.items ++ names_line (map (λ x. x.name) (map (variable_of l.world) (drop l.cell-index l.cells)))
    ≡ l.fn.out.items ++ names_line (map (λ x. x.name) (map (variable_of l.world) l.cells))
