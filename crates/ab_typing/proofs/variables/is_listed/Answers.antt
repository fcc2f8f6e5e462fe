use Rattle.std.proofs.Common.{◌↔◌, ◌≡◌, true, map, Contains, sym, subst}
use Rattle.std.specs.List.{All}
use Rattle.ab_term.specs.Variables.{variables_of_head}
use Rattle.ab_store.specs.Trees.{head_reading}
use Rattle.ab_typing.specs.Cells.{variable_of}
use Rattle.ab_typing.proofs.Listed.{listed}
use Rattle.ab_typing.proofs.variables.is_listed.Goals as goal

pub returns-in-Cell : goal.returns-in-Cell
returns-in-Cell c = λ types store.
    subst (λ h. (c.contains.result ≡ true) ↔ All (Contains (map (variable_of types store) c.args.variables.now)) (variables_of_head (head_reading types store h))) (sym c.in-Cell.is)
    (listed types store c.args.variables.now c.in-Cell.cell c.contains.result c.contains.ensures.value)
