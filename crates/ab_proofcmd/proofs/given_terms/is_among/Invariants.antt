use Rattle.std.proofs.Common.{◌≡◌, drop, map}
use Rattle.std.specs.Prelude.{bytes_eq}
use Rattle.std.specs.List.{list_any}
use Rattle.ab_grammar.specs.CommandTrees.{Instance}
use Rattle.ab_syntax.specs.Commands.{instance_of}
use Rattle.ab_proofcmd.proofs.given_terms.is_among.Given as goal

abbrev pub invariant-loop-instance : goal.invariant-loop-instance
invariant-loop-instance l =
    list_any (λ (j : Instance). bytes_eq j.name l.name) (map instance_of l.instances) ≡ list_any (λ (j : Instance). bytes_eq j.name l.name) (map instance_of (drop l.instance-index l.instances))
