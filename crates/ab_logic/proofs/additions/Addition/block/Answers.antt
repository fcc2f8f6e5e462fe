use Rattle.std.proofs.Common.{Some, None, if◌then◌else◌, sym, ap, ◌∙◌}
use Rattle.ab_logic.specs.Additions.{is_among, as_block}
use Rattle.ab_logic.proofs.additions.Addition.block.Goals as goal

pub returns-then-contains : goal.returns-then-contains
returns-then-contains c =
    sym (ap (λ a. as_block a c.args.predicate) c.in-Definition.is
    ∙ ap (λ t. if t then Some c.in-Definition.block else None) (sym (c.contains.ensures.value ∙ ap (λ ps. is_among ps c.args.predicate) c.as_slice.ensures) ∙ c.if-contains.true))
