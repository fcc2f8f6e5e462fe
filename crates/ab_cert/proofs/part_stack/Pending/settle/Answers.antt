use Rattle.std.proofs.Common.{[], ◌++◌, sym, ap, ◌∙◌}
use Rattle.ab_cert.specs.Grammar.{copies}
use Rattle.ab_cert.specs.PendingParts.{stack_parts}
use Rattle.ab_cert.proofs.PendingParts.{stack_more}
use Rattle.ab_cert.proofs.part_stack.Pending.settle.Goals as goal

pub below-preserved : goal.below-preserved
below-preserved c =
    let items = ap (λ es. stack_parts es []) c.in-Some.ensures.items in
    let more = stack_more c.pop.new.self.items (c.in-Some.part, c.in-Some.count) [] in
    let none = ap (λ n. copies n c.below.self.part ++ stack_parts c.below.self.below.items []) c.below-test.true in
    sym more ∙ (sym items ∙ (sym none ∙ c.below.invariant))
