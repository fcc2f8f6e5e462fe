use Rattle.std.proofs.Common.{[], ◌++◌, ap, ◌∙◌}
use Rattle.ab_cert.specs.Grammar.{copies}
use Rattle.ab_cert.specs.PendingParts.{stack_parts}
use Rattle.ab_cert.proofs.PendingParts.{stack_more}
use Rattle.ab_cert.proofs.part_stack.Pending.push.Goals as goal

pub returns : goal.returns
returns c = ap (λ q. copies c.args.count c.args.part ++ q)
    (ap (λ es. stack_parts es []) c.in_ok-push.ensures.items ∙ stack_more c.args.self.now.below.items (c.args.self.now.part, c.args.self.now.count) [])
