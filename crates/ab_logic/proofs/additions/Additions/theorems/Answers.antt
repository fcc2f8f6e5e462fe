use Rattle.std.proofs.Common.{ap, ◌∙◌, length}
use Rattle.ab_logic.specs.Additions.{entries_of}
use Rattle.ab_logic.proofs.Lookups.{counted}
use Rattle.ab_logic.proofs.additions.Additions.theorems.Goals as goal

pub returns : goal.returns
returns c =
    c.len.ensures.len ∙ counted c.self.inside.list.items c.self.inside.by_name.entries c.self.invariant.theorems ∙ ap (λ ys. length (entries_of ys)) c.self.view_is
