use Rattle.std.specs.Option.{option_and_then}
use Rattle.std.proofs.Common.{ap, sym, ◌∙◌}
use Rattle.ab_logic.specs.Additions.{theorem_at_place, entry_in}
use Rattle.ab_logic.proofs.Lookups.{found}
use Rattle.ab_logic.proofs.additions.Additions.theorem.Goals as goal

pub returns-in-None : goal.returns-in-None
returns-in-None c =
    ap (option_and_then (theorem_at_place c.self.inside.list.items)) c.in-None.ensures.value
    ∙ found c.args.name.now c.self.inside.list.items c.self.inside.by_name.entries c.self.invariant.theorems
    ∙ ap (λ ys. entry_in ys c.args.name.now) c.self.view_is

pub returns-in-Some : goal.returns-in-Some
returns-in-Some c =
    c.theorem_in.ensures
    ∙ ap (λ ys. theorem_at_place ys c.in-Some.place.now) (sym c.self.view_is)
    ∙ ap (option_and_then (theorem_at_place c.self.inside.list.items)) c.in-Some.ensures.value
    ∙ found c.args.name.now c.self.inside.list.items c.self.inside.by_name.entries c.self.invariant.theorems
    ∙ ap (λ ys. entry_in ys c.args.name.now) c.self.view_is
