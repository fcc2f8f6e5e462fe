use Rattle.std.specs.Prelude.{slice_get}
use Rattle.std.specs.Option.{option_and_then}
use Rattle.std.proofs.Common.{ℕ, List, ap, sym, ◌∙◌}
use Rattle.ab_logic.specs.Additions.{theorem_at_place, entries_of}
use Rattle.ab_logic.proofs.Lookups.{listed}
use Rattle.ab_logic.proofs.additions.Additions.theorem_at.Goals as goal

pub returns-in-None : goal.returns-in-None
returns-in-None c =
    ap (option_and_then (λ (p : List ℕ × ℕ). theorem_at_place c.self.inside.list.items p.1)) c.in-None.ensures.entry
    ∙ listed c.args.place c.self.inside.list.items c.self.inside.by_name.entries c.self.invariant.theorems
    ∙ ap (λ ys. slice_get (entries_of ys) c.args.place) c.self.view_is

pub returns-in-Some : goal.returns-in-Some
returns-in-Some c =
    c.theorem_in.ensures
    ∙ ap (λ ys. theorem_at_place ys c.in-Some.place.now) (sym c.self.view_is)
    ∙ ap (option_and_then (λ (p : List ℕ × ℕ). theorem_at_place c.self.inside.list.items p.1)) c.in-Some.ensures.entry
    ∙ listed c.args.place c.self.inside.list.items c.self.inside.by_name.entries c.self.invariant.theorems
    ∙ ap (λ ys. slice_get (entries_of ys) c.args.place) c.self.view_is
