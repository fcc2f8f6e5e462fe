use Rattle.std.specs.HashMap.{get}
use Rattle.std.proofs.Common.{List, [], ◌∷◌, ◌++◌, sym, ap, ◌∙◌, subst}
use Rattle.ab_logic.specs.Additions.{same_constant, noted, entry_in, IsFiled}
use Rattle.ab_logic.specs.declared.additions.Added.{Added}
use Rattle.ab_logic.specs.declared.additions.Addition.TheVariants.{Theorem}
use Rattle.ab_logic.specs.declared.additions.TheoremEntry.{TheoremEntry}
use Rattle.ab_logic.proofs.Lookups.{theorem_filed}
use Rattle.ab_logic.proofs.additions.Additions.add_theorem.Goals as goal

pub invariant_of-self-2 : goal.invariant_of-self-2
invariant_of-self-2 c =
    let xs = c.self.inside.list.items in
    let places = get same_constant c.self.inside.by_predicate in
    let heads = noted c.self.inside.by_head in
    let e : TheoremEntry = record { name = c.in_ok-clone.field-0; formula = c.args.formula; assumed = c.args.assumed } in
    subst (λ (ys : List Added). IsFiled ys c.insert.new.self.entries places heads)
    (sym (c.push_reserved.ensures.items ∙ ap (λ (ys : List Added). ys ++ record { what = Theorem e; before = c.args.before } ∷ []) c.reserve.ensures.items))
    (theorem_filed c.self.inside.by_name xs places heads c.self.invariant c.args.name e c.args.before c.insert.new.self.entries c.len-place.result
    (ap (λ ys. entry_in ys c.args.name) c.self.view_is ∙ c.requires) (c.len-place.ensures ∙ c.self.inside.list.ok.0) c.in_ok-clone.ensures.cases c.in_ok-insert.ensures.entries)
