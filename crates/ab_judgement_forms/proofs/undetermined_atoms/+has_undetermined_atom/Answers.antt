use Rattle.std.proofs.Common.{sym, ap, ◌∙◌}
use Rattle.ab_norm.specs.ab_store.specs.Trees.{tree_of, node_tree}
use Rattle.ab_theory.specs.Opening.{is_undetermined}
use Rattle.ab_judgement_forms.proofs.Undetermined.{open_pi, open_imply, open_other, open_spine}
use Rattle.ab_judgement_forms.proofs.undetermined_atoms.+has_undetermined_atom.Goals as goal

pub returns-in-Lam : goal.returns-in-Lam
returns-in-Lam t c = λ types.
    let S = c.args.store.now in
    c.has_undetermined_atom.ensures types
    ∙ open_pi (tree_of types S c.args.formula) (tree_of types S c.in-Pi.abstraction) _ _ _ _ (sym (c.in-Pi.ensures.reads types)) (c.view.ensures.tree types ∙ ap (node_tree types S) c.in-Lam.is)

pub returns-in-Spine : goal.returns-in-Spine
returns-in-Spine t c = λ types.
    let S = c.args.store.now in
    c.is_undetermined.ensures ∙ ap is_undetermined (c.kind_of.ensures types)
    ∙ open_spine (tree_of types S c.args.formula) (tree_of types S c.in-Pi.abstraction) _ _ _ (sym (c.in-Pi.ensures.reads types)) (c.view.ensures.tree types ∙ ap (node_tree types S) c.in-Spine.is)

pub returns-in-Imply : goal.returns-in-Imply
returns-in-Imply t c = λ types. c.has_undetermined_atom-in-Imply.ensures types ∙ open_imply _ _ _ (sym (c.in-Imply.ensures.reads types))

pub returns-in-Other : goal.returns-in-Other
returns-in-Other t c = λ types. c.is_undetermined-in-Other.ensures ∙ ap is_undetermined (c.kind_of-in-Other.ensures types) ∙ open_other _ (sym (c.in-Other.ensures.reads types))
