use Rattle.std.proofs.Common.{List, map, sym, ap, ◌∙◌}
use Rattle.ab_term.specs.Terms.{logical, spine, terms_of}
use Rattle.ab_norm.specs.ab_store.specs.declared.node.TermId.{TermId}
use Rattle.ab_norm.specs.ab_store.specs.declared.node.Node.TheVariants.{Spine}
use Rattle.ab_norm.specs.ab_store.specs.Trees.{logical_of, node_tree}
use Rattle.ab_logic.specs.Forms.{sign_of}
use Rattle.ab_logic.specs.Worlds.{read}
use Rattle.ab_theory.specs.Judgements.{judgement_as}
use Rattle.ab_judgement_forms.proofs.judgements.judgement_as.Goals as goal

pub returns-clause-reads : goal.returns-clause-reads
returns-clause-reads c =
    let w = c.args.world.now in
    let f = judgement_as (sign_of c.args.sign) in
    c.judgement_by.ensures.reads
    ∙ ap (λ (ts : List TermId). f (spine (logical (logical_of w.types c.in-Logic.logical)) (terms_of (map (read w) ts)))) c.as_slice.ensures
    ∙ sym (ap f (c.view.ensures.tree w.types ∙ ap (node_tree w.types w.store) c.in-Spine.is ∙ ap (λ h. node_tree w.types w.store (Spine h c.in-Spine.args)) c.in-Logic.is))
