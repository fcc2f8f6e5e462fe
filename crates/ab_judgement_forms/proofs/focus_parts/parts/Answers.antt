use Rattle.std.proofs.Common.{List, [], ◌++◌, map, ap, ◌∙◌}
use Rattle.ab_norm.specs.ab_store.specs.Trees.{tree_of}
use Rattle.ab_theory.specs.Parts.{parts_of}
use Rattle.ab_judgement_forms.specs.declared.part_names.PartName.{PartName}
use Rattle.ab_judgement_forms.specs.declared.focus_parts.Part.{Part}
use Rattle.ab_judgement_forms.specs.declared.focus_parts.Placed.{Placed}
use Rattle.ab_judgement_forms.specs.PartReadings.{part_read}
use Rattle.ab_judgement_forms.specs.PartWalks.{inside}
use Rattle.ab_judgement_forms.proofs.PartsTaken.{inside_nothing}
use Rattle.ab_judgement_forms.proofs.focus_parts.parts.Goals as goal

pub returns-clause-reads : goal.returns-clause-reads
returns-clause-reads c =
    let T = c.args.types.now in
    let S = c.args.store.now in
    let ps = parts_of (tree_of T S c.args.formula) in
    c.in_ok-add_parts.ensures.reads
    ∙ ap (λ (l : List Part). map (part_read T S) l ++ map (inside T S c.new.result.items c.new-2.result.items) ps) c.new-list.ensures.items
    ∙ ap (λ (l : List PartName). map (inside T S l c.new-2.result.items) ps) c.new.ensures.items
    ∙ ap (λ (l : List Placed). map (inside T S [] l) ps) c.new-2.ensures.items
    ∙ inside_nothing T S ps
