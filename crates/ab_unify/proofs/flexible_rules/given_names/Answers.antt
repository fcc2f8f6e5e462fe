use Rattle.std.proofs.Common.{map, ◌∙◌, ap}
use Rattle.ab_term.specs.Terms.{terms_of}
use Rattle.ab_norm.specs.ab_types.specs.Ids.{type_of}
use Rattle.ab_norm.specs.ab_store.specs.Trees.{tree_of}
use Rattle.ab_norm.proofs.Frame.{if_ok, if_both}
use Rattle.ab_patterns.specs.ab_unifiers.specs.Patterns.{pattern}
use Rattle.ab_unify.proofs.Ruled.{names_given}
use Rattle.ab_unify.proofs.flexible_rules.given_names.Goals as goal

pub returns-clause-names : goal.returns-clause-names
returns-clause-names c =
    if_both c.pattern.result (λ o typed reads. names_given c.args.types.now c.args.store.now (type_of c.args.types.now c.cell_type-ty.result) (terms_of (map (tree_of c.args.types.now c.args.store.now) c.args.args.now)) o typed reads) c.pattern.ensures.typed c.pattern.ensures.reads

pub returns-clause-reads : goal.returns-clause-reads
returns-clause-reads c =
    if_ok c.pattern.result (λ o reads. reads ∙ ap (λ a. pattern (type_of c.args.types.now a) (terms_of (map (tree_of c.args.types.now c.args.store.now) c.args.args.now))) c.cell_type-ty.ensures.ty) c.pattern.ensures.reads
