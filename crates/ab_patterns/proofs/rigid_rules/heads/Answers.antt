use Rattle.std.proofs.Common.{◌++◌, map, Some, ◌∙◌, ap}
use Rattle.std.proofs.lemmas.Bool.{false≢true}
use Rattle.ab_term.specs.Terms.{terms_of}
use Rattle.ab_norm.specs.ab_store.specs.Trees.{tree_of, head_reading}
use Rattle.ab_unifiers.specs.Unification.{parts, paired}
use Rattle.ab_norm.specs.ab_store.specs.Reading.{cell_variable}
use Rattle.ab_patterns.specs.EquationReadings.{equation_of}
use Rattle.ab_patterns.proofs.Rules.{one_rigid, other_rigid, heads_differ}
use Rattle.ab_patterns.proofs.rigid_rules.heads.Goals as goal

pub returns-in_ok-pair-clause-rule : goal.returns-in_ok-pair-clause-rule
returns-in_ok-pair-clause-rule c = λ types store ok a b.
    ap (λ l. Some (parts l))
    (c.in_ok-pair.ensures.pairs types store
    ∙ ap (λ l. map (equation_of types store) l ++ paired c.args.place (terms_of (map (tree_of types store) c.args.args.now)) (terms_of (map (tree_of types store) c.args.more.now))) c.new-parts.ensures.items)
    ∙ one_rigid (map (cell_variable types store) c.args.flexible.now.items) c.args.place (head_reading types store c.args.head) (head_reading types store c.args.other) (terms_of (map (tree_of types store) c.args.args.now)) (terms_of (map (tree_of types store) c.args.more.now))
    (c.if-is_flexible.ensures types store) (c.if-is_flexible-2.ensures types store) (ap (head_reading types store) (c.is_same_head.ensures.0 c.if-is_same_head.true))

pub returns-else-is_same_head-clause-rule : goal.returns-else-is_same_head-clause-rule
returns-else-is_same_head-clause-rule c = λ types store ok a b.
    other_rigid (map (cell_variable types store) c.args.flexible.now.items) c.args.place (head_reading types store c.args.head) (head_reading types store c.args.other) (terms_of (map (tree_of types store) c.args.args.now)) (terms_of (map (tree_of types store) c.args.more.now))
    (c.if-is_flexible.ensures types store) (c.if-is_flexible-2.ensures types store) (heads_differ types store c.args.head c.args.other ok a b (λ e. false≢true (c.if-is_same_head.ensures.1 e)))
