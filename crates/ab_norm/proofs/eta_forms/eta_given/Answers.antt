use Rattle.std.proofs.Common.{sym, subst, map, codes}
use Rattle.ab_term.specs.Terms.{terms_of}
use Rattle.ab_term.specs.Typing.{HasType}
use Rattle.ab_term.proofs.Expansions.{expansion_of_typed}
use Rattle.ab_store.specs.ab_types.specs.Entries.{signature}
use Rattle.ab_store.specs.ab_types.specs.Ids.{type_of}
use Rattle.ab_store.specs.Trees.{tree_of, head_reading}
use Rattle.ab_norm.proofs.Frame.{if_ok, if_both}
use Rattle.ab_norm.proofs.GivenHeads.{given_reads}
use Rattle.ab_norm.proofs.eta_forms.eta_given.Goals as goal

pub returns-clause-reads : goal.returns-clause-reads
returns-clause-reads c = λ free.
    if_ok c.expand.result (λ r made.
    given_reads c.args.types.now c.args.store.now c.expand.new.store c.expand.ensures.adds.before c.expand.ensures.adds.typed (codes "x") (type_of c.args.types.now c.args.left) c.args.head c.args.args.items r free c.requires.args made) c.expand.ensures.reads

pub returns-clause-term : goal.returns-clause-term
returns-clause-term c =
    if_both c.expand.result (λ r held made G A e taken. (
      held,
      subst (λ t. HasType (signature c.args.types.now) G t (type_of c.args.types.now c.args.left)) (sym made)
          (expansion_of_typed (signature c.args.types.now) (codes "x") (type_of c.args.types.now c.args.left) G (head_reading c.args.types.now c.args.store.now c.args.head) A (terms_of (map (tree_of c.args.types.now c.args.store.now) c.args.args.items)) e taken),
    )) c.expand.ensures.held c.expand.ensures.reads
