use Rattle.std.proofs.Common.{[], refl, sym, ap, subst}
use Rattle.ab_term.specs.Types.{prop}
use Rattle.ab_term.specs.Typing.{HasType}
use Rattle.ab_norm.specs.ab_types.specs.Entries.{signature}
use Rattle.ab_unify.proofs.Growth.{typed_terms, grows_terms}
use Rattle.ab_norm.specs.ab_store.specs.Trees.{tree_of}
use Rattle.ab_consequences.specs.Leading.{instance_by}
use Rattle.ab_uses.specs.declared.stage.Stage.TheVariants.{Instance}
use Rattle.ab_uses.proofs.Moved.{under_way_on, stage_on, one_more_stage}
use Rattle.ab_uses.proofs.one_part.open_with.Goals as goal

pub returns-in_err-opened-clause-adds : goal.returns-in_err-opened-clause-adds
returns-in_err-opened-clause-adds g c = typed_terms c.args.types.now c.args.store.now c.with_term.new.store c.requires.store c.in_err-opened.ensures.adds

pub returns-in_err-push-clause-adds : goal.returns-in_err-push-clause-adds
returns-in_err-push-clause-adds g c = typed_terms c.args.types.now c.args.store.now c.with_term.new.store c.requires.store c.in_ok-opened.ensures.adds

pub returns-clause-adds : goal.returns-clause-adds
returns-clause-adds g c = typed_terms c.args.types.now c.args.store.now c.with_term.new.store c.requires.store c.in_ok-opened.ensures.adds

pub returns-clause-under_way : goal.returns-clause-under_way
returns-clause-under_way g c =
    let types = c.args.types.now in
    let old = c.args.store.now in
    let new = c.with_term.new.store in
    let made = c.in_ok-opened.ensures in
    under_way_on types types old new (grows_terms types old new (typed_terms types old new c.requires.store made.adds)) c.args.made.now _ (Instance c.args.term) c.requires.under_way refl c.in_ok-push.ensures.items
    (stage_on types types old new (grows_terms types old new (typed_terms types old new c.requires.store made.adds)) (Instance c.args.term) c.requires.term) made.held (subst (λ u. HasType (signature types) [] u prop) (sym made.tree) c.requires.fits)

pub returns-clause-stages : goal.returns-clause-stages
returns-clause-stages g c =
    let types = c.args.types.now in
    let old = c.args.store.now in
    let new = c.with_term.new.store in
    let made = c.in_ok-opened.ensures in
    one_more_stage types types old new (grows_terms types old new (typed_terms types old new c.requires.store made.adds)) c.args.made.now _ (Instance c.args.term) (instance_by (tree_of types old c.args.term)) c.requires.under_way.stages c.in_ok-push.ensures.items
    (ap instance_by (made.adds.before.trees types c.args.term c.requires.term.1.0))
