use Rattle.std.proofs.Common.{[], codes, not, ◌&&◌, true, refl, sym, ◌∙◌, ap, subst}
use Rattle.ab_term.specs.Types.{prop}
use Rattle.ab_term.specs.Terms.{nominal}
use Rattle.ab_term.specs.Typing.{HasType}
use Rattle.ab_term.proofs.Expansions.{expansion_typed}
use Rattle.ab_norm.specs.ab_types.specs.Entries.{signature}
use Rattle.ab_norm.specs.ab_types.specs.Ids.{type_of}
use Rattle.ab_norm.specs.ab_store.specs.Trees.{tree_of}
use Rattle.ab_norm.specs.Nominals.{nominal_of}
use Rattle.ab_norm.proofs.Frame.{typed_on}
use Rattle.ab_unify.proofs.Growth.{typed_terms, grows_terms}
use Rattle.ab_theory.specs.Uses.{with_term}
use Rattle.ab_consequences.specs.Leading.{chosen}
use Rattle.ab_uses.specs.declared.stage.Stage.TheVariants.{Chosen}
use Rattle.ab_uses.proofs.Fronts.{constant_put}
use Rattle.ab_uses.proofs.Moved.{under_way_on, one_more_stage, constant_goes}
use Rattle.ab_uses.proofs.one_part.put_constant.Goals as goal

pub returns-in_err-opened-clause-adds : goal.returns-in_err-opened-clause-adds
returns-in_err-opened-clause-adds g c =
    let types = c.args.types.now in
    typed_on types c.args.store.now c.eta.new.store c.with_term.new.store c.in_ok-term.ensures.adds (typed_terms types c.eta.new.store c.with_term.new.store c.in_ok-term.ensures.adds.typed c.in_err-opened.ensures.adds)

pub returns-in_err-push-clause-adds : goal.returns-in_err-push-clause-adds
returns-in_err-push-clause-adds g c =
    let types = c.args.types.now in
    typed_on types c.args.store.now c.eta.new.store c.with_term.new.store c.in_ok-term.ensures.adds (typed_terms types c.eta.new.store c.with_term.new.store c.in_ok-term.ensures.adds.typed c.in_ok-opened.ensures.adds)

pub returns-clause-adds : goal.returns-clause-adds
returns-clause-adds g c =
    let types = c.args.types.now in
    typed_on types c.args.store.now c.eta.new.store c.with_term.new.store c.in_ok-term.ensures.adds (typed_terms types c.eta.new.store c.with_term.new.store c.in_ok-term.ensures.adds.typed c.in_ok-opened.ensures.adds)

pub returns-clause-goes : goal.returns-clause-goes
returns-clause-goes g c = λ e.
    let types = c.args.types.now in
    let old = c.args.store.now in
    let new = c.with_term.new.store in
    let adds = typed_on types old c.eta.new.store new c.in_ok-term.ensures.adds (typed_terms types c.eta.new.store new c.in_ok-term.ensures.adds.typed c.in_ok-opened.ensures.adds) in
    let F = tree_of types old c.args.made.now.result in
    let a = nominal_of types c.args.a in
    let tree = c.in_ok-opened.ensures.tree
    ∙ ap (λ G. with_term G (tree_of types c.eta.new.store c.in_ok-term.term)) (c.in_ok-term.ensures.adds.before.trees types c.args.made.now.result c.requires.under_way.formula.0)
    ∙ ap (with_term F) c.in_ok-term.ensures.tree in
    let typed = constant_put (signature types) c.requires.front c.requires.under_way.formula.1 (expansion_typed (signature types) (codes "x") a.type [] (nominal a) refl) in
    let fits = subst (λ u. HasType (signature types) [] u prop) (sym tree) typed in
    let way = under_way_on types types old new (grows_terms types old new adds) c.args.made.now _ (Chosen c.args.a c.in_ok-opened.opened) c.requires.under_way refl c.in_ok-push.ensures.items
    (c.requires.a, (c.in_ok-opened.ensures.held, fits)) c.in_ok-opened.ensures.held fits in
    constant_goes types old new adds c.args.made.now _ c.requires.under_way way refl refl [] [] 0 (type_of types c.args.a.ty) a F (ap (λ b. not b && true) (sym c.in_ok-stands_in.ensures ∙ c.if-branch.false)) tree

pub returns-clause-stages : goal.returns-clause-stages
returns-clause-stages g c = λ e.
    let types = c.args.types.now in
    let old = c.args.store.now in
    let new = c.with_term.new.store in
    let adds = typed_on types old c.eta.new.store new c.in_ok-term.ensures.adds (typed_terms types c.eta.new.store new c.in_ok-term.ensures.adds.typed c.in_ok-opened.ensures.adds) in
    one_more_stage types types old new (grows_terms types old new adds) c.args.made.now _ (Chosen c.args.a c.in_ok-opened.opened) (chosen (nominal_of types c.args.a)) c.requires.under_way.stages c.in_ok-push.ensures.items refl
