use Rattle.std.proofs.Common.{◌≡◌, map, sym, ap, ◌∙◌, subst}
use Rattle.std.specs.Option.{option_map}
use Rattle.ab_store.specs.Trees.{tree_of}
use Rattle.ab_formulas.specs.Stratification.{left_of_arrows, constants}
use Rattle.ab_formulas.specs.Faults.{HasFault, in_head, in_body}
use Rattle.ab_typing.specs.DefinitionReadings.{name_of, fault_of, clause_of}
use Rattle.ab_typing.specs.declared.faults.ClauseFault.{ClauseFault}
use Rattle.ab_typing.specs.declared.faults.ClauseFault.TheVariants.{BadHead, NotStratified}
use Rattle.ab_typing.proofs.Names.{none_found, one_found}
use Rattle.ab_formulas.proofs.ClausesWalks.{denied}
use Rattle.ab_typing.proofs.faults.clause_fault.Goals as goal

pub returns-then-not-branch-clause-some : goal.returns-then-not-branch-clause-some
returns-then-not-branch-clause-some c = λ f e.
    let types = c.args.types.now in
    let same : BadHead c.args.number ≡ f = cc in
    subst (λ (g : ClauseFault). HasFault (map (name_of types) c.args.predicates.now) c.args.number (clause_of types c.args.store.now c.args.clause.now) (fault_of types g)) same
    (in_head (denied c.in_ok-is_head.field-0 c.if-not-branch.true c.in_ok-is_head.ensures.head))

pub returns-in-Some-clause-some : goal.returns-in-Some-clause-some
returns-in-Some-clause-some c = λ f e.
    let types = c.args.types.now in
    let ps = map (name_of types) c.args.predicates.now in
    let same : NotStratified c.in-Some.predicate ≡ f = cc in
    subst (λ (g : ClauseFault). HasFault ps c.args.number (clause_of types c.args.store.now c.args.clause.now) (fault_of types g)) same
    (in_body (c.in_ok-is_head.ensures.head.0 c.if-not-branch.false)
    (one_found ps (constants left_of_arrows (tree_of types c.args.store.now c.args.clause.now.body)) (name_of types c.in-Some.predicate)
    (sym c.in_ok-predicate.ensures.first ∙ ap (option_map (name_of types)) c.in-Some.is)))

pub returns-in-None-clause-none : goal.returns-in-None-clause-none
returns-in-None-clause-none c = λ e.
    let types = c.args.types.now in
    let ps = map (name_of types) c.args.predicates.now in
    record {
      head = c.in_ok-is_head.ensures.head.0 c.if-not-branch.false;
      body = none_found ps (constants left_of_arrows (tree_of types c.args.store.now c.args.clause.now.body)) (sym c.in_ok-predicate.ensures.first ∙ ap (option_map (name_of types)) c.in-None.is);
    }
