use Rattle.std.proofs.Common.{length, IfOk, refl, sym, subst}
use Rattle.ab_norm.proofs.Frame.{if_ok}
use Rattle.ab_unify.proofs.Growth.{grows_terms}
use Rattle.ab_logic.specs.Forms.{sign_of}
use Rattle.ab_logic.specs.declared.world.World.{World}
use Rattle.ab_logic.proofs.Growing.{grows_store}
use Rattle.ab_theory.specs.SpecRules.{some_item, demand_of}
use Rattle.ab_alternatives.proofs.Tried.{grown}
use Rattle.ab_judgement_forms.specs.JudgementReadings.{judgement_read}
use Rattle.ab_judgements.specs.DemandReadings.{rule_read, IsRuleFor, IsDemanded, IsDemandMade}
use Rattle.ab_judgements.specs.declared.demands.Rule.{Rule}
use Rattle.ab_judgements.specs.declared.demands.Rule.TheVariants.{Clause, Part}
use Rattle.ab_judgements.proofs.DemandsTyped.{demanded}
use Rattle.ab_judgements.proofs.DemandsMade.{alone_made, part_of}
use Rattle.ab_judgements.proofs.demands.make_demand.Goals as goal

-- the list
pub returns-in_err-body-in-Item-clause-grown : goal.returns-in_err-body-in-Item-clause-grown
returns-in_err-body-in-Item-clause-grown g c = grows_terms c.args.world.now.types c.args.world.now.store c.some_item_by.new.store c.some_item_by.ensures.adds

pub returns-in_ok-body-in-Item-clause-grown : goal.returns-in_ok-body-in-Item-clause-grown
returns-in_ok-body-in-Item-clause-grown g c = grows_terms c.args.world.now.types c.args.world.now.store c.some_item_by.new.store c.some_item_by.ensures.adds

pub returns-in_err-body-in-Item-clause-grows : goal.returns-in_err-body-in-Item-clause-grows
returns-in_err-body-in-Item-clause-grows g c = grows_store _ _ _ _ c.requires.world c.some_item_by.ensures.adds.before c.some_item_by.ensures.adds.typed

pub returns-in_ok-body-in-Item-clause-grows : goal.returns-in_ok-body-in-Item-clause-grows
returns-in_ok-body-in-Item-clause-grows g c = grows_store _ _ _ _ c.requires.world c.some_item_by.ensures.adds.before c.some_item_by.ensures.adds.typed

pub returns-in_ok-body-in-Item-clause-made : goal.returns-in_ok-body-in-Item-clause-made
returns-in_ok-body-in-Item-clause-made g c =
    let w = c.args.world.now in
    let v : World = record { types = w.types; store = c.some_item_by.new.store; additions = w.additions } in
    let m = sign_of c.args.mark in
    let j = judgement_read w c.args.judgement.now in
    let alone = c.body_alone.ensures in
    let body = c.in_ok-body-in-Item in
    subst (λ (r : Rule). IsDemanded w (demand_of (length w.store.cells) m j (rule_read w r)) v c.body_alone.result) (sym c.in-Item.is)
    (alone_made w v refl c.some_item_by.ensures.adds.cells c.body_alone.result alone.own alone.equations body.body alone.body body.ensures.held
    (some_item m j.context j.goal) body.ensures.tree)

-- the goal is made of others
pub returns-in_err-body-in-Opening-clause-grown : goal.returns-in_err-body-in-Opening-clause-grown
returns-in_err-body-in-Opening-clause-grown g c = grows_terms c.args.world.now.types c.args.world.now.store c.open.new.store c.open.ensures.adds

pub returns-in_err-body-in-Opening-clause-grows : goal.returns-in_err-body-in-Opening-clause-grows
returns-in_err-body-in-Opening-clause-grows g c = grows_store _ _ _ _ c.requires.world c.open.ensures.adds.before c.open.ensures.adds.typed

pub returns-in_ok-body-in-Opening-clause-grown : goal.returns-in_ok-body-in-Opening-clause-grown
returns-in_ok-body-in-Opening-clause-grown g c = grows_terms c.args.world.now.types c.args.world.now.store c.open.new.store c.open.ensures.adds

pub returns-in_ok-body-in-Opening-clause-grows : goal.returns-in_ok-body-in-Opening-clause-grows
returns-in_ok-body-in-Opening-clause-grows g c = grows_store _ _ _ _ c.requires.world c.open.ensures.adds.before c.open.ensures.adds.typed

-- a clause
pub returns-in_ok-goals-in-Clause-clause-made : goal.returns-in_ok-goals-in-Clause-clause-made
returns-in_ok-goals-in-Clause-clause-made g c =
    let w = c.args.world.now in
    let n = length w.store.cells in
    let m = sign_of c.args.mark in
    let kept = c.args.judgement.now in
    let j = judgement_read w kept in
    let U = c.clause_demand.new.types in
    let V = c.clause_demand.new.store in
    subst (λ (r : Rule). IfOk c.clause_demand.result (IsDemandMade w.types w.store (demand_of n m j (rule_read w r)) U V)) (sym c.in-Clause.is)
    (if_ok c.clause_demand.result (λ made d.
    demanded w c.requires.world kept c.requires.judgement (Clause c.in-Clause.clause) (subst (IsRuleFor w kept) c.in-Clause.is c.requires.rule) n m U V
    c.clause_demand.ensures.grows made (d j refl refl (sym c.requires.constants))) c.clause_demand.ensures.made)

pub returns-in_ok-goals-in-Clause-clause-grows : goal.returns-in_ok-goals-in-Clause-clause-grows
returns-in_ok-goals-in-Clause-clause-grows g c =
    grown c.args.world.now c.clause_demand.new.types c.clause_demand.new.store c.requires.world c.clause_demand.ensures.grows c.clause_demand.ensures.unbound

-- a part
pub part_demand-requires-clause-of_formula : goal.part_demand-requires-clause-of_formula
part_demand-requires-clause-of_formula g c =
    let w = c.args.world.now in
    let kept = c.args.judgement.now in
    part_of w kept c.requires.judgement c.in-Part.part (subst (IsRuleFor w kept) c.in-Part.is c.requires.rule)

pub returns-in-Part-clause-made : goal.returns-in-Part-clause-made
returns-in-Part-clause-made g c =
    let w = c.args.world.now in
    let n = length w.store.cells in
    let m = sign_of c.args.mark in
    let kept = c.args.judgement.now in
    let j = judgement_read w kept in
    let U = c.part_demand.new.types in
    let V = c.part_demand.new.store in
    subst (λ (r : Rule). IfOk c.part_demand.result (IsDemandMade w.types w.store (demand_of n m j (rule_read w r)) U V)) (sym c.in-Part.is)
    (if_ok c.part_demand.result (λ made d.
    demanded w c.requires.world kept c.requires.judgement (Part c.in-Part.part) (subst (IsRuleFor w kept) c.in-Part.is c.requires.rule) n m U V
    c.part_demand.ensures.grows made (d j refl refl (sym c.requires.constants))) c.part_demand.ensures.made)

pub returns-in-Part-clause-grows : goal.returns-in-Part-clause-grows
returns-in-Part-clause-grows g c =
    grown c.args.world.now c.part_demand.new.types c.part_demand.new.store c.requires.world c.part_demand.ensures.grows c.part_demand.ensures.unbound
