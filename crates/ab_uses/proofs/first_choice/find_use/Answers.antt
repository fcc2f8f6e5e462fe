use Rattle.std.proofs.Common.{Ok, ◌≡◌, sym, ◌∙◌, ap, subst}
use Rattle.std.specs.List.{All}
use Rattle.ab_norm.specs.ab_types.specs.Ids.{HoldsType}
use Rattle.ab_uses.specs.NamedTerms.{types_named}
use Rattle.ab_uses.specs.UseReadings.{using_of}
use Rattle.ab_uses.specs.declared.outcome.Outcome.TheVariants.{Stuck, Open, Used}
use Rattle.ab_uses.proofs.Parts.{types_held}
use Rattle.ab_uses.proofs.Posed.{same_use, known_so, posed}
use Rattle.ab_uses.proofs.Searched.{begun_so, fit_so, none_found, stuck_found, open_found, used_found}
use Rattle.ab_uses.proofs.Undone.{at_outcome}
use Rattle.ab_uses.proofs.first_choice.find_use.Goals as goal

pub try_from-requires-clause-posed : goal.try_from-requires-clause-posed
try_from-requires-clause-posed g c =
    let w = c.args.world.now in
    let told = c.in_ok-question.ensures in
    posed w c.requires.world c.args.goal.now c.args.formula c.args.count c.args.given.now c.args.aim.now c.in_ok-question.question told.formula told.parts c.requires.formula c.requires.usable c.requires.hypotheses c.requires.conclusion
    told.parts_held told.held told.known told.names told.known_names

pub try_from-requires-clause-types : goal.try_from-requires-clause-types
try_from-requires-clause-types g c =
    let w = c.args.world.now in
    let q = c.in_ok-question.question in
    let types : c.deref-2.result.now ≡ types_named q.parts.items = c.deref-2.ensures.value ∙ c.in_ok-types.ensures ∙ ap types_named c.deref.ensures.value in
    subst (All (HoldsType w.types)) (sym types) (types_held w.types w.store q.parts.items c.in_ok-question.ensures.parts_held)

pub try_from-requires-clause-begun : goal.try_from-requires-clause-begun
try_from-requires-clause-begun g c =
    let q = c.in_ok-question.question in
    let types : c.deref-2.result.now ≡ types_named q.parts.items = c.deref-2.ensures.value ∙ c.in_ok-types.ensures ∙ ap types_named c.deref.ensures.value in
    let begun = c.in_ok-begun.ensures in
    begun_so c.args.world.now c.args.goal.now q c.deref-2.result.now c.in_ok-begun.begun types begun.chosen begun.free begun.held c.in_ok-question.ensures.held c.in_ok-question.ensures.known

pub try_from-requires-clause-fit : goal.try_from-requires-clause-fit
try_from-requires-clause-fit g c =
    let q = c.in_ok-question.question in
    let types : c.deref-2.result.now ≡ types_named q.parts.items = c.deref-2.ensures.value ∙ c.in_ok-types.ensures ∙ ap types_named c.deref.ensures.value in
    let begun = c.in_ok-begun.ensures in
    fit_so c.args.world.now c.args.goal.now q c.deref-2.result.now c.in_ok-begun.begun types begun.chosen begun.free begun.held

pub returns-in-PassedOver-clause-found : goal.returns-in-PassedOver-clause-found
returns-in-PassedOver-clause-found g c =
    let w = c.args.world.now in
    let gs = c.args.given.now in
    let q = c.in_ok-question.question in
    let told = c.in_ok-question.ensures in
    let begun = c.in_ok-begun.ensures in
    let types : c.deref-2.result.now ≡ types_named q.parts.items = c.deref-2.ensures.value ∙ c.in_ok-types.ensures ∙ ap types_named c.deref.ensures.value in
    none_found w c.args.goal.now q c.deref-2.result.now c.in_ok-begun.begun types begun.chosen begun.free begun.held c.args.aim.now (using_of w c.args.goal.now c.args.formula c.args.count gs c.args.aim.now) c.requires.goal
    (same_use w c.requires.world c.args.goal.now c.args.formula c.args.count gs c.args.aim.now q told.formula told.parts) told.names
    (known_so w c.requires.world c.args.goal.now c.args.formula c.args.count gs c.args.aim.now q told.formula told.parts told.known_names)
    c.try_from.new.world c.in_ok-try_from.field-0 c.in-PassedOver.is c.in_ok-try_from.ensures.comes_out

pub returns-in-Stuck-clause-found : goal.returns-in-Stuck-clause-found
returns-in-Stuck-clause-found g c =
    let w = c.args.world.now in
    let gs = c.args.given.now in
    let q = c.in_ok-question.question in
    let told = c.in_ok-question.ensures in
    let begun = c.in_ok-begun.ensures in
    let types : c.deref-2.result.now ≡ types_named q.parts.items = c.deref-2.ensures.value ∙ c.in_ok-types.ensures ∙ ap types_named c.deref.ensures.value in
    stuck_found w c.args.goal.now q c.deref-2.result.now c.in_ok-begun.begun types begun.chosen begun.free begun.held c.args.aim.now (using_of w c.args.goal.now c.args.formula c.args.count gs c.args.aim.now) c.requires.goal
    (same_use w c.requires.world c.args.goal.now c.args.formula c.args.count gs c.args.aim.now q told.formula told.parts) told.names
    (known_so w c.requires.world c.args.goal.now c.args.formula c.args.count gs c.args.aim.now q told.formula told.parts told.known_names)
    c.try_from.new.world c.in-Stuck.place (at_outcome c.try_from.result (Stuck c.in-Stuck.place) _ (c.in_ok-try_from.was ∙ ap Ok c.in-Stuck.is) c.try_from.ensures.comes_out)

pub returns-in-Open-clause-found : goal.returns-in-Open-clause-found
returns-in-Open-clause-found g c =
    let w = c.args.world.now in
    let gs = c.args.given.now in
    let q = c.in_ok-question.question in
    let told = c.in_ok-question.ensures in
    let begun = c.in_ok-begun.ensures in
    let types : c.deref-2.result.now ≡ types_named q.parts.items = c.deref-2.ensures.value ∙ c.in_ok-types.ensures ∙ ap types_named c.deref.ensures.value in
    open_found w c.args.goal.now q c.deref-2.result.now c.in_ok-begun.begun types begun.chosen begun.free begun.held c.args.aim.now (using_of w c.args.goal.now c.args.formula c.args.count gs c.args.aim.now) c.requires.goal
    (same_use w c.requires.world c.args.goal.now c.args.formula c.args.count gs c.args.aim.now q told.formula told.parts) told.names
    (known_so w c.requires.world c.args.goal.now c.args.formula c.args.count gs c.args.aim.now q told.formula told.parts told.known_names)
    c.try_from.new.world c.in-Open.name (at_outcome c.try_from.result (Open c.in-Open.name) _ (c.in_ok-try_from.was ∙ ap Ok c.in-Open.is) c.try_from.ensures.comes_out)

pub returns-clause-found : goal.returns-clause-found
returns-clause-found g c =
    let w = c.args.world.now in
    let gs = c.args.given.now in
    let q = c.in_ok-question.question in
    let told = c.in_ok-question.ensures in
    let begun = c.in_ok-begun.ensures in
    let types : c.deref-2.result.now ≡ types_named q.parts.items = c.deref-2.ensures.value ∙ c.in_ok-types.ensures ∙ ap types_named c.deref.ensures.value in
    used_found w c.args.goal.now q c.deref-2.result.now c.in_ok-begun.begun types begun.chosen begun.free begun.held c.args.aim.now (using_of w c.args.goal.now c.args.formula c.args.count gs c.args.aim.now) c.requires.goal
    (same_use w c.requires.world c.args.goal.now c.args.formula c.args.count gs c.args.aim.now q told.formula told.parts) told.names
    (known_so w c.requires.world c.args.goal.now c.args.formula c.args.count gs c.args.aim.now q told.formula told.parts told.known_names)
    c.try_from.new.world c.in-Used.used (at_outcome c.try_from.result (Used c.in-Used.used) _ (c.in_ok-try_from.was ∙ ap Ok c.in-Used.is) c.try_from.ensures.comes_out)
