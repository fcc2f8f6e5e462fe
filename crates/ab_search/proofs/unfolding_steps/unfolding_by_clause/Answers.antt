use Rattle.std.proofs.Common.{sym, ◌∙◌, subst}
use Rattle.std.specs.List.{All}
use Rattle.std.proofs.lemmas.List.Elements.{All-weaker}
use Rattle.ab_norm.specs.Nominals.{HoldsNominal}
use Rattle.ab_logic.specs.Worlds.{Holds}
use Rattle.ab_logic.proofs.Growing.{grows_on, still_held}
use Rattle.ab_steps.specs.ab_kernel.specs.ab_judgements.specs.ab_alternatives.specs.ab_instances.proofs.Made.{names_held}
use Rattle.ab_search_paths.proofs.Likenesses.{likeness_stays}
use Rattle.ab_search.proofs.MadeBeside.{conclusion_later}
use Rattle.ab_search_paths.proofs.Staying.{stand_ins_then}
use Rattle.ab_search.proofs.unfolding_steps.unfolding_by_clause.Goals as goal

pub opening_by_clause-requires-clause-goal : goal.opening_by_clause-requires-clause-goal
opening_by_clause-requires-clause-goal g c = still_held c.args.world.now c.compare.new.world c.compare.ensures.got.grows c.args.goal.now c.requires.goal

pub opening_by_clause-requires-clause-formula : goal.opening_by_clause-requires-clause-formula
opening_by_clause-requires-clause-formula g c =
    let got = c.compare.ensures.got in
    conclusion_later c.args.world.now c.compare.new.world got.grows got.declared c.args.goal.now c.requires.goal c.requires.sequent

pub returns-in_err-opening-clause-grows : goal.returns-in_err-opening-clause-grows
returns-in_err-opening-clause-grows g c = grows_on c.args.world.now c.compare.new.world c.opening_by_clause.new.world c.compare.ensures.got.grows c.opening_by_clause.ensures.grows

pub carry_terms-requires-clause-stand_ins : goal.carry_terms-requires-clause-stand_ins
carry_terms-requires-clause-stand_ins g c =
    let got = c.compare.ensures.got in
    let opened = c.opening_by_clause.ensures in
    let u = c.opening_by_clause.new.world in
    stand_ins_then c.args.world.now u (grows_on c.args.world.now c.compare.new.world u got.grows opened.grows) (opened.declared ∙ got.declared) c.args.stand_ins.now c.requires.stand_ins

pub carry_terms-requires-clause-like : goal.carry_terms-requires-clause-like
carry_terms-requires-clause-like g c =
    let like = c.in_ok-like.like in
    likeness_stays c.compare.new.world.types c.opening_by_clause.new.world.types c.opening_by_clause.ensures.grows.types like.names.items like.targets.items c.in_ok-like.ensures.like

pub carry_terms-requires-clause-goal : goal.carry_terms-requires-clause-goal
carry_terms-requires-clause-goal g c =
    let u = c.opening_by_clause.new.world in
    still_held c.args.world.now u (grows_on c.args.world.now c.compare.new.world u c.compare.ensures.got.grows c.opening_by_clause.ensures.grows) c.args.goal.now c.requires.goal

pub carry_terms-requires-clause-terms : goal.carry_terms-requires-clause-terms
carry_terms-requires-clause-terms g c =
    let w = c.args.world.now in
    let u = c.opening_by_clause.new.world in
    let grows = grows_on w c.compare.new.world u c.compare.ensures.got.grows c.opening_by_clause.ensures.grows in
    subst (All (Holds u)) (sym c.deref.ensures.value) (All-weaker (Holds w) (Holds u) grows.ids c.args.clause.now.values.items c.requires.values)

pub returns-in_err-values-clause-grows : goal.returns-in_err-values-clause-grows
returns-in_err-values-clause-grows g c =
    let w = c.args.world.now in
    let u = c.opening_by_clause.new.world in
    grows_on w u c.carry_terms.new.world (grows_on w c.compare.new.world u c.compare.ensures.got.grows c.opening_by_clause.ensures.grows) c.carry_terms.ensures.got.grows

pub terms_for-requires-clause-constants : goal.terms_for-requires-clause-constants
terms_for-requires-clause-constants g c =
    let v = c.compare.new.world in
    let x = c.carry_terms.new.world in
    let grows = grows_on v c.opening_by_clause.new.world x c.opening_by_clause.ensures.grows c.carry_terms.ensures.got.grows in
    subst (All (HoldsNominal x.types)) (sym c.deref-2.ensures.value) (names_held v.types x.types grows.types c.in_ok-opening.opening.unchosen.items c.in_ok-opening.ensures.unchosen)

pub returns-in_err-terms-clause-grows : goal.returns-in_err-terms-clause-grows
returns-in_err-terms-clause-grows g c =
    let w = c.args.world.now in
    let u = c.opening_by_clause.new.world in
    let x = c.carry_terms.new.world in
    grows_on w x c.terms_for.new.world (grows_on w u x (grows_on w c.compare.new.world u c.compare.ensures.got.grows c.opening_by_clause.ensures.grows) c.carry_terms.ensures.got.grows) c.terms_for.ensures.got.grows

pub returns-clause-grows : goal.returns-clause-grows
returns-clause-grows g c =
    let w = c.args.world.now in
    let u = c.opening_by_clause.new.world in
    let x = c.carry_terms.new.world in
    grows_on w x c.terms_for.new.world (grows_on w u x (grows_on w c.compare.new.world u c.compare.ensures.got.grows c.opening_by_clause.ensures.grows) c.carry_terms.ensures.got.grows) c.terms_for.ensures.got.grows
