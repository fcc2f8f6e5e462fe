use Rattle.std.proofs.Common.{[]}
use Rattle.std.proofs.lemmas.List.Elements.{All-cons, All-nil}
use Rattle.ab_logic.specs.Worlds.{Holds}
use Rattle.ab_logic.proofs.Growing.{still_held}
use Rattle.ab_search_paths.proofs.MoreTerms.{got_on}
use Rattle.ab_search_paths.proofs.Staying.{stand_ins_then}
use Rattle.ab_search.proofs.quantifier_steps.term_at.Goals as goal

pub carry_terms-requires-clause-stand_ins : goal.carry_terms-requires-clause-stand_ins
carry_terms-requires-clause-stand_ins g c =
    let got = c.compare.ensures.got in
    stand_ins_then c.args.world.now c.compare.new.world got.grows got.declared c.args.stand_ins.now c.requires.stand_ins

pub carry_terms-requires-clause-goal : goal.carry_terms-requires-clause-goal
carry_terms-requires-clause-goal g c =
    still_held c.args.world.now c.compare.new.world c.compare.ensures.got.grows c.in_ok-goal.goal.now (c.in_ok-goal.ensures.held c.args.world.now c.requires.proof)

pub carry_terms-requires-clause-terms : goal.carry_terms-requires-clause-terms
carry_terms-requires-clause-terms g c =
    let v = c.compare.new.world in
    All-cons (Holds v) c.args.term [] (c.compare.ensures.got.grows.ids c.args.term c.requires.term) (All-nil (Holds v))

pub returns-in_err-list-clause-got : goal.returns-in_err-list-clause-got
returns-in_err-list-clause-got g c = got_on c.args.world.now c.compare.new.world c.carry_terms.new.world c.compare.ensures.got c.carry_terms.ensures.got

pub returns-clause-got : goal.returns-clause-got
returns-clause-got g c = got_on c.args.world.now c.compare.new.world c.carry_terms.new.world c.compare.ensures.got c.carry_terms.ensures.got
