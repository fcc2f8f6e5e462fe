use Rattle.std.proofs.Common.{◌-◌, take, drop, length, sym, subst, ◌∙◌}
use Rattle.std.proofs.lemmas.Result.{IfOk-weaker}
use Rattle.ab_logic.proofs.Growing.{grows_on}
use Rattle.ab_logic.proofs.Declared.{declared_same}
use Rattle.ab_proofcmd.proofs.Staged.{first_so, first_all}
use Rattle.ab_proofcmd.proofs.Turned.{HoldsGiven, one_there, said_more}
use Rattle.ab_proofcmd.proofs.new_conclusions.+given_that.Goals as goal

pub itself-requires-clause-value : goal.itself-requires-clause-value
itself-requires-clause-value t c =
    let w = c.args.world.now in
    let gs = c.args.given.now in
    let one = c.first-item.result in
    let there = subst (HoldsGiven w) (sym c.first-item.is) (first_all (HoldsGiven w) gs one c.in-len1-up.len_at_least c.requires.given) in
    (one_there w c.given_that.new.world c.given_that.ensures.grows one there).0

pub itself-requires-clause-ty : goal.itself-requires-clause-ty
itself-requires-clause-ty t c =
    let w = c.args.world.now in
    let gs = c.args.given.now in
    let one = c.first-item.result in
    let there = subst (HoldsGiven w) (sym c.first-item.is) (first_all (HoldsGiven w) gs one c.in-len1-up.len_at_least c.requires.given) in
    (one_there w c.given_that.new.world c.given_that.ensures.grows one there).1

pub returns-in_err-equation-in-len1-up-clause-grows : goal.returns-in_err-equation-in-len1-up-clause-grows
returns-in_err-equation-in-len1-up-clause-grows t c = grows_on _ _ _ c.given_that.ensures.grows c.itself.ensures.grows

pub returns-in_err-equation-in-len1-up-clause-declared : goal.returns-in_err-equation-in-len1-up-clause-declared
returns-in_err-equation-in-len1-up-clause-declared t c =
    let made = c.itself.ensures in
    declared_same c.given_that.new.world c.itself.new.world c.given_that.ensures.grows.world made.grows made.additions made.types ∙ c.given_that.ensures.declared

pub returns-in_ok-equation-in-len1-up-clause-declared : goal.returns-in_ok-equation-in-len1-up-clause-declared
returns-in_ok-equation-in-len1-up-clause-declared t c =
    let made = c.itself.ensures in
    let last = c.implication.ensures in
    declared_same c.itself.new.world c.implication.new.world made.grows.world last.grows last.additions last.types
    ∙ declared_same c.given_that.new.world c.itself.new.world c.given_that.ensures.grows.world made.grows made.additions made.types
    ∙ c.given_that.ensures.declared

pub returns-in_ok-equation-in-len1-up-clause-grows : goal.returns-in_ok-equation-in-len1-up-clause-grows
returns-in_ok-equation-in-len1-up-clause-grows t c = grows_on _ _ _ (grows_on _ _ _ c.given_that.ensures.grows c.itself.ensures.grows) c.implication.ensures.grows

pub returns-in_ok-equation-in-len1-up-clause-reads : goal.returns-in_ok-equation-in-len1-up-clause-reads
returns-in_ok-equation-in-len1-up-clause-reads t c =
    let w = c.args.world.now in
    let gs = c.args.given.now in
    let one = c.first-item.result in
    let there = subst (HoldsGiven w) (sym c.first-item.is) (first_all (HoldsGiven w) gs one c.in-len1-up.len_at_least c.requires.given) in
    IfOk-weaker c.implication.result _ _ (λ r made.
    said_more w c.given_that.new.world c.itself.new.world c.implication.new.world gs (take (length gs - 1) (drop 1 gs)) one c.args.formula c.in_ok-rest-in-len1-up.rest c.in_ok-equation-in-len1-up.equation r
    (first_so gs one c.in-len1-up.len_at_least c.first-item.is) there c.given_that.ensures.grows c.itself.ensures.grows c.in_ok-rest-in-len1-up.ensures.held c.in_ok-rest-in-len1-up.ensures.reads c.in_ok-equation-in-len1-up.ensures.reads made)
    c.implication.ensures.reads
