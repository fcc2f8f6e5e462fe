use Rattle.std.proofs.Common.{true, [], ◌++◌, map, ◌∙◌, subst, arith}
use Rattle.std.proofs.lemmas.List.{take_all}
use Rattle.ab_term.specs.Names.{support}
use Rattle.ab_norm.specs.ab_types.specs.Ids.{type_of}
use Rattle.ab_logic.specs.Worlds.{read}
use Rattle.ab_logic.specs.SequentReadings.{hypothesis_of}
use Rattle.ab_rules.specs.UsedNumbers.{Gains, Blocked}
use Rattle.ab_rules.proofs.Chosen.{Unfit, names_in, unfit_first, unfit_more, names_more}
use Rattle.ab_rules.proofs.nabla_constants.excluded_numbers.Goals as goal

pub loop-h-init : goal.loop-h-init
loop-h-init c =
    let w = c.args.world.now in
    unfit_first _ _ _ [] c.exclude_in.new.numbers.items _
    (subst (λ xs. Gains xs c.exclude_in.new.numbers.items (Blocked true (type_of w.types c.args.ty) (support (read w c.args.formula)))) c.new-numbers.ensures.items c.in_ok-exclude_in.ensures)
    c.in_ok-exclude_in-2.ensures

pub loop-h-preserved : goal.loop-h-preserved
loop-h-preserved c =
    let w = c.args.world.now in
    unfit_more _ _ _ _ _ _ _ _ (names_more w (support (read w c.args.sequent.now.conclusion)) c.as_slice-h-items.result.now c.loop-h.h-index c.h-item.result c.h-item.result c.loop-h-test.true c.h-item.is)
    c.loop-h.invariant c.in_ok-exclude_in-3.ensures

pub returns : goal.returns
returns c =
    let w = c.args.world.now in
    let whole = take_all c.loop-h.h-index c.as_slice-h-items.result.now (omega arith) ∙ c.as_slice-h-items.ensures in
    subst (λ hs. Gains [] c.loop-h.numbers.items (Unfit (type_of w.types c.args.ty) (support (read w c.args.formula)) (support (read w c.args.sequent.now.conclusion) ++ names_in (map (hypothesis_of w) hs)))) whole c.loop-h.invariant
