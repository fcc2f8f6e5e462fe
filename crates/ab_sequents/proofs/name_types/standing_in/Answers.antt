use Rattle.std.proofs.Common.{[], ◌∷◌, ◌++◌, map, take, sym, ◌∙◌, ap, subst, append-nil, append_assoc, arith}
use Rattle.std.proofs.lemmas.List.{take_all, map_more}
use Rattle.ab_term.specs.Names.{support}
use Rattle.ab_logic.specs.SequentReadings.{hypothesis_of}
use Rattle.ab_formulas.specs.Sequents.{names_of, formulas}
use Rattle.ab_logic.specs.Worlds.{read}
use Rattle.ab_sequents.specs.NameTypes.{IsStanding}
use Rattle.ab_sequents.proofs.Standings.{names_last}
use Rattle.ab_sequents.proofs.name_types.standing_in.Goals as goal

pub loop-h-preserved : goal.loop-h-preserved
loop-h-preserved c =
    let w = c.args.world.now in
    let ns = c.args.numbers.now in
    let hs = c.as_slice-h-items.result.now in
    let C = support (read w c.args.goal.now.conclusion) in
    let done = map (hypothesis_of w) (take c.loop-h.h-index hs) in
    let h = hypothesis_of w c.h-item.result in
    let joined = c.join_types-standing.ensures ns (C ++ names_of (formulas done)) (support h.formula) c.loop-h.invariant c.in_ok-one.ensures in
    subst (λ l. IsStanding w.types ns l c.join_types-standing.result)
    (append_assoc C (names_of (formulas done)) (support h.formula)
    ∙ ap (λ l. C ++ l)
    (sym (names_last done h)
    ∙ ap (λ k. names_of (formulas (done ++ hypothesis_of w k ∷ []))) c.h-item.is
    ∙ ap (λ ks. names_of (formulas ks)) (sym (map_more (hypothesis_of w) hs c.loop-h.h-index c.h-item.result c.loop-h-test.true))))
    joined

pub returns : goal.returns
returns c =
    let w = c.args.world.now in
    let whole = take_all c.loop-h.h-index c.as_slice-h-items.result.now (omega arith) ∙ c.as_slice-h-items.ensures in
    subst (λ hs. IsStanding w.types c.args.numbers.now (support (read w c.args.goal.now.conclusion) ++ names_of (formulas (map (hypothesis_of w) hs))) c.loop-h.standing) whole c.loop-h.invariant
