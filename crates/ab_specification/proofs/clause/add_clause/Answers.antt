use Rattle.std.specs.Prelude.{Err}
use Rattle.std.proofs.Common.{sym, ap, ◌∙◌, subst}
use Rattle.ab_formulas.specs.Programs.{IsProgramHead}
use Rattle.ab_logic.specs.Worlds.{read}
use Rattle.ab_logic.specs.WorldGrowth.{Grows}
use Rattle.ab_logic.specs.declared.world.DefineFault.TheVariants as define
use Rattle.ab_logic.proofs.Growing.{grows_not}
use Rattle.ab_specification.proofs.ClauseAnswers.{IsFaultTold, told_head, no_clash, no_stratification}
use Rattle.ab_specification.proofs.clause.add_clause.Goals as goal

pub returns-in-Err-BadHead-clause-added : goal.returns-in-Err-BadHead-clause-added
returns-in-Err-BadHead-clause-added g c =
    told_head (IsProgramHead (read c.args.world.now c.args.clause.head)) c.args.number c.in-Err-BadHead.number
    (c.add_clause.ensures.refused (define.BadHead c.in-Err-BadHead.number) (c.in-Err-BadHead.is ∙ ap Err c.in-Err-BadHead.field-0-is))

pub unreachable-requires : goal.unreachable-requires
unreachable-requires g c =
    let f = c.in-Err-Clash.field-0 in
    no_clash (IsProgramHead (read c.args.world.now c.args.clause.head)) c.args.number _
    (subst (IsFaultTold (IsProgramHead (read c.args.world.now c.args.clause.head)) c.args.number) c.in-Err-Clash.field-0-is (c.add_clause.ensures.refused f c.in-Err-Clash.is))

pub unreachable-requires-in-Err-NotStratified : goal.unreachable-requires-in-Err-NotStratified
unreachable-requires-in-Err-NotStratified g c =
    let f = c.in-Err-NotStratified.field-0 in
    no_stratification (IsProgramHead (read c.args.world.now c.args.clause.head)) c.args.number _
    (subst (IsFaultTold (IsProgramHead (read c.args.world.now c.args.clause.head)) c.args.number) c.in-Err-NotStratified.field-0-is (c.add_clause.ensures.refused f c.in-Err-NotStratified.is))

pub returns-in-Err-BadHead-clause-grows : goal.returns-in-Err-BadHead-clause-grows
returns-in-Err-BadHead-clause-grows g c = subst (Grows c.args.world.now) (sym c.in-Err-BadHead.ensures.err) (grows_not c.args.world.now c.requires.world)

pub returns-in-Err-Memory-clause-grows : goal.returns-in-Err-Memory-clause-grows
returns-in-Err-Memory-clause-grows g c = subst (Grows c.args.world.now) (sym c.in-Err-Memory.ensures.err) (grows_not c.args.world.now c.requires.world)
