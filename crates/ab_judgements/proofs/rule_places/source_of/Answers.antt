use Rattle.std.proofs.Common.{refl}
use Rattle.ab_alternatives.proofs.Passed.{later_not}
use Rattle.ab_judgements.proofs.LaterJudgements.{later_terms, program_listed, focus_listed}
use Rattle.ab_judgements.proofs.rule_places.source_of.Goals as goal

pub returns-in_err-list-clause-later : goal.returns-in_err-list-clause-later
returns-in_err-list-clause-later c = later_terms c.args.world.now c.parts.new.store c.requires.world c.parts.ensures.adds

pub returns-in-Some-clause-rules : goal.returns-in-Some-clause-rules
returns-in-Some-clause-rules c =
    let w = c.args.world.now in
    focus_listed w c.args.judgement.now (record { types = w.types; store = c.parts.new.store; additions = w.additions }) (later_terms w c.parts.new.store c.requires.world c.parts.ensures.adds)
    c.requires.judgement c.requires.rules c.in-Some.formula c.in-Some.is c.in_ok-list.list.items c.in_ok-list.ensures.reads

pub returns-in-Some-clause-later : goal.returns-in-Some-clause-later
returns-in-Some-clause-later c = later_terms c.args.world.now c.parts.new.store c.requires.world c.parts.ensures.adds

pub returns-in-Atomic : goal.returns-in-Atomic
returns-in-Atomic c =
    let w = c.args.world.now in
    record {
      source = tt;
      rules = program_listed w c.args.judgement.now c.requires.rules c.in_default.is c.kind_of.result (c.kind_of.ensures w.types) c.in-Atomic.is;
      later = later_not w c.requires.world;
      cells = refl;
    }
