use Rattle.ab_search_paths.proofs.Staying.{stand_ins_then}
use Rattle.ab_search.proofs.carried_paths.put_in_or_unfold.Goals as goal

pub returns-in-Term-clause-stand_ins : goal.returns-in-Term-clause-stand_ins
returns-in-Term-clause-stand_ins g c =
    let f = c.take_term.ensures.follows in
    stand_ins_then c.args.world.now c.take_term.new.world f.grows f.declared c.args.stand_ins.now.items c.requires.stand_ins

pub returns-in-Clause-clause-stand_ins : goal.returns-in-Clause-clause-stand_ins
returns-in-Clause-clause-stand_ins g c =
    let f = c.take_clause.ensures.follows in
    stand_ins_then c.args.world.now c.take_clause.new.world f.grows f.declared c.args.stand_ins.now.items c.requires.stand_ins

pub returns-in_default : goal.returns-in_default
returns-in_default g c =
    let f = c.take_layer.ensures.follows in
    record {
      follows = f;
      gave_way = c.take_layer.ensures.gave_way;
      stand_ins = stand_ins_then c.args.world.now c.take_layer.new.world f.grows f.declared c.args.stand_ins.now.items c.requires.stand_ins;
      steps = c.take_layer.ensures.steps;
    }
