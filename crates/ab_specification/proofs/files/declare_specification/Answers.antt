use Rattle.ab_specification.proofs.GrownWorlds.{grows_more}
use Rattle.ab_specification.proofs.files.declare_specification.Goals as goal

pub returns-in-Ok-None-clause-answer : goal.returns-in-Ok-None-clause-answer
returns-in-Ok-None-clause-answer g c =
    let a = rw c.in-Ok-None.field-0-is at c.in-Ok-None.ensures.answer in
    record { more = a.more; declares = a.fact; declared = a.declared; grows = c.declare_files.ensures.grows }

pub cut_back-requires : goal.cut_back-requires
cut_back-requires g c = (c.args.world.now, c.requires, c.of-moment.ensures, grows_more c.args.world.now c.declare_files.new.world c.declare_files.ensures.grows)

pub cut_back-requires-in-Err : goal.cut_back-requires-in-Err
cut_back-requires-in-Err g c = (c.args.world.now, c.requires, c.of-moment.ensures, grows_more c.args.world.now c.declare_files.new.world c.declare_files.ensures.grows)

pub returns-in-Ok-Some-clause-answer : goal.returns-in-Ok-Some-clause-answer
returns-in-Ok-Some-clause-answer g c =
    let a = rw c.in-Ok-Some.field-0-is at c.in-Ok-Some.ensures.answer in
    record {
      declines = a;
      restored = c.cut_back.ensures.restored c.args.world.now c.requires c.of-moment.ensures (grows_more c.args.world.now c.declare_files.new.world c.declare_files.ensures.grows);
    }

pub returns-in-Err-clause-err : goal.returns-in-Err-clause-err
returns-in-Err-clause-err g c = c.cut_back-in-Err.ensures.restored c.args.world.now c.requires c.of-moment.ensures (grows_more c.args.world.now c.declare_files.new.world c.declare_files.ensures.grows)
