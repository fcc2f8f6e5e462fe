use Rattle.std.proofs.Common.{◌∙◌, ap, length}
use Rattle.std.proofs.Math.Seq.{take-append_seam}
use Rattle.std.specs.Prelude.{take}
use Rattle.ab_declare.proofs.Adding.{world_declared}
use Rattle.ab_declare.proofs.Concluding.{kinds_declared, kinds_refused, world_declined}
use Rattle.ab_declare.proofs.kinds.declare_kinds.Goals as goal

pub returns-in-Ok-None-clause-answer : goal.returns-in-Ok-None-clause-answer
returns-in-Ok-None-clause-answer g c =
    let a = rw c.in-Ok-None.field-0-is at c.in-Ok-None.ensures.added in
    world_declared c.args.world.now c.add_kinds.new.types _ c.requires (kinds_declared c.args.world.now.types c.add_kinds.new.types c.args.names.now a.0 a.1)

pub returns-in-Ok-Some-clause-answer : goal.returns-in-Ok-Some-clause-answer
returns-in-Ok-Some-clause-answer g c =
    let a = rw c.in-Ok-Some.field-0-is at c.in-Ok-Some.ensures.added in
    let same = c.cut_to.ensures.entries ∙ ap (λ n. take n c.add_kinds.new.types) c.len-before.ensures.len ∙ ap (take (length c.args.world.now.types)) c.in-Ok-Some.ensures.kept.1 ∙ take-append_seam c.args.world.now.types c.in-Ok-Some.ensures.kept.0 in
    world_declined c.args.world.now c.cut_to.new.self c.add_kinds.new.types _ c.in-Ok-Some.refusal c.requires same
    (kinds_refused c.args.world.now.types c.add_kinds.new.types c.args.names.now a.0 c.in-Ok-Some.refusal a.1 a.2)
