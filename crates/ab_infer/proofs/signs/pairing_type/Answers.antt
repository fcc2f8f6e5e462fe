use Rattle.ab_norm.specs.ab_types.proofs.Entries.{type_still_held}
use Rattle.ab_norm.proofs.Frame.{if_ok}
use Rattle.ab_infer.proofs.Grounds.{adds_both}
use Rattle.ab_infer.proofs.Connectives.{adds_type, pairing_is}
use Rattle.ab_infer.proofs.signs.pairing_type.Goals as goal

pub arrow-requires-2-clause-from_held : goal.arrow-requires-2-clause-from_held
arrow-requires-2-clause-from_held c = type_still_held c.args.types.now c.arrow.new.self c.in_ok-last.ensures.kept c.args.ty c.requires.ty

pub returns-clause-is : goal.returns-clause-is
returns-clause-is c = if_ok c.arrow-2.result (λ id h. pairing_is c.args.types.now c.arrow.new.self c.arrow-2.new.self c.args.ty c.in_ok-last.last id c.in_ok-last.ensures.kept c.requires.ty c.in_ok-last.ensures.id h) c.arrow-2.ensures.id

pub returns-clause-adds : goal.returns-clause-adds
returns-clause-adds c =
    adds_both c.args.types.now c.arrow.new.self c.arrow-2.new.self
    (adds_type c.args.types.now c.arrow.new.self _ c.arrow.result c.arrow.ensures.kept c.arrow.ensures.entries c.arrow.ensures.err)
    (adds_type c.arrow.new.self c.arrow-2.new.self _ c.arrow-2.result c.arrow-2.ensures.kept c.arrow-2.ensures.entries c.arrow-2.ensures.err)
