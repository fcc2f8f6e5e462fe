use Rattle.std.proofs.Common.{IfOk, sym, subst}
use Rattle.ab_term.specs.Names.{support_of_head}
use Rattle.ab_store.specs.Trees.{head_reading}
use Rattle.ab_typing.specs.NominalTypes.{Notes}
use Rattle.ab_typing.proofs.nominal_types.note_head.Goals as goal

pub returns-in-Nominal : goal.returns-in-Nominal
returns-in-Nominal c =
    subst (λ h. IfOk c.note_number.result (Notes c.args.types.now c.args.store.now c.args.known.now c.note_number.new.known (support_of_head (head_reading c.args.types.now c.args.store.now h)))) (sym c.in-Nominal.is) c.note_number.ensures
