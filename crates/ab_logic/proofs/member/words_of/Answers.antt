use Rattle.std.proofs.Common.{Contains, refl, sym, subst}
use Rattle.ab_term.specs.Constants.{names}
use Rattle.ab_store.specs.ab_types.specs.Entries.{constants}
use Rattle.ab_logic.proofs.Members.{has_cons}
use Rattle.ab_logic.proofs.member.words_of.Goals as goal

pub unreachable-requires-in_default-look : goal.unreachable-requires-in_default-look
unreachable-requires-in_default-look c =
    c.in_default-look.ensures.absent.0 refl (subst (Contains (names (constants c.args.types.now))) (sym c.in_ok-cons_name.ensures) (has_cons c.args.types.now c.requires))
