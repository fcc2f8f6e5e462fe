use Rattle.std.proofs.Common.{Contains, refl, sym, subst}
use Rattle.ab_term.specs.Constants.{names}
use Rattle.ab_store.specs.ab_types.specs.Entries.{constants}
use Rattle.ab_typing.proofs.Members.{has_member}
use Rattle.ab_typing.proofs.built_in.built_in.Goals as goal

pub unreachable-requires : goal.unreachable-requires
unreachable-requires c =
    c.in_default.ensures.absent.0 refl (subst (Contains (names (constants c.args.types.now))) (sym c.in_ok-name.ensures) (has_member c.args.types.now c.look.ensures.table))
