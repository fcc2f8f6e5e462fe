use Rattle.std.proofs.Common.{sym, subst}
use Rattle.std.specs.Prelude.{Contains}
use Rattle.ab_term.specs.Constants.{names}
use Rattle.ab_norm.specs.ab_types.specs.Entries.{constants}
use Rattle.ab_infer.proofs.Connectives.{is_there, has_cons}
use Rattle.ab_infer.proofs.signs.cons.Goals as goal

pub unwrap-id-requires : goal.unwrap-id-requires
unwrap-id-requires c =
    is_there c.look.result (λ n. c.look.ensures.absent.0 n (subst (Contains (names (constants c.args.types.now))) (sym c.in_ok-name.ensures) (has_cons c.args.types.now c.requires)))
