use Rattle.std.proofs.Common.{Contains, IsNone, sym, subst, rules}
use Rattle.ab_term.specs.Constants.{names}
use Rattle.ab_norm.specs.ab_types.specs.Entries.{constants}
use Rattle.ab_judgement_forms.proofs.Words.{has_member}
use Rattle.ab_judgement_forms.proofs.list_items.words_of.Goals as goal

pub unreachable-requires : goal.unreachable-requires
unreachable-requires c =
    let none : IsNone c.look.result = search rules in
    c.look.ensures.absent.0 none (subst (Contains (names (constants c.args.world.now.types))) (sym c.in_ok-name.ensures) (has_member c.args.world.now.types c.requires.begins))
