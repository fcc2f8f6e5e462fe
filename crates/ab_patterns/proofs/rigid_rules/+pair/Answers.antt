use Rattle.std.proofs.Common.{◌-◌, length, drop, sym, subst}
use Rattle.std.specs.List.{All}
use Rattle.std.proofs.lemmas.List.Elements.{All-take, All-drop, All-push, All-get_or}
use Rattle.std.proofs.lemmas.Result.{on_ok_weaker}
use Rattle.ab_norm.specs.ab_store.specs.declared.node.TermId.{TermId}
use Rattle.ab_norm.specs.ab_store.specs.Trees.{Holds}
use Rattle.ab_patterns.specs.EquationReadings.{HoldsEquation}
use Rattle.ab_patterns.proofs.rigid_rules.+pair.Goals as goal

pub returns-in_ok-push-in-len1-up-those-clause-held : goal.returns-in_ok-push-in-len1-up-those-clause-held
returns-in_ok-push-in-len1-up-those-clause-held t c = on_ok_weaker c.pair.result (λ more store these those before.
    let d : TermId = record { 0 = 0 } in
    let first = All-get_or (Holds store) c.args.these.now 0 d c.in-len1-up.len_at_least these in
    let second = All-get_or (Holds store) c.args.those.now 0 d c.in-len1-up-those.len_at_least those in
    more store
    (All-take (Holds store) (length c.args.these.now - 1) (drop 1 c.args.these.now) (All-drop (Holds store) 1 c.args.these.now these))
    (All-take (Holds store) (length c.args.those.now - 1) (drop 1 c.args.those.now) (All-drop (Holds store) 1 c.args.those.now those))
    (subst (All (HoldsEquation store)) (sym c.in_ok-push-in-len1-up-those.ensures.items) (All-push (HoldsEquation store) c.args.into.now.items _ before (first, second)))) c.pair.ensures.held
