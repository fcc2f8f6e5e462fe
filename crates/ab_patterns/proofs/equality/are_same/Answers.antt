use Rattle.std.proofs.Common.{◌↔◌, IsTrue, subst}
use Rattle.ab_term.specs.Translation.{EqualPastHints}
use Rattle.ab_norm.specs.ab_store.specs.Trees.{tree_of}
use Rattle.ab_norm.specs.ab_store.specs.Reading.{reading}
use Rattle.ab_norm.specs.ab_store.proofs.Putting.{resolved_reads}
use Rattle.ab_norm.proofs.Frame.{if_ok}
use Rattle.ab_patterns.proofs.equality.are_same.Goals as goal

pub returns : goal.returns
returns c =
    let types = c.args.types.now in
    let store = c.args.store.now in
    if_ok c.equal.result (λ same told.
    subst (λ t. IsTrue same ↔ EqualPastHints t (tree_of types store c.args.b)) (resolved_reads types store c.args.a c.requires.resolved_a)
    (subst (λ u. IsTrue same ↔ EqualPastHints (reading types store c.args.a) u) (resolved_reads types store c.args.b c.requires.resolved_b) told)) c.equal.ensures
