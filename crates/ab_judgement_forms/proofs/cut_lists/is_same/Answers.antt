use Rattle.std.specs.Prelude.{IsTrue, ◌↔◌, Decides}
use Rattle.std.proofs.Common.{◌≡◌, Bool, true, false, refl, sym, subst}
use Rattle.std.proofs.lemmas.Result.{IfOk-weaker}
use Rattle.ab_term.specs.Sameness.{same_term}
use Rattle.ab_term.specs.Terms.{Read}
use Rattle.ab_term.specs.Translation.{EqualPastHints}
use Rattle.ab_term.proofs.Same.{same_term-Decides}
use Rattle.ab_norm.specs.ab_store.specs.Reading.{reading}
use Rattle.ab_norm.specs.ab_store.specs.Trees.{tree_of}
use Rattle.ab_norm.specs.ab_store.proofs.Growing.{unbound_reads}
use Rattle.ab_judgement_forms.proofs.cut_lists.is_same.Goals as goal

told : (yes same : Bool) (P : Type 0) → IsTrue yes ↔ P → Decides same P → yes ≡ same
told true true P is by = refl
told true false P is by = let e : false ≡ true = by.1 (is.0 refl) in absurd (cc)
told false true P is by = let e : false ≡ true = is.1 (by.0 refl) in absurd (cc)
told false false P is by = refl

pub returns : goal.returns
returns c =
    let T = c.args.types.now in
    let S = c.args.store.now in
    IfOk-weaker c.equal.result _ _
    (λ yes is.
    told yes (same_term (tree_of T S c.args.a) (tree_of T S c.args.b)) (EqualPastHints (tree_of T S c.args.a) (tree_of T S c.args.b))
    (subst (λ t. IsTrue yes ↔ EqualPastHints (tree_of T S c.args.a) t) (unbound_reads S c.requires.unbound T c.args.b)
    (subst (λ t. IsTrue yes ↔ EqualPastHints t (reading T S c.args.b)) (unbound_reads S c.requires.unbound T c.args.a) is))
    (same_term-Decides (tree_of T S c.args.a) (tree_of T S c.args.b)))
    c.equal.ensures
