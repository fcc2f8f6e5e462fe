-- The sides of a goal's equation are terms of one type.
use Rattle.std.proofs.Common.{◌≡◌, ℕ, List, [], Some, sym, subst}
use Rattle.ab_term.specs.Typing.{Signature, HasType}
use Rattle.ab_norm.specs.ab_types.specs.Entries.{signature}
use Rattle.ab_norm.specs.ab_store.specs.declared.node.TermId.{TermId}
use Rattle.ab_term.specs.Terms.{Read}
use Rattle.ab_unify.specs.UnifyAnswers.{IsTypedPair}
use Rattle.ab_formulas.specs.Declarations.{signature_in}
use Rattle.ab_formulas.specs.Forms.{as_equal}
use Rattle.ab_logic.specs.SequentReadings.{sequent_of}
use Rattle.ab_formulas.specs.Sequents.{IsSequent, goal_names, formula_of}
use Rattle.ab_logic.specs.Worlds.{IsWorld, Holds, read, declarations_of}
use Rattle.ab_logic.specs.declared.world.World.{World}
use Rattle.ab_logic.specs.declared.sequent.Sequent.{Sequent as Kept}
use Rattle.ab_formulas.proofs.Sides.{equation_sides}
use Rattle.ab_theory.proofs.Sequents.{goal_of, found_may}
use Rattle.ab_rules.proofs.Words.{same_signature}

pub typed_pair : (w : World) → IsWorld w → (s : Kept) → IsSequent (declarations_of w) (sequent_of w s) → (H : List ℕ) (f a b : TermId)
    → formula_of (sequent_of w s) H ≡ Some (read w f) → as_equal (read w f) ≡ Some (read w a, read w b) → Holds w a → Holds w b
    → IsTypedPair w.types w.store (record { left = a; right = b })
typed_pair w world s is H f a b there equal p q =
    let D = declarations_of w in
    let g = sequent_of w s in
    let may = found_may D (goal_names g) g H (read w f) (goal_of D g is) there in
    let sides = equation_sides (signature_in D) g.variables (read w f) (read w a, read w b) may.formula.typed may.closed equal in
    let now : (t : Read) → HasType (signature_in D) [] t sides.type → HasType (signature w.types) [] t sides.type =
    λ t h. subst (λ (sg : Signature). HasType sg [] t sides.type) (sym (same_signature w world)) h in
    ([], sides.type, (p, now (read w a) sides.left), (q, now (read w b) sides.right))
