-- What a world's calls say of terms that fit, in the words of sequents.
use Rattle.std.proofs.Common.{◌≡◌, ℕ, List, [], ◌∷◌, map, refl, sym, ◌∙◌, ap, subst}
use Rattle.std.specs.List.{All}
use Rattle.std.proofs.lemmas.List.Elements.{All-cons, All-map}
use Rattle.ab_term.specs.Terms as tree
use Rattle.ab_term.specs.Typing.{Signature}
use Rattle.ab_term.specs.Constants as table
use Rattle.ab_norm.specs.ab_types.specs.Entries.{signature}
use Rattle.ab_norm.specs.ab_store.specs.declared.node.TermId.{TermId}
use Rattle.ab_norm.specs.ab_store.specs.declared.node.CellId.{CellId}
use Rattle.ab_term.specs.Terms.{Read}
use Rattle.ab_typing.specs.Cells as cells
use Rattle.ab_formulas.specs.Declarations.{signature_in}
use Rattle.ab_logic.specs.Worlds.{IsWorld, Holds, read, variable_of, declarations_of}
use Rattle.ab_logic.specs.SequentReadings.{sequent_of, hypothesis_of, HoldsSequent}
use Rattle.ab_formulas.specs.Sequents.{in_terms, formulas, formulas_of}
use Rattle.ab_logic.specs.declared.world.World.{World}
use Rattle.ab_logic.specs.declared.sequent.Sequent.{Sequent as Kept}
use Rattle.ab_logic.specs.declared.sequent.Hypothesis.{Hypothesis}
use Rattle.ab_logic.proofs.Declaring.{constants_are}

pub same_signature : (w : World) → IsWorld w → signature w.types ≡ signature_in (declarations_of w)
same_signature w is = ap table.type_in (sym (constants_are w 0 w.additions is.order))

module _ (w : World) where
  pub same_variables : (xs : List CellId) → map (cells.variable_of w.types w.store) xs ≡ map in_terms (map (variable_of w) xs)
  same_variables [] = refl
  same_variables (x ∷ xs) = ap (λ l. cells.variable_of w.types w.store x ∷ l) (same_variables xs)

  same_formulas : (hs : List Hypothesis) → map (read w) (map (λ (h : Hypothesis). h.formula) hs) ≡ formulas (map (hypothesis_of w) hs)
  same_formulas [] = refl
  same_formulas (h ∷ hs) = ap (λ l. read w h.formula ∷ l) (same_formulas hs)

  pub all_formulas : (s : Kept) (ids : List TermId) → ids ≡ s.conclusion ∷ map (λ (h : Hypothesis). h.formula) s.hypotheses → map (read w) ids ≡ formulas_of (sequent_of w s)
  all_formulas s ids e = ap (map (read w)) e ∙ ap (λ l. read w s.conclusion ∷ l) (same_formulas s.hypotheses)

-- what holds in the words of the call holds in those of the sequent
pub in_words : (w : World) → IsWorld w → (s : Kept) (xs : List CellId) (ids : List TermId) → xs ≡ s.variables → ids ≡ s.conclusion ∷ map (λ (h : Hypothesis). h.formula) s.hypotheses
    → (P : Signature → List (tree.Variable ℕ) → List Read → Type 0)
    → P (signature w.types) (map (cells.variable_of w.types w.store) xs) (map (read w) ids)
    → P (signature_in (declarations_of w)) (map in_terms (map (variable_of w) s.variables)) (formulas_of (sequent_of w s))
in_words w is s xs ids vars terms P p =
    subst (λ sg. P sg (map in_terms (map (variable_of w) s.variables)) (formulas_of (sequent_of w s))) (same_signature w is)
    (subst (λ l. P (signature w.types) l (formulas_of (sequent_of w s))) (ap (map (cells.variable_of w.types w.store)) vars ∙ same_variables w s.variables)
    (subst (P (signature w.types) (map (cells.variable_of w.types w.store) xs)) (all_formulas w s ids terms) p))

-- and the formulas are there
pub all_held : (w : World) (s : Kept) → HoldsSequent w s → (ids : List TermId) → ids ≡ s.conclusion ∷ map (λ (h : Hypothesis). h.formula) s.hypotheses → All (Holds w) ids
all_held w s h ids e =
    subst (All (Holds w)) (sym e)
    (All-cons (Holds w) s.conclusion (map (λ (x : Hypothesis). x.formula) s.hypotheses) h.conclusion (All-map (Holds w) (λ (x : Hypothesis). x.formula) s.hypotheses h.hypotheses))
