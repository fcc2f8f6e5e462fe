-- An instance by a rule: the terms for the rule's new variables are a guess for the names of the clause by indices.
use Rattle.std.proofs.Common.{◌≡◌, ℕ, zero, suc, ◌<◌, List, [], ◌∷◌, map, length, codes, Option, Some, None, refl, sym, ◌∙◌, ap, subst, arith}
use Rattle.std.specs.Prelude.{All}
use Rattle.std.proofs.lemmas.Bool.{false≢true, false_from_ne_true}
use Rattle.std.proofs.lemmas.List.Elements.{All-head, All-tail}
use Rattle.ab_term.specs.Types.{o, olist, arrows}
use Rattle.ab_term.specs.Terms.{Nominal, Variable, Read}
use Rattle.ab_term.specs.Typing.{Signature, HasType}
use Rattle.ab_term.specs.Reach.{raise}
use Rattle.ab_term.specs.Translation.{forget, EqualPastHints}
use Rattle.ab_term.specs.Variables.{Substitution, variables, value_in, image, image_by, IsTyped}
use Rattle.ab_term.specs.Sameness.{same_number}
use Rattle.ab_term.proofs.Depends.{image_unmoved}
use Rattle.ab_term.proofs.PastHints.{typed_past_hints}
use Rattle.ab_term.proofs.Standing as standing
use Rattle.ab_unifiers.specs.Replacements.{Cell, holds}
use Rattle.ab_unifiers.specs.Unifiers.{AreKnown}
use Rattle.ab_unifiers.specs.Clauses.{AreFor, numbered, put_together}
use Rattle.ab_unifiers.specs.Alternatives.{Scope, on_left}
use Rattle.ab_unifiers.proofs.Agreeing.{contains_holds}
use Rattle.ab_unifiers.proofs.Past.{bare, forget-image}
use Rattle.ab_unifiers.proofs.Rows.{together_typed, numbered_within}
use Rattle.ab_unifiers.proofs.Variables as over
use Rattle.ab_theory.specs.SpecRules.{Demand}
use Rattle.ab_coverage.proofs.IndexedSpecClauses.{SpecClause, closed_in, clause_image, atom_with, body_with}
use Rattle.ab_coverage.proofs.IndexedInstances.{IsGuess}
use Rattle.ab_coverage.proofs.Conjoined.{asked_has}
use Rattle.ab_coverage.proofs.Filling.{closed_with}
use Rattle.ab_coverage.proofs.Parts.{raise_has, IsPart}
use Rattle.ab_coverage.proofs.Sound as sound
use Rattle.ab_coverage.proofs.IndexForms.{value_none, matrix_of}
use Rattle.ab_coverage.proofs.Demands.{x, IsBelow, Low, Ties}

-- what is the same past hints, under a substitution
pub image_alike : (s : Substitution ℕ (List ℕ)) (t u : Read) → EqualPastHints t u → EqualPastHints (image same_number s t) (image same_number s u)
image_alike s t u e = forget-image s t ∙ ap (image_by (bare s)) e ∙ sym (forget-image s u)

-- so many cells
abbrev pub blanks : ℕ → List (Cell (List ℕ))
blanks zero = []
blanks (suc n) = record { hint = x; type = o } ∷ blanks n

pub blanks_length : (n : ℕ) → length (blanks n) ≡ n
blanks_length zero = refl
blanks_length (suc n) = ap suc (blanks_length n)

abbrev pub over_blanks : ℕ → Scope (List ℕ)
over_blanks n = record { cells = blanks n; variables = []; constants = [] }

pub none_known : (n : ℕ) → AreKnown (over_blanks n).cells (over_blanks n).variables
none_known n y h = absurd (false≢true h)

module _ (sg : Signature) (cons : sg (codes "::") ≡ Some (arrows (o ∷ olist ∷ []) olist)) (S : List Nominal) (first : ℕ) (L : Read) (L_typed : HasType sg [] L olist) (L_below : IsBelow first L)
    (c : SpecClause (List ℕ)) (part : IsPart sg (Low first) [] c) (A : Read) (d : Demand) (ties : Ties S first L c A d) (terms : List Read) (for : AreFor sg (numbered first d.own) terms) where
  abbrev pub P : Substitution ℕ (List ℕ)
  P = put_together (numbered first d.own) terms

  pub P_typed : IsTyped sg P
  P_typed = together_typed sg (numbered first d.own) terms for

  P_none : (z : Variable ℕ) → z.name < first → value_in same_number P z ≡ None
  P_none z low = value_none (numbered first d.own) terms z (false_from_ne_true (holds (numbered first d.own) z) (λ h. let high = (numbered_within first d.own z h).0 in omega (arith, low, high)))

  -- what is below stays
  pub low_stays : (t : Read) → IsBelow first t → image same_number P t ≡ t
  low_stays t b = image_unmoved (value_in same_number P) t (λ y m. P_none y (over.has_held (λ y. y.name < first) t b y (contains_holds (variables t) y m)))

  all_stay : (ts : List Read) → All (standing.Has (Low first)) ts → map (image same_number P) ts ≡ ts
  all_stay [] all = refl
  all_stay (t ∷ ts) all = ap (λ u. u ∷ map (image same_number P) ts) (low_stays t (All-head (standing.Has (Low first)) t ts all)) ∙ ap (λ l. t ∷ l) (all_stay ts (All-tail (standing.Has (Low first)) t ts all))

  clause_stays : clause_image P c ≡ c
  clause_stays =
      ap (λ l. record { binders = c.binders; goals = l; atom = image same_number P c.atom }) (all_stay c.goals part.goals_have)
      ∙ ap (λ t. record { binders = c.binders; goals = c.goals; atom = t }) (low_stays c.atom part.atom_has)

  abbrev new : List (Option Read)
  new = sound.new sg cons x x on_left (over_blanks first) (none_known first) S L L_typed c part.atom part.goals

  abbrev pub vs : List (Option Read)
  vs = sound.vs sg cons x x on_left (over_blanks first) (none_known first) S L L_typed c part.atom part.goals P P_typed

  tied : Ties S (length (blanks first)) L c A d
  tied = subst (λ k. Ties S k L c A d) (sym (blanks_length first)) ties

  pub guess : IsGuess sg (closed_in c) c.binders vs
  guess = sound.vs_guess sg cons x x on_left (over_blanks first) (none_known first) S L L_typed c part.atom part.goals P P_typed

  pub A_typed : HasType sg [] A o
  A_typed = typed_past_hints sg (atom_with c new) A (sym tied.atom) (sound.atom_new_typed sg cons x x on_left (over_blanks first) (none_known first) S L L_typed c part.atom part.goals)

  pub atom_guessed : EqualPastHints (atom_with c vs) (image same_number P A)
  atom_guessed = sym (
      image_alike P A (atom_with c new) tied.atom
      ∙ sound.atoms_same sg cons x x on_left (over_blanks first) (none_known first) S L L_typed c part.atom part.goals P P_typed
      ∙ ap (λ k. forget (atom_with k vs)) clause_stays)

  matrix_low : IsBelow first (matrix_of L c)
  matrix_low = asked_has (Low first) (λ l. tt) (λ c. tt) (raise (length c.binders) zero L) (raise_has (Low first) (length c.binders) L L_below) c.goals part.goals_have

  pub body_guessed : EqualPastHints (body_with L c vs) (image same_number P d.body)
  body_guessed = sym (
      image_alike P d.body (body_with L c new) tied.body
      ∙ sound.bodies_past_hints sg cons x x on_left (over_blanks first) (none_known first) S L L_typed c part.atom part.goals P P_typed
      ∙ ap (λ t. forget (closed_with c.binders vs t)) (low_stays (matrix_of L c) matrix_low))
