-- The first choice by which a conclusion unfolds: what is told in a world that has grown, without cells, holds in the earlier
-- one, and so does what is told choice by choice.
use Rattle.std.specs.Prelude.{slice_get}
use Rattle.std.specs.List.{All}
use Rattle.std.proofs.Common.{◌≡◌, ℕ, zero, suc, ◌+◌, List, [], ◌∷◌, ◌++◌, take, Some, None, refl, sym, ◌∙◌, ap, subst}
use Rattle.std.proofs.lemmas.List.{take_more}
use Rattle.std.proofs.lemmas.List.Elements.{All-push}
use Rattle.std.proofs.lemmas.Option.{slice_get_within, get_or_from_slice_get}
use Rattle.ab_unifiers.specs.Replacements.{Cell}
use Rattle.ab_unify.specs.Problem.{cells_read}
use Rattle.ab_formulas.specs.Declarations.{Declarations}
use Rattle.ab_logic.specs.WorldGrowth.{Grows}
use Rattle.ab_logic.specs.SequentReadings.{sequent_of, HoldsSequent}
use Rattle.ab_formulas.specs.Sequents.{Sequent, IsSequent, goal_names}
use Rattle.ab_logic.specs.Worlds.{declarations_of}
use Rattle.ab_logic.specs.declared.world.World.{World}
use Rattle.ab_logic.specs.declared.sequent.Sequent.{Sequent as Kept}
use Rattle.ab_logic.proofs.Growing.{same_sequent}
use Rattle.ab_theory.specs.Splits.{NeverArises}
use Rattle.ab_theory.specs.Atoms.{Defined, Choice, defined_atom, choices_of}
use Rattle.ab_theory.specs.Unfolding.{unfolding_case}
use Rattle.ab_alternatives.specs.ChoiceMatches.{Matches}
use Rattle.ab_alternatives.specs.declared.choice_matches.Match.{Match}
use Rattle.ab_alternatives.specs.AtomReadings.{defined_read, HoldsDefined}
use Rattle.ab_alternatives.specs.declared.atoms.DefinedAtom.{DefinedAtom}
use Rattle.ab_alternatives.specs.FirstChoice.{NoneBefore}
use Rattle.ab_alternatives.proofs.Lasting.{same_atom}

-- the choice of the place is matched so
abbrev pub MatchedAt : List (Cell (List ℕ)) → Sequent → Defined → ℕ → Match → Type 0
MatchedAt cells s d place m = (c : Choice) × (slice_get (choices_of (goal_names s) d) place ≡ Some c) × Matches cells s d c m

module _ (w v : World) (g : Grows w v) (declared : declarations_of v ≡ declarations_of w) (cells : cells_read v.types v.store ≡ cells_read w.types w.store)
    (a : DefinedAtom) (atom : HoldsDefined w a) (s : Kept) (held : HoldsSequent w s) where
  pub sequent_there : IsSequent (declarations_of w) (sequent_of w s) → IsSequent (declarations_of v) (sequent_of v s)
  sequent_there is =
      subst (λ (D : Declarations). IsSequent D (sequent_of v s)) (sym declared) (subst (IsSequent (declarations_of w)) (sym (same_sequent w v g s held)) is)

  pub conclusion_there : defined_atom (declarations_of w) (sequent_of w s).conclusion ≡ Some (defined_read w a) → defined_atom (declarations_of v) (sequent_of v s).conclusion ≡ Some (defined_read v a)
  conclusion_there e =
      ap (λ (D : Declarations). defined_atom D (sequent_of v s).conclusion) declared
      ∙ ap (λ (t : Sequent). defined_atom (declarations_of w) t.conclusion) (same_sequent w v g s held)
      ∙ e
      ∙ ap Some (sym (same_atom w v g a atom))

  pub none_here : (place : ℕ) → slice_get (choices_of (goal_names (sequent_of v s)) (defined_read v a)) place ≡ None → slice_get (choices_of (goal_names (sequent_of w s)) (defined_read w a)) place ≡ None
  none_here place e =
      ap (λ (t : Sequent). slice_get (choices_of (goal_names t) (defined_read w a)) place) (sym (same_sequent w v g s held))
      ∙ ap (λ (d : Defined). slice_get (choices_of (goal_names (sequent_of v s)) d) place) (sym (same_atom w v g a atom))
      ∙ e

  pub matched_here : (place : ℕ) (m : Match) → MatchedAt (cells_read v.types v.store) (sequent_of v s) (defined_read v a) place m → MatchedAt (cells_read w.types w.store) (sequent_of w s) (defined_read w a) place m
  matched_here place m t =
      subst (λ l. MatchedAt l (sequent_of w s) (defined_read w a) place m) cells
      (subst (λ d. MatchedAt (cells_read v.types v.store) (sequent_of w s) d place m) (same_atom w v g a atom)
      (subst (λ t. MatchedAt (cells_read v.types v.store) t (defined_read v a) place m) (same_sequent w v g s held) t))

all_taken : {X : Type 0} (xs : List X) (i : ℕ) → slice_get xs i ≡ None → take i xs ≡ xs
all_taken [] zero e = refl
all_taken [] (suc i) e = refl
all_taken (x ∷ xs) zero e = absurd (cc)
all_taken (x ∷ xs) (suc i) e = ap (λ l. x ∷ l) (all_taken xs i e)

module _ (cells : List (Cell (List ℕ))) (s : Sequent) (d : Defined) where
  abbrev Never : Choice → Type 0
  Never c = NeverArises (unfolding_case cells s d c)

  abbrev all : List Choice
  all = choices_of (goal_names s) d

  -- one more that can't make the atom an instance
  pub one_more : (place : ℕ) → NoneBefore cells s d place → (c : Choice) → slice_get (choices_of (goal_names s) d) place ≡ Some c → NeverArises (unfolding_case cells s d c) → NoneBefore cells s d (place + 1)
  one_more place before c there never =
      subst (All Never) (sym (take_more all place c (slice_get_within all place c there) ∙ ap (λ e. take place all ++ e ∷ []) (get_or_from_slice_get all place c c there)))
      (All-push Never (take place all) c before never)

  -- where there is no further choice, none can
  pub none_at_all : (place : ℕ) → NoneBefore cells s d place → slice_get (choices_of (goal_names s) d) place ≡ None → All (λ c. NeverArises (unfolding_case cells s d c)) (choices_of (goal_names s) d)
  none_at_all place before none = subst (All Never) (all_taken all place none) before
