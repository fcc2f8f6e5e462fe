-- THE SEARCH OF A SEQUENT: what is known where it begins, and what its outcome tells.
use Rattle.std.proofs.Common.{◌≡◌, ◌≢◌, ◌⊎◌, inl, inr, ℕ, List, [], ◌∷◌, map, true, false, Some, None, option_map, refl, sym, ap, subst}
use Rattle.std.specs.Prelude.{Contains, slice_get}
use Rattle.std.proofs.lemmas.Bool.{false≢true}
use Rattle.std.proofs.lemmas.List.Elements.{All-contains, Contains-append_left, Contains-append_right}
use Rattle.ab_term.specs.Terms as tree
use Rattle.ab_term.specs.Terms.{Nominal, Term, Read}
use Rattle.ab_term.specs.Names.{support}
use Rattle.ab_term.specs.Translation.{forget}
use Rattle.ab_term.specs.Variables.{variables}
use Rattle.ab_term.proofs.Lists.{Contains-none, Contains-here, Contains-there, Contains-cases, Contains-from_map}
use Rattle.ab_unifiers.specs.Replacements.{Cell}
use Rattle.ab_unifiers.specs.Unifiers.{IsCell}
use Rattle.ab_unifiers.proofs.Ruling.{image_none}
use Rattle.ab_unifiers.proofs.Following.{Put}
use Rattle.ab_unifiers.specs.Choices.{in_order}
use Rattle.ab_unifiers.proofs.Choosing.{ordered_contains}
use Rattle.ab_formulas.specs.Declarations.{Declarations, signature_in, HaveDefinitions}
use Rattle.ab_formulas.specs.Formulas.{IsFormula}
use Rattle.ab_formulas.specs.Sequents.{Variable, Sequent, in_terms, formulas, formulas_of, goal_names, HoldsOnly, IsSequent}
use Rattle.ab_formulas.specs.GoalTerms.{names_of}
use Rattle.ab_theory.specs.Equations.{AreCells}
use Rattle.ab_search_trees.specs.Goals.{Now, beginning, first_goal}
use Rattle.ab_search_trees.specs.Tree.{Leaf}
use Rattle.ab_search_trees.specs.Outcomes.{Searched}
use Rattle.ab_search_trees.specs.Guesses.{Guessed}
use Rattle.ab_search_trees.proofs.Forms.{Makes}
use Rattle.ab_search_trees.proofs.Facts.{IsPart, AllParts, IsTask}
use Rattle.ab_search_trees.proofs.Against.{IsState, MakesEach, IsGuess, none_finds}
use Rattle.ab_search_trees.proofs.Complete.{ByLayer, guessed_finds}
use Rattle.ab_search_trees.proofs.ByClause.{finds_clause}

-- the formula's constants are the goal's
names_there : (Fs : List Read) (F : Read) → Contains Fs F → (a : Nominal) → Contains (support F) a → Contains (names_of Fs) a
names_there [] F m a c = absurd (Contains-none F m)
names_there (E ∷ Fs) F m a c = elim (cases E Fs F m) [
  | inl e ↦ Contains-append_left (support E) (names_of Fs) a (subst (λ k. Contains (support k) a) (sym e) c)
  | inr n ↦ Contains-append_right (support E) (names_of Fs) a (names_there Fs F n a c)
]
  where
    cases : (E : Read) (Fs : List Read) (F : Read) → Contains (E ∷ Fs) F → (E ≡ F) ⊎ Contains Fs F
    cases E Fs F m = Contains-cases E Fs F m

-- nothing is put in
abbrev nothing : Put
nothing y = None

itself : (t : Read) → Makes nothing t t
itself t = image_none (forget t)

each_itself : (ts : List Read) → MakesEach nothing ts ts
each_itself [] = tt
each_itself (t ∷ ts) = (itself t, each_itself ts)

module _ (D : Declarations) (cells : List (Cell (List ℕ))) (depth : ℕ) (s : Sequent) (is : IsSequent D s) (are : AreCells cells s) where
  abbrev now : Now
  now = beginning cells s

  state : IsState (signature_in D) now nothing
  state = record {
    cells = λ y h. absurd (false≢true h);
    fits = record { typed = λ y v e. absurd (let bad : None ≡ Some v = e in cc); has = λ y v e. absurd (let bad : None ≡ Some v = e in cc); some = λ y h. absurd (false≢true h); none = λ y h. refl };
  }

  pub part : (F : Read) → Contains (formulas_of s) F → IsPart (signature_in D) now (in_order (goal_names s)) true F
  part F m = record {
    formula = All-contains (IsFormula (signature_in D)) (formulas_of s) F is.formulas m;
    facts = record {
      over = λ y c. cell_of y (All-contains (Contains (map in_terms s.variables)) (variables F) y (All-contains (HoldsOnly s.variables) (formulas_of s) F is.closed m) c);
      constants = λ a c. ordered_contains (goal_names s) a (names_there (formulas_of s) F m a c);
      fixed = λ e y c. refl;
    };
  }
    where
      cell_of : (y : tree.Variable ℕ) → Contains (map in_terms s.variables) y → IsCell cells y
      cell_of y c =
          let from = Contains-from_map in_terms s.variables y c in
          let there : slice_get cells (from.0).number ≡ Some (record { hint = (from.0).name; type = (from.0).type }) = All-contains (λ (x : Variable). slice_get cells x.number ≡ Some (record { hint = x.name; type = x.type })) s.variables from.0 are from.1 in
          subst (IsCell cells) from.2 (ap (option_map (λ (k : Cell (List ℕ)). k.type)) there)

  parts : (Fs : List Read) → ((F : Read) → Contains Fs F → Contains (formulas_of s) F) → AllParts (signature_in D) now (in_order (goal_names s)) true Fs
  parts [] m = tt
  parts (F ∷ Fs) m = (part F (m F (Contains-here F Fs)), parts Fs (λ E c. m E (Contains-there F Fs E c)))

  pub task : IsTask (signature_in D) now (first_goal depth s)
  task = record { conclusion = part s.conclusion (Contains-here s.conclusion (formulas s.hypotheses)); hypotheses = parts (formulas s.hypotheses) (λ F c. Contains-there s.conclusion (formulas s.hypotheses) F c) }

  guess : IsGuess nothing (first_goal depth s) (first_goal depth s)
  guess = record { conclusion = itself s.conclusion; hypotheses = each_itself (formulas s.hypotheses); depth = refl; constants = refl; untouched = refl; layers = refl }

  -- A DERIVATION BY GUESSES leaves a leaf
  pub guessed_leaf : HaveDefinitions D → ByLayer D → Guessed D false (first_goal depth s) → (ls : List Leaf) → Searched D cells depth s ls → ls ≢ []
  guessed_leaf defs layers d ls l = guessed_finds D (finds_clause D defs) layers d [] (none_finds D) now nothing (first_goal depth s ∷ []) state (task, tt) (guess, tt) ls l
