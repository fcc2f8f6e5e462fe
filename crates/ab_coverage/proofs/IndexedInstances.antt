-- What it is to be an instance of a judgement: a guess of terms, without unification.
use Rattle.std.specs.Prelude.{◌≡◌, List, [], ◌∷◌, Bool, true, false, Option, Some, None, Contains, All, ℕ}
use Rattle.ab_term.specs.Types.{o}
use Rattle.ab_term.specs.Terms.{constant, index, Term, spine, Terms, no_terms}
use Rattle.ab_term.specs.Typing.{Signature, HasType}
use Rattle.ab_term.specs.Substitution.{shift}
use Rattle.ab_term.specs.Translation.{EqualPastHints}
use Rattle.ab_term.specs.Names.{support}
use Rattle.ab_term.specs.Variables.{variables}
use Rattle.ab_unifiers.specs.Replacements.{Cell}
use Rattle.ab_coverage.proofs.IndexedGoals.{compound, atomic, flexible, focused, is_nil, member_of, both, for_some, goal_form, open_goal}
use Rattle.ab_coverage.proofs.IndexedSpecClauses.{SpecClause, taken_apart, closed_in, atom_with, body_with, context_of}

module _ (sg : Signature) {Hint : Type 0} where
  -- for each binder that isn't closed a closed term of its type, and nothing for the others
  abbrev pub IsGuess : List Bool → List (Cell Hint) → List (Option (Term ℕ Hint)) → Type 0
  IsGuess [] [] [] = Unit {0}
  IsGuess (true ∷ fs) (b ∷ bs) (None ∷ vs) = IsGuess fs bs vs
  IsGuess (false ∷ fs) (b ∷ bs) (Some u ∷ vs) = HasType sg [] u b.type × IsGuess fs bs vs
  IsGuess _ _ _ = ⊥

  -- A program clause: its atom has a constant as head, and atom and goals are formulas of the specification logic over
  -- its binders alone, without nominal constants.
  pub record IsProgramClause (c : SpecClause Hint) : Type 0 where
    pub head : (p : List ℕ) × (ts : Terms ℕ Hint) × (c.atom ≡ spine (constant p) ts)
    pub atom : HasType sg (context_of c.binders []) c.atom o
    pub goals : All (λ G. HasType sg (context_of c.binders []) G o) c.goals
    pub atom_closed : (variables c.atom ≡ []) × (support c.atom ≡ [])
    pub goals_closed : All (λ G. (variables G ≡ []) × (support G ≡ [])) c.goals

  -- some terms for the clause's variables give this atom and this body
  pub record ClauseGives (L : Term ℕ Hint) (c : SpecClause Hint) (vs : List (Option (Term ℕ Hint))) (A B : Term ℕ Hint) : Type 0 where
    pub guess : IsGuess (closed_in c) c.binders vs
    pub atom : EqualPastHints (atom_with c vs) A
    pub body : EqualPastHints (body_with L c vs) B

module _ {Hint : Type 0} (f : Hint) where
  -- `exists F, {L, [F] |- A} /\ member F L`
  abbrev pub from_context : Term ℕ Hint → Term ℕ Hint → Term ℕ Hint
  from_context L A =
      let F = spine (index 0) no_terms in
      for_some o f (both (focused (shift 0 L) F (shift 0 A)) (member_of F (shift 0 L)))

module _ (sg : Signature) {Hint : Type 0} (f : Hint) (program : List (SpecClause Hint)) where
  -- INSTANCE of `{L |- G}`, with this body
  pub data JudgementInstance (L G B : Term ℕ Hint) : Type 0 where
    by_program : goal_form G ≡ atomic → (c : SpecClause Hint) (vs : List (Option (Term ℕ Hint))) → Contains program c → ClauseGives sg L c vs G B → JudgementInstance L G B
    by_context : goal_form G ≡ atomic → is_nil L ≡ false → EqualPastHints (from_context f L G) B → JudgementInstance L G B
    by_opening : goal_form G ≡ compound → EqualPastHints (open_goal L G) B → JudgementInstance L G B

module _ (sg : Signature) {Hint : Type 0} where
  -- each atom of the formula has a constant or a nominal constant as its head
  abbrev pub IsRigid : Term ℕ Hint → Type 0
  IsRigid F = All (λ c. goal_form c.atom ≡ atomic) (taken_apart F)

  -- INSTANCE of `{L, [F] |- A}`, with this body
  pub data FocusedInstance (L F A B : Term ℕ Hint) : Type 0 where
    by_focus : ¬ (goal_form A ≡ flexible) → IsRigid F → (c : SpecClause Hint) (vs : List (Option (Term ℕ Hint))) → Contains (taken_apart F) c → ClauseGives sg L c vs A B → FocusedInstance L F A B
