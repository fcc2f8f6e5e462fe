-- A DEFINED ATOM IS COVERED by the goals into which its choices split a goal, whatever stays of it, and whatever name the bodies have.
use Rattle.std.proofs.Common.{◌≡◌, inl, inr, ℕ, List, [], ◌∷◌, ◌++◌, map, codes, bytes_eq, Some, refl, sym, ◌∙◌, ap, subst, append_assoc, take-append-drop}
use Rattle.std.specs.Prelude.{All, Contains, filter}
use Rattle.std.proofs.lemmas.Slice.Eq.{bytes_eq-Decides}
use Rattle.std.proofs.lemmas.Bool.{false≢true}
use Rattle.std.proofs.lemmas.List.Elements.{All-head, All-tail, All-contains, All-weaker}
use Rattle.ab_term.specs.Types.{prop}
use Rattle.ab_term.specs.Terms.{Nominal, constant, spine, Read}
use Rattle.ab_term.specs.Typing.{Signature}
use Rattle.ab_term.specs.Translation.{forget}
use Rattle.ab_term.specs.Names.{EqualUpToNames, support_of_all}
use Rattle.ab_term.specs.Variables.{Substitution, value_in, image, IsTyped, variables}
use Rattle.ab_term.specs.Sameness.{same_number}
use Rattle.ab_term.proofs.Lists.{All-from_contains, Contains-map}
use Rattle.ab_unifiers.specs.Replacements.{Cell}
use Rattle.ab_unifiers.specs.Unification.{Answer, unified, apart, Solves}
use Rattle.ab_unifiers.specs.Unifiers.{AreKnown, given}
use Rattle.ab_unifiers.specs.Clauses.{Clause, Each, IsClause, Instance}
use Rattle.ab_unifiers.specs.Choices.{in_order, outside, choices}
use Rattle.ab_unifiers.specs.Alternatives.{Alternative, analysed}
use Rattle.ab_unifiers.specs.InstanceCover.{IsScope, IsOf, IsCleanFor}
use Rattle.ab_unifiers.specs.CaseCoverage.{HasCover}
use Rattle.ab_unifiers.proofs.Agreeing.{contains_holds}
use Rattle.ab_unifiers.proofs.Atoms as atoms
use Rattle.ab_unifiers.proofs.ByChoice.{covered_by_choice}
use Rattle.ab_unifiers.proofs.Choosing.{gathered, kept_contains}
use Rattle.ab_unifiers.proofs.Variables.{holds_contains}
use Rattle.ab_formulas.specs.BodyMarks.{mark_below, marked_in}
use Rattle.ab_formulas.specs.Declarations.{Declarations, HaveDefinitions, IsDefining, block_in, signature_in}
use Rattle.ab_formulas.specs.Formulas.{IsFormula, StandsIn, a_formula}
use Rattle.ab_formulas.specs.Marks.{erased}
use Rattle.ab_formulas.specs.NewNames.{IsNoVariable}
use Rattle.ab_formulas.specs.Sequents.{Variable, Hypothesis, Sequent, IsSequent, HoldsOnly, formula_of, goal_names, in_terms, counted}
use Rattle.ab_formulas.proofs.Images.{image_stands}
use Rattle.ab_theory.specs.Analysis.{scope_of, raised_goal, case_of, cases_of, count_before}
use Rattle.ab_theory.specs.Atoms.{Defined, Choice, defined_atom, choices_of}
use Rattle.ab_theory.specs.Equations.{AreCells}
use Rattle.ab_theory.specs.InstanceCoverage.{alternative_of, AddsBehind}
use Rattle.ab_theory.specs.Splits.{Case, IsCase, Arises, Split, problem_of, variables_of}
use Rattle.ab_theory.proofs.Analysed.{well}
use Rattle.ab_theory.proofs.Carried.{arising_is_sequent, cells_in_front}
use Rattle.ab_theory.proofs.CaseRules.{IsBehind}
use Rattle.ab_theory.proofs.Raised.{known_there}
use Rattle.ab_theory.proofs.RulesParts.{MayStand}
use Rattle.ab_theory.proofs.Sequents.{AllFormulas, goal_of, found_may}
use Rattle.ab_theory.proofs.Sized.{IsAtomOver, atom_of, atom_over}
use Rattle.ab_coverage.specs.HypothesisCover.{EqualToUnmarked, MeetsBody, OneMeetsBody}
use Rattle.ab_coverage.proofs.CaseByCase.{outcome_of, arises_with}
use Rattle.ab_coverage.proofs.Erasing.{erased-image, erased-marked}
use Rattle.ab_coverage.proofs.NewHypothesis.{only, only_goal, Stays, Goes, goal_meets}
use Rattle.ab_coverage.proofs.OwnFormulas.{IsProblem, problem_in}
use Rattle.ab_coverage.proofs.Unmarking.{erased_past_hints, erased_up_to_names, hints_before_names}
use Rattle.ab_coverage.proofs.Written.{variables_differ}

abbrev Cells : Type 0
Cells = List (Cell (List ℕ))

-- the choice of a clause and of constants is one of the choices
choice_listed : (N : List Nominal) (d : Defined) (c : Clause (List ℕ)) (ns : List Nominal) → Contains d.block.clauses c → c.predicate ≡ d.predicate
    → Contains (choices (map (λ z. z.type) c.names) (in_order (support_of_all d.arguments)) N) ns → Contains (choices_of N d) (record { clause = c; names = ns })
choice_listed N d c ns listed of_it choice =
    gathered (λ (k : Clause (List ℕ)). map (λ ms. record { clause = k; names = ms }) (choices (map (λ z. z.type) k.names) (in_order (support_of_all d.arguments)) N))
    (filter (λ (k : Clause (List ℕ)). bytes_eq k.predicate d.predicate) d.block.clauses) c (record { clause = c; names = ns })
    (kept_contains (λ (k : Clause (List ℕ)). bytes_eq k.predicate d.predicate) d.block.clauses c listed ((bytes_eq-Decides c.predicate d.predicate).1 of_it))
    (Contains-map (λ ms. record { clause = c; names = ms }) (choices (map (λ z. z.type) c.names) (in_order (support_of_all d.arguments)) N) ns choice)

-- a mark on a body makes no difference to what substitutions make of it, once marks are taken off
unmarked_images : (r q : Substitution ℕ (List ℕ)) (F G : Read) → StandsIn a_formula F → StandsIn a_formula G → erased F ≡ erased G
    → erased (image same_number r (image same_number q F)) ≡ erased (image same_number r (image same_number q G))
unmarked_images r q F G s t e = through F s ∙ ap (λ H. image same_number r (image same_number q H)) e ∙ sym (through G t)
  where
    through : (H : Read) → StandsIn a_formula H → erased (image same_number r (image same_number q H)) ≡ image same_number r (image same_number q (erased H))
    through H stands =
        erased-image (value_in same_number r) (image same_number q H) (image_stands (value_in same_number q) a_formula H stands)
        ∙ ap (image same_number r) (erased-image (value_in same_number q) H stands)

module _ (D : Declarations) (definitions : HaveDefinitions D) (s : Sequent) (is : IsSequent D s) (H : List ℕ) (F : Read) (d : Defined) (e : formula_of s H ≡ Some F) (is_atom : defined_atom D F ≡ Some d)
    (rest : Sequent) (counter : ℕ) (staying : Stays D s rest) (name : List ℕ) (cells : Cells) (are : AreCells cells s) where
  abbrev sg : Signature
  sg = signature_in D

  abbrev N : List Nominal
  N = goal_names s

  abbrev t : Sequent
  t = counted counter rest

  abbrev May : Read → Type 0
  May = MayStand sg rest.variables N

  block : block_in D d.predicate ≡ Some d.block
  block = (atom_of D F d is_atom).block

  atom : IsAtomOver sg s.variables N d
  atom = atom_over D s.variables N F d (found_may D N s H F (goal_of D s is) e) is_atom

  clauses : All (IsDefining sg) d.block.clauses
  clauses = definitions d.predicate d.block block

  scope : IsScope (scope_of cells s)
  scope = record { different = variables_differ D s is; numbered = known_there cells s.variables are }

  atom_in : IsOf sg (scope_of cells s) (spine (constant d.predicate) d.arguments) prop
  atom_in = record {
    typed = atom.typed;
    over_variables = λ y i. contains_holds (map in_terms s.variables) y (All-contains (Contains (map in_terms s.variables)) (variables (spine (constant d.predicate) d.arguments)) y atom.closed (holds_contains (variables (spine (constant d.predicate) d.arguments)) y i));
    constants_held = atom.held;
  }

  -- a case, where one formula alone stays, is well made
  well_only : (K : Read) → May K → (h : Choice) → Contains (choices_of N d) h → (more : Cells) → IsBehind D (cells ++ more) (case_of s (only rest K) name d h (cells ++ more))
  well_only K may = well D definitions s (only rest K) is.one_type (only_goal D N s rest K (goal_of D s is) staying.same may) staying.same d atom block name (λ u. false≢true u) cells are

  problem : (h : Choice) → Contains (choices_of N d) h → (more : Cells) → IsProblem D (case_of s t name d h (cells ++ more))
  problem h m more = let k = problem_in D _ (well_only rest.conclusion staying.conclusion h m more).2 in record { cells = k.cells; typed = k.typed; over = k.over; flexible = k.flexible }

  adds_behind : All (λ (h : Choice). AddsBehind (λ k hint x. IsNoVariable k x) cells (case_of s t name d h)) (choices_of N d)
  adds_behind = All-from_contains (λ (h : Choice). AddsBehind (λ k hint x. IsNoVariable k x) cells (case_of s t name d h)) (choices_of N d) (λ h m more after g a.
      let c = case_of s (only rest rest.conclusion) name d h (cells ++ more) in
      let right = well_only rest.conclusion staying.conclusion h m more in
      let r = arising_is_sequent D (λ k hint x. IsNoVariable k x) (λ k hint x free. free) c right.2 after _ (arises_with (case_of s t name d h (cells ++ more)) c.goal refl after g a) in (
        right.0 ++ (c.own ++ r.2.0),
        r.2.1 ∙ append_assoc c.before c.own r.2.0 ∙ ap (λ (l : Cells). l ++ (c.own ++ r.2.0)) right.1 ∙ append_assoc (cells ++ more) right.0 (c.own ++ r.2.0),
      ))

  module _ (q : Substitution ℕ (List ℕ)) (q_typed : IsTyped sg q) (q_clean : IsCleanFor (scope_of cells s) q) (B : Read)
      (i : Instance sg (codes "x") d.block.clauses (image same_number q (spine (constant d.predicate) d.arguments)) B) where
    has : HasCover EqualUpToNames sg (codes "x") (scope_of cells s) q B d.block.clauses d.predicate d.arguments
    has =
        covered_by_choice sg (codes "x") (scope_of cells s) d.block.clauses (All-weaker (IsDefining sg) (IsClause sg) (λ c w. w.clause) d.block.clauses clauses) q q_typed q_clean B d.predicate d.arguments
        (atoms.atom_of sg (scope_of cells s) (spine (constant d.predicate) d.arguments) scope atom_in) i

    abbrev h : Choice
    h = record { clause = has.clause; names = has.names }

    chosen : Contains (choices_of N d) h
    chosen = choice_listed N d has.clause has.names has.listed has.predicate has.choice

    known_more : (more : Cells) → AreKnown (cells ++ more) (map in_terms s.variables)
    known_more more = known_there (cells ++ more) s.variables (cells_in_front cells more s.variables are)

    solves_same : (more : Cells) (a : Answer (List ℕ)) → Solves (codes "x") (problem_of (case_of s t name d h (cells ++ more))) a
        → Solves (codes "x") (given (alternative_of s d h (cells ++ more)).equations (alternative_of s d h (cells ++ more)).cells (alternative_of s d h (cells ++ more)).flexible) a
    solves_same more a =
        let alt = alternative_of s d h (cells ++ more) in
        subst (λ l. Solves (codes "x") (given alt.equations l alt.flexible) a) (take-append-drop (count_before alt h) alt.cells)

    -- the clause's body, as the alternative has it
    body_stands : (all : Cells) → StandsIn a_formula (alternative_of s d h all).body
    body_stands all = go (outside has.names (in_order (support_of_all d.arguments)))
      where
        go : (fresh : List Nominal) → StandsIn a_formula (analysed (codes "x") (scope_of all s) d.arguments has.clause has.names fresh).body
        go [] = image_stands _ a_formula has.clause.body (All-contains (IsDefining sg) d.block.clauses has.clause clauses has.listed).body.stands
        go (a ∷ bs) = image_stands _ a_formula has.clause.body (All-contains (IsDefining sg) d.block.clauses has.clause clauses has.listed).body.stands

    module _ (more after : Cells) (g : Sequent) (a : Arises (λ k hint x. IsNoVariable k x) (case_of s t name d h (cells ++ more)) after g) where
      abbrev alt : Alternative (List ℕ)
      alt = alternative_of s d h (cells ++ more)

      abbrev M : Read
      M = marked_in d.block.predicates (mark_below d.sign) alt.body

      abbrev R : Sequent
      R = raised_goal alt t

      abbrev the_case : Case
      the_case = case_of s t name d h (cells ++ more)

      -- the case, where this formula alone stays
      case_only : (K : Read) → May K → IsCase D (case_of s (only rest K) name d h (cells ++ more))
      case_only K may = (well_only K may h chosen more).2

      M_formula : IsFormula sg M
      M_formula = let all = (case_only rest.conclusion staying.conclusion).formulas in
          All-head (IsFormula sg) M [] (All-tail (IsFormula sg) (image same_number alt.raised rest.conclusion) (M ∷ []) all)

      M_closed : HoldsOnly (variables_of the_case) M
      M_closed = let all = (case_only rest.conclusion staying.conclusion).closed in
          All-head (HoldsOnly (variables_of the_case)) M [] (All-tail (HoldsOnly (variables_of the_case)) (image same_number alt.raised rest.conclusion) (M ∷ []) all)

      meets : MeetsBody EqualToUnmarked EqualUpToNames sg q B rest g
      meets =
          let covers = has.covers (cells ++ more) (known_more more) (unified a.more a.answer) (solves_same more (unified a.more a.answer) a.solved) in
          let r = covers.0 in
          let Gone : Read → Read → Type 0 = Goes D the_case name M R (problem h chosen more) (λ k hint x. IsNoVariable k x) after g a r covers.1 EqualUpToNames hints_before_names q in
          let one : (K : Read) → May K → Gone (image same_number alt.raised K) K = λ K may. record {
            typed = (All-head (IsFormula sg) (image same_number alt.raised K) (M ∷ []) (case_only K may).formulas).typed;
            closed = All-head (HoldsOnly (variables_of the_case)) (image same_number alt.raised K) (M ∷ []) (case_only K may).closed;
            same = covers.3 K prop (record {
              typed = may.formula.typed;
              over_variables = λ y i. contains_holds (map in_terms s.variables) y (subst (λ (xs : List Variable). Contains (map in_terms xs) y) staying.same (All-contains (Contains (map in_terms rest.variables)) (variables K) y may.closed (holds_contains (variables K) y i)));
              constants_held = may.names;
            });
          } in
          goal_meets D the_case name M R (problem h chosen more) (λ k hint x. IsNoVariable k x) after g a r covers.1 EqualUpToNames hints_before_names q EqualToUnmarked B rest M_formula.typed M_closed
          (λ u same. hints_before_names (erased u) (erased (image same_number r (image same_number a.answer alt.body))) (erased B)
          (erased_past_hints u (image same_number r (image same_number a.answer M)) same
          ∙ ap forget (unmarked_images r a.answer M alt.body M_formula.stands (body_stands (cells ++ more)) (erased-marked d.block.predicates (mark_below d.sign) alt.body)))
          (erased_up_to_names (image same_number r (image same_number a.answer alt.body)) B covers.2))
          (each Gone one rest.hypotheses staying.hypotheses) (one rest.conclusion staying.conclusion)
        where
          each : (G : Read → Read → Type 0) → ((K : Read) → May K → G (image same_number alt.raised K) K) → (hs : List Hypothesis) → AllFormulas May hs
              → Each (λ (k h : Hypothesis). (k.name ≡ h.name) × G k.formula h.formula) (map (λ (h : Hypothesis). record { name = h.name; formula = image same_number alt.raised h.formula }) hs) hs
          each G one [] all = tt
          each G one (k ∷ hs) all = ((refl, one k.formula (All-head (λ (h : Hypothesis). May h.formula) k hs all)), each G one hs (All-tail (λ (h : Hypothesis). May h.formula) k hs all))

    -- ONE OF THE GOALS MEETS THE INSTANCE
    pub atom_met : (gs : List Sequent) → Split (λ k hint x. IsNoVariable k x) cells (cases_of s t name d) gs → OneMeetsBody EqualToUnmarked EqualUpToNames sg q B rest gs
    atom_met gs split =
        let o = outcome_of (λ k hint x. IsNoVariable k x) (case_of s t name d) h (choices_of N d) chosen cells adds_behind gs split in
        elim o.1 [
          | inl never ↦ absurd (has.covers (cells ++ o.0) (known_more o.0) apart (solves_same o.0 apart never))
          | inr a ↦ (a.1, a.2, meets o.0 a.0 a.1 a.3)
        ]
