-- WHAT A SEARCH CLOSES IS DERIVED: the sequent has a whole derivation by the rules.
use Rattle.std.proofs.Common.{length, ◌++◌, inl, inr, ◌≡◌, ℕ, List, [], ◌∷◌, map, refl, sym, ap, subst}
use Rattle.std.specs.Prelude.{Contains}
use Rattle.std.proofs.lemmas.List.Elements.{All-cons, All-tail, Contains-append_cases}
use Rattle.ab_term.proofs.Lists.{Contains-none}
use Rattle.ab_term.specs.Names.{support}
use Rattle.ab_term.specs.Terms.{Nominal, Read}
use Rattle.ab_term.specs.Variables.{image}
use Rattle.ab_term.specs.Sameness.{same_number}
use Rattle.ab_unifiers.specs.Member.{HasMember}
use Rattle.ab_unifiers.specs.Replacements.{Cell}
use Rattle.ab_formulas.specs.Declarations.{Declarations, signature_in, HaveSentences, HaveDefinitions}
use Rattle.ab_formulas.specs.Programs.{HavePrograms}
use Rattle.ab_formulas.specs.Sequents.{Variable, Sequent, in_terms, formulas, goal_names, proving, HoldsOnly, IsSequent}
use Rattle.ab_formulas.specs.Formulas.{IsFormula}
use Rattle.ab_formulas.specs.GoalTerms.{names_of}
use Rattle.ab_theory.specs.Derivations.{Derivation}
use Rattle.ab_theory.specs.Equations.{AreCells}
use Rattle.ab_search_trees.specs.Goals.{Now}
use Rattle.ab_search_trees.specs.Outcomes.{Searched, closed, outcome_of, Asks, whole_answer}
use Rattle.ab_search_trees.specs.Tree.{Leaf, found}
use Rattle.ab_search_trees.proofs.Telling.{closed_found}
use Rattle.ab_search_proofs.specs.Likeness.{replaced}
use Rattle.ab_search_proofs.specs.Whole.{itself, themselves, IsWhole}
use Rattle.ab_search_proofs.proofs.Begins.{begins}
use Rattle.ab_search_layers.specs.Layered.{MemberIsDefined, it_stays, it_opens, Layered}
use Rattle.ab_search_layers.proofs.Layers.{derived}
use Rattle.ab_search_answers.specs.Unmarked.{HasNoHash, HaveNoHash}
use Rattle.ab_search_answers.proofs.Filled.{filled_constants, filled_differ}
use Rattle.ab_search_answers.proofs.Queries.{IsTold, query_answer}
use Rattle.ab_search_answers.proofs.Rooted.{answer_layered}

-- each variable of the sequent stands in for itself
own_stand_ins : (xs : List Variable) → map replaced (map itself xs) ≡ map in_terms xs
own_stand_ins [] = refl
own_stand_ins (x ∷ xs) = ap (λ l. in_terms x ∷ l) (own_stand_ins xs)

module _ (D : Declarations) (sentences : HaveSentences D) (defs : HaveDefinitions D) (program : HavePrograms D) (has : HasMember (signature_in D)) (defined : MemberIsDefined D) where
  -- a sequent that is proved over its own variables
  proved_derived : (s : Sequent) → IsSequent D s → Layered D (map in_terms s.variables) (formulas s.hypotheses) s.conclusion → (d : Derivation) × IsWhole D s d
  proved_derived s is p =
      let own = subst (λ ys. Layered D ys (formulas s.hypotheses) s.conclusion) (sym (own_stand_ins s.variables)) p in
      derived D sentences defs program has defined (map replaced (themselves s)) (formulas s.hypotheses) s.conclusion own s.conclusion (it_opens it_stays) (themselves s) refl s is (begins D s is)

  pub closed_derived : HaveNoHash D → (cells : List (Cell (List ℕ))) (depth : ℕ) (s : Sequent) → IsSequent D s → AreCells cells s → HasNoHash s.conclusion → (ls : List Leaf) → Searched D cells depth s ls → outcome_of ls ≡ closed → (d : Derivation) × IsWhole D s d
  closed_derived none cells depth s is are unmarked ls l e =
      let f = closed_found ls e in
      proved_derived s is (answer_layered D cells depth s is are unmarked defs program has none ls l f.0 f.1)

  -- what an answer of a query prints, asked by itself
  module _ (none : HaveNoHash D) (cells : List (Cell (List ℕ))) (depth : ℕ) (s : Sequent) (is : IsSequent D s) (are : AreCells cells s) (unmarked : HasNoHash s.conclusion) (no_formulas : formulas s.hypotheses ≡ []) (no_names : goal_names s ≡ []) (E : Read) (asks : Asks (length cells) s.conclusion E)
      (ls : List Leaf) (searched : Searched D cells depth s ls) (last : Now) (there : Contains ls (found last)) where
    abbrev printed : Read
    printed = image same_number (whole_answer last) E

    told : IsTold D (map in_terms s.variables) last (image same_number (whole_answer last) E)
    told = query_answer D defs program has none cells depth s is are unmarked no_formulas no_names E asks ls searched last there

    pub printed_sequent : IsSequent D (proving (image same_number (whole_answer last) E) s)
    printed_sequent = record {
      formulas = All-cons (IsFormula (signature_in D)) printed (formulas s.hypotheses) told.formula (All-tail (IsFormula (signature_in D)) s.conclusion (formulas s.hypotheses) is.formulas);
      closed = All-cons (HoldsOnly s.variables) printed (formulas s.hypotheses) told.closed (All-tail (HoldsOnly s.variables) s.conclusion (formulas s.hypotheses) is.closed);
      numbers_differ = is.numbers_differ;
      names_differ = is.names_differ;
      labels_differ = is.labels_differ;
      one_type = λ a b m k e. filled_differ last.held last.flexible a b (filling_of a m) (filling_of b k) e;
    }
      where
        filling_of : (a : Nominal) → Contains (support printed ++ names_of (formulas s.hypotheses)) a → Contains (filled_constants last.held last.flexible) a
        filling_of a m = elim (Contains-append_cases (support printed) (names_of (formulas s.hypotheses)) a m) [ inl i ↦ told.fillings a i | inr i ↦ absurd (Contains-none a (subst (λ Fs. Contains (names_of Fs) a) no_formulas i)) ]

    pub printed_derived : (d : Derivation) × IsWhole D (proving (image same_number (whole_answer last) E) s) d
    printed_derived = proved_derived (proving printed s) printed_sequent (subst (λ Hs. Layered D (map in_terms s.variables) Hs printed) (sym no_formulas) told.proved)
