-- What defines: clauses that were read and have no fault.
use Rattle.std.specs.Prelude.{codes, Some, None, Option, All}
use Rattle.std.proofs.Common.{◌≡◌, ℕ, List, [], ◌∷◌, map, refl}
use Rattle.std.proofs.lemmas.List.Elements.{All-nil, All-cons, All-head, All-tail}
use Rattle.ab_term.specs.Types.{prop, o, olist, arrows}
use Rattle.ab_term.specs.Typing.{Signature}
use Rattle.ab_term.specs.Variables.{value_in}
use Rattle.ab_term.specs.Sameness.{same_number}
use Rattle.ab_grammar.specs.Tree.{Tree}
use Rattle.ab_grammar.specs.CommandTrees as written
use Rattle.ab_unifiers.specs.Clauses.{numbered, put_together}
use Rattle.ab_unifiers.specs.Prefixes.{own_terms}
use Rattle.ab_formulas.specs.Clauses.{Clause}
use Rattle.ab_formulas.specs.CaseClauses.{in_terms, cell_of, case_of}
use Rattle.ab_formulas.specs.Faults.{IsRight}
use Rattle.ab_formulas.specs.ProposedClauses.{IsProposed}
use Rattle.ab_formulas.specs.Heads.{IsHeadOf}
use Rattle.ab_formulas.proofs.ClausesCased.{is_clause}
use Rattle.ab_formulas.proofs.Proposing.{well_kept}
use Rattle.ab_states.specs.ab_specification.specs.ab_declare.specs.ClauseMeanings.{body_type}
use Rattle.ab_states.specs.ab_specification.specs.ab_declare.proofs.Resolving.{parts_fine}
use Rattle.ab_states.specs.ab_specification.specs.ab_declare.proofs.Proposed.{kept_proposed}
use Rattle.ab_formulas.specs.Formulas.{a_formula}
use Rattle.ab_formulas.specs.Declarations.{IsDefining}
use Rattle.ab_formulas.proofs.Images.{image_stands}
use Rattle.ab_states.specs.ab_specification.specs.ab_declare.specs.DefinitionCommands.{MeansKept, MeanKept}

of_prop : (b : Option Tree) → body_type prop b ≡ prop
of_prop None = refl
of_prop (Some b) = refl

-- clauses of these predicates, where these kinds and constants are declared
module _ (ps : List (List ℕ)) (kinds : List (List ℕ)) (sg : Signature) (conses : sg (codes "::") ≡ Some (arrows (o ∷ olist ∷ []) olist)) (nils : sg (codes "nil") ≡ Some olist) where
  proposed_defines : (k : Clause) → IsProposed sg k → IsHeadOf ps k.head → IsDefining sg (case_of k)
  proposed_defines k p h =
      let clause = is_clause sg k (well_kept ps sg k p h) in
      record {
        clause = clause;
        body = record {
          typed = clause.body;
          stands = image_stands (value_in same_number (put_together (map in_terms k.variables) (own_terms (codes "x") (numbered 0 (map cell_of k.variables))))) a_formula k.body p.body.stands;
        };
      }

  one_defines : (c : written.Clause) (k : Clause) → MeansKept kinds sg c k → IsRight ps k → IsDefining sg (case_of k)
  one_defines c k (e, found, kept) right =
      let fine = parts_fine sg kinds conses nils c e found in
      proposed_defines k (kept_proposed sg 0 e prop (body_type prop c.body) k refl (of_prop c.body) fine.0 fine.1 kept) right.head

  -- CLAUSES THAT ARE READ AND RIGHT DEFINE
  pub all_define : (cs : List written.Clause) (ks : List Clause) → MeanKept kinds sg cs ks → All (IsRight ps) ks → All (IsDefining sg) (map case_of ks)
  all_define [] [] mean right = All-nil (IsDefining sg)
  all_define [] (k ∷ ks) mean right = absurd mean
  all_define (c ∷ cs) [] mean right = absurd mean
  all_define (c ∷ cs) (k ∷ ks) mean right =
      All-cons (IsDefining sg) (case_of k) (map case_of ks) (one_defines c k mean.0 (All-head (IsRight ps) k ks right)) (all_define cs ks mean.1 (All-tail (IsRight ps) k ks right))
