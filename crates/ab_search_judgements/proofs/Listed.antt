-- WHERE A RULE BY A CLAUSE is among those of a search, nothing is in focus, and the clause is one for the goal.
use Rattle.std.proofs.Common.{◌≡◌, inl, inr, ℕ, List, [], ◌∷◌, map, Bool, true, false, cond, if◌then◌else◌, Option, Some, None, refl, subst}
use Rattle.std.specs.Prelude.{Contains}
use Rattle.std.specs.List.{list_any}
use Rattle.std.proofs.lemmas.List.Elements.{Contains-append_cases}
use Rattle.ab_term.specs.Terms.{Read}
use Rattle.ab_term.proofs.Lists.{Contains-none, Contains-cases, Contains-from_map}
use Rattle.ab_unifiers.specs.Clauses.{Clause}
use Rattle.ab_formulas.specs.Declarations.{Declarations}
use Rattle.ab_formulas.specs.Programs.{Program, program_in}
use Rattle.ab_theory.specs.Judgements.{Judgement}
use Rattle.ab_theory.specs.Opening.{Kind, compound, atomic, undetermined, kind_of, is_undetermined}
use Rattle.ab_theory.specs.Parts.{Part, parts_of}
use Rattle.ab_theory.specs.SpecRules.{SpecRule, by_clause, by_list, by_part, clauses_for, list_rules, is_nil, rules_unfocused, rules_in_focus, rules_for}
use Rattle.ab_search_trees.specs.Judgements.{opens_by_layers, known as known_rules, search_rules}

module _ (D : Declarations) (j : Judgement) (c : Clause (List ℕ)) where
  abbrev cs : Program
  cs = program_in D

  abbrev rules_at : Option Read → Kind → List SpecRule
  rules_at None k = cond (opens_by_layers None k) [] (known_rules (rules_unfocused (program_in D) j.context j.goal k))
  rules_at (Some F) k = cond (opens_by_layers (Some F) k) [] (known_rules (rules_in_focus (parts_of F) k))

  rules_are : search_rules D j ≡ rules_at j.focus (kind_of j.goal)
  rules_are = go j.focus
    where
      go : (f : Option Read) → cond (opens_by_layers f (kind_of j.goal)) [] (known_rules (rules_for (program_in D) f j.context j.goal)) ≡ rules_at f (kind_of j.goal)
      go None = refl
      go (Some F) = refl

  of_parts : (ps : List Part) → Contains (map by_part ps) (by_clause c) → ⊥
  of_parts ps m = let from = Contains-from_map by_part ps (by_clause c) m in cc

  in_focus : (b : Bool) (ps : List Part) → Contains (known_rules (if b then None else Some (map by_part ps))) (by_clause c) → ⊥
  in_focus true ps m = Contains-none (by_clause c) m
  in_focus false ps m = of_parts ps m

  of_list : (b : Bool) → Contains (if b then [] else (by_list ∷ [])) (by_clause c) → ⊥
  of_list true m = Contains-none (by_clause c) m
  of_list false m = elim (Contains-cases by_list [] (by_clause c) m) [ inl e ↦ (let bad : by_list ≡ by_clause c = e in cc) | inr n ↦ Contains-none (by_clause c) n ]

  pub listed_so : Contains (search_rules D j) (by_clause c) → (j.focus ≡ None) × Contains (clauses_for j.goal (program_in D)) c
  listed_so m = go j.focus refl (kind_of j.goal) (subst (λ l. Contains l (by_clause c)) rules_are m)
    where
      go : (f : Option Read) → j.focus ≡ f → (k : Kind) → Contains (rules_at f k) (by_clause c) → (j.focus ≡ None) × Contains (clauses_for j.goal (program_in D)) c
      go None e compound m = absurd (Contains-none (by_clause c) m)
      go None e undetermined m = absurd (Contains-none (by_clause c) m)
      go None e atomic m = (
        e,
        elim (Contains-append_cases (map by_clause (clauses_for j.goal (program_in D))) (list_rules j.context) (by_clause c) m) [
          | inl a ↦ (let from = Contains-from_map by_clause (clauses_for j.goal (program_in D)) (by_clause c) a in let same : from.0 ≡ c = cc in subst (Contains (clauses_for j.goal (program_in D))) same from.1)
          | inr a ↦ absurd (of_list (is_nil j.context) a)
        ],
      )
      go (Some F) e compound m = absurd (in_focus (list_any (λ (p : Part). is_undetermined (kind_of p.atom)) (parts_of F)) (parts_of F) m)
      go (Some F) e atomic m = absurd (in_focus (list_any (λ (p : Part). is_undetermined (kind_of p.atom)) (parts_of F)) (parts_of F) m)
      go (Some F) e undetermined m = absurd (Contains-none (by_clause c) m)
