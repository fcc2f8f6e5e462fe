-- CUT, INSTANCE AND MONOTONICITY of judgements: what they make of lists.
use Rattle.std.specs.Prelude.{◌≢◌, zero, List, [], ◌∷◌, ◌++◌, map, Option, Some, None, if◌then◌else◌, bytes_eq, codes, AllPairs, All, Contains}
use Rattle.std.specs.Option.{option_map, option_and_then}
use Rattle.ab_term.specs.Types.{o, prop}
use Rattle.ab_term.specs.Logical.{universal, implication}
use Rattle.ab_term.specs.Terms.{Nominal, constant, nominal, logical, index, lam, spine, no_terms, term, Read}
use Rattle.ab_term.specs.Substitution.{shift, instance_by_all}
use Rattle.ab_term.specs.Names.{support}
use Rattle.ab_term.specs.Abstraction.{over, abstracted}
use Rattle.ab_term.specs.Sameness.{same_term}
use Rattle.ab_unifiers.specs.Member.{before, in_the_list}
use Rattle.ab_formulas.specs.Declarations.{Declarations, signature_in}
use Rattle.ab_formulas.specs.Sequents.{Sequent, in_terms, formulas_of}
use Rattle.ab_formulas.specs.GoalTerms as fitting

-- THE LIST WITHOUT ITS FIRST ITEM that is the formula, past hints, if it has one. An item stands before a list by `::`.
abbrev pub without_item : Read → Read → Option Read
without_item (spine (constant c) (term F (term L no_terms))) G =
    if bytes_eq c (codes "::") then (if same_term F G then Some L else option_map (before F) (without_item L G)) else None
without_item _ G = None

-- the list, if it is the other past hints
abbrev pub list_if_same : Read → Read → Option Read
list_if_same M L = if same_term L M then Some L else None

-- THE LIST THAT A CUT LEAVES: the first list without the goal, if that is the second
abbrev pub cut_list : Read → Read → Read → Option Read
cut_list L G M = option_and_then (list_if_same M) (without_item L G)

-- THE FORMULA WITH THE TERMS FOR THE CONSTANTS, all at once
abbrev pub replace_constants : List (Nominal × Read) → Read → Read
replace_constants rs F =
    let names = map (λ (r : Nominal × Read). r.0) rs in
    instance_by_all (abstracted (codes "x") (over names prop) (map nominal names) F) (map (λ (r : Nominal × Read). r.1) rs)

-- the constants differ, and stand in the formula
pub record MayBeReplaced (F : Read) (names : List Nominal) : Type 0 where
  pub differ : AllPairs (λ a b. a ≢ b) names
  pub there : All (Contains (support F)) names

-- each term fits the goal, beside those before it
abbrev pub AllFit : Declarations → Sequent → List Read → List (Nominal × Read) → Type 0
AllFit D s before [] = Unit {0}
AllFit D s before (r ∷ rs) =
    fitting.Fits (signature_in D) (map in_terms s.variables) (formulas_of s ++ before) r.1 r.0.type × AllFit D s (before ++ r.1 ∷ []) rs

-- `forall X, member X L -> member X K`
abbrev pub is_within : Read → Read → Read
is_within L K =
    let X = spine (index zero) no_terms in
    spine (logical (universal o)) (term (lam o (codes "X")
    (spine (logical implication) (term (spine (constant (codes "member")) (in_the_list X (shift zero L)))
    (term (spine (constant (codes "member")) (in_the_list X (shift zero K))) no_terms)))) no_terms)
