-- What a rule leaves of a judgement may stand as a formula.
use Rattle.std.proofs.Common.{ℕ, zero, suc, ◌+◌, List, [], ◌∷◌, map, length, filter, not, codes}
use Rattle.ab_term.specs.Logical.{judgement, focused_judgement, spec_universal, spec_implication, spec_conjunction}
use Rattle.ab_term.specs.Terms as tree
use Rattle.ab_term.specs.Terms.{Nominal, Head, constant, logical, nominal, variable, index, lam, spine, Terms, no_terms, term, Read}
use Rattle.ab_term.specs.Substitution.{shift}
use Rattle.ab_term.specs.Variables.{Substitution, value_in, image, image_all}
use Rattle.ab_term.specs.Sameness.{same_number}
use Rattle.ab_term.specs.Abstraction.{close, close_all, close_head}
use Rattle.ab_unifiers.specs.Replacements.{Cell}
use Rattle.ab_unifiers.specs.Unification.{Equation}
use Rattle.ab_unifiers.specs.Clauses.{clause_variables, head_of, put_together}
use Rattle.ab_unifiers.specs.Prefixes.{arguments_of, own_terms}
use Rattle.ab_unifiers.specs.Alternatives.{made_terms, arguments_equal}
use Rattle.ab_unifiers.specs.Member.{before}
use Rattle.ab_formulas.specs.Formulas.{Place, a_formula, a_scope, a_marked, any, places_of, IsRigid, IsAtomic, StandsIn, AllStandIn}
use Rattle.ab_formulas.specs.Marks.{Sign}
use Rattle.ab_formulas.specs.Programs.{goals_in}
use Rattle.ab_formulas.specs.Sequents.{Variable, in_terms}
use Rattle.ab_formulas.proofs.Images.{image_stands}
use Rattle.ab_theory.specs.Equations.{variables_from}
use Rattle.ab_theory.specs.Splits.{cell_for}
use Rattle.ab_theory.specs.Unfolding.{exists_all}
use Rattle.ab_theory.specs.Judgements.{Judgement, marked_judgement, constants_of}
use Rattle.ab_theory.specs.Opening.{both, open_goal, conjunction_from, conjunction_of}
use Rattle.ab_theory.specs.Parts.{put_under}
use Rattle.ab_theory.specs.SpecRules.{SpecRule, by_clause, by_list, by_opening, by_part, stands_in_goals_alone, demand_by, demand_of}
use Rattle.ab_theory.proofs.Marked.{with_mark_stands}

abbrev Stands : Read → Type 0
Stands = StandsIn a_formula

-- a formula under the binder that closes a variable

close_rigid : (k : ℕ) (y : tree.Variable ℕ) (h : Head ℕ) → IsRigid h → IsRigid (close_head k (variable y) h)
close_rigid k y (constant c) r = tt
close_rigid k y (logical l) r = tt
close_rigid k y (nominal a) r = tt
close_rigid k y (variable x) r = absurd r
close_rigid k y (index i) r = absurd r

close_atomic : (k : ℕ) (y : tree.Variable ℕ) (h : Head ℕ) → IsAtomic h → IsAtomic (close_head k (variable y) h)
close_atomic k y (constant c) r = tt
close_atomic k y (logical l) r = r
close_atomic k y (nominal a) r = tt
close_atomic k y (variable x) r = absurd r
close_atomic k y (index i) r = absurd r

mutual
  close_stands : (k : ℕ) (y : tree.Variable ℕ) (p : Place) (t : Read) → StandsIn p t → StandsIn p (close k (variable y) t)
  close_stands k y any t s = tt
  close_stands k y a_formula (lam A x t) s = absurd s
  close_stands k y a_formula (spine (constant c) ts) s = (tt, close_all_stand k y any ts s.1)
  close_stands k y a_formula (spine (logical l) ts) s = (tt, close_all_stand k y (places_of (logical l)) ts s.1)
  close_stands k y a_formula (spine (nominal a) ts) s = (tt, close_all_stand k y any ts s.1)
  close_stands k y a_formula (spine (variable x) ts) s = absurd s.0
  close_stands k y a_formula (spine (index i) ts) s = absurd s.0
  close_stands k y a_scope (lam A x t) s = close_stands (suc k) y a_formula t s
  close_stands k y a_scope (spine h ts) s = absurd s
  close_stands k y a_marked (lam A x t) s = absurd s
  close_stands k y a_marked (spine h ts) s = close_atomic k y h s

  close_all_stand : (k : ℕ) (y : tree.Variable ℕ) (p : Place) (ts : Terms ℕ (List ℕ)) → AllStandIn p ts → AllStandIn p (close_all k (variable y) ts)
  close_all_stand k y p no_terms s = tt
  close_all_stand k y p (term t ts) s = (close_stands k y p t s.0, close_all_stand k y p ts s.1)

pub exists_all_stands : (ys : List Variable) (F : Read) → Stands F → Stands (exists_all ys F)
exists_all_stands [] F s = s
exists_all_stands (y ∷ ys) F s = (tt, (close_stands zero (in_terms y) a_formula (exists_all ys F) (exists_all_stands ys F s), tt))

-- goals, opened

judged_stands : (m : Sign) (L G : Read) → Stands (marked_judgement m L G)
judged_stands m L G = with_mark_stands m (logical judgement) (term L (term G no_terms)) tt (tt, (tt, (tt, tt)))

opened_stands : (m : Sign) (L G : Read) → Stands (open_goal m L G)
opened_stands m L (spine (logical (spec_universal A)) (term (lam B x G) no_terms)) = (tt, (opened_stands m (shift zero L) G, tt))
opened_stands m L (spine (logical spec_implication) (term F (term G no_terms))) = opened_stands m (before F L) G
opened_stands m L (spine (logical spec_conjunction) (term F (term G no_terms))) = (tt, (opened_stands m L F, (opened_stands m L G, tt)))
opened_stands m L G = judged_stands m L G

conjoined_stands : (m : Sign) (L F : Read) (Gs : List Read) → Stands F → Stands (conjunction_from F (map (open_goal m L) Gs))
conjoined_stands m L F [] s = s
conjoined_stands m L F (G ∷ Gs) s = conjoined_stands m L (both F (open_goal m L G)) Gs (tt, (s, (opened_stands m L G, tt)))

pub conjunction_stands : (m : Sign) (L : Read) (Gs : List Read) → Stands (conjunction_of (map (open_goal m L) Gs))
conjunction_stands m L [] = (tt, tt)
conjunction_stands m L (G ∷ Gs) = conjoined_stands m L (open_goal m L G) Gs (opened_stands m L G)

-- WHAT A RULE LEAVES MAY STAND

pub by_stands : (n : ℕ) (S : List Nominal) (m : Sign) (L : Read) (ps : List (Cell (List ℕ))) (ys : List Variable) (A : Read) (Gs : List Read) (e : Substitution ℕ (List ℕ) → List (Equation (List ℕ))) → Stands (demand_by n S m L ps ys A Gs e).body
by_stands n S m L ps ys A Gs e =
    let own = filter (λ y. not (stands_in_goals_alone A Gs y)) ys in
    let closed = filter (stands_in_goals_alone A Gs) ys in
    let new = put_together (map in_terms own) (made_terms (codes "x") n S (map cell_for own)) in
    image_stands (value_in same_number new) a_formula (exists_all closed (conjunction_of (map (open_goal m L) Gs))) (exists_all_stands closed (conjunction_of (map (open_goal m L) Gs)) (conjunction_stands m L Gs))

pub demand_stands : (n : ℕ) (m : Sign) (j : Judgement) (r : SpecRule) → Stands (demand_of n m j r).body
demand_stands n m j (by_clause c) =
    let ys = variables_from n c.variables in
    let named = put_together (clause_variables c) (own_terms (codes "x") (map in_terms ys)) in
    let A = image same_number named (head_of c) in
    by_stands n (constants_of j) m j.context [] ys A (map (image same_number named) (goals_in c.body))
    (λ new. arguments_equal (codes "x") 0 (arguments_of j.goal) (image_all same_number new (arguments_of A)))
demand_stands n m j by_list =
    let F = spine (index zero) no_terms in
    let A = term (shift zero j.context) (term F (term (shift zero j.goal) no_terms)) in
    (tt, ((tt, (with_mark_stands m (logical focused_judgement) A tt (tt, (tt, (tt, (tt, tt)))), ((tt, (tt, (tt, tt))), tt))), tt))
demand_stands n m j by_opening = opened_stands m j.context j.goal
demand_stands n m j (by_part p) =
    let ys = variables_from n p.names in
    let us = own_terms (codes "x") (map in_terms ys) in
    let A = put_under p.names us p.atom in
    by_stands (n + length p.names) (constants_of j) m j.context p.names ys A (map (put_under p.names us) p.goals)
    (λ new. record { place = 0; left = image same_number new A; right = j.goal } ∷ [])
