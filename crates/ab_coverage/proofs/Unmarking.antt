-- MARKS COME OFF what is equal past hints, or up to names; and what a rule demands without marks is what it demands with them.
use Rattle.std.proofs.Common.{◌≡◌, ℕ, zero, suc, ◌+◌, List, [], ◌∷◌, map, filter, length, Bool, true, false, cond, codes, not, refl, sym, ◌∙◌, ap}
use Rattle.ab_term.specs.Types.{o}
use Rattle.ab_term.specs.Logical.{existential, focused_judgement}
use Rattle.ab_term.specs.Substitution.{shift}
use Rattle.ab_term.specs.Terms as tree
use Rattle.ab_term.specs.Terms.{Nominal, Head, constant, logical, nominal, variable, index, Term, lam, spine, Terms, no_terms, term, Read}
use Rattle.ab_term.specs.Translation.{translate_head, forget, forget_all, EqualPastHints}
use Rattle.ab_term.specs.Names.{rename_head, rename, rename_all, moved_by, EqualUpToNames}
use Rattle.ab_term.specs.Abstraction.{close_head, close, close_all}
use Rattle.ab_term.specs.Variables.{Substitution, value_in, image, image_all}
use Rattle.ab_term.specs.Sameness.{same_number, same_head}
use Rattle.ab_term.proofs.Translations.{translate-rename}
use Rattle.ab_term.proofs.UpToNames.{rename-itself}
use Rattle.ab_unifiers.specs.Replacements.{Cell}
use Rattle.ab_unifiers.specs.Clauses.{clause_variables, head_of, put_together}
use Rattle.ab_unifiers.specs.Prefixes.{arguments_of, own_terms}
use Rattle.ab_unifiers.specs.Alternatives.{made_terms, arguments_equal}
use Rattle.ab_unifiers.specs.Member.{in_the_list}
use Rattle.ab_unifiers.specs.Unification.{Equation}
use Rattle.ab_formulas.specs.Marks as signs
use Rattle.ab_formulas.specs.Marks.{Sign, Making, by_head, by_scope, by_parts, by_mark, making_of, unmarked, erased, erased_all}
use Rattle.ab_formulas.specs.Sequents.{Variable, in_terms}
use Rattle.ab_formulas.specs.Programs.{goals_in}
use Rattle.ab_theory.specs.Equations.{variables_from}
use Rattle.ab_theory.specs.Judgements.{Judgement, constants_of}
use Rattle.ab_theory.specs.Opening.{both, open_goal, conjunction_from, conjunction_of}
use Rattle.ab_theory.specs.Parts.{put_under}
use Rattle.ab_theory.specs.SpecRules.{SpecRule, by_clause, by_list, by_opening, by_part, demand_by, demand_of, stands_in_goals_alone}
use Rattle.ab_theory.specs.Splits.{cell_for}
use Rattle.ab_theory.specs.Unfolding.{exists_all}
use Rattle.ab_theory.proofs.Demands.{exists_all_stands, conjunction_stands}
use Rattle.ab_coverage.proofs.Erasing.{unmark, erased-image, erased-open}

-- a formula that has no hints, without its marks
abbrev dropped : Making → Head ℕ → Terms ℕ (Unit {0}) → Terms ℕ (Unit {0}) → Term ℕ (Unit {0})
dropped by_head h ts us = spine h ts
dropped by_scope h ts us = spine h us
dropped by_parts h ts us = spine h us
dropped (by_mark k) h no_terms us = spine h us
dropped (by_mark k) h (term t ts) us = t

abbrev mutual
  drop : Term ℕ (Unit {0}) → Term ℕ (Unit {0})
  drop (lam A x t) = lam A x (drop t)
  drop (spine h ts) = dropped (making_of h) h ts (drop_all ts)

  drop_all : Terms ℕ (Unit {0}) → Terms ℕ (Unit {0})
  drop_all no_terms = no_terms
  drop_all (term t ts) = term (drop t) (drop_all ts)

module _ (m : Nominal → Nominal) where
  -- renamed, and without hints
  abbrev named : Head ℕ → Head ℕ
  named h = translate_head (λ v. v) (rename_head m h)

  abbrev all_named : Terms ℕ (List ℕ) → Terms ℕ (Unit {0})
  all_named ts = forget_all (rename_all m ts)

  making_named : (h : Head ℕ) → making_of (named h) ≡ making_of h
  making_named (constant c) = refl
  making_named (logical l) = refl
  making_named (nominal a) = refl
  making_named (variable y) = refl
  making_named (index i) = refl

  unmarked_named : (k : Making) (h : Head ℕ) (ts us : Terms ℕ (List ℕ)) → forget (rename m (unmarked k h ts us)) ≡ dropped k (named h) (all_named ts) (all_named us)
  unmarked_named by_head h ts us = refl
  unmarked_named by_scope h ts us = refl
  unmarked_named by_parts h ts us = refl
  unmarked_named (by_mark k) h no_terms us = refl
  unmarked_named (by_mark k) h (term t ts) us = refl

  mutual
    erased-named : (t : Read) → forget (rename m (erased t)) ≡ drop (forget (rename m t))
    erased-named (lam A x t) = ap (lam A tt) (erased-named t)
    erased-named (spine h ts) =
        unmarked_named (making_of h) h ts (erased_all ts)
        ∙ ap (dropped (making_of h) (named h) (all_named ts)) (erased_all-named ts)
        ∙ ap (λ k. dropped k (named h) (all_named ts) (drop_all (all_named ts))) (sym (making_named h))

    erased_all-named : (ts : Terms ℕ (List ℕ)) → all_named (erased_all ts) ≡ drop_all (all_named ts)
    erased_all-named no_terms = refl
    erased_all-named (term t ts) = ap (λ u. term u (all_named (erased_all ts))) (erased-named t) ∙ ap (term (drop (forget (rename m t)))) (erased_all-named ts)

erased-forget : (t : Read) → forget (erased t) ≡ drop (forget t)
erased-forget t = sym (ap forget (rename-itself (erased t))) ∙ erased-named (λ a. a) t ∙ ap (λ u. drop (forget u)) (rename-itself t)

pub erased_past_hints : (t u : Read) → EqualPastHints t u → EqualPastHints (erased t) (erased u)
erased_past_hints t u e = erased-forget t ∙ ap drop e ∙ sym (erased-forget u)

pub erased_up_to_names : (t u : Read) → EqualUpToNames t u → EqualUpToNames (erased t) (erased u)
erased_up_to_names t u e = (e.0, e.1, erased-named (moved_by e.0) t ∙ ap drop e.2 ∙ sym (erased-forget u))

pub hints_before_names : (t u v : Read) → EqualPastHints t u → EqualUpToNames u v → EqualUpToNames t v
hints_before_names t u v h e =
    let m = moved_by e.0 in
    (e.0, e.1, translate-rename (λ v. v) (λ x. tt) m t ∙ ap (rename m) h ∙ sym (translate-rename (λ v. v) (λ x. tt) m u) ∙ e.2)

-- through a formula that is closed over variables

making_closed : (k : ℕ) (y : tree.Variable ℕ) (h : Head ℕ) → making_of (close_head k (variable y) h) ≡ making_of h
making_closed k y (constant c) = refl
making_closed k y (logical l) = refl
making_closed k y (nominal a) = refl
making_closed k y (variable z) = go (same_head (variable z) (variable y))
  where
    go : (b : Bool) → making_of (cond b (index k) (variable z)) ≡ by_head
    go true = refl
    go false = refl
making_closed k y (index i) = refl

unmarked_closed : (k : ℕ) (y : tree.Variable ℕ) (j : Making) (h : Head ℕ) (ts us : Terms ℕ (List ℕ))
    → close k (variable y) (unmarked j h ts us) ≡ unmarked j (close_head k (variable y) h) (close_all k (variable y) ts) (close_all k (variable y) us)
unmarked_closed k y by_head h ts us = refl
unmarked_closed k y by_scope h ts us = refl
unmarked_closed k y by_parts h ts us = refl
unmarked_closed k y (by_mark i) h no_terms us = refl
unmarked_closed k y (by_mark i) h (term t ts) us = refl

mutual
  erased-close : (k : ℕ) (y : tree.Variable ℕ) (t : Read) → erased (close k (variable y) t) ≡ close k (variable y) (erased t)
  erased-close k y (lam A x t) = ap (lam A x) (erased-close (suc k) y t)
  erased-close k y (spine h ts) =
      ap (λ j. unmarked j (close_head k (variable y) h) (close_all k (variable y) ts) (erased_all (close_all k (variable y) ts))) (making_closed k y h)
      ∙ ap (unmarked (making_of h) (close_head k (variable y) h) (close_all k (variable y) ts)) (erased_all-close k y ts)
      ∙ sym (unmarked_closed k y (making_of h) h ts (erased_all ts))

  erased_all-close : (k : ℕ) (y : tree.Variable ℕ) (ts : Terms ℕ (List ℕ)) → erased_all (close_all k (variable y) ts) ≡ close_all k (variable y) (erased_all ts)
  erased_all-close k y no_terms = refl
  erased_all-close k y (term t ts) = ap (λ u. term u (erased_all (close_all k (variable y) ts))) (erased-close k y t) ∙ ap (term (close k (variable y) (erased t))) (erased_all-close k y ts)

erased-exists : (ys : List Variable) (F G : Read) → erased F ≡ G → erased (exists_all ys F) ≡ exists_all ys G
erased-exists [] F G e = e
erased-exists (y ∷ ys) F G e =
    ap (λ K. spine (logical (existential y.type)) (term (lam y.type y.name K) no_terms)) (erased-close zero (in_terms y) (exists_all ys F) ∙ ap (close zero (variable (in_terms y))) (erased-exists ys F G e))

-- and of what a rule demands

erased-conjoined : (m : Sign) (L F K : Read) (Gs : List Read) → erased F ≡ K → erased (conjunction_from F (map (open_goal m L) Gs)) ≡ conjunction_from K (map (open_goal signs.plain L) Gs)
erased-conjoined m L F K [] e = e
erased-conjoined m L F K (G ∷ Gs) e =
    erased-conjoined m L (both F (open_goal m L G)) (both K (open_goal signs.plain L G)) Gs (ap (λ H. both H (erased (open_goal m L G))) e ∙ ap (both K) (erased-open m L G))

erased-conjunction : (m : Sign) (L : Read) (Gs : List Read) → erased (conjunction_of (map (open_goal m L) Gs)) ≡ conjunction_of (map (open_goal signs.plain L) Gs)
erased-conjunction m L [] = refl
erased-conjunction m L (G ∷ Gs) = erased-conjoined m L (open_goal m L G) (open_goal signs.plain L G) Gs (erased-open m L G)

erased-demanded : (n : ℕ) (S : List Nominal) (m : Sign) (L : Read) (ps : List (Cell (List ℕ))) (ys : List Variable) (A : Read) (Gs : List Read) (e : Substitution ℕ (List ℕ) → List (Equation (List ℕ)))
    → erased (demand_by n S m L ps ys A Gs e).body ≡ (demand_by n S signs.plain L ps ys A Gs e).body
erased-demanded n S m L ps ys A Gs e =
    let own = filter (λ y. not (stands_in_goals_alone A Gs y)) ys in
    let closed = filter (stands_in_goals_alone A Gs) ys in
    let new = put_together (map in_terms own) (made_terms (codes "x") n S (map cell_for own)) in
    let matrix = conjunction_of (map (open_goal m L) Gs) in
    erased-image (value_in same_number new) (exists_all closed matrix) (exists_all_stands closed matrix (conjunction_stands m L Gs))
    ∙ ap (image same_number new) (erased-exists closed matrix (conjunction_of (map (open_goal signs.plain L) Gs)) (erased-conjunction m L Gs))

-- WHAT A RULE DEMANDS, its marks taken off
pub erased-demand : (n : ℕ) (m : Sign) (j : Judgement) (r : SpecRule) → erased (demand_of n m j r).body ≡ (demand_of n signs.plain j r).body
erased-demand n m j (by_clause c) =
    let ys = variables_from n c.variables in
    let named = put_together (clause_variables c) (own_terms (codes "x") (map in_terms ys)) in
    let A = image same_number named (head_of c) in
    erased-demanded n (constants_of j) m j.context [] ys A (map (image same_number named) (goals_in c.body))
    (λ new. arguments_equal (codes "x") 0 (arguments_of j.goal) (image_all same_number new (arguments_of A)))
erased-demand n m j by_list =
    let member = spine (constant (codes "member")) (in_the_list (spine (index zero) no_terms) (shift zero j.context)) in
    ap (λ F. spine (logical (existential o)) (term (lam o (codes "F") (both F member)) no_terms))
    (unmark m (spine (logical focused_judgement) (term (shift zero j.context) (term (spine (index zero) no_terms) (term (shift zero j.goal) no_terms)))) refl)
erased-demand n m j by_opening = erased-open m j.context j.goal
erased-demand n m j (by_part p) =
    let ys = variables_from n p.names in
    let us = own_terms (codes "x") (map in_terms ys) in
    let A = put_under p.names us p.atom in
    erased-demanded (n + length p.names) (constants_of j) m j.context p.names ys A (map (put_under p.names us) p.goals)
    (λ new. record { place = 0; left = image same_number new A; right = j.goal } ∷ [])
