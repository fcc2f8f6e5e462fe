-- The body of a clause, its atoms marked, under a guess.
use Rattle.std.proofs.Common.{ℕ, List, Bool, true, false, if◌then◌else◌, refl, sym, ◌∙◌, ap, subst}
use Rattle.ab_term.specs.Logical as plain
use Rattle.ab_term.specs.Logical.{Logical, conjunction, disjunction, implication, universal, existential, nabla}
use Rattle.ab_term.specs.Terms.{constant, logical, nominal, variable, index, lam, spine, Terms, no_terms, term, Read}
use Rattle.ab_term.specs.Translation.{forget, forget_all}
use Rattle.ab_term.specs.Variables.{image_all_by}
use Rattle.ab_unifiers.proofs.Following.{Put}
use Rattle.ab_formulas.specs.Formulas.{a_formula, a_scope, StandsIn, AllStandIn, places_of_constant}
use Rattle.ab_formulas.specs.Marks as signs
use Rattle.ab_formulas.specs.Marks.{Sign}
use Rattle.ab_formulas.specs.BodyMarks.{with_mark, is_one_of, marked_in, all_marked_in}
use Rattle.ab_search_trees.proofs.Forms.{Makes, MakesAll, begins_logical, begins_constant, begins_nominal, abstraction}
use Rattle.ab_search_trees.proofs.Unmarked.{first_made, rest_made}

module _ (f : Put) (ps : List (List ℕ)) (m : Sign) where
  mark_made : (n : Sign) (t u : Read) → Makes f t u → Makes f (with_mark n t) (with_mark n u)
  mark_made signs.plain t u e = e
  mark_made (signs.star_of i) t u e = ap (λ v. spine (logical (plain.star i)) (term v no_terms)) e
  mark_made (signs.at_of i) t u e = ap (λ v. spine (logical (plain.at_sign i)) (term v no_terms)) e
  mark_made (signs.plus_of i) t u e = ap (λ v. spine (logical (plain.plus i)) (term v no_terms)) e
  mark_made (signs.hash_of i) t u e = ap (λ v. spine (logical (plain.hash i)) (term v no_terms)) e

  if_made : (b : Bool) (t u : Read) → Makes f t u → Makes f (if b then with_mark m t else t) (if b then with_mark m u else u)
  if_made true t u e = mark_made m t u e
  if_made false t u e = e

  logical_marked : (l : Logical) (ts us : Terms ℕ (List ℕ)) → AllStandIn (places_of_constant l) ts → MakesAll f ts us
      → (AllStandIn a_formula ts → MakesAll f (all_marked_in ps m ts) (all_marked_in ps m us)) → (AllStandIn a_scope ts → MakesAll f (all_marked_in ps m ts) (all_marked_in ps m us))
      → Makes f (marked_in ps m (spine (logical l) ts)) (marked_in ps m (spine (logical l) us))
  logical_marked conjunction ts us s r both scope = ap (spine (logical conjunction)) (both s)
  logical_marked disjunction ts us s r both scope = ap (spine (logical disjunction)) (both s)
  logical_marked implication ts us s r both scope = ap (spine (logical implication)) (both s)
  logical_marked (universal A) ts us s r both scope = ap (spine (logical (universal A))) (scope s)
  logical_marked (existential A) ts us s r both scope = ap (spine (logical (existential A))) (scope s)
  logical_marked (nabla A) ts us s r both scope = ap (spine (logical (nabla A))) (scope s)
  logical_marked l ts us s r both scope = ap (spine (logical l)) r

  mutual
    pub makes_marked : (C H : Read) → StandsIn a_formula C → Makes f C H → Makes f (marked_in ps m C) (marked_in ps m H)
    makes_marked (lam A x t) H s e = absurd s
    makes_marked (spine (variable y) ts) H s e = absurd s.0
    makes_marked (spine (index i) ts) H s e = absurd s.0
    makes_marked (spine (constant c) ts) H s e = let b = begins_constant c (image_all_by f (forget_all ts)) H e in subst (λ K. Makes f (marked_in ps m (spine (constant c) ts)) (marked_in ps m K)) (sym b.1) (if_made (is_one_of ps (constant c)) (spine (constant c) ts) (spine (constant c) b.0) (ap (spine (constant c)) b.2))
    makes_marked (spine (nominal a) ts) H s e = let b = begins_nominal a (image_all_by f (forget_all ts)) H e in subst (λ K. Makes f (marked_in ps m (spine (nominal a) ts)) (marked_in ps m K)) (sym b.1) (ap (spine (nominal a)) b.2)
    makes_marked (spine (logical l) ts) H s e = let b = begins_logical l (image_all_by f (forget_all ts)) H e in subst (λ K. Makes f (marked_in ps m (spine (logical l) ts)) (marked_in ps m K)) (sym b.1) (logical_marked l ts b.0 s.1 b.2 (λ k. all_made_marked ts b.0 k b.2) (λ k. scopes_made_marked ts b.0 k b.2))

    all_made_marked : (ts us : Terms ℕ (List ℕ)) → AllStandIn a_formula ts → MakesAll f ts us → MakesAll f (all_marked_in ps m ts) (all_marked_in ps m us)
    all_made_marked no_terms no_terms s r = refl
    all_made_marked no_terms (term u us) s r = absurd (cc)
    all_made_marked (term t ts) no_terms s r = absurd (cc)
    all_made_marked (term t ts) (term u us) s r = ap (λ v. term v (image_all_by f (forget_all (all_marked_in ps m ts)))) (makes_marked t u s.0 (first_made f t u ts us r)) ∙ ap (term (forget (marked_in ps m u))) (all_made_marked ts us s.1 (rest_made f t u ts us r))

    scopes_made_marked : (ts us : Terms ℕ (List ℕ)) → AllStandIn a_scope ts → MakesAll f ts us → MakesAll f (all_marked_in ps m ts) (all_marked_in ps m us)
    scopes_made_marked no_terms no_terms s r = refl
    scopes_made_marked no_terms (term u us) s r = absurd (cc)
    scopes_made_marked (term t ts) no_terms s r = absurd (cc)
    scopes_made_marked (term (spine h vs) ts) (term u us) s r = absurd s.0
    scopes_made_marked (term (lam A x t) ts) (term u us) s r =
        let b = abstraction u (first_made f (lam A x t) u ts us r) in
        subst (λ k. MakesAll f (all_marked_in ps m (term (lam A x t) ts)) (all_marked_in ps m (term k us))) (sym b.2)
        (ap (λ v. term (lam A tt v) (image_all_by f (forget_all (all_marked_in ps m ts)))) (makes_marked t b.1 s.0 b.3) ∙ ap (term (forget (marked_in ps m (lam A b.0 b.1)))) (scopes_made_marked ts us s.1 (rest_made f (lam A x t) u ts us r)))
