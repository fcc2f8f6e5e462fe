-- MARKS OF WHAT A RULE LEAVES: each judgement of it has the mark, so what a guess makes of it without marks it makes of it with them.
use Rattle.std.proofs.Common.{◌≡◌, ℕ, zero, suc, ◌+◌, List, [], ◌∷◌, map, length, filter, Bool, true, false, cond, not, codes, None, refl, sym, ◌∙◌, ap, subst}
use Rattle.ab_term.specs.Types.{o}
use Rattle.ab_term.specs.Logical as plain
use Rattle.ab_term.specs.Logical.{Logical, conjunction, existential, nabla, judgement, focused_judgement, spec_universal, spec_implication, spec_conjunction}
use Rattle.ab_term.specs.Terms as tree
use Rattle.ab_term.specs.Terms.{Nominal, Head, constant, logical, nominal, variable, index, lam, spine, Terms, no_terms, term, Read}
use Rattle.ab_term.specs.Substitution.{shift}
use Rattle.ab_term.specs.Abstraction.{close, close_all}
use Rattle.ab_term.specs.Sameness.{same_head, same_number}
use Rattle.ab_term.specs.Translation.{forget, forget_all}
use Rattle.ab_term.specs.Variables.{Substitution, image, image_all, image_by, image_all_by}
use Rattle.ab_term.proofs.ClosedMaps.{IsClosedMap, shift-image}
use Rattle.ab_term.proofs.Translations.{translate-shift}
use Rattle.ab_unifiers.specs.Replacements.{Cell}
use Rattle.ab_unifiers.specs.Unification.{Equation}
use Rattle.ab_unifiers.specs.Clauses.{Clause, clause_variables, head_of, put_together}
use Rattle.ab_unifiers.specs.Prefixes.{arguments_of, own_terms}
use Rattle.ab_unifiers.specs.Alternatives.{made_terms, arguments_equal}
use Rattle.ab_unifiers.specs.Member.{before, in_the_list}
use Rattle.ab_unifiers.proofs.Following.{Put, plain as bare, image_plain}
use Rattle.ab_unifiers.proofs.Ruling.{image_none}
use Rattle.ab_formulas.specs.Formulas.{a_formula, a_scope, StandsIn, AllStandIn, places_of_constant}
use Rattle.ab_formulas.specs.Marks as signs
use Rattle.ab_formulas.specs.Marks.{Sign}
use Rattle.ab_formulas.specs.BodyMarks.{with_mark}
use Rattle.ab_formulas.specs.Programs.{goals_in}
use Rattle.ab_formulas.specs.Sequents.{Variable, in_terms}
use Rattle.ab_theory.specs.Equations.{variables_from}
use Rattle.ab_theory.specs.Judgements.{Judgement, marked_focus, constants_of}
use Rattle.ab_theory.specs.Opening.{both, open_goal, conjunction_from, conjunction_of}
use Rattle.ab_theory.specs.Parts.{Part, put_under}
use Rattle.ab_theory.specs.Splits.{cell_for}
use Rattle.ab_theory.specs.SpecRules.{by_clause, by_part, stands_in_goals_alone, demand_by, demand_of, some_item}
use Rattle.ab_theory.specs.Unfolding.{exists_all}
use Rattle.ab_theory.proofs.Demands.{exists_all_stands, conjunction_stands}
use Rattle.ab_search_trees.proofs.Forms.{Makes, MakesAll, begins_logical, begins_constant, begins_nominal, abstraction}
use Rattle.ab_search_trees.proofs.Unmarked.{first_made, rest_made}

-- EACH JUDGEMENT OF A FORMULA WITH THE MARK
module _ (m : Sign) where
  -- `us` is what the head is given, with its judgements marked
  abbrev marked_at : Head ℕ → Terms ℕ (List ℕ) → Terms ℕ (List ℕ) → Read
  marked_at (logical conjunction) ts us = spine (logical conjunction) us
  marked_at (logical (existential A)) ts us = spine (logical (existential A)) us
  marked_at (logical (nabla A)) ts us = spine (logical (nabla A)) us
  marked_at (logical judgement) ts us = with_mark m (spine (logical judgement) ts)
  marked_at (logical focused_judgement) ts us = with_mark m (spine (logical focused_judgement) ts)
  marked_at h ts us = spine h ts

  abbrev mutual
    pub with_judgements : Read → Read
    with_judgements (lam A x t) = lam A x (with_judgements t)
    with_judgements (spine h ts) = marked_at h ts (all_with_judgements ts)

    pub all_with_judgements : Terms ℕ (List ℕ) → Terms ℕ (List ℕ)
    all_with_judgements no_terms = no_terms
    all_with_judgements (term t ts) = term (with_judgements t) (all_with_judgements ts)

-- one mark under a guess
mark_made : (f : Put) (m : Sign) (t u : Read) → Makes f t u → Makes f (with_mark m t) (with_mark m u)
mark_made f signs.plain t u e = e
mark_made f (signs.star_of i) t u e = ap (λ v. spine (logical (plain.star i)) (term v no_terms)) e
mark_made f (signs.at_of i) t u e = ap (λ v. spine (logical (plain.at_sign i)) (term v no_terms)) e
mark_made f (signs.plus_of i) t u e = ap (λ v. spine (logical (plain.plus i)) (term v no_terms)) e
mark_made f (signs.hash_of i) t u e = ap (λ v. spine (logical (plain.hash i)) (term v no_terms)) e

module _ (f : Put) (m : Sign) where
  logical_made : (l : Logical) (ts us : Terms ℕ (List ℕ)) → AllStandIn (places_of_constant l) ts → MakesAll f ts us
      → (AllStandIn a_formula ts → MakesAll f (all_with_judgements m ts) (all_with_judgements m us)) → (AllStandIn a_scope ts → MakesAll f (all_with_judgements m ts) (all_with_judgements m us))
      → Makes f (with_judgements m (spine (logical l) ts)) (with_judgements m (spine (logical l) us))
  logical_made conjunction ts us s r each scope = ap (spine (logical conjunction)) (each s)
  logical_made (existential A) ts us s r each scope = ap (spine (logical (existential A))) (scope s)
  logical_made (nabla A) ts us s r each scope = ap (spine (logical (nabla A))) (scope s)
  logical_made judgement ts us s r each scope = mark_made f m (spine (logical judgement) ts) (spine (logical judgement) us) (ap (spine (logical judgement)) r)
  logical_made focused_judgement ts us s r each scope = mark_made f m (spine (logical focused_judgement) ts) (spine (logical focused_judgement) us) (ap (spine (logical focused_judgement)) r)
  logical_made l ts us s r each scope = ap (spine (logical l)) r

  mutual
    made_with : (C H : Read) → StandsIn a_formula C → Makes f C H → Makes f (with_judgements m C) (with_judgements m H)
    made_with (lam A x t) H s e = absurd s
    made_with (spine (variable y) ts) H s e = absurd s.0
    made_with (spine (index i) ts) H s e = absurd s.0
    made_with (spine (constant c) ts) H s e = let b = begins_constant c (image_all_by f (forget_all ts)) H e in subst (λ K. Makes f (spine (constant c) ts) (with_judgements m K)) (sym b.1) (ap (spine (constant c)) b.2)
    made_with (spine (nominal a) ts) H s e = let b = begins_nominal a (image_all_by f (forget_all ts)) H e in subst (λ K. Makes f (spine (nominal a) ts) (with_judgements m K)) (sym b.1) (ap (spine (nominal a)) b.2)
    made_with (spine (logical l) ts) H s e =
        let b = begins_logical l (image_all_by f (forget_all ts)) H e in
        subst (λ K. Makes f (with_judgements m (spine (logical l) ts)) (with_judgements m K)) (sym b.1) (logical_made l ts b.0 s.1 b.2 (λ k. all_made_with ts b.0 k b.2) (λ k. scopes_made_with ts b.0 k b.2))

    all_made_with : (ts us : Terms ℕ (List ℕ)) → AllStandIn a_formula ts → MakesAll f ts us → MakesAll f (all_with_judgements m ts) (all_with_judgements m us)
    all_made_with no_terms no_terms s r = refl
    all_made_with no_terms (term u us) s r = absurd (cc)
    all_made_with (term t ts) no_terms s r = absurd (cc)
    all_made_with (term t ts) (term u us) s r = ap (λ v. term v (image_all_by f (forget_all (all_with_judgements m ts)))) (made_with t u s.0 (first_made f t u ts us r)) ∙ ap (term (forget (with_judgements m u))) (all_made_with ts us s.1 (rest_made f t u ts us r))

    scopes_made_with : (ts us : Terms ℕ (List ℕ)) → AllStandIn a_scope ts → MakesAll f ts us → MakesAll f (all_with_judgements m ts) (all_with_judgements m us)
    scopes_made_with no_terms no_terms s r = refl
    scopes_made_with no_terms (term u us) s r = absurd (cc)
    scopes_made_with (term t ts) no_terms s r = absurd (cc)
    scopes_made_with (term (spine h vs) ts) (term u us) s r = absurd s.0
    scopes_made_with (term (lam A x t) ts) (term u us) s r =
        let b = abstraction u (first_made f (lam A x t) u ts us r) in
        subst (λ k. MakesAll f (all_with_judgements m (term (lam A x t) ts)) (all_with_judgements m (term k us))) (sym b.2)
        (ap (λ v. term (lam A tt v) (image_all_by f (forget_all (all_with_judgements m ts)))) (made_with t b.1 s.0 b.3) ∙ ap (term (forget (with_judgements m (lam A b.0 b.1)))) (scopes_made_with ts us s.1 (rest_made f (lam A x t) u ts us r)))

-- WHAT A RULE LEAVES, WITH MARKS, is what it leaves without, each judgement of it marked
module _ (m : Sign) where
  opened_with : (L G : Read) → with_judgements m (open_goal signs.plain L G) ≡ open_goal m L G
  opened_with L (spine (logical (spec_universal A)) (term (lam B x G) no_terms)) = ap (λ t. spine (logical (nabla A)) (term (lam A x t) no_terms)) (opened_with (shift zero L) G)
  opened_with L (spine (logical spec_implication) (term F (term G no_terms))) = opened_with (before F L) G
  opened_with L (spine (logical spec_conjunction) (term F (term G no_terms))) = ap (λ t. both t (with_judgements m (open_goal signs.plain L G))) (opened_with L F) ∙ ap (both (open_goal m L F)) (opened_with L G)
  opened_with L G = refl

  all_opened_with : (L : Read) (Gs : List Read) → map (with_judgements m) (map (open_goal signs.plain L) Gs) ≡ map (open_goal m L) Gs
  all_opened_with L [] = refl
  all_opened_with L (G ∷ Gs) = ap (λ t. t ∷ map (with_judgements m) (map (open_goal signs.plain L) Gs)) (opened_with L G) ∙ ap (λ l. open_goal m L G ∷ l) (all_opened_with L Gs)

  joined_with : (F : Read) (Fs : List Read) → with_judgements m (conjunction_from F Fs) ≡ conjunction_from (with_judgements m F) (map (with_judgements m) Fs)
  joined_with F [] = refl
  joined_with F (G ∷ Gs) = joined_with (both F G) Gs

  conjoined_with : (Fs : List Read) → with_judgements m (conjunction_of Fs) ≡ conjunction_of (map (with_judgements m) Fs)
  conjoined_with [] = refl
  conjoined_with (F ∷ Fs) = joined_with F Fs

  mark_closed : (n : Sign) (k : ℕ) (y : tree.Variable ℕ) (t : Read) → with_mark n (close k (variable y) t) ≡ close k (variable y) (with_mark n t)
  mark_closed signs.plain k y t = refl
  mark_closed (signs.star_of i) k y t = refl
  mark_closed (signs.at_of i) k y t = refl
  mark_closed (signs.plus_of i) k y t = refl
  mark_closed (signs.hash_of i) k y t = refl

  mutual
    closed_with : (k : ℕ) (y : tree.Variable ℕ) (t : Read) → with_judgements m (close k (variable y) t) ≡ close k (variable y) (with_judgements m t)
    closed_with k y (lam A x t) = ap (lam A x) (closed_with (suc k) y t)
    closed_with k y (spine (logical conjunction) ts) = ap (spine (logical conjunction)) (all_closed_with k y ts)
    closed_with k y (spine (logical (existential A)) ts) = ap (spine (logical (existential A))) (all_closed_with k y ts)
    closed_with k y (spine (logical (nabla A)) ts) = ap (spine (logical (nabla A))) (all_closed_with k y ts)
    closed_with k y (spine (logical judgement) ts) = mark_closed m k y (spine (logical judgement) ts)
    closed_with k y (spine (logical focused_judgement) ts) = mark_closed m k y (spine (logical focused_judgement) ts)
    closed_with k y (spine (logical l) ts) = refl
    closed_with k y (spine (constant c) ts) = refl
    closed_with k y (spine (nominal a) ts) = refl
    closed_with k y (spine (index i) ts) = refl
    closed_with k y (spine (variable x) ts) = go (same_head (variable x) (variable y))
      where
        go : (b : Bool) → with_judgements m (spine (cond b (index k) (variable x)) (close_all k (variable y) ts)) ≡ spine (cond b (index k) (variable x)) (close_all k (variable y) ts)
        go true = refl
        go false = refl

    all_closed_with : (k : ℕ) (y : tree.Variable ℕ) (ts : Terms ℕ (List ℕ)) → all_with_judgements m (close_all k (variable y) ts) ≡ close_all k (variable y) (all_with_judgements m ts)
    all_closed_with k y no_terms = refl
    all_closed_with k y (term t ts) = ap (λ u. term u (all_with_judgements m (close_all k (variable y) ts))) (closed_with k y t) ∙ ap (term (close k (variable y) (with_judgements m t))) (all_closed_with k y ts)

  existing_with : (ys : List Variable) (F : Read) → with_judgements m (exists_all ys F) ≡ exists_all ys (with_judgements m F)
  existing_with [] F = refl
  existing_with (y ∷ ys) F =
      ap (λ t. spine (logical (existential y.type)) (term (lam y.type y.name t) no_terms)) (closed_with zero (in_terms y) (exists_all ys F) ∙ ap (close zero (variable (in_terms y))) (existing_with ys F))

  body_with_marks : (n : ℕ) (S : List Nominal) (L : Read) (ps : List (Cell (List ℕ))) (ys : List Variable) (A : Read) (Gs : List Read) (e : Substitution ℕ (List ℕ) → List (Equation (List ℕ)))
      → forget (demand_by n S m L ps ys A Gs e).body ≡ forget (with_judgements m (demand_by n S signs.plain L ps ys A Gs e).body)
  body_with_marks n S L ps ys A Gs e =
      let own = filter (λ y. not (stands_in_goals_alone A Gs y)) ys in
      let closed = filter (stands_in_goals_alone A Gs) ys in
      let new = put_together (map in_terms own) (made_terms (codes "x") n S (map cell_for own)) in
      let E = exists_all closed (conjunction_of (map (open_goal signs.plain L) Gs)) in
      let same : with_judgements m E ≡ exists_all closed (conjunction_of (map (open_goal m L) Gs)) =
      existing_with closed (conjunction_of (map (open_goal signs.plain L) Gs)) ∙ ap (exists_all closed) (conjoined_with (map (open_goal signs.plain L) Gs) ∙ ap conjunction_of (all_opened_with L Gs)) in
      ap (λ t. forget (image same_number new t)) (sym same)
      ∙ image_plain new (with_judgements m E)
      ∙ made_with (bare new) m E (image same_number new E) (exists_all_stands closed (conjunction_of (map (open_goal signs.plain L) Gs)) (conjunction_stands signs.plain L Gs)) (sym (image_plain new E))

  pub clause_with_marks : (n : ℕ) (j : Judgement) (c : Clause (List ℕ)) → forget (demand_of n m j (by_clause c)).body ≡ forget (with_judgements m (demand_of n signs.plain j (by_clause c)).body)
  clause_with_marks n j c =
      let ys = variables_from n c.variables in
      let named = put_together (clause_variables c) (own_terms (codes "x") (map in_terms ys)) in
      let A = image same_number named (head_of c) in
      body_with_marks n (constants_of j) j.context [] ys A (map (image same_number named) (goals_in c.body))
      (λ new. arguments_equal (codes "x") 0 (arguments_of j.goal) (image_all same_number new (arguments_of A)))

  pub part_with_marks : (n : ℕ) (j : Judgement) (p : Part) → forget (demand_of n m j (by_part p)).body ≡ forget (with_judgements m (demand_of n signs.plain j (by_part p)).body)
  part_with_marks n j p =
      let ys = variables_from n p.names in
      let us = own_terms (codes "x") (map in_terms ys) in
      let A = put_under p.names us p.atom in
      body_with_marks (n + length p.names) (constants_of j) j.context p.names ys A (map (put_under p.names us) p.goals)
      (λ new. record { place = 0; left = image same_number new A; right = j.goal } ∷ [])

-- WHAT IS MADE of bodies without marks is made of them with marks, where something is put into the second
pub marks_follow : (f : Put) (m : Sign) (P : Substitution ℕ (List ℕ)) (t u v w : Read) → forget v ≡ forget (with_judgements m t) → forget w ≡ forget (with_judgements m u) → StandsIn a_formula t → StandsIn a_formula u
    → Makes f t (image same_number P u) → Makes f v (image same_number P w)
marks_follow f m P t u v w first second t_stands u_stands e =
    ap (image_by f) first
    ∙ made_with f m t (image same_number P u) t_stands e
    ∙ sym (image_plain P w ∙ ap (image_by (bare P)) second ∙ made_with (bare P) m u (image same_number P u) u_stands (sym (image_plain P u)))

-- the same where the guess makes of the first body another, past hints
pub marks_made : (f : Put) (m : Sign) (t u v : Read) → forget v ≡ forget (with_judgements m t) → StandsIn a_formula t → Makes f t u → Makes f v (with_judgements m u)
marks_made f m t u v first t_stands e = ap (image_by f) first ∙ made_with f m t u t_stands e

-- and of what is put into a body, past hints
pub marks_put : (m : Sign) (P : Substitution ℕ (List ℕ)) (u w y : Read) → forget w ≡ forget (with_judgements m u) → StandsIn a_formula u → StandsIn a_formula (image same_number P u) → forget (image same_number P u) ≡ forget y
    → forget (with_judgements m y) ≡ forget (image same_number P w)
marks_put m P u w y second u_stands stands e =
    sym (sym (image_none (forget (with_judgements m (image same_number P u)))) ∙ made_with (λ z. None) m (image same_number P u) y stands (image_none (forget (image same_number P u)) ∙ e))
    ∙ sym (image_plain P w ∙ ap (image_by (bare P)) second ∙ made_with (bare P) m u (image same_number P u) u_stands (sym (image_plain P u)))

-- SOME FORMULA OF THE LIST, under a guess
module _ (f : Put) (closed : IsClosedMap f) where
  shift_made : (t u : Read) → Makes f t u → Makes f (shift zero t) (shift zero u)
  shift_made t u e =
      ap (image_by f) (translate-shift (λ v. v) (λ y. tt) t zero) ∙ sym (shift-image f closed (forget t) zero) ∙ ap (shift zero) e ∙ sym (translate-shift (λ v. v) (λ y. tt) u zero)

  pub item_made : (m : Sign) (L A K B : Read) → Makes f L K → Makes f A B → Makes f (some_item m L A) (some_item m K B)
  item_made m L A K B l a =
      let F : Read = spine (index zero) no_terms in
      let L1 = shift zero L in
      let K1 = shift zero K in
      let lists = shift_made L K l in
      let atoms = shift_made A B a in
      let inner : Makes f (spine (logical focused_judgement) (term L1 (term F (term (shift zero A) no_terms)))) (spine (logical focused_judgement) (term K1 (term F (term (shift zero B) no_terms)))) =
      ap (λ v. spine (logical focused_judgement) (term v (term (forget F) (term (image_by f (forget (shift zero A))) no_terms)))) lists
      ∙ ap (λ v. spine (logical focused_judgement) (term (forget K1) (term (forget F) (term v no_terms)))) atoms in
      let member : Makes f (spine (constant (codes "member")) (in_the_list F L1)) (spine (constant (codes "member")) (in_the_list F K1)) =
      ap (λ v. spine (constant (codes "member")) (term (forget F) (term v no_terms))) lists in
      ap (λ v. spine (logical (existential o)) (term (lam o tt (spine (logical conjunction) (term v (term (image_by f (forget (spine (constant (codes "member")) (in_the_list F L1)))) no_terms)))) no_terms))
      (mark_made f m (spine (logical focused_judgement) (term L1 (term F (term (shift zero A) no_terms)))) (spine (logical focused_judgement) (term K1 (term F (term (shift zero B) no_terms)))) inner)
      ∙ ap (λ v. spine (logical (existential o)) (term (lam o tt (spine (logical conjunction) (term (forget (marked_focus m K1 F (shift zero B))) (term v no_terms)))) no_terms)) member
