-- THE RULES OF A JUDGEMENT DEMAND THE SAME, whatever the numbers of variables.
use Rattle.std.proofs.Common.{◌≡◌, ℕ, zero, suc, ◌+◌, List, [], ◌∷◌, ◌++◌, map, length, true, refl, sym, ◌∙◌, ap, subst, arith, codes, Option, Some, None}
use Rattle.std.specs.Option.{option_map}
use Rattle.ab_term.specs.Types.{o}
use Rattle.ab_term.specs.Logical.{truth, existential}
use Rattle.ab_term.specs.Terms as tree
use Rattle.ab_term.specs.Terms.{Nominal, Head, constant, logical, nominal, variable, index, Term, lam, spine, Terms, no_terms, term, Read}
use Rattle.ab_term.specs.Expansion.{expansion}
use Rattle.ab_term.specs.Translation.{translate_all}
use Rattle.ab_term.specs.Names.{support}
use Rattle.ab_term.specs.Variables.{Substitution, variables, image, image_all, value_in}
use Rattle.ab_term.specs.Sameness.{same_number}
use Rattle.ab_term.specs.Substitution.{shift}
use Rattle.ab_term.proofs.Lists.{All-from_contains}
use Rattle.ab_term.proofs.Translations.{translate-shift, translate-expansion, support-translate}
use Rattle.ab_term.proofs.ImageTranslations.{translate-image}
use Rattle.ab_unifiers.specs.Replacements.{Cell, holds}
use Rattle.ab_unifiers.specs.Unification.{Equation}
use Rattle.ab_unifiers.specs.Unifiers.{keys}
use Rattle.ab_unifiers.proofs.Agreeing.{contains_holds}
use Rattle.ab_unifiers.specs.Clauses.{Clause, numbered, clause_variables, head_of, put_together, Within}
use Rattle.ab_unifiers.specs.Choices.{in_order}
use Rattle.ab_unifiers.specs.Prefixes.{arguments_of, own_terms}
use Rattle.ab_unifiers.specs.Alternatives.{arguments_equal}
use Rattle.ab_unifiers.specs.Renumbering.{renumbered_equation, renumbered_pairs}
use Rattle.ab_unifiers.proofs.RenumberedAnswers.{values_renumbered, put_moved, value_given}
use Rattle.ab_formulas.specs.Marks.{Sign, plain, star_of, at_of, plus_of, hash_of}
use Rattle.ab_formulas.specs.Sequents.{Variable, in_terms}
use Rattle.ab_theory.specs.Equations.{variables_from}
use Rattle.ab_theory.specs.Judgements.{Judgement, marked_focus, support_of_focus, constants_of}
use Rattle.ab_formulas.specs.Programs.{goals_in}
use Rattle.ab_theory.specs.Opening.{both}
use Rattle.ab_theory.specs.Parts.{Part, put_under}
use Rattle.ab_theory.specs.SpecRules.{SpecRule, by_clause, by_list, by_opening, by_part, demand_of, demand_by, some_item}
use Rattle.ab_unifiers.specs.Member.{in_the_list}
use Rattle.ab_effects.specs.Judgements.{renumbered_judgement, renumbered_part, renumbered_rule, DemandsTheSame, IsClosed, IsClosedRule}
use Rattle.ab_effects.proofs.Carrying.{GoOn}
use Rattle.ab_effects.proofs.Renumbered.{moved_variable}
use Rattle.ab_effects.proofs.MovedParts.{T, opened_moved, put_under_moved}
use Rattle.ab_effects.proofs.MovedDemands.{variables_from_moved, own_same, equations_same, body_same}

numbered_length : (n : ℕ) (cs : List (Cell (List ℕ))) → length (numbered n cs) ≡ length cs
numbered_length n [] = refl
numbered_length n (c ∷ cs) = ap suc (numbered_length (suc n) cs)

from_length : (n : ℕ) (cs : List (Cell (List ℕ))) → length (own_terms (codes "x") (map in_terms (variables_from n cs))) ≡ length cs
from_length n [] = refl
from_length n (c ∷ cs) = ap suc (from_length (n + 1) cs)

keys_together : (ys : List (tree.Variable ℕ)) (ts : List Read) → length ts ≡ length ys → keys (put_together ys ts) ≡ ys
keys_together [] ts e = refl
keys_together (y ∷ ys) [] e = absurd (cc)
keys_together (y ∷ ys) (t ∷ ts) e =
    let rest : length ts ≡ length ys = omega (arith, e) in
    ap (λ l. y ∷ l) (keys_together ys ts rest)

module _ (f : ℕ → ℕ) (agree : (i j : ℕ) → same_number (f i) (f j) ≡ same_number i j) where
  abbrev Ts : Terms ℕ (List ℕ) → Terms ℕ (List ℕ)
  Ts = translate_all f (λ x. x)

  focus_kept : (o : Option Read) → support_of_focus (option_map (T f) o) ≡ support_of_focus o
  focus_kept None = refl
  focus_kept (Some F) = support-translate f (λ (x : List ℕ). x) F

  constants_kept : (j : Judgement) → constants_of (renumbered_judgement f j) ≡ constants_of j
  constants_kept j =
      ap (λ l. in_order (l ++ (support_of_focus (option_map (T f) j.focus) ++ support (T f j.goal)))) (support-translate f (λ (x : List ℕ). x) j.context)
      ∙ ap (λ l. in_order (support j.context ++ (l ++ support (T f j.goal)))) (focus_kept j.focus)
      ∙ ap (λ l. in_order (support j.context ++ (support_of_focus j.focus ++ l))) (support-translate f (λ (x : List ℕ). x) j.goal)

  own_moved : (ys : List Variable) → map (T f) (own_terms (codes "x") (map in_terms ys)) ≡ own_terms (codes "x") (map in_terms (map (moved_variable f) ys))
  own_moved [] = refl
  own_moved (y ∷ ys) =
      ap (λ t. t ∷ map (T f) (own_terms (codes "x") (map in_terms ys))) (translate-expansion f (λ (x : List ℕ). x) (codes "x") y.type (variable (in_terms y)))
      ∙ ap (λ l. expansion (codes "x") y.type (variable (in_terms (moved_variable f y))) ∷ l) (own_moved ys)

  arguments_moved : (t : Read) → Ts (arguments_of t) ≡ arguments_of (T f t)
  arguments_moved (spine h ts) = refl
  arguments_moved (lam A x t) = refl

  image_moved : (s : Substitution ℕ (List ℕ)) (t : Read) → T f (image same_number s t) ≡ image same_number (renumbered_pairs f s) (T f t)
  image_moved s t = translate-image f (λ (x : List ℕ). x) same_number same_number agree s t

  all_image_moved : (s : Substitution ℕ (List ℕ)) (ts : Terms ℕ (List ℕ)) → Ts (image_all same_number s ts) ≡ image_all same_number (renumbered_pairs f s) (Ts ts)
  all_image_moved s ts = ap arguments_of (image_moved s (spine (constant []) ts))

  equal_moved : (p : ℕ) (ts us : Terms ℕ (List ℕ)) → map (renumbered_equation f) (arguments_equal (codes "x") p ts us) ≡ arguments_equal (codes "x") p (Ts ts) (Ts us)
  equal_moved p no_terms us = refl
  equal_moved p (term t ts) no_terms = refl
  equal_moved p (term t ts) (term u us) = ap (λ l. record { place = p; left = T f t; right = T f u } ∷ l) (equal_moved (suc p) ts us)

  values_together : (ys : List (tree.Variable ℕ)) (ts : List Read) → values_renumbered f (put_together ys ts) ≡ put_together ys (map (T f) ts)
  values_together [] ts = refl
  values_together (y ∷ ys) [] = refl
  values_together (y ∷ ys) (t ∷ ts) = ap (λ l. (y, T f t) ∷ l) (values_together ys ts)

  -- what is put in for the variables of a clause
  module _ (n k : ℕ) (on : GoOn f n k) (c : Clause (List ℕ)) where
    abbrev Named : Substitution ℕ (List ℕ)
    Named = put_together (clause_variables c) (own_terms (codes "x") (map in_terms (variables_from n c.variables)))

    abbrev Other : Substitution ℕ (List ℕ)
    Other = put_together (clause_variables c) (own_terms (codes "x") (map in_terms (variables_from k c.variables)))

    named_keys : keys Named ≡ clause_variables c
    named_keys = keys_together (clause_variables c) (own_terms (codes "x") (map in_terms (variables_from n c.variables))) (from_length n c.variables ∙ sym (numbered_length 0 c.variables))

    named_other : values_renumbered f Named ≡ Other
    named_other =
        values_together (clause_variables c) (own_terms (codes "x") (map in_terms (variables_from n c.variables)))
        ∙ ap (put_together (clause_variables c)) (own_moved (variables_from n c.variables) ∙ ap (λ ys. own_terms (codes "x") (map in_terms ys)) (variables_from_moved f n k c.variables on))

    abbrev Given : tree.Variable ℕ → Type 0
    Given y = (u : Read) × (value_in same_number Named y ≡ Some u) × (value_in same_number Other y ≡ Some (T f u))

    given : (y : tree.Variable ℕ) → holds (clause_variables c) y ≡ true → Given y
    given y h =
        let w = value_given f Named y (ap (λ l. holds l y) named_keys ∙ h) in
        (w.0, w.1, ap (λ s. value_in same_number s y) (sym named_other) ∙ w.2)

    pub put_same : (t : Read) → Within (variables t) (clause_variables c) → T f (image same_number Named t) ≡ image same_number Other t
    put_same t within =
        put_moved f (value_in same_number Named) (value_in same_number Other) t
        (All-from_contains Given (variables t) (λ y m. given y (within y (contains_holds (variables t) y m))))

    pub goals_same : (t : Read) → Within (variables t) (clause_variables c) → map (T f) (map (image same_number Named) (goals_in t)) ≡ map (image same_number Other) (goals_in t)
    goals_same (spine (logical truth) no_terms) within = refl
    goals_same t within = ap (λ u. u ∷ []) (put_same t within)

  -- of the list and the atom, as they stand under the name
  abbrev member_body : Sign → Read → Read → Read
  member_body m K B =
      let F = spine (index zero) no_terms in
      spine (logical (existential o)) (term (lam o (codes "F") (both (marked_focus m K F B) (spine (constant (codes "member")) (in_the_list F K)))) no_terms)

  body_moved : (m : Sign) (K B : Read) → T f (member_body m K B) ≡ member_body m (T f K) (T f B)
  body_moved plain K B = refl
  body_moved (star_of i) K B = refl
  body_moved (at_of i) K B = refl
  body_moved (plus_of i) K B = refl
  body_moved (hash_of i) K B = refl

  member_moved : (m : Sign) (L A : Read) → T f (some_item m L A) ≡ some_item m (T f L) (T f A)
  member_moved m L A =
      body_moved m (shift zero L) (shift zero A)
      ∙ ap (λ K. member_body m K (T f (shift zero A))) (translate-shift f (λ (x : List ℕ). x) L zero)
      ∙ ap (member_body m (shift zero (T f L))) (translate-shift f (λ (x : List ℕ). x) A zero)

  all_under_moved : (cs : List (Cell (List ℕ))) (us : List Read) (ts : List Read) → map (T f) (map (put_under cs us) ts) ≡ map (put_under cs (map (T f) us)) (map (T f) ts)
  all_under_moved cs us [] = refl
  all_under_moved cs us (t ∷ ts) = ap (λ u. u ∷ map (T f) (map (put_under cs us) ts)) (put_under_moved f cs us t) ∙ ap (λ l. put_under cs (map (T f) us) (T f t) ∷ l) (all_under_moved cs us ts)

  further : (n k l : ℕ) → GoOn f n k → GoOn f (n + l) (k + l)
  further n k l on i =
      let before : (n + l) + i ≡ n + (l + i) = omega arith in
      let behind : k + (l + i) ≡ (k + l) + i = omega arith in
      ap f before ∙ on (l + i) ∙ behind

  -- the same is demanded
  module _ (n k : ℕ) (on : GoOn f n k) (m : Sign) (j : Judgement) where
    by_clause_moved : (c : Clause (List ℕ)) → IsClosed c → DemandsTheSame f (demand_of n m j (by_clause c)) (demand_of k m (renumbered_judgement f j) (by_clause c))
    by_clause_moved c closed =
        let ys = variables_from n c.variables in
        let zs = variables_from k c.variables in
        let A = image same_number (Named n k on c) (head_of c) in
        let B = image same_number (Other n k on c) (head_of c) in
        let Gs = map (image same_number (Named n k on c)) (goals_in c.body) in
        let Hs = map (image same_number (Other n k on c)) (goals_in c.body) in
        let same_A : T f A ≡ B = put_same n k on c (head_of c) closed.head in
        let same_Gs : map (T f) Gs ≡ Hs = goals_same n k on c c.body closed.body in
        let same_ys : map (moved_variable f) ys ≡ zs = variables_from_moved f n k c.variables on in
        let S = constants_of j in
        let e = (λ (C : Read) (new : Substitution ℕ (List ℕ)). arguments_equal (codes "x") 0 (arguments_of j.goal) (image_all same_number new (arguments_of C))) in
        let q = (λ (C : Read) (new : Substitution ℕ (List ℕ)). arguments_equal (codes "x") 0 (arguments_of (T f j.goal)) (image_all same_number new (arguments_of C))) in
        let follows : (s : Substitution ℕ (List ℕ)) → map (renumbered_equation f) (e A s) ≡ q (T f A) (renumbered_pairs f s) =
        (λ s. equal_moved 0 (arguments_of j.goal) (image_all same_number s (arguments_of A))
        ∙ ap (λ ts. arguments_equal (codes "x") 0 ts (Ts (image_all same_number s (arguments_of A)))) (arguments_moved j.goal)
        ∙ ap (arguments_equal (codes "x") 0 (arguments_of (T f j.goal))) (all_image_moved s (arguments_of A) ∙ ap (image_all same_number (renumbered_pairs f s)) (arguments_moved A))) in
        let here : DemandsTheSame f (demand_by n S m j.context [] ys A Gs (e A)) (demand_by k S m (T f j.context) [] (map (moved_variable f) ys) (T f A) (map (T f) Gs) (q (T f A))) = record {
          passing = refl;
          own = sym (own_same f agree n k on S m j.context [] ys A Gs (e A) (q (T f A)) follows);
          equations = equations_same f agree n k on S m j.context [] ys A Gs (e A) (q (T f A)) follows;
          body = body_same f agree n k on S m j.context [] ys A Gs (e A) (q (T f A)) follows;
        } in
        subst (λ N. DemandsTheSame f (demand_of n m j (by_clause c)) (demand_by k N m (T f j.context) [] zs B Hs (q B))) (sym (constants_kept j))
        (subst (λ C. DemandsTheSame f (demand_of n m j (by_clause c)) (demand_by k S m (T f j.context) [] zs C Hs (q C))) same_A
        (subst (λ l. DemandsTheSame f (demand_of n m j (by_clause c)) (demand_by k S m (T f j.context) [] zs (T f A) l (q (T f A)))) same_Gs
        (subst (λ l. DemandsTheSame f (demand_of n m j (by_clause c)) (demand_by k S m (T f j.context) [] l (T f A) (map (T f) Gs) (q (T f A)))) same_ys here)))

    by_part_moved : (p : Part) → DemandsTheSame f (demand_of n m j (by_part p)) (demand_of k m (renumbered_judgement f j) (by_part (renumbered_part f p)))
    by_part_moved p =
        let ys = variables_from n p.names in
        let zs = variables_from k p.names in
        let us = own_terms (codes "x") (map in_terms ys) in
        let vs = own_terms (codes "x") (map in_terms zs) in
        let same_ys : map (moved_variable f) ys ≡ zs = variables_from_moved f n k p.names on in
        let same_us : map (T f) us ≡ vs = own_moved ys ∙ ap (λ l. own_terms (codes "x") (map in_terms l)) same_ys in
        let A = put_under p.names us p.atom in
        let Gs = map (put_under p.names us) p.goals in
        let B = put_under p.names vs (T f p.atom) in
        let Hs = map (put_under p.names vs) (map (T f) p.goals) in
        let same_A : T f A ≡ B = put_under_moved f p.names us p.atom ∙ ap (λ l. put_under p.names l (T f p.atom)) same_us in
        let same_Gs : map (T f) Gs ≡ Hs = all_under_moved p.names us p.goals ∙ ap (λ l. map (put_under p.names l) (map (T f) p.goals)) same_us in
        let S = constants_of j in
        let n1 = n + length p.names in
        let k1 = k + length p.names in
        let on1 = further n k (length p.names) on in
        let e : Read → Substitution ℕ (List ℕ) → List (Equation (List ℕ)) = (λ C new. record { place = 0; left = image same_number new C; right = j.goal } ∷ []) in
        let q : Read → Substitution ℕ (List ℕ) → List (Equation (List ℕ)) = (λ C new. record { place = 0; left = image same_number new C; right = T f j.goal } ∷ []) in
        let the_one : Read → List (Equation (List ℕ)) = (λ t. record { place = 0; left = t; right = T f j.goal } ∷ []) in
        let follows : (s : Substitution ℕ (List ℕ)) → map (renumbered_equation f) (e A s) ≡ q (T f A) (renumbered_pairs f s) =
        (λ s. ap the_one (image_moved s A)) in
        let here : DemandsTheSame f (demand_by n1 S m j.context p.names ys A Gs (e A)) (demand_by k1 S m (T f j.context) p.names (map (moved_variable f) ys) (T f A) (map (T f) Gs) (q (T f A))) = record {
          passing = refl;
          own = sym (own_same f agree n1 k1 on1 S m j.context p.names ys A Gs (e A) (q (T f A)) follows);
          equations = equations_same f agree n1 k1 on1 S m j.context p.names ys A Gs (e A) (q (T f A)) follows;
          body = body_same f agree n1 k1 on1 S m j.context p.names ys A Gs (e A) (q (T f A)) follows;
        } in
        subst (λ N. DemandsTheSame f (demand_of n m j (by_part p)) (demand_by k1 N m (T f j.context) p.names zs B Hs (q B))) (sym (constants_kept j))
        (subst (λ C. DemandsTheSame f (demand_of n m j (by_part p)) (demand_by k1 S m (T f j.context) p.names zs C Hs (q C))) same_A
        (subst (λ l. DemandsTheSame f (demand_of n m j (by_part p)) (demand_by k1 S m (T f j.context) p.names zs (T f A) l (q (T f A)))) same_Gs
        (subst (λ l. DemandsTheSame f (demand_of n m j (by_part p)) (demand_by k1 S m (T f j.context) p.names l (T f A) (map (T f) Gs) (q (T f A)))) same_ys here)))

    pub demand_moved : (r : SpecRule) → IsClosedRule r → DemandsTheSame f (demand_of n m j r) (demand_of k m (renumbered_judgement f j) (renumbered_rule f r))
    demand_moved (by_clause c) good = by_clause_moved c good
    demand_moved by_list good = record { passing = refl; own = refl; equations = refl; body = member_moved m j.context j.goal }
    demand_moved by_opening good = record { passing = refl; own = refl; equations = refl; body = opened_moved f m j.context j.goal }
    demand_moved (by_part p) good = by_part_moved p
