-- A use is made part by part.
use Rattle.std.proofs.Common.{◌≡◌, ℕ, suc, ◌+◌, List, [], ◌∷◌, ◌++◌, map, length, Bool, true, false, ◌&&◌, not, codes, refl, sym, ◌∙◌, ap, arith}
use Rattle.std.proofs.lemmas.List.{append_assoc}
use Rattle.ab_term.specs.Terms.{Nominal, Read}
use Rattle.ab_term.specs.Names.{support}
use Rattle.ab_term.specs.Abstraction.{over, given_names}
use Rattle.ab_unifiers.specs.Clauses.{name_term}
use Rattle.ab_unifiers.specs.Choices.{is_in, outside}
use Rattle.ab_alternatives.specs.ab_instances.specs.RaisedCells.{ids_from}
use Rattle.ab_theory.specs.Pieces.{Part, variable_for, given_term, constant_for, antecedent}
use Rattle.ab_theory.specs.Uses.{Use, used, types_chosen, and_variable, and_antecedent, and_outside, cell_over, with_term, left_side, right_side}
use Rattle.ab_consequences.specs.Leading.{instance_by, chosen, met}
use Rattle.ab_consequences.specs.UseStages.{stages_of}
use Rattle.ab_uses.specs.UseCells.{names_left, and_then}

and_true : (b c : Bool) → (b && c) ≡ ((b && true) && c)
and_true true c = refl
and_true false c = refl

none_more : (n : ℕ) → n ≡ n + 0
none_more n = omega arith

one_more : (n : ℕ) → suc n ≡ n + 1
one_more n = omega arith

-- the first part, and then the others
pub used_step : (held : List Nominal) (n : ℕ) (p : Part) (ps : List Part) (names : List Nominal) (F : Read) → map (λ a. a.type) names ≡ types_chosen (p ∷ ps)
    → let u = used held n (p ∷ []) names F in used held n (p ∷ ps) names F ≡ and_then u (used held (n + length u.variables) ps (names_left p names) u.result)
used_step held n (variable_for x A) ps [] F e = ap (λ k. and_variable (cell_over (outside held []) x A) (used held k ps [] (with_term F (given_names (codes "x") (record { name = n; type = over (outside held []) A }) (outside held []) A)))) (one_more n)
used_step held n (variable_for x A) ps (a ∷ names) F e = ap (λ k. and_variable (cell_over (outside held (a ∷ names)) x A) (used held k ps (a ∷ names) (with_term F (given_names (codes "x") (record { name = n; type = over (outside held (a ∷ names)) A }) (outside held (a ∷ names)) A)))) (one_more n)
used_step held n (given_term t) ps [] F e = ap (λ k. used held k ps [] (with_term F t)) (none_more n)
used_step held n (given_term t) ps (a ∷ names) F e = ap (λ k. used held k ps (a ∷ names) (with_term F t)) (none_more n)
used_step held n (constant_for A) ps [] F e = absurd (cc)
used_step held n (constant_for A) ps (a ∷ names) F e =
    ap (λ k. and_outside (not (is_in (support F) a)) (used held k ps names (with_term F (name_term (codes "x") a)))) (none_more n)
    ∙ ap (λ b. record (used held (n + 0) ps names (with_term F (name_term (codes "x") a))) { outside = b }) (and_true (not (is_in (support F) a)) _)
used_step held n antecedent ps [] F e = ap (λ k. and_antecedent (left_side F) (used held k ps [] (right_side F))) (none_more n)
used_step held n antecedent ps (a ∷ names) F e = ap (λ k. and_antecedent (left_side F) (used held k ps (a ∷ names) (right_side F))) (none_more n)

-- and so are the stages
pub stages_step : (held : List Nominal) (n : ℕ) (p : Part) (ps : List Part) (names : List Nominal) (F : Read) → map (λ a. a.type) names ≡ types_chosen (p ∷ ps)
    → stages_of held n (p ∷ ps) names ≡ stages_of held n (p ∷ []) names ++ stages_of held (n + length (used held n (p ∷ []) names F).variables) ps (names_left p names)
stages_step held n (variable_for x A) ps [] F e = ap (λ k. instance_by (given_names (codes "x") (record { name = n; type = over (outside held []) A }) (outside held []) A) ∷ stages_of held k ps []) (one_more n)
stages_step held n (variable_for x A) ps (a ∷ names) F e = ap (λ k. instance_by (given_names (codes "x") (record { name = n; type = over (outside held (a ∷ names)) A }) (outside held (a ∷ names)) A) ∷ stages_of held k ps (a ∷ names)) (one_more n)
stages_step held n (given_term t) ps [] F e = ap (λ k. instance_by t ∷ stages_of held k ps []) (none_more n)
stages_step held n (given_term t) ps (a ∷ names) F e = ap (λ k. instance_by t ∷ stages_of held k ps (a ∷ names)) (none_more n)
stages_step held n (constant_for A) ps [] F e = absurd (cc)
stages_step held n (constant_for A) ps (a ∷ names) F e = ap (λ k. chosen a ∷ stages_of held k ps names) (none_more n)
stages_step held n antecedent ps [] F e = ap (λ k. met ∷ stages_of held k ps []) (none_more n)
stages_step held n antecedent ps (a ∷ names) F e = ap (λ k. met ∷ stages_of held k ps (a ∷ names)) (none_more n)

pub and_assoc : (u v w : Use) → and_then u (and_then v w) ≡ and_then (and_then u v) w
and_assoc u v w =
    ap (λ l. record { variables = l; antecedents = u.antecedents ++ (v.antecedents ++ w.antecedents); result = w.result; outside = u.outside && (v.outside && w.outside) }) (sym (append_assoc u.variables v.variables w.variables))
    ∙ ap (λ l. record { variables = (u.variables ++ v.variables) ++ w.variables; antecedents = l; result = w.result; outside = u.outside && (v.outside && w.outside) }) (sym (append_assoc u.antecedents v.antecedents w.antecedents))
    ∙ ap (λ b. record { variables = (u.variables ++ v.variables) ++ w.variables; antecedents = (u.antecedents ++ v.antecedents) ++ w.antecedents; result = w.result; outside = b }) (and_both u.outside)
  where
    and_both : (b : Bool) → (b && (v.outside && w.outside)) ≡ ((b && v.outside) && w.outside)
    and_both true = refl
    and_both false = refl

pub ids_append : {A : Type 0} (n : ℕ) (xs ys : List A) → ids_from n xs ++ ids_from (n + length xs) ys ≡ ids_from n (xs ++ ys)
ids_append n [] ys = ap (λ k. ids_from k ys) (let e : n + 0 ≡ n = omega arith in e)
ids_append n (x ∷ xs) ys =
    ap (λ l. record { 0 = n } ∷ l)
    (ap (λ k. ids_from (suc n) xs ++ ids_from k ys) (let e : n + suc (length xs) ≡ suc n + length xs = omega arith in e) ∙ ids_append (suc n) xs ys)
