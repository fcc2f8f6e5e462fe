-- A FORMULA IS USED: where it has no judgement that is marked `#`, what is left to show has none, and what it leads to.
use Rattle.std.proofs.Common.{◌≡◌, ℕ, zero, suc, ◌≤◌, List, [], ◌∷◌, ◌++◌, length, codes, Option, Some, None, refl, sym, ◌∙◌, ap, subst, arith}
use Rattle.std.specs.Prelude.{All, Contains}
use Rattle.std.proofs.lemmas.List.Elements.{All-nil, All-cons, All-head, All-tail, Contains-append_left, Contains-append_right}
use Rattle.ab_term.specs.Types.{Ty}
use Rattle.ab_term.specs.Logical.{universal, nabla, implication}
use Rattle.ab_term.specs.Terms.{Nominal, Terms, logical, lam, spine, no_terms, term, Read}
use Rattle.ab_term.specs.Abstraction.{over, given_names}
use Rattle.ab_term.specs.Substitution.{shift, substitute_by, reduce, instance}
use Rattle.ab_term.specs.Variables.{Substitution, image}
use Rattle.ab_term.specs.Sameness.{same_number}
use Rattle.ab_term.proofs.Lists.{Contains-here}
use Rattle.ab_unifiers.specs.Choices.{in_order, outside, choices}
use Rattle.ab_unifiers.specs.Clauses.{name_term}
use Rattle.ab_unifiers.proofs.Choosing.{contains_kept, contains_ordered}
use Rattle.ab_unifiers.proofs.Matching.{choice_right}
use Rattle.ab_formulas.specs.Forms.{form_of}
use Rattle.ab_formulas.specs.Sequents.{Sequent, goal_names}
use Rattle.ab_theory.specs.Pieces.{Part, variable_for, given_term, constant_for, antecedent, Given, given_for, given_otherwise, part_for, pieces, parts, antecedent_count}
use Rattle.ab_theory.specs.Uses.{with_term, left_side, right_side, used, use_by, types_chosen, given_constants, choices_for, awaiting}
use Rattle.ab_theory.specs.UseAnswers.{IsUsedFor, awaited, result_in}
use Rattle.ab_effects.specs.FormulaUses.{using}
use Rattle.ab_consequences.proofs.Counted.{used_count, parts_count}
use Rattle.ab_unhashed_goals.proofs.Formulas.{IsFine, IsFineScope, instance_fine, image_fine, of_implies, of_for_all, of_nabla}

-- WHAT THE PARTS TAKE OFF stands in front of the formula
abbrev IsInFront : List Part → Read → Type 0
IsInFront [] F = Unit {0}
IsInFront (variable_for x A ∷ ps) F = (B : Ty) × (C : Ty) × (y : List ℕ) × (t : Read) × (F ≡ spine (logical (universal B)) (term (lam C y t) no_terms)) × IsInFront ps t
IsInFront (given_term u ∷ ps) F = (B : Ty) × (C : Ty) × (y : List ℕ) × (t : Read) × (F ≡ spine (logical (universal B)) (term (lam C y t) no_terms)) × IsInFront ps t
IsInFront (constant_for A ∷ ps) F = (B : Ty) × (C : Ty) × (y : List ℕ) × (t : Read) × (F ≡ spine (logical (nabla B)) (term (lam C y t) no_terms)) × IsInFront ps t
IsInFront (antecedent ∷ ps) F = (A : Read) × (B : Read) × (F ≡ spine (logical implication) (term A (term B no_terms))) × IsInFront ps B

-- a part for a `forall`, with a term or without
for_part : (x : List ℕ) (A B : Ty) (y : List ℕ) (t : Read) (o : Option Read) (ps : List Part) → IsInFront ps t → IsInFront (part_for x A o ∷ ps) (spine (logical (universal A)) (term (lam B y t) no_terms))
for_part x A B y t None ps k = (A, B, y, t, refl, k)
for_part x A B y t (Some u) ps k = (A, B, y, t, refl, k)

in_front : (n : ℕ) (F : Read) (gs : List Given) → IsInFront (parts gs (pieces n F)) F
in_front n (spine (logical (universal A)) (term (lam B x t) no_terms)) gs = for_part x A B x t (given_for x gs) (parts (given_otherwise x gs) (pieces n t)) (in_front n t (given_otherwise x gs))
in_front n (spine (logical (nabla A)) (term (lam B x t) no_terms)) gs = (A, B, x, t, refl, in_front n t gs)
in_front zero (spine (logical implication) (term A (term B no_terms))) gs = tt
in_front (suc zero) (spine (logical implication) (term A (term B no_terms))) gs = (A, B, refl, tt)
in_front (suc (suc n)) (spine (logical implication) (term A (term B no_terms))) gs = (A, B, refl, in_front (suc n) B gs)
in_front n _ gs = tt

-- it stays where a term is put in
in_front_put : (apply : Read → Terms ℕ (List ℕ) → Read) (u : Read) (k : ℕ) (ps : List Part) (t : Read) → IsInFront ps t → IsInFront ps (substitute_by apply u k t)
in_front_put apply u k [] t is = tt
in_front_put apply u k (variable_for x A ∷ ps) t (B, C, y, s, e, rest) = (B, C, y, substitute_by apply (shift zero u) (suc k) s, ap (substitute_by apply u k) e, in_front_put apply (shift zero u) (suc k) ps s rest)
in_front_put apply u k (given_term v ∷ ps) t (B, C, y, s, e, rest) = (B, C, y, substitute_by apply (shift zero u) (suc k) s, ap (substitute_by apply u k) e, in_front_put apply (shift zero u) (suc k) ps s rest)
in_front_put apply u k (constant_for A ∷ ps) t (B, C, y, s, e, rest) = (B, C, y, substitute_by apply (shift zero u) (suc k) s, ap (substitute_by apply u k) e, in_front_put apply (shift zero u) (suc k) ps s rest)
in_front_put apply u k (antecedent ∷ ps) t (A, B, e, rest) = (substitute_by apply u k A, substitute_by apply u k B, ap (substitute_by apply u k) e, in_front_put apply u k ps B rest)

-- a quantifier is taken off
module _ (ps : List Part) (F u : Read) (C : Ty) (y : List ℕ) (t : Read) (e : with_term F u ≡ instance (lam C y t) u) where
  then_fine : IsFineScope (lam C y t) → IsFine (with_term F u)
  then_fine is = subst IsFine (sym e) (instance_fine (lam C y t) u is)

  then_front : IsInFront ps t → IsInFront ps (with_term F u)
  then_front is = subst (IsInFront ps) (sym e) (in_front_put (reduce C) u zero ps t is)

-- SO WHAT IS TAKEN OFF has none
used_fine : (held : List Nominal) (n : ℕ) (ps : List Part) (names : List Nominal) (F : Read) → IsInFront ps F → IsFine F → All IsFine (used held n ps names F).antecedents × IsFine (used held n ps names F).result
used_fine held n [] names F front is = (All-nil IsFine, is)
used_fine held n (variable_for x A ∷ ps) names F (B, C, y, t, e, rest) is =
    let free = outside held names in
    let u = given_names (codes "x") (record { name = n; type = over free A }) free A in
    used_fine held (suc n) ps names (with_term F u) (then_front ps F u C y t (ap (λ G. with_term G u) e) rest) (then_fine ps F u C y t (ap (λ G. with_term G u) e) (of_for_all F is B (lam C y t) (ap form_of e)))
used_fine held n (given_term u ∷ ps) names F (B, C, y, t, e, rest) is =
    used_fine held n ps names (with_term F u) (then_front ps F u C y t (ap (λ G. with_term G u) e) rest) (then_fine ps F u C y t (ap (λ G. with_term G u) e) (of_for_all F is B (lam C y t) (ap form_of e)))
used_fine held n (constant_for A ∷ ps) [] F front is = (All-nil IsFine, is)
used_fine held n (constant_for A ∷ ps) (a ∷ names) F (B, C, y, t, e, rest) is =
    let u = name_term (codes "x") a in
    used_fine held n ps names (with_term F u) (then_front ps F u C y t (ap (λ G. with_term G u) e) rest) (then_fine ps F u C y t (ap (λ G. with_term G u) e) (of_nabla F is B (lam C y t) (ap form_of e)))
used_fine held n (antecedent ∷ ps) names F (A, B, e, rest) is =
    let both = of_implies F is A B (ap form_of e) in
    let r = used_fine held n ps names (right_side F) (subst (IsInFront ps) (sym (ap right_side e)) rest) (subst IsFine (sym (ap right_side e)) both.1) in
    (All-cons IsFine (left_side F) (used held n ps names (right_side F)).antecedents (subst IsFine (sym (ap left_side e)) both.0) r.0, r.1)

-- and so what is left, under an answer
left_fine : (q : Substitution ℕ (List ℕ)) (hs : List (Option Read)) (As : List Read) (R : Read) → length hs ≡ length As → All IsFine As → IsFine R
    → All IsFine (awaited hs (image same_number q (awaiting hs As R))) × IsFine (result_in hs (image same_number q (awaiting hs As R)))
left_fine q [] As R same all is = (All-nil IsFine, image_fine q R is)
left_fine q (o ∷ hs) [] R same all is = absurd (omega (arith, same))
left_fine q (None ∷ hs) (A ∷ As) R same all is =
    let r = left_fine q hs As R (omega (arith, same)) (All-tail IsFine A As all) is in
    (All-cons IsFine (image same_number q A) (awaited hs (image same_number q (awaiting hs As R))) (image_fine q A (All-head IsFine A As all)) r.0, r.1)
left_fine q (Some G ∷ hs) (A ∷ As) R same all is = left_fine q hs As R (omega (arith, same)) (All-tail IsFine A As all) is

-- A USE of the pieces in front of so many antecedents, with something or nothing for each
pub use_fine : (s : Sequent) (F : Read) (n : ℕ) (gs : List Given) (hs : List (Option Read)) (o : Option Read) (K : Read) → n ≤ antecedent_count F → length hs ≡ n → IsFine F
    → IsUsedFor (using s gs (pieces n F) (record { hypotheses = hs; conclusion = o }) F) K → All IsFine (awaited hs K) × IsFine (result_in hs K)
use_fine s F n gs hs o K enough many is (cells, are, names, (before, after, e, never), solved) =
    let ps = parts gs (pieces n F) in
    let held = goal_names s ++ given_constants ps in
    let listed : Contains (choices_for s ps F) names = subst (λ ns. Contains ns names) (sym e) (Contains-append_right before (names ∷ after) names (Contains-here names after)) in
    let kept = contains_kept (λ ns. (use_by s 0 ps F ns).outside) (choices (types_chosen ps) (in_order (goal_names s)) held) names listed in
    let types = (choice_right (types_chosen ps) (in_order (goal_names s)) held (λ a m. Contains-append_left (goal_names s) (given_constants ps) a (contains_ordered (goal_names s) a m)) names kept.0).0 in
    let u = use_by s (length cells) ps F names in
    let fine = used_fine (in_order (goal_names s)) (length cells) ps names F (in_front n F gs) is in
    let count = used_count (in_order (goal_names s)) (length cells) ps names F types ∙ parts_count n F gs enough in
    subst (λ E. All IsFine (awaited hs E) × IsFine (result_in hs E)) (sym solved.left) (left_fine solved.answer hs u.antecedents u.result (many ∙ sym count) fine.0 fine.1)
