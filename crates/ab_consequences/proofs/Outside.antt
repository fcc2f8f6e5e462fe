-- Whether constants stand outside the formulas that their names are taken off doesn't depend on how variables are numbered.
use Rattle.std.specs.Prelude.{ℕ, zero, suc, not, ◌&&◌, codes, List, [], ◌∷◌}
use Rattle.std.proofs.Common.{◌≡◌, map, refl, sym, ◌∙◌, ap}
use Rattle.ab_term.specs.Types.{Ty, kind, arrow}
use Rattle.ab_term.specs.Terms.{Nominal, nominal, variable, lam, spine, Terms, no_terms, term, Read}
use Rattle.ab_term.specs.Expansion.{expansion}
use Rattle.ab_term.specs.Names.{support}
use Rattle.ab_term.specs.Translation.{translate, translate_all}
use Rattle.ab_term.specs.Abstraction.{over, given_names, name_terms}
use Rattle.ab_term.proofs.Translations.{translate-instance, translate-expansion, translate-expansion_of, support-translate}
use Rattle.ab_unifiers.specs.Clauses.{name_term}
use Rattle.ab_unifiers.specs.Choices.{is_in, outside}
use Rattle.ab_theory.specs.Pieces.{Part, variable_for, given_term, constant_for, antecedent}
use Rattle.ab_theory.specs.Uses.{with_term, right_side, used}

-- with one number for all variables
abbrev blurred : Read → Read
blurred = translate (λ n. zero) (λ x. x)

abbrev blurred_all : Terms ℕ (List ℕ) → Terms ℕ (List ℕ)
blurred_all = translate_all (λ n. zero) (λ x. x)

blurred-with_term : (F u : Read) → blurred (with_term F u) ≡ with_term (blurred F) (blurred u)
blurred-with_term (lam A x t) u = refl
blurred-with_term (spine h no_terms) u = refl
blurred-with_term (spine h (term f no_terms)) u = translate-instance (λ (n : ℕ). zero) (λ (x : List ℕ). x) f u
blurred-with_term (spine h (term f (term e es))) u = refl

blurred-right : (F : Read) → blurred (right_side F) ≡ right_side (blurred F)
blurred-right (lam A x t) = refl
blurred-right (spine h no_terms) = refl
blurred-right (spine h (term A no_terms)) = refl
blurred-right (spine h (term A (term B no_terms))) = refl
blurred-right (spine h (term A (term B (term e es)))) = refl

blurred-names : (x : List ℕ) (A : Ty) (ns : List Nominal) → blurred_all (name_terms x A (map nominal ns)) ≡ name_terms x A (map nominal ns)
blurred-names x A [] = refl
blurred-names x (kind k) (a ∷ ns) = refl
blurred-names x (arrow A B) (a ∷ ns) =
    ap (λ t. term t (blurred_all (name_terms x B (map nominal ns)))) (translate-expansion (λ (n : ℕ). zero) (λ (y : List ℕ). y) x A (nominal a))
    ∙ ap (term (expansion x A (nominal a))) (blurred-names x B ns)

blurred-given : (x : List ℕ) (n m : ℕ) (ns : List Nominal) (A B : Ty)
    → blurred (given_names x (record { name = n; type = B }) ns A) ≡ blurred (given_names x (record { name = m; type = B }) ns A)
blurred-given x n m ns A B =
    translate-expansion_of (λ (k : ℕ). zero) (λ (y : List ℕ). y) x A (variable (record { name = n; type = B })) (name_terms x B (map nominal ns))
    ∙ sym (translate-expansion_of (λ (k : ℕ). zero) (λ (y : List ℕ). y) x A (variable (record { name = m; type = B })) (name_terms x B (map nominal ns)))

same_support : (F G : Read) → blurred F ≡ blurred G → support F ≡ support G
same_support F G e =
    sym (support-translate (λ (n : ℕ). zero) (λ (x : List ℕ). x) F) ∙ ap support e ∙ support-translate (λ (n : ℕ). zero) (λ (x : List ℕ). x) G

same_with : (F G u v : Read) → blurred F ≡ blurred G → blurred u ≡ blurred v → blurred (with_term F u) ≡ blurred (with_term G v)
same_with F G u v e d =
    blurred-with_term F u ∙ ap (λ H. with_term H (blurred u)) e ∙ ap (with_term (blurred G)) d ∙ sym (blurred-with_term G v)

-- OTHER NUMBERS, and a formula that differs in its variables' numbers alone
pub outside_numbered : (held : List Nominal) (n m : ℕ) (ps : List Part) (names : List Nominal) (F G : Read) → blurred F ≡ blurred G
    → (used held n ps names F).outside ≡ (used held m ps names G).outside
outside_numbered held n m [] names F G e = refl
outside_numbered held n m (variable_for x A ∷ ps) names F G e =
    let free = outside held names in
    outside_numbered held (suc n) (suc m) ps names
    (with_term F (given_names (codes "x") (record { name = n; type = over free A }) free A)) (with_term G (given_names (codes "x") (record { name = m; type = over free A }) free A))
    (same_with F G _ _ e (blurred-given (codes "x") n m free A (over free A)))
outside_numbered held n m (given_term t ∷ ps) names F G e = outside_numbered held n m ps names (with_term F t) (with_term G t) (same_with F G t t e refl)
outside_numbered held n m (constant_for A ∷ ps) [] F G e = refl
outside_numbered held n m (constant_for A ∷ ps) (a ∷ names) F G e =
    ap (λ l. not (is_in l a) && (used held n ps names (with_term F (name_term (codes "x") a))).outside) (same_support F G e)
    ∙ ap (λ b. not (is_in (support G) a) && b)
    (outside_numbered held n m ps names (with_term F (name_term (codes "x") a)) (with_term G (name_term (codes "x") a)) (same_with F G _ _ e refl))
outside_numbered held n m (antecedent ∷ ps) names F G e =
    outside_numbered held n m ps names (right_side F) (right_side G) (blurred-right F ∙ ap right_side e ∙ sym (blurred-right G))
