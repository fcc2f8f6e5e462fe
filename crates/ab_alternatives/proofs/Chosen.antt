-- Choices are of the types of the names, and the cases of a clause are those by the choices that are kept.
use Rattle.std.proofs.Common.{◌≡◌, ℕ, List, [], ◌∷◌, ◌++◌, map, true, cond, bytes_eq, refl, sym, ◌∙◌, ap, subst}
use Rattle.std.specs.Prelude.{All}
use Rattle.std.proofs.lemmas.List.Elements.{All-nil, All-cons, All-append, All-map, All-weaker, All-head, All-tail}
use Rattle.ab_term.specs.Types.{Ty, same_type}
use Rattle.ab_term.specs.Terms.{Nominal}
use Rattle.ab_term.specs.Names.{support_of_all}
use Rattle.ab_term.proofs.Comparisons.{same_type-Decides}
use Rattle.ab_term.proofs.Lists.{All-from_contains}
use Rattle.ab_norm.specs.ab_types.specs.Entries.{Table}
use Rattle.ab_unifiers.specs.Choices.{others, of_type, new_constant, for_each, choices, in_order}
use Rattle.ab_unifiers.proofs.Choosing.{contains_kept}
use Rattle.ab_norm.specs.declared.nominal.Nominal.{Nominal as KeptNominal}
use Rattle.ab_unifiers.specs.Clauses.{Clause}
use Rattle.ab_instances.specs.ListReadings.{names_read}
use Rattle.ab_formulas.specs.Sequents.{Sequent, goal_names}
use Rattle.ab_theory.specs.Splits.{CaseOver}
use Rattle.ab_theory.specs.Atoms.{Defined}
use Rattle.ab_theory.specs.Analysis.{case_of}
use Rattle.ab_formulas.specs.Members.{SameMembers}
use Rattle.ab_formulas.proofs.AlternativesAgreeing.{choices_same}
use Rattle.ab_alternatives.specs.CaseSteps.{clause_cases}
use Rattle.ab_alternatives.proofs.Listed.{map_twice}

all_for_each : {X Y : Type 0} (P : Y → Type 0) (f : X → List Y) (xs : List X) → All (λ x. All P (f x)) xs → All P (for_each f xs)
all_for_each P f [] all = All-nil P
all_for_each P f (x ∷ xs) all = All-append P (f x) (for_each f xs) (All-head (λ x. All P (f x)) x xs all) (all_for_each P f xs (All-tail (λ x. All P (f x)) x xs all))

abbrev IsOfTypes : List Ty → List Nominal → Type 0
IsOfTypes As ns = map (λ a. a.type) ns ≡ As

pub choices_fit : (As : List Ty) (free held : List Nominal) → All (IsOfTypes As) (choices As free held)
choices_fit [] free held = All-cons (IsOfTypes []) [] [] refl (All-nil (IsOfTypes []))
choices_fit (A ∷ As) free held =
    let behind : Nominal → List (List Nominal) = λ a. map (λ ns. a ∷ ns) (choices As (others a free) (a ∷ held)) in
    all_for_each (IsOfTypes (A ∷ As)) behind (of_type A free ++ new_constant held A ∷ [])
    (All-weaker (λ (a : Nominal). a.type ≡ A) (λ a. All (IsOfTypes (A ∷ As)) (behind a))
    (λ a e. All-map (IsOfTypes (A ∷ As)) (λ ns. a ∷ ns) (choices As (others a free) (a ∷ held))
    (All-weaker (IsOfTypes As) (λ ns. IsOfTypes (A ∷ As) (a ∷ ns)) (λ ns f. ap (λ B. B ∷ map (λ b. b.type) ns) e ∙ ap (λ l. A ∷ l) f) (choices As (others a free) (a ∷ held)) (choices_fit As (others a free) (a ∷ held))))
    (of_type A free ++ new_constant held A ∷ [])
    (All-append (λ (a : Nominal). a.type ≡ A) (of_type A free) (new_constant held A ∷ [])
    (All-from_contains (λ (a : Nominal). a.type ≡ A) (of_type A free) (λ a k. (same_type-Decides a.type A).0 (contains_kept (λ b. same_type b.type A) free a k).1))
    (All-cons (λ (a : Nominal). a.type ≡ A) (new_constant held A) [] refl (All-nil (λ (a : Nominal). a.type ≡ A)))))

all_unmapped : {X Y : Type 0} (P : Y → Type 0) (f : X → Y) (xs : List X) → All P (map f xs) → All (λ x. P (f x)) xs
all_unmapped P f [] all = All-nil (λ x. P (f x))
all_unmapped P f (x ∷ xs) all = All-cons (λ x. P (f x)) x xs (All-head P (f x) (map f xs) all) (all_unmapped P f xs (All-tail P (f x) (map f xs) all))

-- THE CHOICES FIT, as they are kept
pub listed_fit : (types : Table) (list : List (List KeptNominal)) (As : List Ty) (free held : List Nominal) → map (names_read types) list ≡ choices As free held → All (λ ns. map (λ a. a.type) (names_read types ns) ≡ As) list
listed_fit types list As free held e = all_unmapped (IsOfTypes As) (names_read types) list (subst (All (IsOfTypes As)) (sym e) (choices_fit As free held))

-- the cases of a clause of the predicate, by the choices that are kept
pub clause_cases_are : (types : Table) (s t : Sequent) (name : List ℕ) (d : Defined) (c : Clause (List ℕ)) → bytes_eq c.predicate d.predicate ≡ true → (list : List (List KeptNominal)) (free held : List Nominal)
    → free ≡ in_order (support_of_all d.arguments) → SameMembers held (goal_names s) → map (names_read types) list ≡ choices (map (λ z. z.type) c.names) free held
    → clause_cases s t name d c ≡ map (λ ns. case_of s t name d (record { clause = c; names = names_read types ns })) list
clause_cases_are types s t name d c of_it list free held free_is same listed =
    let As : List Ty = map (λ z. z.type) c.names in
    let by : List Nominal → CaseOver = λ ns. case_of s t name d (record { clause = c; names = ns }) in
    ap (λ b. cond b (map by (choices As (in_order (support_of_all d.arguments)) (goal_names s))) []) of_it
    ∙ ap (map by) (sym (listed ∙ ap (λ f. choices As f held) free_is ∙ choices_same As (in_order (support_of_all d.arguments)) held (goal_names s) same))
    ∙ map_twice by (names_read types) list
