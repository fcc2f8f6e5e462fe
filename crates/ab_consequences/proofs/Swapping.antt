-- A constant in the place of another, in what is put for the name of a `nabla`.
use Rattle.std.specs.Prelude.{Contains, AllPairs}
use Rattle.std.specs.Cmp.{unsigned_Decides}
use Rattle.std.proofs.Common.{◌≡◌, ◌≢◌, inl, inr, ℕ, Bool, true, false, [], ◌∷◌, refl, sym, ◌∙◌, ap, subst}
use Rattle.std.specs.Prelude.{◌==◌}
use Rattle.std.proofs.lemmas.Bool.{false≢true}
use Rattle.std.proofs.lemmas.List.Elements.{All-nil, All-cons}
use Rattle.std.proofs.lemmas.List.Kept.{AllPairs-cons}
use Rattle.ab_term.specs.Types.{Ty}
use Rattle.ab_term.specs.Terms.{Nominal, Read}
use Rattle.ab_term.specs.Translation.{forget}
use Rattle.ab_term.specs.Names.{support, rename, permute, moved_by, IsPermutationTable}
use Rattle.ab_term.specs.Substitution.{instance}
use Rattle.ab_term.proofs.Lists.{Contains-none, Contains-here, Contains-cases, AllPairs-none}
use Rattle.ab_term.proofs.Permutations.{moved_by-absent, moved_by-present}
use Rattle.ab_term.proofs.Permuting.{rename_agrees}
use Rattle.ab_term.proofs.Renamings.{rename-instance}
use Rattle.ab_term.proofs.UpToNames.{up_to_names-itself, rename-itself}
use Rattle.ab_formulas.specs.Cycles.{constant_at, cycle}
use Rattle.ab_formulas.specs.Marks.{erased, marks_of, MarksServe}
use Rattle.ab_formulas.proofs.Tables.{cycle_permutes}
use Rattle.ab_theory.specs.Rules.{name_term}
use Rattle.ab_search_proofs.proofs.Constants.{constant_moved}
use Rattle.ab_search_proofs.proofs.Renamed.{marks_of-rename, rename-erased}
use Rattle.ab_consequences.specs.Leading.{Meets}
use Rattle.ab_consequences.proofs.Allowed.{marks_serve}

pub meets_itself : (F : Read) → Meets F F
meets_itself F = (up_to_names-itself (erased F), marks_serve (marks_of F))

module _ (A : Ty) (n m : ℕ) (differ : n ≢ m) where
  different : AllPairs (λ i j. i ≢ j) (n ∷ m ∷ [])
  different = AllPairs-cons (λ i j. i ≢ j) n (m ∷ []) (All-cons (λ j. n ≢ j) m [] differ (All-nil (λ j. n ≢ j))) (AllPairs-cons (λ i j. i ≢ j) m [] (All-nil (λ j. m ≢ j)) (AllPairs-none (λ i j. i ≢ j)))

  table : IsPermutationTable (cycle A (n ∷ m ∷ []))
  table = cycle_permutes A (n ∷ m ∷ []) different

  first_moved : moved_by (cycle A (n ∷ m ∷ [])) (constant_at A n) ≡ constant_at A m
  first_moved = moved_by-present (cycle A (n ∷ m ∷ [])) table.from_distinct (constant_at A n, constant_at A m) (Contains-here (constant_at A n, constant_at A m) ((constant_at A m, constant_at A n) ∷ []))

  stays : (G : Read) → (Contains (support G) (constant_at A n) → ⊥) → (Contains (support G) (constant_at A m) → ⊥) → permute (cycle A (n ∷ m ∷ [])) G ≡ G
  stays G no_n no_m =
      rename_agrees (moved_by (cycle A (n ∷ m ∷ []))) (λ c. c) G (λ c there. moved_by-absent (cycle A (n ∷ m ∷ [])) c (λ k. at c there k)) ∙ rename-itself G
    where
      at : (c : Nominal) → Contains (support G) c → Contains (constant_at A n ∷ constant_at A m ∷ []) c → ⊥
      at c there k = elim (Contains-cases (constant_at A n) (constant_at A m ∷ []) c k) [
        | inl e ↦ no_n (subst (Contains (support G)) (sym e) there)
        | inr l ↦ elim (Contains-cases (constant_at A m) [] c l) [ inl e ↦ no_m (subst (Contains (support G)) (sym e) there) | inr none ↦ Contains-none c none ]
      ]

  exchanged : (G : Read) → (Contains (support G) (constant_at A n) → ⊥) → (Contains (support G) (constant_at A m) → ⊥)
      → permute (cycle A (n ∷ m ∷ [])) (instance G (name_term (constant_at A n))) ≡ instance G (name_term (constant_at A m))
  exchanged G no_n no_m =
      rename-instance (moved_by (cycle A (n ∷ m ∷ []))) G (name_term (constant_at A n))
      ∙ ap (λ t. instance t (rename (moved_by (cycle A (n ∷ m ∷ []))) (name_term (constant_at A n)))) (stays G no_n no_m)
      ∙ ap (instance G) (constant_moved (moved_by (cycle A (n ∷ m ∷ []))) (constant_at A n) (constant_at A m) first_moved refl)

  meets_other : (G : Read) → (Contains (support G) (constant_at A n) → ⊥) → (Contains (support G) (constant_at A m) → ⊥) → Meets (instance G (name_term (constant_at A n))) (instance G (name_term (constant_at A m)))
  meets_other G no_n no_m =
      let X = instance G (name_term (constant_at A n)) in
      let is = exchanged G no_n no_m in
      let f = moved_by (cycle A (n ∷ m ∷ [])) in (
        (cycle A (n ∷ m ∷ []), table, ap forget (rename-erased f X ∙ ap erased is)),
        subst (λ k. MarksServe k (marks_of X)) (sym (marks_of-rename f X) ∙ ap marks_of is) (marks_serve (marks_of X)),
      )

-- what one constant makes of the name meets what another does, if neither stands in the scope
pub constants_meet : (A : Ty) (n m : ℕ) (G : Read) → (Contains (support G) (constant_at A n) → ⊥) → (Contains (support G) (constant_at A m) → ⊥)
    → Meets (instance G (name_term (constant_at A n))) (instance G (name_term (constant_at A m)))
constants_meet A n m G no_n no_m = go (n == m) refl
  where
    go : (b : Bool) → (n == m) ≡ b → Meets (instance G (name_term (constant_at A n))) (instance G (name_term (constant_at A m)))
    go true e = subst (λ k. Meets (instance G (name_term (constant_at A n))) (instance G (name_term (constant_at A k)))) ((unsigned_Decides n m).0 e) (meets_itself (instance G (name_term (constant_at A n))))
    go false e = meets_other A n m (λ same. false≢true (sym e ∙ (unsigned_Decides n m).1 same)) G no_n no_m
