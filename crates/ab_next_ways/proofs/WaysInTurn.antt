-- The ways by the hypotheses, one hypothesis after another.
use Rattle.std.specs.Prelude.{Contains, slice_get}
use Rattle.std.proofs.Common.{◌≡◌, inl, inr, ℕ, zero, suc, ◌+◌, List, [], ◌∷◌, ◌++◌, drop, cond, true, false, Option, Some, None, refl, sym, ◌∙◌, ap, subst, arith}
use Rattle.std.proofs.lemmas.List.{append_assoc}
use Rattle.std.proofs.lemmas.List.Elements.{Contains-append_right}
use Rattle.std.proofs.lemmas.Simd.{map-map}
use Rattle.ab_term.specs.Terms.{Read}
use Rattle.ab_term.specs.Names.{support, permute}
use Rattle.ab_term.proofs.Lists.{Contains-none, Contains-here, Contains-there, Contains-cases}
use Rattle.ab_unifiers.specs.Choices.{in_order, for_each}
use Rattle.ab_formulas.specs.Declarations.{Declarations}
use Rattle.ab_formulas.specs.Marks.{erased}
use Rattle.ab_search_trees.specs.Goals.{Goal, Now}
use Rattle.ab_search_trees.specs.Judgements.{is_blind}
use Rattle.ab_search_trees.specs.Maps.{mapping, targets}
use Rattle.ab_search_trees.specs.Ways.{equating, by_hypothesis}
use Rattle.ab_next_ways.specs.Cursors.{by_hypotheses_from, by_forms_from, unless_blind, by_maps}

-- the list behind the first so many, where there is one more or there isn't
drop_suc : {X : Type 0} (xs : List X) (i : ℕ) (x : X) → slice_get xs i ≡ Some x → drop i xs ≡ x ∷ drop (suc i) xs
drop_suc [] i x e = absurd (cc)
drop_suc (y ∷ ys) zero x e = let same : y ≡ x = cc in ap (λ z. z ∷ ys) same
drop_suc (y ∷ ys) (suc i) x e = drop_suc ys i x e

pub drop_one : {X : Type 0} (xs : List X) (i : ℕ) (x : X) → slice_get xs i ≡ Some x → drop i xs ≡ x ∷ drop (i + 1) xs
drop_one xs i x e = drop_suc xs i x e ∙ ap (λ n. x ∷ drop n xs) (let one : suc i ≡ i + 1 = omega arith in one)

pub drop_none : {X : Type 0} (xs : List X) (i : ℕ) → slice_get xs i ≡ None → drop i xs ≡ []
drop_none [] zero e = refl
drop_none [] (suc i) e = refl
drop_none (y ∷ ys) zero e = absurd (cc)
drop_none (y ∷ ys) (suc i) e = drop_none ys i e

-- the item behind
pub behind_is : {X : Type 0} (before after : List X) (x : X) (o : Option X) → ((i : ℕ) → slice_get (before ++ x ∷ after) i ≡ Some x → slice_get (before ++ x ∷ after) (suc i) ≡ o) → slice_get after 0 ≡ o
behind_is [] after x o next = next 0 refl
behind_is (y ∷ before) after x o next = behind_is before after x o (λ i e. next (suc i) e)

pub first_or_none : {X : Type 0} (xs : List X) → slice_get xs 0 ≡ None → xs ≡ []
first_or_none [] e = refl
first_or_none (x ∷ xs) e = absurd (cc)

pub first_and_rest : {X : Type 0} (xs : List X) (x : X) → slice_get xs 0 ≡ Some x → (rest : List X) × (xs ≡ x ∷ rest)
first_and_rest [] x e = absurd (cc)
first_and_rest (y ∷ ys) x e = let same : y ≡ x = cc in (ys, ap (λ z. z ∷ ys) same)

module _ (D : Declarations) (now : Now) (g : Goal) where
  pub hypothesis_next : (i : ℕ) (B : Read) → slice_get g.hypotheses i ≡ Some B → by_hypotheses_from D now g i ≡ by_hypothesis D now g B ++ by_hypotheses_from D now g (i + 1)
  hypothesis_next i B e =
      ap (λ l. for_each (by_hypothesis D now g) l ++ unless_blind D now g (by_forms_from D now g 0)) (drop_one g.hypotheses i B e)
      ∙ append_assoc (by_hypothesis D now g B) (for_each (by_hypothesis D now g) (drop (i + 1) g.hypotheses)) (unless_blind D now g (by_forms_from D now g 0))

  pub no_hypothesis : (i : ℕ) → slice_get g.hypotheses i ≡ None → by_hypotheses_from D now g i ≡ unless_blind D now g (by_forms_from D now g 0)
  no_hypothesis i e = ap (λ l. for_each (by_hypothesis D now g) l ++ unless_blind D now g (by_forms_from D now g 0)) (drop_none g.hypotheses i e)

  pub when_blind : (i : ℕ) → slice_get g.hypotheses i ≡ None → is_blind now.flexible g.conclusion ≡ true → by_hypotheses_from D now g i ≡ []
  when_blind i e b = no_hypothesis i e ∙ ap (λ t. cond t [] (by_forms_from D now g 0)) b

  pub when_seen : (i : ℕ) → slice_get g.hypotheses i ≡ None → is_blind now.flexible g.conclusion ≡ false → by_hypotheses_from D now g i ≡ by_forms_from D now g 0
  when_seen i e b = no_hypothesis i e ∙ ap (λ t. cond t [] (by_forms_from D now g 0)) b

  pub by_all_maps : (B : Read) → by_hypothesis D now g B ≡ by_maps D now g B (targets (in_order (support B)) g.constants)
  by_all_maps B = map-map (λ ps. equating D now g (permute ps (erased B)) (erased g.conclusion) ((g.conclusion, B) ∷ [])) (mapping (in_order (support B))) (targets (in_order (support B)) g.constants)

pub split_there : {X : Type 0} (xs : List X) (x : X) → Contains xs x → (before : List X) × (after : List X) × (xs ≡ before ++ x ∷ after)
split_there [] x m = absurd (Contains-none x m)
split_there (y ∷ ys) x m = elim (Contains-cases y ys x m) [
  | inl e ↦ ([], ys, ap (λ z. z ∷ ys) e)
  | inr k ↦ (let r = split_there ys x k in (y ∷ r.0, r.1, ap (λ l. y ∷ l) r.2))
]

pub there_behind : {X : Type 0} (before after : List X) (x y : X) → slice_get after 0 ≡ Some y → Contains (before ++ x ∷ after) y
there_behind before after x y e =
    let r = first_and_rest after y e in
    Contains-append_right before (x ∷ after) y (Contains-there x after y (subst (λ l. Contains l y) (sym r.1) (Contains-here y r.0)))
