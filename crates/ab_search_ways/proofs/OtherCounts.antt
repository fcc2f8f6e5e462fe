-- Constants that are given another number of terms.
use Rattle.std.proofs.Common.{◌≡◌, ◌≢◌, ℕ, List, [], ◌∷◌, map, length, slice_index_or, false, ◌||◌, None, refl, arith}
use Rattle.std.specs.List.{list_any}
use Rattle.ab_term.specs.Types.{Ty}
use Rattle.ab_term.specs.Logical.{judgement, focused_judgement, spec_universal, spec_implication, spec_conjunction, hash}
use Rattle.ab_term.specs.Terms.{Variable, logical, lam, spine, term, no_terms, terms_of, Read}
use Rattle.ab_search_trees.specs.Judgements.{layer_of, opened_once, hides_head, hides}
use Rattle.ab_theory.specs.Parts.{Part, parts_of}
use Rattle.ab_search_ways.specs.Blindness.{atoms_of, hashed}
use Rattle.ab_search_ways.proofs.SeenParts.{goal_same}

module _ {X : Type 0} (f : X → Read) where
  pub opened_by_two : (ts : List X) → length ts ≢ 2 → opened_once (spine (logical judgement) (terms_of (map f ts))) ≡ None
  opened_by_two [] e = refl
  opened_by_two (t ∷ []) e = refl
  opened_by_two (t ∷ u ∷ []) e = absurd (e refl)
  opened_by_two (t ∷ u ∷ v ∷ ts) e = refl

  pub with_two : (L : Read) (ts : List X) → length ts ≢ 2 → layer_of L (spine (logical spec_conjunction) (terms_of (map f ts))) ≡ None
  with_two L [] e = refl
  with_two L (t ∷ []) e = refl
  with_two L (t ∷ u ∷ []) e = absurd (e refl)
  with_two L (t ∷ u ∷ v ∷ ts) e = refl

  pub imply_two : (L : Read) (ts : List X) → length ts ≢ 2 → layer_of L (spine (logical spec_implication) (terms_of (map f ts))) ≡ None
  imply_two L [] e = refl
  imply_two L (t ∷ []) e = refl
  imply_two L (t ∷ u ∷ []) e = absurd (e refl)
  imply_two L (t ∷ u ∷ v ∷ ts) e = refl

  pub hides_by_two : (ys : List (Variable ℕ)) (ts : List X) → length ts ≢ 2 → hides ys (spine (logical judgement) (terms_of (map f ts))) ≡ false
  hides_by_two ys [] e = refl
  hides_by_two ys (t ∷ []) e = refl
  hides_by_two ys (t ∷ u ∷ []) e = absurd (e refl)
  hides_by_two ys (t ∷ u ∷ v ∷ ts) e = refl

  pub hides_by_three : (ys : List (Variable ℕ)) (ts : List X) → length ts ≢ 3 → hides ys (spine (logical focused_judgement) (terms_of (map f ts))) ≡ false
  hides_by_three ys [] e = refl
  hides_by_three ys (t ∷ []) e = refl
  hides_by_three ys (t ∷ u ∷ []) e = refl
  hides_by_three ys (t ∷ u ∷ v ∷ []) e = absurd (e refl)
  hides_by_three ys (t ∷ u ∷ v ∷ w ∷ ts) e = refl

  pub hashed_by_one : (i : ℕ) (ts : List X) → length ts ≢ 1 → hashed (spine (logical (hash i)) (terms_of (map f ts))) ≡ None
  hashed_by_one i [] e = refl
  hashed_by_one i (t ∷ []) e = absurd (e refl)
  hashed_by_one i (t ∷ u ∷ ts) e = refl

  pub atom_by_with : (ts : List X) → length ts ≢ 2 → let F = spine (logical spec_conjunction) (terms_of (map f ts)) in atoms_of F ≡ F ∷ []
  atom_by_with [] e = refl
  atom_by_with (t ∷ []) e = refl
  atom_by_with (t ∷ u ∷ []) e = absurd (e refl)
  atom_by_with (t ∷ u ∷ v ∷ ts) e = refl

  pub atom_by_imply : (ts : List X) → length ts ≢ 2 → let F = spine (logical spec_implication) (terms_of (map f ts)) in atoms_of F ≡ F ∷ []
  atom_by_imply [] e = refl
  atom_by_imply (t ∷ []) e = refl
  atom_by_imply (t ∷ u ∷ []) e = absurd (e refl)
  atom_by_imply (t ∷ u ∷ v ∷ ts) e = refl

  pub atom_by_pi : (A : Ty) (ts : List X) → length ts ≢ 1 → let F = spine (logical (spec_universal A)) (terms_of (map f ts)) in atoms_of F ≡ F ∷ []
  atom_by_pi A [] e = refl
  atom_by_pi A (t ∷ []) e = absurd (e refl)
  atom_by_pi A (t ∷ u ∷ ts) e = more (f t)
    where
      more : (r : Read) → let F = spine (logical (spec_universal A)) (terms_of (r ∷ map f (u ∷ ts))) in atoms_of F ≡ F ∷ []
      more (lam B x G) = refl
      more (spine h us) = refl

  pub pi_one : (L : Read) (A : Ty) (ts : List X) → length ts ≢ 1 → layer_of L (spine (logical (spec_universal A)) (terms_of (map f ts))) ≡ None
  pi_one L A [] e = refl
  pi_one L A (t ∷ []) e = absurd (e refl)
  pi_one L A (t ∷ u ∷ ts) e = more (f t)
    where
      more : (r : Read) → layer_of L (spine (logical (spec_universal A)) (terms_of (r ∷ map f (u ∷ ts)))) ≡ None
      more (lam B x G) = refl
      more (spine h us) = refl

  -- and those that are given as many
  pub imply_atoms : (d : X) (ts : List X) → length ts ≡ 2 → atoms_of (spine (logical spec_implication) (terms_of (map f ts))) ≡ atoms_of (f (slice_index_or ts 1 d))
  imply_atoms d [] e = absurd (cc)
  imply_atoms d (t ∷ []) e = absurd (cc)
  imply_atoms d (t ∷ u ∷ []) e = goal_same (f t) (parts_of (f u))
  imply_atoms d (t ∷ u ∷ v ∷ ts) e = absurd (omega (arith, e))

  pub one_term : (d : X) (ts : List X) → length ts ≡ 1 → terms_of (map f ts) ≡ term (f (slice_index_or ts 0 d)) no_terms
  one_term d [] e = absurd (cc)
  one_term d (t ∷ []) e = refl
  one_term d (t ∷ u ∷ ts) e = absurd (omega (arith, e))

  pub judged_two : (ys : List (Variable ℕ)) (d : X) (ts : List X) → length ts ≡ 2 → hides_head ys (f (slice_index_or ts 1 d)) ≡ hides ys (spine (logical judgement) (terms_of (map f ts)))
  judged_two ys d [] e = absurd (cc)
  judged_two ys d (t ∷ []) e = absurd (cc)
  judged_two ys d (t ∷ u ∷ []) e = refl
  judged_two ys d (t ∷ u ∷ v ∷ ts) e = absurd (omega (arith, e))

  pub focused_three : (ys : List (Variable ℕ)) (d : X) (ts : List X) → length ts ≡ 3
      → (list_any (λ (p : Part). hides_head ys p.atom) (parts_of (f (slice_index_or ts 1 d))) || hides_head ys (f (slice_index_or ts 2 d))) ≡ hides ys (spine (logical focused_judgement) (terms_of (map f ts)))
  focused_three ys d [] e = absurd (cc)
  focused_three ys d (t ∷ []) e = absurd (cc)
  focused_three ys d (t ∷ u ∷ []) e = absurd (cc)
  focused_three ys d (t ∷ u ∷ v ∷ []) e = refl
  focused_three ys d (t ∷ u ∷ v ∷ w ∷ ts) e = absurd (omega (arith, e))
