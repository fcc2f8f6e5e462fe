-- A hypothesis whose head is another than the conclusion's is apart from it by every map.
use Rattle.std.proofs.Common.{◌≡◌, ℕ, List, [], ◌∷◌, Bool, true, false, not, Option, Some, None, refl, sym, subst}
use Rattle.std.specs.Prelude.{Contains, codes}
use Rattle.std.proofs.lemmas.Bool.{false≢true}
use Rattle.ab_term.specs.Terms.{Nominal, Variable, Head, constant, logical, nominal, variable, index, lam, spine, Read}
use Rattle.ab_term.specs.Names.{support, permute}
use Rattle.ab_term.specs.Sameness.{same_head}
use Rattle.ab_term.proofs.Lists.{Contains-from_map}
use Rattle.ab_unifiers.specs.Replacements.{Cell}
use Rattle.ab_unifiers.specs.Choices.{in_order}
use Rattle.ab_unifiers.specs.Unification.{apart, Solves, at_end}
use Rattle.ab_unifiers.specs.Unifiers.{given}
use Rattle.ab_formulas.specs.Declarations.{Declarations}
use Rattle.ab_formulas.specs.Marks.{erased}
use Rattle.ab_search_trees.specs.Goals.{Goal, Now}
use Rattle.ab_search_trees.specs.Maps.{maps}
use Rattle.ab_search_trees.specs.Ways.{Way, equating, by_hypothesis}
use Rattle.ab_search_trees.specs.Tree.{problem_of}
use Rattle.ab_search_ways.specs.RigidHeads.{rigid_head, differ, have_different_heads}

not_same : (b : Bool) → not b ≡ true → b ≡ false
not_same true e = absurd (cc)
not_same false e = refl

-- two terms with such heads
heads_clash : (cells : List (Cell (List ℕ))) (ys : List (Variable ℕ)) (p : ℕ) (t u : Read) → differ (rigid_head t) (rigid_head u) ≡ true
    → Solves (codes "x") (given (record { place = p; left = t; right = u } ∷ []) cells ys) apart
heads_clash cells ys p (spine (constant c) ts) (spine (constant d) us) e = at_end (rw (not_same (same_head (constant c) (constant d)) e) refl)
heads_clash cells ys p (spine (constant c) ts) (spine (logical m) us) e = at_end refl
heads_clash cells ys p (spine (logical l) ts) (spine (constant d) us) e = at_end refl
heads_clash cells ys p (spine (logical l) ts) (spine (logical m) us) e = at_end (rw (not_same (same_head (logical l) (logical m)) e) refl)
heads_clash cells ys p (spine (constant c) ts) (spine (nominal a) us) e = absurd (false≢true e)
heads_clash cells ys p (spine (constant c) ts) (spine (variable y) us) e = absurd (false≢true e)
heads_clash cells ys p (spine (constant c) ts) (spine (index i) us) e = absurd (false≢true e)
heads_clash cells ys p (spine (constant c) ts) (lam A x u) e = absurd (false≢true e)
heads_clash cells ys p (spine (logical l) ts) (spine (nominal a) us) e = absurd (false≢true e)
heads_clash cells ys p (spine (logical l) ts) (spine (variable y) us) e = absurd (false≢true e)
heads_clash cells ys p (spine (logical l) ts) (spine (index i) us) e = absurd (false≢true e)
heads_clash cells ys p (spine (logical l) ts) (lam A x u) e = absurd (false≢true e)
heads_clash cells ys p (spine (nominal a) ts) u e = absurd (false≢true e)
heads_clash cells ys p (spine (variable y) ts) u e = absurd (false≢true e)
heads_clash cells ys p (spine (index i) ts) u e = absurd (false≢true e)
heads_clash cells ys p (lam A x t) u e = absurd (false≢true e)

-- constants stay under a map
head_stays : (ps : List (Nominal × Nominal)) (t : Read) (h : Head ℕ) → rigid_head t ≡ Some h → rigid_head (permute ps t) ≡ Some h
head_stays ps (spine (constant c) ts) h e = e
head_stays ps (spine (logical l) ts) h e = e
head_stays ps (spine (nominal a) ts) h e = absurd (cc)
head_stays ps (spine (variable y) ts) h e = absurd (cc)
head_stays ps (spine (index i) ts) h e = absurd (cc)
head_stays ps (lam A x t) h e = absurd (cc)

still_differ : (ps : List (Nominal × Nominal)) (t u : Read) → differ (rigid_head t) (rigid_head u) ≡ true → differ (rigid_head (permute ps t)) (rigid_head u) ≡ true
still_differ ps t u e = go (rigid_head t) refl
  where
    go : (o : Option (Head ℕ)) → rigid_head t ≡ o → differ (rigid_head (permute ps t)) (rigid_head u) ≡ true
    go None q = let bad : differ None (rigid_head u) ≡ true = subst (λ k. differ k (rigid_head u) ≡ true) q e in absurd (cc)
    go (Some h) q = subst (λ k. differ k (rigid_head u) ≡ true) (sym (head_stays ps t h q)) (subst (λ k. differ k (rigid_head u) ≡ true) q e)

pub all_apart : (D : Declarations) (now : Now) (g : Goal) (B : Read) (w : Way) → have_different_heads B g.conclusion ≡ true → Contains (by_hypothesis D now g B) w → Solves (codes "x") (problem_of w) apart
all_apart D now g B w e m =
    let found = Contains-from_map (λ ps. equating D now g (permute ps (erased B)) (erased g.conclusion) ((g.conclusion, B) ∷ [])) (maps (in_order (support B)) g.constants) w m in
    subst (λ k. Solves (codes "x") (problem_of k) apart) found.2
    (heads_clash now.cells now.flexible 0 (permute found.0 (erased B)) (erased g.conclusion) (still_differ found.0 (erased B) (erased g.conclusion) e))
