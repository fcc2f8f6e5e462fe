-- Marked bodies, with other nominal constants.
use Rattle.std.proofs.Common.{◌≡◌, ℕ, List, Bool, true, false, if◌then◌else◌, refl, ◌∙◌, ap}
use Rattle.ab_term.specs.Terms.{Nominal, Head, constant, logical, nominal, variable, index, lam, spine, Terms, no_terms, term, Read}
use Rattle.ab_term.specs.Names.{rename_head, rename, rename_all}
use Rattle.ab_formulas.specs.BodyMarks.{with_mark, is_one_of, marked_by, marked_in, all_marked_in}
use Rattle.ab_formulas.specs.Marks.{Sign, plain, star_of, at_of, plus_of, hash_of, Making, by_head, by_scope, by_parts, by_mark, making_of}

module _ (f : Nominal → Nominal) (ps : List (List ℕ)) (m : Sign) where
  pub mark_moved : (n : Sign) (t : Read) → with_mark n (rename f t) ≡ rename f (with_mark n t)
  mark_moved plain t = refl
  mark_moved (star_of i) t = refl
  mark_moved (at_of i) t = refl
  mark_moved (plus_of i) t = refl
  mark_moved (hash_of i) t = refl

  making_same : (h : Head ℕ) → making_of (rename_head f h) ≡ making_of h
  making_same (constant c) = refl
  making_same (logical l) = refl
  making_same (nominal a) = refl
  making_same (variable x) = refl
  making_same (index i) = refl

  one_same : (h : Head ℕ) → is_one_of ps (rename_head f h) ≡ is_one_of ps h
  one_same (constant c) = refl
  one_same (logical l) = refl
  one_same (nominal a) = refl
  one_same (variable x) = refl
  one_same (index i) = refl

  made_so : (k : Making) (h : Head ℕ) (ts us : Terms ℕ (List ℕ)) → marked_by k ps m (rename_head f h) (rename_all f ts) (rename_all f us) ≡ rename f (marked_by k ps m h ts us)
  made_so by_head h ts us = ap (λ b. if b then with_mark m (spine (rename_head f h) (rename_all f ts)) else spine (rename_head f h) (rename_all f ts)) (one_same h) ∙ go (is_one_of ps h)
    where
      go : (b : Bool) → (if b then with_mark m (spine (rename_head f h) (rename_all f ts)) else spine (rename_head f h) (rename_all f ts)) ≡ rename f (if b then with_mark m (spine h ts) else spine h ts)
      go true = mark_moved m (spine h ts)
      go false = refl
  made_so by_scope h ts us = refl
  made_so by_parts h ts us = refl
  made_so (by_mark n) h ts us = refl

  mutual
    pub marked_moved : (t : Read) → marked_in ps m (rename f t) ≡ rename f (marked_in ps m t)
    marked_moved (lam A x t) = ap (lam A x) (marked_moved t)
    marked_moved (spine h ts) =
        ap (λ k. marked_by k ps m (rename_head f h) (rename_all f ts) (all_marked_in ps m (rename_all f ts))) (making_same h)
        ∙ ap (marked_by (making_of h) ps m (rename_head f h) (rename_all f ts)) (all_marked_moved ts)
        ∙ made_so (making_of h) h ts (all_marked_in ps m ts)

    all_marked_moved : (ts : Terms ℕ (List ℕ)) → all_marked_in ps m (rename_all f ts) ≡ rename_all f (all_marked_in ps m ts)
    all_marked_moved no_terms = refl
    all_marked_moved (term t ts) = ap (λ v. term v (all_marked_in ps m (rename_all f ts))) (marked_moved t) ∙ ap (term (rename f (marked_in ps m t))) (all_marked_moved ts)
