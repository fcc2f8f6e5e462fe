-- The marks of a body, with other numbers.
use Rattle.std.proofs.Common.{◌≡◌, ℕ, List, Bool, true, false, refl, sym, ◌∙◌, ap}
use Rattle.std.specs.Prelude.{if◌then◌else◌}
use Rattle.ab_term.specs.Terms.{Head, constant, logical, nominal, variable, index, lam, spine, Terms, no_terms, term, Read}
use Rattle.ab_term.specs.Translation.{translate_head, translate_all}
use Rattle.ab_formulas.specs.Marks.{Sign, plain, star_of, at_of, plus_of, hash_of, Making, by_head, by_scope, by_parts, by_mark, making_of}
use Rattle.ab_formulas.specs.BodyMarks.{with_mark, is_one_of, marked_by, marked_in, all_marked_in}
use Rattle.ab_unifiers.specs.Renumbering.{renumbered}

module _ (f : ℕ → ℕ) where
  abbrev Ts : Terms ℕ (List ℕ) → Terms ℕ (List ℕ)
  Ts = translate_all f (λ x. x)

  mark_moved : (m : Sign) (t : Read) → renumbered f (with_mark m t) ≡ with_mark m (renumbered f t)
  mark_moved plain t = refl
  mark_moved (star_of i) t = refl
  mark_moved (at_of i) t = refl
  mark_moved (plus_of i) t = refl
  mark_moved (hash_of i) t = refl

  making_same : (h : Head ℕ) → making_of (translate_head f h) ≡ making_of h
  making_same (constant c) = refl
  making_same (logical l) = refl
  making_same (nominal a) = refl
  making_same (variable x) = refl
  making_same (index i) = refl

  module _ (ps : List (List ℕ)) (m : Sign) where
    one_same : (h : Head ℕ) → is_one_of ps (translate_head f h) ≡ is_one_of ps h
    one_same (constant c) = refl
    one_same (logical l) = refl
    one_same (nominal a) = refl
    one_same (variable x) = refl
    one_same (index i) = refl

    by_moved : (k : Making) (h : Head ℕ) (ts us : Terms ℕ (List ℕ)) → renumbered f (marked_by k ps m h ts us) ≡ marked_by k ps m (translate_head f h) (Ts ts) (Ts us)
    by_moved by_head h ts us =
        go (is_one_of ps h)
        ∙ ap (λ b. if b then with_mark m (spine (translate_head f h) (Ts ts)) else spine (translate_head f h) (Ts ts)) (sym (one_same h))
      where
        go : (b : Bool) → renumbered f (if b then with_mark m (spine h ts) else spine h ts) ≡ (if b then with_mark m (spine (translate_head f h) (Ts ts)) else spine (translate_head f h) (Ts ts))
        go true = mark_moved m (spine h ts)
        go false = refl
    by_moved by_scope h ts us = refl
    by_moved by_parts h ts us = refl
    by_moved (by_mark n) h ts us = refl

    mutual
      pub marked_moved : (t : Read) → renumbered f (marked_in ps m t) ≡ marked_in ps m (renumbered f t)
      marked_moved (lam A x t) = ap (lam A x) (marked_moved t)
      marked_moved (spine h ts) =
          by_moved (making_of h) h ts (all_marked_in ps m ts)
          ∙ ap (marked_by (making_of h) ps m (translate_head f h) (Ts ts)) (all_marked_moved ts)
          ∙ ap (λ k. marked_by k ps m (translate_head f h) (Ts ts) (all_marked_in ps m (Ts ts))) (sym (making_same h))

      all_marked_moved : (ts : Terms ℕ (List ℕ)) → Ts (all_marked_in ps m ts) ≡ all_marked_in ps m (Ts ts)
      all_marked_moved no_terms = refl
      all_marked_moved (term t ts) = ap (λ u. term u (Ts (all_marked_in ps m ts))) (marked_moved t) ∙ ap (term (marked_in ps m (renumbered f t))) (all_marked_moved ts)
