-- FORMULAS WITH MORE `exists` IN FRONT, whose names stand nowhere: for each there is a term of its type.
use Rattle.std.proofs.Common.{◌≡◌, ℕ, zero, suc, List, [], ◌∷◌, length, Bool, true, false, Option, Some, None, refl, sym, ◌∙◌, ap, subst, arith}
use Rattle.std.specs.List.{list_any}
use Rattle.ab_term.specs.Types.{Ty}
use Rattle.ab_term.specs.Logical.{conjunction, existential, nabla, judgement, focused_judgement}
use Rattle.ab_term.specs.Terms.{constant, logical, nominal, variable, index, lam, spine, Terms, no_terms, term, Read}
use Rattle.ab_term.specs.Typing.{Signature, HasType}
use Rattle.ab_term.specs.Substitution.{shift, shift_all, substitute}
use Rattle.ab_term.specs.Translation.{forget}
use Rattle.ab_term.proofs.Shifts.{substitute_by-shift, shift-substitute_low, shift-reduce}
use Rattle.ab_term.proofs.Translations.{translate-shift}
use Rattle.ab_unifiers.specs.Replacements.{Cell}
use Rattle.ab_formulas.specs.Marks as signs
use Rattle.ab_formulas.specs.Marks.{Sign}
use Rattle.ab_formulas.specs.BodyMarks.{with_mark}
use Rattle.ab_search_trees.proofs.Forms.{begins_logical, one_more, no_more, abstraction}
use Rattle.ab_coverage.specs.VacuousNames.{stands}
use Rattle.ab_coverage.proofs.IndexedGoals.{for_some}
use Rattle.ab_coverage.proofs.IndexedInstances.{IsGuess}
use Rattle.ab_coverage.proofs.Filling.{closed_with, closed-outer, AllUnmoved}
use Rattle.ab_search_completeness.proofs.Names.{Fewer}
use Rattle.ab_search_completeness.proofs.Shapes.{masked}
use Rattle.ab_search_completeness.proofs.Values.{AllHold}
use Rattle.ab_search_completeness.proofs.Marked.{with_judgements, all_with_judgements}

-- THE FIRST IS THE SECOND but for `exists` in front whose names stand nowhere. P is said of a term for each.
pub data Fills (sg : Signature) (P : Read → Type 0) : Read → Read → Type 0 where
  as_it_is : {t : Read} → Fills sg P t t
  inside : {A : Ty} {x : List ℕ} {t u : Read} → Fills sg P t u → Fills sg P (for_some A x t) (for_some A x u)
  besides : {A : Ty} {x : List ℕ} {t u : Read} (v : Read) → HasType sg [] v A → P v → Fills sg P t u → Fills sg P (for_some A x (shift zero t)) u

module _ (sg : Signature) (P : Read → Type 0) where
  pub fills_under : (A : Ty) (v : Read) (k : ℕ) {t u : Read} → Fills sg P t u → Fills sg P (substitute A v k t) (substitute A v k u)
  fills_under A v k as_it_is = as_it_is
  fills_under A v k (inside n) = inside (fills_under A (shift zero v) (suc k) n)
  fills_under A v k (besides {A = C} {x = x} {t = t} {u = u} w d p n) =
      subst (λ z. Fills sg P (for_some C x z) (substitute A v k u)) (shift-substitute_low t _ v zero k (shift-reduce A) (omega arith)) (besides w d p (fills_under A v k n))

  fills_back : (t u : Read) → Fills sg P (shift zero t) (shift zero u) → (A : Ty) → Fills sg P t u
  fills_back t u n A =
      subst (λ w. Fills sg P w u) (substitute_by-shift t _ t zero) (subst (Fills sg P (substitute A t zero (shift zero t))) (substitute_by-shift u _ t zero) (fills_under A t zero n))

  -- MORE NAMES CLOSED, where they stand in no goal
  pub more_closed : (Gs : List Read) (A : Read) (t : Read) → ((k : ℕ) → list_any (stands k) Gs ≡ false → (w : Read) × (t ≡ shift k w)) → (xs ys : List Bool) (bs : List (Cell (List ℕ))) (vs : List (Option Read))
      → Fewer xs ys bs Gs A → IsGuess sg xs bs vs → AllHold P vs → AllUnmoved bs vs → AllUnmoved bs (masked ys vs) → Fills sg P (closed_with bs (masked ys vs) t) (closed_with bs vs t)
  more_closed Gs A t gone [] [] [] [] w g h m n = as_it_is
  more_closed Gs A t gone [] [] [] (v ∷ vs) w g h m n = absurd g
  more_closed Gs A t gone (true ∷ xs) (true ∷ ys) (b ∷ bs) (None ∷ vs) w g h m n = inside (more_closed Gs A t gone xs ys bs vs w.1 g h.1 m.1 n.1)
  more_closed Gs A t gone (true ∷ xs) (true ∷ ys) (b ∷ bs) (Some u ∷ vs) w g h m n = absurd g
  more_closed Gs A t gone (true ∷ xs) (true ∷ ys) (b ∷ bs) [] w g h m n = absurd g
  more_closed Gs A t gone (false ∷ xs) (false ∷ ys) (b ∷ bs) (Some u ∷ vs) w g h m n = fills_under b.type u zero (more_closed Gs A t gone xs ys bs vs w.1 g.1 h.1 m.1 n.1)
  more_closed Gs A t gone (false ∷ xs) (false ∷ ys) (b ∷ bs) (None ∷ vs) w g h m n = absurd g
  more_closed Gs A t gone (false ∷ xs) (false ∷ ys) (b ∷ bs) [] w g h m n = absurd g
  more_closed Gs A t gone (false ∷ xs) (true ∷ ys) (b ∷ bs) (Some u ∷ vs) w g h m n =
      let e = gone (length bs) w.0.0 in
      let ms = masked ys vs in
      let one : closed_with bs ms t ≡ shift zero (closed_with bs ms e.0) = ap (closed_with bs ms) e.1 ∙ closed-outer bs ms n.1 e.0 in
      let two : closed_with bs vs t ≡ shift zero (closed_with bs vs e.0) = ap (closed_with bs vs) e.1 ∙ closed-outer bs vs m.1 e.0 in
      let rest : Fills sg P (closed_with bs ms t) (closed_with bs vs t) = more_closed Gs A t gone xs ys bs vs w.1 g.1 h.1 m.1 n.1 in
      let inner : Fills sg P (shift zero (closed_with bs ms e.0)) (shift zero (closed_with bs vs e.0)) = subst (λ z. Fills sg P z (shift zero (closed_with bs vs e.0))) one (subst (Fills sg P (closed_with bs ms t)) two rest) in
      let back : Fills sg P (closed_with bs ms e.0) (closed_with bs vs e.0) = fills_back (closed_with bs ms e.0) (closed_with bs vs e.0) inner b.type in
      subst (λ z. Fills sg P (for_some b.type b.hint z) (substitute b.type u zero (closed_with bs vs t))) (sym one)
      (subst (Fills sg P (for_some b.type b.hint (shift zero (closed_with bs ms e.0)))) (sym (ap (substitute b.type u zero) two ∙ substitute_by-shift (closed_with bs vs e.0) _ u zero)) (besides u g.0 h.0 back))
  more_closed Gs A t gone (false ∷ xs) (true ∷ ys) (b ∷ bs) (None ∷ vs) w g h m n = absurd g
  more_closed Gs A t gone (false ∷ xs) (true ∷ ys) (b ∷ bs) [] w g h m n = absurd g
  more_closed Gs A t gone (true ∷ xs) (false ∷ ys) (b ∷ bs) vs w g h m n = absurd w.0
  more_closed Gs A t gone xs ys bs vs w g h m n = absurd w

  -- MARKS of judgements
  mark_shifted : (m : Sign) (k : ℕ) (t : Read) → with_mark m (shift k t) ≡ shift k (with_mark m t)
  mark_shifted signs.plain k t = refl
  mark_shifted (signs.star_of i) k t = refl
  mark_shifted (signs.at_of i) k t = refl
  mark_shifted (signs.plus_of i) k t = refl
  mark_shifted (signs.hash_of i) k t = refl

  mutual
    shifted_with : (m : Sign) (k : ℕ) (t : Read) → with_judgements m (shift k t) ≡ shift k (with_judgements m t)
    shifted_with m k (lam A x t) = ap (lam A x) (shifted_with m (suc k) t)
    shifted_with m k (spine (logical conjunction) ts) = ap (spine (logical conjunction)) (all_shifted_with m k ts)
    shifted_with m k (spine (logical (existential A)) ts) = ap (spine (logical (existential A))) (all_shifted_with m k ts)
    shifted_with m k (spine (logical (nabla A)) ts) = ap (spine (logical (nabla A))) (all_shifted_with m k ts)
    shifted_with m k (spine (logical judgement) ts) = mark_shifted m k (spine (logical judgement) ts)
    shifted_with m k (spine (logical focused_judgement) ts) = mark_shifted m k (spine (logical focused_judgement) ts)
    shifted_with m k (spine (logical l) ts) = refl
    shifted_with m k (spine (constant c) ts) = refl
    shifted_with m k (spine (nominal a) ts) = refl
    shifted_with m k (spine (variable y) ts) = refl
    shifted_with m k (spine (index i) ts) = refl

    all_shifted_with : (m : Sign) (k : ℕ) (ts : Terms ℕ (List ℕ)) → all_with_judgements m (shift_all k ts) ≡ shift_all k (all_with_judgements m ts)
    all_shifted_with m k no_terms = refl
    all_shifted_with m k (term t ts) = ap (λ u. term u (all_with_judgements m (shift_all k ts))) (shifted_with m k t) ∙ ap (term (shift k (with_judgements m t))) (all_shifted_with m k ts)

  pub fills_with : (m : Sign) {t u : Read} → Fills sg P t u → Fills sg P (with_judgements m t) (with_judgements m u)
  fills_with m as_it_is = as_it_is
  fills_with m (inside n) = inside (fills_with m n)
  fills_with m (besides {A = A} {x = x} {t = t} {u = u} v d p n) =
      subst (λ z. Fills sg P (for_some A x z) (with_judgements m u)) (sym (shifted_with m zero t)) (besides v d p (fills_with m n))

  -- OTHER HINTS
  pub fills_hints : {t u : Read} → Fills sg P t u → (w : Read) → forget u ≡ forget w → (s : Read) × Fills sg P s w × (forget s ≡ forget t)
  fills_hints as_it_is w e = (w, as_it_is, sym e)
  fills_hints (inside {A = A} {x = x} {t = t} {u = u} n) w e =
      let b = begins_logical (existential A) (term (lam A tt (forget u)) no_terms) w e in
      let r = one_more b.0 b.2 in
      let last : r.1 ≡ no_terms = no_more r.4 in
      let c = abstraction r.0 r.3 in
      let whole : w ≡ for_some A c.0 c.1 = b.1 ∙ ap (spine (logical (existential A))) (r.2 ∙ ap (term r.0) last ∙ ap (λ z. term z no_terms) c.2) in
      let k = fills_hints n c.1 c.3 in
      (for_some A c.0 k.0, subst (Fills sg P (for_some A c.0 k.0)) (sym whole) (inside k.1), ap (for_some A tt) k.2)
  fills_hints (besides {A = A} {x = x} {t = t} {u = u} v d p n) w e =
      let k = fills_hints n w e in (
        for_some A x (shift zero k.0),
        besides v d p k.1,
        ap (for_some A tt) (translate-shift (λ v. v) (λ h. tt) k.0 zero ∙ ap (shift zero) k.2 ∙ sym (translate-shift (λ v. v) (λ h. tt) t zero)),
      )

  -- what is said of the terms may be weaker
  pub fills_weaker : (Q : Read → Type 0) → ((v : Read) → P v → Q v) → {t u : Read} → Fills sg P t u → Fills sg Q t u
  fills_weaker Q f as_it_is = as_it_is
  fills_weaker Q f (inside n) = inside (fills_weaker Q f n)
  fills_weaker Q f (besides v d p n) = besides v d (f v p) (fills_weaker Q f n)
