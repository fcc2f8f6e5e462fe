-- Terms for variables, all at once, are the same as terms put in one after another under binders for these variables.
use Rattle.std.proofs.Common.{◌≡◌, ℕ, zero, suc, ◌≤◌, List, [], ◌∷◌, ◌++◌, map, Bool, true, false, cond, Option, Some, None, option_map, refl, sym, ◌∙◌, ap, subst, arith}
use Rattle.std.proofs.lemmas.Bool.{false≢true, false_from_ne_true}
use Rattle.ab_term.specs.Types.{Ty, kind, arrows}
use Rattle.ab_term.specs.Terms as tree
use Rattle.ab_term.specs.Terms.{Head, constant, logical, nominal, variable, index, lam, spine, Terms, term, Read}
use Rattle.ab_term.specs.Typing.{Signature, head_type, HasType, TakeType, typed_lam, typed_spine, take_none, take_term}
use Rattle.ab_term.specs.Substitution.{put, reduce, substitute, substitute_all, instance_by_all}
use Rattle.ab_term.specs.Reach.{reach}
use Rattle.ab_term.specs.Variables.{Substitution, put_for, put_at, image_by, image_all_by, value_in, image, IsTyped}
use Rattle.ab_term.specs.Sameness.{same_number, same_numbered}
use Rattle.ab_term.specs.Abstraction.{close, close_all}
use Rattle.ab_term.proofs.Closed.{closed_typed, closed_reach}
use Rattle.ab_term.proofs.Closing.{close_typed, close_all_typed}
use Rattle.ab_term.proofs.Commutation.{through}
use Rattle.ab_term.proofs.Compositions.{map_typed}
use Rattle.ab_term.proofs.Depends.{image_agrees, image_nothing}
use Rattle.ab_term.proofs.Expansions.{lower_index-same}
use Rattle.ab_term.proofs.Images.{IsTypedMap, image_all_by_typed}
use Rattle.ab_term.proofs.Preservation.{Insert, here, there}
use Rattle.ab_term.proofs.Reaching.{substitute_by-short, shift-short}
use Rattle.ab_term.proofs.Same.{same_numbered-Decides}
use Rattle.ab_term.proofs.Shifts.{lower_head-shift_head}
use Rattle.ab_unifiers.specs.Replacements.{holds}
use Rattle.ab_unifiers.specs.Unifiers.{AreDifferent}
use Rattle.ab_unifiers.specs.Clauses.{Each, put_together}
use Rattle.ab_unifiers.proofs.Rows.{value_behind}
use Rattle.ab_unifiers.proofs.Unifier.{append-none}
use Rattle.ab_formulas.specs.Sequents.{Variable, in_terms}
use Rattle.ab_judgement_forms.specs.DemandWalks.{under_variables}
use Rattle.std.proofs.lemmas.List.Elements.{All-cons, All-nil}

-- one more variable, whose term is put in for the binder that was made of it
module _ (sg : Signature) (f g : tree.Variable ℕ → Option Read) (f_typed : IsTypedMap sg f) (y : tree.Variable ℕ) (u : Read) (u_typed : HasType sg [] u y.type) (own : g y ≡ Some u)
    (others : (z : tree.Variable ℕ) → same_numbered z y ≡ false → g z ≡ f z) where
  other_put : (k : ℕ) (G H : List Ty) (z : tree.Variable ℕ) (r : Option Read) → f z ≡ r → (c : List ℕ) (xs zs : Terms ℕ (List ℕ)) → Insert k y.type G H → TakeType sg H xs z.type (kind c)
      → substitute_all y.type u k xs ≡ zs → substitute y.type u k (put_for z r xs) ≡ put_for z r zs
  other_put k G H z None e c xs zs p ds ih = ap (spine (variable z)) ih
  other_put k G H z (Some v) e c xs zs p ds ih =
      let small : reach v ≤ 0 = closed_reach sg (f_typed z v e) in
      through sg ℕ (List ℕ) z.type y.type k G H u v xs c p (closed_typed sg G u_typed) (closed_typed sg H (f_typed z v e)) ds
      ∙ ap (λ w. reduce z.type w (substitute_all y.type u k xs)) (substitute_by-short v (reduce y.type) u k (omega (arith, small)))
      ∙ ap (reduce z.type v) ih

  variable_put : (k : ℕ) (G H : List Ty) (z : tree.Variable ℕ) (c : List ℕ) (xs zs : Terms ℕ (List ℕ)) → Insert k y.type G H → TakeType sg H xs z.type (kind c) → substitute_all y.type u k xs ≡ zs
      → (b : Bool) → same_numbered z y ≡ b → substitute y.type u k (put_at f (cond b (index k) (variable z)) xs) ≡ put_for z (g z) zs
  variable_put k G H z c xs zs p ds ih true e =
      let same : z ≡ y = (same_numbered-Decides z y).0 e in
      ap (λ r. put (reduce y.type) u (option_map index r) (substitute_all y.type u k xs)) (lower_index-same k)
      ∙ ap (reduce y.type u) ih
      ∙ sym (ap (λ r. put_for y r zs) own)
      ∙ ap (λ w. put_for w (g w) zs) (sym same)
  variable_put k G H z c xs zs p ds ih false e = other_put k G H z (f z) refl c xs zs p ds ih ∙ ap (λ r. put_for z r zs) (sym (others z e))

  head_put : (k : ℕ) (G H : List Ty) (h : Head ℕ) (D : Ty) (c : List ℕ) (ts : Terms ℕ (List ℕ)) → Insert k y.type G H → head_type sg G h ≡ Some D → TakeType sg G ts D (kind c)
      → substitute_all y.type u k (image_all_by f (close_all k (variable y) ts)) ≡ image_all_by g ts → substitute y.type u k (image_by f (close k (variable y) (spine h ts))) ≡ image_by g (spine h ts)
  head_put k G H (constant b) D c ts p e ds ih = ap (spine (constant b)) ih
  head_put k G H (logical l) D c ts p e ds ih = ap (spine (logical l)) ih
  head_put k G H (nominal a) D c ts p e ds ih = ap (spine (nominal a)) ih
  head_put k G H (variable z) D c ts p e ds ih =
      let same : D ≡ z.type = cc in
      variable_put k G H z c (image_all_by f (close_all k (variable y) ts)) (image_all_by g ts) p
      (subst (λ E. TakeType sg H (image_all_by f (close_all k (variable y) ts)) E (kind c)) same (image_all_by_typed sg ℕ (List ℕ) f f_typed (close_all_typed sg (variable y) p refl ds)))
      ih (same_numbered z y) refl
  head_put k G H (index i) D c ts p e ds ih =
      ap (λ r. put (reduce y.type) u r (substitute_all y.type u k (image_all_by f (close_all k (variable y) ts)))) (lower_head-shift_head k (index i)) ∙ ap (spine (index i)) ih

  mutual
    binder_put : {G H : List Ty} {D : Ty} (k : ℕ) {t : Read} → Insert k y.type G H → HasType sg G t D → substitute y.type u k (image_by f (close k (variable y) t)) ≡ image_by g t
    binder_put k p (typed_lam {A = B} {x = w} {t = t} d) =
        let small : reach u ≤ 0 = closed_reach sg u_typed in
        ap (lam B w) (ap (λ v. substitute y.type v (suc k) (image_by f (close (suc k) (variable y) t))) (shift-short u zero small) ∙ binder_put (suc k) (there p) d)
    binder_put {G = G} {H = H} k p (typed_spine {A = D} {h = h} {ts = ts} {k = c} e ds) = head_put k G H h D c ts p e ds (all_binder_put k p ds)

    all_binder_put : {G H : List Ty} {D E : Ty} (k : ℕ) {ts : Terms ℕ (List ℕ)} → Insert k y.type G H → TakeType sg G ts D E → substitute_all y.type u k (image_all_by f (close_all k (variable y) ts)) ≡ image_all_by g ts
    all_binder_put k p take_none = refl
    all_binder_put k p (take_term {t = t} {ts = ts} d ds) =
        ap (λ s. term s (substitute_all y.type u k (image_all_by f (close_all k (variable y) ts)))) (binder_put k p d) ∙ ap (term (image_by g t)) (all_binder_put k p ds)

-- typed under the binders
pub under_typed : (sg : Signature) (ys : List Variable) {t : Read} {D : Ty} → HasType sg [] t D → HasType sg [] (under_variables ys t) (arrows (map (λ y. y.type) ys) D)
under_typed sg [] d = d
under_typed sg (y ∷ ys) d = typed_lam (close_typed sg (variable (in_terms y)) here refl (under_typed sg ys d))

-- a term for each variable, the last first
abbrev stacked : List Variable → List Read → Substitution ℕ (List ℕ) → Substitution ℕ (List ℕ)
stacked [] us s = s
stacked (y ∷ ys) [] s = s
stacked (y ∷ ys) (u ∷ us) s = stacked ys us ((in_terms y, u) ∷ s)

other_way : (y z : tree.Variable ℕ) → same_numbered z y ≡ false → same_numbered y z ≡ false
other_way y z e = false_from_ne_true (same_numbered y z) (λ t. let same : y ≡ z = (same_numbered-Decides y z).0 t in false≢true (sym e ∙ (same_numbered-Decides z y).1 (sym same)))

instances_put : (sg : Signature) (ys : List Variable) (us : List Read) (s : Substitution ℕ (List ℕ)) → IsTyped sg s → Each (λ (y : tree.Variable ℕ) t. HasType sg [] t y.type) (map in_terms ys) us → {t : Read} {D : Ty} → HasType sg [] t D
    → instance_by_all (image same_number s (under_variables ys t)) us ≡ image same_number (stacked ys us s) t
instances_put sg [] [] s typed each d = refl
instances_put sg [] (u ∷ us) s typed each d = absurd each
instances_put sg (y ∷ ys) [] s typed each d = absurd each
instances_put sg (y ∷ ys) (u ∷ us) s typed each {t = t} d =
    let z = in_terms y in
    let more = (z, u) ∷ s in
    let more_typed : IsTyped sg more = All-cons (λ p. HasType sg [] p.1 p.0.type) (z, u) s each.0 typed in
    ap (λ w. instance_by_all w us)
    (binder_put sg (value_in same_number s) (value_in same_number more) (map_typed sg same_number s typed) z u each.0
    (ap (λ b. cond b (Some u) (value_in same_number s z)) ((same_numbered-Decides z z).1 refl))
    (λ v e. ap (λ b. cond b (Some u) (value_in same_number s v)) (other_way z v e))
    zero here (under_typed sg ys d))
    ∙ instances_put sg ys us more more_typed each.1 d

value_skip : (P s : Substitution ℕ (List ℕ)) (y z : tree.Variable ℕ) (u : Read) → same_numbered y z ≡ false → value_in same_number (P ++ (y, u) ∷ s) z ≡ value_in same_number (P ++ s) z
value_skip [] s y z u e = ap (λ b. cond b (Some u) (value_in same_number s z)) e
value_skip (p ∷ P) s y z u e = ap (cond (same_numbered p.0 z) (Some p.1)) (value_skip P s y z u e)

stacked_value : (ys : List Variable) (us : List Read) (s : Substitution ℕ (List ℕ)) → AreDifferent (map in_terms ys) → (z : tree.Variable ℕ) → value_in same_number (stacked ys us s) z ≡ value_in same_number (put_together (map in_terms ys) us ++ s) z
stacked_value [] us s d z = refl
stacked_value (y ∷ ys) [] s d z = refl
stacked_value (y ∷ ys) (u ∷ us) s d z = stacked_value ys us ((in_terms y, u) ∷ s) d.1 z ∙ go (same_numbered (in_terms y) z) refl
  where
    go : (b : Bool) → same_numbered (in_terms y) z ≡ b
        → value_in same_number (put_together (map in_terms ys) us ++ (in_terms y, u) ∷ s) z ≡ cond b (Some u) (value_in same_number (put_together (map in_terms ys) us ++ s) z)
    go true e =
        let same : in_terms y ≡ z = (same_numbered-Decides (in_terms y) z).0 e in
        value_behind (map in_terms ys) us ((in_terms y, u) ∷ s) z (ap (holds (map in_terms ys)) (sym same) ∙ d.0)
        ∙ ap (λ b. cond b (Some u) (value_in same_number s z)) e
    go false e = value_skip (put_together (map in_terms ys) us) s (in_terms y) z u e

-- ALL AT ONCE
pub together_put : (sg : Signature) (ys : List Variable) (us : List Read) → AreDifferent (map in_terms ys) → Each (λ (y : tree.Variable ℕ) t. HasType sg [] t y.type) (map in_terms ys) us → {t : Read} {D : Ty} → HasType sg [] t D
    → image same_number (put_together (map in_terms ys) us) t ≡ instance_by_all (under_variables ys t) us
together_put sg ys us different each {t = t} d =
    let s = put_together (map in_terms ys) us in
    image_agrees (value_in same_number s) (value_in same_number (stacked ys us [])) t
    (λ z m. ap (λ r. value_in same_number r z) (sym (append-none s)) ∙ sym (stacked_value ys us [] different z))
    ∙ sym (instances_put sg ys us [] (All-nil (λ p. HasType sg [] p.1 p.0.type)) each d)
    ∙ ap (λ w. instance_by_all w us) (image_nothing (under_variables ys t))
