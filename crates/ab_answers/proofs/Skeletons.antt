-- An instance of a formula by a variable or a constant has as many connectives and quantifiers, and the parts of a formula have
-- fewer; so what takes formulas apart comes to its end.
use Rattle.std.specs.Prelude.{Option, Some, None, option_map}
use Rattle.std.proofs.Common.{◌≡◌, ℕ, zero, suc, ◌+◌, ◌≤◌, ◌<◌, List, [], ◌∷◌, map, refl, ap, subst, arith}
use Rattle.ab_term.specs.Types.{Ty, kind, arrow}
use Rattle.ab_term.specs.Logical as plain
use Rattle.ab_term.specs.Logical.{Logical}
use Rattle.ab_term.specs.Terms.{Nominal, Head, constant, logical, nominal, variable, index, lam, spine, Terms, no_terms, term, Read}
use Rattle.ab_term.specs.Substitution.{lower_index, shift_head, shift, put, substitute_by, substitute_all_by, reduce, instance, instance_by_all}
use Rattle.ab_term.specs.Expansion.{expansion_of}
use Rattle.ab_formulas.specs.Forms.{Form, truth, falsity, both, either, implies, equal, for_all, exists, nabla, marked, other, form_alone, form_with, form_between, form_of}
use Rattle.ab_formulas.specs.Sequents.{Variable}
use Rattle.ab_formulas.specs.Formulas.{places_of}
use Rattle.ab_theory.specs.Rules.{name_term, variable_term, applied}
use Rattle.ab_answers.specs.Skeletons.{counted, skeleton, skeletons}

-- under its binders the term begins with a variable or a constant, whatever it is given
abbrev IsAtom : Head ℕ → Type 0
IsAtom (constant c) = Unit {0}
IsAtom (logical l) = ⊥
IsAtom (nominal a) = Unit {0}
IsAtom (variable x) = Unit {0}
IsAtom (index i) = ⊥

abbrev pub IsRigid : Read → Type 0
IsRigid (lam A x t) = IsRigid t
IsRigid (spine h ts) = IsAtom h

rigid_shift : (k : ℕ) (t : Read) → IsRigid t → IsRigid (shift k t)
rigid_shift k (lam A x t) r = rigid_shift (suc k) t r
rigid_shift k (spine (constant c) ts) r = tt
rigid_shift k (spine (logical l) ts) r = r
rigid_shift k (spine (nominal a) ts) r = tt
rigid_shift k (spine (variable x) ts) r = tt
rigid_shift k (spine (index i) ts) r = absurd r

none_in : (t : Read) → IsRigid t → skeleton t ≡ 0
none_in (lam A x t) r = none_in t r
none_in (spine (constant c) ts) r = refl
none_in (spine (logical l) ts) r = absurd r
none_in (spine (nominal a) ts) r = refl
none_in (spine (variable x) ts) r = refl
none_in (spine (index i) ts) r = absurd r

abbrev Applies : Type 0
Applies = Read → Terms ℕ (List ℕ) → Read

rigid_substitute : (apply : Applies) (u : Read) (k : ℕ) (t : Read) → IsRigid t → IsRigid (substitute_by apply u k t)
rigid_substitute apply u k (lam A x t) r = rigid_substitute apply (shift zero u) (suc k) t r
rigid_substitute apply u k (spine (constant c) ts) r = tt
rigid_substitute apply u k (spine (logical l) ts) r = r
rigid_substitute apply u k (spine (nominal a) ts) r = tt
rigid_substitute apply u k (spine (variable x) ts) r = tt
rigid_substitute apply u k (spine (index i) ts) r = absurd r

rigid_reduce : (A : Ty) (u : Read) (ts : Terms ℕ (List ℕ)) → IsRigid u → IsRigid (reduce A u ts)
rigid_reduce (kind k) u ts r = r
rigid_reduce (arrow A B) (lam C x t) (term v vs) r = rigid_reduce B (substitute_by (reduce A) v zero t) vs (rigid_substitute (reduce A) v zero t r)
rigid_reduce (arrow A B) (lam C x t) no_terms r = r
rigid_reduce (arrow A B) (spine h ts) vs r = r

rigid_instance : (t u : Read) → IsRigid t → IsRigid (instance t u)
rigid_instance (lam A x t) u r = rigid_substitute (reduce A) u zero t r
rigid_instance (spine h ts) u r = r

rigid_instances : (us : List Read) (t : Read) → IsRigid t → IsRigid (instance_by_all t us)
rigid_instances [] t r = r
rigid_instances (u ∷ us) t r = rigid_instances us (instance t u) (rigid_instance t u r)

atom_shift : (h : Head ℕ) → IsAtom h → IsAtom (shift_head zero h)
atom_shift (constant c) a = tt
atom_shift (logical l) a = a
atom_shift (nominal b) a = tt
atom_shift (variable x) a = tt
atom_shift (index i) a = absurd a

rigid_expansion : (x : List ℕ) (A : Ty) (h : Head ℕ) (ts : Terms ℕ (List ℕ)) → IsAtom h → IsRigid (expansion_of x A h ts)
rigid_expansion x (kind k) h ts a = a
rigid_expansion x (arrow A B) h ts a = rigid_expansion x B (shift_head zero h) _ (atom_shift h a)

-- what new variables and nominal constants are put in for a bound name begins with them
pub rigid_applied : (x : Variable) (names : List Nominal) → IsRigid (applied x names)
rigid_applied x names = rigid_instances (map name_term names) (variable_term x) (rigid_expansion _ x.type _ no_terms tt)

pub rigid_name : (a : Nominal) → IsRigid (name_term a)
rigid_name a = rigid_expansion _ a.type _ no_terms tt

-- where all that is applied stays rigid, a substitution keeps the number
module _ (apply : Applies) (stays : (u : Read) (ts : Terms ℕ (List ℕ)) → IsRigid u → IsRigid (apply u ts)) where
  at_index : (u : Read) (o : Option ℕ) (ts : Terms ℕ (List ℕ)) → IsRigid u → skeleton (put apply u (option_map index o) ts) ≡ 0
  at_index u None ts r = none_in (apply u ts) (stays u ts r)
  at_index u (Some i) ts r = refl

  mutual
    kept : (u : Read) (k : ℕ) (t : Read) → IsRigid u → skeleton (substitute_by apply u k t) ≡ skeleton t
    kept u k (lam A x t) r = kept (shift zero u) (suc k) t (rigid_shift zero u r)
    kept u k (spine (constant c) ts) r = refl
    kept u k (spine (logical l) ts) r = ap (counted (places_of (logical l))) (kept_of u k ts r)
    kept u k (spine (nominal a) ts) r = refl
    kept u k (spine (variable x) ts) r = refl
    kept u k (spine (index i) ts) r = at_index u (lower_index k i) (substitute_all_by apply u k ts) r

    kept_of : (u : Read) (k : ℕ) (ts : Terms ℕ (List ℕ)) → IsRigid u → skeletons (substitute_all_by apply u k ts) ≡ skeletons ts
    kept_of u k no_terms r = refl
    kept_of u k (term t ts) r = let one = kept u k t r in let rest = kept_of u k ts r in cc

-- AN INSTANCE by a new variable or a nominal constant has as many
pub same_skeleton : (t u : Read) → IsRigid u → skeleton (instance t u) ≡ skeleton t
same_skeleton (lam A x t) u r = kept (reduce A) (rigid_reduce A) u zero t r
same_skeleton (spine h ts) u r = refl

-- those of what a form names, and the outermost one
abbrev counted_in : Form → ℕ
counted_in (both A B) = suc (skeleton A + skeleton B)
counted_in (either A B) = suc (skeleton A + skeleton B)
counted_in (implies A B) = suc (skeleton A + skeleton B)
counted_in (for_all A t) = suc (skeleton t)
counted_in (exists A t) = suc (skeleton t)
counted_in (nabla A t) = suc (skeleton t)
counted_in truth = zero
counted_in falsity = zero
counted_in (equal A t u) = zero
counted_in (marked m t) = zero
counted_in other = zero

alone : (l : Logical) → counted_in (form_alone l) ≤ skeleton (spine (logical l) no_terms)
alone plain.truth = omega arith
alone plain.falsity = omega arith
alone _ = omega arith

with_one : (l : Logical) (t : Read) → counted_in (form_with l t) ≤ skeleton (spine (logical l) (term t no_terms))
with_one (plain.universal A) t = omega arith
with_one (plain.existential A) t = omega arith
with_one (plain.nabla A) t = omega arith
with_one (plain.star i) t = omega arith
with_one (plain.at_sign i) t = omega arith
with_one (plain.plus i) t = omega arith
with_one (plain.hash i) t = omega arith
with_one _ t = omega arith

between : (l : Logical) (t u : Read) → counted_in (form_between l t u) ≤ skeleton (spine (logical l) (term t (term u no_terms)))
between plain.conjunction t u = omega arith
between plain.disjunction t u = omega arith
between plain.implication t u = omega arith
between (plain.equality A) t u = omega arith
between _ t u = omega arith

-- THE PARTS of a formula have fewer
pub counted_whole : (F : Read) → counted_in (form_of F) ≤ skeleton F
counted_whole (lam A x t) = omega arith
counted_whole (spine (logical l) no_terms) = alone l
counted_whole (spine (logical l) (term t no_terms)) = with_one l t
counted_whole (spine (logical l) (term t (term u no_terms))) = between l t u
counted_whole (spine (logical l) (term t (term u (term v ts)))) = omega arith
counted_whole (spine (constant c) ts) = omega arith
counted_whole (spine (nominal a) ts) = omega arith
counted_whole (spine (variable x) ts) = omega arith
counted_whole (spine (index i) ts) = omega arith

pub fewer_both : (F A B : Read) → form_of F ≡ both A B → skeleton A + skeleton B < skeleton F
fewer_both F A B e = let l : suc (skeleton A + skeleton B) ≤ skeleton F = subst (λ f. counted_in f ≤ skeleton F) e (counted_whole F) in omega (arith, l)

pub fewer_implies : (F A B : Read) → form_of F ≡ implies A B → skeleton A + skeleton B < skeleton F
fewer_implies F A B e = let l : suc (skeleton A + skeleton B) ≤ skeleton F = subst (λ f. counted_in f ≤ skeleton F) e (counted_whole F) in omega (arith, l)

pub fewer_for_all : (F t : Read) (A : Ty) → form_of F ≡ for_all A t → skeleton t < skeleton F
fewer_for_all F t A e = let l : suc (skeleton t) ≤ skeleton F = subst (λ f. counted_in f ≤ skeleton F) e (counted_whole F) in omega (arith, l)

pub fewer_exists : (F t : Read) (A : Ty) → form_of F ≡ exists A t → skeleton t < skeleton F
fewer_exists F t A e = let l : suc (skeleton t) ≤ skeleton F = subst (λ f. counted_in f ≤ skeleton F) e (counted_whole F) in omega (arith, l)

pub fewer_nabla : (F t : Read) (A : Ty) → form_of F ≡ nabla A t → skeleton t < skeleton F
fewer_nabla F t A e = let l : suc (skeleton t) ≤ skeleton F = subst (λ f. counted_in f ≤ skeleton F) e (counted_whole F) in omega (arith, l)
