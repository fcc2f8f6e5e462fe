-- How many logical constants the skeleton of a formula has. An instance by a variable or a constant has as many, and the
-- parts of a formula have fewer, so what takes formulas apart comes to its end.
use Rattle.std.specs.Prelude.{Option, Some, None, option_map}
use Rattle.std.proofs.Common.{◌≡◌, ℕ, zero, suc, ◌+◌, ◌≤◌, ◌<◌, List, [], ◌∷◌, map, refl, sym, ◌∙◌, ap, subst, arith}
use Rattle.ab_term.specs.Types.{Ty, kind, arrow}
use Rattle.ab_term.specs.Logical as plain
use Rattle.ab_term.specs.Logical.{Logical}
use Rattle.ab_term.specs.Terms.{Nominal, Head, constant, logical, nominal, variable, index, Term, lam, spine, Terms, no_terms, term, Read}
use Rattle.ab_term.specs.Substitution.{shift_index, lower_index, shift_head, lower_head, shift, shift_all, put, substitute_by, substitute_all_by, reduce, substitute, instance, instance_by_all}
use Rattle.ab_term.specs.Expansion.{expansion_of, expansion}
use Rattle.ab_formulas.specs.Forms.{Form, truth, falsity, both, either, implies, equal, for_all, exists, nabla, marked, other, form_alone, form_with, form_between, form_of, both_in, as_both, implies_in, as_implies, for_all_in, as_for_all, exists_in, as_exists, nabla_in, as_nabla}
use Rattle.ab_formulas.specs.Sequents.{Variable}
use Rattle.ab_theory.specs.Rules.{name_term, variable_term, applied}

abbrev counted_at : Head ℕ → ℕ → ℕ
counted_at (logical l) n = suc n
counted_at (constant c) n = zero
counted_at (nominal a) n = zero
counted_at (variable x) n = zero
counted_at (index i) n = zero

abbrev mutual
  pub connectives : Read → ℕ
  connectives (lam A x t) = connectives t
  connectives (spine h ts) = counted_at h (connectives_of ts)

  pub connectives_of : Terms ℕ (List ℕ) → ℕ
  connectives_of no_terms = zero
  connectives_of (term t ts) = connectives t + connectives_of ts

-- under its binders the term begins with a variable or a constant, whatever it is given
abbrev IsAtom : Head ℕ → Type 0
IsAtom (constant c) = Unit {0}
IsAtom (logical l) = ⊥
IsAtom (nominal a) = Unit {0}
IsAtom (variable x) = Unit {0}
IsAtom (index i) = ⊥

abbrev pub IsRigid : Read → Type 0
IsRigid (lam A x t) = IsRigid t
IsRigid (spine h ts) = IsAtom h

rigid_shift : (k : ℕ) (t : Read) → IsRigid t → IsRigid (shift k t)
rigid_shift k (lam A x t) r = rigid_shift (suc k) t r
rigid_shift k (spine (constant c) ts) r = tt
rigid_shift k (spine (logical l) ts) r = r
rigid_shift k (spine (nominal a) ts) r = tt
rigid_shift k (spine (variable x) ts) r = tt
rigid_shift k (spine (index i) ts) r = absurd r

none_in : (t : Read) → IsRigid t → connectives t ≡ 0
none_in (lam A x t) r = none_in t r
none_in (spine (constant c) ts) r = refl
none_in (spine (logical l) ts) r = absurd r
none_in (spine (nominal a) ts) r = refl
none_in (spine (variable x) ts) r = refl
none_in (spine (index i) ts) r = absurd r

abbrev Applies : Type 0
Applies = Read → Terms ℕ (List ℕ) → Read

rigid_substitute : (apply : Applies) (u : Read) (k : ℕ) (t : Read) → IsRigid t → IsRigid (substitute_by apply u k t)
rigid_substitute apply u k (lam A x t) r = rigid_substitute apply (shift zero u) (suc k) t r
rigid_substitute apply u k (spine (constant c) ts) r = tt
rigid_substitute apply u k (spine (logical l) ts) r = r
rigid_substitute apply u k (spine (nominal a) ts) r = tt
rigid_substitute apply u k (spine (variable x) ts) r = tt
rigid_substitute apply u k (spine (index i) ts) r = absurd r

rigid_reduce : (A : Ty) (u : Read) (ts : Terms ℕ (List ℕ)) → IsRigid u → IsRigid (reduce A u ts)
rigid_reduce (kind k) u ts r = r
rigid_reduce (arrow A B) (lam C x t) (term v vs) r = rigid_reduce B (substitute_by (reduce A) v zero t) vs (rigid_substitute (reduce A) v zero t r)
rigid_reduce (arrow A B) (lam C x t) no_terms r = r
rigid_reduce (arrow A B) (spine h ts) vs r = r

rigid_instance : (t u : Read) → IsRigid t → IsRigid (instance t u)
rigid_instance (lam A x t) u r = rigid_substitute (reduce A) u zero t r
rigid_instance (spine h ts) u r = r

rigid_instances : (us : List Read) (t : Read) → IsRigid t → IsRigid (instance_by_all t us)
rigid_instances [] t r = r
rigid_instances (u ∷ us) t r = rigid_instances us (instance t u) (rigid_instance t u r)

atom_shift : (h : Head ℕ) → IsAtom h → IsAtom (shift_head zero h)
atom_shift (constant c) a = tt
atom_shift (logical l) a = a
atom_shift (nominal b) a = tt
atom_shift (variable x) a = tt
atom_shift (index i) a = absurd a

rigid_expansion : (x : List ℕ) (A : Ty) (h : Head ℕ) (ts : Terms ℕ (List ℕ)) → IsAtom h → IsRigid (expansion_of x A h ts)
rigid_expansion x (kind k) h ts a = a
rigid_expansion x (arrow A B) h ts a = rigid_expansion x B (shift_head zero h) _ (atom_shift h a)

-- what new variables and nominal constants are put in for a bound name begins with them
pub rigid_applied : (x : Variable) (names : List Nominal) → IsRigid (applied x names)
rigid_applied x names = rigid_instances (map name_term names) (variable_term x) (rigid_expansion _ x.type _ no_terms tt)

pub rigid_name : (a : Nominal) → IsRigid (name_term a)
rigid_name a = rigid_expansion _ a.type _ no_terms tt

-- where all that is applied stays rigid, a substitution keeps the number
module _ (apply : Applies) (stays : (u : Read) (ts : Terms ℕ (List ℕ)) → IsRigid u → IsRigid (apply u ts)) where
  at_index : (u : Read) (o : Option ℕ) (ts : Terms ℕ (List ℕ)) → IsRigid u → connectives (put apply u (option_map index o) ts) ≡ 0
  at_index u None ts r = none_in (apply u ts) (stays u ts r)
  at_index u (Some i) ts r = refl

  mutual
    kept : (u : Read) (k : ℕ) (t : Read) → IsRigid u → connectives (substitute_by apply u k t) ≡ connectives t
    kept u k (lam A x t) r = kept (shift zero u) (suc k) t (rigid_shift zero u r)
    kept u k (spine (constant c) ts) r = refl
    kept u k (spine (logical l) ts) r = ap suc (kept_of u k ts r)
    kept u k (spine (nominal a) ts) r = refl
    kept u k (spine (variable x) ts) r = refl
    kept u k (spine (index i) ts) r = at_index u (lower_index k i) (substitute_all_by apply u k ts) r

    kept_of : (u : Read) (k : ℕ) (ts : Terms ℕ (List ℕ)) → IsRigid u → connectives_of (substitute_all_by apply u k ts) ≡ connectives_of ts
    kept_of u k no_terms r = refl
    kept_of u k (term t ts) r = let one = kept u k t r in let rest = kept_of u k ts r in cc

-- AN INSTANCE by a new variable or a nominal constant has as many
pub same_connectives : (t u : Read) → IsRigid u → connectives (instance t u) ≡ connectives t
same_connectives (lam A x t) u r = kept (reduce A) (rigid_reduce A) u zero t r
same_connectives (spine h ts) u r = refl

-- those of what a form names, and the outermost one
abbrev counted_in : Form → ℕ
counted_in (both A B) = suc (connectives A + connectives B)
counted_in (either A B) = suc (connectives A + connectives B)
counted_in (implies A B) = suc (connectives A + connectives B)
counted_in (for_all A t) = suc (connectives t)
counted_in (exists A t) = suc (connectives t)
counted_in (nabla A t) = suc (connectives t)
counted_in truth = zero
counted_in falsity = zero
counted_in (equal A t u) = zero
counted_in (marked m t) = zero
counted_in other = zero

alone : (l : Logical) → counted_in (form_alone l) ≤ 1
alone plain.truth = omega arith
alone plain.falsity = omega arith
alone _ = omega arith

with_one : (l : Logical) (t : Read) → counted_in (form_with l t) ≤ suc (connectives t)
with_one (plain.universal A) t = omega arith
with_one (plain.existential A) t = omega arith
with_one (plain.nabla A) t = omega arith
with_one (plain.star i) t = omega arith
with_one (plain.at_sign i) t = omega arith
with_one (plain.plus i) t = omega arith
with_one (plain.hash i) t = omega arith
with_one _ t = omega arith

between : (l : Logical) (t u : Read) → counted_in (form_between l t u) ≤ suc (connectives t + connectives u)
between plain.conjunction t u = omega arith
between plain.disjunction t u = omega arith
between plain.implication t u = omega arith
between (plain.equality A) t u = omega arith
between _ t u = omega arith

-- THE PARTS of a formula have fewer
pub counted_whole : (F : Read) → counted_in (form_of F) ≤ connectives F
counted_whole (lam A x t) = omega arith
counted_whole (spine (logical l) no_terms) = alone l
counted_whole (spine (logical l) (term t no_terms)) = let e = with_one l t in omega (arith, e)
counted_whole (spine (logical l) (term t (term u no_terms))) = let e = between l t u in omega (arith, e)
counted_whole (spine (logical l) (term t (term u (term v ts)))) = omega arith
counted_whole (spine (constant c) ts) = omega arith
counted_whole (spine (nominal a) ts) = omega arith
counted_whole (spine (variable x) ts) = omega arith
counted_whole (spine (index i) ts) = omega arith

pub fewer_both : (F A B : Read) → form_of F ≡ both A B → connectives A + connectives B < connectives F
fewer_both F A B e = let l : suc (connectives A + connectives B) ≤ connectives F = subst (λ f. counted_in f ≤ connectives F) e (counted_whole F) in omega (arith, l)

pub fewer_implies : (F A B : Read) → form_of F ≡ implies A B → connectives A + connectives B < connectives F
fewer_implies F A B e = let l : suc (connectives A + connectives B) ≤ connectives F = subst (λ f. counted_in f ≤ connectives F) e (counted_whole F) in omega (arith, l)

pub fewer_for_all : (F t : Read) (A : Ty) → form_of F ≡ for_all A t → connectives t < connectives F
fewer_for_all F t A e = let l : suc (connectives t) ≤ connectives F = subst (λ f. counted_in f ≤ connectives F) e (counted_whole F) in omega (arith, l)

pub fewer_exists : (F t : Read) (A : Ty) → form_of F ≡ exists A t → connectives t < connectives F
fewer_exists F t A e = let l : suc (connectives t) ≤ connectives F = subst (λ f. counted_in f ≤ connectives F) e (counted_whole F) in omega (arith, l)

pub fewer_nabla : (F t : Read) (A : Ty) → form_of F ≡ nabla A t → connectives t < connectives F
fewer_nabla F t A e = let l : suc (connectives t) ≤ connectives F = subst (λ f. counted_in f ≤ connectives F) e (counted_whole F) in omega (arith, l)

-- the form that parts come from

both_of : (f : Form) (A B : Read) → both_in f ≡ Some (A, B) → f ≡ both A B
both_of (both C D) A B e = let same : (C, D) ≡ (A, B) = cc in ap (λ (p : Read × Read). both p.0 p.1) same
both_of truth A B e = absurd (cc)
both_of falsity A B e = absurd (cc)
both_of (either C D) A B e = absurd (cc)
both_of (implies C D) A B e = absurd (cc)
both_of (equal T t u) A B e = absurd (cc)
both_of (for_all T t) A B e = absurd (cc)
both_of (exists T t) A B e = absurd (cc)
both_of (nabla T t) A B e = absurd (cc)
both_of (marked m t) A B e = absurd (cc)
both_of other A B e = absurd (cc)

pub both_is : (F A B : Read) → as_both F ≡ Some (A, B) → form_of F ≡ both A B
both_is F A B e = both_of (form_of F) A B e

for_all_of : (f : Form) (A : Ty) (t : Read) → for_all_in f ≡ Some (A, t) → f ≡ for_all A t
for_all_of (for_all B u) A t e = let same : (B, u) ≡ (A, t) = cc in ap (λ (p : Ty × Read). for_all p.0 p.1) same
for_all_of truth A t e = absurd (cc)
for_all_of falsity A t e = absurd (cc)
for_all_of (both C D) A t e = absurd (cc)
for_all_of (either C D) A t e = absurd (cc)
for_all_of (implies C D) A t e = absurd (cc)
for_all_of (equal T u v) A t e = absurd (cc)
for_all_of (exists B u) A t e = absurd (cc)
for_all_of (nabla B u) A t e = absurd (cc)
for_all_of (marked m u) A t e = absurd (cc)
for_all_of other A t e = absurd (cc)

pub for_all_is : (F : Read) (A : Ty) (t : Read) → as_for_all F ≡ Some (A, t) → form_of F ≡ for_all A t
for_all_is F A t e = for_all_of (form_of F) A t e

nabla_of : (f : Form) (A : Ty) (t : Read) → nabla_in f ≡ Some (A, t) → f ≡ nabla A t
nabla_of (nabla B u) A t e = let same : (B, u) ≡ (A, t) = cc in ap (λ (p : Ty × Read). nabla p.0 p.1) same
nabla_of truth A t e = absurd (cc)
nabla_of falsity A t e = absurd (cc)
nabla_of (both C D) A t e = absurd (cc)
nabla_of (either C D) A t e = absurd (cc)
nabla_of (implies C D) A t e = absurd (cc)
nabla_of (equal T u v) A t e = absurd (cc)
nabla_of (exists B u) A t e = absurd (cc)
nabla_of (for_all B u) A t e = absurd (cc)
nabla_of (marked m u) A t e = absurd (cc)
nabla_of other A t e = absurd (cc)

pub nabla_is : (F : Read) (A : Ty) (t : Read) → as_nabla F ≡ Some (A, t) → form_of F ≡ nabla A t
nabla_is F A t e = nabla_of (form_of F) A t e

exists_of : (f : Form) (A : Ty) (t : Read) → exists_in f ≡ Some (A, t) → f ≡ exists A t
exists_of (exists B u) A t e = let same : (B, u) ≡ (A, t) = cc in ap (λ (p : Ty × Read). exists p.0 p.1) same
exists_of truth A t e = absurd (cc)
exists_of falsity A t e = absurd (cc)
exists_of (both C D) A t e = absurd (cc)
exists_of (either C D) A t e = absurd (cc)
exists_of (implies C D) A t e = absurd (cc)
exists_of (equal T u v) A t e = absurd (cc)
exists_of (nabla B u) A t e = absurd (cc)
exists_of (for_all B u) A t e = absurd (cc)
exists_of (marked m u) A t e = absurd (cc)
exists_of other A t e = absurd (cc)

pub exists_is : (F : Read) (A : Ty) (t : Read) → as_exists F ≡ Some (A, t) → form_of F ≡ exists A t
exists_is F A t e = exists_of (form_of F) A t e

implies_of : (f : Form) (A B : Read) → implies_in f ≡ Some (A, B) → f ≡ implies A B
implies_of (implies C D) A B e = let same : (C, D) ≡ (A, B) = cc in ap (λ (p : Read × Read). implies p.0 p.1) same
implies_of truth A B e = absurd (cc)
implies_of falsity A B e = absurd (cc)
implies_of (both C D) A B e = absurd (cc)
implies_of (either C D) A B e = absurd (cc)
implies_of (equal T t u) A B e = absurd (cc)
implies_of (for_all T t) A B e = absurd (cc)
implies_of (exists T t) A B e = absurd (cc)
implies_of (nabla T t) A B e = absurd (cc)
implies_of (marked m t) A B e = absurd (cc)
implies_of other A B e = absurd (cc)

pub implies_is : (F A B : Read) → as_implies F ≡ Some (A, B) → form_of F ≡ implies A B
implies_is F A B e = implies_of (form_of F) A B e
