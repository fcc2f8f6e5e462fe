-- WHAT DIFFERS ONLY IN NAMES, or is closed over some, has no judgement that is marked `#`, where there was none; nor does a mark of another kind make one.
use Rattle.std.proofs.Common.{◌≡◌, ℕ, zero, suc, List, [], ◌∷◌, Bool, true, false, cond, refl, subst}
use Rattle.ab_term.specs.Logical as plain
use Rattle.ab_term.specs.Logical.{Logical}
use Rattle.ab_term.specs.Terms.{Nominal, Head, constant, logical, nominal, variable, index, lam, spine, Terms, no_terms, term, Read}
use Rattle.ab_term.specs.Abstraction.{close_head, close, close_all}
use Rattle.ab_term.specs.Names.{rename_head, rename, rename_all}
use Rattle.ab_term.specs.Substitution.{shift_head}
use Rattle.ab_term.specs.Sameness.{same_head}
use Rattle.ab_unifiers.specs.Replacements.{Cell}
use Rattle.ab_formulas.specs.Marks as signs
use Rattle.ab_formulas.specs.Marks.{Sign, star_of, at_of, plus_of, hash_of, at_judgement, marked}
use Rattle.ab_formulas.specs.Sequents.{Variable, in_terms}
use Rattle.ab_theory.specs.Unfolding.{exists_all, nabla_all}
use Rattle.ab_search_answers.specs.Unmarked.{HoldNoHash, HasNoHash}

-- a mark that isn't `#`
abbrev pub IsNoHash : Sign → Type 0
IsNoHash (hash_of i) = ⊥
IsNoHash _ = Unit {0}

pub judgement_none : (m : Sign) → IsNoHash m → HoldNoHash (at_judgement m)
judgement_none signs.plain is = tt
judgement_none (star_of i) is = tt
judgement_none (at_of i) is = tt
judgement_none (plus_of i) is = tt
judgement_none (hash_of i) is = absurd is

-- whatever it stands on
pub mark_none : (m : Sign) → IsNoHash m → (t : Read) → HoldNoHash (marked m t)
mark_none m is (lam A x t) = tt
mark_none m is (spine (logical plain.judgement) ts) = judgement_none m is
mark_none m is (spine (logical plain.focused_judgement) ts) = judgement_none m is
mark_none m is (spine h ts) = tt

-- OTHER NAMES: in the place of a name any name, and of a head of another kind a bound name

abbrev IsLike : Head ℕ → Head ℕ → Type 0
IsLike g (index k) = Unit {0}
IsLike (constant c) (constant d) = Unit {0}
IsLike (nominal a) (nominal b) = Unit {0}
IsLike (variable y) (variable z) = Unit {0}
IsLike (logical l) (logical k) = l ≡ k
IsLike _ _ = ⊥

abbrev mutual
  AreLike : Read → Read → Type 0
  AreLike (lam A x t) (lam B y u) = AreLike t u
  AreLike (spine g ts) (spine h us) = IsLike g h × AllLike ts us
  AreLike _ _ = ⊥

  AllLike : Terms ℕ (List ℕ) → Terms ℕ (List ℕ) → Type 0
  AllLike no_terms no_terms = Unit {0}
  AllLike (term t ts) (term u us) = AreLike t u × AllLike ts us
  AllLike _ _ = ⊥

hash_like : (i : ℕ) (t u : Read) → AreLike t u → HoldNoHash (marked (hash_of i) t) → HoldNoHash (marked (hash_of i) u)
hash_like i t (lam B y u) a n = tt
hash_like i t (spine (index k) us) a n = tt
hash_like i t (spine (constant d) us) a n = tt
hash_like i t (spine (nominal b) us) a n = tt
hash_like i t (spine (variable z) us) a n = tt
hash_like i (spine (logical l) ts) (spine (logical k) us) a n = subst (λ j. HoldNoHash (marked (hash_of i) (spine (logical j) us))) a.0 n
hash_like i (lam A x t) (spine (logical k) us) a n = absurd a
hash_like i (spine (constant c) ts) (spine (logical k) us) a n = absurd a.0
hash_like i (spine (nominal c) ts) (spine (logical k) us) a n = absurd a.0
hash_like i (spine (variable c) ts) (spine (logical k) us) a n = absurd a.0
hash_like i (spine (index c) ts) (spine (logical k) us) a n = absurd a.0

mutual
  pub like_none : (t u : Read) → AreLike t u → HasNoHash t → HasNoHash u
  like_none (lam A x t) (lam B y u) a n = like_none t u a n
  like_none (lam A x t) (spine h us) a n = absurd a
  like_none (spine g ts) (lam B y u) a n = absurd a
  like_none (spine g ts) (spine (index k) us) a n = tt
  like_none (spine g ts) (spine (constant d) us) a n = tt
  like_none (spine g ts) (spine (nominal b) us) a n = tt
  like_none (spine g ts) (spine (variable z) us) a n = tt
  like_none (spine (logical l) ts) (spine (logical k) us) a n = subst (λ j. HasNoHash (spine (logical j) us)) a.0 (logical_none l ts us a.1 n)
  like_none (spine (constant c) ts) (spine (logical k) us) a n = absurd a.0
  like_none (spine (nominal c) ts) (spine (logical k) us) a n = absurd a.0
  like_none (spine (variable c) ts) (spine (logical k) us) a n = absurd a.0
  like_none (spine (index c) ts) (spine (logical k) us) a n = absurd a.0

  logical_none : (l : Logical) (ts us : Terms ℕ (List ℕ)) → AllLike ts us → HasNoHash (spine (logical l) ts) → HasNoHash (spine (logical l) us)
  logical_none l no_terms (term u us) a n = absurd a
  logical_none l (term t ts) no_terms a n = absurd a
  logical_none l no_terms no_terms a n = n
  logical_none l (term t no_terms) (term u (term v us)) a n = absurd a.1
  logical_none l (term t (term s ts)) (term u no_terms) a n = absurd a.1
  logical_none l (term t (term s no_terms)) (term u (term v (term w us))) a n = absurd a.1.1
  logical_none l (term t (term s (term r ts))) (term u (term v no_terms)) a n = absurd a.1.1
  logical_none plain.conjunction (term t (term s no_terms)) (term u (term v no_terms)) a n = (like_none t u a.0 n.0, like_none s v a.1.0 n.1)
  logical_none plain.disjunction (term t (term s no_terms)) (term u (term v no_terms)) a n = (like_none t u a.0 n.0, like_none s v a.1.0 n.1)
  logical_none plain.implication (term t (term s no_terms)) (term u (term v no_terms)) a n = (like_none t u a.0 n.0, like_none s v a.1.0 n.1)
  logical_none (plain.universal A) (term t no_terms) (term u no_terms) a n = like_none t u a.0 n
  logical_none (plain.existential A) (term t no_terms) (term u no_terms) a n = like_none t u a.0 n
  logical_none (plain.nabla A) (term t no_terms) (term u no_terms) a n = like_none t u a.0 n
  logical_none (plain.star i) (term t ts) (term u us) a n = mark_none (star_of i) tt u
  logical_none (plain.at_sign i) (term t ts) (term u us) a n = mark_none (at_of i) tt u
  logical_none (plain.plus i) (term t ts) (term u us) a n = mark_none (plus_of i) tt u
  logical_none (plain.hash i) (term t ts) (term u us) a n = hash_like i t u a.0 n
  logical_none l (term t ts) (term u us) a n = tt

-- nominal constants change places
rename_like : (f : Nominal → Nominal) (h : Head ℕ) → IsLike h (rename_head f h)
rename_like f (constant c) = tt
rename_like f (logical l) = refl
rename_like f (nominal a) = tt
rename_like f (variable x) = tt
rename_like f (index i) = tt

mutual
  renamed_like : (f : Nominal → Nominal) (t : Read) → AreLike t (rename f t)
  renamed_like f (lam A x t) = renamed_like f t
  renamed_like f (spine h ts) = (rename_like f h, all_renamed_like f ts)

  all_renamed_like : (f : Nominal → Nominal) (ts : Terms ℕ (List ℕ)) → AllLike ts (rename_all f ts)
  all_renamed_like f no_terms = tt
  all_renamed_like f (term t ts) = (renamed_like f t, all_renamed_like f ts)

pub renamed_none : (f : Nominal → Nominal) (F : Read) → HasNoHash F → HasNoHash (rename f F)
renamed_none f F n = like_none F (rename f F) (renamed_like f F) n

-- a binder is put in for a name

shift_like : (k : ℕ) (h : Head ℕ) → IsLike h (shift_head k h)
shift_like k (constant c) = tt
shift_like k (logical l) = refl
shift_like k (nominal a) = tt
shift_like k (variable x) = tt
shift_like k (index i) = tt

close_like : (k : ℕ) (h g : Head ℕ) → IsLike g (close_head k h g)
close_like k h g = go (same_head g h)
  where
    go : (b : Bool) → IsLike g (cond b (index k) (shift_head k g))
    go true = tt
    go false = shift_like k g

mutual
  closed_like : (k : ℕ) (h : Head ℕ) (t : Read) → AreLike t (close k h t)
  closed_like k h (lam A x t) = closed_like (suc k) (shift_head zero h) t
  closed_like k h (spine g ts) = (close_like k h g, all_closed_like k h ts)

  all_closed_like : (k : ℕ) (h : Head ℕ) (ts : Terms ℕ (List ℕ)) → AllLike ts (close_all k h ts)
  all_closed_like k h no_terms = tt
  all_closed_like k h (term t ts) = (closed_like k h t, all_closed_like k h ts)

pub closed_none : (k : ℕ) (h : Head ℕ) (F : Read) → HasNoHash F → HasNoHash (close k h F)
closed_none k h F n = like_none F (close k h F) (closed_like k h F) n

-- closed by `exists` and `nabla`

pub exists_all_none : (ys : List Variable) (F : Read) → HasNoHash F → HasNoHash (exists_all ys F)
exists_all_none [] F n = n
exists_all_none (y ∷ ys) F n = closed_none zero (variable (in_terms y)) (exists_all ys F) (exists_all_none ys F n)

pub nabla_all_none : (zs : List (Cell (List ℕ))) (ns : List Nominal) (F : Read) → HasNoHash F → HasNoHash (nabla_all zs ns F)
nabla_all_none [] ns F n = n
nabla_all_none (z ∷ zs) [] F n = n
nabla_all_none (z ∷ zs) (a ∷ ns) F n = closed_none zero (nominal a) (nabla_all zs ns F) (nabla_all_none zs ns F n)
