-- A property of the heads that stand in a term, its indices aside: what is put together of such terms has it too.
use Rattle.std.proofs.Common.{◌≡◌, ℕ, zero, suc, List, Option, Some, None, option_map, refl}
use Rattle.ab_term.specs.Types.{Ty, kind, arrow}
use Rattle.ab_term.specs.Logical.{Logical}
use Rattle.ab_term.specs.Terms.{Nominal, Variable, Head, constant, logical, nominal, variable, index, Term, lam, spine, Terms, no_terms, term, with_last}
use Rattle.ab_term.specs.Substitution.{shift_head, shift, shift_all, lower_head, lower_index, put, substitute_by, substitute_all_by, reduce, substitute, instance}
use Rattle.ab_term.specs.Expansion.{expansion_of, expansion}
use Rattle.ab_term.specs.Variables.{put_for, put_at, image_by, image_all_by}

module _ {Var : Type 0} (P : Head Var → Type 0) where
  abbrev pub HeadHas : Head Var → Type 0
  HeadHas (constant c) = P (constant c)
  HeadHas (logical l) = P (logical l)
  HeadHas (nominal a) = P (nominal a)
  HeadHas (variable y) = P (variable y)
  HeadHas (index i) = Unit {0}

  -- the head that is left, if one is
  abbrev pub OptionHas : Option (Head Var) → Type 0
  OptionHas None = Unit {0}
  OptionHas (Some h) = HeadHas h

  pub shift_head_has : (k : ℕ) (h : Head Var) → HeadHas h → HeadHas (shift_head k h)
  shift_head_has k (constant c) p = p
  shift_head_has k (logical l) p = p
  shift_head_has k (nominal a) p = p
  shift_head_has k (variable y) p = p
  shift_head_has k (index i) p = tt

  index_has : (o : Option ℕ) → OptionHas (option_map index o)
  index_has None = tt
  index_has (Some i) = tt

  lower_head_has : (k : ℕ) (h : Head Var) → HeadHas h → OptionHas (lower_head k h)
  lower_head_has k (constant c) p = p
  lower_head_has k (logical l) p = p
  lower_head_has k (nominal a) p = p
  lower_head_has k (variable y) p = p
  lower_head_has k (index i) p = index_has (lower_index k i)

module _ {Var Hint : Type 0} (P : Head Var → Type 0) where
  -- each head of the term, but for indices, is such a one
  abbrev mutual
    pub Has : Term Var Hint → Type 0
    Has (lam A x t) = Has t
    Has (spine h ts) = HeadHas P h × AllHave ts

    pub AllHave : Terms Var Hint → Type 0
    AllHave no_terms = Unit {0}
    AllHave (term t ts) = Has t × AllHave ts

  mutual
    pub shift_has : (k : ℕ) (t : Term Var Hint) → Has t → Has (shift k t)
    shift_has k (lam A x t) p = shift_has (suc k) t p
    shift_has k (spine h ts) p = (shift_head_has P k h p.0, shift_all_have k ts p.1)

    pub shift_all_have : (k : ℕ) (ts : Terms Var Hint) → AllHave ts → AllHave (shift_all k ts)
    shift_all_have k no_terms p = tt
    shift_all_have k (term t ts) p = (shift_has k t p.0, shift_all_have k ts p.1)

  pub with_last_have : (ts : Terms Var Hint) (t : Term Var Hint) → AllHave ts → Has t → AllHave (with_last ts t)
  with_last_have no_terms t ps p = (p, tt)
  with_last_have (term s ts) t ps p = (ps.0, with_last_have ts t ps.1 p)

  pub expansion_of_has : (x : Hint) (A : Ty) (h : Head Var) (ts : Terms Var Hint) → HeadHas P h → AllHave ts → Has (expansion_of x A h ts)
  expansion_of_has x (kind c) h ts p q = (p, q)
  expansion_of_has x (arrow A B) h ts p q =
      expansion_of_has x B (shift_head zero h) (with_last (shift_all zero ts) (expansion x A (index zero))) (shift_head_has P zero h p)
      (with_last_have (shift_all zero ts) (expansion x A (index zero)) (shift_all_have zero ts q) (expansion_of_has x A (index zero) no_terms tt tt))

  abbrev Keeps : (Term Var Hint → Terms Var Hint → Term Var Hint) → Type 0
  Keeps apply = (u : Term Var Hint) (ts : Terms Var Hint) → Has u → AllHave ts → Has (apply u ts)

  module _ (apply : Term Var Hint → Terms Var Hint → Term Var Hint) (keeps : Keeps apply) where
    put_has : (u : Term Var Hint) (o : Option (Head Var)) (ts : Terms Var Hint) → Has u → OptionHas P o → AllHave ts → Has (put apply u o ts)
    put_has u None ts p q r = keeps u ts p r
    put_has u (Some h) ts p q r = (q, r)

    mutual
      substitute_by_has : (u : Term Var Hint) (k : ℕ) (t : Term Var Hint) → Has u → Has t → Has (substitute_by apply u k t)
      substitute_by_has u k (lam A x t) p q = substitute_by_has (shift zero u) (suc k) t (shift_has zero u p) q
      substitute_by_has u k (spine h ts) p q = put_has u (lower_head k h) (substitute_all_by apply u k ts) p (lower_head_has P k h q.0) (substitute_all_by_have u k ts p q.1)

      substitute_all_by_have : (u : Term Var Hint) (k : ℕ) (ts : Terms Var Hint) → Has u → AllHave ts → AllHave (substitute_all_by apply u k ts)
      substitute_all_by_have u k no_terms p q = tt
      substitute_all_by_have u k (term t ts) p q = (substitute_by_has u k t p q.0, substitute_all_by_have u k ts p q.1)

  pub reduce_has : (A : Ty) → Keeps (reduce A)
  reduce_has (kind c) u ts p q = p
  reduce_has (arrow A B) (lam C x t) no_terms p q = p
  reduce_has (arrow A B) (lam C x t) (term v vs) p q = reduce_has B (substitute A v zero t) vs (substitute_by_has (reduce A) (reduce_has A) v zero t q.0 p) q.1
  reduce_has (arrow A B) (spine h us) no_terms p q = p
  reduce_has (arrow A B) (spine h us) (term v vs) p q = p

  pub substitute_has : (A : Ty) (u : Term Var Hint) (k : ℕ) (t : Term Var Hint) → Has u → Has t → Has (substitute A u k t)
  substitute_has A u k t p q = substitute_by_has (reduce A) (reduce_has A) u k t p q

  pub instance_has : (t u : Term Var Hint) → Has t → Has u → Has (instance t u)
  instance_has (lam A x t) u p q = substitute_has A u zero t q p
  instance_has (spine h ts) u p q = p

module _ {Var : Type 0} (P Q : Head Var → Type 0) (f : (h : Head Var) → HeadHas P h → HeadHas Q h) where
  mutual
    pub has_more : {Hint : Type 0} (t : Term Var Hint) → Has P t → Has Q t
    has_more (lam A x t) p = has_more t p
    has_more (spine h ts) p = (f h p.0, all_have_more ts p.1)

    pub all_have_more : {Hint : Type 0} (ts : Terms Var Hint) → AllHave P ts → AllHave Q ts
    all_have_more no_terms p = tt
    all_have_more (term t ts) p = (has_more t p.0, all_have_more ts p.1)

-- f puts in terms of the second property for variables of the first; what stays has both
pub record Carries {Var Hint : Type 0} (P Q : Head Var → Type 0) (f : Variable Var → Option (Term Var Hint)) : Type 0 where
  pub constants : (c : List ℕ) → P (constant c) → Q (constant c)
  pub logicals : (l : Logical) → P (logical l) → Q (logical l)
  pub nominals : (a : Nominal) → P (nominal a) → Q (nominal a)
  pub stays : (y : Variable Var) → f y ≡ None → P (variable y) → Q (variable y)
  pub values : (y : Variable Var) (u : Term Var Hint) → f y ≡ Some u → P (variable y) → Has Q u

module _ {Var Hint : Type 0} (P Q : Head Var → Type 0) (f : Variable Var → Option (Term Var Hint)) (c : Carries P Q f) where
  put_for_has : (y : Variable Var) (o : Option (Term Var Hint)) → f y ≡ o → (ts : Terms Var Hint) → P (variable y) → AllHave Q ts → Has Q (put_for y o ts)
  put_for_has y None e ts p q = (c.stays y e p, q)
  put_for_has y (Some u) e ts p q = reduce_has Q y.type u ts (c.values y u e p) q

  put_at_has : (h : Head Var) (ts : Terms Var Hint) → HeadHas P h → AllHave Q ts → Has Q (put_at f h ts)
  put_at_has (constant b) ts p q = (c.constants b p, q)
  put_at_has (logical l) ts p q = (c.logicals l p, q)
  put_at_has (nominal a) ts p q = (c.nominals a p, q)
  put_at_has (variable y) ts p q = put_for_has y (f y) refl ts p q
  put_at_has (index i) ts p q = (tt, q)

  mutual
    pub image_by_has : (t : Term Var Hint) → Has P t → Has Q (image_by f t)
    image_by_has (lam A x t) p = image_by_has t p
    image_by_has (spine h ts) p = put_at_has h (image_all_by f ts) p.0 (image_all_by_have ts p.1)

    pub image_all_by_have : (ts : Terms Var Hint) → AllHave P ts → AllHave Q (image_all_by f ts)
    image_all_by_have no_terms p = tt
    image_all_by_have (term t ts) p = (image_by_has t p.0, image_all_by_have ts p.1)
