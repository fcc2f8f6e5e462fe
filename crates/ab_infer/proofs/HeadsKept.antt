-- What holds of the heads of a typed term, and of every bound name, holds of the heads of its normal form.
use Rattle.std.proofs.Common.{ℕ, zero, suc, List, ◌∷◌, Option, Some, None, option_map, codes}
use Rattle.ab_term.specs.Types.{Ty, kind, arrow}
use Rattle.ab_term.specs.Terms.{Head, constant, logical, nominal, variable, index, Term, lam, spine, Terms, no_terms, term, with_last}
use Rattle.ab_term.specs.Typing.{Signature, head_type}
use Rattle.ab_term.specs.Substitution.{shift_index, lower_index, shift_head, lower_head, shift, shift_all, put, substitute_by, substitute_all_by, reduce, instance}
use Rattle.ab_term.specs.Expansion.{expansion_of}
use Rattle.ab_term.specs.Beta.{Plain, atom, abstraction, application}
use Rattle.ab_meaning.specs.Normal.{left_type, given_all, long_form, normal_given, normal_form}
use Rattle.ab_infer.specs.Heads.{AreHeads, AreAllHeads, AreRawHeads}

module _ (P : Head ℕ → Type 0) (free : (i : ℕ) → P (index i)) where
  head_shifted : (k : ℕ) (h : Head ℕ) → P h → P (shift_head k h)
  head_shifted k (constant c) p = p
  head_shifted k (logical l) p = p
  head_shifted k (nominal a) p = p
  head_shifted k (variable x) p = p
  head_shifted k (index i) p = free (shift_index k i)

  mutual
    shifted : (k : ℕ) (t : Term ℕ (List ℕ)) → AreHeads P t → AreHeads P (shift k t)
    shifted k (lam A x t) h = shifted (suc k) t h
    shifted k (spine g ts) h = (head_shifted k g h.0, all_shifted k ts h.1)

    all_shifted : (k : ℕ) (ts : Terms ℕ (List ℕ)) → AreAllHeads P ts → AreAllHeads P (shift_all k ts)
    all_shifted k no_terms h = h
    all_shifted k (term t ts) h = (shifted k t h.0, all_shifted k ts h.1)

  abbrev Applies : (Term ℕ (List ℕ) → Terms ℕ (List ℕ) → Term ℕ (List ℕ)) → Type 0
  Applies apply = (u : Term ℕ (List ℕ)) (ts : Terms ℕ (List ℕ)) → AreHeads P u → AreAllHeads P ts → AreHeads P (apply u ts)

  module _ (apply : Term ℕ (List ℕ) → Terms ℕ (List ℕ) → Term ℕ (List ℕ)) (applies : Applies apply) where
    index_put : (u : Term ℕ (List ℕ)) (o : Option ℕ) (ts : Terms ℕ (List ℕ)) → AreHeads P u → AreAllHeads P ts → AreHeads P (put apply u (option_map index o) ts)
    index_put u None ts hu hs = applies u ts hu hs
    index_put u (Some j) ts hu hs = (free j, hs)

    head_put : (u : Term ℕ (List ℕ)) (k : ℕ) (h : Head ℕ) (ts : Terms ℕ (List ℕ)) → AreHeads P u → P h → AreAllHeads P ts → AreHeads P (put apply u (lower_head k h) ts)
    head_put u k (constant c) ts hu p hs = (p, hs)
    head_put u k (logical l) ts hu p hs = (p, hs)
    head_put u k (nominal a) ts hu p hs = (p, hs)
    head_put u k (variable x) ts hu p hs = (p, hs)
    head_put u k (index i) ts hu p hs = index_put u (lower_index k i) ts hu hs

    mutual
      substituted : (u : Term ℕ (List ℕ)) (k : ℕ) (t : Term ℕ (List ℕ)) → AreHeads P u → AreHeads P t → AreHeads P (substitute_by apply u k t)
      substituted u k (lam A x t) hu h = substituted (shift zero u) (suc k) t (shifted zero u hu) h
      substituted u k (spine g ts) hu h = head_put u k g (substitute_all_by apply u k ts) hu h.0 (all_substituted u k ts hu h.1)

      all_substituted : (u : Term ℕ (List ℕ)) (k : ℕ) (ts : Terms ℕ (List ℕ)) → AreHeads P u → AreAllHeads P ts → AreAllHeads P (substitute_all_by apply u k ts)
      all_substituted u k no_terms hu h = h
      all_substituted u k (term t ts) hu h = (substituted u k t hu h.0, all_substituted u k ts hu h.1)

  reduced : (A : Ty) → Applies (reduce A)
  reduced (kind k) u ts hu hs = hu
  reduced (arrow A B) (lam C x t) (term v vs) hu hs = reduced B (substitute_by (reduce A) v zero t) vs (substituted (reduce A) (reduced A) v zero t hs.0 hu) hs.1
  reduced (arrow A B) (lam C x t) no_terms hu hs = hu
  reduced (arrow A B) (spine g ts) (term v vs) hu hs = hu
  reduced (arrow A B) (spine g ts) no_terms hu hs = hu

  instanced : (t u : Term ℕ (List ℕ)) → AreHeads P t → AreHeads P u → AreHeads P (instance t u)
  instanced (lam A x t) u h hu = substituted (reduce A) (reduced A) u zero t hu h
  instanced (spine g ts) u h hu = h

  all_given : (t : Term ℕ (List ℕ)) (us : Terms ℕ (List ℕ)) → AreHeads P t → AreAllHeads P us → AreHeads P (given_all t us)
  all_given t no_terms h hs = h
  all_given t (term u us) h hs = all_given (instance t u) us (instanced t u h hs.0) hs.1

  last_added : (ts : Terms ℕ (List ℕ)) (t : Term ℕ (List ℕ)) → AreAllHeads P ts → AreHeads P t → AreAllHeads P (with_last ts t)
  last_added no_terms t hs h = (h, hs)
  last_added (term s ts) t hs h = (hs.0, last_added ts t hs.1 h)

  expanded : (x : List ℕ) (A : Ty) (h : Head ℕ) (ts : Terms ℕ (List ℕ)) → P h → AreAllHeads P ts → AreHeads P (expansion_of x A h ts)
  expanded x (kind k) h ts p hs = (p, hs)
  expanded x (arrow A B) h ts p hs =
      expanded x B (shift_head zero h) (with_last (shift_all zero ts) (expansion_of x A (index zero) no_terms)) (head_shifted zero h p)
      (last_added (shift_all zero ts) (expansion_of x A (index zero) no_terms) (all_shifted zero ts hs) (expanded x A (index zero) no_terms (free zero) tt))

  lengthened : (o : Option Ty) (h : Head ℕ) (ts : Terms ℕ (List ℕ)) → P h → AreAllHeads P ts → AreHeads P (long_form o h ts)
  lengthened None h ts p hs = (p, hs)
  lengthened (Some A) h ts p hs = expanded (codes "x") (left_type A ts) h ts p hs

  module _ (sg : Signature) where
    pub heads_given : (G : List Ty) (p : Plain ℕ (List ℕ)) (ts : Terms ℕ (List ℕ)) → AreRawHeads P p → AreAllHeads P ts → AreHeads P (normal_given sg G p ts)
    heads_given G (atom h) ts r hs = lengthened (head_type sg G h) h ts r hs
    heads_given G (abstraction A x t) ts r hs = all_given (lam A x (normal_form sg (A ∷ G) t)) ts (heads_given (A ∷ G) t no_terms r tt) hs
    heads_given G (application t u) ts r hs = heads_given G t (term (normal_form sg G u) ts) r.0 (heads_given G u no_terms r.1 tt, hs)

    pub heads_kept : (G : List Ty) (p : Plain ℕ (List ℕ)) → AreRawHeads P p → AreHeads P (normal_form sg G p)
    heads_kept G p r = heads_given G p no_terms r tt
