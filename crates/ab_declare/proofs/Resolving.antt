-- The heads that are known in a clause: constants that are declared, and logical constants, each at its type.
use Rattle.std.specs.Prelude.{◌≡◌, ℕ, List, [], ◌∷◌, Bool, true, false, Option, Some, None, option_map, Result, Ok, Err, codes, bytes_eq, if◌then◌else◌}
use Rattle.std.proofs.Common.{refl, subst}
use Rattle.ab_term.specs.Types.{Ty, prop, arrows, o, olist}
use Rattle.ab_term.specs.Logical as logic
use Rattle.ab_term.specs.Logical.{logical_type}
use Rattle.ab_term.specs.Terms.{Head, logical}
use Rattle.ab_term.specs.Typing.{Signature, head_type}
use Rattle.ab_grammar.specs.declared.Infix.{Infix}
use Rattle.ab_grammar.specs.declared.Infix.TheVariants.{Arrow, Or, And, Equal, Imply, With, Cons}
use Rattle.ab_grammar.specs.declared.Quant.{Quant}
use Rattle.ab_grammar.specs.Tree as tree
use Rattle.ab_grammar.specs.Tree.{Tree, Trees, no_trees, Focus}
use Rattle.ab_meaning.specs.ResolvedNames.{Name, Resolved, bound, known, free, apply, behind, abs, equal, bind}
use Rattle.ab_meaning.specs.Scopes.{Scope, or_else, index_of, truth_named, constant_at, clause_variable, begins_with_capital, in_clause, head_named, Found, or_unknown, made_of, made_of_both, connective, joined, before_list, empty_list, put_before, is_list, first_list, with_goal, with_focus_and_goal, pi_over, after, written, with_binder, with_binders, under, is_pi, resolved, applied, pi_applied, context, items_before, judgement}
use Rattle.ab_infer.specs.Heads.{IsFixed, IsOrdinary, HeadsFit, KnownAre}
use Rattle.ab_declare.specs.ClauseReadings.{Parts}
use Rattle.ab_declare.specs.ClauseMeanings.{clause_scope, body_found, both_found, parts_found}
use Rattle.ab_grammar.specs.CommandTrees as command

-- neither a variable nor a nominal constant, and no size mark
abbrev pub IsPlain : Head ℕ → Type 0
IsPlain h = IsFixed h × IsOrdinary h

module _ (sg : Signature) where
  -- each head that is known is plain, and of its type
  abbrev pub IsFine : Resolved → Type 0
  IsFine (bound i) = Unit {0}
  IsFine (known h A) = IsPlain h × ((G : List Ty) → head_type sg G h ≡ Some A)
  IsFine (free x p) = Unit {0}
  IsFine (apply e f) = IsFine e × IsFine f
  IsFine (behind e f) = IsFine e × IsFine f
  IsFine (abs x p e) = IsFine e
  IsFine (equal e f) = IsFine e × IsFine f
  IsFine (bind q x p w e) = IsFine e

  pub heads_fit : (e : Resolved) → IsFine e → HeadsFit sg e
  heads_fit (bound i) h = tt
  heads_fit (known g A) h = h.1
  heads_fit (free x p) h = tt
  heads_fit (apply e f) h = (heads_fit e h.0, heads_fit f h.1)
  heads_fit (behind e f) h = (heads_fit e h.0, heads_fit f h.1)
  heads_fit (abs x p e) h = heads_fit e h
  heads_fit (equal e f) h = (heads_fit e h.0, heads_fit f h.1)
  heads_fit (bind q x p w e) h = heads_fit e h

  pub are_plain : (e : Resolved) → IsFine e → KnownAre IsPlain (Unit {0}) e
  are_plain (bound i) h = tt
  are_plain (known g A) h = h.0
  are_plain (free x p) h = tt
  are_plain (apply e f) h = (are_plain e h.0, are_plain f h.1)
  are_plain (behind e f) h = (are_plain e h.0, are_plain f h.1)
  are_plain (abs x p e) h = are_plain e h
  are_plain (equal e f) h = (are_plain e h.0, are_plain f h.1)
  are_plain (bind q x p w e) h = are_plain e h

  abbrev OptionFine : Option Resolved → Type 0
  OptionFine None = Unit {0}
  OptionFine (Some e) = IsFine e

  abbrev FoundFine : Found → Type 0
  FoundFine (Ok e) = IsFine e
  FoundFine (Err x) = Unit {0}

  or_else_fine : (a b : Option Resolved) → OptionFine a → OptionFine b → OptionFine (or_else a b)
  or_else_fine None b p q = q
  or_else_fine (Some e) b p q = p

  bound_fine : (o : Option ℕ) → OptionFine (option_map bound o)
  bound_fine None = tt
  bound_fine (Some i) = tt

  constant_fine : (x : Name) (o : Option Ty) → sg x ≡ o → OptionFine (constant_at x o)
  constant_fine x None e = tt
  constant_fine x (Some A) e = ((tt, tt), λ G. e)

  if_fine : (b : Bool) (o u : Option Resolved) → OptionFine o → OptionFine u → OptionFine (if b then o else u)
  if_fine true o u p q = p
  if_fine false o u p q = q

  truth_fine : (x : Name) → OptionFine (truth_named x)
  truth_fine x =
      if_fine (bytes_eq x (codes "true")) (Some (known (logical logic.truth) prop)) _ ((tt, tt), λ G. refl)
      (if_fine (bytes_eq x (codes "false")) (Some (known (logical logic.falsity) prop)) None ((tt, tt), λ G. refl) tt)

  or_unknown_fine : (x : Name) (o : Option Resolved) → OptionFine o → FoundFine (or_unknown x o)
  or_unknown_fine x None p = tt
  or_unknown_fine x (Some e) p = p

  made_fine : (f : Resolved → Resolved) (e : Found) → ((r : Resolved) → IsFine r → IsFine (f r)) → FoundFine e → FoundFine (made_of f e)
  made_fine f (Ok e) k p = k e p
  made_fine f (Err x) k p = tt

  both_fine : (f : Resolved → Resolved → Resolved) (a b : Found) → ((r s : Resolved) → IsFine r → IsFine s → IsFine (f r s)) → FoundFine a → FoundFine b → FoundFine (made_of_both f a b)
  both_fine f (Ok a) (Ok b) k p q = k a b p q
  both_fine f (Ok a) (Err y) k p q = tt
  both_fine f (Err x) b k p q = tt

  module _ (kinds : List Name) (conses : sg (codes "::") ≡ Some (arrows (o ∷ olist ∷ []) olist)) (nils : sg (codes "nil") ≡ Some olist) where
    abbrev s : Scope
    s = clause_scope kinds sg

    head_fine : (bs : List Name) (x : Name) (p : ℕ) → OptionFine (head_named s bs x p)
    head_fine bs x p =
        or_else_fine (option_map bound (index_of bs x)) _ (bound_fine (index_of bs x))
        (or_else_fine (truth_named x) _ (truth_fine x)
        (or_else_fine (clause_variable in_clause x p) _ (if_fine (begins_with_capital x) (Some (free x p)) None tt tt)
        (or_else_fine (constant_at x (sg x)) None (constant_fine x (sg x) refl) tt)))

    connected_fine : (l : logic.Logical) (a b : Found) → IsOrdinary (logical l) → FoundFine a → FoundFine b → FoundFine (made_of_both (connective l) a b)
    connected_fine l a b d p q = both_fine (connective l) a b (λ r t x y. ((((tt, d), λ G. refl), x), y)) p q

    joined_fine : (o : Infix) (a b : Found) → FoundFine a → FoundFine b → FoundFine (joined s o a b)
    joined_fine Arrow a b p q = connected_fine logic.implication a b tt p q
    joined_fine Or a b p q = connected_fine logic.disjunction a b tt p q
    joined_fine And a b p q = connected_fine logic.conjunction a b tt p q
    joined_fine Equal a b p q = both_fine equal a b (λ r t x y. (x, y)) p q
    joined_fine Imply a b p q = connected_fine logic.spec_implication a b tt p q
    joined_fine With a b p q = connected_fine logic.spec_conjunction a b tt p q
    joined_fine Cons a b p q = both_fine _ a b (λ r t x y. ((((tt, tt), λ G. conses), x), y)) p q

    pi_over_fine : (e : Resolved) → IsFine e → FoundFine (pi_over e)
    pi_over_fine (bound i) p = tt
    pi_over_fine (known h A) p = tt
    pi_over_fine (free x n) p = tt
    pi_over_fine (apply e f) p = tt
    pi_over_fine (behind e f) p = tt
    pi_over_fine (abs x n e) p = p
    pi_over_fine (equal e f) p = tt
    pi_over_fine (bind q x n w e) p = tt

    after_fine : (f : Found) → FoundFine f → FoundFine (after pi_over f)
    after_fine (Ok e) p = pi_over_fine e p
    after_fine (Err x) p = tt

    binder_fine : (q : Quant) (b : tree.Binder) (w : Result (Option Ty) Name) (e : Found) → FoundFine e → FoundFine (with_binder q b w e)
    binder_fine q b (Ok w) (Ok e) p = p
    binder_fine q b (Ok w) (Err x) p = tt
    binder_fine q b (Err x) e p = tt

    binders_fine : (q : Quant) (bs : List tree.Binder) (e : Found) → FoundFine e → FoundFine (with_binders s.kinds q bs e)
    binders_fine q [] e p = p
    binders_fine q (b ∷ bs) e p = binder_fine q b (written s.kinds b.type_of) (with_binders s.kinds q bs e) (binders_fine q bs e p)

    found_if : (b : Bool) (o u : Found) → FoundFine o → FoundFine u → FoundFine (if b then o else u)
    found_if true o u p q = p
    found_if false o u p q = q

    empty_fine : FoundFine (Ok empty_list)
    empty_fine = ((tt, tt), λ G. nils)

    put_before_fine : (l t : Resolved) → IsFine l → IsFine t → IsFine (put_before l t)
    put_before_fine l t p q = (p, (((tt, tt), λ G. conses), q))

    first_fine : (c : Tree) (f : Found) → FoundFine f → FoundFine (first_list c f)
    first_fine c f p = found_if (is_list c) f _ p (both_fine put_before (Ok empty_list) f put_before_fine empty_fine p)

    with_goal_fine : (l g : Found) → FoundFine l → FoundFine g → FoundFine (with_goal l g)
    with_goal_fine l g p q = both_fine apply _ g (λ r t x y. (x, y)) (made_fine _ l (λ r x. (((tt, tt), λ G. refl), x)) p) q

    with_focus_fine : (l f g : Found) → FoundFine l → FoundFine f → FoundFine g → FoundFine (with_focus_and_goal l f g)
    with_focus_fine l f g p q r =
        both_fine apply _ g (λ a t x y. (x, y)) (both_fine apply _ f (λ a t x y. (x, y)) (made_fine _ l (λ a x. (((tt, tt), λ G. refl), x)) p) q) r

    mutual
      resolved_fine : (bs : List Name) (e : Tree) → FoundFine (resolved s bs e)
      resolved_fine bs (tree.name x p) = or_unknown_fine x (head_named s bs x p) (head_fine bs x p)
      resolved_fine bs (tree.apply f vs p) = found_if (is_pi f) _ _ (pi_applied_fine bs vs) (applied_fine bs (resolved s bs f) vs (resolved_fine bs f))
      resolved_fine bs (tree.abs x e p) = made_fine (abs x p) (resolved s (x ∷ bs) e) (λ r q. q) (resolved_fine (x ∷ bs) e)
      resolved_fine bs (tree.join o t u p) = joined_fine o (resolved s bs t) (resolved s bs u) (resolved_fine bs t) (resolved_fine bs u)
      resolved_fine bs (tree.bind q xs e p) = binders_fine q xs (resolved s (under xs bs) e) (resolved_fine (under xs bs) e)
      resolved_fine bs (tree.judge cs f g p) = judgement_fine bs (context s bs cs) f (resolved s bs g) (context_fine bs cs) (resolved_fine bs g)

      applied_fine : (bs : List Name) (f : Found) (vs : Trees) → FoundFine f → FoundFine (applied s bs f vs)
      applied_fine bs f no_trees p = p
      applied_fine bs f (tree.tree v vs) p = applied_fine bs (made_of_both apply f (resolved s bs v)) vs (both_fine apply f (resolved s bs v) (λ r t x y. (x, y)) p (resolved_fine bs v))

      pi_applied_fine : (bs : List Name) (vs : Trees) → FoundFine (pi_applied s bs vs)
      pi_applied_fine bs no_trees = tt
      pi_applied_fine bs (tree.tree v no_trees) = after_fine (resolved s bs v) (resolved_fine bs v)
      pi_applied_fine bs (tree.tree v (tree.tree w vs)) = tt

      context_fine : (bs : List Name) (cs : Trees) → FoundFine (context s bs cs)
      context_fine bs no_trees = empty_fine
      context_fine bs (tree.tree c cs) = items_fine bs (first_list c (resolved s bs c)) cs (first_fine c (resolved s bs c) (resolved_fine bs c))

      items_fine : (bs : List Name) (l : Found) (cs : Trees) → FoundFine l → FoundFine (items_before s bs l cs)
      items_fine bs l no_trees p = p
      items_fine bs l (tree.tree c cs) p =
          items_fine bs (made_of_both put_before l (resolved s bs c)) cs (both_fine put_before l (resolved s bs c) put_before_fine p (resolved_fine bs c))

      judgement_fine : (bs : List Name) (l : Found) (f : Focus) (g : Found) → FoundFine l → FoundFine g → FoundFine (judgement s bs l f g)
      judgement_fine bs l tree.unfocused g p q = with_goal_fine l g p q
      judgement_fine bs l (tree.focused f) g p q = with_focus_fine l (resolved s bs f) g p (resolved_fine bs f) q

    body_fine : (b : Option Tree) → FoundFine (body_found s b)
    body_fine None = ((tt, tt), λ G. refl)
    body_fine (Some b) = resolved_fine [] b

    abbrev PartsFine : Result Parts Name → Type 0
    PartsFine (Ok e) = IsFine e.head × IsFine e.body
    PartsFine (Err x) = Unit {0}

    both_parts_fine : (f g : Found) → FoundFine f → FoundFine g → PartsFine (both_found f g)
    both_parts_fine (Ok e) (Ok f) p q = (p, q)
    both_parts_fine (Ok e) (Err x) p q = tt
    both_parts_fine (Err x) g p q = tt

    pub parts_fine : (c : command.Clause) (e : Parts) → parts_found kinds sg c ≡ Ok e → IsFine e.head × IsFine e.body
    parts_fine c e is = subst PartsFine is (both_parts_fine (resolved s [] c.head) (body_found s c.body) (resolved_fine [] c.head) (body_fine c.body))
