-- A theorem that is stated is a sentence: where what is declared alone is known, each name that stands for a constant has its
-- type.
use Rattle.std.specs.Prelude.{◌≡◌, ℕ, List, [], ◌∷◌, Bool, true, false, Option, Some, None, option_map, Result, Ok, Err, codes, bytes_eq, if◌then◌else◌}
use Rattle.std.proofs.Common.{refl, sym, ap, subst}
use Rattle.ab_term.specs.Types.{Ty, prop, o, olist, arrows}
use Rattle.ab_term.specs.Logical as logic
use Rattle.ab_term.specs.Terms.{logical, Read}
use Rattle.ab_term.specs.Typing.{Signature}
use Rattle.ab_term.specs.Normal.{FitsType}
use Rattle.ab_grammar.specs.declared.Infix.{Infix}
use Rattle.ab_grammar.specs.declared.Infix.TheVariants.{Arrow, Or, And, Equal, Imply, With, Cons}
use Rattle.ab_grammar.specs.declared.Quant.{Quant}
use Rattle.ab_grammar.specs.Tree as tree
use Rattle.ab_grammar.specs.Tree.{Tree, Trees, no_trees, Focus}
use Rattle.ab_meaning.specs.ResolvedNames.{Name, Resolved, bound, known, free, apply, behind, abs, equal, bind}
use Rattle.ab_meaning.specs.Scopes.{Scope, Place, elsewhere, or_else, index_of, truth_named, variable_named, constant_at, nominal_named, clause_variable, head_named, Found, or_unknown, made_of, made_of_both, connective, joined, empty_list, put_before, is_list, first_list, with_goal, with_focus_and_goal, pi_over, after, written, with_binder, with_binders, under, is_pi, resolved, applied, pi_applied, context, items_before, judgement}
use Rattle.ab_meaning.specs.Normal.{normal_form}
use Rattle.ab_meaning.specs.ClosedScopes.{IsClosedScope}
use Rattle.ab_meaning.proofs.Heads.{RawHas, reads_has, normal_form_has}
use Rattle.ab_meaning.proofs.Standing.{IsDeclared, admits_declared, sentence}
use Rattle.ab_meaning.proofs.Resolving.{names_are_declared}
use Rattle.ab_meaning.proofs.Makings.{one_too}
use Rattle.ab_formulas.specs.Formulas.{IsSentence}
use Rattle.ab_formulas.specs.Declarations.{Declarations, signature_in}
use Rattle.ab_infer.specs.Heads.{HeadsFit}
use Rattle.ab_infer.specs.Outcomes.{nominal_of}
use Rattle.ab_infer.proofs.Fitting.{reading_fits}
use Rattle.ab_infer.proofs.Normalising.{normal_form_typed}
use Rattle.ab_meaning.specs.Terms.{made}
use Rattle.ab_infer.specs.Lists.{HasLists}
use Rattle.ab_states.specs.ab_specification.specs.ab_declare.specs.DeclarationCommands.{scope_of, States}

-- EACH NAME FITS, where what is declared alone is known
module _ (sg : Signature) where
  abbrev OptionFine : Option Resolved → Type 0
  OptionFine None = Unit {0}
  OptionFine (Some e) = HeadsFit sg e

  abbrev FoundFine : Found → Type 0
  FoundFine (Ok e) = HeadsFit sg e
  FoundFine (Err x) = Unit {0}

  or_else_fine : (a b : Option Resolved) → OptionFine a → OptionFine b → OptionFine (or_else a b)
  or_else_fine None b p q = q
  or_else_fine (Some e) b p q = p

  bound_fine : (o : Option ℕ) → OptionFine (option_map bound o)
  bound_fine None = tt
  bound_fine (Some i) = tt

  constant_fine : (x : Name) (o : Option Ty) → sg x ≡ o → OptionFine (constant_at x o)
  constant_fine x None e = tt
  constant_fine x (Some A) e = λ G. e

  if_fine : (b : Bool) (o u : Option Resolved) → OptionFine o → OptionFine u → OptionFine (if b then o else u)
  if_fine true o u p q = p
  if_fine false o u p q = q

  truth_fine : (x : Name) → OptionFine (truth_named x)
  truth_fine x =
      if_fine (bytes_eq x (codes "true")) (Some (known (logical logic.truth) prop)) _ (λ G. refl)
      (if_fine (bytes_eq x (codes "false")) (Some (known (logical logic.falsity) prop)) None (λ G. refl) tt)

  or_unknown_fine : (x : Name) (o : Option Resolved) → OptionFine o → FoundFine (or_unknown x o)
  or_unknown_fine x None p = tt
  or_unknown_fine x (Some e) p = p

  made_fine : (f : Resolved → Resolved) (e : Found) → ((r : Resolved) → HeadsFit sg r → HeadsFit sg (f r)) → FoundFine e → FoundFine (made_of f e)
  made_fine f (Ok e) k p = k e p
  made_fine f (Err x) k p = tt

  both_fine : (f : Resolved → Resolved → Resolved) (a b : Found) → ((r s : Resolved) → HeadsFit sg r → HeadsFit sg s → HeadsFit sg (f r s)) → FoundFine a → FoundFine b → FoundFine (made_of_both f a b)
  both_fine f (Ok a) (Ok b) k p q = k a b p q
  both_fine f (Ok a) (Err y) k p q = tt
  both_fine f (Err x) b k p q = tt

  module _ (s : Scope) (c : IsClosedScope s) (signature : s.constants ≡ sg) (conses : sg (codes "::") ≡ Some (arrows (o ∷ olist ∷ []) olist)) (nils : sg (codes "nil") ≡ Some olist) where
    no_clause_variable : (p : Place) (x : Name) (n : ℕ) → p ≡ elsewhere → OptionFine (clause_variable p x n)
    no_clause_variable p x n e = rw e tt

    no_nominal : (p : Place) (x : Name) (n : ℕ) → p ≡ elsewhere → OptionFine (nominal_named p s.nominals x n)
    no_nominal p x n e = rw e tt

    no_variable : (x : Name) → OptionFine (variable_named s.variables x)
    no_variable x = rw c.variables tt

    head_fine : (bs : List Name) (x : Name) (p : ℕ) → OptionFine (head_named s bs x p)
    head_fine bs x p =
        or_else_fine (option_map bound (index_of bs x)) _ (bound_fine (index_of bs x))
        (or_else_fine (truth_named x) _ (truth_fine x)
        (or_else_fine (clause_variable s.place x p) _ (no_clause_variable s.place x p c.place)
        (or_else_fine (variable_named s.variables x) _ (no_variable x)
        (or_else_fine (constant_at x (s.constants x)) _ (constant_fine x (s.constants x) (ap (λ (f : Signature). f x) (sym signature))) (no_nominal s.place x p c.place)))))

    connected_fine : (l : logic.Logical) (a b : Found) → FoundFine a → FoundFine b → FoundFine (made_of_both (connective l) a b)
    connected_fine l a b p q = both_fine (connective l) a b (λ r t x y. ((λ G. refl, x), y)) p q

    joined_fine : (o : Infix) (a b : Found) → FoundFine a → FoundFine b → FoundFine (joined s o a b)
    joined_fine Arrow a b p q = connected_fine logic.implication a b p q
    joined_fine Or a b p q = connected_fine logic.disjunction a b p q
    joined_fine And a b p q = connected_fine logic.conjunction a b p q
    joined_fine Equal a b p q = both_fine equal a b (λ r t x y. (x, y)) p q
    joined_fine Imply a b p q = connected_fine logic.spec_implication a b p q
    joined_fine With a b p q = connected_fine logic.spec_conjunction a b p q
    joined_fine Cons a b p q = both_fine _ a b (λ r t x y. ((λ G. conses, x), y)) p q

    pi_over_fine : (e : Resolved) → HeadsFit sg e → FoundFine (pi_over e)
    pi_over_fine (bound i) p = tt
    pi_over_fine (known h A) p = tt
    pi_over_fine (free x n) p = tt
    pi_over_fine (apply e f) p = tt
    pi_over_fine (behind e f) p = tt
    pi_over_fine (abs x n e) p = p
    pi_over_fine (equal e f) p = tt
    pi_over_fine (bind q x n w e) p = tt

    after_fine : (f : Found) → FoundFine f → FoundFine (after pi_over f)
    after_fine (Ok e) p = pi_over_fine e p
    after_fine (Err x) p = tt

    binder_fine : (q : Quant) (b : tree.Binder) (w : Result (Option Ty) Name) (e : Found) → FoundFine e → FoundFine (with_binder q b w e)
    binder_fine q b (Ok w) (Ok e) p = p
    binder_fine q b (Ok w) (Err x) p = tt
    binder_fine q b (Err x) e p = tt

    binders_fine : (q : Quant) (bs : List tree.Binder) (e : Found) → FoundFine e → FoundFine (with_binders s.kinds q bs e)
    binders_fine q [] e p = p
    binders_fine q (b ∷ bs) e p = binder_fine q b (written s.kinds b.type_of) (with_binders s.kinds q bs e) (binders_fine q bs e p)

    found_if : (b : Bool) (o u : Found) → FoundFine o → FoundFine u → FoundFine (if b then o else u)
    found_if true o u p q = p
    found_if false o u p q = q

    empty_fine : FoundFine (Ok empty_list)
    empty_fine = λ G. nils

    put_before_fine : (l t : Resolved) → HeadsFit sg l → HeadsFit sg t → HeadsFit sg (put_before l t)
    put_before_fine l t p q = (p, ((λ G. conses), q))

    first_fine : (c : Tree) (f : Found) → FoundFine f → FoundFine (first_list c f)
    first_fine c f p = found_if (is_list c) f _ p (both_fine put_before (Ok empty_list) f put_before_fine empty_fine p)

    with_goal_fine : (l g : Found) → FoundFine l → FoundFine g → FoundFine (with_goal l g)
    with_goal_fine l g p q = both_fine apply _ g (λ r t x y. (x, y)) (made_fine _ l (λ r x. ((λ G. refl), x)) p) q

    with_focus_fine : (l f g : Found) → FoundFine l → FoundFine f → FoundFine g → FoundFine (with_focus_and_goal l f g)
    with_focus_fine l f g p q r =
        both_fine apply _ g (λ a t x y. (x, y)) (both_fine apply _ f (λ a t x y. (x, y)) (made_fine _ l (λ a x. ((λ G. refl), x)) p) q) r

    mutual
      resolved_fine : (bs : List Name) (e : Tree) → FoundFine (resolved s bs e)
      resolved_fine bs (tree.name x p) = or_unknown_fine x (head_named s bs x p) (head_fine bs x p)
      resolved_fine bs (tree.apply f vs p) = found_if (is_pi f) _ _ (pi_applied_fine bs vs) (applied_fine bs (resolved s bs f) vs (resolved_fine bs f))
      resolved_fine bs (tree.abs x e p) = made_fine (abs x p) (resolved s (x ∷ bs) e) (λ r q. q) (resolved_fine (x ∷ bs) e)
      resolved_fine bs (tree.join o t u p) = joined_fine o (resolved s bs t) (resolved s bs u) (resolved_fine bs t) (resolved_fine bs u)
      resolved_fine bs (tree.bind q xs e p) = binders_fine q xs (resolved s (under xs bs) e) (resolved_fine (under xs bs) e)
      resolved_fine bs (tree.judge cs f g p) = judgement_fine bs (context s bs cs) f (resolved s bs g) (context_fine bs cs) (resolved_fine bs g)

      applied_fine : (bs : List Name) (f : Found) (vs : Trees) → FoundFine f → FoundFine (applied s bs f vs)
      applied_fine bs f no_trees p = p
      applied_fine bs f (tree.tree v vs) p = applied_fine bs (made_of_both apply f (resolved s bs v)) vs (both_fine apply f (resolved s bs v) (λ r t x y. (x, y)) p (resolved_fine bs v))

      pi_applied_fine : (bs : List Name) (vs : Trees) → FoundFine (pi_applied s bs vs)
      pi_applied_fine bs no_trees = tt
      pi_applied_fine bs (tree.tree v no_trees) = after_fine (resolved s bs v) (resolved_fine bs v)
      pi_applied_fine bs (tree.tree v (tree.tree w vs)) = tt

      context_fine : (bs : List Name) (cs : Trees) → FoundFine (context s bs cs)
      context_fine bs no_trees = empty_fine
      context_fine bs (tree.tree c cs) = items_fine bs (first_list c (resolved s bs c)) cs (first_fine c (resolved s bs c) (resolved_fine bs c))

      items_fine : (bs : List Name) (l : Found) (cs : Trees) → FoundFine l → FoundFine (items_before s bs l cs)
      items_fine bs l no_trees p = p
      items_fine bs l (tree.tree c cs) p =
          items_fine bs (made_of_both put_before l (resolved s bs c)) cs (both_fine put_before l (resolved s bs c) put_before_fine p (resolved_fine bs c))

      judgement_fine : (bs : List Name) (l : Found) (f : Focus) (g : Found) → FoundFine l → FoundFine g → FoundFine (judgement s bs l f g)
      judgement_fine bs l tree.unfocused g p q = with_goal_fine l g p q
      judgement_fine bs l (tree.focused f) g p q = with_focus_fine l (resolved s bs f) g p (resolved_fine bs f) q

    names_fit : (e : Tree) (r : Resolved) → resolved s [] e ≡ Ok r → HeadsFit sg r
    names_fit e r is = subst FoundFine is (resolved_fine [] e)

-- WHAT A THEOREM STATES IS A SENTENCE
pub stated_sentence : (D : Declarations) → HasLists D → (e : Tree) (F : Read) → States D e F → IsSentence (signature_in D) F
stated_sentence D lists e F m =
    let sg : Signature = signature_in D in
    let closed : IsClosedScope (scope_of D) = record { variables = refl; place = refl } in
    let declared = names_are_declared (scope_of D) closed e m.named m.names in
    let other = one_too IsDeclared made nominal_of m.named prop declared m.raw m.reading in
    let fit = names_fit sg (scope_of D) closed refl lists.0 lists.1 e m.named m.names in
    let typed = normal_form_typed sg (subst (λ r. FitsType sg [] r prop) other.is (reading_fits sg nominal_of other.reading.types (λ x B G. refl) fit other.reading.reads)) in
    let heads = reads_has IsDeclared admits_declared made m.reading.reading.types m.reading.reading.reads declared in
    subst (IsSentence sg) (sym m.normal) (sentence sg (normal_form sg [] m.raw) typed (normal_form_has IsDeclared sg m.raw (subst (RawHas IsDeclared) m.reading.is heads)))
