-- The cases of the walk: what an expression is resolved to, from what its parts are.
use Rattle.std.proofs.Common.{◌≡◌, ℕ, suc, ◌+◌, ◌-◌, ◌<◌, ◌≤◌, List, [], ◌∷◌, length, get_or, drop, take, map, Option, Some, None, Box, Global, sym, ap, ◌∙◌, arith, add-one, true, false}
use Rattle.std.specs.Prelude.{Ok, Err, codes}
use Rattle.std.proofs.lemmas.List.{take_all}
use Rattle.ab_term.specs.Types.{Ty}
use Rattle.ab_norm.specs.ab_types.specs.Entries.{Table, IsExtendedBy}
use Rattle.ab_norm.specs.ab_store.specs.Trees.{Contents}
use Rattle.ab_grammar.specs.declared.Infix.{Infix}
use Rattle.ab_grammar.specs.declared.Quant.{Quant}
use Rattle.ab_grammar.specs.Tree as tree
use Rattle.ab_grammar.specs.Tree.{Tree, Trees, trees_of}
use Rattle.ab_syntax.specs.ab_expressions.specs.declared.tree.Binder.{Binder}
use Rattle.ab_syntax.specs.ab_expressions.specs.declared.tree.Parse.{Parse}
use Rattle.ab_syntax.specs.ab_expressions.specs.declared.tree.Parse.TheVariants as parse
use Rattle.ab_syntax.specs.ab_expressions.specs.declared.items.Items.{Items}
use Rattle.ab_syntax.specs.ab_expressions.specs.Items.{list_of}
use Rattle.ab_syntax.specs.ab_expressions.specs.SyntaxTrees.{tree_of, binder_of}
use Rattle.ab_meaning.specs.ResolvedNames as names
use Rattle.ab_meaning.specs.ResolvedNames.{Name, quantified}
use Rattle.ab_meaning.specs.Scopes as scopes
use Rattle.ab_meaning.specs.Scopes.{Found, made_of, made_of_both, joined, is_pi, resolved, applied, pi_applied, pi_over, after, with_binders, with_binder, written, under}
use Rattle.ab_inference.specs.declared.op.Op.TheVariants as op
use Rattle.ab_inference.specs.Sketches.{erase}
use Rattle.ab_inference.proofs.Turned.{from_here}
use Rattle.ab_infer.specs.declared.scope.Bound.{Bound}
use Rattle.ab_infer.specs.declared.scope.Scope.{Scope}
use Rattle.ab_infer.specs.NameScopes.{names_in, scope_of, HoldsScope}
use Rattle.ab_infer.specs.declared.row.Row.{Row}
use Rattle.ab_infer.specs.Rows.{Grew, AddsTypes}
use Rattle.ab_infer.specs.WalkMoves.{Puts, BindsName, MeetsSign, PutsBetween, IsApplied}
use Rattle.ab_infer.proofs.Lists.{names_last}
use Rattle.ab_infer.proofs.Growing.{grew_apply}
use Rattle.ab_infer.proofs.Grounds.{same_scope}
use Rattle.ab_infer.proofs.Resolving.{tree_apply, tree_abs, tree_join, with_head, with_pi, other_arguments, second_fails, all_fail}

-- where names are bound as before, and types were added, an expression is resolved as before
pub same_place : (s t : Table) (store : Contents) (scope : Scope) (bs cs : List Bound) (e : Tree) → AddsTypes s t → HoldsScope s store scope → cs ≡ bs
    → resolved (scope_of t store scope) (names_in cs) e ≡ resolved (scope_of s store scope) (names_in bs) e
same_place s t store scope bs cs e adds held same =
    ap (λ x. resolved x (names_in cs) e) (same_scope s t adds store scope held) ∙ ap (λ ds. resolved (scope_of s store scope) (names_in ds) e) same

module _ (s : scopes.Scope) (bs : List Name) where
  module _ (t : Parse) (f : Box Parse Global) (es : Items Parse) (p : ℕ) (g : Parse) (vs : List Parse) (is : t ≡ parse.Apply f es p) (head : g ≡ f.value) (given : vs ≡ list_of es) where
    tree_is : tree_of t ≡ tree.apply (tree_of g) (trees_of (map tree_of vs)) p
    tree_is = ap tree_of is ∙ (tree_apply f es p ∙ (ap (λ h. tree.apply (tree_of h) (trees_of (map tree_of (list_of es))) p) (sym head) ∙ ap (λ ws. tree.apply (tree_of g) (trees_of (map tree_of ws)) p) (sym given)))

    pub pi_many : is_pi (tree_of g) ≡ true → (length vs ≡ 1 → ⊥) → resolved s bs (tree_of t) ≡ Err (codes "pi")
    pi_many e n = ap (resolved s bs) tree_is ∙ (with_pi s bs (tree_of g) (trees_of (map tree_of vs)) p e ∙ other_arguments s bs vs n)

    pub pi_whole : (v : Parse) → is_pi (tree_of g) ≡ true → length vs ≡ 1 → v ≡ get_or vs 0 v → resolved s bs (tree_of t) ≡ after pi_over (resolved s bs (tree_of v))
    pi_whole v e l at = ap (resolved s bs) tree_is ∙ (with_pi s bs (tree_of g) (trees_of (map tree_of vs)) p e ∙ one vs l at)
      where
        one : (ws : List Parse) → length ws ≡ 1 → v ≡ get_or ws 0 v → pi_applied s bs (trees_of (map tree_of ws)) ≡ after pi_over (resolved s bs (tree_of v))
        one [] l at = absurd (omega arith)
        one (w ∷ []) l at = ap (λ u. after pi_over (resolved s bs (tree_of u))) (sym at)
        one (w ∷ (u ∷ ws)) l at = absurd (omega arith)

    pub head_whole : is_pi (tree_of g) ≡ false → resolved s bs (tree_of t) ≡ applied s bs (resolved s bs (tree_of g)) (trees_of (map tree_of vs))
    head_whole e = ap (resolved s bs) tree_is ∙ with_head s bs (tree_of g) (trees_of (map tree_of vs)) p e

  pub abs_whole : (t : Parse) (x : Name) (b : Box Parse Global) (p : ℕ) (e : Parse) → t ≡ parse.Abs x b p → e ≡ b.value → resolved s bs (tree_of t) ≡ made_of (names.abs x p) (resolved s (x ∷ bs) (tree_of e))
  abs_whole t x b p e is at = ap (resolved s bs) (ap tree_of is ∙ tree_abs x b p) ∙ ap (λ u. made_of (names.abs x p) (resolved s (x ∷ bs) (tree_of u))) (sym at)

  pub join_whole : (t : Parse) (o : Infix) (a b : Box Parse Global) (p : ℕ) (l r : Parse) → t ≡ parse.Join o a b p → l ≡ a.value → r ≡ b.value → resolved s bs (tree_of t) ≡ joined s o (resolved s bs (tree_of l)) (resolved s bs (tree_of r))
  join_whole t o a b p l r is la rb =
      ap (resolved s bs) (ap tree_of is ∙ tree_join o a b p) ∙ (ap (λ u. joined s o (resolved s bs (tree_of u)) (resolved s bs (tree_of b.value))) (sym la) ∙ ap (λ u. joined s o (resolved s bs (tree_of l)) (resolved s bs (tree_of u))) (sym rb))

  -- the argument of a number, where those before it were given
  module _ (types : Table) (store : Contents) (old row : Row) (whole : Found) (vs : List Parse) (i : ℕ) (v : Parse) (a : IsApplied types store old row s bs whole vs i) (l : i < length vs) (at : v ≡ get_or vs i v) where
    next : applied s bs (made_of_both names.apply a.found (resolved s bs (tree_of v))) (trees_of (map tree_of (drop (suc i) vs))) ≡ whole
    next = ap (λ ws. applied s bs a.found (trees_of (map tree_of ws))) (sym (from_here vs i v l at)) ∙ a.rest

    pub argument_fails : (x : Name) → resolved s bs (tree_of v) ≡ Err x → whole ≡ Err x
    argument_fails x e = sym next ∙ all_fail s bs (made_of_both names.apply a.found (resolved s bs (tree_of v))) x (trees_of (map tree_of (drop (suc i) vs))) (second_fails names.apply a.found (resolved s bs (tree_of v)) (erase a.grew.sketch) x a.grew.is e)

    pub argument_given : (t : Table) (mid new : Row) → IsExtendedBy types t → Grew t store row mid (resolved s bs (tree_of v)) → Puts mid new op.Apply → IsApplied t store old new s bs whole vs (i + 1)
    argument_given t mid new e g p = record {
      found = made_of_both names.apply a.found (resolved s bs (tree_of v));
      grew = grew_apply store types t old row mid new a.found (resolved s bs (tree_of v)) e a.grew g p;
      rest = rw (add-one) next;
    }

pub meets_bound : (t : Table) (store : Contents) (r0 r1 : Row) (o : Infix) (node : Option ℕ) → MeetsSign t store r0 r1 o node → r1.bound.items ≡ r0.bound.items
meets_bound t store r0 r1 o None m = m.puts.bound
meets_bound t store r0 r1 o (Some n) m = m.bound

pub between_bound : (r0 r1 : Row) (node : Option ℕ) → PutsBetween node r0 r1 → r1.bound.items ≡ r0.bound.items
between_bound r0 r1 None p = p.bound
between_bound r0 r1 (Some n) e = ap (λ (r : Row). r.bound.items) e

-- a binder before others
module _ (s : scopes.Scope) (q : Quant) (e : Tree) (xs : List Name) (all : List Binder) (b : Binder) (bs : List Binder) (is : all ≡ b ∷ bs) where
  binders_whole : with_binders s.kinds q (map binder_of all) (resolved s (under (map binder_of all) xs) e)
      ≡ with_binder q (binder_of b) (written s.kinds (binder_of b).type_of) (with_binders s.kinds q (map binder_of bs) (resolved s (under (map binder_of bs) (b.name ∷ xs)) e))
  binders_whole = ap (λ cs. with_binders s.kinds q (map binder_of cs) (resolved s (under (map binder_of cs) xs) e)) is

  pub type_fails : (x : Name) → written s.kinds (binder_of b).type_of ≡ Err x → with_binders s.kinds q (map binder_of all) (resolved s (under (map binder_of all) xs) e) ≡ Err x
  type_fails x h = binders_whole ∙ ap (λ w. with_binder q (binder_of b) w (with_binders s.kinds q (map binder_of bs) (resolved s (under (map binder_of bs) (b.name ∷ xs)) e))) h

  pub binder_made : (W : Option Ty) → written s.kinds (binder_of b).type_of ≡ Ok W → with_binders s.kinds q (map binder_of all) (resolved s (under (map binder_of all) xs) e)
      ≡ made_of (names.bind (quantified q) b.name b.place W) (with_binders s.kinds q (map binder_of bs) (resolved s (under (map binder_of bs) (b.name ∷ xs)) e))
  binder_made W h = binders_whole ∙ ap (λ w. with_binder q (binder_of b) w (with_binders s.kinds q (map binder_of bs) (resolved s (under (map binder_of bs) (b.name ∷ xs)) e))) h

-- names that are bound behind others
pub bound_names : (r0 r1 : Row) (x : Name) (p n : ℕ) → BindsName r0 r1 x p n → names_in r1.bound.items ≡ x ∷ names_in r0.bound.items
bound_names r0 r1 x p n h = ap names_in h.bound ∙ names_last r0.bound.items (record { name = x; node = n })

-- the first of a list, and the rest
pub first_and_rest : {X : Type 0} (xs : List X) (x : X) → 1 ≤ length xs → x ≡ get_or xs 0 x → xs ≡ x ∷ take (length xs - 1) (drop 1 xs)
first_and_rest [] x l e = absurd (omega arith)
first_and_rest (y ∷ ys) x l e =
    let t : take (suc (length ys) - 1) ys ≡ ys = take_all (suc (length ys) - 1) ys (omega arith) in
    ap (λ z. z ∷ ys) (sym e) ∙ ap (λ zs. x ∷ zs) (sym t)
