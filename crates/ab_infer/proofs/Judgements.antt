-- The cases of the walk over a judgement: its list from its items, and the judgement from its list.
use Rattle.std.proofs.Common.{◌≡◌, ℕ, suc, ◌+◌, ◌<◌, List, length, get_or, drop, map, Option, Some, None, Box, Global, refl, sym, ap, ◌∙◌, subst, add-one, Bool, true, false}
use Rattle.std.specs.Prelude.{Ok, Err, Result, OnOk, if◌then◌else◌}
use Rattle.ab_term.specs.Types.{Ty, arrow, prop, o, olist}
use Rattle.ab_term.specs.Logical.{logical_type}
use Rattle.ab_term.specs.Terms.{constant, logical}
use Rattle.ab_norm.specs.ab_types.specs.Entries.{Table, signature, first_entries, IsExtendedBy}
use Rattle.ab_norm.specs.ab_types.specs.Ids.{HoldsType, HoldsConstant, type_of, constant_of}
use Rattle.ab_norm.specs.ab_types.specs.Sound.{IsTable}
use Rattle.ab_norm.specs.ab_types.specs.declared.ids.TypeId.{TypeId}
use Rattle.ab_norm.specs.ab_types.specs.declared.ids.ConstId.{ConstId}
use Rattle.ab_norm.specs.ab_store.specs.Trees.{Contents, logical_of}
use Rattle.ab_norm.specs.ab_store.specs.Naming.{IsTypedBy, LogicalIsTyped}
use Rattle.ab_norm.specs.ab_store.specs.declared.node.Logical.{Logical}
use Rattle.ab_norm.specs.ab_store.specs.declared.node.Head.TheVariants.{Const, Logic}
use Rattle.ab_grammar.specs.Tree as tree
use Rattle.ab_grammar.specs.Tree.{Tree, Trees, trees_of}
use Rattle.ab_syntax.specs.ab_expressions.specs.declared.tree.Parse.{Parse}
use Rattle.ab_syntax.specs.ab_expressions.specs.declared.tree.Parse.TheVariants as parse
use Rattle.ab_syntax.specs.ab_expressions.specs.declared.items.Items.{Items}
use Rattle.ab_syntax.specs.ab_expressions.specs.Items.{list_of}
use Rattle.ab_syntax.specs.ab_expressions.specs.SyntaxTrees.{tree_of}
use Rattle.ab_meaning.specs.ResolvedNames as names
use Rattle.ab_meaning.specs.ResolvedNames.{Name, Resolved, known}
use Rattle.ab_meaning.specs.Scopes.{Scope, Found, made_of_both, before_list, empty_list, put_before, is_list, resolved, context, items_before, judgement}
use Rattle.ab_inference.specs.declared.op.Op.TheVariants as op
use Rattle.ab_inference.specs.declared.constraints.Formulas.{Formulas}
use Rattle.ab_inference.specs.Inferences.{IsFormulas}
use Rattle.ab_inference.specs.Sketches.{erase}
use Rattle.ab_inference.proofs.Turned.{from_here}
use Rattle.ab_infer.specs.declared.row.Row.{Row}
use Rattle.ab_infer.specs.declared.scope.Bound.{Bound}
use Rattle.ab_infer.specs.declared.scope.Scope.{Scope as AScope}
use Rattle.ab_infer.specs.NameScopes.{names_in, scope_of, HoldsScope}
use Rattle.ab_infer.specs.Rows.{Grew, AddsTypes}
use Rattle.ab_infer.specs.WalkMoves.{Puts, IsApplication, IsJudgement, IsListed, judgement_sign, judgement_head}
use Rattle.ab_infer.proofs.Cases.{same_place}
use Rattle.ab_infer.proofs.Grounds.{same_scope}
use Rattle.ab_infer.proofs.Larger.{type_more}
use Rattle.ab_infer.proofs.Connectives.{constant_type, some_same}
use Rattle.ab_infer.proofs.Growing.{grew_apply, grew_behind}
use Rattle.ab_infer.proofs.Single.{grew_known}
use Rattle.ab_infer.proofs.Resolving.{focus_tree, tree_judge, first_fails, second_fails}

pub on_ok : {X E : Type 0} {P Q : Type 0} (r : Result X E) → (P → Q) → OnOk r P → OnOk r Q
on_ok (Ok x) f h = f h
on_ok (Err e) f h = h

-- the type of a judgement with a formula in brackets
pub focused_is : (s t u : Table) (f : Formulas) (unfocused id : TypeId) (b : Bool) → b ≡ true → IsExtendedBy s t → IsFormulas s f → type_of t unfocused ≡ arrow (type_of s f.o) (type_of s f.prop)
    → type_of u id ≡ arrow (type_of t f.o) (type_of t unfocused) → arrow olist (type_of u id) ≡ logical_type (judgement_sign b)
focused_is s t u f unfocused id b e kept are h g =
    let now : type_of t f.o ≡ o = type_more s t kept f.o are.o_held ∙ are.o_is in
    let rest : type_of t unfocused ≡ arrow o prop = h ∙ (ap (λ A. arrow A (type_of s f.prop)) are.o_is ∙ ap (arrow o) are.prop_is) in
    ap (arrow olist) (g ∙ (ap (λ A. arrow A (type_of t unfocused)) now ∙ ap (arrow o) rest)) ∙ sym (ap (λ c. logical_type (judgement_sign c)) e)

pub judgement_type : (s t u : Table) (rest list id : TypeId) (b : Bool) → IsExtendedBy s t → HoldsType s rest → arrow olist (type_of s rest) ≡ logical_type (judgement_sign b) → type_of t list ≡ olist
    → type_of u id ≡ arrow (type_of t list) (type_of t rest) → type_of u id ≡ logical_type (judgement_sign b)
judgement_type s t u rest list id b e held is l g = g ∙ (ap (λ A. arrow A (type_of t rest)) l ∙ (ap (arrow olist) (type_more s t e rest held) ∙ is))

-- the head of a judgement
pub grew_judgement : (t : Table) (store : Contents) (old new : Row) (b : Bool) (l : Logical) (id : TypeId) → IsTypedBy t store → HoldsType t id → LogicalIsTyped t l → logical_of t l ≡ judgement_sign b
    → type_of t id ≡ logical_type (judgement_sign b) → Puts old new (op.Known (Logic l) id) → Grew t store old new (Ok (judgement_head b))
grew_judgement t store old new b l id typed held l_typed sign is p =
    grew_known t store old new (Logic l) id (Ok (judgement_head b)) typed held
    (record { held = tt; typed = l_typed; is = λ G. ap (λ k. Some (logical_type k)) sign ∙ ap Some (sym is) })
    (ap (λ k. Ok (known (logical k) (logical_type (judgement_sign b)))) (sym sign) ∙ ap (λ A. Ok (known (logical (logical_of t l)) A)) (sym is)) p

-- a constant that each table has
pub grew_constant : (t : Table) → IsTable t → (store : Contents) (old new : Row) (text : Name) (A : Ty) (id : ConstId) (ty : TypeId) → IsTypedBy t store → signature first_entries text ≡ Some A
    → HoldsConstant t id → (constant_of t id).name ≡ text → HoldsType t ty → signature t (constant_of t id).name ≡ Some (type_of t ty)
    → Puts old new (op.Known (Const id) ty) → Grew t store old new (Ok (known (constant text) A))
grew_constant t table store old new text A id ty typed first held name ty_held has p =
    let is : type_of t ty ≡ A = some_same t table (sym has ∙ (ap (signature t) name ∙ constant_type t table text A first)) in
    grew_known t store old new (Const id) ty (Ok (known (constant text) A)) typed ty_held (record { held = tt; typed = held; is = λ G. has })
    (ap (λ x. Ok (known (constant x) A)) (sym name) ∙ ap (λ B. Ok (known (constant (constant_of t id).name) B)) (sym is)) p

pub grew_same : {t : Table} {store : Contents} {old new : Row} {f g : Found} → f ≡ g → Grew t store old new f → Grew t store old new g
grew_same {t} {store} {old} {new} e a = subst (Grew t store old new) e a

-- an item that is put before a list
pub put_before_is : (f g : Found) → made_of_both names.behind f (made_of_both names.apply (Ok before_list) g) ≡ made_of_both put_before f g
put_before_is (Ok l) (Ok t) = refl
put_before_is (Ok l) (Err x) = refl
put_before_is (Err x) g = refl

module _ (s : Scope) (bs : List Name) where
  pub items_fail : (f : Found) (x : Name) (vs : Trees) → f ≡ Err x → items_before s bs f vs ≡ Err x
  items_fail f x tree.no_trees e = e
  items_fail f x (tree.tree v vs) e = items_fail (made_of_both put_before f (resolved s bs v)) x vs (first_fails put_before f (resolved s bs v) x e)

  -- the list of a judgement
  by_first : (b c : Bool) (x y : Found) → b ≡ c → (if b then x else y) ≡ (if c then x else y)
  by_first b c x y e = ap (λ d. if d then x else y) e

  pub begins_with_list : (c : Tree) (cs : Trees) → is_list c ≡ true → context s bs (tree.tree c cs) ≡ items_before s bs (resolved s bs c) cs
  begins_with_list c cs e = ap (λ f. items_before s bs f cs) (by_first (is_list c) true (resolved s bs c) (made_of_both put_before (Ok empty_list) (resolved s bs c)) e)

  pub begins_with_item : (c : Tree) (cs : Trees) → is_list c ≡ false → context s bs (tree.tree c cs) ≡ items_before s bs (Ok empty_list) (tree.tree c cs)
  begins_with_item c cs e = ap (λ f. items_before s bs f cs) (by_first (is_list c) false (resolved s bs c) (made_of_both put_before (Ok empty_list) (resolved s bs c)) e)

  -- the item of a number, where those before it stand before the list
  module _ (types : Table) (store : Contents) (old row : Row) (whole : Found) (vs : List Parse) (i : ℕ) (v : Parse) (a : IsListed types store old row s bs whole vs i) (l : i < length vs) (at : v ≡ get_or vs i v) where
    next : items_before s bs (made_of_both put_before a.found (resolved s bs (tree_of v))) (trees_of (map tree_of (drop (suc i) vs))) ≡ whole
    next = ap (λ ws. items_before s bs a.found (trees_of (map tree_of ws))) (sym (from_here vs i v l at)) ∙ a.rest

    pub item_fails : (x : Name) → made_of_both names.apply (Ok before_list) (resolved s bs (tree_of v)) ≡ Err x → whole ≡ Err x
    item_fails x e =
        sym next ∙ items_fail (made_of_both put_before a.found (resolved s bs (tree_of v))) x (trees_of (map tree_of (drop (suc i) vs)))
        (sym (put_before_is a.found (resolved s bs (tree_of v))) ∙ second_fails names.behind a.found (made_of_both names.apply (Ok before_list) (resolved s bs (tree_of v))) (erase a.grew.sketch) x a.grew.is e)

    pub item_put : (t : Table) (mid new : Row) → IsExtendedBy types t → Grew t store row mid (made_of_both names.apply (Ok before_list) (resolved s bs (tree_of v))) → Puts mid new op.Behind
        → IsListed t store old new s bs whole vs (i + 1)
    item_put t mid new e g p = record {
      found = made_of_both put_before a.found (resolved s bs (tree_of v));
      grew = subst (Grew t store old new) (put_before_is a.found (resolved s bs (tree_of v)))
          (grew_behind store types t old row mid new a.found (made_of_both names.apply (Ok before_list) (resolved s bs (tree_of v))) e a.grew g p);
      rest = rw (add-one) next;
    }

  -- a judgement
  module _ (t : Parse) (cs : Items Parse) (f : Option (Box Parse Global)) (g : Box Parse Global) (p : ℕ) (vs : List Parse) (h : Parse) (is : t ≡ parse.Judge cs f g p) (given : vs ≡ list_of cs) (at : h ≡ g.value) where
    abbrev list : Found
    list = context s bs (trees_of (map tree_of vs))

    judgement_whole : resolved s bs (tree_of t) ≡ judgement s bs list (focus_tree f) (resolved s bs (tree_of h))
    judgement_whole =
        ap (resolved s bs) (ap tree_of is ∙ tree_judge cs f g p)
        ∙ (ap (λ ws. judgement s bs (context s bs (trees_of (map tree_of ws))) (focus_tree f) (resolved s bs (tree_of g.value))) (sym given)
        ∙ ap (λ u. judgement s bs list (focus_tree f) (resolved s bs (tree_of u))) (sym at))

    pub list_fails : (x : Name) → list ≡ Err x → resolved s bs (tree_of t) ≡ Err x
    list_fails x e = judgement_whole ∙ (ap (λ l. judgement s bs l (focus_tree f) (resolved s bs (tree_of h))) e ∙ failed f)
      where
        failed : (o : Option (Box Parse Global)) → judgement s bs (Err x) (focus_tree o) (resolved s bs (tree_of h)) ≡ Err x
        failed None = refl
        failed (Some b) = refl

    pub unfocused_whole : f ≡ None → resolved s bs (tree_of t) ≡ made_of_both names.apply (made_of_both names.apply (Ok (judgement_head false)) list) (resolved s bs (tree_of h))
    unfocused_whole e = judgement_whole ∙ ap (λ o. judgement s bs list (focus_tree o) (resolved s bs (tree_of h))) e

    pub focused_whole : (b : Box Parse Global) (u : Parse) → f ≡ Some b → u ≡ b.value
        → resolved s bs (tree_of t) ≡ made_of_both names.apply (made_of_both names.apply (made_of_both names.apply (Ok (judgement_head true)) list) (resolved s bs (tree_of u))) (resolved s bs (tree_of h))
    focused_whole b u e c =
        judgement_whole ∙ (ap (λ o. judgement s bs list (focus_tree o) (resolved s bs (tree_of h))) e
        ∙ ap (λ w. made_of_both names.apply (made_of_both names.apply (made_of_both names.apply (Ok (judgement_head true)) list) (resolved s bs (tree_of w))) (resolved s bs (tree_of h))) (sym c))

-- where names are bound as before, and types were added, items are resolved as before
module _ (s t : Table) (store : Contents) (scope : AScope) (bs cs : List Bound) (adds : AddsTypes s t) (held : HoldsScope s store scope) (same : cs ≡ bs) where
  pub same_list : (vs : Trees) → context (scope_of t store scope) (names_in cs) vs ≡ context (scope_of s store scope) (names_in bs) vs
  same_list vs = ap (λ x. context x (names_in cs) vs) (same_scope s t adds store scope held) ∙ ap (λ ds. context (scope_of s store scope) (names_in ds) vs) same

  pub same_before : (f : Found) (vs : Trees) → items_before (scope_of t store scope) (names_in cs) f vs ≡ items_before (scope_of s store scope) (names_in bs) f vs
  same_before f vs = ap (λ x. items_before x (names_in cs) f vs) (same_scope s t adds store scope held) ∙ ap (λ ds. items_before (scope_of s store scope) (names_in ds) f vs) same

  pub same_given : (f : Found) (e : Tree) → made_of_both names.apply f (resolved (scope_of t store scope) (names_in cs) e) ≡ made_of_both names.apply f (resolved (scope_of s store scope) (names_in bs) e)
  same_given f e = ap (made_of_both names.apply f) (same_place s t store scope bs cs e adds held same)

-- a head that was given its list
pub grew_list : (s t u : Table) (store : Contents) (scope : AScope) (r0 r1 r2 r3 : Row) (head : Resolved) (vs : Trees) → AddsTypes s t → HoldsScope s store scope → IsExtendedBy t u → Grew t store r0 r1 (Ok head)
    → Grew u store r1 r2 (context (scope_of t store scope) (names_in r1.bound.items) vs) → Puts r2 r3 op.Apply
    → Grew u store r0 r3 (made_of_both names.apply (Ok head) (context (scope_of s store scope) (names_in r0.bound.items) vs))
grew_list s t u store scope r0 r1 r2 r3 head vs adds held e a b p =
    grew_apply store t u r0 r1 r2 r3 (Ok head) (context (scope_of s store scope) (names_in r0.bound.items) vs) e a
    (subst (Grew u store r1 r2) (same_list s t store scope r0.bound.items r1.bound.items adds held a.bound vs) b) p

-- what is of another form
pub no_application : (e : Parse) → ((h : Box Parse Global) (vs : Items Parse) (p : ℕ) → e ≡ parse.Apply h vs p → ⊥) → IsApplication e → ⊥
no_application e never a = never a.0 a.1 a.2 a.3

pub no_judgement : (e : Parse) → ((cs : Items Parse) (f : Option (Box Parse Global)) (g : Box Parse Global) (p : ℕ) → e ≡ parse.Judge cs f g p → ⊥) → IsJudgement e → ⊥
no_judgement e never a = never a.0 a.1 a.2 a.3 a.4
