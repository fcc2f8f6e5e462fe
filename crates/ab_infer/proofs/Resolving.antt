-- The forms of an expression, resolved from their parts; and what fails in the parts fails in the whole.
use Rattle.std.proofs.Common.{◌≡◌, ℕ, List, [], ◌∷◌, length, map, Option, Some, None, Box, Global, refl, sym, ap, ◌∙◌, subst}
use Rattle.std.specs.Prelude.{Ok, Err, Result, codes, true, false, Bool, if◌then◌else◌}
use Rattle.ab_norm.specs.ab_types.specs.Entries.{Table, IsExtendedBy}
use Rattle.ab_norm.specs.ab_store.specs.Trees.{Contents}
use Rattle.ab_norm.specs.ab_store.specs.Naming.{IsTypedBy}
use Rattle.ab_grammar.specs.declared.Infix.{Infix}
use Rattle.ab_grammar.specs.declared.Infix.TheVariants as sign
use Rattle.ab_grammar.specs.declared.Quant.{Quant}
use Rattle.ab_grammar.specs.Tree as tree
use Rattle.ab_grammar.specs.Tree.{Tree, Trees, Focus, trees_of}
use Rattle.ab_syntax.specs.ab_expressions.specs.declared.tree.Binder.{Binder}
use Rattle.ab_syntax.specs.ab_expressions.specs.declared.tree.Parse.{Parse}
use Rattle.ab_syntax.specs.ab_expressions.specs.declared.tree.Parse.TheVariants.{rolls-Name, rolls-Apply, rolls-Abs, rolls-Join, rolls-Bind, rolls-Judge}
use Rattle.ab_syntax.specs.ab_expressions.specs.declared.tree.Parse.TheVariants as parse
use Rattle.ab_syntax.specs.ab_expressions.specs.declared.tree.Parse.TheFolds.{fold-roll-Parse}
use Rattle.ab_syntax.specs.ab_expressions.specs.declared.items.Items.{Items}
use Rattle.ab_syntax.specs.ab_expressions.specs.Items.{list_of}
use Rattle.ab_syntax.specs.ab_expressions.specs.SyntaxTrees.{tree_of, tree_step, binder_of}
use Rattle.ab_meaning.specs.ResolvedNames as names
use Rattle.ab_meaning.specs.ResolvedNames.{Name, Resolved}
use Rattle.ab_meaning.specs.Scopes.{Scope, Found, made_of, made_of_both, joined, is_pi, resolved, applied, pi_applied, after}
use Rattle.ab_inference.specs.declared.fault.InferFault.{InferFault}
use Rattle.ab_inference.specs.declared.fault.InferFault.TheVariants.{Unknown, TypeClash, Untyped, Memory}
use Rattle.ab_infer.specs.declared.row.Row.{Row}
use Rattle.ab_infer.specs.Rows.{Grew, Fails}
use Rattle.ab_infer.specs.WalkMoves.{MeetsSign, PutsBetween, PutsBehind}
use Rattle.ab_infer.proofs.Growing.{grew_apply, grew_equal}
use Rattle.ab_infer.proofs.Single.{grew_known}

-- the program's trees, one form at a time
pub tree_name : (x : Name) (p : ℕ) → tree_of (parse.Name x p) ≡ tree.name x p
tree_name x p = ap tree_of (sym (rolls-Name x p)) ∙ fold-roll-Parse Tree tree_step _

pub tree_apply : (f : Box Parse Global) (es : Items Parse) (p : ℕ) → tree_of (parse.Apply f es p) ≡ tree.apply (tree_of f.value) (trees_of (map tree_of (list_of es))) p
tree_apply f es p = ap tree_of (sym (rolls-Apply f es p)) ∙ fold-roll-Parse Tree tree_step _

pub tree_abs : (x : Name) (e : Box Parse Global) (p : ℕ) → tree_of (parse.Abs x e p) ≡ tree.abs x (tree_of e.value) p
tree_abs x e p = ap tree_of (sym (rolls-Abs x e p)) ∙ fold-roll-Parse Tree tree_step _

pub tree_join : (o : Infix) (a b : Box Parse Global) (p : ℕ) → tree_of (parse.Join o a b p) ≡ tree.join o (tree_of a.value) (tree_of b.value) p
tree_join o a b p = ap tree_of (sym (rolls-Join o a b p)) ∙ fold-roll-Parse Tree tree_step _

pub tree_bind : (q : Quant) (bs : Items Binder) (e : Box Parse Global) (p : ℕ) → tree_of (parse.Bind q bs e p) ≡ tree.bind q (map binder_of (list_of bs)) (tree_of e.value) p
tree_bind q bs e p = ap tree_of (sym (rolls-Bind q bs e p)) ∙ fold-roll-Parse Tree tree_step _

-- the formula in brackets, where there is one
abbrev pub focus_tree : Option (Box Parse Global) → Focus
focus_tree None = tree.unfocused
focus_tree (Some b) = tree.focused (tree_of b.value)

pub tree_judge : (cs : Items Parse) (f : Option (Box Parse Global)) (g : Box Parse Global) (p : ℕ) → tree_of (parse.Judge cs f g p) ≡ tree.judge (trees_of (map tree_of (list_of cs))) (focus_tree f) (tree_of g.value) p
tree_judge cs None g p = ap tree_of (sym (rolls-Judge cs None g p)) ∙ fold-roll-Parse Tree tree_step _
tree_judge cs (Some b) g p = ap tree_of (sym (rolls-Judge cs (Some b) g p)) ∙ fold-roll-Parse Tree tree_step _

-- an application resolves by its head
by_head : {X : Type 0} (b c : Bool) (x y : X) → b ≡ c → (if b then x else y) ≡ (if c then x else y)
by_head b c x y e = ap (λ d. if d then x else y) e

pub with_head : (s : Scope) (bs : List Name) (f : Tree) (vs : Trees) (p : ℕ) → is_pi f ≡ false → resolved s bs (tree.apply f vs p) ≡ applied s bs (resolved s bs f) vs
with_head s bs f vs p e = by_head (is_pi f) false (pi_applied s bs vs) (applied s bs (resolved s bs f) vs) e

pub with_pi : (s : Scope) (bs : List Name) (f : Tree) (vs : Trees) (p : ℕ) → is_pi f ≡ true → resolved s bs (tree.apply f vs p) ≡ pi_applied s bs vs
with_pi s bs f vs p e = by_head (is_pi f) true (pi_applied s bs vs) (applied s bs (resolved s bs f) vs) e

-- `pi` over another number of arguments than one
pub other_arguments : (s : Scope) (bs : List Name) (es : List Parse) → (length es ≡ 1 → ⊥) → pi_applied s bs (trees_of (map tree_of es)) ≡ Err (codes "pi")
other_arguments s bs [] never = refl
other_arguments s bs (e ∷ []) never = absurd (never refl)
other_arguments s bs (e ∷ (f ∷ es)) never = refl

pub fails_on : {X Y : Type 0} (f : Result X Name) (g : Result Y Name) (e : InferFault) → ((x : Name) → f ≡ Err x → g ≡ Err x) → Fails f e → Fails g e
fails_on f g (Unknown x) h k = h x k
fails_on f g (TypeClash p) h k = k
fails_on f g (Untyped p) h k = k
fails_on f g (Memory m) h k = tt

pub after_fails : (h : Resolved → Found) (f : Found) (x : Name) → f ≡ Err x → after h f ≡ Err x
after_fails h f x e = ap (after h) e

pub made_fails : (h : Resolved → Resolved) (f : Found) (x : Name) → f ≡ Err x → made_of h f ≡ Err x
made_fails h f x e = ap (made_of h) e

pub first_fails : (h : Resolved → Resolved → Resolved) (f g : Found) (x : Name) → f ≡ Err x → made_of_both h f g ≡ Err x
first_fails h f g x e = ap (λ r. made_of_both h r g) e

pub second_fails : (h : Resolved → Resolved → Resolved) (f g : Found) (e : Resolved) (x : Name) → f ≡ Ok e → g ≡ Err x → made_of_both h f g ≡ Err x
second_fails h f g e x i k = ap (λ r. made_of_both h r g) i ∙ ap (made_of (h e)) k

pub all_fail : (s : Scope) (bs : List Name) (f : Found) (x : Name) (vs : Trees) → f ≡ Err x → applied s bs f vs ≡ Err x
all_fail s bs f x tree.no_trees e = e
all_fail s bs f x (tree.tree v vs) e = all_fail s bs (made_of_both names.apply f (resolved s bs v)) x vs (first_fails names.apply f (resolved s bs v) x e)

pub left_fails : (s : Scope) (o : Infix) (f g : Found) (x : Name) → f ≡ Err x → joined s o f g ≡ Err x
left_fails s sign.Arrow f g x e = first_fails _ f g x e
left_fails s sign.Or f g x e = first_fails _ f g x e
left_fails s sign.And f g x e = first_fails _ f g x e
left_fails s sign.Equal f g x e = first_fails _ f g x e
left_fails s sign.Imply f g x e = first_fails _ f g x e
left_fails s sign.With f g x e = first_fails _ f g x e
left_fails s sign.Cons f g x e = first_fails _ f g x e

pub right_fails : (s : Scope) (o : Infix) (f g : Found) (e : Resolved) (x : Name) → f ≡ Ok e → g ≡ Err x → joined s o f g ≡ Err x
right_fails s sign.Arrow f g e x i k = second_fails _ f g e x i k
right_fails s sign.Or f g e x i k = second_fails _ f g e x i k
right_fails s sign.And f g e x i k = second_fails _ f g e x i k
right_fails s sign.Equal f g e x i k = second_fails _ f g e x i k
right_fails s sign.Imply f g e x i k = second_fails _ f g e x i k
right_fails s sign.With f g e x i k = second_fails _ f g e x i k
right_fails s sign.Cons f g e x i k = second_fails _ f g e x i k

-- a sign between two operands
pub grew_join : (store : Contents) (r s t : Table) (o : Infix) (node : Option ℕ) (scope : Scope) (r0 r1 r2 r3 r4 r5 : Row) (f g : Found) → IsTypedBy r store → IsExtendedBy r s → IsExtendedBy s t
    → MeetsSign r store r0 r1 o node → Grew s store r1 r2 f → PutsBetween node r2 r3 → Grew t store r3 r4 g → PutsBehind node r4 r5 → Grew t store r0 r5 (joined scope o f g)
grew_join store r s t o None scope r0 r1 r2 r3 r4 r5 f g typed e h m a between b behind =
    let k = grew_known r store r0 r1 m.head m.type (Ok (names.known _ _)) typed m.connective.held m.connective.fits refl m.puts in
    let left = grew_apply store r s r0 r1 r2 r3 _ f e k a between in
    let whole = grew_apply store s t r0 r3 r4 r5 _ g h left b behind in
    subst (Grew t store r0 r5) (sym (m.connective.joins scope f g)) whole
grew_join store r s t o (Some node) scope r0 r1 r2 r3 r4 r5 f g typed e h m a between b behind =
    subst (λ i. Grew t store r0 r5 (joined scope i f g)) (sym m.equation)
    (grew_equal store s t r0 r1 r2 r4 r5 f g o node h m a (subst (λ q. Grew t store q r4 g) between b) behind)
