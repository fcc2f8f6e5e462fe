-- Written types, from their parts.
use Rattle.std.proofs.Common.{◌≡◌, not, ◌⊎◌, inl, inr, ℕ, zero, suc, ◌<◌, List, [], ◌∷◌, length, get_or, Bool, true, false, refl, sym, ◌∙◌, ap, arith, Box, Global}
use Rattle.std.specs.Prelude.{Ok, Err, Contains, codes, bytes_eq, ◌||◌, ◌&&◌}
use Rattle.std.specs.Cmp.Lexicographic.{bytes_decides}
use Rattle.ab_term.specs.Types.{Ty, kind, arrow}
use Rattle.ab_store.specs.ab_types.specs.Entries.{Table, kinds, IsExtendedBy}
use Rattle.ab_store.specs.ab_types.specs.Ids.{HoldsType, type_of}
use Rattle.ab_store.specs.ab_types.specs.declared.ids.TypeId.{TypeId}
use Rattle.ab_inference.proofs.Tables.{same_reading}
use Rattle.ab_grammar.specs.Tree as tree
use Rattle.ab_syntax.specs.ab_expressions.specs.SyntaxTrees.{type_step}
use Rattle.ab_syntax.specs.ab_expressions.specs.SyntaxTrees as trees
use Rattle.ab_syntax.specs.ab_expressions.specs.declared.tree.TypeParse.{TypeParse}
use Rattle.ab_syntax.specs.ab_expressions.specs.declared.tree.TypeParse.TheVariants.{rolls-Base, rolls-Arrow}
use Rattle.ab_syntax.specs.ab_expressions.specs.declared.tree.TypeParse.TheVariants as parse
use Rattle.ab_syntax.specs.ab_expressions.specs.declared.tree.TypeParse.TheFolds.{fold-roll-TypeParse}
use Rattle.ab_meaning.specs.Types.{is_listed, written_type, arrow_of}
use Rattle.ab_inference.specs.declared.fault.InferFault.{InferFault}
use Rattle.ab_inference.specs.declared.fault.InferFault.TheVariants.{Unknown, TypeClash, Untyped, Memory}
use Rattle.ab_inference.specs.declared.written_types.Written.{Written}
use Rattle.ab_inference.specs.WrittenTypes.{WrittenAnswers, KindAnswers}

pub type_base : (x : List ℕ) (p : ℕ) → trees.type_of (parse.Base x p) ≡ tree.base x p
type_base x p = ap trees.type_of (sym (rolls-Base x p)) ∙ fold-roll-TypeParse tree.Ty type_step _

pub type_arrow : (a b : Box TypeParse Global) → trees.type_of (parse.Arrow a b) ≡ tree.arrow (trees.type_of a.value) (trees.type_of b.value)
type_arrow a b = ap trees.type_of (sym (rolls-Arrow a b)) ∙ fold-roll-TypeParse tree.Ty type_step _

listed : (ks : List (List ℕ)) (x : List ℕ) (k : ℕ) → k < length ks → get_or ks k x ≡ x → is_listed ks x ≡ true
listed [] x k l e = absurd (omega arith)
listed (y ∷ ys) x zero l e = ap (λ b. b || is_listed ys x) ((bytes_decides y x).1 e)
listed (y ∷ ys) x (suc k) l e = go (bytes_eq y x) (listed ys x k (omega arith) e)
  where
    go : (b : Bool) → is_listed ys x ≡ true → (b || is_listed ys x) ≡ true
    go true h = refl
    go false h = h

contained : (ks : List (List ℕ)) (x : List ℕ) → is_listed ks x ≡ true → Contains ks x
contained [] x e = absurd (cc)
contained (y ∷ ys) x e = go (bytes_eq y x) refl (contained ys x) e
  where
    go : (b : Bool) → bytes_eq y x ≡ b → (is_listed ys x ≡ true → Contains ys x) → (b || is_listed ys x) ≡ true → Contains (y ∷ ys) x
    go true s f h = (zero, omega arith, (bytes_decides y x).0 s)
    go false s f h = let r = f h in (suc r.0, omega (arith, r.1), r.2)

is_contained : (ks : List (List ℕ)) (x : List ℕ) → ((Contains ks x → ⊥) → ⊥) → Contains ks x
is_contained ks x n = go (is_listed ks x) refl
  where
    go : (b : Bool) → is_listed ks x ≡ b → Contains ks x
    go true e = contained ks x e
    go false e = absurd (n (λ c. let h = listed ks x c.0 c.1 c.2 in cc))

pub kind_known : (ks : List (List ℕ)) (x : List ℕ) (p : ℕ) → Contains ks x → written_type ks (tree.base x p) ≡ Ok (kind x)
kind_known ks x p c = rw (listed ks x c.0 c.1 c.2)

pub kind_unknown : (ks : List (List ℕ)) (x : List ℕ) (p : ℕ) → (Contains ks x → ⊥) → written_type ks (tree.base x p) ≡ Err x
kind_unknown ks x p n = go (is_listed ks x) refl
  where
    go : (b : Bool) → is_listed ks x ≡ b → written_type ks (tree.base x p) ≡ Err x
    go true e = absurd (n (contained ks x e))
    go false e = rw e

-- a kind
pub kind_answer : (old new : Table) (x : List ℕ) (is_free : Bool) (id : TypeId) → (¬ (¬ Contains (kinds old) x)) → HoldsType new id → type_of new id ≡ kind x → is_free ≡ not (bytes_eq x (codes "prop"))
    → KindAnswers old new x (Ok (record { ty = id; is_free = is_free; is_declarable = true }))
kind_answer old new x is_free id c h e f p = (
  kind x,
  record { reads = kind_known (kinds old) x p (is_contained (kinds old) x c); held = h; is = e },
  (λ t k. told (bytes_eq x (codes "prop")) refl (sym f ∙ t) (kind_inj k)),
  (λ t n. n (ap kind (denied (bytes_eq x (codes "prop")) refl (sym f ∙ t)))),
  (λ _. tt),
  (λ t. absurd (cc)),
)
  where
    kind_inj : {y z : List ℕ} → kind y ≡ kind z → y ≡ z
    kind_inj g = cc

    told : (b : Bool) → bytes_eq x (codes "prop") ≡ b → not b ≡ true → x ≡ codes "prop" → ⊥
    told true s t same = cc
    told false s t same = let g = (bytes_decides x (codes "prop")).1 same in cc

    denied : (b : Bool) → bytes_eq x (codes "prop") ≡ b → not b ≡ false → x ≡ codes "prop"
    denied true s t = (bytes_decides x (codes "prop")).0 s
    denied false s t = absurd (cc)

pub kind_none : (old new : Table) (x : List ℕ) → (Contains (kinds old) x → ⊥) → KindAnswers old new x (Err (Unknown x))
kind_none old new x n p = kind_unknown (kinds old) x p n

-- the first part that isn't read
pub first_fails : (old new newer : Table) (a b : tree.Ty) (f : InferFault) → WrittenAnswers old new a (Err f) → WrittenAnswers old newer (tree.arrow a b) (Err f)
first_fails old new newer a b (Unknown x) h = ap (λ r. arrow_of r (written_type (kinds old) b)) h
first_fails old new newer a b (TypeClash p) h = h
first_fails old new newer a b (Untyped p) h = h
first_fails old new newer a b (Memory m) h = tt

pub second_fails : (old mid new : Table) (a b : tree.Ty) (A : Ty) (f : InferFault) → written_type (kinds old) a ≡ Ok A → kinds mid ≡ kinds old → WrittenAnswers mid new b (Err f) → WrittenAnswers old new (tree.arrow a b) (Err f)
second_fails old mid new a b A (Unknown x) e k h = ap (λ r. arrow_of r (written_type (kinds old) b)) e ∙ ap (arrow_of (Ok A)) (ap (λ ks. written_type ks b) (sym k) ∙ h)
second_fails old mid new a b A (TypeClash p) e k h = h
second_fails old mid new a b A (Untyped p) e k h = h
second_fails old mid new a b A (Memory m) e k h = tt

and_true : (a b : Bool) → (a && b) ≡ true → (a ≡ true) × (b ≡ true)
and_true true b e = (refl, e)
and_true false b e = absurd (cc)

and_false : (a b : Bool) → (a && b) ≡ false → (a ≡ false) ⊎ (b ≡ false)
and_false true b e = inr e
and_false false b e = inl refl

pub arrow_answer : (old mid new newer : Table) (a b : tree.Ty) (r t : Written) (id : TypeId) → WrittenAnswers old mid a (Ok r) → WrittenAnswers mid new b (Ok t) → kinds mid ≡ kinds old → IsExtendedBy mid new
    → HoldsType newer id → type_of newer id ≡ arrow (type_of new r.ty) (type_of new t.ty) → (f d : Bool) → f ≡ (r.is_free && t.is_free) → d ≡ (r.is_free && t.is_declarable)
    → WrittenAnswers old newer (tree.arrow a b) (Ok (record { ty = id; is_free = f; is_declarable = d }))
arrow_answer old mid new newer a b r t id (A, ra, fa, na, da, ma) (B, rb, fb, nb, db, mb) k more held is f d f_is d_is = (
  arrow A B,
  record {
    reads = ap (λ x. arrow_of x (written_type (kinds old) b)) ra.reads ∙ ap (arrow_of (Ok A)) (ap (λ ks. written_type ks b) (sym k) ∙ rb.reads);
    held = held;
    is = is ∙ (ap (λ C. arrow C (type_of new t.ty)) (same_reading mid new more r.ty ra.held ∙ ra.is) ∙ ap (λ C. arrow A C) rb.is);
  },
  (λ e. let g = and_true r.is_free t.is_free (sym f_is ∙ e) in (fa g.0, fb g.1)),
  (λ e h. either (and_false r.is_free t.is_free (sym f_is ∙ e)) (λ g. na g h.0) (λ g. nb g h.1)),
  (λ e. let g = and_true r.is_free t.is_declarable (sym d_is ∙ e) in (fa g.0, db g.1)),
  (λ e h. either (and_false r.is_free t.is_declarable (sym d_is ∙ e)) (λ g. na g h.0) (λ g. mb g h.1)),
)
  where
    either : {P Q : Type 0} → P ⊎ Q → (P → ⊥) → (Q → ⊥) → ⊥
    either (inl p) g h = g p
    either (inr q) g h = h q

pub arrow_whole : (parsed x y : TypeParse) (a b : Box TypeParse Global) → parsed ≡ parse.Arrow a b → x ≡ a.value → y ≡ b.value → trees.type_of parsed ≡ tree.arrow (trees.type_of x) (trees.type_of y)
arrow_whole parsed x y a b e f g = ap trees.type_of e ∙ (type_arrow a b ∙ (ap (λ p. tree.arrow (trees.type_of p) (trees.type_of b.value)) (sym f) ∙ ap (λ p. tree.arrow (trees.type_of x) (trees.type_of p)) (sym g)))
