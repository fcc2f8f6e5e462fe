-- The walk that makes terms: what it makes of a node from what it made of the parts, and what it keeps.
use Rattle.std.proofs.Common.{◌≡◌, ◌⊎◌, inl, inr, ℕ, suc, ◌+◌, ◌≤◌, List, [], ◌∷◌, map, Option, None, Some, Bool, true, false, not, ◌==◌, Decides, Result, Ok, Err, OnOk, refl, sym, ◌∙◌, ap, subst, add-one}
use Rattle.std.specs.List.{All}
use Rattle.std.proofs.lemmas.Bool.Decides.{Decides-eqb}
use Rattle.ab_term.specs.Types.{Ty}
use Rattle.ab_term.specs.Terms as tree
use Rattle.ab_term.specs.Terms.{lam, spine, Terms, no_terms, term, terms_of, Variable, Read}
use Rattle.ab_term.specs.Names.{moved_by, rename_head, rename, rename_all, support}
use Rattle.ab_term.specs.Substitution.{reduce, substitute, substitute_all, lower_head, put}
use Rattle.ab_term.specs.Reach.{raise_head, raise, raise_all, reach}
use Rattle.ab_term.proofs.Reaching.{raise-none, raise-more, raise-short, substitute_by-short}
use Rattle.ab_term.specs.Variables.{image_by, image_all_by}
use Rattle.ab_store.specs.ab_types.specs.Entries.{Table}
use Rattle.ab_store.specs.ab_types.specs.Ids.{HoldsType, type_of}
use Rattle.ab_store.specs.ab_types.specs.declared.ids.TypeId.{TypeId}
use Rattle.ab_store.specs.declared.node.TermId.{TermId}
use Rattle.ab_store.specs.declared.node.Head.{Head}
use Rattle.ab_store.specs.declared.node.Node.{Node}
use Rattle.ab_store.specs.declared.node.Node.TheVariants.{Lam, Spine}
use Rattle.ab_store.specs.Trees.{Contents, Holds, tree_of, head_in, head_reading, node_tree}
use Rattle.ab_store.specs.Growth.{IsExtendedBy}
use Rattle.ab_store.specs.Naming.{HeadIsTyped, NodeIsTyped, IsTypedBy}
use Rattle.ab_norm.specs.declared.nominal.Swap.{Swap}
use Rattle.ab_norm.specs.declared.term_walks.Change.{Change}
use Rattle.ab_norm.specs.declared.term_walks.Change.TheVariants.{Raise, Put, Rename}
use Rattle.ab_norm.specs.declared.memo.Memo.{Memo}
use Rattle.ab_norm.specs.WalkMemory.{answer_of}
use Rattle.ab_norm.specs.Nominals.{pairs_of}
use Rattle.ab_norm.specs.NodeGrowth.{AddsTerms}
use Rattle.ab_norm.specs.Changes.{changed, head_changed, Fits, Suits, Remembers, AddsFor}
use Rattle.ab_store.proofs.Growing.{extended_itself, extended_on}
use Rattle.ab_norm.proofs.Frame.{still_read_before}
use Rattle.ab_norm.proofs.Renamed.{stays}

pub not_true : (b : Bool) → not b ≡ true → b ≡ false
not_true true e = absurd (cc)
not_true false e = refl

pub one_term : (a b : TermId) → Decides (a.0 == b.0) (a ≡ b)
one_term a b = (λ e. ap (λ n. record { 0 = n }) ((Decides-eqb a.0 b.0).0 e), λ e. (Decides-eqb a.0 b.0).1 (ap (λ (i : TermId). i.0) e))

-- terms that stay as they are

module _ (types : Table) (s : Contents) (c : Change) (k : ℕ) (t : Read) where
  pub stays_by_none : (by : ℕ) → c ≡ Raise by → by ≡ 0 → changed types s c k t ≡ t
  stays_by_none by is none = ap (λ c. changed types s c k t) is ∙ ap (λ d. raise d k t) none ∙ raise-none t k

  pub stays_raised : (by : ℕ) → c ≡ Raise by → reach t ≤ k → changed types s c k t ≡ t
  stays_raised by is l = ap (λ c. changed types s c k t) is ∙ raise-short t by k l

  pub stays_put : (a : TypeId) (u : TermId) → c ≡ Put a u → reach t ≤ k → changed types s c k t ≡ t
  stays_put a u is l = ap (λ c. changed types s c k t) is ∙ substitute_by-short t (reduce (type_of types a)) (raise k 0 (tree_of types s u)) k l

  pub stays_renamed : (table : List Swap) → c ≡ Rename table → support t ≡ [] → changed types s c k t ≡ t
  stays_renamed table is none = ap (λ c. changed types s c k t) is ∙ stays (moved_by (pairs_of types table)) t none

-- the form of the walk

pub map_twice : {X Y Z : Type 0} (f : Y → Z) (g : X → Y) (xs : List X) → map f (map g xs) ≡ map (λ x. f (g x)) xs
map_twice f g [] = refl
map_twice f g (x ∷ xs) = ap (λ l. f (g x) ∷ l) (map_twice f g xs)

raised_all : (by k : ℕ) (rs : List Read) → raise_all by k (terms_of rs) ≡ terms_of (map (raise by k) rs)
raised_all by k [] = refl
raised_all by k (r ∷ rs) = ap (term (raise by k r)) (raised_all by k rs)

substituted_all : (A : Ty) (u : Read) (k : ℕ) (rs : List Read) → substitute_all A u k (terms_of rs) ≡ terms_of (map (substitute A u k) rs)
substituted_all A u k [] = refl
substituted_all A u k (r ∷ rs) = ap (term (substitute A u k r)) (substituted_all A u k rs)

renamed_all : (f : tree.Nominal → tree.Nominal) (rs : List Read) → rename_all f (terms_of rs) ≡ terms_of (map (rename f) rs)
renamed_all f [] = refl
renamed_all f (r ∷ rs) = ap (term (rename f r)) (renamed_all f rs)

pub filled_all : (f : Variable ℕ → Option Read) (rs : List Read) → image_all_by f (terms_of rs) ≡ terms_of (map (image_by f) rs)
filled_all f [] = refl
filled_all f (r ∷ rs) = ap (term (image_by f r)) (filled_all f rs)

module _ (types : Table) (s : Contents) where
  changed_lam : (c : Change) (k : ℕ) (A : Ty) (x : List ℕ) (t : Read) → changed types s c k (lam A x t) ≡ lam A x (changed types s c (k + 1) t)
  changed_lam (Raise by) k A x t = ap (λ j. lam A x (raise by j t)) (sym (add-one k))
  changed_lam (Put a u) k A x t =
      ap (λ w. lam A x (substitute (type_of types a) w (suc k) t)) (sym (raise-more (tree_of types s u) k 0))
      ∙ ap (λ j. lam A x (substitute (type_of types a) (raise j 0 (tree_of types s u)) j t)) (sym (add-one k))
  changed_lam (Rename table) k A x t = refl

  changed_spine : (c : Change) (k : ℕ) (h : tree.Head ℕ) (rs : List Read) → changed types s c k (spine h (terms_of rs)) ≡ head_changed types s c k h (terms_of (map (changed types s c k) rs))
  changed_spine (Raise by) k h rs = ap (spine (raise_head by k h)) (raised_all by k rs)
  changed_spine (Put a u) k h rs = ap (put (reduce (type_of types a)) (raise k 0 (tree_of types s u)) (lower_head k h)) (substituted_all (type_of types a) (raise k 0 (tree_of types s u)) k rs)
  changed_spine (Rename table) k h rs = ap (spine (rename_head (moved_by (pairs_of types table)) h)) (renamed_all (moved_by (pairs_of types table)) rs)

-- a store that has grown

module _ (types : Table) (s0 s1 : Contents) (more : IsExtendedBy s0 s1) where
  pub fits_on : (c : Change) → Fits types s0 c → Fits types s1 c
  fits_on (Raise by) f = tt
  fits_on (Put a u) f = (f.0, more.ids u f.1)
  fits_on (Rename table) f = tt

  pub changed_on : (c : Change) (k : ℕ) (t : Read) → Fits types s0 c → changed types s1 c k t ≡ changed types s0 c k t
  changed_on (Raise by) k t f = refl
  changed_on (Put a u) k t f = ap (λ w. substitute (type_of types a) (raise k 0 w) k t) (more.trees types u f.1)
  changed_on (Rename table) k t f = refl

  pub head_changed_on : (c : Change) (k : ℕ) (h : tree.Head ℕ) (ts : Terms ℕ (List ℕ)) → Fits types s0 c → head_changed types s1 c k h ts ≡ head_changed types s0 c k h ts
  head_changed_on (Raise by) k h ts f = refl
  head_changed_on (Put a u) k h ts f = ap (λ w. put (reduce (type_of types a)) (raise k 0 w) (lower_head k h) ts) (more.trees types u f.1)
  head_changed_on (Rename table) k h ts f = refl

  -- what is made of a term is that of it in the grown store
  pub changed_there : (c : Change) (k : ℕ) (t r : TermId) → Fits types s0 c → Holds s0 t
      → tree_of types s1 r ≡ changed types s0 c k (tree_of types s0 t) → tree_of types s1 r ≡ changed types s1 c k (tree_of types s1 t)
  changed_there c k t r f h e = e ∙ sym (changed_on c k (tree_of types s0 t) f) ∙ ap (changed types s1 c k) (sym (more.trees types t h))

  pub remembers_on : (c : Change) (m : Memo) → Fits types s0 c → Remembers types s0 c m → Remembers types s1 c m
  remembers_on c m f known t r k e =
      let was = known t r k e in
      (more.ids t was.0, more.ids r was.1, changed_there c k t r f was.0 (more.trees types r was.1 ∙ was.2))

-- one answer more
pub remembers_more : (types : Table) (s : Contents) (c : Change) (old new : Memo) (id made : TermId) (depth : ℕ)
    → Remembers types s c old → Holds s id → Holds s made → tree_of types s made ≡ changed types s c depth (tree_of types s id)
    → ((t : TermId) (k : ℕ) → (answer_of new t k ≡ answer_of old t k) ⊎ ((t ≡ id) × (k ≡ depth) × (answer_of new t k ≡ Some made)))
    → Remembers types s c new
remembers_more types s c old new id made depth known held out reads keeps t r k e = go (keeps t k)
  where
    go : (answer_of new t k ≡ answer_of old t k) ⊎ ((t ≡ id) × (k ≡ depth) × (answer_of new t k ≡ Some made))
        → Holds s t × Holds s r × (tree_of types s r ≡ changed types s c k (tree_of types s t))
    go (inl same) = known t r k (sym same ∙ e)
    go (inr new_one) =
        let is : made ≡ r = cc (sym new_one.2 ∙ e) in (
          subst (Holds s) (sym new_one.0) held,
          subst (Holds s) is out,
          ap (tree_of types s) (sym is) ∙ reads ∙ ap (λ j. changed types s c j (tree_of types s id)) (sym new_one.1) ∙ ap (λ i. changed types s c k (tree_of types s i)) (sym new_one.0),
        )

pub remembers_none : (types : Table) (s : Contents) (c : Change) (m : Memo) → ((t : TermId) (k : ℕ) → answer_of m t k ≡ None) → Remembers types s c m
remembers_none types s c m none t r k e = absurd (cc (sym (none t k) ∙ e))

-- growth

pub adds_for_none : (c : Change) (s : Contents) → AddsFor c s s
adds_for_none c s = record { before = extended_itself s; cells = refl; typed = λ types suits typed. typed }

pub adds_for_on : (c : Change) (r s t : Contents) → AddsFor c r s → AddsFor c s t → AddsFor c r t
adds_for_on c r s t e f = record {
  before = extended_on r s t e.before f.before;
  cells = f.cells ∙ e.cells;
  typed = λ types suits typed. f.typed types suits (e.typed types suits typed);
}

pub adds_terms : (c : Change) (s t : Contents) → ((types : Table) → Suits types c) → AddsFor c s t → AddsTerms s t
adds_terms c s t suits e = record { before = e.before; cells = e.cells; typed = λ types typed. e.typed types (suits types) typed }

-- a node, from its parts

module _ (types : Table) (s0 s1 s2 : Contents) (c : Change) (k : ℕ) (t r : TermId) (n : Node) (reads : tree_of types s0 t ≡ node_tree types s0 n) where
  pub made_lam : (below : ℕ) (ty : TypeId) (x : List ℕ) (body inner : TermId) → n ≡ Lam ty x body
      → changed types s0 c below (tree_of types s0 body) ≡ changed types s0 c (k + 1) (tree_of types s0 body)
      → tree_of types s1 inner ≡ changed types s0 c below (tree_of types s0 body)
      → tree_of types s2 r ≡ lam (type_of types ty) x (tree_of types s1 inner)
      → tree_of types s2 r ≡ changed types s0 c k (tree_of types s0 t)
  made_lam below ty x body inner is deeper here made =
      made ∙ ap (lam (type_of types ty) x) (here ∙ deeper)
      ∙ sym (changed_lam types s0 c k (type_of types ty) x (tree_of types s0 body))
      ∙ sym (ap (changed types s0 c k) (reads ∙ ap (node_tree types s0) is))

  pub made_spine : (h : Head) (args given made : List TermId) → n ≡ Spine h args → IsExtendedBy s0 s1 → s1.cells ≡ s0.cells → Fits types s0 c → given ≡ args
      → map (tree_of types s1) made ≡ map (λ t. changed types s0 c k (tree_of types s0 t)) given
      → tree_of types s2 r ≡ head_changed types s1 c k (head_reading types s1 h) (terms_of (map (tree_of types s1) made))
      → tree_of types s2 r ≡ changed types s0 c k (tree_of types s0 t)
  made_spine h args given made is more cells fits same here put =
      put
      ∙ head_changed_on types s0 s1 more c k (head_reading types s1 h) (terms_of (map (tree_of types s1) made)) fits
      ∙ ap (λ cs. head_changed types s0 c k (head_in types cs h) (terms_of (map (tree_of types s1) made))) cells
      ∙ ap (λ l. head_changed types s0 c k (head_reading types s0 h) (terms_of l)) (here ∙ ap (map (λ t. changed types s0 c k (tree_of types s0 t))) same ∙ sym (map_twice (changed types s0 c k) (tree_of types s0) args))
      ∙ sym (changed_spine types s0 c k (head_reading types s0 h) (map (tree_of types s0) args))
      ∙ sym (ap (changed types s0 c k) (reads ∙ ap (node_tree types s0) is))

module _ (c : Change) (s0 s1 s2 : Contents) (n : Node) (typed : (types : Table) → IsTypedBy types s0 → NodeIsTyped types n)
    (adds : AddsFor c s0 s1) (more : IsExtendedBy s1 s2) (cells : s2.cells ≡ s1.cells) where
  pub adds_for_lam : (ty : TypeId) (x : List ℕ) (body : TermId) → n ≡ Lam ty x body
      → ((types : Table) → IsTypedBy types s1 → HoldsType types ty → IsTypedBy types s2) → AddsFor c s0 s2
  adds_for_lam ty x body is made = record {
    before = extended_on s0 s1 s2 adds.before more;
    cells = cells ∙ adds.cells;
    typed = λ types suits h. made types (adds.typed types suits h) (subst (NodeIsTyped types) is (typed types h));
  }

  pub adds_for_spine : (h : Head) (ts : List TermId) → n ≡ Spine h ts
      → ((types : Table) → Suits types c → IsTypedBy types s1 → HeadIsTyped types h → IsTypedBy types s2) → AddsFor c s0 s2
  adds_for_spine h ts is made = record {
    before = extended_on s0 s1 s2 adds.before more;
    cells = cells ∙ adds.cells;
    typed = λ types suits d. made types suits (adds.typed types suits d) (subst (NodeIsTyped types) is (typed types d));
  }

pub always_ok : {T E : Type 0} {P : Type 0} (r : Result T E) → P → OnOk r P
always_ok (Ok v) p = p
always_ok (Err e) p = tt

-- the term that is put in for a head takes its arguments
module _ (types : Table) (s0 s1 s2 : Contents) (c : Change) (k : ℕ) where
  pub put_named : (a : TypeId) (u lifted r : TermId) (h : Head) (args given : List TermId) → c ≡ Put a u → IsExtendedBy s0 s1 → All (Holds s0) args → given ≡ args
      → None ≡ lower_head k (head_reading types s0 h)
      → tree_of types s1 lifted ≡ raise k 0 (tree_of types s0 u)
      → tree_of types s2 r ≡ reduce (type_of types a) (tree_of types s1 lifted) (terms_of (map (tree_of types s1) given))
      → tree_of types s2 r ≡ head_changed types s0 c k (head_reading types s0 h) (terms_of (map (tree_of types s0) args))
  put_named a u lifted r h args given is more held same name here reduced =
      reduced
      ∙ ap (λ w. reduce (type_of types a) w (terms_of (map (tree_of types s1) given))) here
      ∙ ap (λ l. reduce (type_of types a) (raise k 0 (tree_of types s0 u)) (terms_of l)) (ap (map (tree_of types s1)) same ∙ still_read_before types s0 s1 args more held)
      ∙ ap (λ o. put (reduce (type_of types a)) (raise k 0 (tree_of types s0 u)) o (terms_of (map (tree_of types s0) args))) name
      ∙ sym (ap (λ d. head_changed types s0 d k (head_reading types s0 h) (terms_of (map (tree_of types s0) args))) is)
