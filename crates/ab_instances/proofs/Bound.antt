-- Cells that are bound one against one, and what terms read as then.
use Rattle.std.proofs.Common.{◌≡◌, ◌≢◌, ◌⊎◌, inl, inr, ℕ, zero, suc, ◌+◌, ◌<◌, List, [], ◌∷◌, ◌++◌, map, take, length, get_or, Bool, true, false, cond, ◌==◌, Some, None, Decides, refl, sym, ◌∙◌, ap, subst, arith, length-take-le}
use Rattle.std.specs.Prelude.{AllPairs, Contains}
use Rattle.std.specs.List.{All}
use Rattle.std.proofs.lemmas.Bool.Decides.{Decides-eqb}
use Rattle.std.proofs.lemmas.List.{take_more}
use Rattle.std.proofs.lemmas.List.Elements.{All-head, All-tail, All-nil, All-cons}
use Rattle.ab_term.specs.Types.{Ty, prop}
use Rattle.ab_term.specs.Terms.{Variable, Term, Read}
use Rattle.ab_term.specs.Typing.{Signature, HasType}
use Rattle.ab_term.specs.Variables.{Substitution, variables, value_in, image, one_by_one, at_once, IsTyped}
use Rattle.ab_term.specs.Sameness.{same_number, same_numbered}
use Rattle.ab_term.proofs.Compositions.{image_typed}
use Rattle.ab_term.proofs.Depends.{image_unmoved}
use Rattle.ab_term.proofs.InOrder.{one_by_one-at_once}
use Rattle.ab_term.proofs.Lists.{Contains-none, Contains-here, Contains-there, Contains-cases, Contains-map, AllPairs-parts, All-from_contains}
use Rattle.ab_term.proofs.Same.{same_numbered-Decides}
use Rattle.ab_norm.specs.ab_types.specs.Entries.{Table, signature}
use Rattle.ab_norm.specs.ab_types.specs.Ids.{type_of}
use Rattle.ab_norm.specs.ab_store.specs.declared.node.Node.{Node}
use Rattle.ab_norm.specs.ab_store.specs.declared.node.TermId.{TermId}
use Rattle.ab_norm.specs.ab_store.specs.declared.node.CellId.{CellId}
use Rattle.ab_norm.specs.ab_store.specs.declared.node.CellEntry.{CellEntry}
use Rattle.ab_norm.specs.ab_store.specs.declared.node.Binding.{Binding}
use Rattle.ab_norm.specs.ab_store.specs.Trees.{Contents, Holds, HoldsCell, cell_in, cell_of, term_at, terms_from, tree_of}
use Rattle.ab_norm.specs.ab_store.specs.Reading.{bound_in, reading, pairs, cell_variable}
use Rattle.ab_norm.specs.ab_store.specs.Bindings.{cells_of, StandsIn, IsUnbound, IsResolved}
use Rattle.ab_norm.specs.ab_store.specs.Naming.{IsTerm}
use Rattle.ab_norm.specs.ab_store.proofs.Cells.{stands}
use Rattle.ab_unifiers.specs.Clauses.{Each, put_together}
use Rattle.ab_unify.specs.Problem.{variables_read}
use Rattle.ab_instances.specs.ListReadings.{trees_at}
use Rattle.ab_instances.specs.CellBindings.{bound_to, IsFor, CanBeBound}

module _ {X Y : Type 0} where
  pub each_at : (R : X → Y → Type 0) (xs : List X) (ys : List Y) (i : ℕ) (d : X) (e : Y) → Each R xs ys → i < length xs → R (get_or xs i d) (get_or ys i e)
  each_at R [] ys i d e h l = absurd (omega (arith, l))
  each_at R (x ∷ xs) [] i d e h l = absurd h
  each_at R (x ∷ xs) (y ∷ ys) zero d e h l = h.0
  each_at R (x ∷ xs) (y ∷ ys) (suc i) d e h l = each_at R xs ys i d e h.1 (let k : i < length xs = omega (arith, l) in k)

  pub each_length : (R : X → Y → Type 0) (xs : List X) (ys : List Y) → Each R xs ys → length ys ≡ length xs
  each_length R [] [] h = refl
  each_length R [] (y ∷ ys) h = absurd h
  each_length R (x ∷ xs) [] h = absurd h
  each_length R (x ∷ xs) (y ∷ ys) h = ap suc (each_length R xs ys h.1)

  pub each_over : (R Q : X → Y → Type 0) → ((x : X) (y : Y) → R x y → Q x y) → (xs : List X) (ys : List Y) → Each R xs ys → Each Q xs ys
  each_over R Q w [] [] e = tt
  each_over R Q w [] (y ∷ ys) e = absurd e
  each_over R Q w (x ∷ xs) [] e = absurd e
  each_over R Q w (x ∷ xs) (y ∷ ys) e = (w x y e.0, each_over R Q w xs ys e.1)

module _ {X : Type 0} where
  pub contains_at : (xs : List X) (i : ℕ) (d : X) → i < length xs → Contains xs (get_or xs i d)
  contains_at [] i d l = absurd (omega (arith, l))
  contains_at (x ∷ xs) zero d l = Contains-here x xs
  contains_at (x ∷ xs) (suc i) d l = Contains-there x xs (get_or xs i d) (contains_at xs i d (let k : i < length xs = omega (arith, l) in k))

  pub contains_front : (xs : List X) (i : ℕ) (a : X) → Contains (take i xs) a → Contains xs a
  contains_front [] zero a c = c
  contains_front [] (suc i) a c = c
  contains_front (x ∷ xs) zero a c = absurd (Contains-none a c)
  contains_front (x ∷ xs) (suc i) a c = go (contains_front xs i a) (Contains-cases x (take i xs) a c)
    where
      go : (Contains (take i xs) a → Contains xs a) → (x ≡ a) ⊎ Contains (take i xs) a → Contains (x ∷ xs) a
      go later (inl e) = subst (Contains (x ∷ xs)) e (Contains-here x xs)
      go later (inr r) = Contains-there x xs a (later r)

  -- in a list of different ones none stands among those before it
  pub not_before : (xs : List X) → AllPairs (λ a b. a ≢ b) xs → (i : ℕ) (d : X) → i < length xs → Contains (take i xs) (get_or xs i d) → ⊥
  not_before [] all i d l c = absurd (omega (arith, l))
  not_before (x ∷ xs) all zero d l c = Contains-none x c
  not_before (x ∷ xs) all (suc i) d l c =
      let parts = AllPairs-parts (λ a b. a ≢ b) x xs all in
      let within : i < length xs = omega (arith, l) in
      go (parts.0 i d within) (not_before xs parts.1 i d within) (Contains-cases x (take i xs) (get_or xs i d) c)
    where
      go : (x ≡ get_or xs i d → ⊥) → (Contains (take i xs) (get_or xs i d) → ⊥) → (x ≡ get_or xs i d) ⊎ Contains (take i xs) (get_or xs i d) → ⊥
      go first later (inl e) = first e
      go first later (inr r) = later r

pub bound_to_none : (cs : List CellId) (ts : List TermId) (c : CellId) → (Contains cs c → ⊥) → bound_in (bound_to cs ts) c ≡ None
bound_to_none [] ts c n = refl
bound_to_none (d ∷ cs) [] c n = refl
bound_to_none (d ∷ cs) (t ∷ ts) c n = go (d.0 == c.0) (Decides-eqb d.0 c.0) (bound_to_none cs ts c (λ m. n (Contains-there d cs c m)))
  where
    go : (b : Bool) → Decides b (d.0 ≡ c.0) → bound_in (bound_to cs ts) c ≡ None → cond b (Some t) (bound_in (bound_to cs ts) c) ≡ None
    go true e rest = absurd (n (subst (Contains (d ∷ cs)) (ap (λ (k : ℕ). record { 0 = k }) (e.0 refl)) (Contains-here d cs)))
    go false e rest = rest

pub bound_push : (cs : List CellId) (ts : List TermId) (c : CellId) (t : TermId) → length ts ≡ length cs → bound_to (cs ++ c ∷ []) (ts ++ t ∷ []) ≡ bound_to cs ts ++ record { cell = c; term = t } ∷ []
bound_push [] [] c t l = refl
bound_push [] (u ∷ ts) c t l = absurd (omega (arith, l))
bound_push (d ∷ cs) [] c t l = absurd (omega (arith, l))
bound_push (d ∷ cs) (u ∷ ts) c t l = ap (λ bs. record { cell = d; term = u } ∷ bs) (bound_push cs ts c t (let k : length ts ≡ length cs = omega (arith, l) in k))

pub bound_cells : (cs : List CellId) (ts : List TermId) → length ts ≡ length cs → map (λ (b : Binding). b.cell) (bound_to cs ts) ≡ cs
bound_cells [] ts l = refl
bound_cells (c ∷ cs) [] l = absurd (omega (arith, l))
bound_cells (c ∷ cs) (t ∷ ts) l = ap (λ r. c ∷ r) (bound_cells cs ts (let k : length ts ≡ length cs = omega (arith, l) in k))

-- trees depend on nodes and cells alone
pub same_tree : (types : Table) (s t : Contents) → t.nodes ≡ s.nodes → t.cells ≡ s.cells → (r : TermId) → tree_of types t r ≡ tree_of types s r
same_tree types s t nodes cells r =
    ap (λ (ns : List Node). term_at types (terms_from types t.cells [] ns) r) nodes
    ∙ ap (λ (cs : List CellEntry). term_at types (terms_from types cs [] s.nodes) r) cells

pub same_trees : (types : Table) (s t : Contents) → t.nodes ≡ s.nodes → t.cells ≡ s.cells → (rs : List TermId) → trees_at types t rs ≡ trees_at types s rs
same_trees types s t nodes cells [] = refl
same_trees types s t nodes cells (r ∷ rs) = ap (λ u. u ∷ trees_at types t rs) (same_tree types s t nodes cells r) ∙ ap (λ l. tree_of types s r ∷ l) (same_trees types s t nodes cells rs)

pub same_term : (types : Table) (s t : Contents) → t.nodes ≡ s.nodes → t.cells ≡ s.cells → (G : List Ty) (r : TermId) (A : Ty) → IsTerm types s G r A → IsTerm types t G r A
same_term types s t nodes cells G r A is = (subst (λ (ns : List Node). r.0 < length ns) (sym nodes) is.0, subst (λ u. HasType (signature types) G u A) (sym (same_tree types s t nodes cells r)) is.1)

pub same_cells_of : (s t : Contents) → t.nodes ≡ s.nodes → t.cells ≡ s.cells → (r : TermId) → cells_of t r ≡ cells_of s r
same_cells_of s t nodes cells r = ap (λ u. map (λ (v : Variable ℕ). record { 0 = v.name }) (variables u)) (same_tree [] s t nodes cells r)

module _ (types : Table) (s t : Contents) (nodes : t.nodes ≡ s.nodes) (cells : t.cells ≡ s.cells) where
  pub still_for : (all : List CellId) (c : CellId) (r : TermId) → IsFor types s all c r → IsFor types t all c r
  still_for all c r h = record {
    held = subst (λ (cs : List CellEntry). c.0 < length cs) (sym cells) h.held;
    typed = subst (λ (cs : List CellEntry). IsTerm types t [] r (type_of types (cell_in cs c).ty)) (sym cells) (same_term types s t nodes cells [] r (type_of types (cell_of s c).ty) h.typed);
    apart = λ d m. h.apart d (subst (λ l. Contains l d) (same_cells_of s t nodes cells r) m);
  }

  pub still_bindable : (cs : List CellId) (ts : List TermId) → CanBeBound types s cs ts → CanBeBound types t cs ts
  still_bindable cs ts h = record {
    different = h.different;
    each = each_over (IsFor types s cs) (IsFor types t cs) (still_for cs) cs ts h.each;
  }

-- while the first i are bound
module _ (types : Table) (s r : Contents) (nodes : r.nodes ≡ s.nodes) (same : r.cells ≡ s.cells) (cells : List CellId) (terms : List TermId) (fit : CanBeBound types s cells terms) (i : ℕ) (d : CellId) (e : TermId)
    (within : i < length cells) (bindings : r.bindings ≡ bound_to (take i cells) (take i terms)) where
  here : IsFor types r cells (get_or cells i d) (get_or terms i e)
  here = each_at (IsFor types r cells) cells terms i d e (still_bindable types s r nodes same cells terms fit).each within

  unbound_if : (c : CellId) → (Contains (take i cells) c → ⊥) → IsUnbound r c
  unbound_if c n = ap (λ bs. bound_in bs c) bindings ∙ bound_to_none (take i cells) (take i terms) c n

  pub next_held : HoldsCell r (get_or cells i d)
  next_held = here.held

  pub next_unbound : IsUnbound r (get_or cells i d)
  next_unbound = unbound_if (get_or cells i d) (not_before cells fit.different i d within)

  pub next_typed : IsTerm types r [] (get_or terms i e) (type_of types (cell_of r (get_or cells i d)).ty)
  next_typed = here.typed

  pub next_apart : StandsIn r (get_or cells i d) (get_or terms i e) → ⊥
  next_apart m = here.apart (get_or cells i d) m (contains_at cells i d within)

  pub next_resolved : IsResolved r (get_or terms i e)
  next_resolved = All-from_contains (IsUnbound r) (cells_of r (get_or terms i e)) (λ c m. unbound_if c (λ b. here.apart c m (contains_front cells i c b)))

-- the bindings as a substitution
pairs_of : (types : Table) (t : Contents) (cs : List CellId) (ts : List TermId) → map (λ (b : Binding). (cell_variable types t b.cell, tree_of types t b.term)) (bound_to cs ts) ≡ put_together (variables_read types t cs) (trees_at types t ts)
pairs_of types t [] ts = refl
pairs_of types t (c ∷ cs) [] = refl
pairs_of types t (c ∷ cs) (u ∷ ts) = ap (λ l. (cell_variable types t c, tree_of types t u) ∷ l) (pairs_of types t cs ts)

pub pairs_are : (types : Table) (s t : Contents) → t.nodes ≡ s.nodes → t.cells ≡ s.cells → (cs : List CellId) (ts : List TermId) → t.bindings ≡ bound_to cs ts → pairs types t ≡ put_together (variables_read types s cs) (trees_at types s ts)
pairs_are types s t nodes cells cs ts e =
    ap (map (λ (b : Binding). (cell_variable types t b.cell, tree_of types t b.term))) e
    ∙ pairs_of types t cs ts
    ∙ ap (λ l. put_together (variables_read types t cs) l) (same_trees types s t nodes cells ts)
    ∙ ap (λ (es : List CellEntry). put_together (map (λ (c : CellId). record { name = c.0; type = type_of types (cell_in es c).ty }) cs) (trees_at types s ts)) cells

-- where none of the variables stands in what is put in, one after another is at once
module _ {Hint : Type 0} where
  abbrev pub Apart : Substitution ℕ Hint → Term ℕ Hint → Type 0
  Apart s t = (y : Variable ℕ) → Contains (variables t) y → value_in same_number s y ≡ None

  pub at_once_is : (s q : Substitution ℕ Hint) → ((y : Variable ℕ) → value_in same_number q y ≡ None → value_in same_number s y ≡ None) → All (λ p. Apart q p.1) s → at_once same_number s ≡ s
  at_once_is [] q w all = refl
  at_once_is (p ∷ s) q w all =
      let rest : (y : Variable ℕ) → value_in same_number q y ≡ None → value_in same_number s y ≡ None = λ y e. behind (same_numbered p.0 y) y (w y e) in
      let same : at_once same_number s ≡ s = at_once_is s q rest (All-tail (λ p. Apart q p.1) p s all) in
      ap (λ l. (p.0, image same_number l p.1) ∷ l) same
      ∙ ap (λ t. (p.0, t) ∷ s) (image_unmoved (value_in same_number s) p.1 (λ y m. rest y (All-head (λ p. Apart q p.1) p s all y m)))
    where
      behind : (b : Bool) (y : Variable ℕ) → cond b (Some p.1) (value_in same_number s y) ≡ None → value_in same_number s y ≡ None
      behind true y e = absurd (cc)
      behind false y e = e

  pub in_turn_is : (sg : Signature) (s : Substitution ℕ Hint) → IsTyped sg s → All (λ p. Apart s p.1) s → (G : List Ty) (t : Term ℕ Hint) (A : Ty) → HasType sg G t A → one_by_one same_number s t ≡ image same_number s t
  in_turn_is sg s typed all G t A d = one_by_one-at_once sg same_number s typed d ∙ ap (λ l. image same_number l t) (at_once_is s s (λ y e. e) all)

-- what is not listed isn't found
pub not_found : (types : Table) (s : Contents) (cs : List CellId) (us : List Read) (y : Variable ℕ) → ((c : CellId) → Contains cs c → y.name ≡ c.0 → ⊥) → value_in same_number (put_together (variables_read types s cs) us) y ≡ None
not_found types s [] us y n = refl
not_found types s (c ∷ cs) [] y n = refl
not_found types s (c ∷ cs) (u ∷ us) y n = go (same_numbered (cell_variable types s c) y) refl (not_found types s cs us y (λ d m e. n d (Contains-there c cs d m) e))
  where
    go : (b : Bool) → same_numbered (cell_variable types s c) y ≡ b → value_in same_number (put_together (variables_read types s cs) us) y ≡ None
        → cond b (Some u) (value_in same_number (put_together (variables_read types s cs) us) y) ≡ None
    go true e rest = absurd (n c (Contains-here c cs) (ap (λ (v : Variable ℕ). v.name) (sym ((same_numbered-Decides (cell_variable types s c) y).0 e))))
    go false e rest = rest

module _ (types : Table) (s : Contents) (all : List CellId) where
  apart_of : (us : List Read) (c : CellId) (t : TermId) → IsFor types s all c t → Apart (put_together (variables_read types s all) us) (tree_of types s t)
  apart_of us c t h y m = not_found types s all us y (λ d k e. h.apart d (stands types s d t (subst (Contains (map (λ (v : Variable ℕ). v.name) (variables (tree_of types s t)))) e (Contains-map (λ (v : Variable ℕ). v.name) (variables (tree_of types s t)) y m))) k)

  all_apart : (us : List Read) (cs : List CellId) (ts : List TermId) → Each (IsFor types s all) cs ts → All (λ p. Apart (put_together (variables_read types s all) us) p.1) (put_together (variables_read types s cs) (trees_at types s ts))
  all_apart us [] ts e = All-nil (λ (p : Variable ℕ × Read). Apart (put_together (variables_read types s all) us) p.1)
  all_apart us (c ∷ cs) [] e = absurd e
  all_apart us (c ∷ cs) (t ∷ ts) e = All-cons (λ (p : Variable ℕ × Read). Apart (put_together (variables_read types s all) us) p.1) (cell_variable types s c, tree_of types s t) (put_together (variables_read types s cs) (trees_at types s ts)) (apart_of us c t e.0) (all_apart us cs ts e.1)

  all_typed : (cs : List CellId) (ts : List TermId) → Each (IsFor types s all) cs ts → IsTyped (signature types) (put_together (variables_read types s cs) (trees_at types s ts))
  all_typed [] ts e = All-nil (λ (p : Variable ℕ × Read). HasType (signature types) [] p.1 p.0.type)
  all_typed (c ∷ cs) [] e = absurd e
  all_typed (c ∷ cs) (t ∷ ts) e = All-cons (λ (p : Variable ℕ × Read). HasType (signature types) [] p.1 p.0.type) (cell_variable types s c, tree_of types s t) (put_together (variables_read types s cs) (trees_at types s ts)) e.0.typed.1 (all_typed cs ts e.1)

-- WHAT A TERM READS AS while the cells are bound to the terms
module _ (types : Table) (s t : Contents) (nodes : t.nodes ≡ s.nodes) (same : t.cells ≡ s.cells) (cells : List CellId) (terms : List TermId) (fit : CanBeBound types s cells terms) (bindings : t.bindings ≡ bound_to cells terms) where
  pub bound_typed : IsTyped (signature types) (put_together (variables_read types s cells) (trees_at types s terms))
  bound_typed = all_typed types s cells cells terms fit.each

  pub bound_reads : (G : List Ty) (r : TermId) (A : Ty) → IsTerm types s G r A → reading types t r ≡ image same_number (put_together (variables_read types s cells) (trees_at types s terms)) (tree_of types s r)
  bound_reads G r A is =
      ap (λ l. one_by_one same_number l (tree_of types t r)) (pairs_are types s t nodes same cells terms bindings)
      ∙ ap (one_by_one same_number (put_together (variables_read types s cells) (trees_at types s terms))) (same_tree types s t nodes same r)
      ∙ in_turn_is (signature types) (put_together (variables_read types s cells) (trees_at types s terms)) bound_typed (all_apart types s cells (trees_at types s terms) cells terms fit.each) G (tree_of types s r) A is.1

  -- a copy with the bindings put in, once they are undone
  pub copied_reads : (u v : Contents) (r q : TermId) → v.nodes ≡ u.nodes → v.cells ≡ u.cells → IsTerm types s [] r prop → Holds u q → tree_of types u q ≡ reading types t r
      → IsTerm types v [] q prop × (tree_of types v q ≡ image same_number (put_together (variables_read types s cells) (trees_at types s terms)) (tree_of types s r))
  copied_reads u v r q n c is held e =
      let reads = same_tree types u v n c q ∙ e ∙ bound_reads [] r prop is in (
        (
          subst (λ (ns : List Node). q.0 < length ns) (sym n) held,
          subst (λ w. HasType (signature types) [] w prop) (sym reads) (image_typed (signature types) same_number (put_together (variables_read types s cells) (trees_at types s terms)) bound_typed is.1),
        ),
        reads,
      )

-- one binding more
pub bound_more : (cs : List CellId) (ts : List TermId) (i : ℕ) (d : CellId) (e : TermId) → i < length cs → length ts ≡ length cs
    → bound_to (take i cs) (take i ts) ++ record { cell = get_or cs i d; term = get_or ts i e } ∷ [] ≡ bound_to (take (i + 1) cs) (take (i + 1) ts)
bound_more cs ts i d e l same =
    let in_ts : i < length ts = omega (arith, l, same) in
    let front : length (take i ts) ≡ length (take i cs) = length-take-le i ts (omega (arith, l, same)) ∙ sym (length-take-le i cs (omega (arith, l))) in
    sym (bound_push (take i cs) (take i ts) (get_or cs i d) (get_or ts i e) front)
    ∙ sym (ap (λ l. bound_to l (take (i + 1) ts)) (take_more cs i d l) ∙ ap (bound_to (take i cs ++ get_or cs i d ∷ [])) (take_more ts i e in_ts))
