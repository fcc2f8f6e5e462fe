-- An alternative is put together: what was made before, as it is in the end.
use Rattle.std.specs.Prelude.{slice_index_or}
use Rattle.std.specs.List.{All}
use Rattle.std.proofs.Common.{◌≡◌, ℕ, suc, ◌+◌, List, [], ◌∷◌, map, codes, refl, sym, ◌∙◌, ap, subst, arith}
use Rattle.std.proofs.lemmas.List.Elements.{All-nil, All-cons, All-head, All-tail}
use Rattle.ab_term.specs.Types.{Ty, kind, prop, arrow}
use Rattle.ab_term.specs.Terms.{terms_of}
use Rattle.ab_term.specs.Typing.{TakeType, take_term}
use Rattle.ab_term.specs.Constants.{Constant, type_in}
use Rattle.ab_norm.specs.ab_types.specs.Entries.{Table, signature}
use Rattle.ab_norm.specs.ab_types.specs.Ids.{type_of}
use Rattle.ab_norm.specs.ab_types.specs.declared.ids.ConstId.{ConstId}
use Rattle.ab_norm.specs.ab_store.specs.declared.node.TermId.{TermId}
use Rattle.ab_norm.specs.ab_store.specs.declared.node.CellId.{CellId}
use Rattle.ab_norm.specs.ab_store.specs.declared.node.CellEntry.{CellEntry}
use Rattle.ab_norm.specs.ab_store.specs.Trees.{Contents, Holds, HoldsCell, tree_of, cell_of}
use Rattle.ab_norm.specs.ab_store.specs.Naming.{IsTypedBy}
use Rattle.ab_norm.specs.TypedArguments.{AreTaken}
use Rattle.ab_unify.specs.UnifyAnswers.{IsTypedPair}
use Rattle.ab_unifiers.specs.Alternatives.{arguments_equal}
use Rattle.ab_typing.specs.DefinitionReadings.{name_of, clause_of, HoldsClause}
use Rattle.ab_typing.specs.declared.definitions.ClauseTerm.{ClauseTerm}
use Rattle.ab_unify.specs.Problem.{cell_read, cells_read, variables_read}
use Rattle.ab_unify.specs.StoreChanges.{Grows}
use Rattle.ab_unify.proofs.Growth.{grown_type}
use Rattle.ab_instances.specs.ListReadings.{given_at}
use Rattle.ab_logic.specs.declared.world.World.{World}
use Rattle.ab_logic.proofs.Blocks.{same_clause}
use Rattle.ab_alternatives.specs.LeftAlternatives.{equate, trees_from}

abbrev x : List ℕ
x = codes "x"

-- EQUATIONS

numbers : (k n : ℕ) → k ≡ n → k + 1 ≡ suc n
numbers k n e = omega (arith, e)

-- the equations as they stand
pub equate_trees : (T : Table) (S : Contents) (k n : ℕ) → k ≡ n → (ts us : List TermId) → trees_from T S k (equate ts us) ≡ arguments_equal x n (given_at T S ts) (given_at T S us)
equate_trees T S k n e [] us = refl
equate_trees T S k n e (t ∷ ts) [] = refl
equate_trees T S k n e (t ∷ ts) (u ∷ us) =
    ap (λ p. record { place = p; left = tree_of T S t; right = tree_of T S u } ∷ trees_from T S (k + 1) (equate ts us)) e
    ∙ ap (λ l. record { place = n; left = tree_of T S t; right = tree_of T S u } ∷ l) (equate_trees T S (k + 1) (suc n) (numbers k n e) ts us)

-- each is of terms of one type
pub equate_typed : (T : Table) (S : Contents) (A : Ty) (k l : List ℕ) (ts us : List TermId) → All (Holds S) ts → All (Holds S) us → TakeType (signature T) [] (given_at T S ts) A (kind k) → TakeType (signature T) [] (given_at T S us) A (kind l)
    → All (IsTypedPair T S) (equate ts us)
equate_typed T S A k l [] us h i d e = All-nil (IsTypedPair T S)
equate_typed T S A k l (t ∷ ts) [] h i d e = All-nil (IsTypedPair T S)
equate_typed T S (kind c) k l (t ∷ ts) (u ∷ us) h i d e = elim d [ ]
equate_typed T S (arrow A B) k l (t ∷ ts) (u ∷ us) h i (take_term d ds) (take_term e es) =
    All-cons (IsTypedPair T S) (record { left = t; right = u }) (equate ts us) ([], A, (All-head (Holds S) t ts h, d), (All-head (Holds S) u us i, e))
    (equate_typed T S B k l ts us (All-tail (Holds S) t ts h) (All-tail (Holds S) u us i) ds es)

-- WHAT STAYS

pub given_stays : (T U : Table) (S V : Contents) → Grows T S U V → (ts : List TermId) → All (Holds S) ts → given_at U V ts ≡ given_at T S ts
given_stays T U S V g ts all = ap terms_of (go ts all)
  where
    go : (rs : List TermId) → All (Holds S) rs → map (tree_of U V) rs ≡ map (tree_of T S) rs
    go [] h = refl
    go (r ∷ rs) h = ap (λ t. t ∷ map (tree_of U V) rs) (g.trees r (All-head (Holds S) r rs h)).1 ∙ ap (λ l. tree_of T S r ∷ l) (go rs (All-tail (Holds S) r rs h))

pub still_held : (T U : Table) (S V : Contents) → Grows T S U V → (ts : List TermId) → All (Holds S) ts → All (Holds V) ts
still_held T U S V g [] all = All-nil (Holds V)
still_held T U S V g (t ∷ ts) all = All-cons (Holds V) t ts (g.trees t (All-head (Holds S) t ts all)).0 (still_held T U S V g ts (All-tail (Holds S) t ts all))

pub same_signature : (T U : Table) (S V : Contents) → Grows T S U V → signature U ≡ signature T
same_signature T U S V g = ap type_in g.constants

pub names_same : (T U : Table) (S V : Contents) → Grows T S U V → (ps : List ConstId) → map (name_of U) ps ≡ map (name_of T) ps
names_same T U S V g [] = refl
names_same T U S V g (p ∷ ps) = ap (λ n. n ∷ map (name_of U) ps) (name_same p) ∙ ap (λ ns. name_of T p ∷ ns) (names_same T U S V g ps)
  where
    name_same : (p : ConstId) → name_of U p ≡ name_of T p
    name_same p = ap (λ (cs : List Constant). (slice_index_or cs p.0 (record { name = []; type = prop })).name) g.constants

-- arguments that fit do so later
pub taken_on : (T U : Table) (S V : Contents) → Grows T S U V → (ts : List TermId) (A B : Ty) → All (Holds S) ts → AreTaken T S [] ts A B → AreTaken U V [] ts A B
taken_on T U S V g ts A B all d =
    subst (λ sg. TakeType sg [] (given_at U V ts) A B) (sym (same_signature T U S V g))
    (subst (λ us. TakeType (signature T) [] us A B) (sym (given_stays T U S V g ts all)) d)

module _ (T U : Table) (S V : Contents) (typed : IsTypedBy T S) (g : Grows T S U V) where
  abbrev w : World
  w = record { types = T; store = S; additions = [] }

  abbrev v : World
  v = record { types = U; store = V; additions = [] }

  pub clause_stays : (c : ClauseTerm) → HoldsClause T S c → clause_of U V c ≡ clause_of T S c
  clause_stays c h =
      same_clause w v g.table.0 g.table.1 (λ t m. (g.trees t m).0) (λ t m. (g.trees t m).1) (λ d m. (g.cells d m).0)
      (λ d m. ap (λ A. record { number = d.0; type = A; name = (cell_of V d).hint }) (grown_type T U S V g typed d m) ∙ ap (λ (e : CellEntry). record { number = d.0; type = type_of T (cell_of S d).ty; name = e.hint }) (g.cells d m).1)
      c h

  pub clause_held : (c : ClauseTerm) → HoldsClause T S c → HoldsClause U V c
  clause_held c h = record {
    variables = still_cells c.variables h.variables;
    head = (g.trees c.head h.head).0;
    body = (g.trees c.body h.body).0;
  }
    where
      still_cells : (cs : List CellId) → All (HoldsCell S) cs → All (HoldsCell V) cs
      still_cells [] all = All-nil (HoldsCell V)
      still_cells (d ∷ cs) all = All-cons (HoldsCell V) d cs (g.cells d (All-head (HoldsCell S) d cs all)).0 (still_cells cs (All-tail (HoldsCell S) d cs all))

-- cells read the same where they are the same
pub cells_same : (T : Table) (S V : Contents) → V.cells ≡ S.cells → cells_read T V ≡ cells_read T S
cells_same T S V e = ap (map (cell_read T)) e

pub variables_same : (T : Table) (S V : Contents) → V.cells ≡ S.cells → (cs : List CellId) → variables_read T V cs ≡ variables_read T S cs
variables_same T S V e cs = ap (λ (C : List CellEntry). variables_read T (record { nodes = V.nodes; cells = C; bindings = V.bindings; room = V.room }) cs) e
