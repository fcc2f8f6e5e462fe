-- Variables over constants, in a table and a store that grow.
use Rattle.std.proofs.Common.{◌≡◌, inl, inr, ℕ, suc, ◌+◌, ◌-◌, ◌<◌, ◌≤◌, List, [], ◌∷◌, ◌++◌, map, take, drop, length, get_or, slice_index_or, codes, Result, Ok, Err, OnOk, refl, sym, ◌∙◌, ap, subst, arith, append-nil, length-append, length-take-le}
use Rattle.std.specs.Prelude.{OnErr}
use Rattle.std.specs.List.{All}
use Rattle.std.proofs.Math.Seq.{get_or-append_seam}
use Rattle.std.proofs.lemmas.List.{map-append, append_assoc, get_or-map, length-map, map_more, take_more}
use Rattle.std.proofs.lemmas.List.Elements.{All-head, All-tail, All-nil, All-cons, All-weaker}
use Rattle.ab_term.specs.Types.{Ty, arrow}
use Rattle.ab_term.specs.Terms as tree
use Rattle.ab_term.specs.Terms.{Variable, nominal, variable, Terms, term, no_terms, terms_of}
use Rattle.ab_term.specs.Typing.{HasType}
use Rattle.ab_term.specs.Expansion.{expansion_of, expansion}
use Rattle.ab_term.specs.Abstraction.{over, name_terms}
use Rattle.ab_norm.specs.ab_types.specs.Entries.{Table, a_type, kinds, constants, signature, IsExtendedBy as IsPartOf, FindsOrAdds}
use Rattle.ab_norm.specs.ab_types.specs.Ids.{HoldsType, type_of}
use Rattle.ab_norm.specs.ab_types.specs.declared.ids.TypeId.{TypeId}
use Rattle.ab_norm.specs.ab_types.proofs.Entries.{same_type, type_still_held, kinds-append, constants-append}
use Rattle.ab_norm.specs.ab_store.specs.declared.node.TermId.{TermId}
use Rattle.ab_norm.specs.ab_store.specs.declared.node.CellId.{CellId}
use Rattle.ab_norm.specs.ab_store.specs.Trees.{Contents, Holds, HoldsCell, cell_in, cell_of, tree_of}
use Rattle.ab_norm.specs.ab_store.specs.Reading.{cell_variable}
use Rattle.ab_norm.specs.ab_store.specs.Growth.{IsExtendedBy}
use Rattle.ab_norm.specs.ab_store.specs.Naming.{IsTypedBy, IsTerm}
use Rattle.ab_norm.specs.ab_store.proofs.Tables.{same_tree, still_typed}
use Rattle.ab_norm.proofs.Frame.{still_read_before}
use Rattle.ab_norm.specs.declared.nominal.Nominal.{Nominal}
use Rattle.ab_norm.specs.NodeGrowth.{AddsTypedTerms}
use Rattle.ab_norm.specs.Nominals.{nominal_of, HoldsNominal}
use Rattle.ab_unifiers.specs.Replacements.{Cell}
use Rattle.ab_unifiers.specs.Clauses.{Each, numbered, name_term}
use Rattle.ab_unifiers.specs.Alternatives.{cells_over, made_terms}
use Rattle.ab_unifiers.proofs.Lifting.{made_terms_typed}
use Rattle.ab_unify.specs.Problem.{cell_read, cells_read, variables_read, cells_at}
use Rattle.ab_unify.specs.StoreChanges.{Grows}
use Rattle.ab_unify.proofs.Growth.{one_more, grown_type, grows_on, grows_terms}
use Rattle.ab_unify.proofs.Cells.{cells_same}
use Rattle.ab_instances.specs.ListReadings.{names_read, trees_at}
use Rattle.ab_instances.specs.RaisedCells.{ids_from, given_all}
use Rattle.ab_instances.proofs.Chosen.{rest_is}

abbrev x : List ℕ
x = codes "x"

type_stays : (s t : Table) → IsPartOf s t → (id : TypeId) → HoldsType s id → type_of t id ≡ type_of s id
type_stays s t e id h = ap (λ t. type_of t id) e.1 ∙ same_type s e.0 id h

pub names_stay : (s t : Table) → IsPartOf s t → (ns : List Nominal) → All (HoldsNominal s) ns → names_read t ns ≡ names_read s ns
names_stay s t e [] h = refl
names_stay s t e (a ∷ ns) h =
    ap (λ A. record { number = a.number; type = A } ∷ names_read t ns) (type_stays s t e a.ty (All-head (HoldsNominal s) a ns h))
    ∙ ap (λ l. nominal_of s a ∷ l) (names_stay s t e ns (All-tail (HoldsNominal s) a ns h))

-- one constant more before the type
pub over_reads : (s t u : Table) (ty left r : TypeId) (ns : List Nominal) (d : Nominal) → 1 ≤ length ns → IsPartOf s t → All (HoldsNominal s) ns
    → type_of t left ≡ over (names_read s (take (length ns - 1) (drop 1 ns))) (type_of s ty)
    → type_of u r ≡ arrow (type_of t (slice_index_or ns 0 d).ty) (type_of t left)
    → type_of u r ≡ over (names_read s ns) (type_of s ty)
over_reads s t u ty left r [] d l e h rest made = absurd (omega (arith, l))
over_reads s t u ty left r (a ∷ ns) d l e h rest made =
    made
    ∙ ap (λ A. arrow A (type_of t left)) (type_stays s t e a.ty (All-head (HoldsNominal s) a ns h))
    ∙ ap (arrow (type_of s a.ty)) (rest ∙ ap (λ l. over (names_read s l) (type_of s ty)) (rest_is a ns))

-- a type that is asked for is added at most
module _ {E : Type 0} (s t u : Table) (A : Ty) where
  pub found_kinds : (r : Result TypeId E) → OnOk r (FindsOrAdds t (a_type A) u) → OnErr r (u ≡ t) → kinds t ≡ kinds s → kinds u ≡ kinds s
  found_kinds (Ok id) (inl h) e k = ap kinds h.1 ∙ k
  found_kinds (Ok id) (inr h) e k = ap kinds h.1 ∙ kinds-append t (a_type A ∷ []) ∙ append-nil (kinds t) ∙ k
  found_kinds (Err e) f g k = ap kinds g ∙ k

  pub found_constants : (r : Result TypeId E) → OnOk r (FindsOrAdds t (a_type A) u) → OnErr r (u ≡ t) → constants t ≡ constants s → constants u ≡ constants s
  found_constants (Ok id) (inl h) e k = ap constants h.1 ∙ k
  found_constants (Ok id) (inr h) e k = ap constants h.1 ∙ constants-append t (a_type A ∷ []) ∙ append-nil (constants t) ∙ k
  found_constants (Err e) f g k = ap constants g ∙ k

-- a store that grows with its table
pub grows_with : (T U : Table) (S V : Contents) → IsPartOf T U → kinds U ≡ kinds T → constants U ≡ constants T → IsTypedBy T S → IsExtendedBy S V → IsTypedBy U V → Grows T S U V
grows_with T U S V part k c typed before now = record {
  table = part;
  kinds = k;
  constants = c;
  typed = now;
  trees = λ t h. (before.ids t h, before.trees U t h ∙ ap (λ X. tree_of X S t) part.1 ∙ same_tree T part.0 S typed t);
  cells = λ d h. (before.cell_ids d h, before.cells d h);
  marks = λ m h. before.marks m h;
}

cells_push : (ns : List tree.Nominal) (f : CellId → Cell (List ℕ)) (done : List CellId) (c : CellId) → cells_over x ns (map f (done ++ c ∷ [])) ≡ cells_over x ns (map f done) ++ record { hint = (f c).hint; type = over ns (f c).type } ∷ []
cells_push ns f [] c = refl
cells_push ns f (d ∷ done) c = ap (λ l. record { hint = (f d).hint; type = over ns (f d).type } ∷ l) (cells_push ns f done c)

pub ids_push : {X : Type 0} (n : ℕ) (done : List X) (c : X) → ids_from n (done ++ c ∷ []) ≡ ids_from n done ++ record { 0 = n + length done } ∷ []
ids_push n [] c = ap (λ (k : ℕ). record { 0 = k } ∷ []) (let e : n ≡ n + 0 = omega arith in e)
ids_push n (d ∷ done) c =
    ap (λ l. record { 0 = n } ∷ l) (ids_push (suc n) done c)
    ∙ ap (λ (k : ℕ). record { 0 = n } ∷ ids_from (suc n) done ++ record { 0 = k } ∷ []) (let e : suc n + length done ≡ n + suc (length done) = omega arith in e)

pub ids_length : {X : Type 0} (n : ℕ) (cs : List X) → length (ids_from n cs) ≡ length cs
ids_length n [] = refl
ids_length n (c ∷ cs) = ap suc (ids_length (suc n) cs)

-- how many cells there are
pub count_is : (T0 T : Table) (S0 S : Contents) (ns : List tree.Nominal) (done : List CellId) → cells_read T S ≡ cells_read T0 S0 ++ cells_over x ns (cells_at T0 S0 done) → length S.cells ≡ length S0.cells + length done
count_is T0 T S0 S ns done e =
    sym (length-map S.cells (cell_read T))
    ∙ ap length e
    ∙ length-append (cells_read T0 S0) (cells_over x ns (cells_at T0 S0 done))
    ∙ ap (λ k. k + length (cells_over x ns (cells_at T0 S0 done))) (length-map S0.cells (cell_read T0))
    ∙ ap (λ k. length S0.cells + k) (length-map (cells_at T0 S0 done) (λ c. record { hint = c.hint; type = over ns c.type }) ∙ length-map done (λ c. cell_read T0 (cell_of S0 c)))

module _ (T0 T U : Table) (S0 S V : Contents) (typed : IsTypedBy T0 S0) (old : Grows T0 S0 T S) (new : Grows T S U V) (ns : List Nominal) (held : All (HoldsNominal T0) ns)
    (cell made : CellId) (there : HoldsCell S0 cell) (number : made.0 ≡ length S.cells) (one : length V.cells ≡ length S.cells + 1)
    (hint : (cell_of V made).hint ≡ (cell_of S cell).hint) (ty : type_of U (cell_of V made).ty ≡ over (names_read T ns) (type_of T (cell_of S cell).ty)) where
  made_is : cell_read U (cell_of V made) ≡ record { hint = (cell_of S0 cell).hint; type = over (names_read T0 ns) (type_of T0 (cell_of S0 cell).ty) }
  made_is =
      ap (λ (h : List ℕ). record { hint = h; type = type_of U (cell_of V made).ty }) (hint ∙ ap (λ c. c.hint) (old.cells cell there).1)
      ∙ ap (λ (A : Ty). record { hint = (cell_of S0 cell).hint; type = A })
      (ty ∙ ap (λ l. over l (type_of T (cell_of S cell).ty)) (names_stay T0 T old.table ns held) ∙ ap (over (names_read T0 ns)) (grown_type T0 T S0 S old typed cell there))

  -- one cell more is made
  pub cells_step : (done : List CellId) → cells_read T S ≡ cells_read T0 S0 ++ cells_over x (names_read T0 ns) (cells_at T0 S0 done)
      → cells_read U V ≡ cells_read T0 S0 ++ cells_over x (names_read T0 ns) (cells_at T0 S0 (done ++ cell ∷ []))
  cells_step done before =
      let over_done = cells_over x (names_read T0 ns) (cells_at T0 S0 done) in
      ap (map (cell_read U)) (one_more T U S V old.typed new made number one)
      ∙ map-append (cell_read U) S.cells (cell_of V made ∷ [])
      ∙ ap (λ l. l ++ cell_read U (cell_of V made) ∷ []) (cells_same T U new.table S.cells old.typed.cells ∙ before)
      ∙ ap (λ c. (cells_read T0 S0 ++ over_done) ++ c ∷ []) made_is
      ∙ append_assoc (cells_read T0 S0) over_done _
      ∙ ap (λ l. cells_read T0 S0 ++ l) (sym (cells_push (names_read T0 ns) (λ c. cell_read T0 (cell_of S0 c)) done cell))

-- the new cells, as variables
pub variables_at : {X : Type 0} (T : Table) (S : Contents) (n : ℕ) (pre post : List (Cell (List ℕ))) (cs : List X) → n ≡ length pre → length cs ≡ length post → cells_read T S ≡ pre ++ post → variables_read T S (ids_from n cs) ≡ numbered n post
variables_at T S n pre [] [] e l cells = refl
variables_at T S n pre [] (c ∷ cs) e l cells = absurd (omega (arith, l))
variables_at T S n pre (p ∷ post) [] e l cells = absurd (omega (arith, l))
variables_at T S n pre (p ∷ post) (c ∷ cs) e l cells =
    ap (λ (A : Ty). record { name = n; type = A } ∷ variables_read T S (ids_from (suc n) cs)) type_is
    ∙ ap (λ vs. record { name = n; type = p.type } ∷ vs)
    (variables_at T S (suc n) (pre ++ p ∷ []) post cs (let long = length-append pre (p ∷ []) in omega (arith, e, long)) (let k : length cs ≡ length post = omega (arith, l) in k) (cells ∙ sym (append_assoc pre (p ∷ []) post)))
  where
    within : n < length S.cells
    within =
        let long = length-append pre (p ∷ post) in
        let all : length S.cells ≡ length (pre ++ p ∷ post) = sym (length-map S.cells (cell_read T)) ∙ ap length cells in
        omega (arith, e, long, all)

    type_is : type_of T (cell_of S (record { 0 = n })).ty ≡ p.type
    type_is =
        ap (λ (c : Cell (List ℕ)). c.type) (sym (get_or-map (cell_read T) S.cells n (record { hint = []; ty = record { 0 = 0 } }) p within))
        ∙ ap (λ (c : Cell (List ℕ)). c.type) (ap (λ l. get_or l n p) cells ∙ ap (λ k. get_or (pre ++ p ∷ post) k p) e ∙ get_or-append_seam pre p post p)

terms_of-names : (ns : List tree.Nominal) (A : Ty) → terms_of (map (name_term x) ns) ≡ name_terms x (over ns A) (map nominal ns)
terms_of-names [] A = refl
terms_of-names (a ∷ ns) A = ap (term (expansion x a.type (nominal a))) (terms_of-names ns A)

-- each new cell, given the constants
pub given_is : (T0 T : Table) (S0 S : Contents) (ns : List tree.Nominal) (args : Terms ℕ (List ℕ)) (n : ℕ) (cs : List CellId) → args ≡ terms_of (map (name_term x) ns)
    → ((c : CellId) → HoldsCell S0 c → type_of T (cell_of S c).ty ≡ type_of T0 (cell_of S0 c).ty) → All (HoldsCell S0) cs
    → variables_read T S (ids_from n cs) ≡ numbered n (cells_over x ns (cells_at T0 S0 cs)) → given_all T S args (ids_from n cs) cs ≡ made_terms x n ns (cells_at T0 S0 cs)
given_is T0 T S0 S ns args n [] a same held vs = refl
given_is T0 T S0 S ns args n (c ∷ cs) a same held vs =
    let A : Ty = type_of T0 (cell_of S0 c).ty in
    let z : Variable ℕ = record { name = n; type = over ns A } in
    let v : Variable ℕ = cell_variable T S (record { 0 = n }) in
    let first : v ≡ z = cc in
    let rest : variables_read T S (ids_from (suc n) cs) ≡ numbered (suc n) (cells_over x ns (cells_at T0 S0 cs)) = cc in
    ap (λ B. expansion_of x B (variable v) args ∷ given_all T S args (ids_from (suc n) cs) cs) (same c (All-head (HoldsCell S0) c cs held))
    ∙ ap (λ w. expansion_of x A (variable w) args ∷ given_all T S args (ids_from (suc n) cs) cs) first
    ∙ ap (λ us. expansion_of x A (variable z) us ∷ given_all T S args (ids_from (suc n) cs) cs) (a ∙ terms_of-names ns A)
    ∙ ap (λ l. expansion_of x A (variable z) (name_terms x (over ns A) (map nominal ns)) ∷ l) (given_is T0 T S0 S ns args (suc n) cs a same (All-tail (HoldsCell S0) c cs held) rest)

-- one term more
pub given_push : (T : Table) (S : Contents) (args : Terms ℕ (List ℕ)) (ms cs : List CellId) (m c : CellId) → length ms ≡ length cs
    → given_all T S args (ms ++ m ∷ []) (cs ++ c ∷ []) ≡ given_all T S args ms cs ++ expansion_of x (type_of T (cell_of S c).ty) (variable (cell_variable T S m)) args ∷ []
given_push T S args [] [] m c l = refl
given_push T S args [] (d ∷ cs) m c l = absurd (omega (arith, l))
given_push T S args (k ∷ ms) [] m c l = absurd (omega (arith, l))
given_push T S args (k ∷ ms) (d ∷ cs) m c l = ap (λ r. expansion_of x (type_of T (cell_of S d).ty) (variable (cell_variable T S k)) args ∷ r) (given_push T S args ms cs m c (let e : length ms ≡ length cs = omega (arith, l) in e))

-- they are terms of the old cells' types
pub all_terms : (T0 T : Table) (S0 S : Contents) (n : ℕ) (ns : List tree.Nominal) (cs : List CellId) (ts : List TermId) → All (Holds S) ts → trees_at T S ts ≡ made_terms x n ns (cells_at T0 S0 cs)
    → Each (λ c t. IsTerm T S [] t (type_of T0 (cell_of S0 c).ty)) cs ts
all_terms T0 T S0 S n ns cs ts held e = go cs ts held (subst (Each (λ c u. HasType (signature T) [] u c.type) (cells_at T0 S0 cs)) (sym e) (made_terms_typed (signature T) x n ns (cells_at T0 S0 cs)))
  where
    go : (cs : List CellId) (ts : List TermId) → All (Holds S) ts → Each (λ (c : Cell (List ℕ)) u. HasType (signature T) [] u c.type) (cells_at T0 S0 cs) (trees_at T S ts) → Each (λ c t. IsTerm T S [] t (type_of T0 (cell_of S0 c).ty)) cs ts
    go [] [] h d = tt
    go [] (t ∷ ts) h d = absurd d
    go (c ∷ cs) [] h d = absurd d
    go (c ∷ cs) (t ∷ ts) h d = ((All-head (Holds S) t ts h, d.0), go cs ts (All-tail (Holds S) t ts h) d.1)

pub typed_with : (T U : Table) (S : Contents) → IsPartOf T U → IsTypedBy T S → IsTypedBy U S
typed_with T U S part typed = subst (λ t. IsTypedBy t S) (sym part.1) (still_typed T part.0 S typed)

trees_push : (types : Table) (s t : Contents) → IsExtendedBy s t → (items : List TermId) (r : TermId) → All (Holds s) items → trees_at types t (items ++ r ∷ []) ≡ trees_at types s items ++ tree_of types t r ∷ []
trees_push types s t more items r held = map-append (tree_of types t) items (r ∷ []) ∙ ap (λ l. l ++ tree_of types t r ∷ []) (still_read_before types s t items more held)

-- one constant's form more
pub forms_push : (types : Table) (s t : Contents) → IsExtendedBy s t → (ns : List Nominal) (i : ℕ) (d : Nominal) (items new : List TermId) (r : TermId) → i < length ns → new ≡ items ++ r ∷ [] → All (Holds s) items
    → trees_at types s items ≡ map (name_term x) (names_read types (take i ns)) → tree_of types t r ≡ name_term x (nominal_of types (get_or ns i d))
    → trees_at types t new ≡ map (name_term x) (names_read types (take (i + 1) ns))
forms_push types s t more ns i d items new r l push held before here =
    ap (trees_at types t) push
    ∙ trees_push types s t more items r held
    ∙ ap (λ l. l ++ tree_of types t r ∷ []) before
    ∙ ap (λ u. map (name_term x) (names_read types (take i ns)) ++ u ∷ []) here
    ∙ sym (ap (map (name_term x)) (map_more (nominal_of types) ns i d l) ∙ map-append (name_term x) (names_read types (take i ns)) (nominal_of types (get_or ns i d) ∷ []))

-- one new cell more, given its constants
pub given_more : (types : Table) (s0 s t : Contents) → IsExtendedBy s t → (args : Terms ℕ (List ℕ)) (ms cs : List CellId) (i : ℕ) (d e : CellId) (items new : List TermId) (r : TermId)
    → i < length cs → length ms ≡ length cs → new ≡ items ++ r ∷ [] → All (Holds s) items
    → trees_at types s items ≡ given_all types s0 args (take i ms) (take i cs)
    → tree_of types t r ≡ expansion_of x (type_of types (cell_of s0 (get_or cs i e)).ty) (variable (cell_variable types s0 (get_or ms i d))) args
    → trees_at types t new ≡ given_all types s0 args (take (i + 1) ms) (take (i + 1) cs)
given_more types s0 s t more args ms cs i d e items new r l same push held before here =
    let in_ms : i < length ms = omega (arith, l, same) in
    let front : length (take i ms) ≡ length (take i cs) = length-take-le i ms (omega (arith, l, same)) ∙ sym (length-take-le i cs (omega (arith, l))) in
    ap (trees_at types t) push
    ∙ trees_push types s t more items r held
    ∙ ap (λ l. l ++ tree_of types t r ∷ []) before
    ∙ ap (λ u. given_all types s0 args (take i ms) (take i cs) ++ u ∷ []) here
    ∙ sym (given_push types s0 args (take i ms) (take i cs) (get_or ms i d) (get_or cs i e) front)
    ∙ sym (ap (λ l. given_all types s0 args l (take (i + 1) cs)) (take_more ms i d in_ms) ∙ ap (given_all types s0 args (take i ms ++ get_or ms i d ∷ [])) (take_more cs i e l))

-- a new cell, given the arguments, as it was at the start
pub given_here : (types : Table) (s0 s t : Contents) → IsExtendedBy s0 s → s.cells ≡ s0.cells → (forms args : List TermId) → All (Holds s0) forms → args ≡ forms → (ty : TypeId) (cell made : CellId) (r : TermId) → ty ≡ (cell_of s cell).ty
    → tree_of types t r ≡ expansion_of x (type_of types ty) (variable (cell_variable types s made)) (terms_of (trees_at types s args))
    → tree_of types t r ≡ expansion_of x (type_of types (cell_of s0 cell).ty) (variable (cell_variable types s0 made)) (terms_of (trees_at types s0 forms))
given_here types s0 s t more cells forms args held same ty cell made r of e =
    e
    ∙ ap (λ A. expansion_of x (type_of types A) (variable (cell_variable types s made)) (terms_of (trees_at types s args))) of
    ∙ ap (λ l. expansion_of x (type_of types (cell_of s cell).ty) (variable (cell_variable types s made)) (terms_of l)) (ap (trees_at types s) same ∙ still_read_before types s0 s forms more held)
    ∙ ap (λ cs. expansion_of x (type_of types (cell_in cs cell).ty) (variable (record { name = made.0; type = type_of types (cell_in cs made).ty })) (terms_of (trees_at types s0 forms))) cells

pub names_held : (s t : Table) → IsPartOf s t → (ns : List Nominal) → All (HoldsNominal s) ns → All (HoldsNominal t) ns
names_held s t e ns h = All-weaker (HoldsNominal s) (HoldsNominal t) (λ a l. type_still_held s t e a.ty l) ns h

pub ids_held : {X : Type 0} (n m : ℕ) (cs : List X) → n + length cs ≤ m → All (λ (c : CellId). c.0 < m) (ids_from n cs)
ids_held n m [] l = All-nil (λ (c : CellId). c.0 < m)
ids_held n m (c ∷ cs) l = All-cons (λ (c : CellId). c.0 < m) (record { 0 = n }) (ids_from (suc n) cs) (omega (arith, l)) (ids_held (suc n) m cs (omega (arith, l)))

-- all of it together
module _ (T0 T : Table) (S0 S1 S2 S3 : Contents) (typed : IsTypedBy T0 S0) (grows : Grows T0 S0 T S1) (adds2 : AddsTypedTerms T S1 S2) (adds3 : AddsTypedTerms T S2 S3) (cells : List CellId) (held : All (HoldsCell S0) cells)
    (ns : List Nominal) (names : All (HoldsNominal T0) ns) (made : List CellId) (made_is : made ≡ ids_from (length S0.cells) cells)
    (cells_are : cells_read T S1 ≡ cells_read T0 S0 ++ cells_over x (names_read T0 ns) (cells_at T0 S0 cells)) where
  abbrev post : List (Cell (List ℕ))
  post = cells_over x (names_read T0 ns) (cells_at T0 S0 cells)

  at_store : (S : Contents) → S.cells ≡ S1.cells → variables_read T S (ids_from (length S0.cells) cells) ≡ numbered (length S0.cells) post
  at_store S same = variables_at T S (length S0.cells) (cells_read T0 S0) post cells (sym (length-map S0.cells (cell_read T0)))
      (sym (length-map (cells_at T0 S0 cells) (λ c. record { hint = c.hint; type = over (names_read T0 ns) c.type }) ∙ length-map cells (λ c. cell_read T0 (cell_of S0 c)))) (ap (map (cell_read T)) same ∙ cells_are)

  pub over_made : variables_read T S3 made ≡ numbered (length S0.cells) post
  over_made = ap (variables_read T S3) made_is ∙ at_store S3 (adds3.cells ∙ adds2.cells)

  pub over_held : All (HoldsCell S2) made
  over_held = subst (All (HoldsCell S2)) (sym made_is)
      (ids_held (length S0.cells) (length S2.cells) cells (let all = count_is T0 T S0 S1 (names_read T0 ns) cells cells_are in let same : length S2.cells ≡ length S1.cells = ap length adds2.cells in omega (arith, all, same)))

  module _ (forms terms : List TermId) (forms_are : trees_at T S2 forms ≡ map (name_term x) (names_read T ns)) (terms_are : trees_at T S3 terms ≡ given_all T S2 (terms_of (trees_at T S2 forms)) made cells) where
    pub over_terms : trees_at T S3 terms ≡ made_terms x (length S0.cells) (names_read T0 ns) (cells_at T0 S0 cells)
    over_terms =
        terms_are
        ∙ ap (λ l. given_all T S2 (terms_of (trees_at T S2 forms)) l cells) made_is
        ∙ given_is T0 T S0 S2 (names_read T0 ns) (terms_of (trees_at T S2 forms)) (length S0.cells) cells (ap terms_of (forms_are ∙ ap (map (name_term x)) (names_stay T0 T grows.table ns names)))
        (grown_type T0 T S0 S2 (grows_on T0 T T S0 S1 S2 grows (grows_terms T S1 S2 adds2)) typed) held (at_store S2 adds2.cells)

    pub over_typed : All (Holds S3) terms → Each (λ c t. IsTerm T S3 [] t (type_of T0 (cell_of S0 c).ty)) cells terms
    over_typed all = all_terms T0 T S0 S3 (length S0.cells) (names_read T0 ns) cells terms all over_terms
