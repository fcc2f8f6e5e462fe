-- New cells for the names of variables, and steps in a store that has them.
use Rattle.std.specs.List.{All}
use Rattle.std.proofs.Common.{◌≡◌, ◌⊎◌, inl, inr, ℕ, zero, suc, ◌+◌, ◌<◌, ◌≤◌, List, [], ◌∷◌, ◌++◌, map, length, get_or, Some, refl, sym, ap, ◌∙◌, subst, arith, if◌then◌else◌}
use Rattle.std.specs.Prelude.{bytes_eq}
use Rattle.std.proofs.lemmas.Bool.{cases_lt}
use Rattle.std.proofs.lemmas.List.{length-map, length-append, get_or-map}
use Rattle.std.proofs.lemmas.List.Elements.{All-nil, All-cons, All-head, All-tail}
use Rattle.ab_term.specs.Types.{Ty}
use Rattle.ab_term.specs.Terms as tree
use Rattle.ab_term.specs.Typing.{head_type}
use Rattle.ab_norm.specs.ab_types.specs.Entries.{Table, signature}
use Rattle.ab_norm.specs.ab_types.specs.Ids.{type_of}
use Rattle.ab_norm.specs.ab_types.specs.declared.ids.TypeId.{TypeId}
use Rattle.ab_norm.specs.ab_store.specs.declared.node.CellId.{CellId}
use Rattle.ab_norm.specs.ab_store.specs.declared.node.CellEntry.{CellEntry}
use Rattle.ab_norm.specs.ab_store.specs.declared.node.Head.{Head}
use Rattle.ab_norm.specs.ab_store.specs.declared.node.Head.TheVariants.{Const, Logic, Nominal, Cell, Index}
use Rattle.ab_norm.specs.ab_store.specs.Trees.{Contents, HoldsCell, cell_of, head_in}
use Rattle.ab_norm.specs.ab_store.specs.Growth.{IsExtendedBy}
use Rattle.ab_norm.specs.ab_store.specs.Naming.{HeadNames}
use Rattle.ab_meaning.specs.ResolvedNames.{Name}
use Rattle.ab_inference.specs.declared.assignments.Settled.{Settled}
use Rattle.ab_inference.specs.Assignments.{settled_at}
use Rattle.ab_inference.specs.declared.op.Op.{Op}
use Rattle.ab_inference.specs.declared.op.Op.TheVariants as op
use Rattle.ab_inference.specs.Programs.{item_of, items_of, known_item}
use Rattle.ab_inference.specs.Verdicts.{AreApart, types_found}
use Rattle.ab_inference.proofs.Judging.{number_in, own_number}
use Rattle.ab_infer.specs.NormalTerms.{OpFits, HasHeadType, AreFreeHeads, BecomeHeads, head_at}
use Rattle.ab_formulas.specs.Clauses.{ClauseVariable}
use Rattle.ab_typing.specs.DefinitionReadings.{variable_of}
use Rattle.ab_declare.specs.ClauseMeanings.{place_in, variable_from, variables_from}
use Rattle.ab_declare.specs.JoinedRows.{AreCells, cell_at}

-- PLACES OF NAMES

same_place : (xs : List Name) (x : Name) → place_in xs x ≡ number_in xs x
same_place [] x = refl
same_place (y ∷ ys) x = ap (λ n. if bytes_eq y x then zero else suc n) (same_place ys x)

pub own_place : (names : List Name) → AreApart names → (j : ℕ) → j < length names → place_in names (get_or names j []) ≡ j
own_place names apart j l = same_place names (get_or names j []) ∙ own_number names apart j l

-- THE SAME STEPS, WITH MORE CELLS

module _ (types : Table) (old new : Contents) (more : IsExtendedBy old new) where
  head_later : (h : Head) → HeadNames (length old.cells) h → HeadNames (length new.cells) h × (head_in types new.cells h ≡ head_in types old.cells h)
  head_later (Const c) names = (tt, refl)
  head_later (Logic l) names = (tt, refl)
  head_later (Nominal n a) names = (tt, refl)
  head_later (Cell c) names = (more.cell_ids c names, ap (λ (e : CellEntry). tree.variable (record { name = c.0; type = type_of types e.ty })) (more.cells c names))
  head_later (Index i) names = (tt, refl)

  op_later : (o : Op) → OpFits types old.cells o → OpFits types new.cells o
  op_later (op.Bound i m) f = f
  op_later (op.Known g id) f =
      let h = head_later g f.held in
      record { held = h.0; typed = f.typed; is = λ G. ap (head_type (signature types) G) h.1 ∙ f.is G }
  op_later (op.Free j p) f = f
  op_later op.Apply f = f
  op_later op.Behind f = f
  op_later (op.Abs x m p) f = f
  op_later (op.Equal m) f = f
  op_later (op.Bind q x m p w) f = f

  pub fits_later : (os : List Op) → All (OpFits types old.cells) os → All (OpFits types new.cells) os
  fits_later [] f = All-nil (OpFits types new.cells)
  fits_later (o ∷ os) f = All-cons (OpFits types new.cells) o os (op_later o (All-head (OpFits types old.cells) o os f)) (fits_later os (All-tail (OpFits types old.cells) o os f))

  item_later : (names : List Name) (o : Op) → OpFits types old.cells o → item_of types new.cells names o ≡ item_of types old.cells names o
  item_later names (op.Bound i m) f = refl
  item_later names (op.Known g id) f = ap (λ h. known_item h (type_of types id)) (head_later g f.held).1
  item_later names (op.Free j p) f = refl
  item_later names op.Apply f = refl
  item_later names op.Behind f = refl
  item_later names (op.Abs x m p) f = refl
  item_later names (op.Equal m) f = refl
  item_later names (op.Bind q x m p w) f = refl

  pub items_later : (names : List Name) (os : List Op) → All (OpFits types old.cells) os → items_of types new.cells names os ≡ items_of types old.cells names os
  items_later names [] f = refl
  items_later names (o ∷ os) f =
      ap (λ i. i ∷ items_of types new.cells names os) (item_later names o (All-head (OpFits types old.cells) o os f))
      ∙ ap (λ is. item_of types old.cells names o ∷ is) (items_later names os (All-tail (OpFits types old.cells) o os f))

-- CELLS AS HEADS AND AS VARIABLES

abbrev no_cell : CellId
no_cell = record { 0 = 0 }

module _ (types : Table) (old new : Contents) (names : List Name) (base : ℕ) (found : List Settled) (cells : List CellId) (are : AreCells old new names (λ j. (settled_at found (base + j)).ty) (length names) cells) where
  head_is : (j : ℕ) → j < length names → head_at (map Cell cells) j ≡ Cell (get_or cells j no_cell)
  head_is j l = get_or-map Cell cells j no_cell (Index 0) (omega (arith, l, are.len))

  number_is : (j : ℕ) → j < length names → (get_or cells j no_cell).0 ≡ length old.cells + j
  number_is j l = are.number j l

  type_is : (j : ℕ) → j < length names → type_of types (cell_of new (get_or cells j no_cell)).ty ≡ types_found types found (base + j)
  type_is j l = ap (type_of types) (are.type j l)

  pub heads_have : (heads : List Head) → heads ≡ map Cell cells → AreFreeHeads types new.cells base found heads
  heads_have heads e j l =
      let here : j < length names = omega (arith, l, ap length e, length-map cells Cell, are.len) in
      let is : head_at heads j ≡ Cell (get_or cells j no_cell) = ap (λ hs. head_at hs j) e ∙ head_is j here in
      subst (λ h. HasHeadType types new.cells h (types_found types found (base + j))) (sym is)
      (record { held = are.held j here; typed = tt; is = λ G. ap Some (type_is j here) })

  pub heads_become : (heads : List Head) → heads ≡ map Cell cells → AreApart names → BecomeHeads types new.cells base (types_found types found) (variable_from (length old.cells) names) names heads
  heads_become heads e apart j l =
      let is : head_at heads j ≡ Cell (get_or cells j no_cell) = ap (λ hs. head_at hs j) e ∙ head_is j l in (
        omega (arith, l, ap length e, length-map cells Cell, are.len),
        ap (head_in types new.cells) is
            ∙ (ap (λ n. tree.variable (record { name = n; type = type_of types (cell_of new (get_or cells j no_cell)).ty })) (number_is j l ∙ ap (λ k. length old.cells + k) (sym (own_place names apart j l)))
            ∙ ap (λ A. tree.variable (record { name = length old.cells + place_in names (get_or names j []); type = A })) (type_is j l)),
      )

cell_front : (cs ds : List CellId) (j : ℕ) → j < length cs → cell_at (cs ++ ds) j ≡ cell_at cs j
cell_front [] ds j l = absurd (omega arith)
cell_front (c ∷ cs) ds zero l = refl
cell_front (c ∷ cs) ds (suc j) l = cell_front cs ds j (omega arith)

cell_last : (cs : List CellId) (c : CellId) → cell_at (cs ++ c ∷ []) (length cs) ≡ c
cell_last [] c = refl
cell_last (d ∷ cs) c = cell_last cs c

-- one cell more
pub next_cell : (s0 s1 s2 : Contents) (names : List Name) (types_at : ℕ → TypeId) (k : ℕ) (cells more : List CellId) (c : CellId) → AreCells s0 s1 names types_at k cells → length s1.cells ≡ length s0.cells + k
    → IsExtendedBy s1 s2 → HoldsCell s2 c → (HoldsCell s1 c → ⊥) → length s2.cells ≡ length s1.cells + 1 → (cell_of s2 c).hint ≡ get_or names k [] → (cell_of s2 c).ty ≡ types_at k → more ≡ cells ++ c ∷ []
    → AreCells s0 s2 names types_at (k + 1) more
next_cell s0 s1 s2 names types_at k cells more c are count on held new one hint type is = record {
  len = omega (arith, ap length is, length-append cells (c ∷ []), are.len);
  number = λ j l. either_way j l (λ d. d.0 ≡ length s0.cells + j) (λ g. are.number j g) (λ e. omega (arith, number_of, e));
  held = λ j l. either_way j l (λ d. HoldsCell s2 d) (λ g. on.cell_ids (cell_at cells j) (are.held j g)) (λ e. held);
  hint = λ j l. either_way j l (λ d. (cell_of s2 d).hint ≡ get_or names j []) (λ g. ap (λ (z : CellEntry). z.hint) (on.cells (cell_at cells j) (are.held j g)) ∙ are.hint j g) (λ e. hint ∙ ap (λ i. get_or names i []) (sym e));
  type = λ j l. either_way j l (λ d. (cell_of s2 d).ty ≡ types_at j) (λ g. ap (λ (z : CellEntry). z.ty) (on.cells (cell_at cells j) (are.held j g)) ∙ are.type j g) (λ e. type ∙ ap types_at (sym e));
}
  where
    number_of : c.0 ≡ length s0.cells + k
    number_of = go (cases_lt c.0 (length s1.cells))
      where
        go : (c.0 < length s1.cells) ⊎ (length s1.cells ≤ c.0) → c.0 ≡ length s0.cells + k
        go (inl l) = absurd (new l)
        go (inr l) = omega (arith, l, held, one, count)

    either_way : (j : ℕ) → j < k + 1 → (P : CellId → Type 0) → (j < k → P (cell_at cells j)) → (j ≡ k → P c) → P (cell_at more j)
    either_way j l P before last = subst (λ ds. P (cell_at ds j)) (sym is) (go (cases_lt j k))
      where
        go : (j < k) ⊎ (k ≤ j) → P (cell_at (cells ++ c ∷ []) j)
        go (inl g) = subst P (sym (cell_front cells (c ∷ []) j (omega (arith, g, are.len)))) (before g)
        go (inr g) =
            let e : j ≡ k = omega (arith, g, l) in
            let at : j ≡ length cells = omega (arith, e, are.len) in
            subst P (sym (ap (cell_at (cells ++ c ∷ [])) at ∙ cell_last cells c)) (last e)

-- one after another
in_order : (of : CellId → ClauseVariable) (n : ℕ) (types : Name → Ty) (names : List Name) (cells : List CellId) → length cells ≡ length names
    → ((j : ℕ) → j < length names → of (get_or cells j no_cell) ≡ record { number = n + j; type = types (get_or names j []); hint = get_or names j [] }) → map of cells ≡ variables_from n types names
in_order of n types [] [] l h = refl
in_order of n types [] (c ∷ cs) l h = absurd (omega (arith, l))
in_order of n types (x ∷ xs) [] l h = absurd (omega (arith, l))
in_order of n types (x ∷ xs) (c ∷ cs) l h =
    let first : n + 0 ≡ n = omega arith in
    let shift : (j : ℕ) → n + suc j ≡ suc n + j = λ j. omega arith in
    ap (λ v. v ∷ map of cs) (h 0 (omega arith) ∙ ap (λ m. record { number = m; type = types x; hint = x }) first)
    ∙ ap (λ vs. record { number = n; type = types x; hint = x } ∷ vs)
    (in_order of (suc n) types xs cs (omega (arith, l)) (λ j k. h (suc j) (omega (arith, k)) ∙ ap (λ m. record { number = m; type = types (get_or xs j []); hint = get_or xs j [] }) (shift j)))

pub are_variables : (types : Table) (old new : Contents) (names : List Name) (base : ℕ) (found : List Settled) (cells : List CellId) → AreCells old new names (λ j. (settled_at found (base + j)).ty) (length names) cells
    → (given : Name → Ty) → ((j : ℕ) → j < length names → given (get_or names j []) ≡ types_found types found (base + j))
    → map (variable_of types new) cells ≡ variables_from (length old.cells) given names
are_variables types old new names base found cells are given same =
    in_order (variable_of types new) (length old.cells) given names cells are.len
    (λ j l. ap (λ m. record { number = m; type = type_of types (cell_of new (get_or cells j no_cell)).ty; hint = (cell_of new (get_or cells j no_cell)).hint }) (are.number j l)
    ∙ (ap (λ A. record { number = length old.cells + j; type = A; hint = (cell_of new (get_or cells j no_cell)).hint }) (type_is types old new names base found cells are j l ∙ sym (same j l))
    ∙ ap (λ x. record { number = length old.cells + j; type = given (get_or names j []); hint = x }) (are.hint j l)))

pub other_default : {X : Type 0} (xs : List X) (j : ℕ) (d e : X) → j < length xs → get_or xs j d ≡ get_or xs j e
other_default [] j d e l = absurd (omega arith)
other_default (x ∷ xs) zero d e l = refl
other_default (x ∷ xs) (suc j) d e l = other_default xs j d e (omega arith)

pub cells_held : (old s1 s2 : Contents) (names : List Name) (types_at : ℕ → TypeId) (k : ℕ) (cells : List CellId) → AreCells old s1 names types_at k cells → IsExtendedBy s1 s2 → All (HoldsCell s2) cells
cells_held old s1 s2 names types_at k cells are more i d l =
    subst (HoldsCell s2) (other_default cells i no_cell d l) (more.cell_ids (cell_at cells i) (are.held i (omega (arith, l, are.len))))
