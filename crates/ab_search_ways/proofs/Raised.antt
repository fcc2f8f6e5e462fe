-- A variable over some constants, given these, for the name of a quantifier.
use Rattle.std.specs.List.{All}
use Rattle.std.proofs.Common.{◌≡◌, ℕ, List, [], ◌∷◌, ◌++◌, map, length, get_or, codes, refl, sym, ◌∙◌, ap, subst}
use Rattle.ab_term.specs.Types.{Ty, arrow, prop}
use Rattle.ab_term.specs.Terms as tree
use Rattle.ab_term.specs.Terms.{Variable, nominal, variable, Read, term, terms_of}
use Rattle.ab_term.specs.Typing.{HasType}
use Rattle.ab_term.specs.Expansion.{expansion, expansion_of}
use Rattle.ab_term.specs.Substitution.{instance}
use Rattle.ab_term.specs.Abstraction.{over, name_terms, given_names}
use Rattle.ab_term.proofs.Preservation.{instance_typed}
use Rattle.ab_norm.specs.ab_types.specs.Entries.{Table, signature}
use Rattle.ab_norm.specs.ab_types.specs.Ids.{HoldsType, type_of}
use Rattle.ab_norm.specs.ab_types.specs.declared.ids.TypeId.{TypeId}
use Rattle.ab_norm.specs.ab_types.proofs.Entries.{same_type}
use Rattle.ab_norm.specs.ab_store.specs.declared.node.CellId.{CellId}
use Rattle.ab_norm.specs.ab_store.specs.declared.node.CellEntry.{CellEntry}
use Rattle.ab_norm.specs.ab_store.specs.declared.node.TermId.{TermId}
use Rattle.ab_norm.specs.ab_store.specs.Trees.{Contents, cell_in, tree_of}
use Rattle.ab_norm.specs.ab_store.specs.Reading.{cell_variable}
use Rattle.ab_norm.specs.ab_store.specs.Naming.{IsTerm}
use Rattle.ab_norm.specs.NodeGrowth.{AddsTypedTerms}
use Rattle.ab_norm.specs.declared.nominal.Nominal.{Nominal}
use Rattle.ab_norm.specs.Nominals.{HoldsNominal}
use Rattle.ab_unifiers.specs.Clauses.{name_term}
use Rattle.ab_unifiers.proofs.Lifting.{made_terms_typed}
use Rattle.ab_unifiers.proofs.Falling.{map_length}
use Rattle.ab_unify.specs.Problem.{cell_read, cells_read}
use Rattle.ab_unify.proofs.Growth.{lifted}
use Rattle.ab_instances.specs.ListReadings.{names_read, trees_at}
use Rattle.ab_instances.proofs.Made.{names_stay, variables_at}
use Rattle.ab_logic.specs.WorldGrowth as world
use Rattle.ab_logic.specs.Worlds.{Holds, read}
use Rattle.ab_logic.specs.declared.world.World.{World}

abbrev x : List ℕ
x = codes "x"

terms_of_names : (ns : List tree.Nominal) (A : Ty) → terms_of (map (name_term x) ns) ≡ name_terms x (over ns A) (map nominal ns)
terms_of_names [] A = refl
terms_of_names (a ∷ ns) A = ap (term (expansion x a.type (nominal a))) (terms_of_names ns A)

-- a type of the table is one of a larger table
pub type_stays : (w v : World) → world.Grows w v → (ty : TypeId) → HoldsType w.types ty → type_of v.types ty ≡ type_of w.types ty
type_stays w v g ty held = ap (λ (t : Table). type_of t ty) g.types.1 ∙ same_type w.types g.types.0 ty held

module _ (w m : World) (g : world.Grows w m) (ty : TypeId) (ty_held : HoldsType w.types ty) (names : List Nominal) (held : All (HoldsNominal w.types) names) (cell : CellId) (hint : List ℕ)
    (number : cell.0 ≡ length w.store.cells)
    (cells : cells_read m.types m.store ≡ cells_read w.types w.store ++ record { hint = hint; type = over (names_read w.types names) (type_of w.types ty) } ∷ []) where
  abbrev A : Ty
  A = type_of w.types ty

  abbrev ns : List tree.Nominal
  ns = names_read w.types names

  abbrev pub z : Variable ℕ
  z = record { name = length w.store.cells; type = over ns A }

  pub cell_is : cell_variable m.types m.store cell ≡ z
  cell_is =
      ap (λ n. cell_variable m.types m.store (record { 0 = n })) number
      ∙ ap (λ (l : List (Variable ℕ)). get_or l 0 z)
      (variables_at m.types m.store (length w.store.cells) (cells_read w.types w.store) (record { hint = hint; type = over ns A } ∷ []) (cell ∷ []) (sym (map_length (cell_read w.types) w.store.cells)) refl cells)

  module _ (S1 S2 : Contents) (first : AddsTypedTerms m.types m.store S1) (second : AddsTypedTerms m.types S1 S2) (args : List TermId) (trees : trees_at m.types S1 args ≡ map (name_term x) (names_read m.types names))
      (t : TermId) (made : tree_of m.types S2 t ≡ expansion_of x (type_of m.types ty) (variable (cell_variable m.types S1 cell)) (terms_of (trees_at m.types S1 args))) where
    pub variable_is : tree_of m.types S2 t ≡ given_names x z ns A
    variable_is =
        made
        ∙ ap (λ B. expansion_of x B (variable (cell_variable m.types S1 cell)) (terms_of (trees_at m.types S1 args))) (type_stays w m g ty ty_held)
        ∙ ap (λ y. expansion_of x A (variable y) (terms_of (trees_at m.types S1 args)))
        (ap (λ (cs : List CellEntry). record { name = cell.0; type = type_of m.types (cell_in cs cell).ty }) first.cells ∙ cell_is)
        ∙ ap (λ us. expansion_of x A (variable z) us)
        (ap terms_of (trees ∙ ap (map (name_term x)) (names_stay w.types m.types g.types names held)) ∙ terms_of_names ns A)

    -- the body with it
    pub body_is : (S3 : Contents) (body r : TermId) → Holds w body → tree_of m.types S3 r ≡ instance (tree_of m.types S2 body) (tree_of m.types S2 t)
        → tree_of m.types S3 r ≡ instance (read w body) (given_names x z ns A)
    body_is S3 body r h e =
        e
        ∙ ap (λ F. instance F (tree_of m.types S2 t)) (second.before.trees m.types body (first.before.ids body (g.ids body h)) ∙ first.before.trees m.types body (g.ids body h) ∙ g.readings body h)
        ∙ ap (instance (read w body)) variable_is

-- an instance of a scope is a formula
pub instance_formula : (w v : World) → world.Grows w v → (A : Ty) (body : TermId) (t : Read) (r : TermId) → IsTerm w.types w.store [] body (arrow A prop) → HasType (signature v.types) [] t A
    → Holds v r → read v r ≡ instance (read w body) t → IsTerm v.types v.store [] r prop
instance_formula w v g A body t r d u held e = (held, subst (λ F. HasType (signature v.types) [] F prop) (sym e) (instance_typed (signature v.types) (lifted w.types v.types g.types d.1) u))

pub given_typed : (v : World) (n : ℕ) (ns : List tree.Nominal) (A : Ty) → HasType (signature v.types) [] (given_names x (record { name = n; type = over ns A }) ns A) A
given_typed v n ns A = (made_terms_typed (signature v.types) x n ns (record { hint = x; type = A } ∷ [])).0
