-- Single moves of a walk. Only private contracts speak of this.
use Rattle.std.specs.Prelude.{Box, ◌≡◌, Bool, true, false, ℕ, ◌+◌, ◌<◌, List, [], ◌∷◌, ◌++◌, length, get_or, drop, map, Option, Some, None, option_map, Ok}
use Rattle.std.specs.Global.{Global}
use Rattle.ab_term.specs.Logical.{Logical, judgement, focused_judgement, logical_type}
use Rattle.ab_term.specs.Terms.{logical}
use Rattle.ab_norm.specs.ab_types.specs.Entries.{Table, kinds}
use Rattle.ab_norm.specs.ab_types.specs.Ids.{HoldsType, type_of}
use Rattle.ab_norm.specs.ab_types.specs.declared.ids.TypeId.{TypeId}
use Rattle.ab_norm.specs.ab_store.specs.declared.node.CellEntry.{CellEntry}
use Rattle.ab_norm.specs.ab_store.specs.declared.node.Head.{Head}
use Rattle.ab_norm.specs.ab_store.specs.Trees.{Contents, head_in}
use Rattle.ab_grammar.specs.declared.Infix.{Infix}
use Rattle.ab_grammar.specs.declared.Infix.TheVariants as sign
use Rattle.ab_grammar.specs.Tree as tree
use Rattle.ab_syntax.specs.ab_expressions.specs.declared.tree.Parse.{Parse}
use Rattle.ab_syntax.specs.ab_expressions.specs.declared.tree.Parse.TheVariants as parse
use Rattle.ab_syntax.specs.ab_expressions.specs.declared.items.Items.{Items}
use Rattle.ab_syntax.specs.ab_expressions.specs.SyntaxTrees.{tree_of}
use Rattle.ab_meaning.specs.ResolvedNames.{Name, Resolved, known, apply}
use Rattle.ab_meaning.specs.Scopes.{Scope, Found, joined, made_of_both, applied, items_before, written}
use Rattle.ab_inference.specs.declared.op.Op.{Op}
use Rattle.ab_inference.specs.declared.op.Op.TheVariants as op
use Rattle.ab_inference.specs.declared.op.Mark.TheVariants as mark
use Rattle.ab_inference.specs.Programs.{HoldsWritten}
use Rattle.ab_infer.specs.declared.scope.Bound.{Bound}
use Rattle.ab_infer.specs.NormalTerms.{HasHeadType}
use Rattle.ab_infer.specs.declared.row.Row.{Row}
use Rattle.ab_infer.specs.Rows.{Grew}

-- the name has the number in the new list, which is the old one, or has the name behind it
pub data IsNumbered : List Name → List Name → Name → ℕ → Type 0 where
  was_there : {xs : List Name} {x : Name} {j : ℕ} → j < length xs → get_or xs j [] ≡ x → IsNumbered xs xs x j
  is_new : {xs : List Name} {x : Name} → ((k : ℕ) → k < length xs → get_or xs k [] ≡ x → ⊥) → IsNumbered xs (xs ++ x ∷ []) x (length xs)

-- one step is put behind the row
pub record Puts (old new : Row) (o : Op) : Type 0 where
  pub steps : new.steps.items ≡ old.steps.items ++ o ∷ []
  pub marks : new.marks.items ≡ old.marks.items
  pub names : new.names.items ≡ old.names.items
  pub variables : length new.variables.items ≡ length old.variables.items
  pub bound : new.bound.items ≡ old.bound.items

-- a name at a place is bound from here on, and gets a variable
pub record BindsName (old new : Row) (x : Name) (place node : ℕ) : Type 0 where
  pub node_is : node ≡ length old.variables.items
  pub steps : new.steps.items ≡ old.steps.items
  pub marks : new.marks.items ≡ old.marks.items ++ mark.Binder node place ∷ []
  pub names : new.names.items ≡ old.names.items
  pub variables : length new.variables.items ≡ length old.variables.items + 1
  pub bound : new.bound.items ≡ old.bound.items ++ record { name = x; node = node } ∷ []

-- the last name isn't bound any more, and one step is put behind the row
pub record Unbinds (old new : Row) (outer : List Bound) (o : Op) : Type 0 where
  pub steps : new.steps.items ≡ old.steps.items ++ o ∷ []
  pub marks : new.marks.items ≡ old.marks.items
  pub names : new.names.items ≡ old.names.items
  pub variables : length new.variables.items ≡ length old.variables.items
  pub bound : new.bound.items ≡ outer

-- the sign stands for the head, of the type
pub record IsConnective (types : Table) (cells : List CellEntry) (s : Infix) (h : Head) (id : TypeId) : Type 0 where
  pub held : HoldsType types id
  pub fits : HasHeadType types cells h (type_of types id)
  pub joins : (scope : Scope) (a b : Found) → joined scope s a b ≡ made_of_both apply (made_of_both apply (Ok (known (head_in types cells h) (type_of types id))) a) b

-- a sign is met before its operands: a head is put behind the row, or an equation gets a type variable
pub record HeadPut (types : Table) (store : Contents) (old new : Row) (s : Infix) : Type 0 where
  pub head : Head
  pub type : TypeId
  pub connective : IsConnective types store.cells s head type
  pub puts : Puts old new (op.Known head type)

pub record EquationMet (old new : Row) (s : Infix) (node : ℕ) : Type 0 where
  pub equation : s ≡ sign.Equal
  pub node_is : node ≡ length old.variables.items
  pub steps : new.steps.items ≡ old.steps.items
  pub marks : new.marks.items ≡ old.marks.items
  pub names : new.names.items ≡ old.names.items
  pub variables : length new.variables.items ≡ length old.variables.items + 1
  pub bound : new.bound.items ≡ old.bound.items

abbrev pub MeetsSign : Table → Contents → Row → Row → Infix → Option ℕ → Type 0
MeetsSign types store old new s None = HeadPut types store old new s
MeetsSign types store old new s (Some node) = EquationMet old new s node

-- between the operands, and behind them
abbrev pub PutsBetween : Option ℕ → Row → Row → Type 0
PutsBetween None old new = Puts old new op.Apply
PutsBetween (Some node) old new = new ≡ old

abbrev pub PutsBehind : Option ℕ → Row → Row → Type 0
PutsBehind None old new = Puts old new op.Apply
PutsBehind (Some node) old new = Puts old new (op.Equal node)

-- the head of a judgement, with a formula in brackets or without
abbrev pub judgement_sign : Bool → Logical
judgement_sign true = focused_judgement
judgement_sign false = judgement

abbrev pub judgement_head : Bool → Resolved
judgement_head focused = known (logical (judgement_sign focused)) (logical_type (judgement_sign focused))

-- the type that is written, where one is
pub record IsWritten (old new : Table) (w : Option tree.Ty) (id : Option TypeId) : Type 0 where
  pub held : HoldsWritten new id
  pub is : written (kinds old) w ≡ Ok (option_map (type_of new) id)

-- it is written as a head with arguments, or as a judgement
abbrev pub IsApplication : Parse → Type 0
IsApplication e = (h : Box Parse Global) × (vs : Items Parse) × (p : ℕ) × (e ≡ parse.Apply h vs p)

abbrev pub IsJudgement : Parse → Type 0
IsJudgement e = (cs : Items Parse) × (f : Option (Box Parse Global)) × (g : Box Parse Global) × (p : ℕ) × (e ≡ parse.Judge cs f g p)

-- the head was given the arguments before the one of this number
pub record IsApplied (types : Table) (store : Contents) (old new : Row) (s : Scope) (bs : List Name) (whole : Found) (vs : List Parse) (i : ℕ) : Type 0 where
  pub found : Found
  pub grew : Grew types store old new found
  pub rest : applied s bs found (tree.trees_of (map tree_of (drop i vs))) ≡ whole

-- the items before the one of this number stand before the list
pub record IsListed (types : Table) (store : Contents) (old new : Row) (s : Scope) (bs : List Name) (whole : Found) (vs : List Parse) (i : ℕ) : Type 0 where
  pub found : Found
  pub grew : Grew types store old new found
  pub rest : items_before s bs found (tree.trees_of (map tree_of (drop i vs))) ≡ whole
