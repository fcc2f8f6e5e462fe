-- What heads take, in the terms of a table, and what is known while a term is judged. Public contracts don't speak
-- of this.
use Rattle.std.specs.Prelude.{◌≡◌, List, [], ◌∷◌, ◌++◌, All}
use Rattle.ab_term.specs.Types.{Ty, kind, arrow, prop, o, olist}
use Rattle.ab_term.specs.Typing.{HasType}
use Rattle.ab_store.specs.ab_types.specs.Entries.{Table, signature}
use Rattle.ab_store.specs.ab_types.specs.Ids.{HoldsType, type_of}
use Rattle.ab_store.specs.ab_types.specs.declared.ids.TypeId.{TypeId}
use Rattle.ab_store.specs.Trees.{Contents, tree_of}
use Rattle.ab_store.specs.declared.node.TermId.{TermId}
use Rattle.ab_typing.specs.declared.built_in.BuiltIn.{BuiltIn}
use Rattle.ab_typing.specs.declared.head_arguments.Wanted.{Wanted}
use Rattle.ab_typing.specs.declared.head_arguments.Wanted.TheVariants.{Plain, Function}
use Rattle.ab_typing.specs.declared.head_arguments.Rest.{Rest}
use Rattle.ab_typing.specs.declared.head_arguments.Rest.TheVariants.{Done, One, Two, Three}
use Rattle.ab_typing.specs.declared.closed_types.Typed.{Typed}

-- the three types of the table
pub record AreBuiltIn (types : Table) (built : BuiltIn) : Type 0 where
  pub prop_held : HoldsType types built.prop
  pub o_held : HoldsType types built.o
  pub olist_held : HoldsType types built.olist
  pub prop_is : type_of types built.prop ≡ prop
  pub o_is : type_of types built.o ≡ o
  pub olist_is : type_of types built.olist ≡ olist

abbrev pub IsKind : Ty → Type 0
IsKind (kind k) = Unit {0}
IsKind (arrow A B) = ⊥

-- the id reads as a canonical term of the type
abbrev pub IsOf : Table → Contents → List Ty → TermId → Ty → Type 0
IsOf types store G t A = HasType (signature types) G (tree_of types store t) A

module _ (types : Table) where
  abbrev pub wanted_type : Wanted → Ty
  wanted_type (Plain a) = type_of types a
  wanted_type (Function a b) = arrow (type_of types a) (type_of types b)

  abbrev pub HoldsWanted : Wanted → Type 0
  HoldsWanted (Plain a) = HoldsType types a
  HoldsWanted (Function a b) = HoldsType types a × HoldsType types b

  -- the type of what takes these and then is of the last
  abbrev pub rest_type : Rest → Ty
  rest_type (Done a) = type_of types a
  rest_type (One v a) = arrow (wanted_type v) (type_of types a)
  rest_type (Two v w a) = arrow (wanted_type v) (arrow (wanted_type w) (type_of types a))
  rest_type (Three u v w a) = arrow (wanted_type u) (arrow (wanted_type v) (arrow (wanted_type w) (type_of types a)))

  abbrev pub HoldsRest : Rest → Type 0
  HoldsRest (Done a) = HoldsType types a
  HoldsRest (One v a) = HoldsWanted v × HoldsType types a
  HoldsRest (Two v w a) = HoldsWanted v × HoldsWanted w × HoldsType types a
  HoldsRest (Three u v w a) = HoldsWanted u × HoldsWanted v × HoldsWanted w × HoldsType types a

  -- the types of bound names, which are kept with the innermost last
  abbrev pub context : List TypeId → List Ty
  context [] = []
  context (a ∷ rest) = context rest ++ type_of types a ∷ []

  -- each pair is a closed term and its type
  abbrev pub AreTyped : Contents → List Typed → Type 0
  AreTyped store = All (λ (k : Typed). IsOf types store [] k.id (type_of types k.ty))
