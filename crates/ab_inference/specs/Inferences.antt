-- What the type variables of a row of expressions say: under their solutions the expressions have exactly their types.
use Rattle.std.specs.Prelude.{◌≡◌, ℕ, ◌<◌, ◌≤◌, List, [], ◌∷◌, ◌++◌, map, length, Option, option_map}
use Rattle.ab_term.specs.Types.{Ty, prop, o}
use Rattle.ab_store.specs.ab_types.specs.Ids.{HoldsType, type_of}
use Rattle.ab_store.specs.ab_types.specs.declared.ids.TypeId.{TypeId}
use Rattle.ab_meaning.specs.ResolvedNames.{Binding, binding_type}
use Rattle.ab_meaning.specs.Readings.{Keeps}
use Rattle.ab_inference.specs.declared.constraints.Formulas.{Formulas}
use Rattle.ab_store.specs.ab_types.specs.Entries.{Table}
use Rattle.ab_inference.specs.declared.shape.Shape.{Shape}
use Rattle.ab_inference.specs.Solutions.{Assignment, Solves, AreFormed, AreHeld}
use Rattle.ab_inference.specs.Sketches.{Sketch, AllTyped}
use Rattle.ab_inference.specs.Programs.{Item, Runs}

abbrev pub AreBelow : ℕ → List ℕ → Type 0
AreBelow n [] = Unit {0}
AreBelow n (i ∷ is) = (i < n) × AreBelow n is

-- an assignment as before below n, under which the variables have the types
pub record Given (types : Table) (n : ℕ) (v : Assignment) (shapes : List Shape) (vs : List ℕ) (As : List Ty) : Type 0 where
  pub w : Assignment
  pub agrees : (k : ℕ) → k < n → w k ≡ v k
  pub solves : Solves types w shapes
  pub are : map w vs ≡ As

-- Each solution gives the expressions the types of these variables, and each row of types for them comes from a solution.
pub record Inferring (types : Table) (base : ℕ) (first shapes : List Shape) (ks : List Sketch) (vs : List ℕ) : Type 0 where
  pub longer : length first ≤ length shapes
  pub formed : AreFormed shapes
  pub held : AreHeld types shapes
  pub below : AreBelow (length shapes) vs
  pub back : (v : Assignment) → Solves types v shapes → Solves types v first
  pub sound : (v : Assignment) → Solves types v shapes → AllTyped base v ks (map v vs)
  pub on : (v : Assignment) → Solves types v first → (As : List Ty) → AllTyped base v ks As → Given types (length first) v shapes vs As

-- no solution gives the expressions types
abbrev pub HasNoTyping : Table → ℕ → List Shape → List Sketch → Type 0
HasNoTyping types base first ks = (v : Assignment) → Solves types v first → (As : List Ty) → AllTyped base v ks As → ⊥

-- the rest of the steps, from expressions with these variables
pub record Running (types : Table) (base : ℕ) (first shapes : List Shape) (rest : List Item) (out : List Sketch) (vs : List ℕ) : Type 0 where
  pub stack : List Sketch
  pub runs : Runs rest stack out
  pub inferring : Inferring types base first shapes stack vs

-- the last first
abbrev pub turned : List ℕ → List ℕ
turned [] = []
turned (x ∷ xs) = turned xs ++ x ∷ []

-- the ids of the two types of formulas
pub record IsFormulas (types : Table) (f : Formulas) : Type 0 where
  pub prop_held : HoldsType types f.prop
  pub prop_is : type_of types f.prop ≡ prop
  pub o_held : HoldsType types f.o
  pub o_is : type_of types f.o ≡ o

-- what is known of the variables is still as it has to be, and the variables are there
pub record Kept (types : Table) (old new : List Shape) (vs : List ℕ) (n : ℕ) : Type 0 where
  pub longer : length old ≤ length new
  pub formed : AreFormed new
  pub held : AreHeld types new
  pub below : AreBelow (length new) (n ∷ vs)

abbrev pub written_type : Table → Option TypeId → Option Ty
written_type types = option_map (type_of types)

-- the type of a quantified formula
abbrev pub IsBinder : Table → ℕ → ℕ → Binding → Option TypeId → Assignment → Ty → Type 0
IsBinder types node body q w v A = Keeps (written_type types w) (v node) × (v body ≡ binding_type q) × (A ≡ binding_type q)
