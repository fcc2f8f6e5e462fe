-- What the steps of a definition leave, over a table and a store. Public contracts don't speak of this.
use Rattle.std.specs.Prelude.{◌≡◌, ℕ, List, [], ◌∷◌, ◌++◌, map, None, Ok, Err, All}
use Rattle.ab_term.specs.Types.{Ty, prop}
use Rattle.ab_term.specs.Constants.{names}
use Rattle.ab_norm.specs.ab_types.specs.Entries.{Table, kinds, constants, signature}
use Rattle.ab_norm.specs.ab_types.specs.Ids.{HoldsConstant, constant_of}
use Rattle.ab_norm.specs.ab_types.specs.declared.ids.ConstId.{ConstId}
use Rattle.ab_norm.specs.ab_store.specs.Trees.{Contents}
use Rattle.ab_grammar.specs.CommandTrees.{Defined, Clause}
use Rattle.ab_meaning.specs.Types.{written_type}
use Rattle.ab_inference.specs.declared.fault.InferFault.{InferFault}
use Rattle.ab_inference.specs.declared.fault.InferFault.TheVariants as fault
use Rattle.ab_formulas.specs.ProposedClauses.{IsProposed}
use Rattle.ab_typing.specs.DefinitionReadings.{clause_of, HoldsClause}
use Rattle.ab_typing.specs.declared.definitions.ClauseTerm.{ClauseTerm}
use Rattle.ab_declare.specs.ClauseMeanings.{body_type, Finds, IsKeptAs}
use Rattle.ab_logic.specs.declared.world.DefineFault.{DefineFault}
use Rattle.ab_logic.specs.declared.world.DefineFault.TheVariants as define
use Rattle.ab_declare.specs.declared.refusal.Refusal.{Refusal}
use Rattle.ab_declare.specs.declared.refusal.Refusal.TheVariants.{Unknown, Clash, TypeClash, Untyped, NotStratified, BadHead}
use Rattle.ab_declare.specs.declared.halt.Halt.{Halt}
use Rattle.ab_declare.specs.declared.halt.Halt.TheVariants.{Refused, Memory}
use Rattle.ab_declare.specs.Refusals.{here}
use Rattle.ab_declare.specs.DefinitionCommands.{predicates_found}

-- how what isn't read halts a command
abbrev pub halt_for : InferFault → Halt
halt_for (fault.Unknown x) = Refused (Unknown x None)
halt_for (fault.TypeClash p) = Refused (TypeClash (here p))
halt_for (fault.Untyped p) = Refused (Untyped (here p))
halt_for (fault.Memory m) = Memory m

-- and a definition that isn't put in
abbrev pub halt_by : DefineFault → Halt
halt_by (define.Clash x) = Refused (Clash x None)
halt_by (define.NotStratified p) = Refused (NotStratified p)
halt_by (define.BadHead number) = Refused (BadHead number None)
halt_by (define.Memory m) = Memory m

-- the refusal is such a one; want of memory says nothing
abbrev pub Halts : (Refusal → Type 0) → Halt → Type 0
Halts P (Refused r) = P r
Halts P (Memory m) = Unit {0}

-- the names in the type are kinds
abbrev pub HasKinds : List (List ℕ) → Defined → Type 0
HasKinds kinds d = (A : Ty) × (written_type kinds d.type_of ≡ Ok A)

-- the predicates were put behind what the table held, as constants of their types
pub record ArePut (old new : Table) (ds : List Defined) (ids : List ConstId) : Type 0 where
  pub found : predicates_found (kinds old) (names (constants old)) ds ≡ Ok (map (constant_of new) ids)
  pub held : All (HoldsConstant new) ids
  pub constants : constants new ≡ constants old ++ map (constant_of new) ids

-- they can't be, for the refusal
abbrev pub ArentPut : Table → List Defined → Refusal → Type 0
ArentPut old ds r = predicates_found (kinds old) (names (constants old)) ds ≡ Err r

-- the clause is read so, from whatever number on its variables are numbered
pub record IsReadAs (types : Table) (store : Contents) (c : Clause) (k : ClauseTerm) : Type 0 where
  pub number : ℕ
  pub meant : Finds (kinds types) (signature types) c (λ e. IsKeptAs (signature types) number e prop (body_type prop c.body) (clause_of types store k))
  pub proposed : IsProposed (signature types) (clause_of types store k)
  pub held : HoldsClause types store k

abbrev pub AreReadAs : Table → Contents → List Clause → List ClauseTerm → Type 0
AreReadAs types store [] [] = Unit {0}
AreReadAs types store (c ∷ cs) (k ∷ ks) = IsReadAs types store c k × AreReadAs types store cs ks
AreReadAs types store _ _ = ⊥
