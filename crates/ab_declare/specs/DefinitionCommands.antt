-- What `Define` and `CoDefine` declare: predicates with their types, and behind them the one block of their clauses. A command
-- is refused for its names first, in the order of its text, then for its types, and then for the forms of its clauses.
use Rattle.std.specs.Prelude.{◌≡◌, ℕ, List, [], ◌∷◌, ◌++◌, map, Bool, None, Result, Ok, Err, if◌then◌else◌, bytes_eq, All}
use Rattle.std.specs.List.{list_any}
use Rattle.ab_term.specs.Types.{Ty, kind, arrow, prop}
use Rattle.ab_term.specs.Typing.{Signature}
use Rattle.ab_term.specs.Constants.{Constant, constant, names}
use Rattle.ab_grammar.specs.CommandTrees.{Defined, Clause}
use Rattle.ab_meaning.specs.Types.{IsDeclarable, written_type, type_place}
use Rattle.ab_inference.specs.declared.fault.InferFault.{InferFault}
use Rattle.ab_formulas.specs.Clauses as kept
use Rattle.ab_formulas.specs.Faults.{Fault, bad_head, not_stratified, IsRightBlock, IsFaultOf}
use Rattle.ab_declare.specs.ClauseReadings.{Parts}
use Rattle.ab_declare.specs.ClauseMeanings.{parts_found, body_type, Finds, IsKeptAs, ClauseMeansNothing}
use Rattle.ab_formulas.specs.Declarations.{Declaration, Declarations, a_constant, a_block, signature_in, constant_names}
use Rattle.ab_logic.specs.Worlds.{defined}
use Rattle.ab_meaning.specs.Terms.{kinds_in}
use Rattle.ab_declare.specs.declared.refusal.Refusal.{Refusal}
use Rattle.ab_declare.specs.declared.refusal.Refusal.TheVariants.{Unknown, Clash, TypeClash, NotStratified, BadHead}
use Rattle.ab_declare.specs.Refusals.{here, RefusedFor}

-- THE FIRST of some things of which the fact doesn't hold, and the refusal that is told of it
pub data FirstTold {X : Type 0} (IsFine : X → Type 0) (Tells : X → Refusal → Type 0) : List X → Refusal → Type 0 where
  this : {x : X} {xs : List X} {r : Refusal} → Tells x r → FirstTold IsFine Tells (x ∷ xs) r
  later : {x : X} {xs : List X} {r : Refusal} → IsFine x → FirstTold IsFine Tells xs r → FirstTold IsFine Tells (x ∷ xs) r

-- THE PREDICATES

abbrev pub before : Constant → Result (List Constant) Refusal → Result (List Constant) Refusal
before p (Ok ps) = Ok (p ∷ ps)
before p (Err r) = Err r

abbrev pub of_type : List ℕ → Result Ty (List ℕ) → Result (List Constant) Refusal → Result (List Constant) Refusal
of_type x (Ok A) rest = before (constant x A) rest
of_type x (Err y) rest = Err (Unknown y None)

-- The predicates with their types, or the first name that is in use, or stands among those before it, or that stands in a type
-- and is no kind.
abbrev pub predicates_found : List (List ℕ) → List (List ℕ) → List Defined → Result (List Constant) Refusal
predicates_found kinds used [] = Ok []
predicates_found kinds used (d ∷ ds) =
    if list_any (bytes_eq d.name) used then Err (Clash d.name None) else
    of_type d.name (written_type kinds d.type_of) (predicates_found kinds (used ++ d.name ∷ []) ds)

abbrev pub EndsInProp : Ty → Type 0
EndsInProp (kind k) = kind k ≡ prop
EndsInProp (arrow A B) = EndsInProp B

-- `prop` is the type's result, and stands nowhere else in it
abbrev pub IsPredicateType : Ty → Type 0
IsPredicateType A = IsDeclarable A × EndsInProp A

-- a predicate whose written type is so
abbrev pub IsPredicate : List (List ℕ) → Defined → Type 0
IsPredicate kinds d = (A : Ty) × (written_type kinds d.type_of ≡ Ok A) × IsPredicateType A

-- one whose type isn't
abbrev pub IsNoPredicate : List (List ℕ) → Defined → Refusal → Type 0
IsNoPredicate kinds d r = (A : Ty) × (written_type kinds d.type_of ≡ Ok A) × (¬ IsPredicateType A) × (r ≡ TypeClash (here (type_place d.type_of)))

-- THE CLAUSES, where these kinds and constants are declared, the predicates among them

module _ (kinds : List (List ℕ)) (sg : Signature) where
  -- all names of the clause stand for something
  abbrev pub IsNamed : Clause → Type 0
  IsNamed c = (e : Parts) × (parts_found kinds sg c ≡ Ok e)

  -- this one doesn't, and is the first
  abbrev pub IsUnnamed : Clause → Refusal → Type 0
  IsUnnamed c r = (x : List ℕ) × (parts_found kinds sg c ≡ Err x) × (r ≡ Unknown x None)

  -- the clause means what is kept so: head and body are formulas
  abbrev pub MeansKept : Clause → kept.Clause → Type 0
  MeansKept c k = Finds kinds sg c (λ e. IsKeptAs sg 0 e prop (body_type prop c.body) k)

  abbrev pub MeanKept : List Clause → List kept.Clause → Type 0
  MeanKept [] [] = Unit {0}
  MeanKept (c ∷ cs) (k ∷ ks) = MeansKept c k × MeanKept cs ks
  MeanKept _ _ = ⊥

  -- the clause has one reading
  abbrev pub IsRead : Clause → Type 0
  IsRead c = (k : kept.Clause) × MeansKept c k

  -- it has none, or several
  abbrev pub IsUnread : Clause → Refusal → Type 0
  IsUnread c r = (f : InferFault) × ClauseMeansNothing kinds sg c prop f × RefusedFor f r

abbrev pub refusal_of : Fault → Refusal
refusal_of (bad_head number) = BadHead number None
refusal_of (not_stratified p) = NotStratified p

-- THE COMMAND, where this was declared

abbrev pub predicate_of : Constant → Declaration
predicate_of p = a_constant p.name p.type

-- the block of the predicates
abbrev pub block_with : Bool → List Constant → List kept.Clause → kept.Block
block_with inductive ps ks = record { inductive = inductive; predicates = names ps; clauses = ks }

-- the types of the constants, with the predicates
abbrev pub signature_with : Declarations → List Constant → Signature
signature_with D ps = signature_in (D ++ map predicate_of ps)

module _ (D : Declarations) (ds : List Defined) (cs : List Clause) where
  -- the names of the predicates are new, and those in their types are kinds
  abbrev pub HasPredicates : List Constant → Type 0
  HasPredicates ps = predicates_found (kinds_in D) (constant_names D) ds ≡ Ok ps

  -- all names in clauses stand for something too
  abbrev pub HasNames : List Constant → Type 0
  HasNames ps = HasPredicates ps × All (IsNamed (kinds_in D) (signature_with D ps)) cs

  -- and the types are those of predicates
  abbrev pub HasTypes : List Constant → Type 0
  HasTypes ps = HasNames ps × All (IsPredicate (kinds_in D)) ds

module _ (D : Declarations) (inductive : Bool) (ds : List Defined) (cs : List Clause) where
  -- IT DEFINES THESE: the predicates are constants, and their block stands behind them
  pub record Defines (more : Declarations) : Type 0 where
    pub predicates : List Constant
    pub clauses : List kept.Clause
    pub types : HasTypes D ds cs predicates
    pub meant : MeanKept (kinds_in D) (signature_with D predicates) cs clauses
    pub right : IsRightBlock (block_with inductive predicates clauses)
    pub is : more ≡ map predicate_of predicates ++ a_block (defined (block_with inductive predicates clauses)) ∷ []

  -- IT IS REFUSED, by the first of its faults
  pub data DefinesNothing : Refusal → Type 0 where
    -- a predicate's name is taken, or a name in the type of one is no kind
    predicate_unnamed : {r : Refusal} → predicates_found (kinds_in D) (constant_names D) ds ≡ Err r → DefinesNothing r
    -- a name in a clause stands for nothing
    clause_unnamed : {ps : List Constant} {r : Refusal} → HasPredicates D ds cs ps
        → FirstTold (IsNamed (kinds_in D) (signature_with D ps)) (IsUnnamed (kinds_in D) (signature_with D ps)) cs r → DefinesNothing r
    -- a type isn't that of a predicate
    no_predicate : {ps : List Constant} {r : Refusal} → HasNames D ds cs ps → FirstTold (IsPredicate (kinds_in D)) (IsNoPredicate (kinds_in D)) ds r → DefinesNothing r
    -- a clause has no reading, or several
    clause_unread : {ps : List Constant} {r : Refusal} → HasTypes D ds cs ps
        → FirstTold (IsRead (kinds_in D) (signature_with D ps)) (IsUnread (kinds_in D) (signature_with D ps)) cs r → DefinesNothing r
    -- a head isn't one for a clause of these predicates, or one of them stands to the left of an arrow in a body
    faulty : {ps : List Constant} {ks : List kept.Clause} {f : Fault} → HasTypes D ds cs ps → MeanKept (kinds_in D) (signature_with D ps) cs ks
        → IsFaultOf (block_with inductive ps ks) f → DefinesNothing (refusal_of f)
