-- What a defined atom of a formula has, on shared terms: its arguments are taken by its predicate's type, and the bodies of
-- its definition's clauses are formulas.
use Rattle.std.specs.Prelude.{Contains}
use Rattle.std.proofs.Common.{◌≡◌, [], Some, map, sym, ap, subst}
use Rattle.std.proofs.lemmas.List.Elements.{All-contains}
use Rattle.ab_term.specs.Types.{Ty, prop}
use Rattle.ab_term.specs.Typing.{Signature}
use Rattle.ab_term.proofs.Lists.{Contains-map}
use Rattle.ab_term.specs.Constants as table
use Rattle.ab_norm.specs.ab_types.specs.Entries.{signature}
use Rattle.ab_norm.specs.TypedArguments.{AreTaken}
use Rattle.ab_term.specs.Terms.{Read}
use Rattle.ab_formulas.specs.CaseClauses.{case_of}
use Rattle.ab_typing.specs.DefinitionReadings.{clause_of, name_of}
use Rattle.ab_typing.specs.declared.definitions.ClauseTerm.{ClauseTerm}
use Rattle.ab_formulas.specs.Declarations.{signature_in, IsDefining}
use Rattle.ab_formulas.specs.Formulas.{IsFormula}
use Rattle.ab_logic.specs.Worlds.{IsWorld, declarations_of}
use Rattle.ab_logic.specs.declared.world.World.{World}
use Rattle.ab_logic.proofs.Blocks.{block_defines}
use Rattle.ab_logic.proofs.Declaring.{constants_are}
use Rattle.ab_theory.specs.Atoms.{defined_atom}
use Rattle.ab_alternatives.specs.AtomReadings.{defined_read, HoldsDefined}
use Rattle.ab_alternatives.specs.declared.atoms.DefinedAtom.{DefinedAtom}
use Rattle.ab_theory.proofs.Taken.{IsAtomOf, atom_of}

-- the arguments, where the formula is of the world's declarations
pub taken_by : (w : World) → IsWorld w → (F : Read) → IsFormula (signature_in (declarations_of w)) F → (a : DefinedAtom) → defined_atom (declarations_of w) F ≡ Some (defined_read w a)
    → (A : Ty) × (signature w.types (name_of w.types a.predicate) ≡ Some A) × AreTaken w.types w.store [] a.arguments.items A prop
taken_by w is F formula a e =
    let same : signature w.types ≡ signature_in (declarations_of w) = ap table.type_in (sym (constants_are w 0 w.additions is.order)) in
    let atom : IsAtomOf (signature w.types) (defined_read w a) =
    subst (λ (sg : Signature). IsAtomOf sg (defined_read w a)) (sym same)
    (atom_of (declarations_of w) (signature_in (declarations_of w)) F (defined_read w a) formula.typed e) in (atom.type, atom.signature, atom.taken)

-- a clause of the definition
pub clause_defines : (w : World) (a : DefinedAtom) → HoldsDefined w a → (k : ClauseTerm) → Contains a.block.clauses k → IsDefining (signature w.types) (case_of (clause_of w.types w.store k))
clause_defines w a h k there =
    All-contains (IsDefining (signature w.types)) (defined_read w a).block.clauses (case_of (clause_of w.types w.store k))
    (block_defines w a.block h.block)
    (Contains-map case_of (map (clause_of w.types w.store) a.block.clauses) (clause_of w.types w.store k) (Contains-map (clause_of w.types w.store) a.block.clauses k there))
