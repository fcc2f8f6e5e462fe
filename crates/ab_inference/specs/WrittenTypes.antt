-- The answers to a written type: it is read, a name in it is no kind, or `prop` stands in an argument.
use Rattle.std.specs.Prelude.{◌≡◌, ℕ, List, true, false, Result, Ok, Err}
use Rattle.ab_term.specs.Types.{Ty}
use Rattle.ab_store.specs.ab_types.specs.Entries.{Table, kinds}
use Rattle.ab_store.specs.ab_types.specs.Ids.{HoldsType, type_of}
use Rattle.ab_store.specs.ab_types.specs.declared.ids.TypeId.{TypeId}
use Rattle.ab_grammar.specs.Tree as tree
use Rattle.ab_meaning.specs.Types.{PropFree, IsDeclarable, written_type, type_place}
use Rattle.ab_inference.specs.declared.fault.InferFault.{InferFault}
use Rattle.ab_inference.specs.declared.fault.InferFault.TheVariants.{Unknown, TypeClash, Untyped, Memory}
use Rattle.ab_inference.specs.declared.written_types.Written.{Written}

pub record IsWritten (old new : Table) (w : tree.Ty) (A : Ty) (id : TypeId) : Type 0 where
  pub reads : written_type (kinds old) w ≡ Ok A
  pub held : HoldsType new id
  pub is : type_of new id ≡ A

-- Exactly one of these holds; want of memory alone is free.
abbrev pub TypeAnswers : Table → Table → tree.Ty → Result TypeId InferFault → Type 0
TypeAnswers old new w (Ok id) = (A : Ty) × IsWritten old new w A id × IsDeclarable A
TypeAnswers old new w (Err (Unknown x)) = written_type (kinds old) w ≡ Err x
TypeAnswers old new w (Err (TypeClash p)) = (A : Ty) × (written_type (kinds old) w ≡ Ok A) × (IsDeclarable A → ⊥) × (p ≡ type_place w)
TypeAnswers old new w (Err (Untyped p)) = ⊥
TypeAnswers old new w (Err (Memory m)) = Unit {0}

-- what is found of a written type
abbrev pub WrittenAnswers : Table → Table → tree.Ty → Result Written InferFault → Type 0
WrittenAnswers old new w (Ok r) = (A : Ty) × IsWritten old new w A r.ty × (r.is_free ≡ true → PropFree A) × (r.is_free ≡ false → PropFree A → ⊥)
    × (r.is_declarable ≡ true → IsDeclarable A) × (r.is_declarable ≡ false → IsDeclarable A → ⊥)
WrittenAnswers old new w (Err (Unknown x)) = written_type (kinds old) w ≡ Err x
WrittenAnswers old new w (Err (TypeClash p)) = ⊥
WrittenAnswers old new w (Err (Untyped p)) = ⊥
WrittenAnswers old new w (Err (Memory m)) = Unit {0}

abbrev pub KindAnswers : Table → Table → List ℕ → Result Written InferFault → Type 0
KindAnswers old new x r = (p : ℕ) → WrittenAnswers old new (tree.base x p) r
