-- The logical constants, their types, and the levels of the size marks.
use Rattle.std.specs.Prelude.{ℕ, [], ◌∷◌, Option, Some, None}
use Rattle.ab_term.specs.Types.{Ty, arrow, arrows, prop, o, olist}

pub data Logical : Type 0 where
  -- connectives, equality and quantifiers of the reasoning logic
  truth falsity conjunction disjunction implication : Logical
  equality universal existential nabla : Ty → Logical
  -- `{L |- G}` takes L and G; `{L, [F] |- A}` takes L, F and A
  judgement focused_judgement : Logical
  -- the size marks `*`, `@`, `+` and `#`, each with its level, on an atom or a judgement
  star at_sign plus hash : ℕ → Logical
  -- `pi`, `=>` and `&` of the specification logic
  spec_universal : Ty → Logical
  spec_implication spec_conjunction : Logical

abbrev pub logical_type : Logical → Ty
logical_type truth = prop
logical_type falsity = prop
logical_type conjunction = arrows (prop ∷ prop ∷ []) prop
logical_type disjunction = arrows (prop ∷ prop ∷ []) prop
logical_type implication = arrows (prop ∷ prop ∷ []) prop
logical_type (equality A) = arrows (A ∷ A ∷ []) prop
logical_type (universal A) = arrow (arrow A prop) prop
logical_type (existential A) = arrow (arrow A prop) prop
logical_type (nabla A) = arrow (arrow A prop) prop
logical_type judgement = arrows (olist ∷ o ∷ []) prop
logical_type focused_judgement = arrows (olist ∷ o ∷ o ∷ []) prop
logical_type (star i) = arrow prop prop
logical_type (at_sign i) = arrow prop prop
logical_type (plus i) = arrow prop prop
logical_type (hash i) = arrow prop prop
logical_type (spec_universal A) = arrow (arrow A o) o
logical_type spec_implication = arrows (o ∷ o ∷ []) o
logical_type spec_conjunction = arrows (o ∷ o ∷ []) o

-- the level of a size mark
abbrev pub mark_level : Logical → Option ℕ
mark_level (star i) = Some i
mark_level (at_sign i) = Some i
mark_level (plus i) = Some i
mark_level (hash i) = Some i
mark_level _ = None
