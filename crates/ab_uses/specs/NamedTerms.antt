-- The terms and the types that parts name. Public contracts don't speak of this.
use Rattle.std.specs.Prelude.{List, [], ◌∷◌}
use Rattle.ab_norm.specs.ab_types.specs.declared.ids.TypeId.{TypeId}
use Rattle.ab_norm.specs.ab_store.specs.declared.node.TermId.{TermId}
use Rattle.ab_uses.specs.declared.part.Part.{Part}
use Rattle.ab_uses.specs.declared.part.Part.TheVariants.{Variable, Given, Constant, Antecedent}

-- the terms that are given
abbrev pub terms_named : List Part → List TermId
terms_named [] = []
terms_named (Variable x a ∷ ps) = terms_named ps
terms_named (Given t ∷ ps) = t ∷ terms_named ps
terms_named (Constant a ∷ ps) = terms_named ps
terms_named (Antecedent ∷ ps) = terms_named ps

-- the types of the constants
abbrev pub types_named : List Part → List TypeId
types_named [] = []
types_named (Variable x a ∷ ps) = types_named ps
types_named (Given t ∷ ps) = types_named ps
types_named (Constant a ∷ ps) = a ∷ types_named ps
types_named (Antecedent ∷ ps) = types_named ps
