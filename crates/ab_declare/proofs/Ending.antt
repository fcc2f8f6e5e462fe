-- Written types that end in that of formulas.
use Rattle.std.specs.Prelude.{◌≡◌, ◌↔◌, ℕ, List, Bool, IsTrue, Result, Ok, Err}
use Rattle.std.proofs.Common.{refl, sym, ◌∙◌, subst, ap}
use Rattle.ab_term.specs.Types.{Ty, arrow}
use Rattle.ab_grammar.specs.Tree as tree
use Rattle.ab_meaning.specs.Types.{written_type, arrow_of}
use Rattle.ab_declare.specs.DefinitionCommands.{EndsInProp}

abbrev Ends : Bool → Ty → Type 0
Ends b A = IsTrue b ↔ EndsInProp A

pub arrow_ends : (kinds : List (List ℕ)) (v w : tree.Ty) (A : Ty) (b : Bool) → written_type kinds (tree.arrow v w) ≡ Ok A → ((B : Ty) → written_type kinds w ≡ Ok B → Ends b B) → Ends b A
arrow_ends kinds v w A b e rest = go (written_type kinds v) (written_type kinds w) refl e
  where
    go : (r s : Result Ty (List ℕ)) → written_type kinds w ≡ s → arrow_of r s ≡ Ok A → Ends b A
    go (Ok B) (Ok C) f g = let is : arrow B C ≡ A = cc in subst (Ends b) is (rest C f)
    go (Ok B) (Err x) f g = absurd (cc)
    go (Err x) s f g = absurd (cc)
