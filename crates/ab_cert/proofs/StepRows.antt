-- The table of steps, written out.
use Rattle.std.proofs.Common.{◌≡◌, ℕ, List, [], ◌∷◌, codes, refl}
use Rattle.std.specs.Fmt.{digits}
use Rattle.ab_cert.specs.declared.part.Part.{Part}
use Rattle.ab_cert.specs.Tables.{steps}
use Rattle.ab_cert.specs.Grammar.{step_rows}

abbrev pub step_table : List (List ℕ × List Part)
step_table =
    (codes "1", Part.Name ∷ [])
    ∷ (codes "2", [])
    ∷ (codes "3", Part.Name ∷ [])
    ∷ (codes "4", [])
    ∷ (codes "5", Part.Name ∷ (Part.Label ∷ (Part.Label ∷ [])))
    ∷ (codes "6", Part.Flag ∷ [])
    ∷ (codes "7", Part.Name ∷ (Part.Label ∷ []))
    ∷ (codes "8", Part.Label ∷ [])
    ∷ (codes "9", Part.Name ∷ (Part.Label ∷ []))
    ∷ (codes "10", [])
    ∷ (codes "11", Part.Name ∷ (Part.Term ∷ (Part.Label ∷ [])))
    ∷ (codes "12", Part.Term ∷ [])
    ∷ (codes "13", Part.Name ∷ (Part.Label ∷ []))
    ∷ (codes "14", [])
    ∷ (codes "15", Part.Name ∷ (Part.Label ∷ []))
    ∷ (codes "16", [])
    ∷ (codes "17", Part.Name ∷ [])
    ∷ (codes "18", Part.Place ∷ [])
    ∷ (codes "19", Part.Name ∷ (Part.Label ∷ []))
    ∷ (codes "20", Part.Numbers ∷ (Part.Labels ∷ []))
    ∷ (codes "21", Part.Labels ∷ [])
    ∷ (codes "22", Part.Term ∷ (Part.Label ∷ []))
    ∷ (codes "23", Part.Name ∷ (Part.Label ∷ []))
    ∷ (codes "24", Part.Name ∷ [])
    ∷ (codes "25", Part.Name ∷ (Part.Name ∷ (Part.Label ∷ [])))
    ∷ (codes "26", Part.Name ∷ (Part.Replaces ∷ (Part.Label ∷ [])))
    ∷ (codes "27", Part.Name ∷ (Part.Term ∷ (Part.Label ∷ [])))
    ∷ (codes "28", []) ∷ []

pub step_table_is : step_table ≡ step_rows 1 steps
unfolding digits
step_table_is = refl
