-- What the program's tables of the grammar stand for: tools of the reader's private functions.
use Rattle.std.specs.Prelude.{ℕ, List, [], ◌∷◌, ◌++◌, map, Option, Some, None}
use Rattle.std.specs.Borrow.{Bor}
use Rattle.ab_cert.specs.declared.part.Part.{Part}
use Rattle.ab_cert.specs.declared.part.Behind.{Behind}
use Rattle.ab_cert.specs.declared.part.Lead as program
use Rattle.ab_cert.specs.declared.scan.Kids.{Kids}
use Rattle.ab_cert.specs.Grammar.{Lead, words, names, mark_or_name, numbers, copies}

abbrev pub behind : Behind → ℕ → List Part
behind Behind.Nothing n = []
behind Behind.Replacement n = Part.Type ∷ (Part.Term ∷ [])
behind (Behind.Each s) n = copies n s
behind Behind.Clauses n = copies n Part.Clause ++ Part.Items ∷ []
behind Behind.Proof n = Part.Term ∷ (copies n Part.Step ++ Part.Items ∷ [])

-- a table, as the program holds it
abbrev pub table_of : List (Bor (List ℕ) × Bor (List Part)) → List (List ℕ × List Part)
table_of rows = map (λ row. (row.0.now, row.1.now)) rows

abbrev pub lead_meant : program.Lead → Lead
lead_meant (program.Lead.Words rows) = words (table_of rows.now)
lead_meant (program.Lead.Names after) = names after.now
lead_meant (program.Lead.MarkOrName b mark) = mark_or_name b mark.now
lead_meant (program.Lead.Numbers limit after) = numbers limit (behind after)

abbrev pub kids_of : Kids → List Part
kids_of (Kids.Fixed parts) = parts.now
kids_of (Kids.ByNumber after n) = behind after n

abbrev pub kids_meant : Option Kids → Option (List Part)
kids_meant None = None
kids_meant (Some kids) = Some (kids_of kids)

-- what follows a word, if the word was found
abbrev pub parts_found : Option (Bor (List Part)) → Option (List Part)
parts_found None = None
parts_found (Some parts) = Some parts.now
