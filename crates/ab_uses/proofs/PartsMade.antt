-- Parts are listed one after another.
use Rattle.std.proofs.Common.{◌≡◌, List, [], ◌∷◌, ◌++◌, ◌∙◌, ap}
use Rattle.std.proofs.lemmas.List.{map-append, append_assoc}
use Rattle.ab_norm.specs.ab_types.specs.Entries.{Table}
use Rattle.ab_norm.specs.ab_store.specs.Trees.{Contents}
use Rattle.ab_theory.specs.Pieces as plain
use Rattle.ab_uses.specs.UseCells.{part_read, parts_read}
use Rattle.ab_uses.specs.declared.part.Part.{Part}

-- one part more
pub parts_push : (T : Table) (S : Contents) (list new : List Part) (p : Part) (q : plain.Part) (rest : List plain.Part) → new ≡ list ++ p ∷ [] → part_read T S p ≡ q → parts_read T S new ++ rest ≡ parts_read T S list ++ q ∷ rest
parts_push T S list new p q rest push is =
    ap (λ l. parts_read T S l ++ rest) push
    ∙ ap (λ l. l ++ rest) (map-append (part_read T S) list (p ∷ []))
    ∙ append_assoc (parts_read T S list) (part_read T S p ∷ []) rest
    ∙ ap (λ r. parts_read T S list ++ r ∷ rest) is
