-- What is known where a permutation was looked for.
use Rattle.std.specs.Prelude.{IfSome, IsTrue, ◌↔◌}
use Rattle.std.specs.Option.{IsNone, is_some}
use Rattle.std.proofs.Common.{◌≡◌, Bool, true, false, Option, Some, None, refl, sym, ◌∙◌}
use Rattle.ab_term.specs.Names.{permute, IsPermutationTable, EqualUpToNames}
use Rattle.ab_term.specs.Translation.{EqualPastHints}
use Rattle.ab_norm.specs.ab_types.specs.Entries.{Table}
use Rattle.ab_term.specs.Terms.{Read}
use Rattle.ab_norm.specs.Nominals.{pairs_of}
use Rattle.ab_norm.specs.declared.nominal.Permutation.{Permutation}

pub found_is : (types : Table) (a b : Read) (o : Option Permutation) (r : Bool) → r ≡ is_some o
    → IfSome o (λ by. IsPermutationTable (pairs_of types by.pairs)) → IfSome o (λ by. EqualPastHints (permute (pairs_of types by.pairs) a) b)
    → IsNone o ↔ (EqualUpToNames a b → ⊥) → IsTrue r ↔ EqualUpToNames a b
found_is types a b None r e p s n = (λ t. absurd (let x : false ≡ true = sym e ∙ t in cc), λ same. absurd (n.0 refl same))
found_is types a b (Some by) r e p s n = (λ t. (pairs_of types by.pairs, p, s), λ same. e)
