-- For names that are taken off there always are terms.
use Rattle.std.proofs.Common.{◌≡◌, ℕ, suc, ◌+◌, List, [], ◌∷◌, map, length, Bool, true, false, Option, Some, None, refl, ap, arith}
use Rattle.ab_term.specs.Terms.{nominal, Read}
use Rattle.ab_term.specs.Typing.{Signature}
use Rattle.ab_term.specs.Variables.{Substitution}
use Rattle.ab_term.proofs.Expansions.{expansion_typed}
use Rattle.ab_unifiers.specs.Replacements.{Cell}
use Rattle.ab_formulas.specs.Sequents.{Variable}
use Rattle.ab_theory.specs.Equations.{variables_from}
use Rattle.ab_theory.specs.Parts.{Part}
use Rattle.ab_coverage.specs.TakenNames.{closes, part_under, IsTaken}
use Rattle.ab_coverage.proofs.Clausal.{anything}

tests_length : (test : Variable → Bool) (n : ℕ) (bs : List (Cell (List ℕ))) → length (map test (variables_from n bs)) ≡ length bs
tests_length test n [] = refl
tests_length test n (b ∷ bs) = ap suc (tests_length test (n + 1) bs)

module _ (sg : Signature) where
  some_terms : (ds es : List Bool) (bs : List (Cell (List ℕ))) → length ds ≡ length bs → length es ≡ length bs → (ks : List (Option Read)) × IsTaken sg ds es bs ks
  some_terms [] [] [] l m = ([], tt)
  some_terms [] (e ∷ es) [] l m = absurd (omega (arith, m))
  some_terms (d ∷ ds) es [] l m = absurd (omega (arith, l))
  some_terms [] es (b ∷ bs) l m = absurd (omega (arith, l))
  some_terms (d ∷ ds) [] (b ∷ bs) l m = absurd (omega (arith, m))
  some_terms (true ∷ ds) (e ∷ es) (b ∷ bs) l m = let r = some_terms ds es bs (omega (arith, l)) (omega (arith, m)) in (None ∷ r.0, r.1)
  some_terms (false ∷ ds) (false ∷ es) (b ∷ bs) l m = let r = some_terms ds es bs (omega (arith, l)) (omega (arith, m)) in (None ∷ r.0, r.1)
  some_terms (false ∷ ds) (true ∷ es) (b ∷ bs) l m =
      let r = some_terms ds es bs (omega (arith, l)) (omega (arith, m)) in
      (Some (anything b) ∷ r.0, (expansion_typed sg b.hint b.type [] (nominal (record { number = 0; type = b.type })) refl, r.1))

  pub taken_terms : (q : Substitution ℕ (List ℕ)) (n m : ℕ) (p : Part) → (ks : List (Option Read)) × IsTaken sg (closes n p) (closes m (part_under q p)) p.names ks
  taken_terms q n m p = some_terms (closes n p) (closes m (part_under q p)) p.names (tests_length _ n p.names) (tests_length _ m p.names)
