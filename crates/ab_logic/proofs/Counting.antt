-- How many definitions, clauses of the program and theorems are declared.
use Rattle.std.proofs.Common.{◌≡◌, ℕ, suc, ◌-◌, List, [], ◌∷◌, ◌++◌, length, refl, ◌∙◌, ap}
use Rattle.ab_store.specs.ab_types.specs.Entries as table
use Rattle.ab_store.specs.ab_types.specs.Entries.{Table}
use Rattle.ab_formulas.specs.Declarations.{Declarations}
use Rattle.ab_logic.specs.Worlds.{declared, declaration_of, declared_from, count_added}
use Rattle.ab_logic.specs.declared.world.World.{World}
use Rattle.ab_logic.specs.declared.additions.Added.{Added}
use Rattle.ab_logic.specs.declared.additions.Addition.{Addition}
use Rattle.ab_logic.specs.declared.additions.Addition.TheVariants.{Theorem, Definition, Clause}
use Rattle.ab_logic.proofs.Declaring.{in_rest, in_part}

none_added : (s : Table) → count_added (declared s) ≡ 0
none_added [] = refl
none_added (table.a_kind k ∷ s) = none_added s
none_added (table.a_type A ∷ s) = none_added s
none_added (table.a_constant c ∷ s) = none_added s

behind : (s : Table) (ds : Declarations) → count_added (declared s ++ ds) ≡ count_added ds
behind [] ds = refl
behind (table.a_kind k ∷ s) ds = behind s ds
behind (table.a_type A ∷ s) ds = behind s ds
behind (table.a_constant c ∷ s) ds = behind s ds

one_more : (w : World) (what : Addition) (ds : Declarations) → count_added (declaration_of w what ∷ ds) ≡ suc (count_added ds)
one_more w (Theorem e) ds = refl
one_more w (Definition b) ds = refl
one_more w (Clause c h) ds = refl

pub as_many : (w : World) (done : ℕ) (xs : List Added) → count_added (declared_from w done xs) ≡ length xs
as_many w done [] = in_rest (λ ds. count_added ds ≡ 0) none_added done w.types
as_many w done (a ∷ xs) =
    in_part (λ ds. count_added (ds ++ (declaration_of w a.what ∷ declared_from w a.before xs)) ≡ count_added (declaration_of w a.what ∷ declared_from w a.before xs))
    (λ t. behind t (declaration_of w a.what ∷ declared_from w a.before xs)) (a.before - done) done w.types
    ∙ one_more w a.what (declared_from w a.before xs)
    ∙ ap suc (as_many w a.before xs)
