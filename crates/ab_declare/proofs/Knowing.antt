-- What a world's table and its declarations have in common, and what is declared by entries of a table.
use Rattle.std.specs.Prelude.{◌≡◌, ℕ, ◌-◌, List, [], ◌∷◌, ◌++◌, map, take, drop}
use Rattle.std.proofs.Common.{refl, sym, ◌∙◌, ap}
use Rattle.std.proofs.lemmas.List.{take-append-drop}
use Rattle.ab_term.specs.Types.{Ty}
use Rattle.ab_norm.specs.ab_types.specs.Entries as table
use Rattle.ab_term.specs.Constants.{names, constant}
use Rattle.ab_norm.specs.ab_types.specs.Entries.{Table, kinds, constants}
use Rattle.ab_meaning.specs.Terms.{kinds_in}
use Rattle.ab_formulas.specs.Declarations.{Declarations, a_kind, a_constant, a_block, a_program_clause, a_theorem, constants_in}
use Rattle.ab_logic.specs.Worlds.{declared, declaration_of, declared_from, declarations_of, CameInOrder, IsWorld}
use Rattle.ab_logic.specs.declared.world.World.{World}
use Rattle.ab_logic.specs.declared.additions.Added.{Added}
use Rattle.ab_logic.specs.declared.additions.Addition.{Addition}
use Rattle.ab_logic.specs.declared.additions.Addition.TheVariants.{Theorem, Definition, Clause}
use Rattle.ab_logic.proofs.Declaring.{drop_on, constants_are}
use Rattle.ab_declare.specs.DeclarationAnswers.{Knows}

pub kinds-declared : (s : Table) → kinds_in (declared s) ≡ kinds s
kinds-declared [] = refl
kinds-declared (table.a_kind k ∷ s) = ap (λ ks. k ∷ ks) (kinds-declared s)
kinds-declared (table.a_type A ∷ s) = kinds-declared s
kinds-declared (table.a_constant c ∷ s) = kinds-declared s

pub kinds_in-append : (D E : Declarations) → kinds_in (D ++ E) ≡ kinds_in D ++ kinds_in E
kinds_in-append [] E = refl
kinds_in-append (a_kind k ∷ D) E = ap (λ ks. k ∷ ks) (kinds_in-append D E)
kinds_in-append (a_constant c A ∷ D) E = kinds_in-append D E
kinds_in-append (a_block b ∷ D) E = kinds_in-append D E
kinds_in-append (a_program_clause c ∷ D) E = kinds_in-append D E
kinds_in-append (a_theorem n F js ∷ D) E = kinds_in-append D E

kinds_split : (k : ℕ) (ds : Declarations) → kinds_in (take k ds) ++ kinds_in (drop k ds) ≡ kinds_in ds
kinds_split k ds = sym (kinds_in-append (take k ds) (drop k ds)) ∙ ap kinds_in (take-append-drop k ds)

-- what is added behind a table's entries is no kind
no_kind : (w : World) (what : Addition) (ds : Declarations) → kinds_in (declaration_of w what ∷ ds) ≡ kinds_in ds
no_kind w (Theorem e) ds = refl
no_kind w (Definition b) ds = refl
no_kind w (Clause c h) ds = refl

kinds_are : (w : World) (done : ℕ) (xs : List Added) → CameInOrder w.types done xs → kinds_in (declared_from w done xs) ≡ kinds_in (drop done (declared w.types))
kinds_are w done [] order = refl
kinds_are w done (a ∷ xs) order =
    let es = drop done (declared w.types) in
    let k = a.before - done in
    kinds_in-append (take k es) (declaration_of w a.what ∷ declared_from w a.before xs)
    ∙ ap (λ cs. kinds_in (take k es) ++ cs) (no_kind w a.what (declared_from w a.before xs) ∙ kinds_are w a.before xs order.1 ∙ ap kinds_in (sym (drop_on done a.before (declared w.types) order.0)))
    ∙ kinds_split k es

pub world_constants : (w : World) → IsWorld w → constants_in (declarations_of w) ≡ constants w.types
world_constants w is = constants_are w 0 w.additions is.order

-- a world's table knows what its declarations do
pub world_knows : (w : World) → IsWorld w → Knows w.types (declarations_of w)
world_knows w is = record { kinds = kinds_are w 0 w.additions is.order ∙ kinds-declared w.types; constants = ap names (constants_are w 0 w.additions is.order) }

-- kinds and constants as they stand in a table

pub declared-kinds : (xs : List (List ℕ)) → declared (map table.a_kind xs) ≡ map a_kind xs
declared-kinds [] = refl
declared-kinds (x ∷ xs) = ap (λ ds. a_kind x ∷ ds) (declared-kinds xs)

pub declared-constants : (A : Ty) (xs : List (List ℕ)) → declared (map (λ x. table.a_constant (constant x A)) xs) ≡ map (λ x. a_constant x A) xs
declared-constants A [] = refl
declared-constants A (x ∷ xs) = ap (λ ds. a_constant x A ∷ ds) (declared-constants A xs)

pub kinds-kinds : (xs : List (List ℕ)) → kinds (map table.a_kind xs) ≡ xs
kinds-kinds [] = refl
kinds-kinds (x ∷ xs) = ap (λ ks. x ∷ ks) (kinds-kinds xs)

pub names-constants : (A : Ty) (xs : List (List ℕ)) → names (constants (map (λ x. table.a_constant (constant x A)) xs)) ≡ xs
names-constants A [] = refl
names-constants A (x ∷ xs) = ap (λ ks. x ∷ ks) (names-constants A xs)

-- types are no declarations
pub none_declared : (more : Table) → kinds more ≡ [] → constants more ≡ [] → declared more ≡ []
none_declared [] k c = refl
none_declared (table.a_kind x ∷ es) k c = let bad : x ∷ kinds es ≡ [] = k in absurd (cc)
none_declared (table.a_type A ∷ es) k c = none_declared es k c
none_declared (table.a_constant x ∷ es) k c = let bad : x ∷ constants es ≡ [] = c in absurd (cc)
