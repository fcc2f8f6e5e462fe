-- A name that is no constant's has no definition.
use Rattle.std.specs.Prelude.{◌≡◌, ℕ, ◌-◌, List, [], ◌∷◌, ◌++◌, ◌||◌, map, take, drop, Bool, true, false, Some, None, if◌then◌else◌, bytes_eq, All, Contains}
use Rattle.std.specs.List.{list_any}
use Rattle.std.proofs.Common.{refl, sym, ◌∙◌, ap, subst}
use Rattle.std.proofs.lemmas.List.Elements.{All-head, All-tail}
use Rattle.std.proofs.lemmas.Slice.Eq.{bytes_eq-Decides}
use Rattle.ab_term.specs.Constants.{Constant, names}
use Rattle.ab_norm.specs.ab_types.specs.Entries.{Table, constants}
use Rattle.ab_norm.specs.ab_types.specs.Ids.{HoldsConstant, constant_of}
use Rattle.ab_norm.specs.ab_types.specs.declared.ids.ConstId.{ConstId}
use Rattle.ab_typing.specs.DefinitionReadings.{name_of}
use Rattle.ab_typing.specs.declared.definitions.Block.{Block as KeptBlock}
use Rattle.ab_formulas.specs.Declarations.{Declarations, block_in}
use Rattle.ab_logic.specs.Worlds.{declared, declaration_of, declared_from, definition_of, IsKept}
use Rattle.ab_logic.specs.declared.world.World.{World}
use Rattle.ab_logic.specs.declared.additions.Added.{Added}
use Rattle.ab_logic.specs.declared.additions.Addition.{Addition}
use Rattle.ab_logic.specs.declared.additions.Addition.TheVariants.{Theorem, Definition, Clause}
use Rattle.ab_formulas.proofs.Declaring.{or_else, block_in-append}
use Rattle.ab_logic.proofs.Declaring.{block-declared, in_rest, in_part}

abbrev Name : Type 0
Name = List ℕ

module _ (w : World) (p : Name) (absent : (c : ConstId) → HoldsConstant w.types c → name_of w.types c ≡ p → ⊥) where
  none_named : (cs : List ConstId) → All (HoldsConstant w.types) cs → list_any (bytes_eq p) (map (name_of w.types) cs) ≡ false
  none_named [] all = refl
  none_named (c ∷ cs) all = go (bytes_eq p (name_of w.types c)) refl (none_named cs (All-tail (HoldsConstant w.types) c cs all))
    where
      go : (b : Bool) → bytes_eq p (name_of w.types c) ≡ b → list_any (bytes_eq p) (map (name_of w.types) cs) ≡ false → list_any (bytes_eq p) (map (name_of w.types) (c ∷ cs)) ≡ false
      go true e rest = absurd (absent c (All-head (HoldsConstant w.types) c cs all) (sym ((bytes_eq-Decides p (name_of w.types c)).0 e)))
      go false e rest = ap (λ r. r || list_any (bytes_eq p) (map (name_of w.types) cs)) e ∙ rest

  pub undefined : (done : ℕ) (xs : List Added) → All (λ (a : Added). IsKept w.types w.store a.what) xs → block_in (declared_from w done xs) p ≡ None
  undefined done [] all = in_rest (λ ds. block_in ds p ≡ None) (λ t. block-declared t p) done w.types
  undefined done (a ∷ xs) all =
      block_in-append front (declaration_of w a.what ∷ rest) p
      ∙ ap (λ o. or_else o (block_in (declaration_of w a.what ∷ rest) p)) (in_part (λ ds. block_in ds p ≡ None) (λ t. block-declared t p) (a.before - done) done w.types)
      ∙ one a.what (All-head (λ (x : Added). IsKept w.types w.store x.what) a xs all) (undefined a.before xs (All-tail (λ (x : Added). IsKept w.types w.store x.what) a xs all))
    where
      front : Declarations
      front = take (a.before - done) (drop done (declared w.types))

      rest : Declarations
      rest = declared_from w a.before xs

      one : (what : Addition) → IsKept w.types w.store what → block_in rest p ≡ None → block_in (declaration_of w what ∷ rest) p ≡ None
      one (Theorem e) k later = later
      one (Clause c h) k later = later
      one (Definition b) k later = ap (λ r. if r then Some (definition_of w b) else block_in rest p) (none_named b.predicates k.predicates) ∙ later
