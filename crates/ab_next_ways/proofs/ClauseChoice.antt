-- Which way by a definition stands at a place.
use Rattle.std.specs.Prelude.{◌↔◌, slice_get, IsTrue, Contains}
use Rattle.ab_term.proofs.Lists.{Contains-here, Contains-there}
use Rattle.std.specs.Option.{option_map}
use Rattle.std.proofs.Common.{◌≡◌, ℕ, zero, suc, ◌-◌, ◌≤◌, List, [], ◌∷◌, map, cond, Bool, true, false, Option, Some, take, drop, length, slice_index_or, refl, sym, ◌∙◌, ap, subst, arith, take_all}
use Rattle.std.specs.List.{All}
use Rattle.std.proofs.lemmas.List.Elements.{All-head, All-tail}
use Rattle.std.proofs.lemmas.Option.{slice_get-map}
use Rattle.ab_term.specs.Types.{Ty, prop}
use Rattle.ab_term.specs.Terms.{Read}
use Rattle.ab_term.specs.Typing.{HasType}
use Rattle.ab_norm.specs.ab_types.specs.Entries.{Table, signature}
use Rattle.ab_norm.specs.declared.nominal.Nominal.{Nominal as Named}
use Rattle.ab_norm.specs.Nominals.{nominal_of, HoldsNominal}
use Rattle.ab_judgements.specs.ab_alternatives.specs.ab_instances.specs.ListReadings.{names_read}
use Rattle.ab_norm.specs.TypedArguments.{AreTaken}
use Rattle.ab_typing.specs.DefinitionReadings.{name_of}
use Rattle.ab_formulas.specs.BodyMarks.{MayBeUnfolded}
use Rattle.ab_formulas.specs.Declarations.{Declarations}
use Rattle.ab_formulas.specs.Marks.{Sign, plain, star_of, at_of, plus_of, hash_of}
use Rattle.ab_logic.specs.Worlds.{declarations_of}
use Rattle.ab_logic.specs.declared.world.World.{World}
use Rattle.ab_theory.specs.Atoms.{Defined, defined_atom, choices_of}
use Rattle.ab_theory.proofs.Taken.{atom_of}
use Rattle.ab_judgements.specs.ab_alternatives.specs.AtomReadings.{defined_read}
use Rattle.ab_judgements.specs.ab_alternatives.specs.Choices.{read_choice}
use Rattle.ab_judgements.specs.ab_alternatives.specs.declared.choice_counts.Choice.{Choice as Kept}
use Rattle.ab_judgements.specs.ab_alternatives.specs.declared.atoms.DefinedAtom.{DefinedAtom}
use Rattle.ab_search_trees.specs.Goals.{Goal, Now}
use Rattle.ab_search_trees.specs.Ways.{unfolds, by_definition, by_choice}

pub unfolds_so : (m : Sign) (b : Bool) → IsTrue b ↔ MayBeUnfolded m → unfolds m ≡ b
unfolds_so plain b e = sym (e.1 tt)
unfolds_so (hash_of i) b e = sym (e.1 tt)
unfolds_so (star_of i) true e = absurd (e.0 refl)
unfolds_so (star_of i) false e = refl
unfolds_so (at_of i) true e = absurd (e.0 refl)
unfolds_so (at_of i) false e = refl
unfolds_so (plus_of i) true e = absurd (e.0 refl)
unfolds_so (plus_of i) false e = refl

module _ (D : Declarations) (now : Now) (g : Goal) where
  pub way_there : (n i : ℕ) (o : Option Defined) (d : Defined) → 1 ≤ n → o ≡ Some d → unfolds d.sign ≡ true → slice_get (by_definition D now g n o) i ≡ option_map (by_choice D now g (n - 1) d) (slice_get (choices_of g.constants d) i)
  way_there zero i o d l e m = absurd (omega (arith, l))
  way_there (suc n) i o d l e m =
      ap (λ o. slice_get (by_definition D now g (suc n) o) i) e
      ∙ ap (λ b. slice_get (cond b (map (by_choice D now g n d) (choices_of g.constants d)) []) i) m
      ∙ slice_get-map (by_choice D now g n d) (choices_of g.constants d) i
      ∙ ap (λ k. option_map (by_choice D now g k d) (slice_get (choices_of g.constants d) i)) (let e : n ≡ suc n - 1 = omega arith in e)

-- of the choices that of this number, where these constants are held
pub choice_there : (w : World) (d : Defined) (ns ms : List Named) (i : ℕ) (o p : Option Kept) → ns ≡ ms → option_map (read_choice w) o ≡ slice_get (choices_of (names_read w.types ns) d) i → o ≡ p
    → slice_get (choices_of (names_read w.types ms) d) i ≡ option_map (read_choice w) p
choice_there w d ns ms i o p same e is = ap (λ l. slice_get (choices_of (names_read w.types l) d) i) (sym same) ∙ sym e ∙ ap (option_map (read_choice w)) is

-- the arguments, where the formula is one of the world
pub taken_so : (w : World) (F : Read) → HasType (signature w.types) [] F prop → (a : DefinedAtom) → defined_atom (declarations_of w) F ≡ Some (defined_read w a)
    → (A : Ty) × (signature w.types (name_of w.types a.predicate) ≡ Some A) × AreTaken w.types w.store [] a.arguments.items A prop
taken_so w F typed a e = let atom = atom_of (declarations_of w) (signature w.types) F (defined_read w a) typed e in (atom.type, atom.signature, atom.taken)

-- the constants, the first of which are read apart
pub names_parted : (types : Table) (xs : List Named) (e : Named) → 1 ≤ length xs → names_read types xs ≡ nominal_of types (slice_index_or xs 0 e) ∷ names_read types (take (length xs - 1) (drop 1 xs))
names_parted types [] e l = absurd (omega (arith, l))
names_parted types (a ∷ xs) e l = ap (λ k. nominal_of types a ∷ names_read types k) (sym (ap (λ n. take n xs) (let m : suc (length xs) - 1 ≡ length xs = omega arith in m) ∙ take_all (length xs) xs (omega arith)))

pub held_parted : (types : Table) (xs : List Named) (e : Named) → 1 ≤ length xs → All (HoldsNominal types) xs → HoldsNominal types (slice_index_or xs 0 e) × All (HoldsNominal types) (take (length xs - 1) (drop 1 xs))
held_parted types [] e l h = absurd (omega (arith, l))
held_parted types (a ∷ xs) e l h = (All-head (HoldsNominal types) a xs h, subst (All (HoldsNominal types)) (sym (ap (λ n. take n xs) (let m : suc (length xs) - 1 ≡ length xs = omega arith in m) ∙ take_all (length xs) xs (omega arith))) (All-tail (HoldsNominal types) a xs h))

pub get_there : {X : Type 0} (xs : List X) (i : ℕ) (x : X) → slice_get xs i ≡ Some x → Contains xs x
get_there [] i x e = absurd (cc)
get_there (y ∷ ys) zero x e = let same : y ≡ x = cc in subst (Contains (y ∷ ys)) same (Contains-here y ys)
get_there (y ∷ ys) (suc i) x e = Contains-there y ys x (get_there ys i x e)
