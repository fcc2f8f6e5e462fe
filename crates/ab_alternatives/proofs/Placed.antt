-- Places among the choices of a defined atom, on shared terms.
use Rattle.std.specs.Prelude.{◌↔◌, Contains, slice_get}
use Rattle.std.specs.Option.{option_map}
use Rattle.std.specs.List.{All}
use Rattle.std.proofs.Common.{◌≡◌, ℕ, ◌+◌, ◌<◌, List, [], ◌∷◌, ◌++◌, map, length, drop, get_or, bytes_eq, Bool, true, false, cond, Some, refl, sym, ◌∙◌, ap, subst}
use Rattle.std.proofs.lemmas.Bool.{false≢true}
use Rattle.std.proofs.lemmas.List.{drop_more, length-map}
use Rattle.std.proofs.lemmas.List.Elements.{All-get_or, Contains-get_or}
use Rattle.std.proofs.lemmas.Option.{slice_get-map, slice_get-get_or}
use Rattle.std.proofs.lemmas.Slice.Eq.{bytes_eq-Decides}
use Rattle.ab_term.specs.Terms as tree
use Rattle.ab_norm.specs.ab_types.specs.Entries.{Table}
use Rattle.ab_norm.specs.ab_types.specs.Ids.{HoldsConstant, type_of}
use Rattle.ab_norm.specs.ab_types.specs.Sound.{IsTable}
use Rattle.ab_norm.specs.ab_types.specs.declared.ids.ConstId.{ConstId}
use Rattle.ab_norm.specs.ab_types.specs.declared.ids.TypeId.{TypeId}
use Rattle.ab_norm.specs.ab_types.proofs.Kept.{one_constant}
use Rattle.ab_norm.specs.ab_store.specs.Trees.{tree_of}
use Rattle.ab_norm.specs.Nominals.{HoldsNominal}
use Rattle.ab_norm.specs.declared.nominal.Nominal.{Nominal}
use Rattle.ab_unifiers.specs.Choices.{choices}
use Rattle.ab_unifiers.specs.Clauses as clauses
use Rattle.ab_unifiers.specs.Prefixes.{prefix}
use Rattle.ab_formulas.specs.CaseClauses.{case_of}
use Rattle.ab_typing.specs.DefinitionReadings.{clause_of, name_of}
use Rattle.ab_typing.specs.declared.definitions.ClauseTerm.{ClauseTerm}
use Rattle.ab_instances.specs.ListReadings.{names_read, given_at}
use Rattle.ab_logic.specs.Worlds.{IsKeptClause}
use Rattle.ab_logic.specs.declared.world.World.{World}
use Rattle.ab_theory.specs.Atoms.{Choice, choices_of}
use Rattle.ab_alternatives.specs.LeftAlternatives.{constants_in}
use Rattle.ab_alternatives.specs.AtomReadings.{defined_read, HoldsDefined, choice_read}
use Rattle.ab_alternatives.specs.declared.atoms.DefinedAtom.{DefinedAtom}
use Rattle.ab_alternatives.specs.ChoiceCounts.{choices_with, choices_by, choices_among}
use Rattle.ab_alternatives.specs.Choices.{read_choice, IsHeldFor}
use Rattle.ab_alternatives.specs.declared.choice_counts.Choice.{Choice as Kept}
use Rattle.ab_alternatives.proofs.Counted.{at_first, at_behind, among_more, by_fits}

-- a test of two constants is that of their names
pub same_by_name : (types : Table) → IsTable types → (p q : ConstId) → HoldsConstant types p → HoldsConstant types q → (r : Bool) → (r ≡ true) ↔ (p ≡ q) → r ≡ bytes_eq (name_of types p) (name_of types q)
same_by_name types ok p q hp hq true same = sym ((bytes_eq-Decides (name_of types p) (name_of types q)).1 (ap (name_of types) (same.0 refl)))
same_by_name types ok p q hp hq false same = go (bytes_eq (name_of types p) (name_of types q)) refl
  where
    go : (b : Bool) → bytes_eq (name_of types p) (name_of types q) ≡ b → false ≡ b
    go true e = absurd (false≢true (same.1 (one_constant types ok p q hp hq ((bytes_eq-Decides (name_of types p) (name_of types q)).0 e))))
    go false e = refl

module _ (w : World) where
  abbrev pub case_in : ClauseTerm → clauses.Clause (List ℕ)
  case_in k = case_of (clause_of w.types w.store k)

  module _ (a : DefinedAtom) (k : ClauseTerm) (held : List Nominal) where
    -- no choice by a clause of another predicate
    pub none_by : bytes_eq (case_in k).predicate (name_of w.types a.predicate) ≡ false → [] ≡ choices_by (names_read w.types held) (defined_read w a) (case_in k)
    none_by e = sym (ap (λ b. cond b (choices_with (names_read w.types held) (defined_read w a) (case_in k)) []) e)

    read_twice : (list : List (List Nominal)) → map (choice_read w k) list ≡ map (λ ns. record { clause = case_in k; names = ns }) (map (names_read w.types) list)
    read_twice [] = refl
    read_twice (ns ∷ list) = ap (λ l. choice_read w k ns ∷ l) (read_twice list)

    -- the choices by one of the predicate
    pub listed_by : (constants : List Nominal) (types : List TypeId) (list : List (List Nominal)) → bytes_eq (case_in k).predicate (name_of w.types a.predicate) ≡ true
        → names_read w.types constants ≡ constants_in (given_at w.types w.store a.arguments.items)
        → map (type_of w.types) types ≡ map (λ z. z.type) (prefix (tree_of w.types w.store k.head))
        → map (names_read w.types) list ≡ choices (map (type_of w.types) types) (names_read w.types constants) (names_read w.types held)
        → map (choice_read w k) list ≡ choices_by (names_read w.types held) (defined_read w a) (case_in k)
    listed_by constants types list e same fit all =
        read_twice list
        ∙ ap (map (λ ns. record { clause = case_in k; names = ns }))
        (all
        ∙ ap (λ As. choices As (names_read w.types constants) (names_read w.types held)) fit
        ∙ ap (λ free. choices (map (λ z. z.type) (case_in k).names) free (names_read w.types held)) same)
        ∙ sym (ap (λ b. cond b (choices_with (names_read w.types held) (defined_read w a) (case_in k)) []) e)

  -- a choice at a place
  pub chosen_there : (k : ClauseTerm) (cs : List Choice) (list : List (List Nominal)) (place : ℕ) (ns : List Nominal) (d : List Nominal) → map (choice_read w k) list ≡ cs → place < length list → ns ≡ get_or list place d
      → slice_get cs place ≡ Some (choice_read w k ns)
  chosen_there k cs list place ns d all low is =
      ap (λ l. slice_get l place) (sym all)
      ∙ slice_get-map (choice_read w k) list place
      ∙ ap (λ o. option_map (choice_read w k) o) (slice_get-get_or list place d low ∙ ap Some (sym is))

  pub chosen_held : (list : List (List Nominal)) (place : ℕ) (ns d : List Nominal) → All (All (HoldsNominal w.types)) list → place < length list → ns ≡ get_or list place d → All (HoldsNominal w.types) ns
  chosen_held list place ns d all low is = subst (All (HoldsNominal w.types)) (sym is) (All-get_or (All (HoldsNominal w.types)) list place d low all)

  pub far_behind : (k : ClauseTerm) (cs : List Choice) (list : List (List Nominal)) (place left : ℕ) → map (choice_read w k) list ≡ cs → length list + left ≡ place → length cs + left ≡ place
  far_behind k cs list place left all e = ap (λ l. length l + left) (sym all) ∙ ap (λ n. n + left) (length-map list (choice_read w k)) ∙ e

  -- clause by clause
  module _ (a : DefinedAtom) (held : List tree.Nominal) where
    abbrev pub all_choices : List Choice
    all_choices = choices_of held (defined_read w a)

    abbrev pub choices_from : List ClauseTerm → List Choice
    choices_from ks = choices_among held (defined_read w a) (map case_of (map (clause_of w.types w.store) ks))

    module _ (ks : List ClauseTerm) (i : ℕ) (k : ClauseTerm) (low : i < length ks) (is : k ≡ get_or ks i k) (place left : ℕ) (so_far : slice_get all_choices place ≡ slice_get (choices_from (drop i ks)) left) where
      one_more : choices_from (drop i ks) ≡ choices_by held (defined_read w a) (case_in k) ++ choices_from (drop (i + 1) ks)
      one_more =
          ap choices_from (drop_more ks i k low ∙ ap (λ z. z ∷ drop (i + 1) ks) (sym is))
          ∙ among_more held (defined_read w a) (case_in k) (map case_of (map (clause_of w.types w.store) (drop (i + 1) ks)))

      pub found_here : (ns : List Nominal) → slice_get (choices_by held (defined_read w a) (case_in k)) left ≡ Some (choice_read w k ns) → slice_get all_choices place ≡ Some (choice_read w k ns)
      found_here ns e =
          so_far
          ∙ ap (λ l. slice_get l left) one_more
          ∙ at_first (choices_by held (defined_read w a) (case_in k)) (choices_from (drop (i + 1) ks)) left (choice_read w k ns) e

      pub found_later : (rest : ℕ) → length (choices_by held (defined_read w a) (case_in k)) + rest ≡ left → slice_get all_choices place ≡ slice_get (choices_from (drop (i + 1) ks)) rest
      found_later rest e =
          so_far
          ∙ ap (λ l. slice_get l left) one_more
          ∙ at_behind (choices_by held (defined_read w a) (case_in k)) (choices_from (drop (i + 1) ks)) rest left e

    -- the choice that was found
    pub held_for : HoldsDefined w a → (i : ℕ) (c : Kept) (left : ℕ) → i < length a.block.clauses → c.clause.now ≡ get_or a.block.clauses i c.clause.now
        → slice_get (choices_by held (defined_read w a) (case_in c.clause.now)) left ≡ Some (read_choice w c) → All (HoldsNominal w.types) c.names.items → IsHeldFor w a c
    held_for h i c left low is e names =
        let fits = by_fits held (defined_read w a) (case_in c.clause.now) (names_read w.types c.names.items) left e in
        record {
          clause = subst (Contains a.block.clauses) (sym is) (Contains-get_or a.block.clauses i c.clause.now low);
          kept = subst (IsKeptClause w.types w.store) (sym is) (All-get_or (IsKeptClause w.types w.store) a.block.clauses i c.clause.now low h.block.clauses);
          predicate = (bytes_eq-Decides (case_in c.clause.now).predicate (name_of w.types a.predicate)).0 fits.0;
          names = names;
          fit = fits.1;
        }
