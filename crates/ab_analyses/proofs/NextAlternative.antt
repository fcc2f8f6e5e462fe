-- What is asked for the next alternative of an atom, and what it adds to those that were made.
use Rattle.std.specs.Prelude.{All, Bool, slice_get}
use Rattle.std.proofs.Common.{◌≡◌, ℕ, ◌+◌, List, [], ◌∷◌, ◌++◌, map, take, None, Some, sym, ◌∙◌, ap, subst}
use Rattle.ab_norm.specs.ab_types.specs.Entries.{signature}
use Rattle.ab_norm.specs.ab_types.specs.declared.ids.ConstId.{ConstId}
use Rattle.ab_norm.specs.Nominals.{HoldsNominal}
use Rattle.ab_norm.specs.declared.nominal.Nominal.{Nominal}
use Rattle.ab_term.specs.Typing.{Signature}
use Rattle.ab_unifiers.specs.Replacements.{Cell}
use Rattle.ab_unify.specs.Problem.{cells_read}
use Rattle.ab_formulas.specs.Sequents as plain
use Rattle.ab_formulas.specs.Sequents.{goal_names}
use Rattle.ab_typing.specs.DefinitionReadings.{name_of}
use Rattle.ab_logic.specs.SequentReadings.{sequent_of}
use Rattle.ab_logic.specs.declared.world.World.{World}
use Rattle.ab_logic.specs.declared.sequent.Sequent.{Sequent}
use Rattle.ab_logic.proofs.Growing as growing
use Rattle.ab_logic.proofs.Growing.{same_sequent}
use Rattle.ab_theory.specs.Atoms.{Defined, Choice, choices_of}
use Rattle.ab_alternatives.specs.ab_instances.specs.ListReadings.{names_read}
use Rattle.ab_alternatives.specs.ab_instances.proofs.Made.{names_stay, names_held}
use Rattle.ab_alternatives.specs.AtomReadings.{defined_read}
use Rattle.ab_alternatives.specs.CaseSteps.{IsLater}
use Rattle.ab_alternatives.specs.Choices.{read_choice}
use Rattle.ab_alternatives.specs.LeftAlternatives.{constants_in}
use Rattle.ab_alternatives.specs.declared.atoms.DefinedAtom.{DefinedAtom}
use Rattle.ab_alternatives.specs.declared.choice_counts.Choice.{Choice as KeptChoice}
use Rattle.ab_alternatives.proofs.Assembled.{given_stays, same_signature, names_same, taken_on}
use Rattle.ab_alternatives.proofs.Lasting.{same_atom, still_defined}
use Rattle.ab_analyses.specs.Alternatives.{AlternativeOver, by_choice, side_of, all_with}
use Rattle.ab_analyses.specs.AlternativeReadings.{StandsFor, HoldsAlternative, AreMade}
use Rattle.ab_analyses.specs.AlternativeSteps.{IsAtomReady}
use Rattle.ab_analyses.specs.declared.answers.Alternative.{Alternative as Kept}
use Rattle.ab_analyses.proofs.ListsMade.{one_more, front_more, front_whole}

module _ (w v : World) (later : IsLater w v) (s : Sequent) (a : DefinedAtom) (ns : List Nominal) (ready : IsAtomReady w s a ns) where
  name_same : (p : ConstId) → name_of v.types p ≡ name_of w.types p
  name_same p =
      let one : name_of v.types p ∷ [] ≡ name_of w.types p ∷ [] = names_same w.types v.types w.store v.store later.grown (p ∷ []) in
      cc

  -- ANOTHER MAY BE MADE THEN
  pub still_ready : IsAtomReady v s a ns
  still_ready = record {
    world = later.grows.world;
    goal = growing.still_held w v later.grows s ready.goal;
    different = ready.different;
    atom = still_defined w v later.grows a ready.atom;
    unmarked = ready.unmarked;
    taken = (
      ready.taken.0,
      ap (signature v.types) (name_same a.predicate) ∙ ap (λ (sg : Signature). sg (name_of w.types a.predicate)) (same_signature w.types v.types w.store v.store later.grown) ∙ ready.taken.1,
      taken_on w.types v.types w.store v.store later.grown a.arguments.items ready.taken.0 _ ready.atom.arguments ready.taken.2,
    );
    constants =
        names_stay w.types v.types later.grows.types ns ready.constants_held ∙ ready.constants
        ∙ ap constants_in (sym (given_stays w.types v.types w.store v.store later.grown a.arguments.items ready.atom.arguments));
    constants_held = names_held w.types v.types later.grows.types ns ready.constants_held;
  }

  module _ (held : List Nominal) (held_there : All (HoldsNominal w.types) held) (same : (d : Defined) → choices_of (names_read w.types held) d ≡ choices_of (goal_names (sequent_of w s)) d) (b : Bool) where
    abbrev make : Choice → AlternativeOver
    make = by_choice (side_of b) (sequent_of w s) (defined_read w a)

    abbrev all : List Choice
    all = choices_of (goal_names (sequent_of w s)) (defined_read w a)

    choices_same : choices_of (names_read v.types held) (defined_read v a) ≡ all
    choices_same =
        ap (λ l. choices_of l (defined_read v a)) (names_stay w.types v.types later.grows.types held held_there)
        ∙ ap (choices_of (names_read w.types held)) (same_atom w v later.grows a ready.atom) ∙ same (defined_read w a)

    make_same : by_choice (side_of b) (sequent_of v s) (defined_read v a) ≡ make
    make_same =
        ap (λ (t : plain.Sequent). by_choice (side_of b) t (defined_read v a)) (same_sequent w v later.grows s ready.goal)
        ∙ ap (by_choice (side_of b) (sequent_of w s)) (same_atom w v later.grows a ready.atom)

    module _ (list : List Kept) (place : ℕ) (cells : List (Cell (List ℕ))) (made : AreMade v list (map make (take place all)) cells) where
      -- where there is no further choice, all were made
      pub whole_made : slice_get (choices_of (names_read v.types held) (defined_read v a)) place ≡ None → AreMade v list (map make all) cells
      whole_made none = subst (λ l. AreMade v list (map make l) cells) (front_whole all place (ap (λ l. slice_get l place) (sym choices_same) ∙ none)) made

      -- else one more
      pub next_made : (x : World) (then : List Kept) (k : Kept) (c : KeptChoice) → Some (read_choice v c) ≡ slice_get (choices_of (names_read v.types held) (defined_read v a)) place → IsLater v x
          → StandsFor x k (by_choice (side_of b) (sequent_of v s) (defined_read v a) (read_choice v c) (cells_read v.types v.store)) → HoldsAlternative x k
          → cells_read x.types x.store ≡ all_with (by_choice (side_of b) (sequent_of v s) (defined_read v a) (read_choice v c) (cells_read v.types v.store))
          → then ≡ list ++ k ∷ [] → AreMade x then (map make (take (place + 1) all)) cells
      next_made x then k c there on stands holds cells_then pushed =
          let f : Choice → AlternativeOver = make in
          subst (λ l. AreMade x l (map f (take (place + 1) all)) cells) (sym pushed)
          (subst (λ ms. AreMade x (list ++ k ∷ []) ms cells) (sym (front_more f all place (read_choice v c) (ap (λ l. slice_get l place) (sym choices_same) ∙ sym there)))
          (one_more v x list (map f (take place all)) cells made on k (f (read_choice v c))
          (subst (λ (m : Choice → AlternativeOver). StandsFor x k (m (read_choice v c) (cells_read v.types v.store))) make_same stands) holds
          (cells_then ∙ ap (λ (m : Choice → AlternativeOver). all_with (m (read_choice v c) (cells_read v.types v.store))) make_same)))
