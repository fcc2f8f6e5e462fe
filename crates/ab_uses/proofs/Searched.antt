-- The first choice by which a formula can be used: what comes of all choices is what is found of the use.
use Rattle.std.specs.Prelude.{slice_get, option_map}
use Rattle.std.specs.List.{All}
use Rattle.std.proofs.Common.{◌≡◌, ◌⊎◌, inl, inr, ℕ, List, [], ◌++◌, map, filter, Some, sym, ◌∙◌, ap, subst}
use Rattle.std.proofs.lemmas.List.{map-id}
use Rattle.std.proofs.lemmas.List.Elements.{All-nil, All-map, All-weaker}
use Rattle.std.proofs.lemmas.Option.{slice_get-map, slice_get-get_or}
use Rattle.ab_term.specs.Terms as tree
use Rattle.ab_norm.specs.ab_types.specs.Ids.{type_of}
use Rattle.ab_norm.specs.ab_types.specs.declared.ids.TypeId.{TypeId}
use Rattle.ab_norm.specs.ab_store.specs.declared.node.CellId.{CellId}
use Rattle.ab_norm.specs.ab_store.specs.Trees.{cell_of}
use Rattle.ab_norm.specs.Nominals.{HoldsNominal}
use Rattle.ab_norm.specs.declared.nominal.Nominal.{Nominal}
use Rattle.ab_unifiers.specs.Replacements.{Cell}
use Rattle.ab_unifiers.specs.Choices.{choices, in_order}
use Rattle.ab_unify.specs.Problem.{cell_read, cells_read}
use Rattle.ab_alternatives.specs.ab_instances.specs.ListReadings.{names_read}
use Rattle.ab_logic.specs.SequentReadings.{sequent_of, HoldsSequent}
use Rattle.ab_formulas.specs.Sequents.{Variable, Sequent, goal_names}
use Rattle.ab_logic.specs.Worlds.{HoldsCell, variable_of}
use Rattle.ab_logic.specs.declared.world.World.{World}
use Rattle.ab_logic.specs.declared.sequent.Sequent.{Sequent as Kept}
use Rattle.ab_theory.specs.Equations.{AreCells}
use Rattle.ab_theory.specs.Splits.{NeverArises}
use Rattle.ab_theory.specs.Pieces as plain
use Rattle.ab_theory.specs.Uses.{types_chosen, given_constants}
use Rattle.ab_theory.specs.Uses as uses
use Rattle.ab_theory.specs.UseAnswers.{Using, case_by, IsFirst}
use Rattle.ab_logic.specs.Worlds.{declarations_of}
use Rattle.ab_consequences.specs.UsesFollow.{StagesLead}
use Rattle.ab_consequences.proofs.UsesFollow.{leads_newly}
use Rattle.ab_uses.specs.UseCells.{parts_read, StageIsTyped}
use Rattle.ab_uses.specs.declared.stage.Stage.{Stage}
use Rattle.ab_uses.specs.declared.stage.Stage.TheVariants as stage
use Rattle.ab_uses.specs.NamedTerms.{types_named}
use Rattle.ab_uses.specs.Questions.{using_at}
use Rattle.ab_uses.specs.UseReadings.{Finds, HoldsStage}
use Rattle.ab_uses.specs.ChoiceTrials.{IsBegun, choices_behind, stands_outside, NoneServes, IsFirstOf, FirstComesOut}
use Rattle.ab_uses.specs.declared.aim.Aim.{Aim}
use Rattle.ab_uses.specs.declared.begun_choices.Begun.{Begun}
use Rattle.ab_uses.specs.declared.question.Question.{Question}
use Rattle.ab_uses.specs.declared.outcome.Outcome.{Outcome}
use Rattle.ab_uses.specs.declared.outcome.Outcome.TheVariants as outcome
use Rattle.ab_uses.specs.declared.use_answers.Use.{Use}
use Rattle.ab_uses.specs.declared.use_answers.Found.TheVariants.{Used, NoMatch, NotPattern, Unresolved}
use Rattle.ab_uses.proofs.Known.{choices_by_known}
use Rattle.ab_uses.proofs.Parts.{types_read}

-- a goal's variables are cells of its world
over_cells : (w : World) (s : Kept) → HoldsSequent w s → AreCells (cells_read w.types w.store) (sequent_of w s)
over_cells w s h =
    All-map (λ (x : Variable). slice_get (cells_read w.types w.store) x.number ≡ Some (record { hint = x.name; type = x.type })) (variable_of w) s.variables
    (All-weaker (HoldsCell w) (λ c. slice_get (cells_read w.types w.store) c.0 ≡ Some (cell_read w.types (cell_of w.store c))) there s.variables h.variables)
  where
    there : (c : CellId) → HoldsCell w c → slice_get (cells_read w.types w.store) c.0 ≡ Some (cell_read w.types (cell_of w.store c))
    there c l = slice_get-map (cell_read w.types) w.store.cells c.0 ∙ ap (option_map (cell_read w.types)) (slice_get-get_or w.store.cells c.0 _ l)

stage_there : (x : World) (s : Stage) → StageIsTyped x.types x.store s → HoldsStage x s
stage_there x (stage.Instance t) k = k.1.0
stage_there x (stage.Chosen a F) k = (k.0, k.1.0)
stage_there x stage.Antecedent k = tt

-- a choice of which nothing is chosen, for all names of a question
module _ (w : World) (g : Kept) (q : Question) (types : List TypeId) (b : Begun) (types_are : types ≡ types_named q.parts.items)
    (chosen : b.chosen.items ≡ []) (free : b.free.items ≡ q.held.items) (held : b.held.items ≡ q.known.items) where
  abbrev names_in : List Nominal → List tree.Nominal
  names_in = names_read w.types

  abbrev goal_in : Sequent
  goal_in = sequent_of w g

  abbrev parts_in : List plain.Part
  parts_in = parts_read w.types w.store q.parts.items

  abbrev all : List (List tree.Nominal)
  all = choices_behind w.types types b

  types_so : map (type_of w.types) types ≡ types_chosen parts_in
  types_so = ap (map (type_of w.types)) types_are ∙ types_read w.types w.store q.parts.items

  pub begun_so : All (HoldsNominal w.types) q.held.items → All (HoldsNominal w.types) q.known.items → IsBegun w.types b
  begun_so h k = record {
    chosen = subst (All (HoldsNominal w.types)) (sym chosen) (All-nil (HoldsNominal w.types));
    free = subst (All (HoldsNominal w.types)) (sym free) h;
    held = subst (All (HoldsNominal w.types)) (sym held) k;
  }

  pub fit_so : map (λ a. a.type) (names_read w.types b.chosen.items) ++ map (type_of w.types) types ≡ types_chosen (parts_read w.types w.store q.parts.items)
  fit_so = ap (λ l. map (λ (a : tree.Nominal). a.type) (names_in l) ++ map (type_of w.types) types) chosen ∙ types_so

  module _ (aim : Aim) (u : Using) (goal : HoldsSequent w g) (same : using_at w (sequent_of w g) q aim ≡ u) (names : names_read w.types q.held.items ≡ in_order (goal_names (sequent_of w g)))
      (known : names_read w.types q.known.items ≡ in_order (goal_names (sequent_of w g)) ++ in_order (given_constants (parts_read w.types w.store q.parts.items))) where
    all_are : all ≡ choices (types_chosen parts_in) (in_order (goal_names goal_in)) (goal_names goal_in ++ given_constants parts_in)
    all_are =
        ap (λ l. map (λ ns. names_in l ++ ns) (choices (map (type_of w.types) types) (names_in b.free.items) (names_in b.held.items))) chosen
        ∙ map-id (choices (map (type_of w.types) types) (names_in b.free.items) (names_in b.held.items))
        ∙ ap (λ As. choices As (names_in b.free.items) (names_in b.held.items)) types_so
        ∙ ap (λ l. choices (types_chosen parts_in) l (names_in b.held.items)) (ap names_in free ∙ names)
        ∙ ap (choices (types_chosen parts_in) (in_order (goal_names goal_in))) (ap names_in held ∙ known)
        ∙ choices_by_known (types_chosen parts_in) (in_order (goal_names goal_in)) (goal_names goal_in) (given_constants parts_in)

    listed : uses.choices_for u.goal u.parts u.formula ≡ filter (stands_outside u) all
    listed = subst (λ x. uses.choices_for x.goal x.parts x.formula ≡ filter (stands_outside x) all) same (ap (filter (stands_outside (using_at w goal_in q aim))) (sym all_are))

    abbrev cells_in : List (Cell (List ℕ))
    cells_in = cells_read w.types w.store

    are : AreCells cells_in u.goal
    are = subst (AreCells cells_in) (ap (λ (x : Using). x.goal) same) (over_cells w g goal)

    first : (ns : List tree.Nominal) → IsFirstOf cells_in u all ns → IsFirst cells_in u ns
    first ns f = (f.0, f.1, listed ∙ f.2, f.3)

    none : NoneServes cells_in (using_at w goal_in q aim) all → (x : World) → Finds u x NoMatch
    none h x = (cells_in, are, subst (All (λ ns. NeverArises (case_by cells_in u ns))) (sym listed) (subst (λ k. NoneServes cells_in k all) same h))

    module _ (x : World) where
      abbrev Told : Outcome → Type 0
      Told = FirstComesOut (cells_read w.types w.store) (using_at w (sequent_of w g) q aim) (choices_behind w.types types b) x.types x.store

      there : (o : Outcome) → Told o → FirstComesOut cells_in u all x.types x.store o
      there o c = subst (λ k. FirstComesOut cells_in k all x.types x.store o) same c

      -- none of them can serve
      pub none_found : (o : Outcome) → (o ≡ outcome.PassedOver) ⊎ (o ≡ outcome.Apart) → Told o → Finds u x NoMatch
      none_found o (inl e) c = none (subst Told e c) x
      none_found o (inr e) c = none (subst Told e c) x

      pub stuck_found : (i : ℕ) → Told (outcome.Stuck i) → Finds u x (NotPattern i)
      stuck_found i c = let h = there (outcome.Stuck i) c in (cells_in, are, h.0, first h.0 h.1, h.2.1)

      pub open_found : (y : List ℕ) → Told (outcome.Open y) → Finds u x (Unresolved y)
      open_found y c = let h = there (outcome.Open y) c in (cells_in, are, h.0, first h.0 h.1, h.2.1.0, h.2.1.1, h.2.1.2, h.2.1.3, h.2.1.4)

      -- so it is used
      pub used_found : (found : Use) → Told (outcome.Used found) → Finds u x (Used found)
      used_found found c =
          let h = there (outcome.Used found) c in
          let K = h.2.4.0 in
          let closed = h.2.4.4 in (
            All-weaker (StageIsTyped x.types x.store) (HoldsStage x) (stage_there x) found.stages.items h.2.1,
            h.2.2,
            h.2.3,
            (
              K,
              (cells_in, are, h.0, first h.0 h.1, h.2.4.1),
              h.2.4.2,
              h.2.4.3,
              λ may. (_, subst (StagesLead (declarations_of x) u K _) (sym closed.2) (leads_newly (declarations_of x) cells_in u h.0 closed.0 K may are (first h.0 h.1) h.2.4.1 closed.1)),
            ),
          )
