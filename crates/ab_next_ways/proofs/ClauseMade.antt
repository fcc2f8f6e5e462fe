-- The way by a clause is made.
use Rattle.std.specs.List.{All}
use Rattle.std.specs.Prelude.{AllPairs, Contains}
use Rattle.std.proofs.Common.{◌≡◌, ◌≢◌, ℕ, ◌+◌, ◌-◌, List, [], ◌∷◌, ◌++◌, length, codes, true, false, refl, sym, ◌∙◌, ap, subst, arith, length-append}
use Rattle.std.proofs.lemmas.List.Elements.{All-nil, All-weaker}
use Rattle.ab_term.specs.Terms.{Terms, no_terms, term, Read}
use Rattle.ab_term.specs.Variables.{image, image_all}
use Rattle.ab_term.specs.Sameness.{same_number}
use Rattle.ab_norm.specs.ab_types.specs.Entries.{Table}
use Rattle.ab_norm.specs.ab_store.specs.declared.node.CellId.{CellId}
use Rattle.ab_norm.specs.ab_store.specs.declared.node.TermId.{TermId}
use Rattle.ab_norm.specs.ab_store.specs.declared.node.Equation.{Equation}
use Rattle.ab_norm.specs.declared.nominal.Nominal.{Nominal}
use Rattle.ab_norm.specs.Nominals.{HoldsNominal}
use Rattle.ab_unifiers.specs.Choices.{outside}
use Rattle.ab_unifiers.specs.Alternatives.{Alternative, alternative, on_right, arguments_equal, made_over, cells_over}
use Rattle.ab_unifiers.proofs.Falling.{map_length}
use Rattle.ab_unifiers.proofs.Ruling.{image_none}
use Rattle.ab_unify.specs.Problem.{cell_read, cells_read, variables_read, equations_read}
use Rattle.ab_unify.specs.UnifyAnswers.{IsTypedPair}
use Rattle.ab_judgements.specs.ab_alternatives.specs.ab_instances.specs.ListReadings.{names_read}
use Rattle.ab_judgements.specs.ab_alternatives.specs.ab_instances.proofs.Made.{names_stay, names_held}
use Rattle.ab_formulas.specs.BodyMarks.{mark_above, marked_in}
use Rattle.ab_formulas.specs.Declarations.{Declarations}
use Rattle.ab_formulas.specs.Marks.{MarksServeIn}
use Rattle.ab_logic.specs.WorldGrowth as world
use Rattle.ab_logic.specs.Worlds.{IsWorld, Holds, read}
use Rattle.ab_logic.specs.declared.world.World.{World}
use Rattle.ab_theory.specs.Atoms.{Defined, Choice, choices_of}
use Rattle.ab_judgements.specs.ab_alternatives.specs.LeftAlternatives.{constants_in, unchosen_in}
use Rattle.ab_judgements.specs.ab_alternatives.specs.RightAlternatives.{put_into, IsOpened}
use Rattle.ab_judgements.specs.ab_alternatives.specs.declared.clause_bodies.Unfolding.{Unfolding}
use Rattle.ab_judgements.specs.ab_alternatives.proofs.UnfoldingCase.{unbound_equations}
use Rattle.ab_search_trees.specs.Goals as tree
use Rattle.ab_search_trees.specs.Goals.{Now}
use Rattle.ab_search_trees.specs.Ways as trees
use Rattle.ab_search_ways.specs.GoalReadings.{goal_read, HoldsGoal, StandsFor, IsAside}
use Rattle.ab_search_ways.specs.MadeWays.{IsMade}
use Rattle.ab_search_ways.specs.declared.goal.Goal.{Goal}
use Rattle.ab_search_ways.specs.declared.way.Way.{Way}
use Rattle.ab_search_ways.proofs.FormMade.{one_held, one_read}
use Rattle.ab_search_ways.proofs.LaterWorlds.{goal_same, later_goal}
use Rattle.ab_next_ways.proofs.Brought.{brought_free, brought_aside, brought_variables}
use Rattle.ab_next_ways.proofs.FreshConstants.{fresh_of_choice, with_pairs}

abbrev x : List ℕ
x = codes "x"

image_all_none : (ts : Terms ℕ (List ℕ)) → image_all same_number [] ts ≡ ts
image_all_none no_terms = refl
image_all_none (term t ts) = ap (λ u. term u (image_all same_number [] ts)) (image_none t) ∙ ap (term t) (image_all_none ts)

module _ (w v : World) (is : IsWorld w) (g : world.Grows w v) (D : Declarations) (goal : Goal) (there : HoldsGoal w goal) (flexible : List CellId)
    (d : Defined) (c : Choice) (among : Contains (choices_of (names_read w.types goal.constants.items) d) c) (u : Unfolding) (o : IsOpened w.types w.store d.block.predicates d.sign d.arguments c v.types v.store u)
    (fresh : List Nominal) (fresh_held : All (HoldsNominal w.types) fresh) (fresh_is : names_read w.types fresh ≡ outside c.names (constants_in d.arguments))
    (k : Goal) (added : k.added.items ≡ goal.added.items) (conclusion : k.conclusion ≡ u.body)
    (held : (types : Table) → All (HoldsNominal types) goal.constants.items → All (HoldsNominal types) fresh → All (HoldsNominal types) k.constants.items)
    (place : (types : Table) → names_read types k.constants.items ≡ trees.with_constants (names_read types fresh) (names_read types goal.constants.items))
    (base : List TermId) (now : Now) (aside : All (IsAside w flexible) base) (stands : StandsFor w flexible now)
    (asks : goal_read v base k ≡ record {
      hypotheses = (goal_read v base goal).hypotheses;
      conclusion = read v u.body;
      depth = goal.depth - 1;
      constants = names_read v.types k.constants.items;
      untouched = false;
      layers = goal.layers;
      member_first = false;
    })
    (made : Way) (cells : made.flexible.items ≡ flexible ++ u.own.items) (equations : made.equations.items ≡ u.equations.items) (serves : made.serves ≡ true) (goals : made.goals.items ≡ k ∷ []) where
  abbrev before : tree.Goal
  before = goal_read w base goal

  abbrev alt : Alternative (List ℕ)
  alt = alternative x (record { cells = now.cells; variables = []; constants = before.constants }) d.arguments c.clause c.names on_right

  abbrev to : tree.Goal
  to = record {
    hypotheses = before.hypotheses;
    conclusion = marked_in d.block.predicates (mark_above d.sign) alt.body;
    depth = goal.depth - 1;
    constants = trees.with_constants alt.fresh before.constants;
    untouched = false;
    layers = before.layers;
    member_first = false;
  }

  size : length w.store.cells ≡ length now.cells
  size = sym (map_length (cell_read w.types) w.store.cells) ∙ ap length stands.cells

  own_count : length v.store.cells ≡ length w.store.cells + length (cells_over x (unchosen_in d.arguments c) c.clause.variables)
  own_count =
      sym (map_length (cell_read v.types) v.store.cells) ∙ ap length o.cells ∙ length-append (cells_read w.types w.store) (cells_over x (unchosen_in d.arguments c) c.clause.variables)
      ∙ ap (λ n. n + length (cells_over x (unchosen_in d.arguments c) c.clause.variables)) (map_length (cell_read w.types) w.store.cells)

  variables_are : variables_read v.types v.store (flexible ++ u.own.items) ≡ now.flexible ++ alt.flexible
  variables_are =
      brought_variables w v is g flexible u.own.items (length w.store.cells) (cells_over x (unchosen_in d.arguments c) c.clause.variables) (omega arith) o.own own_count stands.free
      ∙ ap (λ l. l ++ made_over x (length w.store.cells) (unchosen_in d.arguments c) c.clause.variables) stands.replaced
      ∙ ap (λ n. now.flexible ++ made_over x n (unchosen_in d.arguments c) c.clause.variables) size

  equations_are : equations_read v.types v.store u.equations.items ≡ alt.equations
  equations_are =
      unbound_equations v.types v.store g.world.unbound 0 u.equations.items
      ∙ o.equations
      ∙ ap (λ n. arguments_equal x 0 d.arguments (image_all same_number (put_into n d.arguments c) c.clause.arguments)) size
      ∙ ap (λ ts. arguments_equal x 0 ts (image_all same_number (put_into (length now.cells) d.arguments c) c.clause.arguments)) (sym (image_all_none d.arguments))

  names : names_read v.types k.constants.items ≡ trees.with_constants alt.fresh before.constants
  names =
      place v.types
      ∙ ap (λ l. trees.with_constants l (names_read v.types goal.constants.items)) (names_stay w.types v.types g.types fresh fresh_held ∙ fresh_is)
      ∙ ap (trees.with_constants alt.fresh) (names_stay w.types v.types g.types goal.constants.items there.constants)

  same_before : goal_read v base goal ≡ before
  same_before = goal_same w v g flexible base aside goal there

  k_held : HoldsGoal v k
  k_held =
      let later = later_goal w v g goal there in
      record {
        added = subst (All (Holds v)) (sym added) later.added;
        conclusion = subst (Holds v) (sym conclusion) o.term.0;
        constants = held v.types later.constants (names_held w.types v.types g.types fresh fresh_held);
        once = subst (AllPairs (λ a b. a ≢ b)) (sym names) (with_pairs alt.fresh before.constants there.once (fresh_of_choice before.constants d c among));
      }

  k_reads : goal_read v base k ≡ to
  k_reads =
      asks
      ∙ ap (λ (q : tree.Goal). record q { conclusion = read v u.body; depth = goal.depth - 1; constants = names_read v.types k.constants.items; untouched = false; layers = goal.layers; member_first = false }) same_before
      ∙ ap (λ F. record to { conclusion = F; constants = names_read v.types k.constants.items }) (o.body ∙ ap (λ n. marked_in d.block.predicates (mark_above d.sign) (image same_number (put_into n d.arguments c) c.clause.body)) size)
      ∙ ap (λ ns. record to { constants = ns }) names

  pub clause_made : IsMade v base (trees.by_choice D now before (goal.depth - 1) d c) made
  clause_made = record {
    held = record {
      free = rw cells (brought_free w v is g flexible u.own.items (length w.store.cells) (cells_over x (unchosen_in d.arguments c) c.clause.variables) (omega arith) o.own own_count stands.free);
      sides = rw equations (All-weaker (IsTypedPair v.types v.store) (λ (e : Equation). Holds v e.left × Holds v e.right) (λ e p. (p.2.0, p.3.0)) u.equations.items o.typed);
      goals = one_held v k made.goals.items goals k_held;
    };
    aside = rw cells (brought_aside w v is g flexible u.own.items (length w.store.cells) (cells_over x (unchosen_in d.arguments c) c.clause.variables) (omega arith) o.own own_count base aside);
    cells = o.cells ∙ ap (λ l. l ++ cells_over x (unchosen_in d.arguments c) c.clause.variables) stands.cells;
    replaced = ap (variables_read v.types v.store) cells ∙ variables_are;
    equations = ap (equations_read v.types v.store) equations ∙ equations_are;
    serves = (λ yes. All-nil (λ (p : Read × Read). MarksServeIn p.0 p.1), λ all. serves);
    goals = one_read v base k made.goals.items to goals k_reads;
  }
