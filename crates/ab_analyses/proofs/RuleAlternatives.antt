-- What a rule demands on shared terms stands for the alternative by it.
use Rattle.std.specs.Prelude.{All}
use Rattle.std.proofs.Common.{◌≡◌, ℕ, ◌+◌, List, [], ◌∷◌, ◌++◌, length, refl, sym, ◌∙◌, ap, subst, arith, length-append}
use Rattle.std.proofs.lemmas.List.{length-map}
use Rattle.std.proofs.lemmas.List.Elements.{All-nil}
use Rattle.ab_norm.specs.ab_types.specs.Entries.{Table}
use Rattle.ab_norm.specs.ab_store.specs.Trees.{Contents, tree_of}
use Rattle.ab_norm.specs.ab_store.specs.declared.node.Equation.{Equation}
use Rattle.ab_norm.specs.Nominals.{HoldsNominal}
use Rattle.ab_term.specs.Sameness.{same_number}
use Rattle.ab_term.specs.Variables.{image}
use Rattle.ab_unifiers.specs.Clauses.{numbered}
use Rattle.ab_unifiers.specs.Replacements.{Cell}
use Rattle.ab_unifiers.proofs.Ruling.{image_none}
use Rattle.ab_unify.specs.Problem.{cell_read, cells_read, variables_read}
use Rattle.ab_unify.specs.UnifyAnswers.{IsTypedPair}
use Rattle.ab_formulas.specs.Marks.{plain}
use Rattle.ab_logic.specs.Worlds.{Holds, HoldsCell, read}
use Rattle.ab_logic.specs.declared.world.World.{World}
use Rattle.ab_theory.specs.Judgements.{Judgement}
use Rattle.ab_theory.specs.SpecRules.{SpecRule, Demand, demand_of}
use Rattle.ab_alternatives.specs.ab_instances.specs.ListReadings.{names_read}
use Rattle.ab_alternatives.specs.LeftAlternatives.{trees_from, images_from}
use Rattle.ab_alternatives.proofs.Raised.{are_at}
use Rattle.ab_judgements.specs.DemandReadings.{IsDemanded}
use Rattle.ab_judgements.specs.declared.demands.DemandTerm.{DemandTerm}
use Rattle.ab_analyses.specs.Alternatives.{Alternative, by_rule, all_with}
use Rattle.ab_analyses.specs.AlternativeReadings.{raised_read, StandsFor, IsTypedRaise, HoldsAlternative}
use Rattle.ab_analyses.specs.declared.answers.Alternative.{Alternative as Kept}

-- nothing is put in
images_none : (T : Table) (S : Contents) (k : ℕ) (es : List Equation) → images_from T S [] k es ≡ trees_from T S k es
images_none T S k [] = refl
images_none T S k (e ∷ es) =
    ap (λ t. record { place = k; left = t; right = image same_number [] (tree_of T S e.right) } ∷ images_from T S [] (k + 1) es) (image_none (tree_of T S e.left))
    ∙ ap (λ t. record { place = k; left = tree_of T S e.left; right = t } ∷ images_from T S [] (k + 1) es) (image_none (tree_of T S e.right))
    ∙ ap (λ l. record { place = k; left = tree_of T S e.left; right = tree_of T S e.right } ∷ l) (images_none T S (k + 1) es)

-- the demand as it is kept
pub record IsKept (d : DemandTerm) (k : Kept) : Type 0 where
  pub fresh : k.fresh.items ≡ []
  pub raised : k.raised.items ≡ []
  pub made : k.made ≡ d.own
  pub equations : k.equations ≡ d.equations
  pub body : k.body ≡ d.body

module _ (w v : World) (j : Judgement) (r : SpecRule) (made : DemandTerm) (is : IsDemanded w (demand_of (length w.store.cells) plain j r) v made) where
  abbrev cells : List (Cell (List ℕ))
  cells = cells_read w.types w.store

  abbrev of_demand : Demand → Alternative
  of_demand d = record { fresh = []; raised = []; before = cells ++ d.passing; own = d.own; equations = d.equations; body = d.body }

  abbrev d : Demand
  d = demand_of (length w.store.cells) plain j r

  count : length w.store.cells ≡ length cells
  count = sym (length-map w.store.cells (cell_read w.types))

  same : of_demand d ≡ by_rule j r cells
  same = ap (λ n. of_demand (demand_of n plain j r)) count

  there : length w.store.cells + length d.passing ≡ length (cells ++ d.passing)
  there = let a = length-append cells d.passing in let b = count in omega (arith, a, b)

  own_are : variables_read v.types v.store made.own.items ≡ numbered (length (cells ++ d.passing)) d.own
  own_are = is.own ∙ ap (λ n. numbered n d.own) there

  module _ (k : Kept) (kept : IsKept made k) where
    pub rule_stands : StandsFor v k (by_rule j r cells)
    rule_stands = subst (StandsFor v k) same (record {
      fresh = ap (names_read v.types) kept.fresh;
      raised = ap (raised_read v) kept.raised;
      made = ap (λ l. variables_read v.types v.store l.items) kept.made ∙ own_are;
      equations = ap (λ l. images_from v.types v.store [] 0 l.items) kept.equations ∙ images_none v.types v.store 0 made.equations.items ∙ is.equations;
      body = ap (read v) kept.body ∙ is.body;
    })

    pub rule_held : HoldsAlternative v k
    rule_held = record {
      fresh = subst (All (HoldsNominal v.types)) (sym kept.fresh) (All-nil (HoldsNominal v.types));
      raised = subst (All (IsTypedRaise v)) (sym kept.raised) (All-nil (IsTypedRaise v));
      made = subst (λ l. All (HoldsCell v) l.items) (sym kept.made) (are_at v.types v.store (length (cells ++ d.passing)) (cells ++ d.passing) d.own made.own.items refl is.cells own_are).held;
      equations = subst (λ l. All (IsTypedPair v.types v.store) l.items) (sym kept.equations) is.typed;
      body = subst (Holds v) (sym kept.body) is.held;
    }

  pub rule_cells : cells_read v.types v.store ≡ all_with (by_rule j r cells)
  rule_cells = is.cells ∙ ap all_with same
