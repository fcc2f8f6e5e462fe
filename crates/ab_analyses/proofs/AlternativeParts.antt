-- An alternative by a choice, part by part: on the right it is as on the left of a goal without variables.
use Rattle.std.proofs.Common.{◌≡◌, ℕ, ◌-◌, List, [], ◌∷◌, ◌++◌, length, take, drop, codes, refl, sym, ◌∙◌, ap, arith, append-nil, length-append}
use Rattle.std.proofs.lemmas.List.{length-map}
use Rattle.std.proofs.Math.Seq.{take-append_seam, drop-append_seam}
use Rattle.ab_term.specs.Terms.{Nominal, Variable}
use Rattle.ab_term.specs.Names.{support_of_all}
use Rattle.ab_term.specs.Sameness.{same_number}
use Rattle.ab_term.specs.Variables.{Substitution, image, image_all}
use Rattle.ab_unifiers.specs.Replacements.{Cell}
use Rattle.ab_unifiers.specs.Clauses.{put_together, filled}
use Rattle.ab_unifiers.specs.Choices.{in_order, outside}
use Rattle.ab_unifiers.specs.Alternatives as cases
use Rattle.ab_unifiers.specs.Alternatives.{Scope, on_left, on_right, cells_over, made_terms, cells_of, arguments_equal, analysed, alternative_with}
use Rattle.ab_theory.specs.Atoms.{Defined, Choice}
use Rattle.ab_theory.specs.RaisedAlternatives.{raised_cells, raised_to, raised_terms}
use Rattle.ab_theory.proofs.AlternativesParts.{together_none}
use Rattle.ab_analyses.specs.Alternatives.{Alternative, alternative_in}

abbrev x : List ℕ
x = codes "x"

abbrev Cells : Type 0
Cells = List (Cell (List ℕ))

module _ (d : Defined) (c : Choice) where
  abbrev constants : List Nominal
  constants = in_order (support_of_all d.arguments)

  abbrev fresh : List Nominal
  fresh = outside c.names constants

  abbrev unchosen : List Nominal
  unchosen = outside constants c.names

  abbrev pub own : Cells
  own = cells_over x unchosen c.clause.variables

  -- behind these cells, where this is put in for the goal's variables
  abbrev pub parts_behind : Cells → Substitution ℕ (List ℕ) → Alternative
  parts_behind base raised =
      let put = filled x c.clause (made_terms x (length base) unchosen c.clause.variables) c.names in
      record {
        fresh = fresh;
        raised = raised;
        before = base;
        own = own;
        equations = arguments_equal x 0 (image_all same_number raised d.arguments) (image_all same_number put c.clause.arguments);
        body = image same_number put c.clause.body;
      }

  -- THE PARTS, over these cells, where there are so many and the goal's variables have these of them
  abbrev pub parts : Cells → ℕ → Cells → List (Variable ℕ) → Alternative
  parts cells n olds ys = parts_behind (cells ++ raised_cells fresh olds) (put_together ys (raised_terms n fresh olds))

  abbrev by : cases.Alternative (List ℕ) → Alternative
  by alt = record {
    fresh = alt.fresh;
    raised = alt.raised;
    before = take (length alt.cells - length c.clause.variables) alt.cells;
    own = drop (length alt.cells - length c.clause.variables) alt.cells;
    equations = alt.equations;
    body = alt.body;
  }

  counted : (base : Cells) → length (base ++ own) - length c.clause.variables ≡ length base
  counted base =
      let a = length-append base own in
      let b : length own ≡ length c.clause.variables = length-map c.clause.variables _ in
      omega (arith, a, b)

  -- what is made behind some cells comes apart there
  apart : (scope : Scope (List ℕ)) (base : Cells) (old : List (Variable ℕ)) (raised : Substitution ℕ (List ℕ)) → by (alternative_with x scope d.arguments c.clause c.names fresh base old raised) ≡ parts_behind base raised
  apart scope base old raised =
      let p = parts_behind base raised in
      let with : Cells → Cells → Alternative = λ b o. record { fresh = fresh; raised = raised; before = b; own = o; equations = p.equations; body = p.body } in
      ap (λ n. with (take n (base ++ own)) (drop n (base ++ own))) (counted base)
      ∙ ap (λ l. with l (drop (length base) (base ++ own))) (take-append_seam base own)
      ∙ ap (with base) (drop-append_seam base own)

  module _ (scope : Scope (List ℕ)) where
    abbrev cells : Cells
    cells = scope.cells

    abbrev ys : List (Variable ℕ)
    ys = scope.variables

    abbrev olds : Cells
    olds = cells_of x cells ys

    raised_is : (ns : List Nominal) → analysed x scope d.arguments c.clause c.names ns
        ≡ alternative_with x scope d.arguments c.clause c.names ns (cells ++ raised_cells ns olds) (raised_to (length cells) ns ys olds) (put_together ys (raised_terms (length cells) ns olds))
    raised_is [] =
        ap (λ C. alternative_with x scope d.arguments c.clause c.names [] C ys []) (sym (append-nil cells))
        ∙ ap (alternative_with x scope d.arguments c.clause c.names [] (cells ++ []) ys) (sym (together_none ys))
    raised_is (a ∷ bs) = refl

    -- ON THE LEFT
    pub left_is : alternative_in scope on_left d c ≡ parts cells (length cells) olds ys
    left_is = ap by (raised_is fresh) ∙ apart scope (cells ++ raised_cells fresh olds) (raised_to (length cells) fresh ys olds) (put_together ys (raised_terms (length cells) fresh olds))

    none_raised : (ns : List Nominal) → raised_cells ns [] ≡ []
    none_raised [] = refl
    none_raised (a ∷ bs) = refl

    -- ON THE RIGHT: no variable is raised
    pub right_behind : alternative_in scope on_right d c ≡ parts_behind cells []
    right_behind = apart scope cells [] []

    pub right_is : alternative_in scope on_right d c ≡ parts cells (length cells) [] []
    right_is = right_behind ∙ ap (λ l. parts_behind l []) (sym (ap (λ l. cells ++ l) (none_raised fresh) ∙ append-nil cells))
