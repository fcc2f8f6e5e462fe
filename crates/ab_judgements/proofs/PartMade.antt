-- What a part demands, as it was made step by step.
use Rattle.std.proofs.Common.{◌≡◌, ℕ, ◌+◌, List, [], ◌∷◌, ◌++◌, map, length, not, codes, Bool, sym, ap, ◌∙◌, subst, arith, length-append}
use Rattle.std.specs.Prelude.{Contains}
use Rattle.std.specs.List.{All}
use Rattle.std.proofs.lemmas.List.{length-map}
use Rattle.ab_term.specs.Types.{o, olist}
use Rattle.ab_term.specs.Terms.{Nominal, Read}
use Rattle.ab_term.specs.Typing.{HasType}
use Rattle.ab_term.specs.Substitution.{instance_by_all}
use Rattle.ab_norm.specs.ab_types.specs.Entries.{Table, signature}
use Rattle.ab_norm.specs.ab_store.specs.declared.node.CellId.{CellId}
use Rattle.ab_norm.specs.ab_store.specs.declared.node.Equation.{Equation}
use Rattle.ab_norm.specs.ab_store.specs.declared.node.TermId.{TermId}
use Rattle.ab_norm.specs.ab_store.specs.Trees.{Contents, Holds, HoldsCell, cell_of, tree_of}
use Rattle.ab_norm.specs.ab_store.specs.Growth.{IsExtendedBy}
use Rattle.ab_norm.specs.ab_store.specs.Naming.{IsTypedBy, IsTerm}
use Rattle.ab_norm.specs.NodeGrowth.{AddsTypedTerms}
use Rattle.ab_norm.proofs.Frame.{typed_on, adds_but_types}
use Rattle.ab_unifiers.specs.Replacements.{Cell}
use Rattle.ab_unifiers.specs.Clauses.{numbered}
use Rattle.ab_unifiers.specs.Prefixes.{own_terms}
use Rattle.ab_unifiers.specs.Alternatives.{cells_over, made_over, made_terms}
use Rattle.ab_formulas.specs.Marks.{Sign}
use Rattle.ab_formulas.specs.Sequents.{in_terms}
use Rattle.ab_unify.specs.Problem.{cell_read, cells_read, variables_read, cells_at}
use Rattle.ab_unify.specs.StoreChanges.{Grows}
use Rattle.ab_unify.proofs.Growth.{grows_on, grows_terms}
use Rattle.ab_theory.specs.Equations.{variables_from}
use Rattle.ab_theory.specs.Judgements.{Judgement, constants_of}
use Rattle.ab_theory.specs.Opening.{open_goal, conjunction_of}
use Rattle.ab_theory.specs.Parts.{Part as ThePart, parts_of, under_all, put_under}
use Rattle.ab_theory.specs.SpecRules.{Demand, stands_in_goals_alone, by_part, demand_of}
use Rattle.ab_theory.specs.Splits.{cell_for}
use Rattle.ab_alternatives.specs.LeftAlternatives.{trees_from}
use Rattle.ab_logic.specs.Worlds.{variable_at}
use Rattle.ab_alternatives.specs.ab_instances.specs.ListReadings.{trees_at}
use Rattle.ab_alternatives.proofs.Assembled.{cells_same, variables_same}
use Rattle.ab_judgement_forms.specs.DemandWalks.{exists_names, chosen, stand_ins}
use Rattle.ab_judgement_forms.specs.PartReadings.{name_read, part_read, HoldsPart}
use Rattle.ab_judgement_forms.specs.declared.focus_parts.Part.{Part}
use Rattle.ab_judgements.proofs.CellsMade.{grows_by}
use Rattle.ab_judgement_forms.proofs.ClosedInTurn.{map_then}
use Rattle.ab_judgements.proofs.DemandBodies.{atom_put, goals_put, part_closed, part_others, part_terms, part_equation, part_own, part_body, part_equations}
use Rattle.ab_judgement_forms.proofs.StandIns.{IsBelow}
use Rattle.ab_judgement_forms.proofs.StoresGrown.{all_variables_stay, all_trees_stay, below_all, cells_by, in_terms_by, cells_from, chosen_map}

abbrev x : List ℕ
x = codes "x"

-- the names' cells, then terms; the own cells, and terms again
module _ (T U : Table) (S S1 S2 S3 S4 S5 S6 S7 S8 S9 : Contents) (typed : IsTypedBy T S) (b1 : IsExtendedBy S S1) (t1 : IsTypedBy T S1) (a2 : AddsTypedTerms T S1 S2) (a3 : AddsTypedTerms T S2 S3) (a4 : AddsTypedTerms T S3 S4) (a5 : AddsTypedTerms T S4 S5)
    (grown : Grows T S5 U S6) (a7 : AddsTypedTerms U S6 S7) (a8 : AddsTypedTerms U S7 S8) (a9 : AddsTypedTerms U S8 S9) where
  a12 : AddsTypedTerms T S1 S3
  a12 = typed_on T S1 S2 S3 a2 a3

  a13 : AddsTypedTerms T S1 S4
  a13 = typed_on T S1 S3 S4 a12 a4

  a14 : AddsTypedTerms T S1 S5
  a14 = typed_on T S1 S4 S5 a13 a5

  pub g1 : Grows T S T S1
  g1 = grows_by T S S1 b1 t1

  pub g5 : Grows T S T S5
  g5 = grows_on T T T S S1 S5 g1 (grows_terms T S1 S5 a14)

  pub g6 : Grows T S U S6
  g6 = grows_on T T U S S5 S6 g5 grown

  pub g7 : Grows T S U S7
  g7 = grows_on T U U S S6 S7 g6 (grows_terms U S6 S7 a7)

  pub g8 : Grows T S U S8
  g8 = grows_on T U U S S7 S8 g7 (grows_terms U S7 S8 a8)

  pub all_grown : Grows T S U S9
  all_grown = grows_on T U U S S8 S9 g8 (grows_terms U S8 S9 a9)

  -- since the names' cells were made
  h5 : Grows T S1 T S5
  h5 = grows_terms T S1 S5 a14

  h6 : Grows T S1 U S6
  h6 = grows_on T T U S1 S5 S6 h5 grown

  h7 : Grows T S1 U S7
  h7 = grows_on T U U S1 S6 S7 h6 (grows_terms U S6 S7 a7)

  cells_end : S9.cells ≡ S6.cells
  cells_end = a9.cells ∙ a8.cells ∙ a7.cells

  module _ (unbound : S.bindings ≡ []) (m : Sign) (list goal : TermId) (part : Part) (kept : HoldsPart T S part) (list_typed : IsTerm T S [] list olist) (goal_held : Holds S goal)
      (focus : TermId) (focus_typed : IsTerm T S [] focus o) (one : Contains (parts_of (tree_of T S focus)) (part_read T S part))
      (ns : List Nominal) (j : Judgement) (context : j.context ≡ tree_of T S list) (is_goal : j.goal ≡ tree_of T S goal) (constants : constants_of j ≡ ns) where
    abbrev n : ℕ
    n = length S.cells

    abbrev p : ThePart
    p = part_read T S part

    abbrev names : List (Cell (List ℕ))
    names = map (name_read T) part.names.items

    abbrev D : Demand
    D = demand_of n m j (by_part p)

    typed_context : HasType (signature T) [] j.context olist
    typed_context = subst (λ t. HasType (signature T) [] t olist) (sym context) list_typed.1

    low_context : IsBelow n j.context
    low_context = subst (IsBelow n) (sym context) (below_all T S list typed unbound list_typed.0)

    low_focus : IsBelow n (tree_of T S focus)
    low_focus = below_all T S focus typed unbound focus_typed.0

    module _ (cells : List CellId) (cells_are : cells_read T S1 ≡ cells_read T S ++ names) (made_are : map (variable_at T S1) cells ≡ variables_from n names) (cells_held : All (HoldsCell S1) cells)
        (forms : List TermId) (forms_held : All (Holds S2) forms) (forms_are : map (tree_of T S2) forms ≡ own_terms x (variables_read T S1 cells))
        (scopes : List TermId) (scopes_held : All (Holds S3) scopes) (scopes_are : map (tree_of T S3) scopes ≡ map (under_all names) (map (tree_of T S2) part.goals.items))
        (goals : List TermId) (goals_held : All (Holds S4) goals) (goals_are : map (tree_of T S4) goals ≡ map (λ s. instance_by_all s (map (tree_of T S3) forms)) (map (tree_of T S3) scopes))
        (atom : TermId) (atom_is : tree_of T S5 atom ≡ put_under names (map (tree_of T S4) forms) (tree_of T S4 part.atom))
        (alone : List Bool) (alone_is : alone ≡ map (stands_in_goals_alone (tree_of T S5 atom) (map (tree_of T S5) goals)) (map (variable_at T S5) cells))
        (own closed : List CellId) (own_is : own ≡ chosen (map not alone) cells) (closed_is : closed ≡ chosen alone cells) where
      abbrev Own : List Read
      Own = own_terms x (map in_terms (variables_from n names))

      forms_read : map (tree_of T S2) forms ≡ Own
      forms_read = forms_are ∙ ap (own_terms x) (in_terms_by T S1 cells ∙ ap (map in_terms) made_are)

      forms_third : map (tree_of T S3) forms ≡ Own
      forms_third = (adds_but_types T S2 S3 a3 forms forms_held).1 ∙ forms_read

      forms_fourth : map (tree_of T S4) forms ≡ Own
      forms_fourth = (adds_but_types T S2 S4 (typed_on T S2 S3 S4 a3 a4) forms forms_held).1 ∙ forms_read

      g2 : Grows T S T S2
      g2 = grows_on T T T S S1 S2 g1 (grows_terms T S1 S2 a2)

      g4 : Grows T S T S4
      g4 = grows_on T T T S S1 S4 g1 (grows_terms T S1 S4 a13)

      scopes_read : map (tree_of T S3) scopes ≡ map (under_all names) p.goals
      scopes_read = scopes_are ∙ ap (map (under_all names)) (all_trees_stay T T S S2 g2 typed part.goals.items kept.goals)

      atom_read : tree_of T S5 atom ≡ atom_put n p
      atom_read =
          atom_is
          ∙ ap (λ us. put_under names us (tree_of T S4 part.atom)) forms_fourth
          ∙ ap (put_under names Own) (g4.trees part.atom kept.atom).1

      goals_read : map (tree_of T S5) goals ≡ goals_put n p
      goals_read =
          (adds_but_types T S4 S5 a5 goals goals_held).1
          ∙ goals_are
          ∙ ap (λ us. map (λ s. instance_by_all s us) (map (tree_of T S3) scopes)) forms_third
          ∙ ap (map (λ s. instance_by_all s Own)) scopes_read
          ∙ map_then (under_all names) (λ s. instance_by_all s Own) p.goals

      variables_fifth : map (variable_at T S5) cells ≡ variables_from n names
      variables_fifth = all_variables_stay T T S1 S5 h5 t1 cells cells_held ∙ made_are

      cells_by_names : (W : Table) (V : Contents) → Grows T S1 W V → cells_at W V cells ≡ names
      cells_by_names W V g = cells_by W V cells ∙ ap (map cell_for) (all_variables_stay T W S1 V g t1 cells cells_held ∙ made_are) ∙ cells_from n names

      bits : alone ≡ part_closed n p
      bits =
          alone_is
          ∙ ap (λ t. map (stands_in_goals_alone t (map (tree_of T S5) goals)) (map (variable_at T S5) cells)) atom_read
          ∙ ap (λ ts. map (stands_in_goals_alone (atom_put n p) ts) (map (variable_at T S5) cells)) goals_read
          ∙ ap (map (stands_in_goals_alone (atom_put n p) (goals_put n p))) variables_fifth

      own_cells : cells_at T S5 own ≡ part_others n p
      own_cells =
          ap (cells_at T S5) own_is
          ∙ chosen_map (λ c. cell_read T (cell_of S5 c)) (map not alone) cells
          ∙ ap (λ bs. chosen (map not bs) (cells_at T S5 cells)) bits
          ∙ ap (chosen (map not (part_closed n p))) (cells_by_names T S5 h5)

      is_own : D.own ≡ cells_over x ns (cells_at T S5 own)
      is_own =
          part_own (signature T) n m j typed_context low_context (tree_of T S focus) focus_typed.1 low_focus p one
          ∙ ap (λ l. cells_over x l (part_others n p)) constants
          ∙ ap (cells_over x ns) (sym own_cells)

      cells_fifth : cells_read T S5 ≡ cells_read T S ++ names
      cells_fifth = cells_same T S1 S5 a14.cells ∙ cells_are

      long : length S5.cells ≡ n + length names
      long =
          sym (length-map S5.cells (cell_read T)) ∙ ap length cells_fifth ∙ length-append (cells_read T S) names ∙ ap (λ k. k + length names) (length-map S.cells (cell_read T))

      pub made_cells : cells_read U S6 ≡ cells_read T S5 ++ cells_over x ns (cells_at T S5 own) → cells_read U S9 ≡ (cells_read T S ++ names) ++ D.own
      made_cells are = cells_same U S6 S9 cells_end ∙ are ∙ ap (λ l. l ++ cells_over x ns (cells_at T S5 own)) cells_fifth ∙ ap (λ l. (cells_read T S ++ names) ++ l) (sym is_own)

      pub made_own : (made : List CellId) → variables_read U S6 made ≡ made_over x (length S5.cells) ns (cells_at T S5 own) → variables_read U S9 made ≡ numbered (n + length names) D.own
      made_own made are = variables_same U S6 S9 cells_end made ∙ are ∙ ap (λ (k : ℕ). made_over x k ns (cells_at T S5 own)) long ∙ ap (numbered (n + length names)) (sym is_own)

      module _ (terms : List TermId) (terms_are : trees_at U S6 terms ≡ made_terms x (length S5.cells) ns (cells_at T S5 own)) (stands : List TermId) (stands_held : All (Holds S7) stands)
          (stands_are : map (tree_of U S7) stands ≡ stand_ins alone (cells_at U S6 cells) (map (tree_of U S6) terms)) where
        terms_read : map (tree_of U S6) terms ≡ part_terms n j p
        terms_read =
            terms_are
            ∙ ap (λ (k : ℕ). made_terms x k ns (cells_at T S5 own)) long
            ∙ ap (made_terms x (n + length names) ns) own_cells
            ∙ ap (λ l. made_terms x (n + length names) l (part_others n p)) (sym constants)

        abbrev Stand : List Read
        Stand = stand_ins (part_closed n p) names (part_terms n j p)

        stands_read : map (tree_of U S7) stands ≡ Stand
        stands_read =
            stands_are
            ∙ ap (λ bs. stand_ins bs (cells_at U S6 cells) (map (tree_of U S6) terms)) bits
            ∙ ap (λ l. stand_ins (part_closed n p) l (map (tree_of U S6) terms)) (cells_by_names U S6 h6)
            ∙ ap (stand_ins (part_closed n p) names) terms_read

        scopes_later : map (tree_of U S7) scopes ≡ map (under_all names) p.goals
        scopes_later =
            all_trees_stay T U S3 S7 (grows_on T U U S3 S6 S7 (grows_on T T U S3 S5 S6 (grows_terms T S3 S5 (typed_on T S3 S4 S5 a4 a5)) grown) (grows_terms U S6 S7 a7)) a3.typed scopes scopes_held ∙ scopes_read

        pub made_body : (body : TermId) → Holds S8 body
            → tree_of U S8 body ≡ exists_names (cells_at U S7 closed) (conjunction_of (map (λ s. open_goal m (tree_of U S7 list) (instance_by_all s (map (tree_of U S7) stands))) (map (tree_of U S7) scopes)))
            → tree_of U S9 body ≡ D.body
        made_body body body_held body_is =
            let closed_cells : cells_at U S7 closed ≡ chosen (part_closed n p) names =
            ap (cells_at U S7) closed_is
            ∙ chosen_map (λ c. cell_read U (cell_of S7 c)) alone cells
            ∙ ap (chosen alone) (cells_by_names U S7 h7)
            ∙ ap (λ bs. chosen bs names) bits in
            let list_read : tree_of U S7 list ≡ j.context = (g7.trees list list_typed.0).1 ∙ sym context in
            a9.before.trees U body body_held
            ∙ body_is
            ∙ ap (λ l. exists_names l (conjunction_of (map (λ s. open_goal m (tree_of U S7 list) (instance_by_all s (map (tree_of U S7) stands))) (map (tree_of U S7) scopes)))) closed_cells
            ∙ ap (λ L. exists_names (chosen (part_closed n p) names) (conjunction_of (map (λ s. open_goal m L (instance_by_all s (map (tree_of U S7) stands))) (map (tree_of U S7) scopes)))) list_read
            ∙ ap (λ us. exists_names (chosen (part_closed n p) names) (conjunction_of (map (λ s. open_goal m j.context (instance_by_all s us)) (map (tree_of U S7) scopes)))) stands_read
            ∙ ap (λ ss. exists_names (chosen (part_closed n p) names) (conjunction_of (map (λ s. open_goal m j.context (instance_by_all s Stand)) ss))) scopes_later
            ∙ sym (part_body (signature T) n m j typed_context low_context (tree_of T S focus) focus_typed.1 low_focus p one)

        pub made_equations : (left : TermId) → tree_of U S9 left ≡ put_under names (map (tree_of U S8) stands) (tree_of U S8 part.atom) → (es : List Equation) → es ≡ record { left = left; right = goal } ∷ []
            → trees_from U S9 0 es ≡ D.equations
        made_equations left left_is es are =
            let left_read : tree_of U S9 left ≡ put_under names Stand p.atom =
            left_is
            ∙ ap (λ us. put_under names us (tree_of U S8 part.atom)) ((adds_but_types U S7 S8 a8 stands stands_held).1 ∙ stands_read)
            ∙ ap (put_under names Stand) (g8.trees part.atom kept.atom).1 in
            ap (trees_from U S9 0) are
            ∙ ap (λ t. record { place = 0; left = t; right = tree_of U S9 goal } ∷ []) left_read
            ∙ ap (λ t. record { place = 0; left = put_under names Stand p.atom; right = t } ∷ []) ((all_grown.trees goal goal_held).1 ∙ sym is_goal)
            ∙ sym (part_equations (signature T) n m j typed_context low_context (tree_of T S focus) focus_typed.1 low_focus p one)
