-- What is told of equations that are solved: what is left, and which new variables stand in it.
use Rattle.std.specs.List.{All, list_any}
use Rattle.std.specs.Prelude.{filter, is_none, ◌&&◌, ◌||◌}
use Rattle.std.proofs.Common.{◌≡◌, ℕ, ◌-◌, List, [], ◌∷◌, ◌++◌, map, take, length, codes, cond, Bool, true, false, refl, sym, ◌∙◌, ap}
use Rattle.std.proofs.lemmas.List.Elements.{All-head, All-tail}
use Rattle.std.proofs.lemmas.List.{map-append}
use Rattle.std.proofs.lemmas.Simd.{map-map}
use Rattle.ab_term.specs.Types.{Ty, prop}
use Rattle.ab_term.specs.Variables.{Substitution, image, variables}
use Rattle.ab_term.specs.Sameness.{same_number}
use Rattle.ab_term.specs.Terms as tree
use Rattle.ab_term.specs.Variables.{one_by_one}
use Rattle.ab_term.proofs.InOrder.{one_by_one-at_once}
use Rattle.ab_norm.specs.ab_types.specs.Entries.{Table, signature}
use Rattle.ab_norm.specs.ab_store.specs.declared.node.TermId.{TermId}
use Rattle.ab_norm.specs.ab_store.specs.declared.node.CellId.{CellId}
use Rattle.ab_norm.specs.ab_store.specs.declared.node.Equation.{Equation}
use Rattle.ab_term.specs.Terms.{Read}
use Rattle.ab_norm.specs.ab_store.specs.Trees.{Contents, tree_of}
use Rattle.ab_norm.specs.ab_store.specs.Reading.{reading, binding_of, cell_variable}
use Rattle.ab_norm.specs.ab_store.specs.Naming.{IsTerm}
use Rattle.ab_norm.specs.ab_store.proofs.Growing.{unbound_reads}
use Rattle.ab_norm.specs.ab_store.proofs.Putting.{read_typed}
use Rattle.ab_unifiers.specs.Replacements.{Cell, holds, occurs}
use Rattle.ab_unifiers.specs.Unification.{unified, Solves}
use Rattle.ab_unify.specs.Problem.{cells_read, problem}
use Rattle.ab_unify.specs.StoreChanges.{Grows}
use Rattle.ab_unify.proofs.Growth.{grown_term}
use Rattle.ab_consequences.specs.Leading.{instance_by, chosen}
use Rattle.ab_consequences.specs.NewConstants.{pairs_for}
use Rattle.ab_consequences.specs.UseStages.{stage_under}
use Rattle.ab_consequences.proofs.Newest.{is_filled, put_in_one_by_one}
use Rattle.ab_unify.specs.UnifyAnswers.{AreNewCells, AreInAge, AreLeft}
use Rattle.ab_formulas.specs.Sequents.{Variable, in_terms}
use Rattle.ab_theory.specs.Equations.{made}
use Rattle.ab_alternatives.specs.ab_equations.specs.Meanwhile.{AreFrom, unbound_of}
use Rattle.ab_logic.specs.Worlds.{variable_at}
use Rattle.ab_alternatives.proofs.LeftOpen.{left_open}
use Rattle.ab_theory.specs.UseAnswers.{standing_in}
use Rattle.ab_uses.specs.UseSolutions.{behind_all, IsFormulaTerm}
use Rattle.ab_uses.specs.ChoiceAnswers.{IsLeft, IsSolvedSo, is_left_in}
use Rattle.ab_uses.specs.StageReadings.{stage_by}
use Rattle.ab_uses.specs.ClosedReadings.{closed_reading}
use Rattle.ab_uses.specs.UseCells.{StageIsTyped, stages_read}
use Rattle.ab_uses.specs.declared.stage.Stage.{Stage}
use Rattle.ab_uses.specs.declared.stage.Stage.TheVariants as stage
use Rattle.ab_uses.specs.declared.outcome.Outcome.{Outcome}
use Rattle.ab_uses.specs.declared.outcome.Outcome.TheVariants.{PassedOver, Apart, Stuck, Open, Used}
use Rattle.ab_uses.proofs.Left.{behind_image, stands_behind}
use Rattle.ab_uses.proofs.Parted.{type_stays}

-- the elements of which both tests hold
both_tests : {X : Type 0} (p q : X → Bool) (xs : List X) → filter (λ x. p x && q x) xs ≡ filter q (filter p xs)
both_tests p q [] = refl
both_tests {X} p q (x ∷ xs) =
    ap (λ k. cond (p x && q x) (x ∷ k) k) (both_tests p q xs) ∙ go (p x)
  where
    rest : List X
    rest = filter p xs

    go : (a : Bool) → cond (a && q x) (x ∷ filter q rest) (filter q rest) ≡ filter q (cond a (x ∷ rest) rest)
    go true = refl
    go false = refl

-- a test of what elements become
filter_map_so : {X Y : Type 0} (f : X → Y) (p : X → Bool) (q : Y → Bool) → ((x : X) → p x ≡ q (f x)) → (xs : List X) → map f (filter p xs) ≡ filter q (map f xs)
filter_map_so f p q e [] = refl
filter_map_so f p q e (x ∷ xs) =
    ap (λ b. map f (cond b (x ∷ filter p xs) (filter p xs))) (e x) ∙ inside (q (f x)) ∙ ap (λ k. cond (q (f x)) (f x ∷ k) k) (filter_map_so f p q e xs)
  where
    inside : (b : Bool) → map f (cond b (x ∷ filter p xs) (filter p xs)) ≡ cond b (f x ∷ map f (filter p xs)) (map f (filter p xs))
    inside true = refl
    inside false = refl

module _ (T U : Table) (S V : Contents) (g : Grows T S U V) (unbound : S.bindings ≡ []) (es : List Equation) (own : List CellId) (As : List TermId) (R : TermId)
    (more : List (Cell (List ℕ))) (answer : Substitution ℕ (List ℕ)) (solves : Solves (codes "x") (problem T S es own) (unified more answer))
    (reads : (G : List Ty) (t : TermId) (A : Ty) → IsTerm T S G t A → reading U V t ≡ image same_number answer (reading T S t)) (cells : cells_read U V ≡ more)
    (left : AreLeft S own U V answer) (from : AreFrom S (length S.cells - length own) own) (formulas : All (IsFormulaTerm T S) As) (formula : IsFormulaTerm T S R)
    (cs : List CellId) (new : AreNewCells S V cs) (in_age : AreInAge cs) (ss : List Stage) (staged : All (StageIsTyped T S) ss) (known : List tree.Nominal) where
  read_so : (t : TermId) → IsFormulaTerm T S t → reading U V t ≡ image same_number answer (tree_of T S t)
  read_so t f = reads [] t prop f ∙ ap (image same_number answer) (unbound_reads S unbound T t)

  all_read_so : (ts : List TermId) → All (IsFormulaTerm T S) ts → map (reading U V) ts ≡ map (λ t. image same_number answer (tree_of T S t)) ts
  all_read_so [] all = refl
  all_read_so (t ∷ ts) all =
      ap (λ F. F ∷ map (reading U V) ts) (read_so t (All-head (IsFormulaTerm T S) t ts all))
      ∙ ap (λ l. image same_number answer (tree_of T S t) ∷ l) (all_read_so ts (All-tail (IsFormulaTerm T S) t ts all))

  abbrev K : Read
  K = image same_number answer (behind_all (map (tree_of T S) As) (tree_of T S R))

  abbrev whole : List TermId
  whole = As ++ R ∷ []

  abbrev images : List Read
  images = map (λ t. image same_number answer (tree_of T S t)) As

  any_map : (f : TermId → Read) (p : Read → Bool) (ts : List TermId) → list_any (λ t. p (f t)) ts ≡ list_any p (map f ts)
  any_map f p [] = refl
  any_map f p (t ∷ ts) = ap (λ b. p (f t) || b) (any_map f p ts)

  readings_are : map (reading U V) whole ≡ images ++ image same_number answer (tree_of T S R) ∷ []
  readings_are = map-append (reading U V) As (R ∷ []) ∙ ap (λ l. l ++ reading U V R ∷ []) (all_read_so As formulas) ∙ ap (λ F. images ++ F ∷ []) (read_so R formula)

  images_are : map (image same_number answer) (map (tree_of T S) As) ≡ images
  images_are = map-map (image same_number answer) (tree_of T S) As

  stands_so : (c : CellId) → list_any (λ t. occurs (cell_variable U V c) (reading U V t)) whole ≡ holds (variables K) (cell_variable U V c)
  stands_so c =
      any_map (reading U V) (occurs (cell_variable U V c)) whole
      ∙ ap (list_any (occurs (cell_variable U V c))) readings_are
      ∙ sym (stands_behind images (image same_number answer (tree_of T S R)) (cell_variable U V c))
      ∙ ap (λ l. holds (variables (behind_all l (image same_number answer (tree_of T S R)))) (cell_variable U V c)) (sym images_are)
      ∙ ap (λ F. holds (variables F) (cell_variable U V c)) (sym (behind_image answer (map (tree_of T S) As) (tree_of T S R)))

  open_are : map (variable_at U V) (filter (is_left_in U V whole) (own ++ cs)) ≡ standing_in K (made (take (length S.cells - length own) (cells_read T S)) more answer)
  open_are =
      ap (map (variable_at U V)) (both_tests (λ c. is_none (binding_of V c)) (λ c. list_any (λ t. occurs (cell_variable U V c) (reading U V t)) whole) (own ++ cs))
      ∙ filter_map_so (variable_at U V) (λ c. list_any (λ t. occurs (cell_variable U V c) (reading U V t)) whole) (λ y. holds (variables K) (in_terms y)) stands_so (unbound_of V (own ++ cs))
      ∙ ap (standing_in K) (left_open T U S V g more answer cells (length S.cells - length own) own from left cs new in_age)

  abbrev open_ones : List Variable
  open_ones = made (take (length S.cells - length own) (cells_read T S)) more answer

  -- what a term of a stage reads as, once new constants are put in
  closed_so : (t : TermId) (A : Ty) → IsTerm T S [] t A → closed_reading U V known (own ++ cs) t ≡ image same_number (pairs_for known open_ones) (image same_number answer (tree_of T S t))
  closed_so t A is =
      ap (λ l. one_by_one same_number (pairs_for known l) (reading U V t)) (left_open T U S V g more answer cells (length S.cells - length own) own from left cs new in_age)
      ∙ one_by_one-at_once (signature U) same_number (pairs_for known open_ones) (is_filled (signature U) known open_ones).typed (read_typed U V g.typed [] t A (grown_term T U S V g [] t A is).1)
      ∙ ap (λ s. image same_number s (reading U V t)) (put_in_one_by_one known open_ones)
      ∙ ap (image same_number (pairs_for known open_ones)) (reads [] t A is ∙ ap (image same_number answer) (unbound_reads S unbound T t))

  stage_so : (s : Stage) → StageIsTyped T S s → stage_by U (closed_reading U V known (own ++ cs)) s ≡ stage_under (pairs_for known open_ones) (stage_under answer (stage_by T (tree_of T S) s))
  stage_so (stage.Instance t) h = ap instance_by (closed_so t h.0 h.1)
  stage_so (stage.Chosen a F) h = ap (λ A. chosen (record { number = a.number; type = A })) (type_stays T U g.table a.ty h.0)
  stage_so stage.Antecedent h = refl

  stages_so : (l : List Stage) → All (StageIsTyped T S) l → map (stage_by U (closed_reading U V known (own ++ cs))) l ≡ map (stage_under (pairs_for known open_ones)) (map (stage_under answer) (stages_read T S l))
  stages_so [] all = refl
  stages_so (s ∷ l) all =
      ap (λ p. p ∷ map (stage_by U (closed_reading U V known (own ++ cs))) l) (stage_so s (All-head (StageIsTyped T S) s l all))
      ∙ ap (λ k. stage_under (pairs_for known open_ones) (stage_under answer (stage_by T (tree_of T S) s)) ∷ k) (stages_so l (All-tail (StageIsTyped T S) s l all))

  -- SO THEY ARE SOLVED
  pub solved_so : (W : Contents) (o : Outcome) → IsLeft U V As R ss known (own ++ cs) W o → IsSolvedSo T S es own As R ss known U W o
  solved_so W PassedOver e = absurd e
  solved_so W Apart e = absurd e
  solved_so W (Stuck i) e = absurd e
  solved_so W (Open x) e = (more, answer, solves, variable_at U V e.0, map (variable_at U V) e.1, ap (map (variable_at U V)) (sym e.2) ∙ open_are, e.3)
  solved_so W (Used u) e = (more, answer, solves, ap (map (variable_at U V)) (sym e.0) ∙ open_are, e.1, e.2, e.3, e.4 ∙ all_read_so As formulas, e.5 ∙ read_so R formula, e.6 ∙ stages_so ss staged)
