-- What is left of a use, as it is read once cells are bound, and which cells are open in it.
use Rattle.std.specs.List.{All, list_any}
use Rattle.std.specs.Prelude.{filter, is_none, ◌&&◌, ◌||◌, Option, Some, None}
use Rattle.std.proofs.Common.{◌≡◌, ℕ, List, [], ◌∷◌, ◌++◌, map, cond, Bool, refl, sym, ◌∙◌, ap, subst}
use Rattle.std.proofs.lemmas.List.{map-append}
use Rattle.std.proofs.lemmas.List.Elements.{All-nil, All-cons, All-head, All-tail, All-weaker}
use Rattle.ab_norm.specs.ab_types.specs.Entries.{Table}
use Rattle.ab_norm.specs.ab_store.specs.declared.node.TermId.{TermId}
use Rattle.ab_norm.specs.ab_store.specs.declared.node.CellId.{CellId}
use Rattle.ab_norm.specs.ab_store.specs.Trees.{Contents, Holds, cell_in, cell_of, tree_of}
use Rattle.ab_norm.specs.ab_store.specs.Reading.{reading, bound_in, binding_of, cell_variable}
use Rattle.ab_norm.specs.NodeGrowth.{AddsTerms, AddsTypedTerms}
use Rattle.ab_norm.proofs.Frame.{still_read, still_held}
use Rattle.ab_unifiers.specs.Replacements.{occurs}
use Rattle.ab_patterns.proofs.Bound.{same_cell}
use Rattle.ab_unify.specs.StoreChanges.{Grows}
use Rattle.ab_term.specs.Terms.{Nominal}
use Rattle.ab_uses.specs.UseCells.{StageIsTyped, stages_read}
use Rattle.ab_uses.specs.StageReadings.{stage_by}
use Rattle.ab_uses.specs.ClosedReadings.{closed_reading}
use Rattle.ab_uses.specs.declared.stage.Stage.{Stage}
use Rattle.ab_uses.specs.UseSolutions.{missing, stands_in, is_open}
use Rattle.ab_uses.specs.ChoiceAnswers.{is_left_in, IsLeft}
use Rattle.ab_uses.specs.declared.use_answers.Use.{Use}
use Rattle.ab_uses.specs.declared.outcome.Outcome.TheVariants.{Open, Used}

pub any_map : {X Y : Type 0} (f : X → Y) (p : Y → Bool) (ts : List X) → list_any (λ t. p (f t)) ts ≡ list_any p (map f ts)
any_map f p [] = refl
any_map f p (t ∷ ts) = ap (λ b. p (f t) || b) (any_map f p ts)

pub filter_same : {X : Type 0} (p q : X → Bool) → ((x : X) → p x ≡ q x) → (xs : List X) → filter p xs ≡ filter q xs
filter_same p q e [] = refl
filter_same p q e (x ∷ xs) = ap (λ b. cond b (x ∷ filter p xs) (filter p xs)) (e x) ∙ ap (λ l. cond (q x) (x ∷ l) l) (filter_same p q e xs)

-- what holds of all antecedents holds of those that are awaited
pub all_missing : {X Y : Type 0} (P : Y → Type 0) (os : List (Option X)) (xs : List Y) → All P xs → All P (missing os xs)
all_missing P [] xs all = All-nil P
all_missing P (o ∷ os) [] all = All-nil P
all_missing P (None ∷ os) (x ∷ xs) all = All-cons P x (missing os xs) (All-head P x xs all) (all_missing P os xs (All-tail P x xs all))
all_missing P (Some y ∷ os) (x ∷ xs) all = all_missing P os xs (All-tail P x xs all)

-- trees that are kept
pub trees_last : (T U : Table) (S V : Contents) → Grows T S U V → (ts : List TermId) → All (Holds S) ts → map (tree_of U V) ts ≡ map (tree_of T S) ts
trees_last T U S V g [] all = refl
trees_last T U S V g (t ∷ ts) all =
    ap (λ F. F ∷ map (tree_of U V) ts) (g.trees t (All-head (Holds S) t ts all)).1
    ∙ ap (λ l. tree_of T S t ∷ l) (trees_last T U S V g ts (All-tail (Holds S) t ts all))

module _ (T : Table) (S V W : Contents) (adds : AddsTypedTerms T S V) (more : AddsTerms V W) (As : List TermId) (R : TermId) (ts : List TermId) (r : TermId)
    (trees : map (tree_of T V) ts ≡ map (reading T S) As) (held : All (Holds V) ts) (tree : tree_of T W r ≡ reading T V R) (there : Holds S R) where
  pub awaited_trees : map (tree_of T W) ts ≡ map (reading T S) As
  awaited_trees = still_read T V W ts more held ∙ trees

  pub result_tree : tree_of T W r ≡ reading T S R
  result_tree = tree ∙ adds.before.readings T R there

  whole_trees : map (tree_of T W) (ts ++ r ∷ []) ≡ map (reading T S) (As ++ R ∷ [])
  whole_trees =
      map-append (tree_of T W) ts (r ∷ [])
      ∙ ap (λ l. l ++ tree_of T W r ∷ []) awaited_trees
      ∙ ap (λ F. map (reading T S) As ++ F ∷ []) result_tree
      ∙ sym (map-append (reading T S) As (R ∷ []))

  open_same : (c : CellId) → is_open T W (ts ++ r ∷ []) c ≡ is_left_in T S (As ++ R ∷ []) c
  open_same c =
      ap (λ bs. is_none (bound_in bs c) && stands_in T W (ts ++ r ∷ []) c) (more.before.bindings ∙ adds.before.bindings)
      ∙ ap (λ b. is_none (binding_of S c) && b)
      (any_map (tree_of T W) (occurs (cell_variable T W c)) (ts ++ r ∷ [])
      ∙ ap (list_any (occurs (cell_variable T W c))) whole_trees
      ∙ sym (any_map (reading T S) (occurs (cell_variable T W c)) (As ++ R ∷ []))
      ∙ ap (λ y. list_any (λ t. occurs y (reading T S t)) (As ++ R ∷ [])) (same_cell T S W c (more.cells ∙ adds.cells)))

  -- THE SAME CELLS ARE OPEN in the copies
  pub all_open_same : (cs : List CellId) → filter (is_open T W (ts ++ r ∷ [])) cs ≡ filter (is_left_in T S (As ++ R ∷ [])) cs
  all_open_same cs = filter_same (is_open T W (ts ++ r ∷ [])) (is_left_in T S (As ++ R ∷ [])) open_same cs

  -- WHERE ONE IS OPEN
  pub left_open : (cs : List CellId) (l : List TermId) → l ≡ ts ++ r ∷ [] → (c : CellId) (rest : List CellId) → filter (is_open T W l) cs ≡ c ∷ rest → (x : List ℕ) → x ≡ (cell_of W c).hint → (ss : List Stage) (known : List Nominal) (now : Contents) → IsLeft T S As R ss known cs now (Open x)
  left_open cs l whole c rest first x name ss known now = (
    c,
    rest,
    sym (all_open_same cs) ∙ ap (λ k. filter (is_open T W k) cs) (sym whole) ∙ first,
    name ∙ ap (λ k. (cell_in k c).hint) (more.cells ∙ adds.cells),
  )

  -- WHERE NONE IS, once stages are closed
  pub left_used : (cs : List CellId) (l : List TermId) → l ≡ ts ++ r ∷ [] → filter (is_open T W l) cs ≡ [] → Holds W r → (now : Contents) → Grows T W T now → (u : Use) → All (StageIsTyped T now) u.stages.items → u.awaited.items ≡ ts → u.result ≡ r
      → (ss : List Stage) (known : List Nominal) → stages_read T now u.stages.items ≡ map (stage_by T (closed_reading T S known cs)) ss → IsLeft T S As R ss known cs now (Used u)
  left_used cs l whole none here now g u stages list is ss known closed =
      let lasting = still_held V W ts more held in (
        sym (all_open_same cs) ∙ ap (λ k. filter (is_open T W k) cs) (sym whole) ∙ none,
        stages,
        subst (All (Holds now)) (sym list) (All-weaker (Holds W) (Holds now) (λ t h. (g.trees t h).0) ts lasting),
        subst (Holds now) (sym is) (g.trees r here).0,
        ap (map (tree_of T now)) list ∙ trees_last T T W now g ts lasting ∙ awaited_trees,
        ap (tree_of T now) is ∙ (g.trees r here).1 ∙ result_tree,
        closed,
      )
