-- The place to which a way leads, once its sides are made equal and what is left is copied.
use Rattle.std.specs.List.{All}
use Rattle.std.specs.Prelude.{AllPairs, Contains, filter, is_none, ◌↔◌}
use Rattle.std.proofs.Common.{◌≡◌, ◌≢◌, ◌⊎◌, inl, inr, ℕ, zero, suc, ◌+◌, ◌<◌, ◌≤◌, List, [], ◌∷◌, ◌++◌, map, drop, length, get_or, Bool, true, false, cond, not, Option, Some, None, refl, sym, ◌∙◌, ap, subst, arith}
use Rattle.std.proofs.lemmas.Simd.{map-map}
use Rattle.std.proofs.lemmas.List.{drop_all, map-append}
use Rattle.std.proofs.lemmas.List.Elements.{All-nil, All-cons, All-head, All-tail, All-append, All-weaker, All-contains, All-filter, filter_passes, Contains-append_cases}
use Rattle.ab_term.specs.Types.{Ty, prop}
use Rattle.ab_term.specs.Terms.{Variable, Read}
use Rattle.ab_term.specs.Variables.{Substitution, image, one_by_one, variables}
use Rattle.ab_term.specs.Sameness.{same_number}
use Rattle.ab_term.proofs.Lists.{Contains-none, Contains-here, Contains-there, Contains-cases, Contains-from_map, All-from_contains, AllPairs-parts}
use Rattle.ab_norm.specs.ab_types.specs.Entries.{Table}
use Rattle.ab_norm.specs.ab_types.specs.Ids.{type_of}
use Rattle.ab_norm.specs.ab_store.specs.declared.node.TermId.{TermId}
use Rattle.ab_norm.specs.ab_store.specs.declared.node.CellId.{CellId}
use Rattle.ab_norm.specs.ab_store.specs.declared.node.CellEntry.{CellEntry}
use Rattle.ab_norm.specs.ab_store.specs.declared.node.Binding.{Binding}
use Rattle.ab_norm.specs.ab_store.specs.Trees.{Contents, HoldsCell, cell_in, tree_of}
use Rattle.ab_norm.specs.ab_store.specs.Reading.{reading, cell_variable, binding_of, bound_in}
use Rattle.ab_norm.specs.ab_store.specs.Bindings.{IsResolved}
use Rattle.ab_norm.specs.ab_store.specs.Naming.{IsTerm}
use Rattle.ab_norm.specs.ab_store.proofs.Cells.{numbers}
use Rattle.ab_norm.specs.ab_store.proofs.Putting.{resolved_reads}
use Rattle.ab_norm.specs.NodeGrowth.{AddsTypedTerms}
use Rattle.ab_norm.specs.declared.nominal.Nominal.{Nominal}
use Rattle.ab_norm.specs.Nominals.{HoldsNominal}
use Rattle.ab_norm.proofs.Clear.{resolved_by}
use Rattle.ab_unifiers.specs.Replacements.{Cell, holds}
use Rattle.ab_unifiers.specs.Clauses.{numbered}
use Rattle.ab_unifiers.specs.Unifiers.{keys}
use Rattle.ab_unifiers.proofs.Agreeing.{contains_holds}
use Rattle.ab_unifiers.proofs.Falling.{map_length}
use Rattle.ab_unify.specs.Problem.{cell_read, cells_read, variables_read}
use Rattle.ab_unify.specs.StoreChanges.{Grows, IsFree}
use Rattle.ab_unify.specs.UnifyAnswers.{AreNewCells, AreInAge, AreLeft}
use Rattle.ab_unify.proofs.Cells.{variables_same}
use Rattle.ab_unify.proofs.Growth.{grown_term}
use Rattle.ab_unify.proofs.Over.{reads_over}
use Rattle.ab_instances.specs.ListReadings.{names_read}
use Rattle.ab_instances.proofs.Made.{names_stay, names_held}
use Rattle.ab_logic.specs.Worlds.{IsWorld, Holds, read}
use Rattle.ab_logic.specs.declared.world.World.{World}
use Rattle.ab_logic.proofs.Growing.{map_same}
use Rattle.ab_search_trees.specs.Goals.{Now, goal_under}
use Rattle.ab_search_trees.specs.Lifting.{left_of}
use Rattle.ab_search_trees.specs.Ways as trees
use Rattle.ab_search_trees.specs.Tree.{now_after}
use Rattle.ab_search_ways.specs.GoalReadings.{goal_by, goal_read, HoldsGoal, IsTypedGoal, IsAside, IsPlace}
use Rattle.ab_search_ways.specs.MadeWays.{HoldsWay, IsTypedWay, IsMade}
use Rattle.ab_search_ways.specs.GoalsLeft.{SameNames, unbound_in, IsLeft}
use Rattle.ab_search_ways.specs.declared.goal.Goal.{Goal}
use Rattle.ab_search_ways.specs.declared.way.Way.{Way}
use Rattle.ab_search_ways.specs.declared.way.Place.{Place}
use Rattle.ab_search_ways.proofs.Bare.{kept_term}
use Rattle.ab_search_ways.proofs.Resolved.{plain_goal}

-- cells from a number on, in order of age, as variables
high : (k m : ℕ) → (k < m → ⊥) → m ≤ k
high k zero h = omega arith
high zero (suc m) h = absurd (h (omega arith))
high (suc k) (suc m) h = let l = high k m (λ l. h (omega (arith, l))) in omega (arith, l)

dropped : (types : Table) (cells : List CellEntry) (n : ℕ) (d : CellEntry) → n < length cells → drop n (map (cell_read types) cells) ≡ cell_read types (get_or cells n d) ∷ drop (suc n) (map (cell_read types) cells)
dropped types [] n d l = absurd (omega (arith, l))
dropped types (c ∷ cells) zero d l = refl
dropped types (c ∷ cells) (suc n) d l = dropped types cells n d (omega (arith, l))

in_order : (T : Table) (S : Contents) (n : ℕ) (cs : List CellId) → AreInAge cs → ((c : CellId) → Contains cs c ↔ ((c.0 < length S.cells) × (n ≤ c.0)))
    → variables_read T S cs ≡ numbered n (drop n (cells_read T S))
in_order T S n [] in_age which =
    let size = map_length (cell_read T) S.cells in
    let none : n < length S.cells → ⊥ = λ l. Contains-none (record { 0 = n }) ((which (record { 0 = n })).1 (l, omega arith)) in
    ap (numbered n) (sym (drop_all n (cells_read T S) (subst (λ k. k ≤ n) (sym size) (high n (length S.cells) none))))
in_order T S n (c ∷ cs) in_age which =
    let both = AllPairs-parts (λ (a b : CellId). a.0 < b.0) c cs in_age in
    let there = (which c).0 (Contains-here c cs) in
    let d : CellEntry = record { hint = []; ty = record { 0 = 0 } } in
    let first : c.0 ≡ n = elim (Contains-cases c cs (record { 0 = n }) ((which (record { 0 = n })).1 (let a = there.0 in let b = there.1 in omega (arith, a, b), omega arith))) [
      | inl e ↦ ap (λ (k : CellId). k.0) e
      | inr m ↦ (let less = All-contains (λ (b : CellId). c.0 < b.0) cs (record { 0 = n }) both.0 m in let b = there.1 in absurd (omega (arith, less, b)))
    ] in
    let rest = in_order T S (n + 1) cs both.1 (λ e. (
      λ m. (let p = (which e).0 (Contains-there c cs e m) in (p.0, (let less = All-contains (λ (b : CellId). c.0 < b.0) cs e both.0 m in omega (arith, less, first)))),
      λ p. elim (Contains-cases c cs e ((which e).1 (p.0, let more = p.1 in omega (arith, more)))) [
        | inl same ↦ (let number : c.0 ≡ e.0 = ap (λ (k : CellId). k.0) same in let more = p.1 in absurd (omega (arith, number, more, first)))
        | inr m ↦ m
      ],
    )) in
    let next : n + 1 ≡ suc n = omega arith in
    ap (λ l. cell_variable T S c ∷ l) rest
    ∙ ap (λ m. record { name = m; type = (cell_variable T S c).type } ∷ numbered (n + 1) (drop (n + 1) (cells_read T S))) first
    ∙ ap (λ m. record { name = n; type = (cell_read T (get_or S.cells m d)).type } ∷ numbered (n + 1) (drop (n + 1) (cells_read T S))) first
    ∙ ap (λ m. record { name = n; type = (cell_read T (get_or S.cells n d)).type } ∷ numbered m (drop m (cells_read T S))) next
    ∙ ap (numbered n) (sym (dropped T S.cells n d (let a = there.0 in omega (arith, a, first))))

-- the two tests agree
test_same : (b : Bool) (o : Option TermId) → (o ≡ None) ↔ (b ≡ false) → is_none o ≡ not b
test_same true None iff = let clash : true ≡ false = iff.0 refl in absurd (cc)
test_same true (Some t) iff = refl
test_same false None iff = refl
test_same false (Some t) iff = let clash : Some t ≡ None = iff.1 refl in absurd (cc)

is_nothing : (o : Option TermId) → is_none o ≡ true → o ≡ None
is_nothing None e = refl
is_nothing (Some t) e = absurd (cc)

map_filter : {X Y : Type 0} (f : X → Y) (p : X → Bool) (q : Y → Bool) (xs : List X) → All (λ x. p x ≡ q (f x)) xs → map f (filter p xs) ≡ filter q (map f xs)
map_filter f p q [] all = refl
map_filter f p q (x ∷ xs) all =
    go (map_filter f p q xs (All-tail (λ x. p x ≡ q (f x)) x xs all)) (p x) ∙ ap (λ b. cond b (f x ∷ filter q (map f xs)) (filter q (map f xs))) (All-head (λ x. p x ≡ q (f x)) x xs all)
  where
    go : map f (filter p xs) ≡ filter q (map f xs) → (b : Bool) → map f (cond b (x ∷ filter p xs) (filter p xs)) ≡ cond b (f x ∷ filter q (map f xs)) (filter q (map f xs))
    go e true = ap (λ l. f x ∷ l) e
    go e false = e

module _ (w : World) (is : IsWorld w) (made : Way) (there : HoldsWay w made) (said : IsTypedWay w made)
    (rest : List Goal) (rest_there : All (HoldsGoal w) rest) (rest_said : All (IsTypedGoal w.types w.store) rest)
    (U : Table) (V : Contents) (g : Grows w.types w.store U V) (more : List (Cell (List ℕ))) (q : Substitution ℕ (List ℕ))
    (reads : (G : List Ty) (t : TermId) (A : Ty) → IsTerm w.types w.store G t A → reading U V t ≡ image same_number q (reading w.types w.store t))
    (cells : cells_read U V ≡ more) (left : AreLeft w.store made.flexible.items U V q) (others : (c : CellId) → IsFree w.store c → ¬ Contains made.flexible.items c → IsFree V c)
    (cs : List CellId) (new : AreNewCells w.store V cs) (in_age : AreInAge cs) where
  abbrev T : Table
  T = w.types

  abbrev S : Contents
  S = w.store

  abbrev flexible : List CellId
  flexible = made.flexible.items

  -- no cell was bound before
  unbound_reads : (t : TermId) → reading T S t ≡ read w t
  unbound_reads t = ap (λ bs. one_by_one same_number (map (λ (b : Binding). (cell_variable T S b.cell, tree_of T S b.term)) bs) (tree_of T S t)) is.unbound

  pub formula_reads : (t : TermId) → IsTerm T S [] t prop → reading U V t ≡ image same_number q (read w t)
  formula_reads t h = reads [] t prop h ∙ ap (image same_number q) (unbound_reads t)

  -- a variable of a term that is there is a cell that is
  cell_there : (t : TermId) → Holds w t → (y : Variable ℕ) → Contains (variables (read w t)) y → y.name < length S.cells
  cell_there t h y m =
      subst (λ n. y.name < n) (map_length (cell_read T) S.cells)
      (reads_over T S is.typed t h y (contains_holds (variables (reading T S t)) y (subst (λ r. Contains (variables r) y) (sym (unbound_reads t)) m)))

  -- what no answer changes
  aside_reads : (t : TermId) → IsAside w flexible t → tree_of U V t ≡ image same_number q (read w t)
  aside_reads t a = sym (resolved_reads U V t clear) ∙ formula_reads t a.formula
    where
      same : tree_of U V t ≡ read w t
      same = (g.trees t a.formula.0).1

      stays : (n : ℕ) → Contains (numbers (tree_of U V t)) n → bound_in V.bindings (record { 0 = n }) ≡ None
      stays n m =
          let found = Contains-from_map (λ (y : Variable ℕ). y.name) (variables (tree_of U V t)) n m in
          let inside = subst (λ r. Contains (variables r) found.0) same found.1 in
          subst (λ k. bound_in V.bindings (record { 0 = k }) ≡ None) found.2
          (others (record { 0 = found.0.name }) (cell_there t a.formula.0 found.0 inside, ap (λ bs. bound_in bs (record { 0 = found.0.name })) is.unbound) (a.apart found.0 inside)).1

      clear : IsResolved V t
      clear = resolved_by U V t stays

  -- a goal, with what cells are bound to in their places
  goal_reads : (base : List TermId) (h : Goal) → HoldsGoal w h → IsTypedGoal T S h → (hs : List Read) → hs ≡ map (image same_number q) (map (read w) base)
      → goal_by (reading U V) U hs h ≡ goal_under q (goal_read w base h)
  goal_reads base h held typed hs first =
      ap (λ l. plain_goal (l ++ map (reading U V) h.added.items) (reading U V h.conclusion) (names_read U h.constants.items) h) first
      ∙ ap (λ l. plain_goal (map (image same_number q) (map (read w) base) ++ l) (reading U V h.conclusion) (names_read U h.constants.items) h)
      (map_same (reading U V) (λ t. image same_number q (read w t)) (λ t. IsTerm T S [] t prop) formula_reads h.added.items typed.added ∙ sym (map-map (image same_number q) (read w) h.added.items))
      ∙ ap (λ l. plain_goal l (reading U V h.conclusion) (names_read U h.constants.items) h) (sym (map-append (image same_number q) (map (read w) base) (map (read w) h.added.items)))
      ∙ ap (λ F. plain_goal (map (image same_number q) (map (read w) base ++ map (read w) h.added.items)) F (names_read U h.constants.items) h) (formula_reads h.conclusion typed.conclusion)
      ∙ ap (λ ns. plain_goal (map (image same_number q) (map (read w) base ++ map (read w) h.added.items)) (image same_number q (read w h.conclusion)) ns h) (names_stay T U g.table h.constants.items held.constants)

  -- what is left is copied
  module _ (X : Contents) (adds : AddsTypedTerms U V X) (p : Place) (is_left : IsLeft U V X (flexible ++ cs) (made.goals.items ++ rest) p) where
    abbrev x : World
    x = record { types = U; store = X; additions = w.additions }

    base_reads : (ts : List TermId) → All (IsAside w flexible) ts → map (tree_of U X) ts ≡ map (image same_number q) (map (read w) ts)
    base_reads ts all =
        map_same (tree_of U X) (λ t. image same_number q (read w t)) (IsAside w flexible)
        (λ t a. adds.before.trees U t (g.trees t a.formula.0).0 ∙ aside_reads t a) ts all
        ∙ sym (map-map (image same_number q) (read w) ts)

    all_there : All (HoldsGoal w) (made.goals.items ++ rest)
    all_there = All-append (HoldsGoal w) made.goals.items rest there.goals rest_there

    all_said : All (IsTypedGoal T S) (made.goals.items ++ rest)
    all_said = All-append (IsTypedGoal T S) made.goals.items rest said.goals rest_said

    goals_are : (base : List TermId) → All (IsAside w flexible) base → (way : trees.Way) → map (goal_read w base) made.goals.items ≡ way.goals
        → map (goal_read x base) p.goals ≡ map (goal_under q) (way.goals ++ map (goal_read w base) rest)
    goals_are base aside way same =
        let hs = map (tree_of U X) base in
        let gs = made.goals.items ++ rest in
        is_left.goals.reads hs
        ∙ both_same (goal_by (reading U V) U hs) (λ h. goal_under q (goal_read w base h)) (λ h a b. goal_reads base h a b hs (base_reads base aside)) gs all_there all_said
        ∙ sym (map-map (goal_under q) (goal_read w base) gs)
        ∙ ap (map (goal_under q)) (map-append (goal_read w base) made.goals.items rest ∙ ap (λ l. l ++ map (goal_read w base) rest) same)
      where
        both_same : {Y : Type 0} (f k : Goal → Y) → ((h : Goal) → HoldsGoal w h → IsTypedGoal T S h → f h ≡ k h) → (gs : List Goal) → All (HoldsGoal w) gs → All (IsTypedGoal T S) gs → map f gs ≡ map k gs
        both_same f k each [] a b = refl
        both_same f k each (h ∷ gs) a b =
            ap (λ y. y ∷ map f gs) (each h (All-head (HoldsGoal w) h gs a) (All-head (IsTypedGoal T S) h gs b))
            ∙ ap (λ l. k h ∷ l) (both_same f k each gs (All-tail (HoldsGoal w) h gs a) (All-tail (IsTypedGoal T S) h gs b))

    -- the cells that are left
    held_in : (c : CellId) → Contains (flexible ++ cs) c → (Contains flexible c ⊎ (¬ HoldsCell S c)) × HoldsCell V c
    held_in c m = elim (Contains-append_cases flexible cs c m) [
      | inl a ↦ (inl a, (g.cells c (All-contains (IsFree S) flexible c there.free a).0).0)
      | inr a ↦ (inr ((new c).0 a).1, ((new c).0 a).0)
    ]

    new_which : (c : CellId) → Contains cs c ↔ ((c.0 < length V.cells) × (length S.cells ≤ c.0))
    new_which c = (
      λ m. (((new c).0 m).0, high c.0 (length S.cells) ((new c).0 m).1),
      λ h. (new c).1 (h.0, let low = h.1 in λ k. omega (arith, low, k)),
    )

    replaced_are : (way : trees.Way) → cells_read T S ≡ way.cells → variables_read T S flexible ≡ way.flexible → variables_read U X p.flexible.items ≡ left_of way.cells way.flexible more q
    replaced_are way same are =
        ap (λ (k : List CellEntry). map (λ (c : CellId). record { name = c.0; type = type_of U (cell_in k c).ty }) p.flexible.items) adds.cells
        ∙ ap (variables_read U V) is_left.cells
        ∙ map_filter (cell_variable U V) (λ c. is_none (binding_of V c)) (λ y. not (holds (keys q) y)) (flexible ++ cs)
        (All-from_contains (λ c. is_none (binding_of V c) ≡ not (holds (keys q) (cell_variable U V c))) (flexible ++ cs)
        (λ c m. let h = held_in c m in test_same (holds (keys q) (cell_variable U V c)) (binding_of V c) (left c h.0 h.1)))
        ∙ ap (filter (λ y. not (holds (keys q) y))) (map-append (cell_variable U V) flexible cs)
        ∙ ap (λ l. filter (λ y. not (holds (keys q) y)) (l ++ variables_read U V cs)) (variables_same T U S V g is.typed flexible there.free ∙ are)
        ∙ ap (λ l. filter (λ y. not (holds (keys q) y)) (way.flexible ++ l)) (in_order U V (length S.cells) cs in_age new_which)
        ∙ ap (λ n. filter (λ y. not (holds (keys q) y)) (way.flexible ++ numbered n (drop n (cells_read U V)))) (sym (map_length (cell_read T) S.cells) ∙ ap length same)
        ∙ ap (λ l. filter (λ y. not (holds (keys q) y)) (way.flexible ++ numbered (length way.cells) (drop (length way.cells) l))) cells

    inside : (c : CellId) → Contains (unbound_in V (flexible ++ cs)) c → Contains (flexible ++ cs) c
    inside c m = All-contains (Contains (flexible ++ cs)) (unbound_in V (flexible ++ cs)) c (All-filter (λ c. is_none (binding_of V c)) (Contains (flexible ++ cs)) (flexible ++ cs) (All-from_contains (Contains (flexible ++ cs)) (flexible ++ cs) (λ d k. k))) m

    all_free : All (IsFree X) p.flexible.items
    all_free =
        subst (All (IsFree X)) (sym is_left.cells)
        (All-from_contains (IsFree X) (unbound_in V (flexible ++ cs)) (λ c m. (
          subst (λ (k : List CellEntry). c.0 < length k) (sym adds.cells) (held_in c (inside c m)).1,
          ap (λ bs. bound_in bs c) adds.before.bindings ∙ is_nothing (binding_of V c) (All-contains (λ c. is_none (binding_of V c) ≡ true) (unbound_in V (flexible ++ cs)) c (filter_passes (λ c. is_none (binding_of V c)) (flexible ++ cs)) m),
        )))

    aside_still : (t : TermId) → IsAside w flexible t → IsAside x p.flexible.items t
    aside_still t a = record {
      formula = kept_term U V X adds [] t prop (grown_term T U S V g [] t prop a.formula);
      apart = λ y m k.
          let was : read x t ≡ read w t = adds.before.trees U t (g.trees t a.formula.0).0 ∙ (g.trees t a.formula.0).1 in
          let before = subst (λ r. Contains (variables r) y) was m in
          let low = cell_there t a.formula.0 y before in
          elim (Contains-append_cases flexible cs (record { 0 = y.name }) (inside (record { 0 = y.name }) (subst (λ l. Contains l (record { 0 = y.name })) is_left.cells k))) [
            | inl b ↦ a.apart y before b
            | inr b ↦ ((new (record { 0 = y.name })).0 b).1 low
          ];
    }

    -- what is asked of the constants of a goal
    abbrev AreConstants : Table → List Nominal → Type 0
    AreConstants types ns = All (HoldsNominal types) ns × AllPairs (λ a b. a ≢ b) (names_read types ns)

    constants_still : (ns : List Nominal) → AreConstants T ns → AreConstants U ns
    constants_still ns a = (
      names_held T U g.table ns a.0,
      subst (AllPairs (λ a b. a ≢ b)) (sym (names_stay T U g.table ns a.0)) a.1,
    )

    constants_are : (gs hs : List Goal) → SameNames gs hs → All (HoldsGoal w) hs → All (λ (h : Goal). AreConstants U h.constants.items) gs
    constants_are [] hs e all = All-nil (λ (h : Goal). AreConstants U h.constants.items)
    constants_are (h ∷ gs) [] e all = absurd (cc)
    constants_are (h ∷ gs) (k ∷ hs) e all =
        let first : k.constants.items ≡ h.constants.items = cc in
        let others : SameNames gs hs = cc in
        let one = All-head (HoldsGoal w) k hs all in
        All-cons (λ (h : Goal). AreConstants U h.constants.items) h gs
        (subst (AreConstants U) first (constants_still k.constants.items (one.constants, one.once)))
        (constants_are gs hs others (All-tail (HoldsGoal w) k hs all))

    goals_there : (gs : List Goal) → All (IsTypedGoal U X) gs → All (λ (h : Goal). AreConstants U h.constants.items) gs → All (HoldsGoal x) gs
    goals_there [] a b = All-nil (HoldsGoal x)
    goals_there (h ∷ gs) a b =
        let one = All-head (IsTypedGoal U X) h gs a in
        let names = All-head (λ (h : Goal). AreConstants U h.constants.items) h gs b in
        All-cons (HoldsGoal x) h gs
        (record { added = All-weaker (λ t. IsTerm U X [] t prop) (Holds x) (λ t k. k.0) h.added.items one.added; conclusion = one.conclusion.0; constants = names.0; once = names.1 })
        (goals_there gs (All-tail (IsTypedGoal U X) h gs a) (All-tail (λ (h : Goal). AreConstants U h.constants.items) h gs b))

    pub place_is : (base : List TermId) (now : Now) (way : trees.Way) → IsMade w base way made
        → IsPlace x base p.flexible.items p.goals (now_after now way more q) (map (goal_under q) (way.goals ++ map (goal_read w base) rest))
    place_is base now way m = record {
      variables = record { cells = ap (map (cell_read U)) adds.cells ∙ cells; replaced = replaced_are way m.cells m.replaced; free = all_free };
      aside = All-weaker (IsAside w flexible) (IsAside x p.flexible.items) aside_still base m.aside;
      reads = goals_are base m.aside way m.goals;
      held = goals_there p.goals is_left.goals.typed (constants_are p.goals (made.goals.items ++ rest) is_left.goals.names all_there);
    }
