-- The ways by the maps of a hypothesis's constants, one map after another.
use Rattle.std.specs.List.{All}
use Rattle.std.specs.Prelude.{Contains, slice_get, Vec}
use Rattle.std.specs.Global.{Global}
use Rattle.std.proofs.Common.{◌≡◌, ℕ, ◌+◌, List, [], ◌∷◌, ◌++◌, drop, Option, Some, None, sym, ◌∙◌, ap, subst}
use Rattle.std.proofs.lemmas.List.{append_assoc}
use Rattle.ab_term.specs.Terms.{Nominal, Read}
use Rattle.ab_term.specs.Names.{support, permute}
use Rattle.std.proofs.lemmas.List.Elements.{Contains-append_right}
use Rattle.ab_term.proofs.Lists.{Contains-here, Contains-map}
use Rattle.ab_norm.specs.ab_types.specs.Entries.{Table}
use Rattle.ab_norm.specs.ab_store.specs.declared.node.CellId.{CellId}
use Rattle.ab_norm.specs.ab_store.specs.declared.node.TermId.{TermId}
use Rattle.ab_norm.specs.declared.nominal.Nominal.{Nominal as Named}
use Rattle.ab_norm.specs.Nominals.{HoldsNominal}
use Rattle.ab_unifiers.specs.Choices.{in_order}
use Rattle.ab_judgements.specs.ab_alternatives.specs.ab_instances.specs.ListReadings.{names_read}
use Rattle.ab_judgements.specs.ab_alternatives.specs.ab_instances.proofs.Made.{names_stay, names_held}
use Rattle.ab_formulas.specs.Declarations.{Declarations}
use Rattle.ab_formulas.specs.Marks.{erased}
use Rattle.ab_logic.specs.WorldGrowth as world
use Rattle.ab_logic.specs.declared.world.World.{World}
use Rattle.ab_search_trees.specs.Goals as tree
use Rattle.ab_search_trees.specs.Goals.{Now}
use Rattle.ab_search_trees.specs.Maps.{mapping, targets}
use Rattle.ab_search_trees.specs.Ways as trees
use Rattle.ab_search_ways.specs.GoalReadings.{goal_read, HoldsGoal, IsAside}
use Rattle.ab_search_ways.specs.MadeWays.{IsMade}
use Rattle.ab_search_ways.specs.MapSteps.{IsNextOf, names_of}
use Rattle.ab_search_ways.specs.declared.goal.Goal.{Goal}
use Rattle.ab_search_ways.specs.declared.way.Way.{Way}
use Rattle.ab_search_ways.proofs.LaterWorlds.{goal_same}
use Rattle.ab_next_ways.specs.Cursors.{AreLeft, by_hypotheses_from, by_maps, HoldsMap}
use Rattle.ab_next_ways.specs.declared.cursor.Cursor.TheVariants.{Map}
use Rattle.ab_next_ways.proofs.WaysInTurn.{hypothesis_next, by_all_maps, behind_is, first_or_none, first_and_rest, split_there, there_behind}

-- the way by a map of the hypothesis's constants to these
abbrev pub by_map : Declarations → Now → tree.Goal → List Nominal → Read → trees.Way
by_map D now g ns B = trees.equating D now g (permute (mapping (in_order (support B)) ns) (erased B)) (erased g.conclusion) ((g.conclusion, B) ∷ [])

pub made_of : (v : World) (base : List TermId) (D : Declarations) (now : Now) (g : tree.Goal) (ns : List Nominal) (F B : Read) → Some F ≡ Some B → (made : Way) → IsMade v base (by_map D now g ns F) made → IsMade v base (by_map D now g ns B) made
made_of v base D now g ns F B e made is = let same : F ≡ B = cc in subst (λ C. IsMade v base (by_map D now g ns C) made) same is

pub next_of : (T : Table) (bs ds cs es ns : List Named) (o : Option (Vec Named Global)) → bs ≡ cs → ds ≡ es → IsNextOf (targets (names_read T bs) (names_read T ds)) (names_read T ns) (names_of T o)
    → IsNextOf (targets (names_read T cs) (names_read T es)) (names_read T ns) (names_of T o)
next_of T bs ds cs es ns o e f n =
    subst (λ l. IsNextOf (targets (names_read T l) (names_read T es)) (names_read T ns) (names_of T o)) e
    (subst (λ l. IsNextOf (targets (names_read T bs) (names_read T l)) (names_read T ns) (names_of T o)) f n)

-- it is one of the ways by the hypothesis
pub among_maps : (D : Declarations) (now : Now) (g : tree.Goal) (B : Read) (before after : List (List Nominal)) (ns : List Nominal) → targets (in_order (support B)) g.constants ≡ before ++ ns ∷ after
    → Contains (trees.by_hypothesis D now g B) (by_map D now g ns B)
among_maps D now g B before after ns split =
    subst (λ l. Contains l (by_map D now g ns B)) (sym (by_all_maps D now g B))
    (Contains-map (λ ks. by_map D now g ks B) (targets (in_order (support B)) g.constants) ns (subst (λ l. Contains l ns) (sym split) (Contains-append_right before (ns ∷ after) ns (Contains-here ns after))))

-- the first map: the constants stay
module _ (w : World) (base : List TermId) (k : Goal) (i : ℕ) (B : Read) (there : slice_get (goal_read w base k).hypotheses i ≡ Some B) (names ns : Vec Named Global)
    (all : names_read w.types names.items ≡ in_order (support B)) (first : names_read w.types ns.items ≡ in_order (support B)) where
  abbrev rest : List (List Nominal)
  rest = drop 1 (targets (in_order (support B)) (names_read w.types k.constants.items))

  pub starts : (D : Declarations) (now : Now) (ws : List trees.Way) → ws ≡ by_hypotheses_from D now (goal_read w base k) i → AreLeft D now (goal_read w base k) w.types (Map i names ns) ws
  starts D now ws e = (
    B,
    there,
    all,
    [],
    rest,
    ap (λ l. l ∷ rest) (sym first),
    e ∙ hypothesis_next D now (goal_read w base k) i B there
        ∙ ap (λ l. l ++ by_hypotheses_from D now (goal_read w base k) (i + 1)) (by_all_maps D now (goal_read w base k) B ∙ ap (λ l. by_maps D now (goal_read w base k) B (l ∷ rest)) (sym first)),
  )

  pub starts_held : All (HoldsNominal w.types) names.items → All (HoldsNominal w.types) ns.items → HoldsMap w base k i names.items ns.items
  starts_held h t = record {
    named = h;
    held = t;
    hypothesis = B;
    there = there;
    all = all;
    among = subst (Contains (targets (in_order (support B)) (names_read w.types k.constants.items))) (sym first) (Contains-here (in_order (support B)) rest);
  }

-- behind a map
module _ (w v : World) (g : world.Grows w v) (base : List TermId) (k : Goal) (held : HoldsGoal w k) (flexible : List CellId) (aside : All (IsAside w flexible) base)
    (i : ℕ) (names : Vec Named Global) (ns : List Named) (h : HoldsMap w base k i names.items ns) (o : Option (Vec Named Global))
    (next : IsNextOf (targets (names_read v.types names.items) (names_read v.types k.constants.items)) (names_read v.types ns) (names_of v.types o)) where
  abbrev before_all : tree.Goal
  before_all = goal_read w base k

  -- the same, in what was read before
  next_before : (B : Read) → names_read w.types names.items ≡ in_order (support B) → IsNextOf (targets (in_order (support B)) before_all.constants) (names_read w.types ns) (names_of v.types o)
  next_before B all =
      subst (λ x. IsNextOf (targets (in_order (support B)) before_all.constants) x (names_of v.types o)) (names_stay w.types v.types g.types ns h.held)
      (subst (λ free. IsNextOf (targets (in_order (support B)) free) (names_read v.types ns) (names_of v.types o)) (names_stay w.types v.types g.types k.constants.items held.constants)
      (subst (λ bs. IsNextOf (targets bs (names_read v.types k.constants.items)) (names_read v.types ns) (names_of v.types o)) (names_stay w.types v.types g.types names.items h.named ∙ all) next))

  names_later : (B : Read) → names_read w.types names.items ≡ in_order (support B) → names_read v.types names.items ≡ in_order (support B)
  names_later B all = names_stay w.types v.types g.types names.items h.named ∙ all

  module _ (D : Declarations) (now : Now) (before after : List (List Nominal)) (B : Read) (at : slice_get before_all.hypotheses i ≡ Some B) (all : names_read w.types names.items ≡ in_order (support B))
      (split : targets (in_order (support B)) before_all.constants ≡ before ++ names_read w.types ns ∷ after) where
    behind : slice_get after 0 ≡ names_of v.types o
    behind = behind_is before after (names_read w.types ns) (names_of v.types o) (subst (λ xs. IsNextOf xs (names_read w.types ns) (names_of v.types o)) split (next_before B all))

    pub left_none : o ≡ None → by_maps D now before_all B after ++ by_hypotheses_from D now before_all (i + 1) ≡ by_hypotheses_from D now before_all (i + 1)
    left_none e = ap (λ l. by_maps D now before_all B l ++ by_hypotheses_from D now before_all (i + 1)) (first_or_none after (behind ∙ ap (names_of v.types) e))

    pub left_some : (l : Vec Named Global) → o ≡ Some l → AreLeft D now before_all v.types (Map i names l) (by_maps D now before_all B after ++ by_hypotheses_from D now before_all (i + 1))
    left_some l e =
        let r = first_and_rest after (names_read v.types l.items) (behind ∙ ap (names_of v.types) e) in (
          B,
          at,
          names_later B all,
          before ++ names_read w.types ns ∷ [],
          r.0,
          split ∙ ap (λ z. before ++ names_read w.types ns ∷ z) r.1 ∙ sym (append_assoc before (names_read w.types ns ∷ []) (names_read v.types l.items ∷ r.0)),
          ap (λ z. by_maps D now before_all B z ++ by_hypotheses_from D now before_all (i + 1)) r.1,
        )

  pub held_some : (l : Vec Named Global) → o ≡ Some l → All (HoldsNominal v.types) l.items → HoldsMap v base k i names.items l.items
  held_some l e there =
      let s = split_there (targets (in_order (support h.hypothesis)) before_all.constants) (names_read w.types ns) h.among in
      let second : slice_get s.1 0 ≡ Some (names_read v.types l.items) =
      behind_is s.0 s.1 (names_read w.types ns) (names_of v.types o) (subst (λ xs. IsNextOf xs (names_read w.types ns) (names_of v.types o)) s.2 (next_before h.hypothesis h.all)) ∙ ap (names_of v.types) e in
      record {
        named = names_held w.types v.types g.types names.items h.named;
        held = there;
        hypothesis = h.hypothesis;
        there = ap (λ (q : tree.Goal). slice_get q.hypotheses i) (goal_same w v g flexible base aside k held) ∙ h.there;
        all = names_later h.hypothesis h.all;
        among = subst (λ free. Contains (targets (in_order (support h.hypothesis)) free) (names_read v.types l.items)) (sym (names_stay w.types v.types g.types k.constants.items held.constants))
            (subst (λ xs. Contains xs (names_read v.types l.items)) (sym s.2) (there_behind s.0 s.1 (names_read w.types ns) (names_read v.types l.items) second));
      }
