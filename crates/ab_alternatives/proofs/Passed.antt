-- Cases that were gone through, and others behind them.
use Rattle.std.proofs.Common.{◌≡◌, ℕ, List, [], ◌∷◌, ◌++◌, map, refl, sym, ◌∙◌, ap, subst, append_assoc, append-nil}
use Rattle.std.specs.Prelude.{All}
use Rattle.std.proofs.lemmas.List.Elements.{All-push, All-weaker}
use Rattle.ab_unifiers.specs.Replacements.{Cell}
use Rattle.ab_unify.specs.Problem.{cells_read}
use Rattle.ab_unify.proofs.Growth as stores
use Rattle.ab_formulas.specs.Declarations.{Declarations}
use Rattle.ab_formulas.specs.NewNames.{IsNamedFor}
use Rattle.ab_formulas.specs.Sequents.{Sequent}
use Rattle.ab_logic.specs.Worlds.{IsWorld, declarations_of}
use Rattle.ab_logic.specs.SequentReadings.{HoldsSequent, sequent_of}
use Rattle.ab_logic.specs.declared.world.World.{World}
use Rattle.ab_logic.specs.declared.sequent.Sequent.{Sequent as Kept}
use Rattle.ab_logic.proofs.Growing.{grows_not, grows_on, map_same, same_sequent, still_held}
use Rattle.ab_theory.specs.Equations.{Naming}
use Rattle.ab_theory.specs.Splits.{CaseOver, Split, IsUnsplit, Arises, NeverArises, IsOpen, here}
use Rattle.ab_theory.proofs.SplitEquations.{Passes, passes_none, passes_never, passes_goal, passed_all}
use Rattle.ab_alternatives.specs.CaseSteps.{IsLater, ArePassed, AreStopped}

abbrev Cells : Type 0
Cells = List (Cell (List ℕ))

passes_on : (N : Naming) (a b c : Cells) (cs ds : List CaseOver) (gs hs : List Sequent) → Passes N a cs gs b → Passes N b ds hs c → Passes N a (cs ++ ds) (gs ++ hs) c
passes_on N a b c cs ds gs hs p q = record {
  splits = λ es ks d.
      subst (λ l. Split N a l ((gs ++ hs) ++ ks)) (sym (append_assoc cs ds es))
      (subst (Split N a (cs ++ (ds ++ es))) (sym (append_assoc gs hs ks)) (p.splits (ds ++ es) (hs ++ ks) (q.splits es ks d)));
  stops = λ es i u. subst (λ l. IsUnsplit N a l i) (sym (append_assoc cs ds es)) (p.stops (ds ++ es) i (q.stops es i u));
}

-- later and later worlds
pub later_not : (w : World) → IsWorld w → IsLater w w
later_not w is = record { grown = stores.grows_none w.types w.store is.typed; additions = refl; grows = grows_not w is; declared = refl }

pub later_on : (u v w : World) → IsLater u v → IsLater v w → IsLater u w
later_on u v w a b = record {
  grown = stores.grows_on u.types v.types w.types u.store v.store w.store a.grown b.grown;
  additions = b.additions ∙ a.additions;
  grows = grows_on u v w a.grows b.grows;
  declared = b.declared ∙ a.declared;
}

-- goals that were there read as before, and are there
pub still_listed : (w v : World) → IsLater w v → (gs : List Kept) → All (HoldsSequent w) gs → map (sequent_of v) gs ≡ map (sequent_of w) gs
still_listed w v later gs held = map_same (sequent_of v) (sequent_of w) (HoldsSequent w) (same_sequent w v later.grows) gs held

pub still_there : (w v : World) → IsLater w v → (gs : List Kept) → All (HoldsSequent w) gs → All (HoldsSequent v) gs
still_there w v later gs held = All-weaker (HoldsSequent w) (HoldsSequent v) (still_held w v later.grows) gs held

-- no case
pub passed_none : (w : World) (gs : List Kept) → All (HoldsSequent w) gs → ArePassed w gs [] w gs
passed_none w gs held = record {
  goals = [];
  listed = sym (append-nil (map (sequent_of w) gs));
  passes = passes_none (IsNamedFor (declarations_of w)) (cells_read w.types w.store);
  held = held;
}

-- one case
pub passed_never : (w v : World) → IsLater w v → (gs : List Kept) → All (HoldsSequent w) gs → (c : CaseOver) → NeverArises (c (cells_read w.types w.store)) → cells_read v.types v.store ≡ cells_read w.types w.store → ArePassed w gs (c ∷ []) v gs
passed_never w v later gs held c never same =
    let N : Naming = IsNamedFor (declarations_of w) in
    let cells : Cells = cells_read w.types w.store in
    record {
      goals = [];
      listed = still_listed w v later gs held ∙ sym (append-nil (map (sequent_of w) gs));
      passes = subst (Passes N cells (c ∷ []) []) (sym same) (passes_never N cells [] [] cells (passes_none N cells) c never);
      held = still_there w v later gs held;
    }

mapped_push : {X Y : Type 0} (f : X → Y) (xs : List X) (x : X) → map f (xs ++ x ∷ []) ≡ map f xs ++ f x ∷ []
mapped_push f [] x = refl
mapped_push f (y ∷ xs) x = ap (λ l. f y ∷ l) (mapped_push f xs x)

pub passed_goal : (w v : World) → IsLater w v → (gs now : List Kept) (g : Kept) → now ≡ gs ++ g ∷ [] → All (HoldsSequent w) gs → HoldsSequent v g → (c : CaseOver)
    → Arises (IsNamedFor (declarations_of w)) (c (cells_read w.types w.store)) (cells_read v.types v.store) (sequent_of v g) → ArePassed w gs (c ∷ []) v now
passed_goal w v later gs now g pushed held there c arises =
    let N : Naming = IsNamedFor (declarations_of w) in
    let cells : Cells = cells_read w.types w.store in
    record {
      goals = sequent_of v g ∷ [];
      listed = ap (map (sequent_of v)) pushed ∙ mapped_push (sequent_of v) gs g ∙ ap (λ l. l ++ sequent_of v g ∷ []) (still_listed w v later gs held);
      passes = passes_goal N cells [] [] cells (passes_none N cells) c (cells_read v.types v.store) (sequent_of v g) arises;
      held = subst (All (HoldsSequent v)) (sym pushed) (All-push (HoldsSequent v) gs g (still_there w v later gs held) there);
    }

pub stopped_here : (w : World) (c : CaseOver) (i : ℕ) → IsOpen (c (cells_read w.types w.store)) i → AreStopped w (c ∷ []) i
stopped_here w c i open_there ds = here open_there

-- whatever stands behind
pub stopped_more : (w : World) (cs ds : List CaseOver) (i : ℕ) → AreStopped w cs i → AreStopped w (cs ++ ds) i
stopped_more w cs ds i stopped es = subst (λ l. IsUnsplit (IsNamedFor (declarations_of w)) (cells_read w.types w.store) l i) (sym (append_assoc cs ds es)) (stopped (ds ++ es))

pub stopped_in : (w : World) (cs ds : List CaseOver) (i : ℕ) → AreStopped w cs i → (all : List CaseOver) → all ≡ cs ++ ds → AreStopped w all i
stopped_in w cs ds i stopped all e = subst (λ l. AreStopped w l i) (sym e) (stopped_more w cs ds i stopped)

-- cases behind cases
module _ (u v : World) (later : IsLater u v) (a b : List Kept) (cs : List CaseOver) (p : ArePassed u a cs v b) where
  abbrev N : Declarations → Naming
  N D = IsNamedFor D

  pub passed_on : (w : World) (ds : List CaseOver) (c : List Kept) → ArePassed v b ds w c → ArePassed u a (cs ++ ds) w c
  passed_on w ds c q = record {
    goals = p.goals ++ q.goals;
    listed = q.listed ∙ ap (λ l. l ++ q.goals) p.listed ∙ append_assoc (map (sequent_of u) a) p.goals q.goals;
    passes =
        passes_on (N (declarations_of u)) (cells_read u.types u.store) (cells_read v.types v.store) (cells_read w.types w.store) cs ds p.goals q.goals p.passes
        (subst (λ D. Passes (N D) (cells_read v.types v.store) ds q.goals (cells_read w.types w.store)) later.declared q.passes);
    held = q.held;
  }

  pub stopped_on : (ds : List CaseOver) (i : ℕ) → AreStopped v ds i → AreStopped u (cs ++ ds) i
  stopped_on ds i stopped es =
      subst (λ l. IsUnsplit (N (declarations_of u)) (cells_read u.types u.store) l i) (sym (append_assoc cs ds es))
      (p.passes.stops (ds ++ es) i (subst (λ D. IsUnsplit (N D) (cells_read v.types v.store) (ds ++ es) i) later.declared (stopped es)))

-- all cases
pub all_passed : (w v : World) (cs : List CaseOver) (now : List Kept) → ArePassed w [] cs v now → Split (IsNamedFor (declarations_of w)) (cells_read w.types w.store) cs (map (sequent_of v) now)
all_passed w v cs now p =
    subst (Split (IsNamedFor (declarations_of w)) (cells_read w.types w.store) cs) (sym p.listed)
    (passed_all (IsNamedFor (declarations_of w)) (cells_read w.types w.store) cs p.goals (cells_read v.types v.store) p.passes)
