-- New variables that stand for cells, one after another.
use Rattle.std.specs.List.{All}
use Rattle.std.specs.Prelude.{AllPairs}
use Rattle.std.proofs.Common.{◌≡◌, ◌≢◌, ℕ, zero, suc, ◌+◌, ◌≤◌, ◌<◌, List, [], ◌∷◌, ◌++◌, map, length, take, get_or, refl, sym, ◌∙◌, ap, subst, arith, append_assoc, append-nil, length-take-le}
use Rattle.std.proofs.lemmas.List.{map_more, length-map, get_or-take}
use Rattle.std.proofs.lemmas.List.Elements.{All-map, All-contains, Contains-push}
use Rattle.ab_norm.specs.ab_store.proofs.Fronts.{All-front, front_push}
use Rattle.ab_norm.specs.ab_types.specs.Entries.{Table}
use Rattle.ab_norm.specs.ab_store.specs.declared.node.CellId.{CellId}
use Rattle.ab_norm.specs.ab_store.specs.declared.node.CellEntry.{CellEntry}
use Rattle.ab_norm.specs.ab_store.specs.Reading.{bound_in as first_bound, pairs}
use Rattle.ab_norm.specs.ab_store.specs.Growth.{IsExtendedBy}
use Rattle.ab_norm.specs.ab_store.specs.Bindings.{IsUnbound}
use Rattle.ab_unify.specs.Problem.{cell_read, cells_read}
use Rattle.ab_formulas.specs.Sequents.{Variable, in_terms, over}
use Rattle.ab_logic.specs.Worlds.{HoldsCell, variable_of, declarations_of}
use Rattle.ab_logic.specs.SequentReadings.{sequent_of, HoldsSequent}
use Rattle.ab_formulas.specs.NewNames.{IsNamedFor}
use Rattle.ab_logic.specs.declared.world.World.{World}
use Rattle.ab_logic.specs.declared.sequent.Sequent.{Sequent as Kept}
use Rattle.ab_theory.specs.Equations.{variable_term, renaming}
use Rattle.ab_theory.specs.Splits.{cell_for}
use Rattle.ab_equations.specs.Meanwhile.{IsMeanwhile, GoesOn, bound_in, over_all, StandsFor, StandForAll}
use Rattle.ab_equations.proofs.Going.{goes_on, same_declarations, goes_cells, goes_cell_ids, same_goal, still_goal}
use Rattle.ab_equations.proofs.NewVariables.{pairs_extended, over_one_more, over_none, named_one_more, named_length, renaming_one_more}

any_default : {X : Type 0} (xs : List X) (i : ℕ) (d e : X) → i < length xs → get_or xs i d ≡ get_or xs i e
any_default [] i d e l = absurd (omega (arith, l))
any_default (x ∷ xs) zero d e l = refl
any_default (x ∷ xs) (suc i) d e l = any_default xs i d e (omega (arith, l))

-- a list that is longer by one
longer : {X : Type 0} (old new : List X) (d : X) → length new ≡ length old + 1 → ((i : ℕ) → i < length old → get_or new i d ≡ get_or old i d) → new ≡ old ++ get_or new (length old) d ∷ []
longer [] [] d e same = absurd (omega (arith, e))
longer [] (y ∷ []) d e same = refl
longer [] (y ∷ z ∷ zs) d e same = absurd (omega (arith, e))
longer (x ∷ xs) [] d e same = absurd (omega (arith, e))
longer (x ∷ xs) (y ∷ ys) d e same =
    ap (λ v. v ∷ ys) (same 0 (omega arith)) ∙ ap (λ l. x ∷ l) (longer xs ys d (omega (arith, e)) (λ i l. same (suc i) (omega (arith, l))))

mapped_one_more : (ys : List Variable) (y : Variable) → map cell_for (ys ++ y ∷ []) ≡ map cell_for ys ++ cell_for y ∷ []
mapped_one_more [] y = refl
mapped_one_more (z ∷ zs) y = ap (λ l. cell_for z ∷ l) (mapped_one_more zs y)

mapped_behind : (types : Table) (cs : List CellEntry) (c : CellEntry) → map (cell_read types) (cs ++ c ∷ []) ≡ map (cell_read types) cs ++ cell_read types c ∷ []
mapped_behind types [] c = refl
mapped_behind types (d ∷ cs) c = ap (λ l. cell_read types d ∷ l) (mapped_behind types cs c)

-- a world with one cell more
one_more_cell : (w v : World) (new : CellId) → GoesOn w v → new.0 ≡ length w.store.cells → length v.store.cells ≡ length w.store.cells + 1
    → cells_read v.types v.store ≡ cells_read w.types w.store ++ cell_for (variable_of v new) ∷ []
one_more_cell w v new goes number one =
    let none : CellEntry = record { hint = []; ty = record { 0 = 0 } } in
    let listed = longer w.store.cells v.store.cells none one (λ i l. (goes.grows.cells (record { 0 = i }) l).1) in
    ap (map (cell_read v.types)) listed
    ∙ mapped_behind v.types w.store.cells (get_or v.store.cells (length w.store.cells) none)
    ∙ ap (λ T. map (cell_read T) w.store.cells ++ cell_read v.types (get_or v.store.cells (length w.store.cells) none) ∷ []) goes.types
    ∙ ap (λ n. cells_read w.types w.store ++ cell_read v.types (get_or v.store.cells n none) ∷ []) (sym number)

-- new variables stand for the first i of the cells
pub record Stood (u : World) (cells : List CellId) (i : ℕ) (s : Kept) (w : World) (g : Kept) : Type 0 where
  pub goes : GoesOn u w
  pub stand : StandForAll u (map (variable_of u) (take i cells)) s w g
  pub count : length w.store.cells ≡ length u.store.cells + i
  pub room : length cells ≤ i + w.store.room

pub stood_none : (u w : World) (cells : List CellId) (s : Kept) → IsMeanwhile u → GoesOn u w → HoldsSequent u s → IsExtendedBy u.store w.store → w.store.cells ≡ u.store.cells → length cells ≤ w.store.room → Stood u cells 0 s w s
stood_none u w cells s is goes held before same room = record {
  goes = goes;
  stand = record {
    new = [];
    named = tt;
    held = still_goal u w goes s held;
    goal = same_goal u w goes s held ∙ sym (over_none (sequent_of u s));
    pairs =
        ap (λ T. pairs T w.store) goes.types
        ∙ pairs_extended u.types u.store w.store is.typed before
        ∙ sym (append-nil (bound_in u));
    cells = ap (map (cell_read w.types)) same ∙ ap (λ T. map (cell_read T) u.store.cells) goes.types ∙ sym (append-nil (cells_read u.types u.store));
    others = λ d all. ap (λ bs. first_bound bs d) before.bindings;
  };
  count = let size = ap length same in omega (arith, size);
  room = omega (arith, room);
}

module _ (u w : World) (cells : List CellId) (i : ℕ) (d : CellId) (s g : Kept) (is : IsMeanwhile u) (so_far : Stood u cells i s w g) (l : i < length cells) (held : All (HoldsCell u) cells) where
  abbrev c : CellId
  c = get_or cells i d

  -- the next cell is there, and unbound still
  pub next_held : HoldsCell w c
  next_held = goes_cell_ids u w so_far.goes c (held i d l)

  earlier : AllPairs (λ (a b : CellId). a.0 < b.0) cells → All (λ (x : Variable). c.0 ≢ x.number) (map (variable_of u) (take i cells))
  earlier in_age =
      All-map (λ (x : Variable). c.0 ≢ x.number) (variable_of u) (take i cells)
      (λ j e m same.
      let long : length (take i cells) ≡ i = length-take-le i cells (omega (arith, l)) in
      let low : j < i = omega (arith, m, long) in
      let less = in_age j i e low l in
      let first : (get_or (take i cells) j e).0 ≡ (get_or cells j e).0 = ap (λ (k : CellId). k.0) (get_or-take i cells j e low) in
      let next : (get_or cells i e).0 ≡ c.0 = ap (λ (k : CellId). k.0) (any_default cells i e d l) in
      omega (arith, less, first, next, same))

  pub next_unbound : AllPairs (λ (a b : CellId). a.0 < b.0) cells → All (IsUnbound u.store) cells → IsUnbound w.store c
  next_unbound in_age all = so_far.stand.others c (earlier in_age) ∙ all i d l

  pub next_room : 0 < w.store.room
  next_room = let room = so_far.room in omega (arith, room, l)

  pub stood_more : (v : World) (h : Kept) → GoesOn w v → StandsFor w c g v h → Stood u cells (i + 1) s v h
  stood_more v h goes one =
      let first = so_far.stand in
      let x = variable_of u c in
      let y = variable_of v one.new in
      let xs = map (variable_of u) (take i cells) in
      let same : variable_of w c ≡ x = goes_cells u w so_far.goes c (held i d l) in
      let D = same_declarations u w so_far.goes is in
      let count : length xs ≡ i = length-map (take i cells) (variable_of u) ∙ length-take-le i cells (omega (arith, l)) in
      let long = named_length (IsNamedFor (declarations_of u)) (sequent_of u s) (length u.store.cells) xs first.new first.named in
      let name : IsNamedFor (declarations_of u) (over_all first.new (sequent_of u s)) x.name y.name =
      subst (λ k. IsNamedFor (declarations_of u) k x.name y.name) first.goal
      (subst (λ E. IsNamedFor E (sequent_of w g) x.name y.name) D
      (subst (λ (z : Variable). IsNamedFor (declarations_of w) (sequent_of w g) z.name y.name) same one.named)) in
      let cells_more : map (variable_of u) (take (i + 1) cells) ≡ xs ++ x ∷ [] = map_more (variable_of u) cells i d l in
      record {
        goes = goes_on u w v so_far.goes goes;
        stand = subst (λ zs. StandForAll u zs s v h) (sym cells_more) (record {
          new = first.new ++ y ∷ [];
          named = named_one_more (IsNamedFor (declarations_of u)) (sequent_of u s) (length u.store.cells) xs first.new x y first.named
              (let number = one.number in let size = so_far.count in omega (arith, number, size, count))
              (one.type ∙ ap (λ (z : Variable). z.type) same) name;
          held = one.held;
          goal = one.goal ∙ ap (over y) first.goal ∙ over_one_more y first.new (sequent_of u s);
          pairs =
              one.pairs
              ∙ ap (λ (z : Variable). bound_in w ++ (in_terms z, variable_term y) ∷ []) same
              ∙ ap (λ ps. ps ++ (in_terms x, variable_term y) ∷ []) first.pairs
              ∙ append_assoc (bound_in u) (renaming xs first.new) ((in_terms x, variable_term y) ∷ [])
              ∙ ap (λ ps. bound_in u ++ ps) (sym (renaming_one_more xs first.new x y long));
          cells =
              one_more_cell w v one.new goes one.number one.one
              ∙ ap (λ l. l ++ cell_for y ∷ []) first.cells
              ∙ append_assoc (cells_read u.types u.store) (map cell_for first.new) (cell_for y ∷ [])
              ∙ ap (λ l. cells_read u.types u.store ++ l) (sym (mapped_one_more first.new y));
          others = λ e all.
              one.others e (All-contains (λ (z : Variable). e.0 ≢ z.number) (xs ++ x ∷ []) x all (Contains-push xs x))
              ∙ first.others e (All-front (λ (z : Variable). e.0 ≢ z.number) xs (xs ++ x ∷ []) (front_push xs x) all);
        });
        count = let size = so_far.count in let more = one.one in omega (arith, size, more);
        room = let room = so_far.room in let less = one.room in omega (arith, room, less);
      }
