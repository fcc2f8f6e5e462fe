-- A WORLD THAT IS CUT BACK by a mark is what it was at the mark, but for types and room.
use Rattle.std.proofs.Common.{◌≡◌, List, [], ◌∷◌, ◌++◌, length, take, refl, sym, ◌∙◌, ap, arith, append-nil, length-append, take_all}
use Rattle.ab_norm.specs.ab_types.specs.Entries.{Table, a_kind, a_type, a_constant, kinds, constants}
use Rattle.ab_norm.specs.ab_types.proofs.Entries.{kinds-append, constants-append}
use Rattle.ab_norm.specs.ab_store.specs.declared.mark.Mark.{Mark}
use Rattle.ab_norm.specs.ab_store.specs.Marks.{HasMark, KeepsMark, IsNoLater, at_mark}
use Rattle.ab_norm.specs.ab_store.specs.Naming.{IsTypedBy}
use Rattle.ab_norm.specs.ab_store.specs.Trees.{Contents}
use Rattle.ab_norm.specs.ab_store.proofs.Fronts.{front_take}
use Rattle.ab_norm.specs.ab_store.proofs.Growing.{extended_itself}
use Rattle.ab_norm.specs.ab_store.proofs.Marking.{typed_at_mark}
use Rattle.ab_unify.specs.Problem.{cells_read}
use Rattle.ab_unify.specs.StoreChanges.{Grows}
use Rattle.ab_unify.specs.UnifyAnswers as answers
use Rattle.ab_unify.proofs.Cut.{cut_as_before, cut_grows}
use Rattle.ab_next_ways.specs.ab_judgements.specs.ab_alternatives.specs.ab_equations.proofs.Going.{world_meanwhile}
use Rattle.ab_next_ways.specs.ab_judgements.specs.ab_alternatives.specs.ab_equations.proofs.Restored.{came_back, declarations_same, same_cells_read}
use Rattle.ab_next_ways.specs.ab_judgements.specs.ab_alternatives.specs.ab_instances.proofs.Made.{typed_with}
use Rattle.ab_logic.specs.WorldGrowth as world
use Rattle.ab_logic.specs.Worlds.{IsWorld, declared, declared_from, declarations_of, count_added}
use Rattle.ab_logic.specs.declared.world.World.{World}
use Rattle.ab_logic.proofs.Blocks.{declared_more}
use Rattle.ab_logic.proofs.Counting.{as_many}
use Rattle.ab_logic.proofs.Growing.{grows_not, grows_on}
use Rattle.ab_next_ways.specs.ab_search_ways.proofs.LaterWorlds.{both_grown, both_told}
use Rattle.ab_walk.specs.Standing.{IsLater, IsAgain}
use Rattle.ab_walk.specs.Stacks.{IsBefore}

none_more : {X : Type 0} (xs ys : List X) → length (xs ++ ys) ≡ length xs → ys ≡ []
none_more xs [] e = refl
none_more xs (y ∷ ys) e = let long = length-append xs (y ∷ ys) in absurd (omega (arith, long, e))

no_kinds : (more : Table) → declared more ≡ [] → kinds more ≡ []
no_kinds [] e = refl
no_kinds (a_kind n ∷ more) e = absurd (cc)
no_kinds (a_type A ∷ more) e = no_kinds more e
no_kinds (a_constant c ∷ more) e = absurd (cc)

no_constants : (more : Table) → declared more ≡ [] → constants more ≡ []
no_constants [] e = refl
no_constants (a_kind n ∷ more) e = absurd (cc)
no_constants (a_type A ∷ more) e = no_constants more e
no_constants (a_constant c ∷ more) e = absurd (cc)

-- later worlds, one after another

pub later_itself : (w : World) → IsWorld w → IsLater w w
later_itself w is = record { grows = grows_not w is; declared = refl }

pub later_on : (u v w : World) → IsLater u v → IsLater v w → IsLater u w
later_on u v w a b = record { grows = grows_on u v w a.grows b.grows; declared = b.declared ∙ a.declared }

pub again_itself : (w : World) → IsWorld w → IsAgain w w
again_itself w is = record { later = later_itself w is; same = (refl, refl, refl) }

pub again_on : (u v w : World) → IsAgain u v → IsAgain v w → IsAgain u w
again_on u v w a b = record { later = later_on u v w a.later b.later; same = (b.same.0 ∙ a.same.0, b.same.1 ∙ a.same.1, b.same.2 ∙ a.same.2) }

pub cells_again : (u w : World) → IsWorld u → IsAgain u w → cells_read w.types w.store ≡ cells_read u.types u.store
cells_again u w is a = same_cells_read u.types w.types u.store w.store is.typed a.later.grows.types a.same.1

pub before_on : (u v w : World) (m : Mark) → IsBefore u m v → IsLater v w → IsBefore u m w
before_on u v w m b l = record { world = b.world; later = later_on u v w b.later l; has = b.has; bindings = b.bindings; nodes = b.nodes; cells = b.cells }

module _ (u w : World) (m : Mark) (b : IsBefore u m w) where
  grows : world.Grows u w
  grows = b.later.grows

  -- the second has no addition and no declaration more

  additions : w.additions ≡ u.additions
  additions =
      let as_long : length w.additions ≡ length u.additions = sym (as_many w 0 w.additions) ∙ ap count_added b.later.declared ∙ as_many u 0 u.additions in
      grows.additions.1 ∙ ap (λ l. u.additions ++ l) (none_more u.additions grows.additions.0 (ap length (sym grows.additions.1) ∙ as_long)) ∙ append-nil u.additions

  no_declaration : declared grows.types.0 ≡ []
  no_declaration =
      none_more (declarations_of u) (declared grows.types.0)
      (ap length (sym (declared_more u w grows.types.0 grows.types.1 grows.ids grows.readings grows.cell_ids grows.cells 0 u.additions b.world.order b.world.additions) ∙ ap (declared_from w 0) (sym additions) ∙ b.later.declared))

  same_kinds : kinds w.types ≡ kinds u.types
  same_kinds = ap kinds grows.types.1 ∙ kinds-append u.types grows.types.0 ∙ ap (λ l. kinds u.types ++ l) (no_kinds grows.types.0 no_declaration) ∙ append-nil (kinds u.types)

  same_constants : constants w.types ≡ constants u.types
  same_constants = ap constants grows.types.1 ∙ constants-append u.types grows.types.0 ∙ ap (λ l. constants u.types ++ l) (no_constants grows.types.0 no_declaration) ∙ append-nil (constants u.types)

  front_cells : u.store.cells ≡ take m.cells w.store.cells
  front_cells = sym (ap (λ (s : Contents). s.cells) (grows.marks m b.has).same ∙ take_all m.cells u.store.cells (omega (arith, b.cells)))

  store_grows : Grows u.types u.store w.types w.store
  store_grows = record {
    table = grows.types;
    kinds = same_kinds;
    constants = same_constants;
    typed = grows.world.typed;
    trees = λ t h. (grows.ids t h, grows.readings t h);
    cells = λ c h. (grows.cell_ids c h, sym ((front_take m.cells u.store.cells w.store.cells front_cells).alike c.0 _ h));
    marks = grows.marks;
  }

  -- CUT BACK
  module _ (X : Contents) (cut_bindings : X.bindings ≡ take m.bindings w.store.bindings) (cut_nodes : X.nodes ≡ take m.nodes w.store.nodes) (cut_cells : X.cells ≡ take m.cells w.store.cells)
      (typed : (types : Table) → IsTypedBy types (at_mark w.store m) → IsTypedBy types X) (marks : (k : Mark) → HasMark w.store k → IsNoLater k m → KeepsMark w.store X k) where
    abbrev pub cut : World
    cut = record { types = w.types; store = X; additions = w.additions }

    same : answers.IsAsBefore u.store X
    same = cut_as_before u.types w.types u.store w.store X m b.world.typed store_grows b.has b.bindings b.nodes b.cells cut_bindings cut_nodes cut_cells

    grown : Grows u.types u.store w.types X
    grown = cut_grows u.types w.types u.store w.store X m b.world.typed store_grows b.has b.bindings b.nodes b.cells cut_bindings cut_nodes cut_cells (typed_at_mark u.store m b.has) typed marks

    pub cut_again : IsAgain u cut
    cut_again = record {
      later = record {
        grows = came_back u cut b.world (record { grows = grown; bindings = same.2; additions = additions });
        declared = declarations_same u cut (world_meanwhile u b.world) grown additions;
      };
      same = same;
    }

  -- the first with the types of the second
  abbrev pub with_types : World
  with_types = record { types = w.types; store = u.store; additions = u.additions }

  still : IsTypedBy w.types u.store
  still = typed_with u.types w.types u.store grows.types b.world.typed

  pub types_again : IsAgain u with_types
  types_again = record {
    later = record {
      grows = both_grown u b.world w.types u.store grows.types same_kinds same_constants (extended_itself u.store) still;
      declared = both_told u b.world w.types u.store grows.types same_kinds same_constants (extended_itself u.store) still;
    };
    same = (refl, refl, refl);
  }

  pub types_before : IsBefore with_types m w
  types_before = record {
    world = types_again.later.grows.world;
    later = record {
      grows = record {
        ids = grows.ids;
        readings = λ t h. grows.readings t h ∙ sym (types_again.later.grows.readings t h);
        cell_ids = grows.cell_ids;
        cells = λ c h. grows.cells c h ∙ sym (types_again.later.grows.cells c h);
        types = ([], sym (append-nil w.types));
        marks = grows.marks;
        additions = grows.additions;
        declarations = ([], b.later.declared ∙ sym types_again.later.declared ∙ sym (append-nil (declarations_of with_types)));
        world = grows.world;
      };
      declared = b.later.declared ∙ sym types_again.later.declared;
    };
    has = b.has;
    bindings = b.bindings;
    nodes = b.nodes;
    cells = b.cells;
  }
