-- A world that is as it was, but for room.
use Rattle.std.specs.Prelude.{◌≡◌, ℕ, List, [], ◌∷◌, ◌++◌, ◌-◌, take, drop}
use Rattle.std.proofs.Common.{refl, sym, ◌∙◌, ap, subst, append-nil}
use Rattle.ab_norm.specs.ab_types.specs.Entries.{Table, IsExtendedBy}
use Rattle.ab_norm.specs.ab_store.specs.Trees.{Contents}
use Rattle.ab_norm.specs.ab_store.specs.Naming.{IsTypedBy}
use Rattle.ab_norm.specs.ab_store.proofs.Growing.{extended_itself}
use Rattle.ab_norm.specs.ab_store.proofs.Marking.{keeps}
use Rattle.ab_norm.specs.ab_store.proofs.Tables.{still_typed}
use Rattle.ab_norm.specs.NodeGrowth.{AddsTypedTerms}
use Rattle.ab_logic.specs.WorldGrowth.{Grows}
use Rattle.ab_logic.specs.Worlds.{declared, declaration_of, declared_from, declarations_of, IsWorld}
use Rattle.ab_logic.specs.declared.world.World.{World}
use Rattle.ab_logic.specs.declared.additions.Added.{Added}
use Rattle.ab_logic.specs.declared.additions.Addition.{Addition}
use Rattle.ab_logic.specs.declared.additions.Addition.TheVariants.{Theorem, Definition, Clause}
use Rattle.ab_logic.proofs.Blocks.{all_kept}
use Rattle.ab_declare.specs.Moments.{IsRestored}

-- a larger table, and no term more
pub adds_nothing : (old new : Table) (s : Contents) → IsExtendedBy old new → IsTypedBy old s → AddsTypedTerms new s s
adds_nothing old new s part typed = record { before = extended_itself s; cells = refl; typed = subst (λ t. IsTypedBy t s) (sym part.1) (still_typed old part.0 s typed) }

-- the same world with other room
abbrev pub with_room : ℕ → World → World
with_room n w = record {
  types = w.types;
  store = record { nodes = w.store.nodes; cells = w.store.cells; bindings = w.store.bindings; room = n };
  additions = w.additions;
}

pub restored_is : (old new : World) → IsRestored old new → new ≡ with_room new.store.room old
restored_is old new r = rw (sym r.types, sym r.nodes, sym r.cells, sym r.bindings, sym r.additions) refl

same_addition : (n : ℕ) (w : World) (what : Addition) → declaration_of (with_room n w) what ≡ declaration_of w what
same_addition n w (Theorem e) = refl
same_addition n w (Definition b) = refl
same_addition n w (Clause c h) = refl

same_declared : (n : ℕ) (w : World) (done : ℕ) (xs : List Added) → declared_from (with_room n w) done xs ≡ declared_from w done xs
same_declared n w done [] = refl
same_declared n w done (a ∷ xs) =
    let front = take (a.before - done) (drop done (declared w.types)) in
    ap (λ d. front ++ d ∷ declared_from (with_room n w) a.before xs) (same_addition n w a.what)
    ∙ ap (λ ds. front ++ declaration_of w a.what ∷ ds) (same_declared n w a.before xs)

room_declares : (n : ℕ) (w : World) → declarations_of (with_room n w) ≡ declarations_of w
room_declares n w = same_declared n w 0 w.additions

room_grows : (n : ℕ) (w : World) → IsWorld w → Grows w (with_room n w)
room_grows n w is =
    let D = room_declares n w in
    record {
      ids = λ t h. h;
      readings = λ t h. refl;
      cell_ids = λ c h. h;
      cells = λ c h. refl;
      types = ([], sym (append-nil w.types));
      marks = λ m has. keeps w.store (with_room n w).store m has has.bindings has.nodes has.cells refl refl refl;
      additions = ([], sym (append-nil w.additions));
      declarations = ([], D ∙ sym (append-nil (declarations_of w)));
      world = record {
        begins = is.begins;
        typed = record { earlier = is.typed.earlier; nodes = is.typed.nodes; cells = is.typed.cells; bindings = is.typed.bindings };
        unbound = is.unbound;
        additions = all_kept w (with_room n w) [] (sym (append-nil w.types)) (λ t h. h) (λ t h. refl) (λ c h. h) (λ c h. refl) w.additions is.additions;
        order = is.order;
        sentences = rw D is.sentences;
        definitions = rw D is.definitions;
      };
    }

-- a restored world reads as before, and declares the same
pub restored_grows : (old new : World) → IsWorld old → IsRestored old new → Grows old new
restored_grows old new is r = subst (Grows old) (sym (restored_is old new r)) (room_grows new.store.room old is)

pub restored_declares : (old new : World) → IsRestored old new → declarations_of new ≡ declarations_of old
restored_declares old new r = ap declarations_of (restored_is old new r) ∙ room_declares new.store.room old

pub restored_itself : (w : World) → IsRestored w w
restored_itself w = record { types = refl; nodes = refl; cells = refl; bindings = refl; additions = refl }
