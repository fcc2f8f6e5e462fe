use Rattle.std.proofs.Common.{length, ap, arith, length-append}
use Rattle.ab_store.specs.ab_types.specs.Entries.{first_entries}
use Rattle.ab_store.specs.ab_types.proofs.Sorts.{extended_within}
use Rattle.ab_store.specs.Naming.{IsTypedBy}
use Rattle.ab_logic.specs.declared.world.World.{World}
use Rattle.ab_remains.proofs.Shorter.{typed_shorter, shorter_left, shorter_before}
use Rattle.ab_remains.proofs.remains.drop_types.Given as given
use Rattle.ab_remains.proofs.remains.drop_types.Goals as goal

pub drop_types-requires-clause-begins : goal.drop_types-requires-clause-begins
drop_types-requires-clause-begins g c =
    let e = c.requires.before.0 in
    let begins = c.requires.before.1.begins in
    omega (arith, c.requires.before.3, ap length begins.1, length-append first_entries begins.0)

pub drop_types-requires-clause-enough : goal.drop_types-requires-clause-enough
drop_types-requires-clause-enough g c =
    let e = c.requires.before.0 in
    let types = c.requires.before.4.types in
    let held = c.last_type.ensures.least c.args.world.now.types (record {
      nodes = λ n d low l. c.requires.world.typed.nodes n d l;
      cells = λ n d low l. c.requires.world.typed.cells n d l;
    }) in
    record {
      long = omega (arith, c.requires.before.3, ap length types.1, length-append e.types types.0);
      held = omega (arith, c.later-last.ensures, held, c.requires.named_type);
    }

module _ (g : given.Over) (c : goal.After-drop_types g) where
  abbrev after : World
  after = record { types = c.drop_types.new.self; store = c.args.world.now.store; additions = c.args.world.now.additions }

  typed : IsTypedBy c.drop_types.new.self c.args.world.now.store
  typed =
      let w = c.args.world.now in
      let e = c.requires.before.0 in
      let grows = c.requires.before.4 in
      let dropped = c.drop_types.ensures in
      typed_shorter e w c.args.first.now c.drop_types.new.self c.requires.before.1 c.requires.before.2 grows c.requires.world
      (extended_within e.types c.drop_types.new.self w.types grows.types dropped.loses.front (omega (arith, c.requires.before.3, dropped.enough.long)))
      (c.last_type.ensures.enough w.types c.drop_types.new.self c.requires.world.typed dropped.loses.same_constants (omega (arith, c.later-last.ensures, dropped.enough.held)))

pub returns-clause-left : goal.returns-clause-left
returns-clause-left g c =
    shorter_left c.args.world.now c.drop_types.new.self c.requires.world c.drop_types.ensures.loses (typed g c) c.drop_types.ensures.table.begins

pub returns-clause-enough : goal.returns-clause-enough
returns-clause-enough g c = record {
  long = c.drop_types.ensures.enough.long;
  held = omega (arith, c.later-last.ensures, c.drop_types.ensures.enough.held);
}

pub returns-clause-before : goal.returns-clause-before
returns-clause-before g c = λ e count grows.
    shorter_before c.args.world.now c.drop_types.new.self c.requires.world c.drop_types.ensures.loses (typed g c) c.drop_types.ensures.table.begins e grows
    (omega (arith, count, c.drop_types.ensures.enough.long))

pub returns-clause-least : goal.returns-clause-least
returns-clause-least g c = λ t loses enough behind.
    let held = c.last_type.ensures.least t behind in
    c.drop_types.ensures.least t loses (record { long = enough.long; held = omega (arith, c.later-last.ensures, held, enough.held) })
