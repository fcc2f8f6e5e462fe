use Rattle.std.proofs.Common.{◌≡◌, List, map, ap, ◌∙◌}
use Rattle.ab_norm.specs.ab_store.specs.declared.node.TermId.{TermId}
use Rattle.ab_term.specs.Terms.{Read}
use Rattle.ab_logic.specs.WorldGrowth.{Grows}
use Rattle.ab_logic.specs.Worlds.{Holds, read}
use Rattle.ab_logic.proofs.Growing.{grows_on, map_same}
use Rattle.ab_theory.specs.Conjuncts.{with_parts}
use Rattle.ab_sequents.specs.Kinds.{marked_by}
use Rattle.ab_rules.specs.SizeSteps.{same_by, smaller_by}
use Rattle.ab_logic.proofs.Declared.{declared_same}
use Rattle.ab_rules.proofs.size_rules.sizes_of.Goals as goal

pub returns-in_err-derived-clause-declared : goal.returns-in_err-derived-clause-declared
returns-in_err-derived-clause-declared c =
    declared_same c.args.world.now c.marked_parts.new.world c.requires.world c.marked_parts.ensures.grows c.marked_parts.ensures.additions c.marked_parts.ensures.types

pub returns-in_err-derived-2-clause-grows : goal.returns-in_err-derived-2-clause-grows
returns-in_err-derived-2-clause-grows c = grows_on _ _ _ c.marked_parts.ensures.grows c.with_parts.ensures.grows

pub returns-in_err-derived-2-clause-declared : goal.returns-in_err-derived-2-clause-declared
returns-in_err-derived-2-clause-declared c =
    declared_same c.args.world.now c.with_parts.new.world c.requires.world (grows_on _ _ _ c.marked_parts.ensures.grows c.with_parts.ensures.grows)
    (c.with_parts.ensures.additions ∙ c.marked_parts.ensures.additions) (c.with_parts.ensures.types ∙ c.marked_parts.ensures.types)

pub returns-in_err-assumed-clause-grows : goal.returns-in_err-assumed-clause-grows
returns-in_err-assumed-clause-grows c = grows_on _ _ _ (grows_on _ _ _ c.marked_parts.ensures.grows c.with_parts.ensures.grows) c.marked_parts-2.ensures.grows

pub returns-in_err-assumed-clause-declared : goal.returns-in_err-assumed-clause-declared
returns-in_err-assumed-clause-declared c =
    declared_same c.args.world.now c.marked_parts-2.new.world c.requires.world
    (grows_on _ _ _ (grows_on _ _ _ c.marked_parts.ensures.grows c.with_parts.ensures.grows) c.marked_parts-2.ensures.grows)
    (c.marked_parts-2.ensures.additions ∙ c.with_parts.ensures.additions ∙ c.marked_parts.ensures.additions)
    (c.marked_parts-2.ensures.types ∙ c.with_parts.ensures.types ∙ c.marked_parts.ensures.types)

pub returns-clause-assumed : goal.returns-clause-assumed
returns-clause-assumed c =
    let w = c.args.world.now in
    let u = c.with_parts.new.world in
    let grown : Grows w u = grows_on _ _ _ c.marked_parts.ensures.grows c.with_parts.ensures.grows in
    let parts = c.args.parts.now in (
      c.in_ok-assumed.ensures.held,
      c.in_ok-assumed.ensures.reads
          ∙ ap (λ m. marked_by c.args.kind c.args.places.now m (map (read u) parts)) c.smaller.ensures
          ∙ ap (marked_by c.args.kind c.args.places.now (smaller_by c.args.kind c.args.level)) (map_same (read u) (read w) (Holds w) grown.readings parts c.requires.parts),
    )

pub returns-clause-derived : goal.returns-clause-derived
returns-clause-derived c =
    let w = c.args.world.now in
    let v = c.marked_parts.new.world in
    let parts = c.args.parts.now in
    let derived = c.in_ok-derived-2.derived in (
      c.marked_parts-2.ensures.grows.ids derived c.in_ok-derived-2.ensures.held,
      c.marked_parts-2.ensures.grows.readings derived c.in_ok-derived-2.ensures.held
          ∙ c.in_ok-derived-2.ensures.reads
          ∙ ap (λ (ts : List TermId). with_parts (map (read v) ts) (read v c.args.formula)) c.as_slice.ensures.value
          ∙ ap (λ (Gs : List Read). with_parts Gs (read v c.args.formula)) c.in_ok-derived.ensures.reads
          ∙ ap (λ m. with_parts (marked_by c.args.kind c.args.places.now m (map (read w) parts)) (read v c.args.formula)) c.same.ensures
          ∙ ap (with_parts (marked_by c.args.kind c.args.places.now (same_by c.args.kind c.args.level) (map (read w) parts))) (c.marked_parts.ensures.grows.readings c.args.formula c.requires.formula),
    )

pub returns-clause-grows : goal.returns-clause-grows
returns-clause-grows c = grows_on _ _ _ (grows_on _ _ _ c.marked_parts.ensures.grows c.with_parts.ensures.grows) c.marked_parts-2.ensures.grows

pub returns-clause-declared : goal.returns-clause-declared
returns-clause-declared c =
    declared_same c.args.world.now c.marked_parts-2.new.world c.requires.world
    (grows_on _ _ _ (grows_on _ _ _ c.marked_parts.ensures.grows c.with_parts.ensures.grows) c.marked_parts-2.ensures.grows)
    (c.marked_parts-2.ensures.additions ∙ c.with_parts.ensures.additions ∙ c.marked_parts.ensures.additions)
    (c.marked_parts-2.ensures.types ∙ c.with_parts.ensures.types ∙ c.marked_parts.ensures.types)
