use Rattle.std.proofs.Common.{◌+◌, ◌<◌, ◌≤◌, arith, get_or, refl, sym, ap, ◌∙◌, map, drop, subst}
use Rattle.std.specs.List.{All}
use Rattle.std.specs.Option.{option_map}
use Rattle.std.proofs.lemmas.List.Elements.{All-same}
use Rattle.ab_term.specs.Terms.{terms_of}
use Rattle.ab_store.specs.declared.node.TermId.{TermId}
use Rattle.ab_store.specs.Naming.{NodeIsTyped}
use Rattle.ab_store.specs.Trees.{tree_of, head_reading}
use Rattle.ab_formulas.specs.Stratification.{constants, constants_of_all, own_constant, part_of_first}
use Rattle.ab_typing.specs.DefinitionReadings.{name_of}
use Rattle.ab_typing.specs.JudgedTerms.{first_of}
use Rattle.ab_typing.specs.Parts.{part_of}
use Rattle.ab_typing.proofs.ClauseBounds.{ids_bound, bound_within, below_bound, spine_names}
use Rattle.ab_typing.proofs.Looking.{in_front, behind, spine_constants, constants_here, drop_end}
use Rattle.ab_formulas.proofs.ClausesWalks.{if_ok}
use Rattle.ab_typing.proofs.stratification.+looking.Goals as goal

pub first_in_all-loop-id-init : goal.first_in_all-loop-id-init
first_in_all-loop-id-init t c = record { cleared = c.requires.cleared; so_far = refl }

pub first_in_all-first_in-requires : goal.first_in_all-first_in-requires
first_in_all-first_in-requires t c =
    let below : (get_or c.args.ids.now c.loop-id.id-index (record { 0 = 0 })).0 < ids_bound c.args.ids.now = below_bound c.args.ids.now c.loop-id.id-index (record { 0 = 0 }) (omega arith) in
    (omega (arith, below, c.decreases), (c.requires.store, (c.requires.predicates, (c.requires.ids c.loop-id.id-index (record { 0 = 0 }) (omega arith), c.loop-id.invariant.cleared))))

pub first_in_all-returns-in-Some-clause-first : goal.first_in_all-returns-in-Some-clause-first
first_in_all-returns-in-Some-clause-first t c =
    let types = c.args.types.now in
    let f = tree_of types c.args.store.now in
    let ps = map (name_of types) c.args.predicates.now in
    let i = c.loop-id.id-index in
    let xs = constants (part_of c.loop-id.part) (f (get_or c.args.ids.now i (record { 0 = 0 }))) in
    let ys = constants_of_all (part_of c.args.others) (part_of c.args.others) (terms_of (map f (drop (i + 1) c.args.ids.now))) in
    in_front ps xs ys (first_of ps xs) (name_of types c.in-Some.found) refl (sym c.in_ok-found.ensures.first ∙ ap (option_map (name_of types)) c.in-Some.is)
    ∙ sym (c.loop-id.invariant.so_far ∙ ap (first_of ps) (constants_here f (part_of c.loop-id.part) (part_of c.args.others) c.args.ids.now i (record { 0 = 0 }) (omega arith)))

pub first_in_all-loop-id-preserved : goal.first_in_all-loop-id-preserved
first_in_all-loop-id-preserved t c =
    let types = c.args.types.now in
    let f = tree_of types c.args.store.now in
    let ps = map (name_of types) c.args.predicates.now in
    let i = c.loop-id.id-index in
    let xs = constants (part_of c.loop-id.part) (f (get_or c.args.ids.now i (record { 0 = 0 }))) in
    let ys = constants_of_all (part_of c.args.others) (part_of c.args.others) (terms_of (map f (drop (i + 1) c.args.ids.now))) in
    record {
      cleared = c.in_ok-found.ensures.cleared;
      so_far =
          c.loop-id.invariant.so_far
          ∙ ap (first_of ps) (constants_here f (part_of c.loop-id.part) (part_of c.args.others) c.args.ids.now i (record { 0 = 0 }) (omega arith))
          ∙ behind ps xs ys (first_of ps xs) refl (sym c.in_ok-found.ensures.first ∙ ap (option_map (name_of types)) c.in_default.is);
    }

pub first_in_all-returns-clause-first : goal.first_in_all-returns-clause-first
first_in_all-returns-clause-first t c =
    let types = c.args.types.now in
    let ps = map (name_of types) c.args.predicates.now in
    sym (c.loop-id.invariant.so_far
    ∙ ap (λ xs. first_of ps (constants_of_all (part_of c.loop-id.part) (part_of c.args.others) (terms_of (map (tree_of types c.args.store.now) xs)))) (drop_end c.args.ids.now c.loop-id.id-index c.loop-id-test.false))

pub first_in_node-own_constant-requires-clause-head : goal.first_in_node-own_constant-requires-clause-head
first_in_node-own_constant-requires-clause-head t c =
    subst (NodeIsTyped c.args.types.now) c.in-Spine.is (c.view.ensures.typed c.args.types.now c.requires.store)

pub first_in_node-first_in_all-requires : goal.first_in_node-first_in_all-requires
first_in_node-first_in_all-requires t c =
    let names = spine_names _ _ c.view.result.now c.in-Spine.head c.in-Spine.args c.in-Spine.is c.view.ensures.earlier in
    let here : All (λ r. r.0 < c.args.id.0) c.as_slice.result.now = All-same (λ (r : TermId). r.0 < c.args.id.0) _ _ c.as_slice.ensures names.1 in
    let bound : ids_bound c.as_slice.result.now ≤ c.args.id.0 = bound_within c.args.id.0 _ here in
    (omega (arith, bound, c.decreases), (c.requires.store, (c.requires.predicates, ((λ k d l. omega (arith, here k d l, c.requires.id)), c.requires.cleared))))

pub first_in_node-returns-in_default-clause-first : goal.first_in_node-returns-in_default-clause-first
first_in_node-returns-in_default-clause-first t c =
    let types = c.args.types.now in
    let store = c.args.store.now in
    let ps = map (name_of types) c.args.predicates.now in
    let p = part_of c.args.part in
    let h = head_reading types store c.in-Spine.head in
    let rest = terms_of (map (tree_of types store) c.as_slice.result.now) in
    let own = own_constant p h in
    if_ok c.first_in_all.result (λ found below.
    below
    ∙ ap (λ q. first_of ps (constants_of_all q p rest)) (c.part_of_first-first.ensures types store.cells)
    ∙ sym (ap (first_of ps) (spine_constants ps types store p c.args.id c.view.result.now (c.view.ensures.tree types) c.in-Spine.head c.in-Spine.args c.as_slice.result.now c.in-Spine.is c.as_slice.ensures)
    ∙ behind ps own (constants_of_all (part_of_first p h) p rest) (first_of ps own) refl (sym (c.own_constant.ensures.reads store.cells) ∙ ap (option_map (name_of types)) c.in_default.is))) c.first_in_all.ensures.first
