use Rattle.std.proofs.Common.{◌≡◌, ◌≢◌, suc, ◌++◌, ◌+◌, arith, length, map, None, Some, sym, ◌∙◌, ap, subst}
use Rattle.std.specs.List.{All}
use Rattle.std.specs.Prelude.{IfSome, AllPairs}
use Rattle.std.specs.Option.{option_map}
use Rattle.std.proofs.lemmas.List.Elements.{All-weaker}
use Rattle.std.proofs.lemmas.Option.{slice_get_within}
use Rattle.ab_term.specs.Terms.{Nominal}
use Rattle.ab_term.specs.Names.{support}
use Rattle.ab_norm.specs.Nominals.{HoldsNominal}
use Rattle.ab_unifiers.specs.Choices.{in_order}
use Rattle.ab_unifiers.proofs.Choosing.{ordered_pairs}
use Rattle.ab_judgements.specs.ab_alternatives.specs.ab_instances.specs.ListReadings.{names_read}
use Rattle.ab_judgements.specs.ab_alternatives.specs.ab_instances.proofs.Made.{names_stay, names_held}
use Rattle.ab_logic.specs.Worlds.{read, declarations_of}
use Rattle.ab_search_ways.specs.GoalReadings.{goal_read, IsFormulaIn, IsAside}
use Rattle.ab_next_ways.specs.Cursors.{IsBehind, by_maps, by_hypotheses_from}
use Rattle.ab_next_ways.specs.declared.cursor.Cursor.TheVariants.{Hypothesis}
use Rattle.ab_next_ways.proofs.Led.{behind_maps}
use Rattle.ab_next_ways.proofs.MapsInTurn.{by_map, made_of, among_maps, next_of, left_none, left_some, held_some}
use Rattle.ab_next_ways.proofs.TargetLists.{targets_right}
use Rattle.ab_next_ways.proofs.next_ways.way_by_map.Goals as goal

pub unreachable-requires : goal.unreachable-requires
unreachable-requires g c =
    let w = c.args.world.now in
    let bad : None ≡ Some c.requires.map.hypothesis = sym (ap (option_map (read w)) c.in_default.is) ∙ c.hypothesis_at.ensures.reads w ∙ c.requires.map.there in
    absurd (cc)

pub way_by_hypothesis-requires-clause-hypothesis : goal.way_by_hypothesis-requires-clause-hypothesis
way_by_hypothesis-requires-clause-hypothesis g c =
    let w = c.args.world.now in
    subst (λ o. IfSome o (IsFormulaIn w)) c.in-Some.is
    (c.hypothesis_at.ensures.formula w (All-weaker (IsAside w c.args.flexible.now) (IsFormulaIn w) (λ t a. a.formula) c.args.base.now c.requires.aside) c.requires.typed.added)

pub way_by_hypothesis-requires-clause-all : goal.way_by_hypothesis-requires-clause-all
way_by_hypothesis-requires-clause-all g c =
    let w = c.args.world.now in
    let h = c.requires.map in
    let one : Some (read w c.in-Some.hypothesis) ≡ Some h.hypothesis = sym (ap (option_map (read w)) c.in-Some.is) ∙ c.hypothesis_at.ensures.reads w ∙ h.there in
    let same : read w c.in-Some.hypothesis ≡ h.hypothesis = cc in
    ap (names_read w.types) c.deref.ensures.value ∙ h.all ∙ ap (λ B. in_order (support B)) (sym same)

pub way_by_hypothesis-requires-clause-names : goal.way_by_hypothesis-requires-clause-names
way_by_hypothesis-requires-clause-names g c = subst (All (HoldsNominal c.args.world.now.types)) (sym c.deref.ensures.value) c.requires.map.named

pub way_by_hypothesis-requires-clause-targets : goal.way_by_hypothesis-requires-clause-targets
way_by_hypothesis-requires-clause-targets g c = c.requires.map.held

pub way_by_hypothesis-requires-clause-different : goal.way_by_hypothesis-requires-clause-different
way_by_hypothesis-requires-clause-different g c =
    let w = c.args.world.now in
    let h = c.requires.map in
    (targets_right (in_order (support h.hypothesis)) (names_read w.types c.args.goal.now.constants.items) (names_read w.types c.args.list.now) (ordered_pairs (support h.hypothesis)) h.among).1

pub way_by_hypothesis-requires-clause-types : goal.way_by_hypothesis-requires-clause-types
way_by_hypothesis-requires-clause-types g c =
    let w = c.args.world.now in
    let h = c.requires.map in
    (targets_right (in_order (support h.hypothesis)) (names_read w.types c.args.goal.now.constants.items) (names_read w.types c.args.list.now) (ordered_pairs (support h.hypothesis)) h.among).0
    ∙ ap (map (λ (a : Nominal). a.type)) (sym (ap (names_read w.types) c.deref.ensures.value ∙ h.all))

pub next_map-requires-clause-names : goal.next_map-requires-clause-names
next_map-requires-clause-names g c =
    let w = c.args.world.now in
    let v = c.way_by_hypothesis.new.world in
    subst (All (HoldsNominal v.types)) (sym c.deref-2.ensures.value) (names_held w.types v.types c.in_ok-way.ensures.grows.types c.args.names.items c.requires.map.named)

pub next_map-requires-clause-now : goal.next_map-requires-clause-now
next_map-requires-clause-now g c =
    let w = c.args.world.now in
    let v = c.way_by_hypothesis.new.world in
    names_held w.types v.types c.in_ok-way.ensures.grows.types c.args.list.now c.requires.map.held

pub next_map-requires-clause-free : goal.next_map-requires-clause-free
next_map-requires-clause-free g c =
    let w = c.args.world.now in
    let v = c.way_by_hypothesis.new.world in
    subst (All (HoldsNominal v.types)) (sym c.deref-3.ensures.value) (names_held w.types v.types c.in_ok-way.ensures.grows.types c.args.goal.now.constants.items c.requires.goal.constants)

pub next_map-requires-clause-once : goal.next_map-requires-clause-once
next_map-requires-clause-once g c =
    let w = c.args.world.now in
    let v = c.way_by_hypothesis.new.world in
    subst (AllPairs (λ (a b : Nominal). a ≢ b)) (sym (ap (names_read v.types) c.deref-3.ensures.value ∙ names_stay w.types v.types c.in_ok-way.ensures.grows.types c.args.goal.now.constants.items c.requires.goal.constants)) c.requires.goal.once

pub returns-in-Some-behind-clause-made : goal.returns-in-Some-behind-clause-made
returns-in-Some-behind-clause-made g c = λ now before after ws stands B at all split e.
    let w = c.args.world.now in
    let v = c.way_by_hypothesis.new.world in
    let base = c.args.base.now in
    let k = c.args.goal.now in
    let G = goal_read w base k in
    let D = declarations_of w in
    let ns = names_read w.types c.args.list.now in
    let next = next_of v.types c.deref-2.result.now c.deref-3.result.now c.args.names.items k.constants.items c.args.list.now c.in_ok-behind.behind c.deref-2.ensures.value c.deref-3.ensures.value c.in_ok-behind.ensures.next in (
      by_map D now G ns B,
      by_maps D now G B after ++ by_hypotheses_from D now G (c.args.number + 1),
      e,
      made_of v base D now G ns (read w c.in-Some.hypothesis) B (sym (ap (option_map (read w)) c.in-Some.is) ∙ c.hypothesis_at.ensures.reads w ∙ at) c.in_ok-way.way (c.in_ok-way.ensures.made base now c.requires.aside stands),
      left_some w v c.in_ok-way.ensures.grows base k c.requires.goal c.args.flexible.now c.requires.aside c.args.number c.args.names c.args.list.now c.requires.map c.in_ok-behind.behind next
          D now before after B at all split c.in-Some-behind.more c.in-Some-behind.is,
      (B, at, among_maps D now G B before after ns split),
    )

pub returns-in-Some-behind-clause-held : goal.returns-in-Some-behind-clause-held
returns-in-Some-behind-clause-held g c =
    let w = c.args.world.now in
    let v = c.way_by_hypothesis.new.world in
    let k = c.args.goal.now in
    let next = next_of v.types c.deref-2.result.now c.deref-3.result.now c.args.names.items k.constants.items c.args.list.now c.in_ok-behind.behind c.deref-2.ensures.value c.deref-3.ensures.value c.in_ok-behind.ensures.next in
    held_some w v c.in_ok-way.ensures.grows c.args.base.now k c.requires.goal c.args.flexible.now c.requires.aside c.args.number c.args.names c.args.list.now c.requires.map c.in_ok-behind.behind next
    c.in-Some-behind.more c.in-Some-behind.is (subst (λ o. IfSome o (λ list. All (HoldsNominal v.types) list.items)) c.in-Some-behind.is c.in_ok-behind.ensures.held)

pub returns-in_ok-next-in-None-clause-made : goal.returns-in_ok-next-in-None-clause-made
returns-in_ok-next-in-None-clause-made g c = λ now before after ws stands B at all split e.
    let w = c.args.world.now in
    let v = c.way_by_hypothesis.new.world in
    let base = c.args.base.now in
    let k = c.args.goal.now in
    let G = goal_read w base k in
    let D = declarations_of w in
    let ns = names_read w.types c.args.list.now in
    let next = next_of v.types c.deref-2.result.now c.deref-3.result.now c.args.names.items k.constants.items c.args.list.now c.in_ok-behind.behind c.deref-2.ensures.value c.deref-3.ensures.value c.in_ok-behind.ensures.next in (
      by_map D now G ns B,
      by_maps D now G B after ++ by_hypotheses_from D now G (c.args.number + 1),
      e,
      made_of v base D now G ns (read w c.in-Some.hypothesis) B (sym (ap (option_map (read w)) c.in-Some.is) ∙ c.hypothesis_at.ensures.reads w ∙ at) c.in_ok-way.way (c.in_ok-way.ensures.made base now c.requires.aside stands),
      left_none w v c.in_ok-way.ensures.grows base k c.requires.goal c.args.flexible.now c.requires.aside c.args.number c.args.names c.args.list.now c.requires.map c.in_ok-behind.behind next
          D now before after B at all split c.in-None.is
          ∙ ap (by_hypotheses_from D now G) (sym c.in_ok-next-in-None.ensures),
      subst (λ n. IsBehind D now G (Hypothesis n) (by_map D now G ns B)) (let next : suc c.args.number ≡ c.args.number + 1 = omega arith in next ∙ sym c.in_ok-next-in-None.ensures) (B, at, among_maps D now G B before after ns split),
    )

pub returns-in_ok-next-in-None-clause-onward : goal.returns-in_ok-next-in-None-clause-onward
returns-in_ok-next-in-None-clause-onward g c =
    let hs = (goal_read c.args.world.now c.args.base.now c.args.goal.now).hypotheses in
    let h = c.requires.map in
    behind_maps (length hs) c.args.number c.in_ok-next-in-None.field-0 (slice_get_within hs c.args.number h.hypothesis h.there) c.in_ok-next-in-None.ensures
