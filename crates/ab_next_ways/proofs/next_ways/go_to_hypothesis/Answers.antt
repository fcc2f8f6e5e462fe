use Rattle.std.proofs.Common.{◌≡◌, ◌+◌, [], length, None, Some, true, false, sym, ◌∙◌, ap, subst, refl, rules, append-nil}
use Rattle.std.specs.List.{All}
use Rattle.std.specs.Prelude.{slice_get}
use Rattle.std.specs.Option.{option_map}
use Rattle.std.proofs.lemmas.Option.{slice_get_within}
use Rattle.ab_term.specs.Names.{support}
use Rattle.ab_term.proofs.Lists.{Contains-none}
use Rattle.ab_norm.specs.Nominals.{HoldsNominal}
use Rattle.ab_unifiers.specs.Choices.{in_order}
use Rattle.ab_judgements.specs.ab_alternatives.specs.ab_instances.specs.ListReadings.{names_read}
use Rattle.ab_logic.specs.Worlds.{read, declarations_of}
use Rattle.ab_search_trees.specs.Judgements.{is_blind}
use Rattle.ab_search_trees.specs.Ways.{by_hypothesis}
use Rattle.ab_search_ways.specs.GoalReadings.{goal_read}
use Rattle.ab_next_ways.specs.Cursors.{by_hypotheses_from}
use Rattle.ab_next_ways.proofs.Led.{to_end, to_form, to_maps, to_next}
use Rattle.ab_next_ways.proofs.WaysInTurn.{when_blind, when_seen, hypothesis_next}
use Rattle.ab_next_ways.proofs.MapsInTurn.{starts, starts_held}
use Rattle.ab_next_ways.proofs.next_ways.go_to_hypothesis.Goals as goal

pub returns-then-is_blind-clause-passed : goal.returns-then-is_blind-clause-passed
returns-then-is_blind-clause-passed c = λ now ws stands e.
    let w = c.args.world.now in
    let g = goal_read w c.args.base.now c.args.goal.now in
    let none : slice_get g.hypotheses c.args.number ≡ None = sym (c.hypothesis_at.ensures.reads w) ∙ ap (option_map (read w)) c.in_default.is in
    let blind : is_blind now.flexible g.conclusion ≡ true = ap (λ ys. is_blind ys g.conclusion) (sym stands.replaced) ∙ sym (c.is_blind.ensures w.types) ∙ c.if-is_blind.true in
    ([], [], e ∙ when_blind (declarations_of w) now g c.args.number none blind, λ way m. absurd (Contains-none way m), refl)

pub returns-in_default-clause-passed : goal.returns-in_default-clause-passed
returns-in_default-clause-passed c = λ now ws stands e.
    let w = c.args.world.now in
    let g = goal_read w c.args.base.now c.args.goal.now in
    let none : slice_get g.hypotheses c.args.number ≡ None = sym (c.hypothesis_at.ensures.reads w) ∙ ap (option_map (read w)) c.in_default.is in
    let seen : is_blind now.flexible g.conclusion ≡ false = ap (λ ys. is_blind ys g.conclusion) (sym stands.replaced) ∙ sym (c.is_blind.ensures w.types) ∙ c.if-is_blind.false in
    ([], ws, refl, λ way m. absurd (Contains-none way m), e ∙ when_seen (declarations_of w) now g c.args.number none seen)

pub returns-clause-passed : goal.returns-clause-passed
returns-clause-passed c = λ now ws stands e.
    let w = c.args.world.now in
    let g = goal_read w c.args.base.now c.args.goal.now in
    let B = read w c.in-Some.hypothesis in
    let at : slice_get g.hypotheses c.args.number ≡ Some B = sym (c.hypothesis_at.ensures.reads w) ∙ ap (option_map (read w)) c.in-Some.is in
    let all : names_read w.types c.in_ok-names.names.items ≡ in_order (support B) = c.in_ok-names.ensures.list ∙ ap in_order (append-nil (support B)) in
    let same : c.in_ok-first.first.items ≡ c.in_ok-names.names.items = search rules in (
      [],
      ws,
      refl,
      λ way m. absurd (Contains-none way m),
      starts w c.args.base.now c.args.goal.now c.args.number B at c.in_ok-names.names c.in_ok-first.first all (ap (names_read w.types) same ∙ all) (declarations_of w) now ws e,
    )

pub returns-clause-held : goal.returns-clause-held
returns-clause-held c =
    let w = c.args.world.now in
    let g = goal_read w c.args.base.now c.args.goal.now in
    let B = read w c.in-Some.hypothesis in
    let at : slice_get g.hypotheses c.args.number ≡ Some B = sym (c.hypothesis_at.ensures.reads w) ∙ ap (option_map (read w)) c.in-Some.is in
    let all : names_read w.types c.in_ok-names.names.items ≡ in_order (support B) = c.in_ok-names.ensures.list ∙ ap in_order (append-nil (support B)) in
    let same : c.in_ok-first.first.items ≡ c.in_ok-names.names.items = search rules in
    starts_held w c.args.base.now c.args.goal.now c.args.number B at c.in_ok-names.names c.in_ok-first.first all (ap (names_read w.types) same ∙ all) c.in_ok-names.ensures.held (subst (All (HoldsNominal w.types)) (sym same) c.in_ok-names.ensures.held)

pub returns-then-have_different_heads-clause-passed : goal.returns-then-have_different_heads-clause-passed
returns-then-have_different_heads-clause-passed c = λ now ws stands e.
    let w = c.args.world.now in
    let D = declarations_of w in
    let g = goal_read w c.args.base.now c.args.goal.now in
    let B = read w c.in-Some.hypothesis in
    let at : slice_get g.hypotheses c.args.number ≡ Some B = sym (c.hypothesis_at.ensures.reads w) ∙ ap (option_map (read w)) c.in-Some.is in (
      by_hypothesis D now g B,
      by_hypotheses_from D now g (c.args.number + 1),
      e ∙ hypothesis_next D now g c.args.number B at,
      λ way m. c.different_heads_are_apart.ensures D now g B way (sym c.have_different_heads.ensures ∙ c.if-have_different_heads.true) m,
      ap (by_hypotheses_from D now g) (sym c.in_ok-next.ensures),
    )

pub returns-then-is_blind-clause-onward : goal.returns-then-is_blind-clause-onward
returns-then-is_blind-clause-onward c = to_end (length (goal_read c.args.world.now c.args.base.now c.args.goal.now).hypotheses) c.args.number

pub returns-in_default-clause-onward : goal.returns-in_default-clause-onward
returns-in_default-clause-onward c = to_form (length (goal_read c.args.world.now c.args.base.now c.args.goal.now).hypotheses) c.args.number

pub returns-clause-onward : goal.returns-clause-onward
returns-clause-onward c = to_maps (length (goal_read c.args.world.now c.args.base.now c.args.goal.now).hypotheses) c.args.number

pub returns-then-have_different_heads-clause-onward : goal.returns-then-have_different_heads-clause-onward
returns-then-have_different_heads-clause-onward c =
    let w = c.args.world.now in
    let g = goal_read w c.args.base.now c.args.goal.now in
    let B = read w c.in-Some.hypothesis in
    let at : slice_get g.hypotheses c.args.number ≡ Some B = sym (c.hypothesis_at.ensures.reads w) ∙ ap (option_map (read w)) c.in-Some.is in
    to_next (length g.hypotheses) c.args.number c.in_ok-next.field-0 (slice_get_within g.hypotheses c.args.number B at) c.in_ok-next.ensures
