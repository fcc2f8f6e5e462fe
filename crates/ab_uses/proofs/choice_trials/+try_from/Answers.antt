use Rattle.std.specs.List.{All}
use Rattle.std.proofs.Common.{◌≡◌, [], ◌∷◌, List, take, drop, length, slice_index_or, ◌-◌, take_all, arith, sym, ◌∙◌, ap, subst}
use Rattle.ab_norm.specs.ab_types.specs.Ids.{HoldsType}
use Rattle.ab_norm.specs.ab_types.specs.declared.ids.TypeId.{TypeId}
use Rattle.ab_norm.specs.ab_types.proofs.Entries.{type_still_held}
use Rattle.ab_norm.specs.ab_store.proofs.Results.{if_ok}
use Rattle.ab_norm.specs.Nominals.{nominal_of, HoldsNominal}
use Rattle.ab_norm.specs.declared.nominal.Nominal.{Nominal}
use Rattle.ab_unify.specs.Problem.{cells_read}
use Rattle.ab_alternatives.specs.ab_instances.specs.ListReadings.{names_read}
use Rattle.ab_logic.specs.SequentReadings.{sequent_of}
use Rattle.ab_logic.proofs.Growing.{grows_on}
use Rattle.ab_uses.specs.Questions.{using_at}
use Rattle.ab_uses.specs.ChoiceTrials.{choices_behind, NoneServes, FirstComesOut}
use Rattle.ab_uses.proofs.UseItems.{none_left, first_and_rest, rest_all, rest_shorter}
use Rattle.ab_uses.proofs.First.{none_of_both, none_by, decides_all, one_tried}
use Rattle.ab_uses.proofs.Branches.{branch, branches, branches_more, branches_at, by_branches, candidate_fits, no_further, types_held, begun_held, branch_is, more_fits}
use Rattle.ab_uses.proofs.Tried.{goal_there, posed_there, types_there, comes_here}
use Rattle.ab_uses.proofs.choice_trials.+try_from.Goals as goal

pub with_next-requires-clause-begun : goal.with_next-requires-clause-begun
with_next-requires-clause-begun g t c = begun_held c.args.world.now.types c.loop-a.world.types c.loop-a.invariant.grows.types c.args.begun.now c.requires.begun

pub with_next-requires-clause-a : goal.with_next-requires-clause-a
with_next-requires-clause-a g t c =
    let T = c.args.world.now.types in
    let d : Nominal = record { number = 0; ty = record { 0 = 0 } } in
    let a : Nominal = slice_index_or c.deref-a-items.result.now c.loop-a.a-index d in
    let held : All (HoldsNominal T) c.deref-a-items.result.now = subst (All (HoldsNominal T)) (sym c.deref-a-items.ensures.value) c.in_ok-list-in-len1-up.ensures.held in
    type_still_held T c.loop-a.world.types c.loop-a.invariant.grows.types a.ty (held c.loop-a.a-index d c.loop-a-test.true)

pub try_from-requires : goal.try_from-requires
try_from-requires g t c = λ κs within.
    let w = c.args.world.now in
    let v = c.loop-a.world in
    let grown = c.loop-a.invariant.grows in
    let q = c.args.question.now in
    let aim = c.args.aim.now in
    let b = c.args.begun.now in
    let l = c.in-len1-up.len_at_least in
    let none : TypeId = record { 0 = 0 } in
    let first : TypeId = slice_index_or c.args.types.now 0 none in
    let rest : List TypeId = take (length c.args.types.now - 1) (drop 1 c.args.types.now) in
    let d : Nominal = record { number = 0; ty = record { 0 = 0 } } in
    let items = c.deref-a-items.result.now in
    let i = c.loop-a.a-index in
    let a : Nominal = slice_index_or items i d in
    let held : All (HoldsNominal w.types) items = subst (All (HoldsNominal w.types)) (sym c.deref-a-items.ensures.value) c.in_ok-list-in-len1-up.ensures.held in
    let rest_held : All (HoldsType w.types) rest = rest_all (HoldsType w.types) c.args.types.now l c.requires.types in
    let is : c.args.types.now ≡ first ∷ rest = first_and_rest c.args.types.now none l in
    let more = c.in_ok-more-in-len1-up.ensures in
    let fits = candidate_fits w.types rest b c.args.types.now first is items (ap (names_read w.types) c.deref-a-items.ensures.value ∙ c.in_ok-list-in-len1-up.ensures.list) i d c.loop-a-test.true in (
      omega (arith, rest_shorter c.args.types.now l, c.decreases),
      (
        within,
        (
          goal_there w v grown c.args.goal.now q aim c.requires.goal c.requires.posed,
          (
            posed_there w v grown c.args.goal.now q aim c.requires.goal c.requires.posed,
            (
              types_held w.types v.types grown.types rest rest_held,
              (
                more.begun,
                more_fits w.types v.types grown.types rest b c.in_ok-more-in-len1-up.more a rest_held c.requires.begun (held i d c.loop-a-test.true) more.chosen more.free more.held c.args.types.now first is fits
                    ∙ c.requires.fit
                    ∙ sym (types_there w v grown c.args.goal.now q aim c.requires.goal c.requires.posed),
              ),
            ),
          ),
        ),
      ),
    )

pub returns-in_err-outcome-in-len1-up-clause-grows : goal.returns-in_err-outcome-in-len1-up-clause-grows
returns-in_err-outcome-in-len1-up-clause-grows g t c = grows_on c.args.world.now c.loop-a.world c.try_from.new.world c.loop-a.invariant.grows c.try_from.ensures.grows

pub returns-then-decides-clause-comes_out : goal.returns-then-decides-clause-comes_out
returns-then-decides-clause-comes_out g t c =
    let w = c.args.world.now in
    let v = c.loop-a.world in
    let u = using_at w (sequent_of w c.args.goal.now) c.args.question.now c.args.aim.now in
    let cells = cells_read w.types w.store in
    let b = c.args.begun.now in
    let l = c.in-len1-up.len_at_least in
    let none : TypeId = record { 0 = 0 } in
    let first : TypeId = slice_index_or c.args.types.now 0 none in
    let rest : List TypeId = take (length c.args.types.now - 1) (drop 1 c.args.types.now) in
    let d : Nominal = record { number = 0; ty = record { 0 = 0 } } in
    let items = c.deref-a-items.result.now in
    let i = c.loop-a.a-index in
    let a : Nominal = slice_index_or items i d in
    let held : All (HoldsNominal w.types) items = subst (All (HoldsNominal w.types)) (sym c.deref-a-items.ensures.value) c.in_ok-list-in-len1-up.ensures.held in
    let rest_held : All (HoldsType w.types) rest = rest_all (HoldsType w.types) c.args.types.now l c.requires.types in
    let is : c.args.types.now ≡ first ∷ rest = first_and_rest c.args.types.now none l in
    let more = c.in_ok-more-in-len1-up.ensures in
    let list = by_branches w.types rest b c.args.types.now first is items (ap (names_read w.types) c.deref-a-items.ensures.value ∙ c.in_ok-list-in-len1-up.ensures.list) in
    let here = branch_is w.types v.types c.loop-a.invariant.grows.types rest b c.in_ok-more-in-len1-up.more a rest_held c.requires.begun (held i d c.loop-a-test.true) more.chosen more.free more.held in
    let parted = branches_at w.types rest b items i d c.loop-a-test.true in
    subst (λ k. FirstComesOut cells u k c.try_from.new.world.types c.try_from.new.world.store c.in_ok-outcome-in-len1-up.outcome) (sym (list ∙ parted.1))
    (decides_all cells u c.try_from.new.world.types c.try_from.new.world.store (branches w.types rest b (take i items)) (branch w.types rest b (nominal_of w.types a)) parted.0 c.in_ok-outcome-in-len1-up.outcome
    (sym c.decides.ensures ∙ c.if-decides.true) c.loop-a.invariant.before
    (comes_here w v c.loop-a.invariant.grows c.args.goal.now c.args.question.now c.args.aim.now c.requires.goal c.requires.posed (branch w.types rest b (nominal_of w.types a)) (choices_behind v.types rest c.in_ok-more-in-len1-up.more) here
    c.loop-a.invariant.cells c.try_from.new.world.types c.try_from.new.world.store c.in_ok-outcome-in-len1-up.outcome c.in_ok-outcome-in-len1-up.ensures.comes_out))

pub returns-then-decides-clause-grows : goal.returns-then-decides-clause-grows
returns-then-decides-clause-grows g t c = grows_on c.args.world.now c.loop-a.world c.try_from.new.world c.loop-a.invariant.grows c.try_from.ensures.grows

pub loop-a-preserved : goal.loop-a-preserved
loop-a-preserved g t c =
    let w = c.args.world.now in
    let v = c.loop-a.world in
    let u = using_at w (sequent_of w c.args.goal.now) c.args.question.now c.args.aim.now in
    let cells = cells_read w.types w.store in
    let b = c.args.begun.now in
    let l = c.in-len1-up.len_at_least in
    let rest : List TypeId = take (length c.args.types.now - 1) (drop 1 c.args.types.now) in
    let d : Nominal = record { number = 0; ty = record { 0 = 0 } } in
    let items = c.deref-a-items.result.now in
    let i = c.loop-a.a-index in
    let a : Nominal = slice_index_or items i d in
    let held : All (HoldsNominal w.types) items = subst (All (HoldsNominal w.types)) (sym c.deref-a-items.ensures.value) c.in_ok-list-in-len1-up.ensures.held in
    let rest_held : All (HoldsType w.types) rest = rest_all (HoldsType w.types) c.args.types.now l c.requires.types in
    let more = c.in_ok-more-in-len1-up.ensures in
    let told = c.in_ok-outcome-in-len1-up.ensures in
    let undecided = sym c.decides.ensures ∙ c.if-decides.false in
    let before = c.loop-a.invariant.steps in
    let after = c.try_from.ensures.steps in
    let here = branch_is w.types v.types c.loop-a.invariant.grows.types rest b c.in_ok-more-in-len1-up.more a rest_held c.requires.begun (held i d c.loop-a-test.true) more.chosen more.free more.held in
    record {
      before = subst (NoneServes cells u) (sym (branches_more w.types rest b items i d c.loop-a-test.true))
          (none_of_both cells u (branches w.types rest b (take i items)) (branch w.types rest b (nominal_of w.types a)) c.loop-a.invariant.before
          (none_by cells u c.try_from.new.world.types c.try_from.new.world.store (branch w.types rest b (nominal_of w.types a)) c.in_ok-outcome-in-len1-up.outcome undecided
          (comes_here w v c.loop-a.invariant.grows c.args.goal.now c.args.question.now c.args.aim.now c.requires.goal c.requires.posed (branch w.types rest b (nominal_of w.types a)) (choices_behind v.types rest c.in_ok-more-in-len1-up.more) here
          c.loop-a.invariant.cells c.try_from.new.world.types c.try_from.new.world.store c.in_ok-outcome-in-len1-up.outcome told.comes_out)));
      cells = told.cells undecided ∙ c.loop-a.invariant.cells;
      grows = grows_on w v c.try_from.new.world c.loop-a.invariant.grows c.try_from.ensures.grows;
      declared = c.try_from.ensures.declared ∙ c.loop-a.invariant.declared;
      steps = omega (arith, before, after);
    }

pub returns-in-empty-clause-comes_out : goal.returns-in-empty-clause-comes_out
returns-in-empty-clause-comes_out g t c =
    let w = c.args.world.now in
    let u = using_at w (sequent_of w c.args.goal.now) c.args.question.now c.args.aim.now in
    let cells = cells_read w.types w.store in
    let names = names_read w.types c.args.begun.now.chosen.items in
    let only : names_read w.types c.deref.result.now ∷ [] ≡ choices_behind w.types c.args.types.now c.args.begun.now =
    ap (λ ns. names_read w.types ns ∷ []) c.deref.ensures.value ∙ sym (no_further w.types c.args.types.now c.args.begun.now (none_left c.args.types.now c.in-empty.len_below)) in
    if_ok c.try_choice.result
    (λ o told. subst (λ k. FirstComesOut cells u k c.try_choice.new.world.types c.try_choice.new.world.store o) only
    (one_tried cells u c.try_choice.new.world.types c.try_choice.new.world.store (names_read w.types c.deref.result.now) o told)) c.try_choice.ensures.comes_out

pub returns-after-loop-a-clause-comes_out : goal.returns-after-loop-a-clause-comes_out
returns-after-loop-a-clause-comes_out g t c =
    let w = c.args.world.now in
    let u = using_at w (sequent_of w c.args.goal.now) c.args.question.now c.args.aim.now in
    let cells = cells_read w.types w.store in
    let b = c.args.begun.now in
    let l = c.in-len1-up.len_at_least in
    let none : TypeId = record { 0 = 0 } in
    let first : TypeId = slice_index_or c.args.types.now 0 none in
    let rest : List TypeId = take (length c.args.types.now - 1) (drop 1 c.args.types.now) in
    let items = c.deref-a-items.result.now in
    let is : c.args.types.now ≡ first ∷ rest = first_and_rest c.args.types.now none l in
    let list = by_branches w.types rest b c.args.types.now first is items (ap (names_read w.types) c.deref-a-items.ensures.value ∙ c.in_ok-list-in-len1-up.ensures.list) in
    subst (NoneServes cells u) (ap (branches w.types rest b) (take_all c.loop-a.a-index items c.loop-a-test.false) ∙ sym list) c.loop-a.invariant.before
