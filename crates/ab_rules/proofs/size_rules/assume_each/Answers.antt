use Rattle.std.specs.Prelude.{drop}
use Rattle.std.proofs.Common.{◌≡◌, [], ◌+◌, ◌<◌, ◌≤◌, length, get_or, map, refl, sym, arith}
use Rattle.ab_equations.specs.declared.label.Label.TheVariants.{Auto}
use Rattle.ab_logic.specs.SequentReadings.{sequent_of}
use Rattle.ab_logic.specs.Worlds.{read}
use Rattle.ab_rules.specs.RuleAnswers.{label_of}
use Rattle.ab_rules.proofs.SizeRows.{next_item, none_is_left, too_many, too_few, nameless, assumes_more, assumes_not_more}
use Rattle.ab_rules.proofs.size_rules.assume_each.Goals as goal

pub returns-then-formulas-index-clause-assumes : goal.returns-then-formulas-index-clause-assumes
returns-then-formulas-index-clause-assumes c w =
    let i = c.loop-index.index in
    let ls = map label_of c.args.given.now in
    let Fs = map (read w) c.args.formulas.now in
    let l : i < length c.args.given.now = omega arith in
    let m : length c.args.formulas.now ≤ i = omega arith in
    c.loop-index.invariant.assumes_not w
    (too_many (drop i ls) (drop i Fs) (sequent_of w c.loop-index.goal) _ (drop (i + 1) ls) (read w (record { 0 = 0 })) [] (next_item label_of c.args.given.now i _ Auto l refl) (none_is_left (read w) c.args.formulas.now i m))

pub returns-then-given-formulas-clause-assumes : goal.returns-then-given-formulas-clause-assumes
returns-then-given-formulas-clause-assumes c w =
    let i = c.loop-index.index in
    let ls = map label_of c.args.given.now in
    let Fs = map (read w) c.args.formulas.now in
    let l : length c.args.given.now ≤ i = omega arith in
    let m : i < length c.args.formulas.now = omega arith in
    c.loop-index.invariant.assumes_not w
    (too_few (drop i ls) (drop i Fs) (sequent_of w c.loop-index.goal) (label_of Auto) [] _ (drop (i + 1) Fs) (none_is_left label_of c.args.given.now i l) (next_item (read w) c.args.formulas.now i _ (record { 0 = 0 }) m refl))

pub returns-in_default-clause-assumes : goal.returns-in_default-clause-assumes
returns-in_default-clause-assumes c w =
    let i = c.loop-index.index in
    let ls = map label_of c.args.given.now in
    let Fs = map (read w) c.args.formulas.now in
    let g = c.index-given-index.result in
    let l : i < length c.args.given.now = omega arith in
    let m : i < length c.args.formulas.now = omega arith in
    c.loop-index.invariant.assumes_not w
    (nameless (drop i ls) (drop i Fs) (sequent_of w c.loop-index.goal) (label_of g) (drop (i + 1) ls) _ (drop (i + 1) Fs)
    (next_item label_of c.args.given.now i g g l c.index-given-index.is) (next_item (read w) c.args.formulas.now i _ (record { 0 = 0 }) m refl)
    (rw c.in_default.is at (c.in_ok-named.ensures.named w)))

pub loop-index-preserved : goal.loop-index-preserved
loop-index-preserved c =
    let i = c.loop-index.index in
    let ls = map label_of c.args.given.now in
    let g = c.index-given-index.result in
    let t = get_or c.args.formulas.now i (record { 0 = 0 }) in
    let l : i < length c.args.given.now = omega arith in
    let m : i < length c.args.formulas.now = omega arith in
    let first = next_item label_of c.args.given.now i g g l c.index-given-index.is in
    record {
      assumes = λ w u rest.
          let Fs = map (read w) c.args.formulas.now in
          let is = rw c.in-Some.is at (c.in_ok-named.ensures.named w) in
          c.loop-index.invariant.assumes w u
          (assumes_more (drop i ls) (drop i Fs) (sequent_of w c.loop-index.goal) (label_of g) (drop (i + 1) ls) (read w t) (drop (i + 1) Fs) first (next_item (read w) c.args.formulas.now i t (record { 0 = 0 }) m refl)
          c.in-Some.named.name (sequent_of w c.in-Some.named.sequent) (sequent_of w c.in_ok-goal.goal) is (c.in_ok-goal.ensures.reads w) u rest);
      assumes_not = λ w rest.
          let Fs = map (read w) c.args.formulas.now in
          let is = rw c.in-Some.is at (c.in_ok-named.ensures.named w) in
          c.loop-index.invariant.assumes_not w
          (assumes_not_more (drop i ls) (drop i Fs) (sequent_of w c.loop-index.goal) (label_of g) (drop (i + 1) ls) (read w t) (drop (i + 1) Fs) first (next_item (read w) c.args.formulas.now i t (record { 0 = 0 }) m refl)
          c.in-Some.named.name (sequent_of w c.in-Some.named.sequent) (sequent_of w c.in_ok-goal.goal) is (c.in_ok-goal.ensures.reads w) rest);
      held = λ w all held.
          let kept = rw c.in-Some.is at (c.in_ok-named.ensures.held w (c.loop-index.invariant.held w all held)) in
          c.in_ok-goal.ensures.held w kept (all i (record { 0 = 0 }) m);
    }
