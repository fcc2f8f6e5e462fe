use Rattle.std.specs.Prelude.{IsFalse}
use Rattle.std.proofs.Common.{◌≡◌, ℕ, ◌+◌, ◌-◌, ◌<◌, ◌≤◌, ◌++◌, ◌⊎◌, inl, inr, List, Contains, decimal, sym, subst, arith}
use Rattle.std.proofs.lemmas.Bool.{cases_lt}
use Rattle.ab_formulas.specs.NewNames.{IsFreeName, IsNominalName}
use Rattle.ab_logic.specs.Worlds.{declarations_of}
use Rattle.ab_logic.specs.SequentReadings.{sequent_of}
use Rattle.ab_formulas.specs.FreeStems.{taken_names}
use Rattle.ab_free_names.proofs.Free.{is_first, too_many}
use Rattle.ab_equations.proofs.variable.first_free.Goals as goal

pub returns-then-is_free : goal.returns-then-is_free
returns-then-is_free c =
    let D = declarations_of c.args.world.now in
    let s = sequent_of c.args.world.now c.args.sequent.now in
    let le = c.loop-number.auto.number in
    let free = subst (IsFreeName D s) c.in_ok-name.ensures (c.is_free.ensures.free c.if-is_free.true) in
    (c.loop-number.number, is_first D s c.args.stem.now c.args.first c.loop-number.number c.requires.start le c.loop-number.invariant free, c.in_ok-name.ensures)

pub loop-number-preserved : goal.loop-number-preserved
loop-number-preserved c = λ m from below.
    let D = declarations_of c.args.world.now in
    let s = sequent_of c.args.world.now c.args.sequent.now in
    let n = c.loop-number.number in
    let le : c.args.first ≤ n = c.loop-number.auto.number in
    let test = c.loop-number-test.true in
    let small = c.requires.small in
    let here : Contains (taken_names D s) (c.args.stem.now ++ decimal n) =
    subst (Contains (taken_names D s)) c.in_ok-name.ensures (elim (c.is_free.ensures.taken c.if-is_free.false) [
      | inl taken ↦ taken
      | inr nominal ↦ absurd (c.requires.start.no_nominal n le (omega (arith, test, small)) (subst IsNominalName c.in_ok-name.ensures nominal))
    ]) in
    elim (cases_lt m n) [
      | inl l ↦ c.loop-number.invariant m from l
      | inr k ↦ let same : n ≡ m = omega (arith, k, below) in subst (λ j. Contains (taken_names D s) (c.args.stem.now ++ decimal j)) same here
    ]

pub unreachable-requires : goal.unreachable-requires
unreachable-requires c =
    let D = declarations_of c.args.world.now in
    let s = sequent_of c.args.world.now c.args.sequent.now in
    let room = c.requires.room in
    let small = c.requires.small in
    let ended = c.loop-number-test.false in
    too_many (taken_names D s) c.args.stem.now c.args.first (c.args.last + 1 - c.args.first) (omega (arith, room)) (omega (arith, room, small))
    (λ m from below. c.loop-number.invariant m from (omega (arith, ended, room, below)))
