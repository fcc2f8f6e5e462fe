use Rattle.std.specs.Prelude.{Err}
use Rattle.std.proofs.Common.{◌≡◌, List, ℕ, rules, sym, subst}
use Rattle.ab_logic.specs.Worlds.{read}
use Rattle.ab_equations.specs.Labels.{label_of}
use Rattle.ab_steps.proofs.Following.{follows_on}
use Rattle.ab_hypothesis.specs.OwnNames.{IsOwn}
use Rattle.ab_hypothesis.specs.declared.stop.Stop.{Stop}
use Rattle.ab_hypothesis.proofs.Moves.{on_ok}
use Rattle.ab_hypothesis.proofs.Taking.{OpensAt, StopsAt, begun_there, either_later, first_there, second_there, first_stops, second_opened, second_stops}
use Rattle.ab_hypothesis.proofs.cases.take_or.Goals as goal

pub split_own-requires-clause-there : goal.split_own-requires-clause-there
split_own-requires-clause-there g c =
    let w = c.args.world.now in
    let v = c.begin.new.world in
    let f = c.args.formula in
    begun_there w v c.args.proof.now c.begin.new.proof c.args.keep c.args.name.now c.in_ok-own.own (read w f) (read v f)
    (c.begin.ensures.follows.grows.readings f c.requires.formula) c.requires.open c.in_ok-own.ensures.begun

pub split_own-requires-clause-form : goal.split_own-requires-clause-form
split_own-requires-clause-form g c =
    either_later c.args.world.now c.begin.new.world c.begin.ensures.follows.grows c.args.formula c.args.parts.0 c.args.parts.1 c.requires.formula c.requires.parts.0 c.requires.parts.1 c.requires.form

pub returns-in_err-split_own-clause-follows : goal.returns-in_err-split_own-clause-follows
returns-in_err-split_own-clause-follows g c = follows_on _ _ _ _ _ _ c.begin.ensures.follows c.split_own.ensures.follows

pub open_one-requires-clause-formula : goal.open_one-requires-clause-formula
open_one-requires-clause-formula g c = c.split_own.ensures.follows.grows.ids c.args.parts.0 (c.begin.ensures.follows.grows.ids c.args.parts.0 c.requires.parts.0)

pub open_one-requires-clause-there : goal.open_one-requires-clause-there
open_one-requires-clause-there g c =
    let w = c.args.world.now in
    let p = c.args.proof.now in
    let v = c.begin.new.world in
    let q = c.begin.new.proof in
    let u = c.split_own.new.world in
    let r = c.split_own.new.proof in
    let f = c.args.formula in
    let a = c.args.parts.0 in
    let b = c.args.parts.1 in
    let one = c.begin.ensures.follows in
    let two = follows_on w v u p q r one c.split_own.ensures.follows in
    first_there w v u p q r c.args.keep c.args.name.now c.in_ok-own.own (read w f) (read w a) (read w b) (read v a) (read v b) (label_of c.args.label.now) c.requires.form c.in_ok-own.ensures.begun
    (one.grows.readings a c.requires.parts.0) (one.grows.readings b c.requires.parts.1) c.in_ok-split_own.ensures.parted
    c.requires.open (read u a) (two.grows.readings a c.requires.parts.0)

pub returns-in_err-open_one-clause-follows : goal.returns-in_err-open_one-clause-follows
returns-in_err-open_one-clause-follows g c =
    follows_on _ _ _ _ _ _ c.begin.ensures.follows (follows_on _ _ _ _ _ _ c.split_own.ensures.follows c.open_one.ensures.follows)

pub returns-in_err-open_one-clause-stopped : goal.returns-in_err-open_one-clause-stopped
returns-in_err-open_one-clause-stopped g c e =
    let w = c.args.world.now in
    let p = c.args.proof.now in
    let v = c.begin.new.world in
    let q = c.begin.new.proof in
    let u = c.split_own.new.world in
    let r = c.split_own.new.proof in
    let f = c.args.formula in
    let a = c.args.parts.0 in
    let b = c.args.parts.1 in
    let one = c.begin.ensures.follows in
    let two = follows_on w v u p q r one c.split_own.ensures.follows in
    let spent : c.open_one.result ≡ Err Stop.NamesSpent = search rules in
    first_stops w v u p q r c.args.keep c.args.name.now c.in_ok-own.own (read w f) (read w a) (read w b) (read v a) (read v b) (label_of c.args.label.now) c.requires.form c.in_ok-own.ensures.begun
    (one.grows.readings a c.requires.parts.0) (one.grows.readings b c.requires.parts.1) c.in_ok-split_own.ensures.parted
    (read u a) (two.grows.readings a c.requires.parts.0) two.declared (c.open_one.ensures.stopped spent)

pub open_one-requires-2-clause-formula : goal.open_one-requires-2-clause-formula
open_one-requires-2-clause-formula g c =
    c.open_one.ensures.follows.grows.ids c.args.parts.1 (c.split_own.ensures.follows.grows.ids c.args.parts.1 (c.begin.ensures.follows.grows.ids c.args.parts.1 c.requires.parts.1))

pub open_one-requires-2-clause-own : goal.open_one-requires-2-clause-own
open_one-requires-2-clause-own g c = subst (IsOwn (label_of c.args.label.now)) (sym c.in_ok-other.ensures) c.in_ok-own.ensures.own

pub open_one-requires-2-clause-there : goal.open_one-requires-2-clause-there
open_one-requires-2-clause-there g c =
    let w = c.args.world.now in
    let p = c.args.proof.now in
    let v = c.begin.new.world in
    let q = c.begin.new.proof in
    let u = c.split_own.new.world in
    let r = c.split_own.new.proof in
    let x = c.open_one.new.world in
    let o = c.open_one.new.proof in
    let f = c.args.formula in
    let a = c.args.parts.0 in
    let b = c.args.parts.1 in
    let one = c.begin.ensures.follows in
    let two = follows_on w v u p q r one c.split_own.ensures.follows in
    let three = follows_on w u x p r o two c.open_one.ensures.follows in
    second_there w v u p q r c.args.keep c.args.name.now c.in_ok-own.own (read w f) (read w a) (read w b) (read v a) (read v b) (label_of c.args.label.now) c.requires.form c.in_ok-own.ensures.begun
    (one.grows.readings a c.requires.parts.0) (one.grows.readings b c.requires.parts.1) c.in_ok-split_own.ensures.parted
    x o (read u a) (two.grows.readings a c.requires.parts.0) two.declared c.in_ok-open_one.ensures.opened (read x b) (three.grows.readings b c.requires.parts.1) three.declared
    c.requires.open c.in_ok-other.other c.in_ok-other.ensures

pub returns-clause-follows : goal.returns-clause-follows
returns-clause-follows g c =
    follows_on _ _ _ _ _ _ c.begin.ensures.follows (follows_on _ _ _ _ _ _ c.split_own.ensures.follows (follows_on _ _ _ _ _ _ c.open_one.ensures.follows c.open_one-2.ensures.follows))

pub returns-clause-taken : goal.returns-clause-taken
returns-clause-taken g c =
    let w = c.args.world.now in
    let p = c.args.proof.now in
    let v = c.begin.new.world in
    let q = c.begin.new.proof in
    let u = c.split_own.new.world in
    let r = c.split_own.new.proof in
    let x = c.open_one.new.world in
    let o = c.open_one.new.proof in
    let z = c.open_one-2.new.world in
    let n = c.open_one-2.new.proof in
    let l = label_of c.args.label.now in
    let f = c.args.formula in
    let a = c.args.parts.0 in
    let b = c.args.parts.1 in
    let one = c.begin.ensures.follows in
    let two = follows_on w v u p q r one c.split_own.ensures.follows in
    let three = follows_on w u x p r o two c.open_one.ensures.follows in
    on_ok c.open_one-2.result
    (λ opens.
    second_opened w v u p q r c.args.keep c.args.name.now c.in_ok-own.own (read w f) (read w a) (read w b) (read v a) (read v b) l c.requires.form c.in_ok-own.ensures.begun
    (one.grows.readings a c.requires.parts.0) (one.grows.readings b c.requires.parts.1) c.in_ok-split_own.ensures.parted
    x o (read u a) (two.grows.readings a c.requires.parts.0) two.declared c.in_ok-open_one.ensures.opened (read x b) (three.grows.readings b c.requires.parts.1) three.declared
    z n (subst (λ (name : List ℕ). OpensAt x o z n 1 l name (read x b)) c.in_ok-other.ensures opens))
    c.open_one-2.ensures.opened

pub returns-clause-stopped : goal.returns-clause-stopped
returns-clause-stopped g c spent =
    let w = c.args.world.now in
    let p = c.args.proof.now in
    let v = c.begin.new.world in
    let q = c.begin.new.proof in
    let u = c.split_own.new.world in
    let r = c.split_own.new.proof in
    let x = c.open_one.new.world in
    let o = c.open_one.new.proof in
    let l = label_of c.args.label.now in
    let f = c.args.formula in
    let a = c.args.parts.0 in
    let b = c.args.parts.1 in
    let one = c.begin.ensures.follows in
    let two = follows_on w v u p q r one c.split_own.ensures.follows in
    let three = follows_on w u x p r o two c.open_one.ensures.follows in
    second_stops w v u p q r c.args.keep c.args.name.now c.in_ok-own.own (read w f) (read w a) (read w b) (read v a) (read v b) l c.requires.form c.in_ok-own.ensures.begun
    (one.grows.readings a c.requires.parts.0) (one.grows.readings b c.requires.parts.1) c.in_ok-split_own.ensures.parted
    x o (read u a) (two.grows.readings a c.requires.parts.0) two.declared c.in_ok-open_one.ensures.opened (read x b) (three.grows.readings b c.requires.parts.1) three.declared
    (subst (λ (name : List ℕ). StopsAt x o 1 l name (read x b)) c.in_ok-other.ensures (c.open_one-2.ensures.stopped spent))
