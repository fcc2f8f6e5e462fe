use Rattle.std.specs.Prelude.{reverse, map}
use Rattle.std.proofs.Common.{◌∷◌, List, subst}
use Rattle.ab_formulas.specs.NewNames.{NoName}
use Rattle.ab_logic.specs.SequentReadings.{hypothesis_of}
use Rattle.ab_formulas.specs.Sequents.{Sequent}
use Rattle.ab_logic.specs.Worlds.{read}
use Rattle.ab_equations.specs.Labels.{label_of}
use Rattle.ab_steps.specs.Progress.{IsAt}
use Rattle.ab_steps.proofs.Following.{follows_not}
use Rattle.ab_hypothesis.specs.HypothesisProgress.{MovedTo, label_left}
use Rattle.ab_hypothesis.proofs.Owned.{own_left}
use Rattle.ab_hypothesis.proofs.Goes.{whole_goes, whole_stops}
use Rattle.ab_hypothesis.proofs.openings.open_whole.Goals as goal

pub shift-requires-clause-there : goal.shift-requires-clause-there
shift-requires-clause-there g c =
    let pending = c.requires.pending in
    record { before = pending.before; behind = pending.behind; goal = pending.goal; at = pending.at; has = pending.all.0 }

pub returns-then-moved-clause-goes : goal.returns-then-moved-clause-goes
returns-then-moved-clause-goes g c =
    let w = c.args.world.now in
    let l = label_of c.args.label.now in
    let ks = c.args.top.now ∷ reverse c.args.pending.now in
    let v = c.shift.new.world in
    let q = c.shift.new.proof in
    whole_goes w v c.args.proof.now q c.args.place l c.args.top.now (reverse c.args.pending.now) c.shift.ensures.follows c.requires.pending (label_left l c.args.left)
    (own_left l c.args.left (map (hypothesis_of w) ks) c.requires.pending.own) c.requires.form
    (subst (λ m. (before behind : List Sequent) (k : Sequent) → IsAt w c.args.proof.now c.args.place before k behind → MovedTo m (read w c.args.top.now.formula) c.args.top.now.name k v q c.args.place before behind)
    c.in_ok-next.ensures (c.in_ok-moved.ensures.moved c.if-moved.true))

pub returns-else-moved-clause-stopped : goal.returns-else-moved-clause-stopped
returns-else-moved-clause-stopped g c stop =
    let w = c.args.world.now in
    let p = c.args.proof.now in
    let l = label_of c.args.label.now in
    let ks = c.args.top.now ∷ reverse c.args.pending.now in
    whole_stops w w p p c.args.place l c.args.top.now (reverse c.args.pending.now) (follows_not w p c.requires.world c.requires.proof) c.requires.pending (label_left l c.args.left)
    (own_left l c.args.left (map (hypothesis_of w) ks) c.requires.pending.own) c.requires.form
    (subst (λ m. (before behind : List Sequent) (k : Sequent) → IsAt w p c.args.place before k behind → NoName m k) c.in_ok-next.ensures (c.in_ok-moved.ensures.unnamed c.if-moved.false))
