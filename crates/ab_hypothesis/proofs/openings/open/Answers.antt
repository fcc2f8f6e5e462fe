use Rattle.std.specs.Prelude.{reverse, Err}
use Rattle.std.proofs.Common.{◌≡◌, ◌∷◌, [], length, rules, ◌∙◌, ap, subst, arith}
use Rattle.std.proofs.lemmas.List.{reverse-append}
use Rattle.ab_equations.specs.Labels.{label_of}
use Rattle.ab_steps.proofs.Following.{follows_not, follows_on}
use Rattle.ab_hypothesis.specs.HypothesisProgress.{Opens, label_left}
use Rattle.ab_hypothesis.specs.declared.stop.Stop.{Stop}
use Rattle.ab_hypothesis.proofs.Goes.{opens_not, opens_on, stops_on, opened_all, no_items}
use Rattle.ab_hypothesis.proofs.openings.open.Goals as goal

pub loop-top-init : goal.loop-top-init
loop-top-init g c = record {
  follows = follows_not _ _ c.requires.world c.requires.proof;
  pending = c.requires.pending;
  opens = opens_not _ _ _ _ _ _ c.requires.pending;
  steps = omega arith;
}

pub returns-in_err-left-clause-follows : goal.returns-in_err-left-clause-follows
returns-in_err-left-clause-follows g c = follows_on _ _ _ _ _ _ c.loop-top.invariant.follows c.open_top.ensures.follows

pub returns-in_err-left-clause-stopped : goal.returns-in_err-left-clause-stopped
returns-in_err-left-clause-stopped g c e =
    let w = c.args.world.now in
    let p = c.args.proof.now in
    let l = label_of c.args.label.now in
    let m = label_left l c.loop-top.left in
    let v = c.loop-top.world in
    let q = c.loop-top.proof in
    let rest = c.pop.new.self.items in
    let list : reverse c.loop-top.pending.items ≡ c.in-Some.top ∷ reverse rest = ap reverse c.in-Some.ensures.items ∙ reverse-append rest (c.in-Some.top ∷ []) in
    let spent : c.open_top.result ≡ Err Stop.NamesSpent = search rules in
    stops_on w v p q c.args.place l m (reverse c.args.pending.items) (c.in-Some.top ∷ reverse rest) c.loop-top.invariant.follows
    (subst (λ js. Opens w p c.args.place l (reverse c.args.pending.items) v q m js) list c.loop-top.invariant.opens)
    (c.open_top.ensures.stopped spent)

pub loop-top-preserved : goal.loop-top-preserved
loop-top-preserved g c =
    let w = c.args.world.now in
    let p = c.args.proof.now in
    let l = label_of c.args.label.now in
    let m = label_left l c.loop-top.left in
    let n = label_left l c.in_ok-left.left in
    let v = c.loop-top.world in
    let q = c.loop-top.proof in
    let rest = c.pop.new.self.items in
    let list : reverse c.loop-top.pending.items ≡ c.in-Some.top ∷ reverse rest = ap reverse c.in-Some.ensures.items ∙ reverse-append rest (c.in-Some.top ∷ []) in
    let goes = c.in_ok-left.ensures.goes in
    record {
      follows = follows_on _ _ _ _ _ _ c.loop-top.invariant.follows c.open_top.ensures.follows;
      pending = goes.pending;
      opens = opens_on w v c.open_top.new.world p q c.open_top.new.proof c.args.place l m n (reverse c.args.pending.items) (c.in-Some.top ∷ reverse rest) (reverse c.open_top.new.pending.items)
          c.loop-top.invariant.follows (subst (λ js. Opens w p c.args.place l (reverse c.args.pending.items) v q m js) list c.loop-top.invariant.opens) goes.opens;
      steps = omega (arith, c.loop-top.invariant.steps, c.open_top.ensures.steps);
    }

pub returns-clause-opened : goal.returns-clause-opened
returns-clause-opened g c =
    let empty : length c.loop-top.pending.items ≡ 0 = omega (arith, c.in_default.ensures.cases.0, c.loop-top.pending.ok.0) in
    opened_all c.args.world.now c.loop-top.world c.args.proof.now c.loop-top.proof c.args.place (label_of c.args.label.now) (label_left (label_of c.args.label.now) c.loop-top.left)
    (reverse c.args.pending.items) (reverse c.loop-top.pending.items) (ap reverse (no_items c.loop-top.pending.items empty)) c.loop-top.invariant.opens
