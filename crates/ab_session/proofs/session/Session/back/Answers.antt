use Rattle.std.proofs.Common.{◌≡◌, ◌+◌, ◌∷◌, length, sym, ◌∙◌, ap, subst}
use Rattle.ab_logic.specs.declared.world.World.{World}
use Rattle.ab_states.specs.ab_specification.specs.ab_declare.specs.Moments.{HasMore}
use Rattle.ab_states.specs.StateEffects.{IsBeforeLast}
use Rattle.ab_session.specs.Contents.{Contents, past_of, contents, state_of}
use Rattle.ab_session.specs.Origins.{CameBy, CameFrom}
use Rattle.ab_session.proofs.Lasting.{came_lasts, counted_back}
use Rattle.ab_session.proofs.Origins.{pasts, whence, latest, deed_by, moment_is, more_of, gone, session_gone, came_again, state_gone}
use Rattle.ab_session.proofs.session.Session.back.Goals as goal

pub reopen-requires : goal.reopen-requires
reopen-requires g c =
    let s = contents c.self.inside in
    let k = c.in-Some.last in
    let rest = pasts c.pop.new.self.items in
    let past : s.past ≡ past_of k ∷ rest = ap pasts c.in-Some.ensures.items ∙ latest c.pop.new.self.items k in
    let there = whence s (past_of k) rest c.self.invariant.remembers past in (
      there.from.proofs,
      there.from.attempt,
      subst (CameBy k.deed k.before.steps there.from.proofs there.from.attempt s.proofs) (sym c.take.ensures.value) (deed_by s k rest c.self.invariant past),
    )

pub cut_back-requires : goal.cut_back-requires
cut_back-requires g c =
    let s = contents c.self.inside in
    let k = c.in-Some.last in
    let rest = pasts c.pop.new.self.items in
    let past : s.past ≡ past_of k ∷ rest = ap pasts c.in-Some.ensures.items ∙ latest c.pop.new.self.items k in
    let there = whence s (past_of k) rest c.self.invariant.remembers past in (
      there.from.world,
      there.came.sound.world,
      moment_is s k rest c.self.invariant past,
      subst (HasMore there.from.world) (sym c.reopen.ensures.world) (more_of there.from.world s.world there.came.grows),
    )

pub invariant_of-self-in-Some : goal.invariant_of-self-in-Some
invariant_of-self-in-Some g c =
    let s = contents c.self.inside in
    let k = c.in-Some.last in
    let rest = pasts c.pop.new.self.items in
    let past : s.past ≡ past_of k ∷ rest = ap pasts c.in-Some.ensures.items ∙ latest c.pop.new.self.items k in
    let there = whence s (past_of k) rest c.self.invariant.remembers past in
    let by = subst (CameBy k.deed k.before.steps there.from.proofs there.from.attempt s.proofs) (sym c.take.ensures.value) (deed_by s k rest c.self.invariant past) in
    let before = c.reopen.ensures.before there.from.proofs there.from.attempt by in
    let restored = c.cut_back.ensures.restored there.from.world there.came.sound.world (moment_is s k rest c.self.invariant past) (subst (HasMore there.from.world) (sym c.reopen.ensures.world) (more_of there.from.world s.world there.came.grows)) in
    session_gone s k rest c.self.invariant past _ _ _ restored before.0 before.1

pub returns-in-Some-clause-came : goal.returns-in-Some-clause-came
returns-in-Some-clause-came g c =
    let s = contents c.self.inside in
    let k = c.in-Some.last in
    let rest = pasts c.pop.new.self.items in
    let past : s.past ≡ past_of k ∷ rest = ap pasts c.in-Some.ensures.items ∙ latest c.pop.new.self.items k in
    let there = whence s (past_of k) rest c.self.invariant.remembers past in
    let by = subst (CameBy k.deed k.before.steps there.from.proofs there.from.attempt s.proofs) (sym c.take.ensures.value) (deed_by s k rest c.self.invariant past) in
    let before = c.reopen.ensures.before there.from.proofs there.from.attempt by in
    let restored = c.cut_back.ensures.restored there.from.world there.came.sound.world (moment_is s k rest c.self.invariant past) (subst (HasMore there.from.world) (sym c.reopen.ensures.world) (more_of there.from.world s.world there.came.grows)) in
    subst (CameFrom _) c.self.view_is (came_again s k rest c.self.invariant past _ _ _ restored before.0 before.1)

pub returns-in-Some-clause-state : goal.returns-in-Some-clause-state
returns-in-Some-clause-state g c =
    let s = contents c.self.inside in
    let k = c.in-Some.last in
    let rest = pasts c.pop.new.self.items in
    let past : s.past ≡ past_of k ∷ rest = ap pasts c.in-Some.ensures.items ∙ latest c.pop.new.self.items k in
    let there = whence s (past_of k) rest c.self.invariant.remembers past in
    let by = subst (CameBy k.deed k.before.steps there.from.proofs there.from.attempt s.proofs) (sym c.take.ensures.value) (deed_by s k rest c.self.invariant past) in
    let before = c.reopen.ensures.before there.from.proofs there.from.attempt by in
    let restored = c.cut_back.ensures.restored there.from.world there.came.sound.world (moment_is s k rest c.self.invariant past) (subst (HasMore there.from.world) (sym c.reopen.ensures.world) (more_of there.from.world s.world there.came.grows)) in
    let t = gone s k rest c.self.invariant past _ _ _ restored before.0 before.1 in
    subst (λ (o : Contents). IsBeforeLast (state_of o) (state_of t)) c.self.view_is (state_gone s k rest c.self.invariant past _ _ _ restored before.0 before.1)

pub returns-in-Some-clause-replayed : goal.returns-in-Some-clause-replayed
returns-in-Some-clause-replayed g c =
    let s = contents c.self.inside in
    let k = c.in-Some.last in
    let rest = pasts c.pop.new.self.items in
    let past : s.past ≡ past_of k ∷ rest = ap pasts c.in-Some.ensures.items ∙ latest c.pop.new.self.items k in
    let there = whence s (past_of k) rest c.self.invariant.remembers past in
    let by = subst (CameBy k.deed k.before.steps there.from.proofs there.from.attempt s.proofs) (sym c.take.ensures.value) (deed_by s k rest c.self.invariant past) in
    let before = c.reopen.ensures.before there.from.proofs there.from.attempt by in
    let restored = c.cut_back.ensures.restored there.from.world there.came.sound.world (moment_is s k rest c.self.invariant past) (subst (HasMore there.from.world) (sym c.reopen.ensures.world) (more_of there.from.world s.world there.came.grows)) in
    (session_gone s k rest c.self.invariant past _ _ _ restored before.0 before.1).replayed

pub returns-in-Some-clause-lasted : goal.returns-in-Some-clause-lasted
returns-in-Some-clause-lasted g c = came_lasts _ _ (returns-in-Some-clause-came g c)

pub returns-in-Some-clause-counted : goal.returns-in-Some-clause-counted
returns-in-Some-clause-counted g c =
    let from = returns-in-Some-clause-came g c in
    let none = ap (λ (w : World). w.store.bindings) c.reopen.ensures.world ∙ c.self.invariant.sound.world.unbound in
    counted_back _ _ _ _ from
    (c.cut_back.ensures.steps none
    ∙ ap (λ n. n + length c.reopen.new.world.types + length c.reopen.new.world.additions) c.reopen.ensures.steps
    ∙ ap (λ (w : World). c.args.steps.now + length w.types + length w.additions) c.reopen.ensures.world
    ∙ ap (λ (o : Contents). c.args.steps.now + length o.world.types + length o.world.additions) c.self.view_is)
