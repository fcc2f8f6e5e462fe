use Rattle.std.proofs.Common.{◌≡◌, ℕ, ◌<◌, List, [], ◌∷◌, ◌++◌, length, vec_len, Some, refl, sym, ◌∙◌, ap, subst, arith}
use Rattle.std.proofs.lemmas.Bool.{false≢true}
use Rattle.ab_logic.specs.declared.world.World.{World}
use Rattle.ab_next_ways.specs.declared.cursor.Cursor.TheVariants.{Start}
use Rattle.ab_walk.specs.Standing.{IsLater, IsAgain, IsTurn}
use Rattle.ab_walk.specs.Stacks.{IsBefore, IsStack, IsUnderway, GoesOn}
use Rattle.ab_walk.specs.declared.walk.Told.TheVariants.{Found}
use Rattle.ab_walk.specs.declared.frames.Frame.{Frame}
use Rattle.ab_walk.proofs.ListEnds.{last_of, no_items}
use Rattle.ab_walk.proofs.Stacking.{HasTop, top, stack_later}
use Rattle.ab_walk.proofs.StepsTaken.{all_seen, underway_later, last, closed_there, before_last, ended_there, nothing_there, stuck_there, ahead_there}
use Rattle.ab_walk.proofs.WorldsAgain.{later_on, cut_again}
use Rattle.ab_walk.proofs.frames.take_step.Goals as goal

pub returns-in_default-clause-goes_on : goal.returns-in_default-clause-goes_on
returns-in_default-clause-goes_on g c = λ first ls n u.
    let s = c.args.stack.now in
    let many : vec_len s ≡ length s.items = omega (arith, s.ok.0) in
    let none : s.items ≡ [] = no_items s.items (vec_len s) many (λ l. false≢true (c.in_default.ensures.variant.1 l)) in
    all_seen first c.args.base.now ls n c.args.world.now c.args.seen.now (subst (λ (l : List Frame). IsUnderway first c.args.base.now ls n c.args.world.now l c.args.seen.now) none u)

pub returns-in_default-clause-later : goal.returns-in_default-clause-later
returns-in_default-clause-later g c = λ first ls n u.
    underway_later first c.args.base.now ls n c.args.world.now c.args.stack.now.items c.args.seen.now u

pub take_turn-requires-clause-open : goal.take_turn-requires-clause-open
take_turn-requires-clause-open g c =
    let s = c.args.stack.now in
    let many : vec_len s ≡ length s.items = omega (arith, s.ok.0) in
    let w = c.args.world.now in
    let base = c.args.base.now in
    let seen = c.args.seen.now in
    let f = c.in-Some.frame.now in
    let ends = last_of s.items (vec_len s) f many (c.in-Some.ensures.variant.0 refl) c.in-Some.ensures.value in
    let fs : List Frame = ends.0 in
    let o = c.requires.underway in
    let now : IsUnderway o.0 base o.1 o.2 w (fs ++ f ∷ []) seen = subst (λ (l : List Frame). IsUnderway o.0 base o.1 o.2 w l seen) ends.1 o.3 in
    let t : HasTop o.0 base w fs f now.left o.2 = top o.0 base now.stack fs f refl in
    (t.now, t.front, t.here, t.standing)

pub returns-in_err-take_turn-clause-later : goal.returns-in_err-take_turn-clause-later
returns-in_err-take_turn-clause-later g c = λ first ls n u.
    let w = c.args.world.now in
    later_on first.world w c.take_turn.new.world (underway_later first c.args.base.now ls n w c.args.stack.now.items c.args.seen.now u) (record { grows = c.take_turn.ensures.grows; declared = c.take_turn.ensures.declared })

pub returns-in_err-push-in-Ahead-clause-later : goal.returns-in_err-push-in-Ahead-clause-later
returns-in_err-push-in-Ahead-clause-later g c = λ first ls n u.
    let w = c.args.world.now in
    later_on first.world w c.take_turn.new.world (underway_later first c.args.base.now ls n w c.args.stack.now.items c.args.seen.now u) (record { grows = c.take_turn.ensures.grows; declared = c.take_turn.ensures.declared })

pub returns-in-Closed-clause-later : goal.returns-in-Closed-clause-later
returns-in-Closed-clause-later g c = λ first ls n u.
    let w = c.args.world.now in
    later_on first.world w c.take_turn.new.world (underway_later first c.args.base.now ls n w c.args.stack.now.items c.args.seen.now u) (record { grows = c.take_turn.ensures.grows; declared = c.take_turn.ensures.declared })

pub returns-in_ok-push-in-Ahead-clause-later : goal.returns-in_ok-push-in-Ahead-clause-later
returns-in_ok-push-in-Ahead-clause-later g c = λ first ls n u.
    let w = c.args.world.now in
    later_on first.world w c.take_turn.new.world (underway_later first c.args.base.now ls n w c.args.stack.now.items c.args.seen.now u) (record { grows = c.take_turn.ensures.grows; declared = c.take_turn.ensures.declared })

pub returns-in-Closed-clause-goes_on : goal.returns-in-Closed-clause-goes_on
returns-in-Closed-clause-goes_on g c = λ first ls n u.
    let s = c.args.stack.now in
    let many : vec_len s ≡ length s.items = omega (arith, s.ok.0) in
    let w = c.args.world.now in
    let base = c.args.base.now in
    let seen = c.args.seen.now in
    let f = c.in-Some.frame.now in
    let ends = last_of s.items (vec_len s) f many (c.in-Some.ensures.variant.0 refl) c.in-Some.ensures.value in
    let fs : List Frame = ends.0 in
    let v = c.take_turn.new.world in
    let k = c.take_turn.new.cursor in
    let is = c.requires.world in
    let moved : Frame = record { place = f.place; cursor = k; mark = f.mark } in
    let later : IsLater w v = record { grows = c.take_turn.ensures.grows; declared = c.take_turn.ensures.declared } in
    let now : IsUnderway first base ls n w (fs ++ f ∷ []) seen = subst (λ (l : List Frame). IsUnderway first base ls n w l seen) ends.1 u in
    let t : HasTop first base w fs f now.left n = last first base ls n w v is later fs f k seen now in
    let turn = subst (IsTurn w base t.now f.place k v t.front t.here) c.in-Closed.is (c.in_ok-take_turn.ensures.turn t.now t.front t.here t.standing) in
    subst (λ (l : List Frame). GoesOn first base ls n v l seen (Some Found)) (sym (ends.2 moved)) (closed_there first base ls n w v is later fs f k seen now turn)

pub leave-requires : goal.leave-requires
leave-requires g c =
    let s = c.args.stack.now in
    let many : vec_len s ≡ length s.items = omega (arith, s.ok.0) in
    let w = c.args.world.now in
    let base = c.args.base.now in
    let seen = c.args.seen.now in
    let f = c.in-Some.frame.now in
    let ends = last_of s.items (vec_len s) f many (c.in-Some.ensures.variant.0 refl) c.in-Some.ensures.value in
    let fs : List Frame = ends.0 in
    let v = c.take_turn.new.world in
    let k = c.take_turn.new.cursor in
    let is = c.requires.world in
    let moved : Frame = record { place = f.place; cursor = k; mark = f.mark } in
    let later : IsLater w v = record { grows = c.take_turn.ensures.grows; declared = c.take_turn.ensures.declared } in
    let o = c.requires.underway in
    let first = o.0 in
    let ls = o.1 in
    let n = o.2 in
    let now : IsUnderway first base ls n w (fs ++ f ∷ []) seen = subst (λ (l : List Frame). IsUnderway first base ls n w l seen) ends.1 o.3 in
    let t : HasTop first base w fs f now.left n = last first base ls n w v is later fs f k seen now in
    record { before = (fs, moved, t.below, ends.2 moved, before_last first base ls n w v is later fs f k seen now) }

pub returns-in-Ended-clause-goes_on : goal.returns-in-Ended-clause-goes_on
returns-in-Ended-clause-goes_on g c = λ first ls n u.
    let s = c.args.stack.now in
    let many : vec_len s ≡ length s.items = omega (arith, s.ok.0) in
    let w = c.args.world.now in
    let base = c.args.base.now in
    let seen = c.args.seen.now in
    let f = c.in-Some.frame.now in
    let ends = last_of s.items (vec_len s) f many (c.in-Some.ensures.variant.0 refl) c.in-Some.ensures.value in
    let fs : List Frame = ends.0 in
    let v = c.take_turn.new.world in
    let k = c.take_turn.new.cursor in
    let is = c.requires.world in
    let moved : Frame = record { place = f.place; cursor = k; mark = f.mark } in
    let later : IsLater w v = record { grows = c.take_turn.ensures.grows; declared = c.take_turn.ensures.declared } in
    let now : IsUnderway first base ls n w (fs ++ f ∷ []) seen = subst (λ (l : List Frame). IsUnderway first base ls n w l seen) ends.1 u in
    let t : HasTop first base w fs f now.left n = last first base ls n w v is later fs f k seen now in
    let turn = subst (IsTurn w base t.now f.place k v t.front t.here) c.in-Ended.is (c.in_ok-take_turn.ensures.turn t.now t.front t.here t.standing) in
    let stack : IsStack first base c.leave.new.world c.leave.new.stack.items t.back t.others = c.leave.ensures.left first base fs moved t.below t.back t.others (ends.2 moved) (before_last first base ls n w v is later fs f k seen now) t.rest in
    ended_there first base ls n w v is later fs f k seen now c.in-Ended.here turn c.note_blind.new.self (c.note_blind.ensures now.done) c.leave.new.world c.leave.new.stack.items stack

pub returns-in-Ended-clause-later : goal.returns-in-Ended-clause-later
returns-in-Ended-clause-later g c = λ first ls n u.
    let s = c.args.stack.now in
    let many : vec_len s ≡ length s.items = omega (arith, s.ok.0) in
    let w = c.args.world.now in
    let base = c.args.base.now in
    let seen = c.args.seen.now in
    let f = c.in-Some.frame.now in
    let ends = last_of s.items (vec_len s) f many (c.in-Some.ensures.variant.0 refl) c.in-Some.ensures.value in
    let fs : List Frame = ends.0 in
    let v = c.take_turn.new.world in
    let k = c.take_turn.new.cursor in
    let is = c.requires.world in
    let moved : Frame = record { place = f.place; cursor = k; mark = f.mark } in
    let later : IsLater w v = record { grows = c.take_turn.ensures.grows; declared = c.take_turn.ensures.declared } in
    let now : IsUnderway first base ls n w (fs ++ f ∷ []) seen = subst (λ (l : List Frame). IsUnderway first base ls n w l seen) ends.1 u in
    let t : HasTop first base w fs f now.left n = last first base ls n w v is later fs f k seen now in
    let stack : IsStack first base c.leave.new.world c.leave.new.stack.items t.back t.others = c.leave.ensures.left first base fs moved t.below t.back t.others (ends.2 moved) (before_last first base ls n w v is later fs f k seen now) t.rest in
    stack_later first base stack

pub returns-in-Nothing-clause-goes_on : goal.returns-in-Nothing-clause-goes_on
returns-in-Nothing-clause-goes_on g c = λ first ls n u.
    let s = c.args.stack.now in
    let many : vec_len s ≡ length s.items = omega (arith, s.ok.0) in
    let w = c.args.world.now in
    let base = c.args.base.now in
    let seen = c.args.seen.now in
    let f = c.in-Some.frame.now in
    let ends = last_of s.items (vec_len s) f many (c.in-Some.ensures.variant.0 refl) c.in-Some.ensures.value in
    let fs : List Frame = ends.0 in
    let v = c.take_turn.new.world in
    let k = c.take_turn.new.cursor in
    let is = c.requires.world in
    let moved : Frame = record { place = f.place; cursor = k; mark = f.mark } in
    let later : IsLater w v = record { grows = c.take_turn.ensures.grows; declared = c.take_turn.ensures.declared } in
    let m = c.mark-mark in
    let at : IsBefore w m.result v = record { world = is; later = later; has = m.ensures.has; bindings = m.ensures.bindings; nodes = m.ensures.nodes; cells = m.ensures.cells } in
    let now : IsUnderway first base ls n w (fs ++ f ∷ []) seen = subst (λ (l : List Frame). IsUnderway first base ls n w l seen) ends.1 u in
    let t : HasTop first base w fs f now.left n = last first base ls n w v is later fs f k seen now in
    let turn = subst (IsTurn w base t.now f.place k v t.front t.here) c.in-Nothing.is (c.in_ok-take_turn.ensures.turn t.now t.front t.here t.standing) in
    let r = c.cut_to.ensures in
    let x : World = record { types = v.types; store = c.cut_to.new.self; additions = v.additions } in
    let again : IsAgain w x = cut_again w v m.result at c.cut_to.new.self r.bindings r.nodes r.cells r.typed r.marks in
    subst (λ (l : List Frame). (m : ℕ) × (m < n) × IsUnderway first base ls m x l seen) (sym (ends.2 moved)) (nothing_there first base ls n w v is later fs f k seen now x again refl turn)

pub returns-in-Stuck-clause-goes_on : goal.returns-in-Stuck-clause-goes_on
returns-in-Stuck-clause-goes_on g c = λ first ls n u.
    let s = c.args.stack.now in
    let many : vec_len s ≡ length s.items = omega (arith, s.ok.0) in
    let w = c.args.world.now in
    let base = c.args.base.now in
    let seen = c.args.seen.now in
    let f = c.in-Some.frame.now in
    let ends = last_of s.items (vec_len s) f many (c.in-Some.ensures.variant.0 refl) c.in-Some.ensures.value in
    let fs : List Frame = ends.0 in
    let v = c.take_turn.new.world in
    let k = c.take_turn.new.cursor in
    let is = c.requires.world in
    let moved : Frame = record { place = f.place; cursor = k; mark = f.mark } in
    let later : IsLater w v = record { grows = c.take_turn.ensures.grows; declared = c.take_turn.ensures.declared } in
    let m = c.mark-mark in
    let at : IsBefore w m.result v = record { world = is; later = later; has = m.ensures.has; bindings = m.ensures.bindings; nodes = m.ensures.nodes; cells = m.ensures.cells } in
    let now : IsUnderway first base ls n w (fs ++ f ∷ []) seen = subst (λ (l : List Frame). IsUnderway first base ls n w l seen) ends.1 u in
    let t : HasTop first base w fs f now.left n = last first base ls n w v is later fs f k seen now in
    let turn = subst (IsTurn w base t.now f.place k v t.front t.here) c.in-Stuck.is (c.in_ok-take_turn.ensures.turn t.now t.front t.here t.standing) in
    let r = c.cut_to-in-Stuck.ensures in
    let x : World = record { types = v.types; store = c.cut_to-in-Stuck.new.self; additions = v.additions } in
    let again : IsAgain w x = cut_again w v m.result at c.cut_to-in-Stuck.new.self r.bindings r.nodes r.cells r.typed r.marks in
    subst (λ (l : List Frame). (m : ℕ) × (m < n) × IsUnderway first base ls m x l c.note_stuck.new.self) (sym (ends.2 moved)) (stuck_there first base ls n w v is later fs f k seen now x again refl c.in-Stuck.equation turn c.note_stuck.new.self (c.note_stuck.ensures now.done))

pub returns-in-Nothing-clause-later : goal.returns-in-Nothing-clause-later
returns-in-Nothing-clause-later g c = λ first ls n u.
    let w = c.args.world.now in
    let is = c.requires.world in
    let v = c.take_turn.new.world in
    let later : IsLater w v = record { grows = c.take_turn.ensures.grows; declared = c.take_turn.ensures.declared } in
    let m = c.mark-mark in
    let at : IsBefore w m.result v = record { world = is; later = later; has = m.ensures.has; bindings = m.ensures.bindings; nodes = m.ensures.nodes; cells = m.ensures.cells } in
    let r = c.cut_to.ensures in
    let x : World = record { types = v.types; store = c.cut_to.new.self; additions = v.additions } in
    let again : IsAgain w x = cut_again w v m.result at c.cut_to.new.self r.bindings r.nodes r.cells r.typed r.marks in
    later_on first.world w x (underway_later first c.args.base.now ls n w c.args.stack.now.items c.args.seen.now u) again.later

pub returns-in-Stuck-clause-later : goal.returns-in-Stuck-clause-later
returns-in-Stuck-clause-later g c = λ first ls n u.
    let w = c.args.world.now in
    let is = c.requires.world in
    let v = c.take_turn.new.world in
    let later : IsLater w v = record { grows = c.take_turn.ensures.grows; declared = c.take_turn.ensures.declared } in
    let m = c.mark-mark in
    let at : IsBefore w m.result v = record { world = is; later = later; has = m.ensures.has; bindings = m.ensures.bindings; nodes = m.ensures.nodes; cells = m.ensures.cells } in
    let r = c.cut_to-in-Stuck.ensures in
    let x : World = record { types = v.types; store = c.cut_to-in-Stuck.new.self; additions = v.additions } in
    let again : IsAgain w x = cut_again w v m.result at c.cut_to-in-Stuck.new.self r.bindings r.nodes r.cells r.typed r.marks in
    later_on first.world w x (underway_later first c.args.base.now ls n w c.args.stack.now.items c.args.seen.now u) again.later

pub returns-in_ok-push-in-Ahead-clause-goes_on : goal.returns-in_ok-push-in-Ahead-clause-goes_on
returns-in_ok-push-in-Ahead-clause-goes_on g c = λ first ls n u.
    let s = c.args.stack.now in
    let many : vec_len s ≡ length s.items = omega (arith, s.ok.0) in
    let w = c.args.world.now in
    let base = c.args.base.now in
    let seen = c.args.seen.now in
    let f = c.in-Some.frame.now in
    let ends = last_of s.items (vec_len s) f many (c.in-Some.ensures.variant.0 refl) c.in-Some.ensures.value in
    let fs : List Frame = ends.0 in
    let v = c.take_turn.new.world in
    let k = c.take_turn.new.cursor in
    let is = c.requires.world in
    let moved : Frame = record { place = f.place; cursor = k; mark = f.mark } in
    let later : IsLater w v = record { grows = c.take_turn.ensures.grows; declared = c.take_turn.ensures.declared } in
    let m = c.mark-mark in
    let at : IsBefore w m.result v = record { world = is; later = later; has = m.ensures.has; bindings = m.ensures.bindings; nodes = m.ensures.nodes; cells = m.ensures.cells } in
    let now : IsUnderway first base ls n w (fs ++ f ∷ []) seen = subst (λ (l : List Frame). IsUnderway first base ls n w l seen) ends.1 u in
    let t : HasTop first base w fs f now.left n = last first base ls n w v is later fs f k seen now in
    let turn = subst (IsTurn w base t.now f.place k v t.front t.here) c.in-Ahead.is (c.in_ok-take_turn.ensures.turn t.now t.front t.here t.standing) in
    let ahead : Frame = record { place = c.in-Ahead.place; cursor = Start; mark = m.result } in
    let frames : c.push.new.self.items ≡ (fs ++ moved ∷ []) ++ ahead ∷ [] = c.in_ok-push-in-Ahead.ensures.items ∙ ap (λ l. l ++ ahead ∷ []) (ends.2 moved) in
    subst (λ (l : List Frame). (m : ℕ) × (m < n) × IsUnderway first base ls m v l seen) (sym frames) (ahead_there first base ls n w v is later fs f k seen now m.result at c.in-Ahead.place turn)
