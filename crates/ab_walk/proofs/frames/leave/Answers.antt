use Rattle.std.proofs.Common.{List, sym, ◌∙◌, subst}
use Rattle.ab_norm.specs.ab_store.specs.Marks.{HasMark}
use Rattle.ab_logic.specs.declared.world.World.{World}
use Rattle.ab_walk.specs.Standing.{IsAgain}
use Rattle.ab_walk.specs.Stacks.{IsBefore, IsStack}
use Rattle.ab_walk.specs.declared.frames.Frame.{Frame}
use Rattle.ab_walk.proofs.ListEnds.{last_same}
use Rattle.ab_walk.proofs.Stacking.{stack_again}
use Rattle.ab_walk.proofs.WorldsAgain.{cut_again}
use Rattle.ab_walk.proofs.frames.leave.Goals as goal

pub cut_to-requires : goal.cut_to-requires
cut_to-requires g c =
    let w = c.args.world.now in
    let r = c.requires.before in
    let ends = last_same r.0 c.pop.new.self.items r.1 c.in-Some.frame (sym r.3 ∙ c.in-Some.ensures.items) in
    subst (λ (k : Frame). HasMark w.store k.mark) ends.1 ((r.4.later.grows.marks r.1.mark r.4.has).has)

pub returns-in-Some-clause-left : goal.returns-in-Some-clause-left
returns-in-Some-clause-left g c = λ first base fs f u ls n e b s.
    let w = c.args.world.now in
    let r = c.cut_to.ensures in
    let ends = last_same fs c.pop.new.self.items f c.in-Some.frame (sym e ∙ c.in-Some.ensures.items) in
    let x : World = record { types = w.types; store = c.cut_to.new.self; additions = w.additions } in
    let before : IsBefore u c.in-Some.frame.mark w = subst (λ (k : Frame). IsBefore u k.mark w) ends.1 b in
    let again : IsAgain u x = cut_again u w c.in-Some.frame.mark before c.cut_to.new.self r.bindings r.nodes r.cells r.typed r.marks in
    subst (λ (l : List Frame). IsStack first base x l ls n) ends.0 (stack_again first base x b.world again s)
