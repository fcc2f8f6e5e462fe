use Rattle.std.proofs.Common.{◌≡◌, ◌++◌, [], ◌∷◌, length, refl, sym, ◌∙◌, ap, subst, arith}
use Rattle.std.proofs.lemmas.List.{length-append}
use Rattle.ab_inference.specs.declared.assignments.Mark.TheVariants.{Done}
use Rattle.ab_inference.proofs.Tables.{still_held, same_reading}
use Rattle.ab_inference.proofs.Marking.{finished, unseen_no_more, active_is_not_done}
use Rattle.ab_inference.proofs.Pathing.{Path, nothing_left, path_begins, path_shortens, path_grows, path_turns_back, path_ends, top_in, top_active, top_marked}
use Rattle.ab_inference.proofs.assignments.settle.Goals as goal

pub loop-top-init : goal.loop-top-init
loop-top-init c = let r = c.requires in
    let f : c.in_ok-path.path.items ≡ c.args.i ∷ [] = c.in_ok-path.ensures.items in
    record {
      path = subst (Path c.args.types.now c.args.types.now c.args.shapes.now _ _) (sym f) (path_begins c.args.types.now c.args.shapes.now c.args.marks.now c.args.i r.table r.i_in c.in-Unseen.is r.settling r.idle);
      kinds = refl;
      constants = refl;
    }

pub finish-requires-clause-filler_held : goal.finish-requires-clause-filler_held
finish-requires-clause-filler_held c = still_held c.args.types.now c.loop-top.types c.loop-top.invariant.path.more c.args.filler c.requires.filler_held

pub finish-requires-clause-filler : goal.finish-requires-clause-filler
finish-requires-clause-filler c = same_reading c.args.types.now c.loop-top.types c.loop-top.invariant.path.more c.args.filler c.requires.filler_held ∙ c.requires.filler

pub loop-top-smaller-in-None : goal.loop-top-smaller-in-None
loop-top-smaller-in-None c =
    let popped = rw c.in-Some.is at c.pop.ensures.items in
    let p = c.loop-top.invariant.path in
    let m = top_marked c.args.types.now c.loop-top.types c.args.shapes.now _ c.loop-top.marks c.loop-top.path.items c.pop.new.self.items c.in-Some.top c.requires.formed p popped in
    let n = unseen_no_more c.loop-top.marks c.in-Some.top c.in_ok-settled-in-None.settled m in
    let l = ap length popped ∙ length-append c.pop.new.self.items (c.in-Some.top ∷ []) in
    omega arith

pub loop-top-preserved-in-None : goal.loop-top-preserved-in-None
loop-top-preserved-in-None c =
    let popped = rw c.in-Some.is at c.pop.ensures.items in
    let p = c.loop-top.invariant.path in
    let t = top_in c.args.types.now c.loop-top.types c.args.shapes.now _ c.loop-top.marks c.loop-top.path.items c.pop.new.self.items c.in-Some.top c.requires.formed p popped in
    let a = top_active c.args.types.now c.loop-top.types c.args.shapes.now _ c.loop-top.marks c.loop-top.path.items c.pop.new.self.items c.in-Some.top c.requires.formed p popped in
    let f = c.in_ok-settled-in-None.ensures in
    let q = path_shortens c.args.types.now c.loop-top.types c.args.shapes.now _ c.loop-top.marks c.loop-top.path.items c.pop.new.self.items c.in-Some.top c.requires.formed p popped
    c.finish.new.types c.in_ok-settled-in-None.settled c.finish.ensures.table c.finish.ensures.kept
    (finished c.loop-top.types c.finish.new.types c.args.shapes.now c.loop-top.marks c.in-Some.top c.in_ok-settled-in-None.settled c.finish.ensures.kept p.settling c.requires.formed t
    (λ r e. active_is_not_done r (sym a ∙ e)) f.held c.in-None.ensures.part f.finishes) in
    record { path = q; kinds = c.finish.ensures.kinds ∙ c.loop-top.invariant.kinds; constants = c.finish.ensures.constants ∙ c.loop-top.invariant.constants }

pub loop-top-preserved : goal.loop-top-preserved
loop-top-preserved c =
    let popped = rw c.in-Some.is at c.pop.ensures.items in
    let p = c.loop-top.invariant.path in
    let j = c.in-Some-next_part.part in
    let one = c.in_ok-push-in-Unseen-marks.ensures.items in
    let two = c.in_ok-push-in-Unseen-marks-2.ensures.items in
    let same : c.push-in-Unseen-marks.new.self.items ≡ c.loop-top.path.items ++ j ∷ [] = two ∙ ap (λ xs. xs ++ j ∷ []) (one ∙ sym popped) in
    let q = subst (Path c.args.types.now c.loop-top.types c.args.shapes.now _ _) (sym same)
    (path_grows c.args.types.now c.loop-top.types c.args.shapes.now _ c.loop-top.marks c.loop-top.path.items c.pop.new.self.items c.in-Some.top c.requires.formed p popped
    j c.in-Some-next_part.ensures.within c.in-Some-next_part.ensures.part.part c.in-Unseen-marks.is) in
    record { path = q; kinds = c.loop-top.invariant.kinds; constants = c.loop-top.invariant.constants }

pub returns-in-Active : goal.returns-in-Active
returns-in-Active c =
    let popped = rw c.in-Some.is at c.pop.ensures.items in
    let p = c.loop-top.invariant.path in
    record {
      settled = λ no. absurd (cc);
      none = λ _. path_turns_back c.args.types.now c.loop-top.types c.args.shapes.now _ c.loop-top.marks c.loop-top.path.items c.pop.new.self.items c.in-Some.top c.requires.formed p popped
          c.in-Some-next_part.part c.in-Some-next_part.ensures.within c.in-Some-next_part.ensures.part.part c.in-Active.is c.requires.settling.held;
      kinds = c.loop-top.invariant.kinds;
      constants = c.loop-top.invariant.constants;
      kept = p.more;
      table = p.table;
    }

pub returns-clause-settled : goal.returns-clause-settled
returns-clause-settled c = λ _.
    let r = c.requires in
    path_ends c.args.types.now c.loop-top.types c.args.shapes.now c.args.marks.now c.loop-top.marks c.loop-top.path.items c.args.i r.i_in r.settling.len c.loop-top.invariant.path (nothing_left c.loop-top.path.items (omega (arith, c.in_default-pop.ensures.cases, c.loop-top.path.ok.0)))
