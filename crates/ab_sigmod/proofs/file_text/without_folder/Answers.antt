use Rattle.std.proofs.Common.{◌≡◌, drop, sym, subst, arith}
use Rattle.ab_sigmod.specs.FileNames.{IsTitle}
use Rattle.ab_sigmod.proofs.Sentences.{to_end, behind_slash, whole_name}
use Rattle.ab_sigmod.proofs.file_text.without_folder.Goals as goal
use Rattle.ab_sigmod.proofs.file_text.without_folder.Goals.{then-loop-start-test+else-base-start-ne47, else-loop-start-test}

pub returns : goal.returns
returns c =
    let base = c.args.base.now in
    let start = c.loop-start.start in
    let title : IsTitle base (drop start base) = elim c.loop-start-test.branch [
      | then-loop-start-test+else-base-start-ne47 w ↦ behind_slash base start c.loop-start.invariant.1 _ w.loop-start-test.true c.loop-start.invariant.0 w.if-base-start-ne47.false
      | else-loop-start-test w ↦
          let none : start ≡ 0 = omega (arith, w.loop-start-test.false) in
          whole_name base start c.loop-start.invariant.1 none
    ] in
    subst (IsTitle base) (sym (to_end base start)) title
