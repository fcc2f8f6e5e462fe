use Rattle.std.proofs.Common.{sym, ◌∙◌, ap}
use Rattle.ab_logic.specs.Forms.{sign_of}
use Rattle.ab_formulas.specs.Marks.{Marks, marks_of}
use Rattle.ab_norm.specs.ab_store.specs.Trees.{tree_of}
use Rattle.ab_sequents.specs.HeadMarks.{marks_seen}
use Rattle.ab_theory.specs.Levels.{greater, greatest, signs_in}
use Rattle.ab_sequents.specs.Kinds.{level_by}
use Rattle.ab_theory.proofs.Greatest.{greatest-one, greatest-append}
use Rattle.ab_sequents.proofs.levels.+greatest_in.Goals as goal

pub returns-in-Nowhere : goal.returns-in-Nowhere
returns-in-Nowhere t c = λ types.
    ap (λ (m : Marks). greatest (level_by c.args.kind) (signs_in m)) (sym (ap (marks_seen types c.args.store.now) c.in-Nowhere.is) ∙ c.look_at.ensures.seen types)

pub returns-in-AtAtom : goal.returns-in-AtAtom
returns-in-AtAtom t c = λ types.
    let level = level_by c.args.kind in
    c.level_of.ensures
    ∙ sym (greatest-one level (sign_of c.in-AtAtom.sign))
    ∙ ap (λ (m : Marks). greatest level (signs_in m)) (sym (ap (marks_seen types c.args.store.now) c.in-AtAtom.is) ∙ c.look_at.ensures.seen types)

pub returns-in-AtJudgement : goal.returns-in-AtJudgement
returns-in-AtJudgement t c = λ types.
    let level = level_by c.args.kind in
    c.level_of-in-AtJudgement.ensures
    ∙ sym (greatest-one level (sign_of c.in-AtJudgement.sign))
    ∙ ap (λ (m : Marks). greatest level (signs_in m)) (sym (ap (marks_seen types c.args.store.now) c.in-AtJudgement.is) ∙ c.look_at.ensures.seen types)

pub returns-in-Below : goal.returns-in-Below
returns-in-Below t c = λ types.
    c.greatest_in.ensures types
    ∙ ap (λ (m : Marks). greatest (level_by c.args.kind) (signs_in m)) (sym (ap (marks_seen types c.args.store.now) c.in-Below.is) ∙ c.look_at.ensures.seen types)

pub returns-in-InBoth : goal.returns-in-InBoth
returns-in-InBoth t c = λ types.
    let level = level_by c.args.kind in
    let left = signs_in (marks_of (tree_of types c.args.store.now c.in-InBoth.left)) in
    let right = signs_in (marks_of (tree_of types c.args.store.now c.in-InBoth.right)) in
    c.greater.ensures
    ∙ ap (λ k. greater k c.greatest_in-in-InBoth-2.result) (c.greatest_in-in-InBoth.ensures types)
    ∙ ap (greater (greatest level left)) (c.greatest_in-in-InBoth-2.ensures types)
    ∙ sym (greatest-append level left right)
    ∙ ap (λ (m : Marks). greatest level (signs_in m)) (sym (ap (marks_seen types c.args.store.now) c.in-InBoth.is) ∙ c.look_at.ensures.seen types)
