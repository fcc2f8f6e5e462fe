use Rattle.std.proofs.Common.{inl, inr, refl, sym, subst, rules}
use Rattle.ab_formulas.specs.Marks.{MarksServeIn}
use Rattle.ab_norm.specs.ab_store.specs.declared.node.TermId.{TermId}
use Rattle.ab_logic.specs.Worlds.{read, Holds}
use Rattle.ab_logic.specs.WorldGrowth.{Grows}
use Rattle.ab_logic.specs.declared.world.World.{World}
use Rattle.ab_rules.proofs.closing_rules.initial.Goals as goal

pub returns-then-not-alike-clause-answers : goal.returns-then-not-alike-clause-answers
returns-then-not-alike-clause-answers c =
    inr (_, sym (c.in-Some.ensures.reads c.args.world.now), inl (λ e. let yes = c.in_ok-alike.ensures.decides.1 e in let no = c.if-not-alike.true in cc, refl))

-- the marks, as they read before
in_old : (w v : World) → Grows w v → (a b : TermId) → Holds w a → Holds w b → MarksServeIn (read v a) (read v b) → MarksServeIn (read w a) (read w b)
in_old w v grown a b p q m = subst (λ t. MarksServeIn t (read w b)) (grown.readings a p) (subst (λ t. MarksServeIn (read v a) t) (grown.readings b q) m)

in_new : (w v : World) → Grows w v → (a b : TermId) → Holds w a → Holds w b → MarksServeIn (read w a) (read w b) → MarksServeIn (read v a) (read v b)
in_new w v grown a b p q m = subst (λ t. MarksServeIn t (read v b)) (sym (grown.readings a p)) (subst (λ t. MarksServeIn (read w a) t) (sym (grown.readings b q)) m)

pub returns-then-not-serves-clause-answers : goal.returns-then-not-serves-clause-answers
returns-then-not-serves-clause-answers c =
    let w = c.args.world.now in
    let v = c.are_equal_without_marks.new.world in
    let F = c.in-Some.formula in
    let C = c.args.sequent.now.conclusion in
    let held = c.in-Some.ensures.held w c.requires.held in
    inr (
      _,
      sym (c.in-Some.ensures.reads w),
      inr (
        c.in_ok-alike.ensures.decides.0 c.if-not-alike.false,
        inl (λ m. let yes = c.marks_serve_in-serves.ensures.1 (in_new w v c.in_ok-alike.ensures.grows C F c.requires.held.conclusion held m) in let no = c.if-not-serves.true in cc, refl),
      ),
    )

pub returns-clause-answers : goal.returns-clause-answers
returns-clause-answers c =
    let w = c.args.world.now in
    let v = c.are_equal_without_marks.new.world in
    let F = c.in-Some.formula in
    let C = c.args.sequent.now.conclusion in
    let held = c.in-Some.ensures.held w c.requires.held in (
      (
        _,
        sym (c.in-Some.ensures.reads w),
        (
          c.in_ok-alike.ensures.decides.0 c.if-not-alike.false,
          (in_old w v c.in_ok-alike.ensures.grows C F c.requires.held.conclusion held (c.marks_serve_in-serves.ensures.0 c.if-not-serves.false), search rules),
        ),
      ),
      search rules,
    )
