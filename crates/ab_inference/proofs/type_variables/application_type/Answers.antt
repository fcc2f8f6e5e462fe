use Rattle.std.proofs.Common.{◌≡◌, ℕ, ◌++◌, ◌∷◌, [], length, List, sym, ◌∙◌, subst, refl, ap, arith}
use Rattle.ab_inference.specs.declared.shape.Shape.{Shape}
use Rattle.ab_inference.specs.declared.shape.Shape.TheVariants.{Open, Arrow}
use Rattle.ab_inference.specs.declared.work.Wanted.TheVariants.{Equal}
use Rattle.ab_inference.specs.Work.{Meeting, Part}
use Rattle.ab_inference.specs.VariableSteps.{Step, IsApplied}
use Rattle.ab_inference.proofs.Pushing.{applied_step, applied_none, pushed_length}
use Rattle.ab_inference.proofs.type_variables.application_type.Goals as goal

-- the two that were pushed
both : (s one two : List Shape) (n a : ℕ) → length s ≡ n → one ≡ s ++ Open ∷ [] → two ≡ one ++ Arrow a n ∷ [] → two ≡ (s ++ Open ∷ []) ++ Arrow a (length s) ∷ []
both s one two n a l e f = f ∙ (ap (λ xs. xs ++ Arrow a n ∷ []) e ∙ ap (λ m. (s ++ Open ∷ []) ++ Arrow a m ∷ []) (sym l))

pub returns-then-met : goal.returns-then-met
returns-then-met c =
    let r = c.requires in
    let t = c.args.types.now in
    let s = c.args.shapes.now.items in
    let n : length s ≡ c.len-node.result = omega (arith, c.len-node.ensures, c.args.shapes.now.ok.0) in
    let m : length (s ++ Open ∷ []) ≡ c.len-arrow.result = ap length (sym c.in_ok-push.ensures.items) ∙ omega (arith, c.len-arrow.ensures, c.push.new.self.ok.0) in
    let whole = both s c.push.new.self.items c.push-2.new.self.items c.len-node.result c.args.argument n c.in_ok-push.ensures.items c.in_ok-push-2.ensures.items in
    let met : Meeting t ((s ++ Open ∷ []) ++ Arrow c.args.argument (length s) ∷ []) c.equate.new.shapes.items (Equal c.args.function (length (s ++ Open ∷ []))) =
    subst (λ i. Meeting t ((s ++ Open ∷ []) ++ Arrow c.args.argument (length s) ∷ []) c.equate.new.shapes.items (Equal c.args.function i)) (sym m)
    (subst (λ l. Meeting t l c.equate.new.shapes.items (Equal c.args.function c.len-arrow.result)) whole (c.in_ok-met.ensures.met c.if-met.true)) in
    subst (λ i. Step t s c.equate.new.shapes.items i (IsApplied c.args.function c.args.argument)) n
    (applied_step t s c.args.function c.args.argument r.formed r.held r.function_in r.argument_in c.equate.new.shapes.items (c.equate.ensures.len ∙ ap length whole) met)

pub returns-else-met : goal.returns-else-met
returns-else-met c =
    let r = c.requires in
    let t = c.args.types.now in
    let s = c.args.shapes.now.items in
    let n : length s ≡ c.len-node.result = omega (arith, c.len-node.ensures, c.args.shapes.now.ok.0) in
    let m : length (s ++ Open ∷ []) ≡ c.len-arrow.result = ap length (sym c.in_ok-push.ensures.items) ∙ omega (arith, c.len-arrow.ensures, c.push.new.self.ok.0) in
    let whole = both s c.push.new.self.items c.push-2.new.self.items c.len-node.result c.args.argument n c.in_ok-push.ensures.items c.in_ok-push-2.ensures.items in
    let none : Part t ((s ++ Open ∷ []) ++ Arrow c.args.argument (length s) ∷ []) (Equal c.args.function (length (s ++ Open ∷ []))) =
    subst (λ i. Part t ((s ++ Open ∷ []) ++ Arrow c.args.argument (length s) ∷ []) (Equal c.args.function i)) (sym m)
    (subst (λ l. Part t l (Equal c.args.function c.len-arrow.result)) whole (c.in_ok-met.ensures.apart c.if-met.false)) in
    applied_none t s c.args.function c.args.argument r.formed r.held r.function_in r.argument_in none
