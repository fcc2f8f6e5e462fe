use Rattle.std.specs.Prelude.{◌≡◌, ℕ, [], Some, None, map, All, Bool, false, IsTrue}
use Rattle.std.proofs.Common.{refl, sym, ◌∙◌, ap, subst, rules, arith}
use Rattle.ab_grammar.specs.CommandTrees as told
use Rattle.ab_syntax.specs.Commands.{instance_of}
use Rattle.ab_formulas.specs.Marks.{MarksServeIn}
use Rattle.ab_logic.specs.SequentReadings.{sequent_of}
use Rattle.ab_logic.specs.Worlds.{read, declarations_of}
use Rattle.ab_logic.proofs.Growing.{grows_on, still_held}
use Rattle.ab_theory.specs.Pieces.{pieces, behind, antecedent_count}
use Rattle.ab_theory.specs.UseAnswers.{IsUsedFor}
use Rattle.ab_theory.specs.Uses.{Aim}
use Rattle.ab_uses.specs.GivenReadings.{given_of, HoldsIfAny}
use Rattle.ab_uses.specs.UseReadings.{aim_of, MayBeUsed}
use Rattle.ab_effects.specs.ProofCommands.{effect, left_to_show, repeated}
use Rattle.ab_effects.specs.Row.{leads}
use Rattle.ab_effects.specs.FormulaUses.{formula_named, using}
use Rattle.ab_hypothesis.specs.ab_steps.specs.ProofEffects.{RefusedBy}
use Rattle.ab_hypothesis.specs.ab_steps.specs.declared.fault.ProofCommandFault.TheVariants.{NoHypothesis, Mark}
use Rattle.ab_proofcmd.specs.GivenTerms.{AreGiven, AreNotGiven}
use Rattle.ab_proofcmd.proofs.Given.{same_fault}
use Rattle.ab_proofcmd.specs.Questions.{Reads}
use Rattle.ab_proofcmd.proofs.ApplyRows.{backchain_unnamed, backchain_ungiven, backchain_unserved, backchain_unused}
use Rattle.ab_proofcmd.proofs.Usable.{IsGiven, sequent_here, backchain_aim, backchain_usable, unused_here, used_here}
use Rattle.ab_proofcmd.proofs.Carried.{asks_backchain}
use Rattle.ab_proofcmd.proofs.backchaining.ask.Goals as goal

pub returns-in_err-terms-clause-refused : goal.returns-in_err-terms-clause-refused
returns-in_err-terms-clause-refused g c fault e l =
    let w = c.args.world.now in
    let s = sequent_of w c.args.goal.now in
    let is = map instance_of c.args.given.now in
    let F = read w c.in-Some.formula in
    let H = c.args.name.now in
    let cause = c.in_err-terms.field-0.0 in
    let none : AreNotGiven (declarations_of w) s (pieces (antecedent_count F) F) is false cause =
    subst (λ n. AreNotGiven (declarations_of w) s (pieces n F) is false cause) c.in_ok-count.ensures.count (c.in_err-terms.ensures.refused cause refl) in
    subst (RefusedBy (effect (declarations_of w) l (told.backchain H is) s)) (same_fault c.from_residual-in_err-terms.result cause fault c.from_residual-in_err-terms.ensures.1 e)
    (backchain_ungiven (declarations_of w) l H is s F (sym c.in-Some.ensures.reads) cause none)

pub marks_serve_in-requires-clause-asked : goal.marks_serve_in-requires-clause-asked
marks_serve_in-requires-clause-asked g c = c.read_given.ensures.grows.ids c.args.goal.now.conclusion c.requires.goal.conclusion

pub returns-then-not-marks_serve_in-clause-refused : goal.returns-then-not-marks_serve_in-clause-refused
returns-then-not-marks_serve_in-clause-refused g c fault e l =
    let w = c.args.world.now in
    let m = c.read_given.new.world in
    let goal = c.args.goal.now in
    let D = declarations_of w in
    let s = sequent_of w goal in
    let is = map instance_of c.args.given.now in
    let f = c.in-Some.formula in
    let F = read w f in
    let H = c.args.name.now in
    let n = c.in_ok-count.count in
    let N = antecedent_count F in
    let terms = c.in_ok-terms.terms.items in
    let gs = map (given_of m) terms in
    let grows = c.read_given.ensures.grows in
    let declared = c.read_given.ensures.declared in
    let there = c.in-Some.ensures.held in
    let named : formula_named D s H ≡ Some F = sym c.in-Some.ensures.reads in
    let counted : n ≡ N = c.in_ok-count.ensures.count in
    let given : AreGiven D s (pieces N F) is false gs = subst (λ k. AreGiven D s (pieces k F) is false gs) counted c.in_ok-terms.ensures.given in
    let behind_is : read m c.formula_behind.result ≡ behind N F =
    c.formula_behind.ensures.reads ∙ ap (behind n) (grows.readings f there) ∙ ap (λ k. behind k F) counted in
    let conclusion_is : read m goal.conclusion ≡ read w goal.conclusion = grows.readings goal.conclusion c.requires.goal.conclusion in
    let none : ¬ MarksServeIn s.conclusion (behind N F) = λ serve.
    let yes = c.marks_serve_in.ensures.1
    (subst (λ A. MarksServeIn A (read m c.formula_behind.result)) (sym conclusion_is) (subst (MarksServeIn s.conclusion) (sym behind_is) serve)) in
    let no : c.marks_serve_in.result ≡ false = c.if-not-marks_serve_in.true in
    absurd (cc) in
    let one : Mark ≡ fault = cc in
    subst (RefusedBy (effect D l (told.backchain H is) s)) one (backchain_unserved D l H is s F named gs given none)

pub use_of-requires-clause-goal : goal.use_of-requires-clause-goal
use_of-requires-clause-goal g c = still_held c.args.world.now c.read_given.new.world c.read_given.ensures.grows c.args.goal.now c.requires.goal

pub use_of-requires-clause-sequent : goal.use_of-requires-clause-sequent
use_of-requires-clause-sequent g c =
    sequent_here c.args.world.now c.read_given.new.world c.args.goal.now c.in-Some.formula c.read_given.ensures.grows c.read_given.ensures.declared c.requires.goal c.in-Some.ensures.held c.requires.sequent

pub use_of-requires-clause-formula : goal.use_of-requires-clause-formula
use_of-requires-clause-formula g c = c.read_given.ensures.grows.ids c.in-Some.formula c.in-Some.ensures.held

pub use_of-requires-clause-given : goal.use_of-requires-clause-given
use_of-requires-clause-given g c =
    let same : c.as_slice.result.now ≡ c.in_ok-terms.terms.items = search rules in
    subst (All (IsGiven c.read_given.new.world)) (sym same) c.in_ok-terms.ensures.held

pub use_of-requires-clause-conclusion : goal.use_of-requires-clause-conclusion
use_of-requires-clause-conclusion g c =
    let m = c.read_given.new.world in
    subst (HoldsIfAny m) (sym c.in_ok-aim.ensures.conclusion) (c.read_given.ensures.grows.ids c.args.goal.now.conclusion c.requires.goal.conclusion)

pub use_of-requires-clause-usable : goal.use_of-requires-clause-usable
use_of-requires-clause-usable g c =
    let w = c.args.world.now in
    let m = c.read_given.new.world in
    let n = c.in_ok-count.count in
    let a = c.in_ok-aim.aim in
    let same : c.as_slice.result.now ≡ c.in_ok-terms.terms.items = search rules in
    subst (λ ts. MayBeUsed (declarations_of m) (sequent_of m c.args.goal.now) (read m c.in-Some.formula) n (map (given_of m) ts) (aim_of m a)) (sym same)
    (backchain_usable w m c.args.goal.now c.in-Some.formula c.read_given.ensures.grows c.read_given.ensures.declared c.requires.goal c.in-Some.ensures.held c.requires.sequent c.requires.world.sentences
    c.args.name.now (sym c.in-Some.ensures.reads) n (map (given_of m) c.in_ok-terms.terms.items) c.in_ok-terms.ensures.fits c.in_ok-terms.ensures.names a (let counted = c.in_ok-count.ensures.count in omega (arith, counted)) (c.in_ok-aim.ensures.aim m))

pub returns-in_err-found-clause-grows : goal.returns-in_err-found-clause-grows
returns-in_err-found-clause-grows g c = grows_on c.args.world.now c.read_given.new.world c.use_of.new.world c.read_given.ensures.grows c.use_of.ensures.grows

pub returns-in_err-found-clause-refused : goal.returns-in_err-found-clause-refused
returns-in_err-found-clause-refused g c fault e l =
    let w = c.args.world.now in
    let m = c.read_given.new.world in
    let goal = c.args.goal.now in
    let D = declarations_of w in
    let s = sequent_of w goal in
    let is = map instance_of c.args.given.now in
    let f = c.in-Some.formula in
    let F = read w f in
    let H = c.args.name.now in
    let n = c.in_ok-count.count in
    let N = antecedent_count F in
    let terms = c.in_ok-terms.terms.items in
    let gs = map (given_of m) terms in
    let grows = c.read_given.ensures.grows in
    let declared = c.read_given.ensures.declared in
    let there = c.in-Some.ensures.held in
    let named : formula_named D s H ≡ Some F = sym c.in-Some.ensures.reads in
    let counted : n ≡ N = c.in_ok-count.ensures.count in
    let given : AreGiven D s (pieces N F) is false gs = subst (λ k. AreGiven D s (pieces k F) is false gs) counted c.in_ok-terms.ensures.given in
    let behind_is : read m c.formula_behind.result ≡ behind N F =
    c.formula_behind.ensures.reads ∙ ap (behind n) (grows.readings f there) ∙ ap (λ k. behind k F) counted in
    let conclusion_is : read m goal.conclusion ≡ read w goal.conclusion = grows.readings goal.conclusion c.requires.goal.conclusion in
    let served : IsTrue c.marks_serve_in.result = c.if-not-marks_serve_in.false in
    let serve : MarksServeIn s.conclusion (behind N F) =
    subst (MarksServeIn s.conclusion) behind_is (subst (λ A. MarksServeIn A (read m c.formula_behind.result)) conclusion_is (c.marks_serve_in.ensures.0 served)) in
    let a = c.in_ok-aim.aim in
    let aimed = backchain_aim w m goal f grows declared c.requires.goal there n a (c.in_ok-aim.ensures.aim m) in
    let same : c.as_slice.result.now ≡ terms = search rules in
    let cause = c.in_err-found.field-0.0 in
    let aim : ℕ → Aim = λ k. record { hypotheses = repeated k; conclusion = Some s.conclusion } in
    let unused : RefusedBy (left_to_show (using s gs (pieces N F) (aim N) F) (λ K. leads [])) cause =
    subst (λ k. RefusedBy (left_to_show (using s gs (pieces k F) (aim k) F) (λ K. leads [])) cause) counted
    (subst (λ ts. RefusedBy (left_to_show (using s (map (given_of m) ts) (pieces n F) (aim n) F) (λ K. leads [])) cause) same
    (unused_here w m goal f grows declared c.requires.goal there n c.as_slice.result.now a (aim n) cause aimed (c.in_err-found.ensures.refused cause refl))) in
    subst (RefusedBy (effect D l (told.backchain H is) s)) (same_fault c.from_residual-in_err-found.result cause fault c.from_residual-in_err-found.ensures.1 e)
    (backchain_unused D l H is s F named gs given serve cause unused)

pub returns-clause-grows : goal.returns-clause-grows
returns-clause-grows g c = grows_on c.args.world.now c.read_given.new.world c.use_of.new.world c.read_given.ensures.grows c.use_of.ensures.grows

pub returns-clause-asked : goal.returns-clause-asked
returns-clause-asked g c =
    let w = c.args.world.now in
    let m = c.read_given.new.world in
    let goal = c.args.goal.now in
    let D = declarations_of w in
    let s = sequent_of w goal in
    let is = map instance_of c.args.given.now in
    let f = c.in-Some.formula in
    let F = read w f in
    let H = c.args.name.now in
    let n = c.in_ok-count.count in
    let N = antecedent_count F in
    let terms = c.in_ok-terms.terms.items in
    let gs = map (given_of m) terms in
    let grows = c.read_given.ensures.grows in
    let declared = c.read_given.ensures.declared in
    let there = c.in-Some.ensures.held in
    let named : formula_named D s H ≡ Some F = sym c.in-Some.ensures.reads in
    let counted : n ≡ N = c.in_ok-count.ensures.count in
    let given : AreGiven D s (pieces N F) is false gs = subst (λ k. AreGiven D s (pieces k F) is false gs) counted c.in_ok-terms.ensures.given in
    let behind_is : read m c.formula_behind.result ≡ behind N F =
    c.formula_behind.ensures.reads ∙ ap (behind n) (grows.readings f there) ∙ ap (λ k. behind k F) counted in
    let conclusion_is : read m goal.conclusion ≡ read w goal.conclusion = grows.readings goal.conclusion c.requires.goal.conclusion in
    let served : IsTrue c.marks_serve_in.result = c.if-not-marks_serve_in.false in
    let serve : MarksServeIn s.conclusion (behind N F) =
    subst (MarksServeIn s.conclusion) behind_is (subst (λ A. MarksServeIn A (read m c.formula_behind.result)) conclusion_is (c.marks_serve_in.ensures.0 served)) in
    let a = c.in_ok-aim.aim in
    let aimed = backchain_aim w m goal f grows declared c.requires.goal there n a (c.in_ok-aim.ensures.aim m) in
    let same : c.as_slice.result.now ≡ terms = search rules in
    let v = c.use_of.new.world in
    let aim : ℕ → Aim = λ k. record { hypotheses = repeated k; conclusion = Some s.conclusion } in
    let k = c.in_ok-found.ensures.found in
    let used : IsUsedFor (using s gs (pieces N F) (aim N) F) k.0 =
    subst (λ j. IsUsedFor (using s gs (pieces j F) (aim j) F) k.0) counted
    (subst (λ ts. IsUsedFor (using s (map (given_of m) ts) (pieces n F) (aim n) F) k.0) same
    (used_here w m goal f grows declared c.requires.goal there n c.as_slice.result.now a (aim n) k.0 aimed k.1)) in
    let reads : Reads v (repeated N) c.in_ok-found.found k.0 =
    subst (λ j. Reads v (repeated j) c.in_ok-found.found k.0) counted (subst (λ hs. Reads v hs c.in_ok-found.found k.0) (ap (λ (x : Aim). x.hypotheses) aimed) k.2) in
    asks_backchain w m v f c.in_ok-terms.terms c.in_ok-found.found grows c.use_of.ensures.grows there c.in_ok-terms.ensures.held D H is s k.0
    (record { named = named; given = given; serve = serve; used = used }) c.in_ok-found.ensures.held reads
