use Rattle.std.specs.Prelude.{◌≡◌, [], Some, None, map, nat_lt, All, Bool, false, IsTrue}
use Rattle.std.specs.Option.{option_map}
use Rattle.std.proofs.Common.{length, refl, sym, ◌∙◌, ap, subst, rules}
use Rattle.std.proofs.lemmas.List.{length-map}
use Rattle.ab_grammar.specs.CommandTrees as told
use Rattle.ab_syntax.specs.Commands.{argument_of, instance_of}
use Rattle.ab_logic.specs.SequentReadings.{sequent_of}
use Rattle.ab_logic.specs.Worlds.{read, declarations_of}
use Rattle.ab_logic.proofs.Growing.{grows_on, still_held}
use Rattle.ab_equations.specs.Labels.{label_of}
use Rattle.ab_theory.specs.Pieces.{pieces, antecedent_count, AllServe}
use Rattle.ab_uses.specs.GivenReadings.{given_of, HoldsIfAny}
use Rattle.ab_uses.specs.UseReadings.{aim_of, MayBeUsed}
use Rattle.ab_theory.specs.Uses.{Aim}
use Rattle.ab_theory.specs.UseAnswers.{IsUsedFor}
use Rattle.ab_effects.specs.ProofCommands.{effect, left_to_show}
use Rattle.ab_effects.specs.Row.{leads}
use Rattle.ab_effects.specs.FormulaUses.{given_twice, formulas_in, using}
use Rattle.ab_hypothesis.specs.ab_steps.specs.ProofEffects.{RefusedBy}
use Rattle.ab_proofcmd.specs.GivenTerms.{AreGiven, AreNotGiven}
use Rattle.ab_proofcmd.proofs.Given.{same_fault}
use Rattle.ab_hypothesis.specs.ab_steps.specs.declared.fault.ProofCommandFault.TheVariants.{Mark}
use Rattle.ab_proofcmd.specs.Questions.{Reads}
use Rattle.ab_proofcmd.proofs.ApplyRows.{apply_ungiven, apply_unserved, apply_unused}
use Rattle.ab_proofcmd.proofs.Usable.{IsGiven, few_enough, sequent_here, apply_aim, apply_usable, serve_here, serve_there, unused_here, used_here}
use Rattle.ab_proofcmd.proofs.Carried.{asks_apply}
use Rattle.ab_proofcmd.proofs.application.ask.Goals as goal

pub returns-in_err-terms-clause-refused : goal.returns-in_err-terms-clause-refused
returns-in_err-terms-clause-refused g c fault same =
    let w = c.args.world.now in
    let s = sequent_of w c.args.goal.now in
    let vs = map argument_of c.args.arguments.now in
    let is = map instance_of c.args.given.now in
    let F = read w c.in_ok-formula.formula in
    let l = label_of c.args.label.now in
    let H = c.args.name.now in
    let cause = c.in_err-terms.field-0.0 in
    let n = length c.args.arguments.now in
    let counted : n ≡ length vs = sym (length-map c.args.arguments.now argument_of) in
    let many : nat_lt c.in_ok-antecedents.antecedents n ≡ nat_lt (antecedent_count F) (length vs) =
    ap (λ k. nat_lt k n) c.in_ok-antecedents.ensures.count ∙ ap (nat_lt (antecedent_count F)) counted in
    let none : AreNotGiven (declarations_of w) s (pieces (length vs) F) is (nat_lt (antecedent_count F) (length vs)) cause =
    subst (λ b. AreNotGiven (declarations_of w) s (pieces (length vs) F) is b cause) many
    (subst (λ n. AreNotGiven (declarations_of w) s (pieces n F) is (nat_lt c.in_ok-antecedents.antecedents (length c.args.arguments.now)) cause) counted (c.in_err-terms.ensures.refused cause refl)) in
    subst (RefusedBy (effect (declarations_of w) l (told.apply H vs is) s)) (same_fault c.from_residual-in_err-terms.result cause fault c.from_residual-in_err-terms.ensures.1 same)
    (apply_ungiven (declarations_of w) l H vs is s F c.in_ok-formula.ensures.found cause none)

pub use_of-requires-clause-goal : goal.use_of-requires-clause-goal
use_of-requires-clause-goal g c = still_held c.args.world.now c.read_given.new.world c.read_given.ensures.grows c.args.goal.now c.requires.goal

pub use_of-requires-clause-sequent : goal.use_of-requires-clause-sequent
use_of-requires-clause-sequent g c =
    sequent_here c.args.world.now c.read_given.new.world c.args.goal.now c.in_ok-formula.formula c.read_given.ensures.grows c.read_given.ensures.declared c.requires.goal c.in_ok-formula.ensures.held c.requires.sequent

pub use_of-requires-clause-formula : goal.use_of-requires-clause-formula
use_of-requires-clause-formula g c = c.read_given.ensures.grows.ids c.in_ok-formula.formula c.in_ok-formula.ensures.held

pub use_of-requires-clause-given : goal.use_of-requires-clause-given
use_of-requires-clause-given g c =
    let same : c.as_slice-2.result.now ≡ c.in_ok-terms.terms.items = search rules in
    subst (All (IsGiven c.read_given.new.world)) (sym same) c.in_ok-terms.ensures.held

pub use_of-requires-clause-hypotheses : goal.use_of-requires-clause-hypotheses
use_of-requires-clause-hypotheses g c =
    let m = c.read_given.new.world in
    c.in_ok-aim.ensures.held m (still_held c.args.world.now m c.read_given.ensures.grows c.args.goal.now c.requires.goal)

pub use_of-requires-clause-conclusion : goal.use_of-requires-clause-conclusion
use_of-requires-clause-conclusion g c = subst (HoldsIfAny c.read_given.new.world) (sym c.in_ok-aim.ensures.alone) tt

pub use_of-requires-clause-usable : goal.use_of-requires-clause-usable
use_of-requires-clause-usable g c =
    let w = c.args.world.now in
    let m = c.read_given.new.world in
    let n = length c.args.arguments.now in
    let a = c.in_ok-aim.aim in
    let same : c.as_slice-2.result.now ≡ c.in_ok-terms.terms.items = search rules in
    subst (λ ts. MayBeUsed (declarations_of m) (sequent_of m c.args.goal.now) (read m c.in_ok-formula.formula) n (map (given_of m) ts) (aim_of m a)) (sym same)
    (apply_usable w m c.args.goal.now c.in_ok-formula.formula c.read_given.ensures.grows c.read_given.ensures.declared c.requires.goal c.in_ok-formula.ensures.held c.requires.sequent c.requires.world.sentences
    c.args.name.now c.in_ok-formula.ensures.found.named n (map (given_of m) c.in_ok-terms.terms.items) c.in_ok-terms.ensures.fits c.in_ok-terms.ensures.names a (map argument_of c.args.arguments.now) (length-map c.args.arguments.now argument_of)
    (few_enough (given_twice (map instance_of c.args.given.now)) (read w c.in_ok-formula.formula) n c.in_ok-antecedents.antecedents c.in_ok-antecedents.ensures.count c.in_ok-terms.ensures.given.shaped) (c.in_ok-aim.ensures.aim m))

pub returns-in_err-found-clause-grows : goal.returns-in_err-found-clause-grows
returns-in_err-found-clause-grows g c = grows_on c.args.world.now c.read_given.new.world c.use_of.new.world c.read_given.ensures.grows c.use_of.ensures.grows

pub returns-clause-grows : goal.returns-clause-grows
returns-clause-grows g c = grows_on c.args.world.now c.read_given.new.world c.use_of.new.world c.read_given.ensures.grows c.use_of.ensures.grows

pub all_serve-requires-clause-hypotheses : goal.all_serve-requires-clause-hypotheses
all_serve-requires-clause-hypotheses g c =
    let m = c.read_given.new.world in
    let listed : c.as_slice.result.now ≡ c.in_ok-aim.aim.hypotheses.items = search rules in
    subst (All (HoldsIfAny m)) (sym listed) (c.in_ok-aim.ensures.held m (still_held c.args.world.now m c.read_given.ensures.grows c.args.goal.now c.requires.goal))

pub returns-then-not-all_serve-clause-refused : goal.returns-then-not-all_serve-clause-refused
returns-then-not-all_serve-clause-refused g c fault e =
    let w = c.args.world.now in
    let m = c.read_given.new.world in
    let goal = c.args.goal.now in
    let D = declarations_of w in
    let s = sequent_of w goal in
    let vs = map argument_of c.args.arguments.now in
    let is = map instance_of c.args.given.now in
    let f = c.in_ok-formula.formula in
    let F = read w f in
    let l = label_of c.args.label.now in
    let H = c.args.name.now in
    let n = length c.args.arguments.now in
    let a = c.in_ok-aim.aim in
    let terms = c.in_ok-terms.terms.items in
    let gs = map (given_of m) terms in
    let grows = c.read_given.ensures.grows in
    let declared = c.read_given.ensures.declared in
    let there = c.in_ok-formula.ensures.held in
    let up = c.in_ok-formula.ensures.found in
    let counted : n ≡ length vs = sym (length-map c.args.arguments.now argument_of) in
    let many : nat_lt c.in_ok-antecedents.antecedents n ≡ nat_lt (antecedent_count F) (length vs) =
    ap (λ k. nat_lt k n) c.in_ok-antecedents.ensures.count ∙ ap (nat_lt (antecedent_count F)) counted in
    let given : AreGiven D s (pieces (length vs) F) is (nat_lt (antecedent_count F) (length vs)) gs =
    subst (λ b. AreGiven D s (pieces (length vs) F) is b gs) many (subst (λ k. AreGiven D s (pieces k F) is (nat_lt c.in_ok-antecedents.antecedents n) gs) counted c.in_ok-terms.ensures.given) in
    let aimed : aim_of m a ≡ record { hypotheses = formulas_in s vs; conclusion = None } =
    apply_aim w m goal f grows declared c.requires.goal there vs a (c.in_ok-aim.ensures.aim m) in
    let listed : c.as_slice.result.now ≡ a.hypotheses.items = search rules in
    let met : map (option_map (read m)) c.as_slice.result.now ≡ formulas_in s vs = ap (map (option_map (read m))) listed ∙ ap (λ (x : Aim). x.hypotheses) aimed in
    let none : ¬ AllServe (pieces (length vs) F) (formulas_in s vs) = λ serve.
    let yes = c.all_serve.ensures.serve.1
    (serve_there w m goal f grows declared c.requires.goal there n (map (option_map (read m)) c.as_slice.result.now) (formulas_in s vs) met
    (subst (λ k. AllServe (pieces k F) (formulas_in s vs)) (sym counted) serve)) in
    let no : c.all_serve.result ≡ false = c.if-not-all_serve.true in
    absurd (cc) in
    let one : Mark ≡ fault = cc in
    subst (RefusedBy (effect D l (told.apply H vs is) s)) one (apply_unserved D l H vs is s F up gs given none)

pub returns-in_err-found-clause-refused : goal.returns-in_err-found-clause-refused
returns-in_err-found-clause-refused g c fault e =
    let w = c.args.world.now in
    let m = c.read_given.new.world in
    let goal = c.args.goal.now in
    let D = declarations_of w in
    let s = sequent_of w goal in
    let vs = map argument_of c.args.arguments.now in
    let is = map instance_of c.args.given.now in
    let f = c.in_ok-formula.formula in
    let F = read w f in
    let l = label_of c.args.label.now in
    let H = c.args.name.now in
    let n = length c.args.arguments.now in
    let a = c.in_ok-aim.aim in
    let terms = c.in_ok-terms.terms.items in
    let gs = map (given_of m) terms in
    let grows = c.read_given.ensures.grows in
    let declared = c.read_given.ensures.declared in
    let there = c.in_ok-formula.ensures.held in
    let up = c.in_ok-formula.ensures.found in
    let counted : n ≡ length vs = sym (length-map c.args.arguments.now argument_of) in
    let many : nat_lt c.in_ok-antecedents.antecedents n ≡ nat_lt (antecedent_count F) (length vs) =
    ap (λ k. nat_lt k n) c.in_ok-antecedents.ensures.count ∙ ap (nat_lt (antecedent_count F)) counted in
    let given : AreGiven D s (pieces (length vs) F) is (nat_lt (antecedent_count F) (length vs)) gs =
    subst (λ b. AreGiven D s (pieces (length vs) F) is b gs) many (subst (λ k. AreGiven D s (pieces k F) is (nat_lt c.in_ok-antecedents.antecedents n) gs) counted c.in_ok-terms.ensures.given) in
    let aimed : aim_of m a ≡ record { hypotheses = formulas_in s vs; conclusion = None } =
    apply_aim w m goal f grows declared c.requires.goal there vs a (c.in_ok-aim.ensures.aim m) in
    let listed : c.as_slice.result.now ≡ a.hypotheses.items = search rules in
    let met : map (option_map (read m)) c.as_slice.result.now ≡ formulas_in s vs = ap (map (option_map (read m))) listed ∙ ap (λ (x : Aim). x.hypotheses) aimed in
    let served : IsTrue c.all_serve.result = c.if-not-all_serve.false in
    let serve : AllServe (pieces (length vs) F) (formulas_in s vs) =
    subst (λ k. AllServe (pieces k F) (formulas_in s vs)) counted
    (serve_here w m goal f grows declared c.requires.goal there n (map (option_map (read m)) c.as_slice.result.now) (formulas_in s vs) met (c.all_serve.ensures.serve.0 served)) in
    let same : c.as_slice-2.result.now ≡ terms = search rules in
    let cause = c.in_err-found.field-0.0 in
    let aim : Aim = record { hypotheses = formulas_in s vs; conclusion = None } in
    let unused : RefusedBy (left_to_show (using s gs (pieces (length vs) F) aim F) (λ K. leads [])) cause =
    subst (λ k. RefusedBy (left_to_show (using s gs (pieces k F) aim F) (λ K. leads [])) cause) counted
    (subst (λ ts. RefusedBy (left_to_show (using s (map (given_of m) ts) (pieces n F) aim F) (λ K. leads [])) cause) same
    (unused_here w m goal f grows declared c.requires.goal there n c.as_slice-2.result.now a aim cause aimed (c.in_err-found.ensures.refused cause refl))) in
    subst (RefusedBy (effect D l (told.apply H vs is) s)) (same_fault c.from_residual-in_err-found.result cause fault c.from_residual-in_err-found.ensures.1 e)
    (apply_unused D l H vs is s F up gs given serve cause unused)

pub returns-clause-asked : goal.returns-clause-asked
returns-clause-asked g c =
    let w = c.args.world.now in
    let m = c.read_given.new.world in
    let goal = c.args.goal.now in
    let D = declarations_of w in
    let s = sequent_of w goal in
    let vs = map argument_of c.args.arguments.now in
    let is = map instance_of c.args.given.now in
    let f = c.in_ok-formula.formula in
    let F = read w f in
    let l = label_of c.args.label.now in
    let H = c.args.name.now in
    let n = length c.args.arguments.now in
    let a = c.in_ok-aim.aim in
    let terms = c.in_ok-terms.terms.items in
    let gs = map (given_of m) terms in
    let grows = c.read_given.ensures.grows in
    let declared = c.read_given.ensures.declared in
    let there = c.in_ok-formula.ensures.held in
    let up = c.in_ok-formula.ensures.found in
    let counted : n ≡ length vs = sym (length-map c.args.arguments.now argument_of) in
    let many : nat_lt c.in_ok-antecedents.antecedents n ≡ nat_lt (antecedent_count F) (length vs) =
    ap (λ k. nat_lt k n) c.in_ok-antecedents.ensures.count ∙ ap (nat_lt (antecedent_count F)) counted in
    let given : AreGiven D s (pieces (length vs) F) is (nat_lt (antecedent_count F) (length vs)) gs =
    subst (λ b. AreGiven D s (pieces (length vs) F) is b gs) many (subst (λ k. AreGiven D s (pieces k F) is (nat_lt c.in_ok-antecedents.antecedents n) gs) counted c.in_ok-terms.ensures.given) in
    let aimed : aim_of m a ≡ record { hypotheses = formulas_in s vs; conclusion = None } =
    apply_aim w m goal f grows declared c.requires.goal there vs a (c.in_ok-aim.ensures.aim m) in
    let listed : c.as_slice.result.now ≡ a.hypotheses.items = search rules in
    let met : map (option_map (read m)) c.as_slice.result.now ≡ formulas_in s vs = ap (map (option_map (read m))) listed ∙ ap (λ (x : Aim). x.hypotheses) aimed in
    let served : IsTrue c.all_serve.result = c.if-not-all_serve.false in
    let serve : AllServe (pieces (length vs) F) (formulas_in s vs) =
    subst (λ k. AllServe (pieces k F) (formulas_in s vs)) counted
    (serve_here w m goal f grows declared c.requires.goal there n (map (option_map (read m)) c.as_slice.result.now) (formulas_in s vs) met (c.all_serve.ensures.serve.0 served)) in
    let same : c.as_slice-2.result.now ≡ terms = search rules in
    let v = c.use_of.new.world in
    let aim : Aim = record { hypotheses = formulas_in s vs; conclusion = None } in
    let k = c.in_ok-found.ensures.found in
    let used : IsUsedFor (using s gs (pieces (length vs) F) aim F) k.0 =
    subst (λ j. IsUsedFor (using s gs (pieces j F) aim F) k.0) counted
    (subst (λ ts. IsUsedFor (using s (map (given_of m) ts) (pieces n F) aim F) k.0) same
    (used_here w m goal f grows declared c.requires.goal there n c.as_slice-2.result.now a aim k.0 aimed k.1)) in
    asks_apply w m v f c.in_ok-terms.terms c.in_ok-found.found grows c.use_of.ensures.grows there c.in_ok-terms.ensures.held D l H vs is s k.0
    (record { looked_up = up; given = given; serve = serve; used = used }) c.in_ok-found.ensures.held
    (subst (λ hs. Reads v hs c.in_ok-found.found k.0) (ap (λ (x : Aim). x.hypotheses) aimed) k.2)

pub all_serve-requires-clause-formula : goal.all_serve-requires-clause-formula
all_serve-requires-clause-formula g c = c.read_given.ensures.grows.ids c.in_ok-formula.formula c.in_ok-formula.ensures.held
