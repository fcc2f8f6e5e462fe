use Rattle.std.specs.Prelude.{Result, Ok, Some, None}
use Rattle.std.specs.declared.alloc.AllocError.{AllocError}
use Rattle.std.proofs.Common.{◌≡◌, ◌⊎◌, inl, inr, ℕ, refl, sym, ◌∙◌, ap}
use Rattle.ab_steps.specs.declared.goal_steps.Attempted.{Attempted}
use Rattle.ab_steps.specs.declared.goal_steps.Attempted.TheVariants.{Taken, Failed, Stuck}
use Rattle.ab_theory.specs.Derivations.{debts_of}
use Rattle.ab_steps.specs.ab_kernel.specs.ab_rules.specs.RuleAnswers.{step_of}
use Rattle.ab_steps.proofs.Following.{follows_free}
use Rattle.ab_search.proofs.kernel_steps.try_step.Goals as goal

got : (r : Result Attempted AllocError) (a : Attempted) (n : ℕ) → r ≡ Ok a → r ≡ Ok (Taken n) → a ≡ Taken n
got r a n x y =
    let both : Ok a ≡ Ok (Taken n) = sym x ∙ y in
    cc

refused : (a : Attempted) (n : ℕ) → ((i : ℕ) × (a ≡ Failed i)) ⊎ ((i : ℕ) × (a ≡ Stuck i)) → a ≡ Taken n → ⊥
refused a n (inl x) e =
    let both : Failed x.0 ≡ Taken n = sym x.1 ∙ e in
    absurd (cc)
refused a n (inr x) e =
    let both : Stuck x.0 ≡ Taken n = sym x.1 ∙ e in
    absurd (cc)

pub returns-in_err-count-clause-follows : goal.returns-in_err-count-clause-follows
returns-in_err-count-clause-follows g c =
    follows_free (debts_of (step_of c.args.world.now c.args.step)) c.requires.free c.attempt_solving.ensures.follows

pub returns-in-Taken-clause-follows : goal.returns-in-Taken-clause-follows
returns-in-Taken-clause-follows g c =
    follows_free (debts_of (step_of c.args.world.now c.args.step)) c.requires.free c.attempt_solving.ensures.follows

pub returns-in-Taken-clause-taken : goal.returns-in-Taken-clause-taken
returns-in-Taken-clause-taken g c = λ n e before behind s at.
    let x = c.attempt_solving.ensures.took c.in-Taken.count (c.in_ok-count.was ∙ ap Ok c.in-Taken.is) before behind s at in
    let same : c.in-Taken.count ≡ n = cc in
    (x.0, x.1.1 ∙ same, x.2)

pub returns-in-Taken-clause-kept : goal.returns-in-Taken-clause-kept
returns-in-Taken-clause-kept g c = λ none. absurd (none c.in-Taken.count refl)

pub returns-in-Failed : goal.returns-in-Failed
returns-in-Failed g c = record {
  follows = follows_free (debts_of (step_of c.args.world.now c.args.step)) c.requires.free c.attempt_solving.ensures.follows;
  taken = λ n e. absurd (cc);
  kept = λ none. c.attempt_solving.ensures.kept (λ n e. refused c.in_ok-count.field-0 n c.in-Failed.is (got c.attempt_solving.result c.in_ok-count.field-0 n c.in_ok-count.was e));
  steps = c.attempt_solving.ensures.steps;
}
