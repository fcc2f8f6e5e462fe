use Rattle.std.proofs.Common.{ℕ}
use Rattle.ab_term.specs.Terms.{no_terms}
use Rattle.ab_term.proofs.Expansions.{reduce-some, reduce-first_order}
use Rattle.ab_term.proofs.Hinted.{reduce-names}
use Rattle.ab_term.proofs.eta_forms.expansion_takes_arguments.Goals as goal

pub returns-clause-some : goal.returns-clause-some
returns-clause-some g c = λ sg G A B h ts ds. reduce-some sg ℕ h no_terms ds

pub returns-clause-names : goal.returns-clause-names
returns-clause-names g c = λ sg G A B x h hs n. reduce-names sg x h n

pub returns-clause-first_order : goal.returns-clause-first_order
returns-clause-first_order g c = λ sg G A x h ts k f ds. reduce-first_order sg x h no_terms ds f
