use Rattle.ab_session.specs.ab_states.specs.Reply.{completed, admitted}
use Rattle.ab_run.proofs.Derived.{all_borne_out}
use Rattle.ab_run.proofs.laws.completions_are_derived.Goals as goal

pub returns : goal.returns
returns c = record {
  completed = λ way text name loads r x. all_borne_out (completed name) x.reports;
  admitted = λ way text name names loads r x. all_borne_out (admitted name names) x.reports;
}
