use Rattle.ab_state_derivations.proofs.Histories.{first_history, history_on, told_so, history_here, goals_are_sequents}
use Rattle.ab_state_derivations.proofs.Searches.{searches_derived}
use Rattle.ab_state_derivations.proofs.state_laws.effects_keep_derivations.Goals as goal

pub returns-clause-beginning : goal.returns-clause-beginning
returns-clause-beginning c = first_history

pub returns-clause-kept : goal.returns-clause-kept
returns-clause-kept c s t bytes loads r sound replayed history h = history_on h sound replayed (searches_derived s bytes sound replayed) history

pub returns-clause-told : goal.returns-clause-told
returns-clause-told c s t bytes loads r sound replayed history h = told_so h sound replayed (searches_derived s bytes sound replayed) history

pub returns-clause-here : goal.returns-clause-here
returns-clause-here c s replayed history = history_here s replayed history

pub returns-clause-sequents : goal.returns-clause-sequents
returns-clause-sequents c s a sound has there = goals_are_sequents s a sound has there
