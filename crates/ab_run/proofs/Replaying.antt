-- The kept commands of a state lead to it.
use Rattle.std.proofs.Common.{List, [], sym, subst, arith}
use Rattle.std.specs.List.{All}
use Rattle.std.proofs.lemmas.List.Elements.{All-cons}
use Rattle.ab_sigmod.specs.FileLoads.{Load}
use Rattle.ab_lex.specs.Commands.{Item}
use Rattle.ab_session.specs.ab_states.specs.State.{State}
use Rattle.ab_session.specs.ab_states.specs.Replay.{IsReplayed}
use Rattle.ab_session.specs.ab_states.proofs.Replaying.{replays_on}
use Rattle.ab_run.specs.declared.way.Way.{Way}
use Rattle.ab_run.specs.Report.{Moment, Report, Reports, none, next, last, Replies, to_command, to_long}

pub replied : {s : State} {i : Item} {loads : List Load} {m : Moment} → Replies s i loads m → IsReplayed s → IsReplayed m.state
replied (to_command m h b) r = replays_on h r
replied (to_long m a e) r = subst IsReplayed (sym e) r

abbrev HasReplay : Moment → Type 0
HasReplay m = IsReplayed m.state

no_moment : All HasReplay []
no_moment = λ k d l. absurd (omega arith)

pub all_replayed : {w : Way} {s : State} {is : List Item} {loads : List Load} {r : Report} → Reports w s is loads r → IsReplayed s → All (λ (m : Moment). IsReplayed m.state) r
all_replayed none q = no_moment
all_replayed (next {r = r} m h k x) q = let z = replied h q in All-cons HasReplay m r z (all_replayed x z)
all_replayed (last m h k) q = All-cons HasReplay m [] (replied h q) no_moment
