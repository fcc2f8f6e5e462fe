use Rattle.std.proofs.lemmas.List.Elements.{All-weaker}
use Rattle.ab_norm.specs.ab_store.specs.declared.node.Head.{Head}
use Rattle.ab_norm.specs.ab_store.specs.declared.node.Head.TheVariants.{Const}
use Rattle.ab_norm.proofs.Frame.{if_ok}
use Rattle.ab_patterns.specs.Abstraction.{AreToldApart}
use Rattle.ab_patterns.proofs.ClosedHeads.{inner_stays, name_sinks, other_sinks}
use Rattle.ab_patterns.proofs.abstraction.close_head.Goals as goal

abbrev none : Head
none = Const (record { 0 = 0 })

pub returns-in-None-clause-reads : goal.returns-in-None-clause-reads
returns-in-None-clause-reads c = λ types store told.
    let here = c.in-None.ensures.inner in
    inner_stays types store c.args.at here.0 c.args.names.now c.args.head here.1 here.2

pub returns-in_ok-sum-in-Some-behind-clause-reads : goal.returns-in_ok-sum-in-Some-behind-clause-reads
returns-in_ok-sum-in-Some-behind-clause-reads c = λ types store told.
    let found = c.in-Some-behind.ensures in
    name_sinks types store c.args.at c.args.names.now c.args.head c.in-Some.outer none c.in-Some-behind.place c.in_ok-sum-in-Some-behind.field-0 (c.in-Some.ensures.reads types store)
    (All-weaker (λ name. AreToldApart types name c.args.head) (λ name. AreToldApart types name c.in-Some.outer) (λ name. c.in-Some.ensures.told types name) c.args.names.now told)
    found.0 found.1 (found.2 none) c.in_ok-sum-in-Some-behind.ensures

pub returns-in_ok-sum-in-None-behind-clause-reads : goal.returns-in_ok-sum-in-None-behind-clause-reads
returns-in_ok-sum-in-None-behind-clause-reads c = if_ok c.sink.result (λ r made types store told.
    other_sinks types store c.args.at c.args.names.now c.args.head c.in-Some.outer r c.in_ok-sum-in-None-behind.field-0 (c.in-Some.ensures.reads types store)
    (All-weaker (λ name. AreToldApart types name c.args.head) (λ name. AreToldApart types name c.in-Some.outer) (λ name. c.in-Some.ensures.told types name) c.args.names.now told)
    c.in-None-behind.ensures c.in_ok-sum-in-None-behind.ensures (made types store)) c.sink.ensures.reads

pub returns-in_ok-sum-in-None-behind-clause-held : goal.returns-in_ok-sum-in-None-behind-clause-held
returns-in_ok-sum-in-None-behind-clause-held c = if_ok c.sink.result (λ r made store held. made store (c.in-Some.ensures.held store held)) c.sink.ensures.held

pub returns-in_ok-sum-in-None-behind-clause-typed : goal.returns-in_ok-sum-in-None-behind-clause-typed
returns-in_ok-sum-in-None-behind-clause-typed c = if_ok c.sink.result (λ r made types typed. made types (c.in-Some.ensures.typed types typed)) c.sink.ensures.typed
