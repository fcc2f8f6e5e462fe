use Rattle.std.proofs.Common.{sym, subst}
use Rattle.std.specs.List.{All}
use Rattle.std.proofs.lemmas.List.Elements.{All-push}
use Rattle.ab_term.proofs.Permuting.{exchange}
use Rattle.ab_norm.specs.Nominals.{nominal_of, HoldsNominal}
use Rattle.ab_search_ways.proofs.Moving.{exchanged_more}
use Rattle.ab_search_ways.proofs.permutations.exchange_all.Goals as goal

pub loop-a-preserved : goal.loop-a-preserved
loop-a-preserved c =
    let types = c.args.types.now in
    record {
      list = exchanged_more types (exchange (nominal_of types c.args.x) (nominal_of types c.args.y)) c.args.names.now c.loop-a.list.items c.push.new.self.items c.exchanged_constant.result c.loop-a.a-index (record { number = 0; ty = record { 0 = 0 } }) c.loop-a-test.true
          c.loop-a.invariant.list c.exchanged_constant.ensures.reads c.in_ok-push.ensures.items;
      held = subst (All (HoldsNominal types)) (sym c.in_ok-push.ensures.items) (All-push (HoldsNominal types) c.loop-a.list.items c.exchanged_constant.result c.loop-a.invariant.held c.exchanged_constant.ensures.held);
    }
