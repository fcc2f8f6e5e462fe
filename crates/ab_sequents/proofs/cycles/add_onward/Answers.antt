use Rattle.std.proofs.Common.{[], ◌∷◌, ◌++◌, ◌+◌, drop, get_or, sym, ◌∙◌, ap, append_assoc, arith}
use Rattle.std.proofs.lemmas.List.{drop_more, drop_all}
use Rattle.ab_norm.specs.ab_types.specs.Ids.{type_of}
use Rattle.ab_norm.specs.Nominals.{pairs_of}
use Rattle.ab_formulas.specs.Cycles.{constant_at, onward}
use Rattle.ab_sequents.proofs.Standings.{on_ok}
use Rattle.ab_sequents.proofs.cycles.add_onward.Goals as goal

pub loop-to-preserved : goal.loop-to-preserved
loop-to-preserved c = record {
  pairs = λ types.
      let A = type_of types c.args.ty in
      let old = pairs_of types c.loop-to.swaps.items in
      let to = get_or c.args.rest.now c.loop-to.to-index 0 in
      let later = drop (c.loop-to.to-index + 1) c.args.rest.now in
      ap (λ l. l ++ onward A c.args.first to later) (c.in_ok-add.ensures.pairs types)
      ∙ append_assoc old ((constant_at A c.loop-to.from, constant_at A to) ∷ []) (onward A c.args.first to later)
      ∙ ap (λ l. old ++ onward A c.args.first c.loop-to.from l) (sym (drop_more c.args.rest.now c.loop-to.to-index 0 c.loop-to-test.true))
      ∙ c.loop-to.invariant.pairs types;
  held = λ types held before. c.in_ok-add.ensures.held types held (c.loop-to.invariant.held types held before);
}

pub returns-clause-pairs : goal.returns-clause-pairs
returns-clause-pairs c =
    on_ok c.add-2.result
    (λ added types.
    let A = type_of types c.args.ty in
    let old = pairs_of types c.loop-to.swaps.items in
    added types ∙ ap (λ l. old ++ onward A c.args.first c.loop-to.from l) (sym (drop_all c.loop-to.to-index c.args.rest.now (omega arith))) ∙ c.loop-to.invariant.pairs types)
    c.add-2.ensures.pairs

pub returns-clause-held : goal.returns-clause-held
returns-clause-held c = on_ok c.add-2.result (λ added types held before. added types held (c.loop-to.invariant.held types held before)) c.add-2.ensures.held
