use Rattle.std.proofs.Common.{◌∙◌, sym}
use Rattle.std.proofs.lemmas.Bool.{false≢true}
use Rattle.ab_norm.specs.Nominals.{HoldsNominal}
use Rattle.ab_search_ways.proofs.Listing.{rest_all, behind_found, behind_not}
use Rattle.ab_search_ways.proofs.constant_maps.behind.Goals as goal

pub returns-then-are_same-clause-list : goal.returns-then-are_same-clause-list
returns-then-are_same-clause-list c = λ types ok h held.
    sym (behind_found types ok c.args.a held c.loop-left.left.now (record { number = 0; ty = record { 0 = 0 } }) c.in-len1-up.len_at_least (c.are_same.ensures.0 c.if-are_same.true))
    ∙ c.loop-left.invariant.list types ok h held

pub returns-then-are_same-clause-held : goal.returns-then-are_same-clause-held
returns-then-are_same-clause-held c = λ types h. rest_all (HoldsNominal types) c.loop-left.left.now c.in-len1-up.len_at_least (c.loop-left.invariant.held types h)

pub loop-left-preserved : goal.loop-left-preserved
loop-left-preserved c = record {
  list = λ types ok h held.
      sym (behind_not types ok c.args.a held c.loop-left.left.now (record { number = 0; ty = record { 0 = 0 } }) c.in-len1-up.len_at_least (c.loop-left.invariant.held types h)
      (λ e. false≢true (sym c.if-are_same.false ∙ c.are_same.ensures.1 e)))
      ∙ c.loop-left.invariant.list types ok h held;
  held = λ types h. rest_all (HoldsNominal types) c.loop-left.left.now c.in-len1-up.len_at_least (c.loop-left.invariant.held types h);
}
