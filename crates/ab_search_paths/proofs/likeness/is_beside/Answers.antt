use Rattle.std.proofs.Common.{sym, ◌∙◌}
use Rattle.ab_norm.proofs.Compared.{apart}
use Rattle.ab_search_paths.proofs.StandIns.{not_found, negated}
use Rattle.ab_search_paths.proofs.likeness.is_beside.Goals as goal

pub returns : goal.returns
returns c = λ e.
    let w = c.args.world.now in
    record {
      different = apart c.is_same_cell.result c.if-is_same_cell.false c.is_same_cell.ensures;
      first = not_found w c.args.one c.args.other c.requires.other (sym (c.in_ok-occurs.ensures w.types) ∙ c.if-branch.false);
      second = not_found w c.args.other c.args.one c.requires.one (sym (c.in_ok-stands.ensures w.types) ∙ negated c.in_ok-stands.stands e);
    }
