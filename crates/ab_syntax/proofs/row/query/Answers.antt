use Rattle.std.proofs.lemmas.Result.{err_from_is_err_and}
use Rattle.ab_grammar.specs.Token.{other, on_word, to_word}
use Rattle.ab_grammar.proofs.Following.{Except, BeforeStop, DepthEnds}
use Rattle.ab_grammar.specs.CommandTable.{OptionalDepth, OptionalLimit}
use Rattle.ab_grammar.proofs.Choosing.{fewer_reads}
use Rattle.ab_grammar.proofs.Rows.{query_depth, query, depth_no_on, limit_no_to}
use Rattle.ab_syntax.proofs.Passing.{refused_on, refused_first, refused_fewer}
use Rattle.ab_syntax.proofs.row.query.Goals as goal

pub returns-in_err-goal : goal.returns-in_err-goal
returns-in_err-goal c =
    let p = err_from_is_err_and c.from_residual.result c.from_residual.ensures.1 in
    rw (p.1, p.2) (refused_first query _ _ _ (refused_first query_depth _ _ _ c.in_err-goal.ensures))

pub returns-in_err-depth : goal.returns-in_err-depth
returns-in_err-depth c =
    let p = err_from_is_err_and c.from_residual-in_err-depth.result c.from_residual-in_err-depth.ensures.1 in
    rw (p.1, p.2) (refused_first query _ _ _ (refused_on (query_depth.first_read _ _ _ c.in_ok-goal.ensures) _ _ (refused_fewer OptionalDepth (Except (other on_word)) DepthEnds depth_no_on _ _ _ c.in_err-depth.ensures)))

pub returns-in_err-limit : goal.returns-in_err-limit
returns-in_err-limit c =
    let p = err_from_is_err_and c.from_residual-in_err-limit.result c.from_residual-in_err-limit.ensures.1 in
    let deep = fewer_reads OptionalDepth (Except (other on_word)) DepthEnds depth_no_on _ _ _ c.in_ok-depth.ensures in
    rw (p.1, p.2) (refused_on (query.first_read _ _ _ ((query_depth.first_read _ _ _ c.in_ok-goal.ensures).reads _ _ deep)) _ _ (refused_fewer OptionalLimit (Except (other to_word)) BeforeStop limit_no_to _ _ _ c.in_err-limit.ensures))

pub returns : goal.returns
returns c =
    let deep = fewer_reads OptionalDepth (Except (other on_word)) DepthEnds depth_no_on _ _ _ c.in_ok-depth.ensures in
    (query.first_read _ _ _ ((query_depth.first_read _ _ _ c.in_ok-goal.ensures).reads _ _ deep)).reads _ _ (fewer_reads OptionalLimit (Except (other to_word)) BeforeStop limit_no_to _ _ _ c.in_ok-limit.ensures)
