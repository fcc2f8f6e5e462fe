use Rattle.ab_search_paths.proofs.MoreTerms.{got, got_on}
use Rattle.ab_search_paths.proofs.likeness.compare_unmarked.Goals as goal

pub returns-in_err-given-clause-got : goal.returns-in_err-given-clause-got
returns-in_err-given-clause-got c =
    let one = c.without_marks.ensures in
    got c.args.world.now c.without_marks.new.world c.requires.world one.grows one.types one.additions

pub returns-in_err-asked-clause-got : goal.returns-in_err-asked-clause-got
returns-in_err-asked-clause-got c =
    let w = c.args.world.now in
    let v = c.without_marks.new.world in
    let one = c.without_marks.ensures in
    let two = c.without_marks-2.ensures in
    got_on w v c.without_marks-2.new.world (got w v c.requires.world one.grows one.types one.additions) (got v c.without_marks-2.new.world one.grows.world two.grows two.types two.additions)

pub returns-clause-got : goal.returns-clause-got
returns-clause-got c =
    let w = c.args.world.now in
    let v = c.without_marks.new.world in
    let u = c.without_marks-2.new.world in
    let one = c.without_marks.ensures in
    let two = c.without_marks-2.ensures in
    got_on w u c.compare_opened.new.world
    (got_on w v u (got w v c.requires.world one.grows one.types one.additions) (got v u one.grows.world two.grows two.types two.additions))
    c.compare_opened.ensures.got
