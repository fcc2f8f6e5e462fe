use Rattle.ab_search_paths.proofs.first_cells.+cell_between.Given as goal

abbrev pub decreases-cell_between : goal.decreases-cell_between
decreases-cell_between l = l.body.0
