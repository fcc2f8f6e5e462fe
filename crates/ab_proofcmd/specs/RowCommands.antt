-- The proof commands that have a row: all but `search`, which goes by the tree of its goal.
use Rattle.ab_grammar.specs.CommandTrees.{ProofCommand, intros, induction, coinduction, case, apply, backchain, split, split_all, left, right, unfold_goal, exists, assert, clear, rename, permute, cut, inst, monotone, skip}

abbrev pub HasRow : ProofCommand → Type 0
HasRow (intros xs) = Unit {0}
HasRow (induction ns) = Unit {0}
HasRow coinduction = Unit {0}
HasRow (case H keep) = Unit {0}
HasRow (apply H vs is) = Unit {0}
HasRow (backchain H is) = Unit {0}
HasRow split = Unit {0}
HasRow split_all = Unit {0}
HasRow left = Unit {0}
HasRow right = Unit {0}
HasRow unfold_goal = Unit {0}
HasRow (exists e) = Unit {0}
HasRow (assert e) = Unit {0}
HasRow (clear Hs) = Unit {0}
HasRow (rename H x) = Unit {0}
HasRow (permute ns x) = Unit {0}
HasRow (cut H K) = Unit {0}
HasRow (inst H is) = Unit {0}
HasRow (monotone H e) = Unit {0}
HasRow skip = Unit {0}
HasRow _ = ⊥
