use Rattle.std.proofs.Common.{◌∙◌, ◌∷◌, ◌+◌, ap, sym, arith, Bool, List, false, drop}
use Rattle.std.specs.List.{list_all}
use Rattle.std.proofs.lemmas.List.{at_drop_more, at_drop_all}
use Rattle.ab_patterns.proofs.flags.keeps_all.Goals as goal

abbrev all : List Bool → Bool
all = list_all (λ kept. kept)

pub returns-then-not-kept : goal.returns-then-not-kept
returns-then-not-kept c =
    let i = c.loop-kept.kept-index in
    sym (at_drop_more all c.args.keep.now i false (omega arith) ∙ ap (λ b. all (b ∷ drop (i + 1) c.args.keep.now)) c.if-not-kept.true) ∙ c.loop-kept.invariant

pub loop-kept-preserved : goal.loop-kept-preserved
loop-kept-preserved c =
    let i = c.loop-kept.kept-index in
    sym (at_drop_more all c.args.keep.now i false (omega arith) ∙ ap (λ b. all (b ∷ drop (i + 1) c.args.keep.now)) c.if-not-kept.false) ∙ c.loop-kept.invariant

pub returns : goal.returns
returns c = sym (at_drop_all all c.args.keep.now c.loop-kept.kept-index (omega arith)) ∙ c.loop-kept.invariant
