use Rattle.std.proofs.Common.{◌≡◌, ◌≤◌, ℕ, List, length, drop, Some, None, subst}
use Rattle.std.proofs.lemmas.List.{take_rest}
use Rattle.ab_lex.specs.Scanner.{past}
use Rattle.ab_lex.specs.declared.scanner.Mode.TheVariants.{Block}
use Rattle.ab_lex.proofs.Past.{block_ends, block_open}
use Rattle.ab_lex.proofs.Pieces.{comment_stands, comment_opens}
use Rattle.ab_lex.proofs.tokenizer.comment_at.Goals as goal

pub returns-in-Some : goal.returns-in-Some
returns-in-Some c =
    let size = c.in-Some.size in
    let behind = drop 1 c.args.rest.now in
    let h = subst (λ (v : List ℕ). (size ≤ length v) × (past (Block 0) v ≡ Some (drop size v))) (take_rest c.args.rest.now 1) c.in-Some.ensures in
    comment_stands c.args.first c.args.rest.now size c.requires h.0 (block_ends behind (drop size behind) h.1)

pub returns-in-None : goal.returns-in-None
returns-in-None c =
    comment_opens c.args.first c.args.rest.now c.requires
    (block_open (drop 1 c.args.rest.now) (subst (λ (v : List ℕ). past (Block 0) v ≡ None) (take_rest c.args.rest.now 1) c.in-None.ensures))
