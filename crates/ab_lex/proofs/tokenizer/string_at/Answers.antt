use Rattle.std.proofs.Common.{drop}
use Rattle.ab_lex.proofs.Past.{string_ends, string_open}
use Rattle.ab_lex.proofs.Pieces.{string_stands, string_opens}
use Rattle.ab_lex.proofs.tokenizer.string_at.Goals as goal

pub returns-in-Some : goal.returns-in-Some
returns-in-Some c =
    let rest = c.args.rest.now in
    string_stands c.args.first rest c.in-Some.size c.requires c.in-Some.ensures.0 (string_ends rest (drop c.in-Some.size rest) c.in-Some.ensures.1)

pub returns-in-None : goal.returns-in-None
returns-in-None c = string_opens c.args.first c.args.rest.now c.requires (string_open c.args.rest.now c.in-None.ensures)
