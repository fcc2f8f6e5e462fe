use Rattle.std.proofs.Common.{◌≡◌, sym, ◌∙◌}
use Rattle.ab_lex.specs.declared.token.TokenKind.TheVariants.{Sign}
use Rattle.ab_lex.proofs.FirstByte.{kind_of}
use Rattle.ab_lex.proofs.Pieces.{word_stands, underscore_stands, number_stands, other_kind, sign_stands, bad_stands}
use Rattle.ab_lex.proofs.tokenizer.token_at.Goals as goal
use Rattle.ab_lex.proofs.tokenizer.token_at.Goals.{After-sign_size-size}

pub returns-then-is_ascii_alphabetic : goal.returns-then-is_ascii_alphabetic
returns-then-is_ascii_alphabetic c =
    word_stands c.args.first c.args.rest.now c.word_tail.result (sym c.is_ascii_alphabetic.ensures.value ∙ c.if-is_ascii_alphabetic.true) c.word_tail.ensures.size c.word_tail.ensures.within

pub returns-then-first-eq95 : goal.returns-then-first-eq95
returns-then-first-eq95 c = underscore_stands c.args.first c.args.rest.now c.if-first-eq95.true

pub returns-then-is_ascii_digit : goal.returns-then-is_ascii_digit
returns-then-is_ascii_digit c =
    number_stands c.args.first c.args.rest.now c.digits.result (sym c.is_ascii_digit.ensures.value ∙ c.if-is_ascii_digit.true) c.digits.ensures.size c.digits.ensures.within

sign_kind : (c : After-sign_size-size) → kind_of c.args.first ≡ Sign
sign_kind c =
    other_kind c.args.first (sym c.is_ascii_alphabetic.ensures.value ∙ c.if-is_ascii_alphabetic.false) c.if-first-eq95.false
    (sym c.is_ascii_digit.ensures.value ∙ c.if-is_ascii_digit.false) c.requires.no_string

pub returns-then-size-eq0 : goal.returns-then-size-eq0
returns-then-size-eq0 c =
    bad_stands c.args.first c.args.rest.now c.requires (sign_kind (goal.at.returns-then-size-eq0 c).After-sign_size-size) (sym c.sign_size-size.ensures ∙ c.if-size-eq0.true)

pub returns-else-size-eq0 : goal.returns-else-size-eq0
returns-else-size-eq0 c =
    sign_stands c.args.first c.args.rest.now c.sign_size-size.result (sign_kind (goal.at.returns-else-size-eq0 c).After-sign_size-size) c.sign_size-size.ensures c.if-size-eq0.false
