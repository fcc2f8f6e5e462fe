use Rattle.ab_lex.proofs.Ascii.{word_is_ascii, number_is_ascii, sign_is_ascii}
use Rattle.ab_lex.proofs.laws.only_strings_are_more_than_ascii.Goals as goal

pub returns : goal.returns
returns c = record {
  words = λ c h. word_is_ascii h;
  numbers = λ c h. number_is_ascii h;
  signs = sign_is_ascii;
}
