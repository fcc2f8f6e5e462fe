use Rattle.ab_determinism.proofs.OneUse.{turned_use, used_once, used_or_nothing, used_or_outside, used_or_left, nothing_or_outside, nothing_or_left, outside_or_left, one_outside, one_left}
use Rattle.ab_determinism.proofs.answer_laws.formulas_are_used_in_one_way.Goals as goal

pub returns : goal.returns
returns c = record {
  used = λ D a b K L same. used_once D a b same K L;
  one_equation = λ D a b i j same. one_outside D a b same i j;
  one_variable = λ D a b x y same. one_left D a b same x y;
  used_or_nothing = λ D a b K same. used_or_nothing D a b same K;
  used_or_outside = λ D a b K i same. used_or_outside D a b same K i;
  used_or_open = λ D a b K x same. used_or_left D a b same K x;
  nothing_or_outside = λ D a b i same none open_at. nothing_or_outside D b a (turned_use D a b same) i none open_at;
  nothing_or_open = λ D a b x same none left. nothing_or_left D b a (turned_use D a b same) x none left;
  outside_or_open = λ D a b i x same. outside_or_left D a b same i x;
}
