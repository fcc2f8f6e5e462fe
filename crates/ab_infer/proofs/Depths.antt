-- The list of a judgement is less deep than the judgement.
use Rattle.std.proofs.Common.{◌≡◌, ℕ, ◌+◌, ◌*◌, ◌^◌, ◌<◌, List, Option, Box, Global, arith}
use denote.Param.Weighed.{most}
use Rattle.ab_syntax.specs.ab_expressions.specs.declared.tree.Parse.{Parse}
use Rattle.ab_syntax.specs.ab_expressions.specs.declared.tree.Parse.TheVariants as parse
use Rattle.ab_syntax.specs.ab_expressions.specs.declared.items.Items.{Items}
use Rattle.ab_syntax.specs.ab_expressions.specs.Items.{list_of}
use Rattle.ab_syntax.specs.ab_expressions.specs.declared.tree.Parse.TheViews.{sized-Judge}
use Rattle.ab_syntax.specs.ab_expressions.proofs.tree.Parse.TheLaws.{the_size}

list_below : (cs : Items Parse) (f : Option (Box Parse Global)) (g : Box Parse Global) (p : ℕ) → most the_size (list_of cs) < the_size (parse.Judge cs f g p)
list_below cs f g p = omega (arith, sized-Judge cs f g p)

pub list_is_less_deep : (t : Parse) (cs : Items Parse) (f : Option (Box Parse Global)) (g : Box Parse Global) (p : ℕ) (vs : List Parse) → t ≡ parse.Judge cs f g p → vs ≡ list_of cs → most the_size vs < the_size t
list_is_less_deep t cs f g p vs is given = rw (is, given) (list_below cs f g p)

pub less_with_rank : (a b t : ℕ) → a < b → b * 2 ^ 65 ≡ t → a * 2 ^ 65 + 4 < t
less_with_rank a b t below is = omega arith
