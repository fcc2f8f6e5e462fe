-- The forms of one token that commands have, and what a token shows. No public contract speaks of it.
use Rattle.std.specs.Prelude.{◌≡◌, ◌<◌, ◌+◌, ℕ, List, length, Option, Some, None}
use Rattle.ab_grammar.specs.Token.{Token}
use Rattle.ab_grammar.specs.CommandForms.{One}
use Rattle.ab_grammar.specs.CommandTrees as tree
use Rattle.ab_grammar.specs.CommandTable.{ShowsName, ShowsDeclared, ShowsNominal, ShowsArgument, ShowsNumber, ShowsDepth, ShowsLimit, ShowsText}
use Rattle.ab_grammar.proofs.Following.{Showing, Without}
use Rattle.ab_grammar.proofs.Joining.{Example}
use Rattle.ab_grammar.proofs.Shown.{ShowsOne, one_name, name_example, one_declared, declared_example, one_nominal, nominal_example, one_argument, argument_example, one_number, number_example, one_depth, depth_example, one_limit, limit_example, one_text, text_example}
use Rattle.ab_syntax.specs.declared.command.Argument.{Argument}
use Rattle.ab_syntax.specs.declared.leaf.NameForm.{NameForm}
use Rattle.ab_syntax.specs.declared.leaf.NameForm.TheVariants as names
use Rattle.ab_syntax.specs.declared.leaf.NumberForm.{NumberForm}
use Rattle.ab_syntax.specs.declared.leaf.NumberForm.TheVariants as numbers
use Rattle.ab_expressions.specs.declared.text.Text.{Text}
use Rattle.ab_syntax.specs.Commands.{argument_of}
use Rattle.ab_expressions.specs.Reader.{rest}

-- a form of one token: its tokens with their values, what is kept of a value, that a token shows one value, and a text
pub record Leaf (X : Type 0) : Type 1 where
  pub Meant : Type 0
  pub shows : Token → Meant → Type 0
  pub meant : X → Meant
  pub one : ShowsOne shows
  pub example : Example (One shows)

abbrev pub any_name : Leaf (List ℕ)
any_name = record { Meant = List ℕ; shows = ShowsName; meant = λ x. x; one = one_name; example = name_example }

abbrev pub declared_name : Leaf (List ℕ)
declared_name = record { Meant = List ℕ; shows = ShowsDeclared; meant = λ x. x; one = one_declared; example = declared_example }

abbrev pub argument : Leaf Argument
argument = record { Meant = tree.Argument; shows = ShowsArgument; meant = argument_of; one = one_argument; example = argument_example }

abbrev pub quoted : Leaf (List ℕ)
quoted = record { Meant = List ℕ; shows = ShowsText; meant = λ x. x; one = one_text; example = text_example }

abbrev pub name_form : NameForm → Leaf (List ℕ)
name_form names.Any = any_name
name_form names.Declared = declared_name
name_form names.Quoted = quoted

abbrev pub ShowsInForm : NumberForm → Token → ℕ → Type 0
ShowsInForm numbers.Nominal = ShowsNominal
ShowsInForm numbers.Any = ShowsNumber
ShowsInForm numbers.Depth = ShowsDepth
ShowsInForm numbers.Limit = ShowsLimit

pub one_in_form : (f : NumberForm) → ShowsOne (ShowsInForm f)
one_in_form numbers.Nominal = one_nominal
one_in_form numbers.Any = one_number
one_in_form numbers.Depth = one_depth
one_in_form numbers.Limit = one_limit

pub example_in_form : (f : NumberForm) → Example (One (ShowsInForm f))
example_in_form numbers.Nominal = nominal_example
example_in_form numbers.Any = number_example
example_in_form numbers.Depth = depth_example
example_in_form numbers.Limit = limit_example

abbrev pub number_form : NumberForm → Leaf ℕ
number_form f = record { Meant = ℕ; shows = ShowsInForm f; meant = λ n. n; one = one_in_form f; example = example_in_form f }

-- the value that a token shows, if it shows one
abbrev pub IsShown : {X : Type 0} → Leaf X → Token → Option X → Type 0
IsShown leaf k (Some x) = leaf.shows k (leaf.meant x)
IsShown leaf k None = (a : leaf.Meant) → leaf.shows k a → ⊥

-- the i-th token shows this value and was taken; there is none that shows a value, and all is left
abbrev pub IsTakenNext : {X : Type 0} → Leaf X → Text → ℕ → ℕ → Option X → Type 0
IsTakenNext leaf t i j (Some x) = Showing leaf.shows (leaf.meant x) (rest t i) × (i < length t.tokens.now) × (j ≡ i + 1)
IsTakenNext leaf t i j None = Without leaf.shows (rest t i) × (j ≡ i)
