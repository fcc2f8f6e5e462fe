-- The tokens that show a value show one alone; and a text of each.
use Rattle.std.proofs.Common.{◌≡◌, ◌≢◌, ℕ, List, [], ◌∷◌, ◌++◌, refl, ap, sym, ◌∙◌, codes, decimal, get_or, arith, lit<, lit≤}
use Rattle.std.proofs.lemmas.List.{append_cancel_left}
use Rattle.std.proofs.lemmas.Fmt.{decimal_injective}
use Rattle.ab_grammar.specs.Token.{Token, word, other, number, text}
use Rattle.ab_grammar.specs.Nesting.{lone}
use Rattle.ab_grammar.specs.CommandTrees.{Argument, named, hole}
use Rattle.ab_grammar.specs.CommandForms.{One, one}
use Rattle.ab_grammar.specs.CommandTable.{IsNominal, IsDeclarable, ShowsName, shows_name, ShowsDeclared, shows_declared, ShowsNominal, shows_nominal, ShowsArgument, shows_named, shows_hole, ShowsNumber, shows_number, ShowsDepth, shows_depth, ShowsLimit, shows_limit, ShowsText, shows_text, StandsAnywhere, stands_at, ShowsLabel, shows_label}
use Rattle.ab_grammar.proofs.Joining.{Example}

-- a token shows at most one value
abbrev pub ShowsOne : {A : Type 0} → (Token → A → Type 0) → Type 0
ShowsOne {A} Shows = (k : Token) (a b : A) → Shows k a → Shows k b → b ≡ a

shown_example : {A : Type 0} (Shows : Token → A → Type 0) (k : Token) (a : A) → Shows k a → Example (One Shows)
shown_example Shows k a s = record { spots = lone k ∷ []; value = a; text = one s }

name_in : (x : List ℕ) (p : ℕ) (b : List ℕ) → ShowsName (word x p) b → b ≡ x
name_in x p _ (shows_name y q) = refl

pub one_name : ShowsOne ShowsName
one_name _ _ b (shows_name x p) t = name_in x p b t

pub name_example : Example (One ShowsName)
name_example = shown_example ShowsName (word [] 0) [] (shows_name [] 0)

declared_in : (x : List ℕ) (p : ℕ) (b : List ℕ) → ShowsDeclared (word x p) b → b ≡ x
declared_in x p _ (shows_declared y q d) = refl

pub one_declared : ShowsOne ShowsDeclared
one_declared _ _ b (shows_declared x p d) t = declared_in x p b t

-- the name a
a_is_declarable : IsDeclarable (97 ∷ [])
a_is_declarable = record { letter = 97; others = []; spelled = refl; from_a = lit≤ tt; to_z = lit≤ tt; not_nominal = λ n h. let e : 97 ≡ 110 = ap (λ (w : List ℕ). get_or w 0 0) (h.0) in absurd (omega arith) }

pub declared_example : Example (One ShowsDeclared)
declared_example = shown_example ShowsDeclared (word (97 ∷ []) 0) (97 ∷ []) (shows_declared (97 ∷ []) 0 a_is_declarable)

nominal_in : (x : List ℕ) (p m : ℕ) → ShowsNominal (word x p) m → IsNominal x m
nominal_in x p _ (shows_nominal y q n h) = h

pub same_nominal : (x : List ℕ) (m n : ℕ) → IsNominal x m → IsNominal x n → m ≡ n
same_nominal x m n (e, p, h) (f, q, k) = decimal_injective m n (omega arith) (omega arith) (append_cancel_left (codes "n") _ _ (sym e ∙ f))

pub one_nominal : ShowsOne ShowsNominal
one_nominal _ _ b (shows_nominal x p n h) t = same_nominal x b n (nominal_in x p b t) h

pub nominal_example : Example (One ShowsNominal)
nominal_example = shown_example ShowsNominal (word (codes "n" ++ decimal 1) 0) 1 (shows_nominal (codes "n" ++ decimal 1) 0 1 (refl, lit< tt, lit≤ tt))

argument_named : (x : List ℕ) (p : ℕ) (b : Argument) → x ≢ codes "_" → ShowsArgument (word x p) b → b ≡ named x
argument_named x p _ n (shows_named y q h) = refl
argument_named _ p _ n (shows_hole q) = absurd (n refl)

argument_hole : (x : List ℕ) (p : ℕ) (b : Argument) → x ≡ codes "_" → ShowsArgument (word x p) b → b ≡ hole
argument_hole x p _ e (shows_named y q n) = absurd (n e)
argument_hole _ p _ e (shows_hole q) = refl

pub one_argument : ShowsOne ShowsArgument
one_argument _ _ b (shows_named x p n) t = argument_named x p b n t
one_argument _ _ b (shows_hole p) t = argument_hole (codes "_") p b refl t

pub argument_example : Example (One ShowsArgument)
argument_example = shown_example ShowsArgument (word (codes "_") 0) hole (shows_hole 0)

number_in : (n b : ℕ) → ShowsNumber (other (number n)) b → b ≡ n
number_in n _ (shows_number m) = refl

pub one_number : ShowsOne ShowsNumber
one_number _ _ b (shows_number n) t = number_in n b t

pub number_example : Example (One ShowsNumber)
number_example = shown_example ShowsNumber (other (number 1)) 1 (shows_number 1)

depth_in : (n b : ℕ) → ShowsDepth (other (number n)) b → b ≡ n
depth_in n _ (shows_depth m h) = refl

pub one_depth : ShowsOne ShowsDepth
one_depth _ _ b (shows_depth n h) t = depth_in n b t

pub depth_example : Example (One ShowsDepth)
depth_example = shown_example ShowsDepth (other (number 1)) 1 (shows_depth 1 (lit≤ tt))

limit_in : (n b : ℕ) → ShowsLimit (other (number n)) b → b ≡ n
limit_in n _ (shows_limit m l h) = refl

pub one_limit : ShowsOne ShowsLimit
one_limit _ _ b (shows_limit n l h) t = limit_in n b t

pub limit_example : Example (One ShowsLimit)
limit_example = shown_example ShowsLimit (other (number 1)) 1 (shows_limit 1 (lit≤ tt) (lit≤ tt))

text_in : (x b : List ℕ) → ShowsText (other (text x)) b → b ≡ x
text_in x _ (shows_text y) = refl

pub one_text : ShowsOne ShowsText
one_text _ _ b (shows_text x) t = text_in x b t

pub text_example : Example (One ShowsText)
text_example = shown_example ShowsText (other (text [])) [] (shows_text [])

unit_only : (u : Unit {0}) → u ≡ tt
unit_only u = refl

pub one_placed : (k : ℕ → Token) → ShowsOne (StandsAnywhere k)
one_placed k _ a b s t = refl

pub placed_example : (k : ℕ → Token) → Example (One (StandsAnywhere k))
placed_example k = shown_example (StandsAnywhere k) (k 0) tt (stands_at 0)

label_in : (x : List ℕ) (p : ℕ) (b : List ℕ) → ShowsLabel (word x p) b → b ≡ x
label_in x p _ (shows_label y q n) = refl

pub one_label : ShowsOne ShowsLabel
one_label _ _ b (shows_label x p n) t = label_in x p b t
