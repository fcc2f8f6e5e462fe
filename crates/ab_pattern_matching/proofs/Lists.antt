-- What holds of each equation of a list.
use Rattle.std.proofs.Common.{List, [], ◌∷◌, ◌++◌, map}
use Rattle.ab_unifiers.specs.Unification.{Equation}
use Rattle.ab_pattern_matching.specs.Reading.{Every}

module _ {Hint : Type 0} where
  pub every_weaker : (P Q : Equation Hint → Type 0) → ((e : Equation Hint) → P e → Q e) → (es : List (Equation Hint)) → Every P es → Every Q es
  every_weaker P Q f [] a = tt
  every_weaker P Q f (e ∷ es) a = (f e a.0, every_weaker P Q f es a.1)

  pub every_map : (P : Equation Hint → Type 0) (g : Equation Hint → Equation Hint) (es : List (Equation Hint)) → Every (λ e. P (g e)) es → Every P (map g es)
  every_map P g [] a = tt
  every_map P g (e ∷ es) a = (a.0, every_map P g es a.1)

  pub every_mapped : (P : Equation Hint → Type 0) (g : Equation Hint → Equation Hint) (es : List (Equation Hint)) → Every P (map g es) → Every (λ e. P (g e)) es
  every_mapped P g [] a = tt
  every_mapped P g (e ∷ es) a = (a.0, every_mapped P g es a.1)

  pub every_both : (P : Equation Hint → Type 0) (es fs : List (Equation Hint)) → Every P es → Every P fs → Every P (es ++ fs)
  every_both P [] fs a b = b
  every_both P (e ∷ es) fs a b = (a.0, every_both P es fs a.1 b)

  pub every_split : (P : Equation Hint → Type 0) (es fs : List (Equation Hint)) → Every P (es ++ fs) → Every P es × Every P fs
  every_split P [] fs a = (tt, a)
  every_split P (e ∷ es) fs a = let rest = every_split P es fs a.1 in ((a.0, rest.0), rest.1)

  -- of an equation between others
  abbrev pub every_at : (P : Equation Hint → Type 0) (es : List (Equation Hint)) (e : Equation Hint) (fs : List (Equation Hint)) → Every P es → P e → Every P fs → Every P (es ++ e ∷ fs)
  every_at P es e fs a b c = every_both P es (e ∷ fs) a (b, c)

  -- of two lists at once
  pub every_and : (P Q : Equation Hint → Type 0) (es : List (Equation Hint)) → Every P es → Every Q es → Every (λ e. P e × Q e) es
  every_and P Q [] a b = tt
  every_and P Q (e ∷ es) a b = ((a.0, b.0), every_and P Q es a.1 b.1)
