-- Whether a term is a head's eta-long form, and of which head.
use Rattle.std.specs.Prelude.{ℕ, zero, Bool, Option, Some, None}
use Rattle.ab_term.specs.Types.{Ty}
use Rattle.ab_term.specs.Terms.{Head, Term, lam, spine}
use Rattle.ab_term.specs.Substitution.{lower_head}
use Rattle.ab_term.specs.Expansion.{expansion}
use Rattle.ab_term.specs.Translation.{forget}
use Rattle.ab_term.specs.Sameness.{same_term}

abbrev pub lowered : Option (Head ℕ) → Option (Head ℕ)
lowered None = None
lowered (Some h) = lower_head zero h

module _ {Hint : Type 0} where
  -- the head under the abstractions of a term, as it is called outside them; `None` where one of them binds it
  abbrev pub inner_head : Term ℕ Hint → Option (Head ℕ)
  inner_head (lam A x t) = lowered (inner_head t)
  inner_head (spine h ts) = Some h

  -- whether the term of type A is the head, up to eta and past hints
  abbrev pub expands : Ty → Term ℕ Hint → Head ℕ → Bool
  expands A t h = same_term (forget t) (expansion tt A h)
