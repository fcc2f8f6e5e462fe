-- The eta-long form of a head at its type. The binders that it makes have the hint x.
use Rattle.std.specs.Prelude.{zero}
use Rattle.ab_term.specs.Types.{Ty, kind, arrow}
use Rattle.ab_term.specs.Terms.{Head, index, Term, lam, spine, Terms, no_terms, with_last}
use Rattle.ab_term.specs.Substitution.{shift_head, shift_all}

module _ {Var Hint : Type 0} where
  -- the head, given these arguments, as a term of the type that is left
  abbrev pub expansion_of : Hint → Ty → Head Var → Terms Var Hint → Term Var Hint
  expansion_of x (kind k) h ts = spine h ts
  expansion_of x (arrow A B) h ts = lam A x (expansion_of x B (shift_head zero h) (with_last (shift_all zero ts) (expansion_of x A (index zero) no_terms)))

  abbrev pub expansion : Hint → Ty → Head Var → Term Var Hint
  expansion x A h = expansion_of x A h no_terms
