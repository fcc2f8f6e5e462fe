-- Arguments, one against one.
use Rattle.std.proofs.Common.{◌≡◌, ℕ, List, [], ◌∷◌, codes, refl}
use Rattle.std.specs.List.{All}
use Rattle.std.proofs.lemmas.List.Elements.{All-nil, All-cons, All-head, All-tail}
use Rattle.ab_term.specs.Terms.{Terms, no_terms, term}
use Rattle.ab_norm.specs.ab_store.specs.declared.node.Equation.{Equation}
use Rattle.ab_norm.specs.ab_store.specs.declared.node.TermId.{TermId}
use Rattle.ab_norm.specs.ab_store.specs.Trees.{Contents, Holds}
use Rattle.ab_unifiers.specs.Alternatives.{arguments_equal}
use Rattle.ab_alternatives.specs.LeftAlternatives.{equate}

pub none_against : (ts : Terms ℕ (List ℕ)) → arguments_equal (codes "x") 0 ts no_terms ≡ []
none_against no_terms = refl
none_against (term t ts) = refl

pub equate_held : (S : Contents) (ts us : List TermId) → All (Holds S) ts → All (Holds S) us → All (λ (e : Equation). Holds S e.left × Holds S e.right) (equate ts us)
equate_held S [] us h i = All-nil (λ (e : Equation). Holds S e.left × Holds S e.right)
equate_held S (t ∷ ts) [] h i = All-nil (λ (e : Equation). Holds S e.left × Holds S e.right)
equate_held S (t ∷ ts) (u ∷ us) h i =
    All-cons (λ (e : Equation). Holds S e.left × Holds S e.right) (record { left = t; right = u }) (equate ts us) (All-head (Holds S) t ts h, All-head (Holds S) u us i)
    (equate_held S ts us (All-tail (Holds S) t ts h) (All-tail (Holds S) u us i))
