-- A term that begins with a variable still does once another variable stands in for it.
use Rattle.std.proofs.Common.{◌≡◌, ℕ, zero, suc, List, [], ◌∷◌, map, codes, Option, Some, None, refl}
use Rattle.std.specs.Prelude.{All}
use Rattle.std.proofs.lemmas.List.Elements.{All-nil, All-cons}
use Rattle.ab_term.specs.Types.{Ty, kind, arrow}
use Rattle.ab_term.specs.Logical.{Logical}
use Rattle.ab_term.specs.Terms as tree
use Rattle.ab_term.specs.Terms.{Nominal, constant, logical, nominal, variable, index, Term, lam, spine, Terms, no_terms, term, Read}
use Rattle.ab_term.specs.Names.{rename}
use Rattle.ab_term.specs.Translation.{forget}
use Rattle.ab_term.specs.Substitution.{shift, substitute_by, reduce}
use Rattle.ab_term.specs.Expansion.{expansion_of}
use Rattle.ab_term.specs.Abstraction.{over, close, abstracted}
use Rattle.ab_term.specs.Variables.{put_for, image_all, value_in, image}
use Rattle.ab_term.specs.Sameness.{same_number}
use Rattle.ab_unifiers.proofs.Covered.{found_of_all}
use Rattle.ab_search_proofs.specs.Likeness.{StandIn, replaced, put_in, replacing}

-- under its binders it begins with a variable
abbrev pub BeginsWithVariable : Read → Type 0
BeginsWithVariable (lam A x t) = BeginsWithVariable t
BeginsWithVariable (spine (variable y) ts) = Unit {0}
BeginsWithVariable (spine h ts) = ⊥

substituted : (apply : Read → Terms ℕ (List ℕ) → Read) (u : Read) (k : ℕ) (t : Read) → BeginsWithVariable t → BeginsWithVariable (substitute_by apply u k t)
substituted apply u k (lam A x t) b = substituted apply (shift zero u) (suc k) t b
substituted apply u k (spine (variable y) ts) b = tt
substituted apply u k (spine (constant c) ts) b = absurd b
substituted apply u k (spine (logical l) ts) b = absurd b
substituted apply u k (spine (nominal a) ts) b = absurd b
substituted apply u k (spine (index i) ts) b = absurd b

reduced : (A : Ty) (u : Read) (ts : Terms ℕ (List ℕ)) → BeginsWithVariable u → BeginsWithVariable (reduce A u ts)
reduced (kind k) u ts b = b
reduced (arrow A B) (lam C x t) (term v vs) b = reduced B (substitute_by (reduce A) v zero t) vs (substituted (reduce A) v zero t b)
reduced (arrow A B) (lam C x t) no_terms b = b
reduced (arrow A B) (spine h us) ts b = b

closed : (k : ℕ) (a : Nominal) (t : Read) → BeginsWithVariable t → BeginsWithVariable (close k (nominal a) t)
closed k a (lam A x t) b = closed (suc k) a t b
closed k a (spine (variable y) ts) b = tt
closed k a (spine (constant c) ts) b = absurd b
closed k a (spine (logical l) ts) b = absurd b
closed k a (spine (nominal c) ts) b = absurd b
closed k a (spine (index i) ts) b = absurd b

over_constants : (ns : List Nominal) (A : Ty) (t : Read) → BeginsWithVariable t → BeginsWithVariable (abstracted (codes "x") (over ns A) (map nominal ns) t)
over_constants [] A t b = b
over_constants (a ∷ ns) A t b = closed zero a (abstracted (codes "x") (over ns A) (map nominal ns) t) (over_constants ns A t b)

expanded : (A : Ty) (z : tree.Variable ℕ) (ts : Terms ℕ (List ℕ)) → BeginsWithVariable (expansion_of (codes "x") A (variable z) ts)
expanded (kind k) z ts = tt
expanded (arrow A B) z ts = expanded B z _

all_begin : (vs : List StandIn) → All (λ (p : tree.Variable ℕ × Read). BeginsWithVariable p.1) (replacing vs)
all_begin [] = All-nil (λ (p : tree.Variable ℕ × Read). BeginsWithVariable p.1)
all_begin (v ∷ vs) = All-cons (λ (p : tree.Variable ℕ × Read). BeginsWithVariable p.1) (replaced v, put_in v) (replacing vs) (over_constants v.constants v.type _ (expanded v.type _ _)) (all_begin vs)

pub image_begins : (vs : List StandIn) (y : tree.Variable ℕ) (ts : Terms ℕ (List ℕ)) → BeginsWithVariable (image same_number (replacing vs) (spine (variable y) ts))
image_begins vs y ts = go (value_in same_number (replacing vs) y) refl
  where
    go : (o : Option Read) → value_in same_number (replacing vs) y ≡ o → BeginsWithVariable (put_for y o (image_all same_number (replacing vs) ts))
    go None e = tt
    go (Some u) e = reduced y.type u (image_all same_number (replacing vs) ts) (found_of_all BeginsWithVariable (replacing vs) (all_begin vs) y u e)

pub rename_begins : (m : Nominal → Nominal) (t : Read) → BeginsWithVariable t → BeginsWithVariable (rename m t)
rename_begins m (lam A x t) b = rename_begins m t b
rename_begins m (spine (variable y) ts) b = tt
rename_begins m (spine (constant c) ts) b = absurd b
rename_begins m (spine (logical l) ts) b = absurd b
rename_begins m (spine (nominal a) ts) b = absurd b
rename_begins m (spine (index i) ts) b = absurd b

-- so it is no logical constant with its arguments
pub never_logical : (t : Read) (l : Logical) (vs : Terms ℕ (Unit {0})) → BeginsWithVariable t → forget t ≡ spine (logical l) vs → ⊥
never_logical (lam A x t) l vs b e = cc
never_logical (spine (variable y) ts) l vs b e = cc
never_logical (spine (constant c) ts) l vs b e = absurd b
never_logical (spine (logical k) ts) l vs b e = absurd b
never_logical (spine (nominal a) ts) l vs b e = absurd b
never_logical (spine (index i) ts) l vs b e = absurd b

-- and no constant
pub never_constant : (t : Read) (c : List ℕ) (vs : Terms ℕ (Unit {0})) → BeginsWithVariable t → forget t ≡ spine (constant c) vs → ⊥
never_constant (lam A x t) c vs b e = cc
never_constant (spine (variable y) ts) c vs b e = cc
never_constant (spine (constant d) ts) c vs b e = absurd b
never_constant (spine (logical k) ts) c vs b e = absurd b
never_constant (spine (nominal a) ts) c vs b e = absurd b
never_constant (spine (index i) ts) c vs b e = absurd b
