-- The form of a formula under a guess: the connectives and quantifiers stay, and the parts are guessed.
use Rattle.std.proofs.Common.{◌≡◌, ℕ, List, refl, sym, ap, subst}
use Rattle.ab_term.specs.Types.{Ty}
use Rattle.ab_term.specs.Logical as plain
use Rattle.ab_term.specs.Logical.{Logical}
use Rattle.ab_term.specs.Terms.{Nominal, Head, constant, logical, nominal, variable, index, Term, lam, spine, Terms, no_terms, term, Read}
use Rattle.ab_term.specs.Translation.{forget, forget_all}
use Rattle.ab_term.specs.Variables.{image_by, image_all_by}
use Rattle.ab_unifiers.proofs.Following.{Put}
use Rattle.ab_formulas.specs.Formulas.{a_formula, StandsIn}
use Rattle.ab_formulas.specs.Forms.{Form, truth, falsity, both, either, implies, equal, for_all, exists, nabla, marked, other, form_of, form_given, form_alone, form_with, form_between}

-- THE GUESS makes of the first term the second, past hints
abbrev pub Makes : Put → Read → Read → Type 0
Makes f t u = image_by f (forget t) ≡ forget u

abbrev pub MakesAll : Put → Terms ℕ (List ℕ) → Terms ℕ (List ℕ) → Type 0
MakesAll f ts us = image_all_by f (forget_all ts) ≡ forget_all us

-- what a term without hints begins with
abbrev pub Begins : Head ℕ → Terms ℕ (Unit {0}) → Read → Type 0
Begins h vs H = (us : Terms ℕ (List ℕ)) × (H ≡ spine h us) × (vs ≡ forget_all us)

pub begins_logical : (l : Logical) (vs : Terms ℕ (Unit {0})) (H : Read) → spine (logical l) vs ≡ forget H → Begins (logical l) vs H
begins_logical l vs (lam A x t) e = absurd (cc)
begins_logical l vs (spine (constant c) us) e = absurd (cc)
begins_logical l vs (spine (nominal a) us) e = absurd (cc)
begins_logical l vs (spine (variable y) us) e = absurd (cc)
begins_logical l vs (spine (index i) us) e = absurd (cc)
begins_logical l vs (spine (logical m) us) e =
    let same : l ≡ m = cc in
    let rest : vs ≡ forget_all us = cc in
    (us, ap (λ k. spine (logical k) us) (sym same), rest)

pub begins_constant : (c : List ℕ) (vs : Terms ℕ (Unit {0})) (H : Read) → spine (constant c) vs ≡ forget H → Begins (constant c) vs H
begins_constant l vs (lam A x t) e = absurd (cc)
begins_constant l vs (spine (logical c) us) e = absurd (cc)
begins_constant l vs (spine (nominal a) us) e = absurd (cc)
begins_constant l vs (spine (variable y) us) e = absurd (cc)
begins_constant l vs (spine (index i) us) e = absurd (cc)
begins_constant l vs (spine (constant m) us) e =
    let same : l ≡ m = cc in
    let rest : vs ≡ forget_all us = cc in
    (us, ap (λ k. spine (constant k) us) (sym same), rest)

pub begins_nominal : (a : Nominal) (vs : Terms ℕ (Unit {0})) (H : Read) → spine (nominal a) vs ≡ forget H → Begins (nominal a) vs H
begins_nominal l vs (lam A x t) e = absurd (cc)
begins_nominal l vs (spine (logical c) us) e = absurd (cc)
begins_nominal l vs (spine (constant a) us) e = absurd (cc)
begins_nominal l vs (spine (variable y) us) e = absurd (cc)
begins_nominal l vs (spine (index i) us) e = absurd (cc)
begins_nominal l vs (spine (nominal m) us) e =
    let same : l ≡ m = cc in
    let rest : vs ≡ forget_all us = cc in
    (us, ap (λ k. spine (nominal k) us) (sym same), rest)

pub no_more : {us : Terms ℕ (List ℕ)} → no_terms ≡ forget_all us → us ≡ no_terms
no_more {us = no_terms} e = refl
no_more {us = term u us} e = absurd (cc)

pub one_more : {v : Term ℕ (Unit {0})} {vs : Terms ℕ (Unit {0})} (us : Terms ℕ (List ℕ)) → term v vs ≡ forget_all us → (u : Read) × (ws : Terms ℕ (List ℕ)) × (us ≡ term u ws) × (v ≡ forget u) × (vs ≡ forget_all ws)
one_more no_terms e = absurd (cc)
one_more {v = v} {vs = vs} (term u ws) e = let first : v ≡ forget u = cc in let rest : vs ≡ forget_all ws = cc in (u, ws, refl, first, rest)

pub abstraction : {A : Ty} {v : Term ℕ (Unit {0})} (H : Read) → lam A tt v ≡ forget H → (x : List ℕ) × (u : Read) × (H ≡ lam A x u) × (v ≡ forget u)
abstraction (spine h us) e = absurd (cc)
abstraction {A = A} {v = v} (lam B x u) e = let type : A ≡ B = cc in let body : v ≡ forget u = cc in (x, u, ap (λ C. lam C x u) (sym type), body)

-- FORMS UNDER A GUESS
abbrev pub FormMade : Put → Form → Form → Type 0
FormMade f truth truth = Unit {0}
FormMade f falsity falsity = Unit {0}
FormMade f (both A B) (both C E) = Makes f A C × Makes f B E
FormMade f (either A B) (either C E) = Makes f A C × Makes f B E
FormMade f (implies A B) (implies C E) = Makes f A C × Makes f B E
FormMade f (equal A t u) (equal B v w) = Makes f t v × Makes f u w
FormMade f (for_all A F) (for_all B H) = (A ≡ B) × Makes f F H
FormMade f (exists A F) (exists B H) = (A ≡ B) × Makes f F H
FormMade f (nabla A F) (nabla B H) = (A ≡ B) × Makes f F H
FormMade f (marked m A) (marked n B) = (m ≡ n) × Makes f A B
FormMade f other other = Unit {0}
FormMade f _ _ = ⊥

alone_made : (f : Put) (l : Logical) → FormMade f (form_alone l) (form_alone l)
alone_made f plain.truth = tt
alone_made f plain.falsity = tt
alone_made f _ = tt

with_made : (f : Put) (l : Logical) (t u : Read) → Makes f t u → FormMade f (form_with l t) (form_with l u)
with_made f (plain.universal A) t u e = (refl, e)
with_made f (plain.existential A) t u e = (refl, e)
with_made f (plain.nabla A) t u e = (refl, e)
with_made f (plain.star i) t u e = (refl, e)
with_made f (plain.at_sign i) t u e = (refl, e)
with_made f (plain.plus i) t u e = (refl, e)
with_made f (plain.hash i) t u e = (refl, e)
with_made f _ t u e = tt

between_made : (f : Put) (l : Logical) (t v u w : Read) → Makes f t u → Makes f v w → FormMade f (form_between l t v) (form_between l u w)
between_made f plain.conjunction t v u w d e = (d, e)
between_made f plain.disjunction t v u w d e = (d, e)
between_made f plain.implication t v u w d e = (d, e)
between_made f (plain.equality A) t v u w d e = (d, e)
between_made f _ t v u w d e = tt

given_made : (f : Put) (l : Logical) (ts us : Terms ℕ (List ℕ)) → MakesAll f ts us → FormMade f (form_given l ts) (form_given l us)
given_made f l no_terms no_terms e = alone_made f l
given_made f l no_terms (term u us) e = absurd (cc)
given_made f l (term t ts) no_terms e = absurd (cc)
given_made f l (term t ts) (term u us) e = go ts us first rest
  where
    first : Makes f t u
    first = cc

    rest : MakesAll f ts us
    rest = cc

    go : (ts us : Terms ℕ (List ℕ)) → Makes f t u → MakesAll f ts us → FormMade f (form_given l (term t ts)) (form_given l (term u us))
    go no_terms no_terms d r = with_made f l t u d
    go no_terms (term w ws) d r = absurd (cc)
    go (term v vs) no_terms d r = absurd (cc)
    go (term v no_terms) (term w no_terms) d r = let second : Makes f v w = cc in between_made f l t v u w d second
    go (term v no_terms) (term w (term z zs)) d r = absurd (let bad : MakesAll f no_terms (term z zs) = cc in cc)
    go (term v (term z zs)) (term w no_terms) d r = absurd (let bad : MakesAll f (term z zs) no_terms = cc in cc)
    go (term v (term z zs)) (term w (term y ys)) d r = tt

pub form_made : (f : Put) (C H : Read) → StandsIn a_formula C → Makes f C H → FormMade f (form_of C) (form_of H)
form_made f (lam A x t) H s e = absurd s
form_made f (spine (variable y) ts) H s e = absurd s.0
form_made f (spine (index i) ts) H s e = absurd s.0
form_made f (spine (constant c) ts) H s e = let b = begins_constant c (image_all_by f (forget_all ts)) H e in subst (λ K. FormMade f other (form_of K)) (sym b.1) tt
form_made f (spine (nominal a) ts) H s e = let b = begins_nominal a (image_all_by f (forget_all ts)) H e in subst (λ K. FormMade f other (form_of K)) (sym b.1) tt
form_made f (spine (logical l) ts) H s e = let b = begins_logical l (image_all_by f (forget_all ts)) H e in subst (λ K. FormMade f (form_given l ts) (form_of K)) (sym b.1) (given_made f l ts b.0 b.2)
