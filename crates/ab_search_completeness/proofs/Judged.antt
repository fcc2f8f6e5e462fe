-- A JUDGEMENT UNDER A GUESS: what becomes a judgement is one; and what the search sees of it where it isn't blind.
use Rattle.std.proofs.Common.{◌≡◌, ℕ, List, Bool, true, false, Option, Some, None, refl, sym, ◌∙◌, ap, subst}
use Rattle.std.specs.List.{list_any}
use Rattle.std.proofs.lemmas.Bool.{false≢true, or_parts}
use Rattle.ab_term.specs.Logical as plain
use Rattle.ab_term.specs.Terms.{Nominal, Variable, constant, logical, nominal, variable, index, lam, spine, Terms, no_terms, term, Read}
use Rattle.ab_term.specs.Typing.{Signature}
use Rattle.ab_unifiers.proofs.Following.{Put}
use Rattle.ab_formulas.specs.Forms.{Form, truth, falsity, both, either, implies, equal, for_all, exists, nabla, marked, other, form_of}
use Rattle.ab_formulas.specs.Marks as signs
use Rattle.ab_formulas.specs.Marks.{Sign}
use Rattle.ab_formulas.specs.BodyMarks.{with_mark}
use Rattle.ab_theory.specs.Judgements.{Judgement, judgement_as, judgement_in, as_judgement}
use Rattle.ab_theory.specs.Parts.{Part, parts_of}
use Rattle.ab_theory.proofs.Sized.{marked_form}
use Rattle.ab_search_trees.specs.Goals.{Now}
use Rattle.ab_search_trees.specs.Judgements.{hides_head, hides, is_blind}
use Rattle.ab_search_trees.specs.Ways.{unfolds}
use Rattle.ab_search_trees.proofs.Forms.{Makes, MakesAll, FormMade, form_made}
use Rattle.ab_search_trees.proofs.Facts.{IsPart, FormFacts, form_facts}
use Rattle.ab_search_trees.proofs.Atoms.{IsFirm, formula_firm, marked_firm}

abbrev pub FocusMade : Put → Option Read → Option Read → Type 0
FocusMade f None None = Unit {0}
FocusMade f (Some F) (Some H) = Makes f F H
FocusMade f _ _ = ⊥

-- the guess makes of the first judgement the second
pub record JudgementMade (f : Put) (j k : Judgement) : Type 0 where
  pub sign : j.sign ≡ k.sign
  pub context : Makes f j.context k.context
  pub focus : FocusMade f j.focus k.focus
  pub goal : Makes f j.goal k.goal

-- what is made of so many arguments has as many
two_made : (f : Put) (ts : Terms ℕ (List ℕ)) (L G : Read) → MakesAll f ts (term L (term G no_terms)) → (L1 : Read) × (G1 : Read) × (ts ≡ term L1 (term G1 no_terms)) × Makes f L1 L × Makes f G1 G
two_made f no_terms L G m = absurd (cc)
two_made f (term t no_terms) L G m = absurd (let bad : MakesAll f no_terms (term G no_terms) = cc in cc)
two_made f (term t (term v no_terms)) L G m = let one : Makes f t L = cc in let two : Makes f v G = cc in (t, v, refl, one, two)
two_made f (term t (term v (term w ts))) L G m = absurd (let bad : MakesAll f (term v (term w ts)) (term G no_terms) = cc in let worse : MakesAll f (term w ts) no_terms = cc in cc)

three_made : (f : Put) (ts : Terms ℕ (List ℕ)) (L F G : Read) → MakesAll f ts (term L (term F (term G no_terms)))
    → (L1 : Read) × (F1 : Read) × (G1 : Read) × (ts ≡ term L1 (term F1 (term G1 no_terms))) × Makes f L1 L × Makes f F1 F × Makes f G1 G
three_made f no_terms L F G m = absurd (cc)
three_made f (term t ts) L F G m =
    let one : Makes f t L = cc in
    let rest : MakesAll f ts (term F (term G no_terms)) = cc in
    let r = two_made f ts F G rest in
    (t, r.0, r.1, ap (term t) r.2, one, r.3, r.4)

pub begun : (f : Put) (l : plain.Logical) (t : Read) (us : Terms ℕ (List ℕ)) → IsFirm t → Makes f t (spine (logical l) us) → (ts : Terms ℕ (List ℕ)) × (t ≡ spine (logical l) ts) × MakesAll f ts us
begun f l (lam A x t) us r m = absurd r
begun f l (spine (variable y) ts) us r m = absurd r
begun f l (spine (constant c) ts) us r m = absurd (cc)
begun f l (spine (nominal a) ts) us r m = absurd (cc)
begun f l (spine (index i) ts) us r m = absurd (cc)
begun f l (spine (logical k) ts) us r m =
    let same : k ≡ l = cc in
    let rest : MakesAll f ts us = cc in
    (ts, ap (λ j. spine (logical j) ts) same, rest)

abbrev Lifted : Put → Sign → Read → Judgement → Type 0
Lifted f m t k = (j : Judgement) × (judgement_as m t ≡ Some j) × JudgementMade f j k

as_lifts : (f : Put) (m : Sign) (t u : Read) (k : Judgement) → IsFirm t → Makes f t u → judgement_as m u ≡ Some k → Lifted f m t k
as_lifts f m t (spine (logical plain.judgement) (term L (term G no_terms))) k r e q =
    let b = begun f plain.judgement t (term L (term G no_terms)) r e in
    let p = two_made f b.0 L G b.2 in
    let found : record { sign = m; context = L; focus = None; goal = G } ≡ k = cc in
    subst (Lifted f m t) found (
      record { sign = m; context = p.0; focus = None; goal = p.1 },
      ap (judgement_as m) (b.1 ∙ ap (spine (logical plain.judgement)) p.2),
      record { sign = refl; context = p.3; focus = tt; goal = p.4 },
    )
as_lifts f m t (spine (logical plain.focused_judgement) (term L (term F (term G no_terms)))) k r e q =
    let b = begun f plain.focused_judgement t (term L (term F (term G no_terms))) r e in
    let p = three_made f b.0 L F G b.2 in
    let found : record { sign = m; context = L; focus = Some F; goal = G } ≡ k = cc in
    subst (Lifted f m t) found (
      record { sign = m; context = p.0; focus = Some p.1; goal = p.2 },
      ap (judgement_as m) (b.1 ∙ ap (spine (logical plain.focused_judgement)) p.3),
      record { sign = refl; context = p.4; focus = p.5; goal = p.6 },
    )
as_lifts f m t u k r e q = absurd (let bad : None ≡ Some k = q in cc)

-- WHAT BECOMES A JUDGEMENT is one
pub judgement_lifts : (f : Put) (sg : Signature) (now : Now) (branch : List Nominal) (u : Bool) (C H : Read) (k : Judgement) → IsPart sg now branch u C → Makes f C H → as_judgement H ≡ Some k → (j : Judgement) × (as_judgement C ≡ Some j) × JudgementMade f j k
judgement_lifts f sg now branch u C H k part m e = go (form_of C) refl (form_of H) refl (form_made f C H part.formula.stands m) (form_facts sg now branch u C part) e
  where
    go : (p : Form) → form_of C ≡ p → (q : Form) → form_of H ≡ q → FormMade f p q → FormFacts sg now branch u p → judgement_in q H ≡ Some k → (j : Judgement) × (as_judgement C ≡ Some j) × JudgementMade f j k
    go (marked n A) p (marked l B) q r facts e =
        let found = as_lifts f n A B k (marked_firm A facts.1) r.1 (subst (λ s. judgement_as s B ≡ Some k) (sym r.0) e) in
        (found.0, ap (λ d. judgement_in d C) p ∙ found.1, found.2)
    go other p other q r facts e =
        let found = as_lifts f signs.plain C H k (formula_firm C part.formula.stands) m e in
        (found.0, ap (λ d. judgement_in d C) p ∙ found.1, found.2)
    go other p (marked l B) q r facts e = absurd r
    go (marked n A) p other q r facts e = absurd r
    go k p truth q r facts e = absurd (cc)
    go k p falsity q r facts e = absurd (cc)
    go k p (both A B) q r facts e = absurd (cc)
    go k p (either A B) q r facts e = absurd (cc)
    go k p (implies A B) q r facts e = absurd (cc)
    go k p (equal A t u) q r facts e = absurd (cc)
    go k p (for_all A F) q r facts e = absurd (cc)
    go k p (exists A F) q r facts e = absurd (cc)
    go k p (nabla A F) q r facts e = absurd (cc)
    go truth p (marked l B) q r facts e = absurd r
    go falsity p (marked l B) q r facts e = absurd r
    go (both A C) p (marked l B) q r facts e = absurd r
    go (either A C) p (marked l B) q r facts e = absurd r
    go (implies A C) p (marked l B) q r facts e = absurd r
    go (equal A t v) p (marked l B) q r facts e = absurd r
    go (for_all A F) p (marked l B) q r facts e = absurd r
    go (exists A F) p (marked l B) q r facts e = absurd r
    go (nabla A F) p (marked l B) q r facts e = absurd r
    go truth p other q r facts e = absurd r
    go falsity p other q r facts e = absurd r
    go (both A C) p other q r facts e = absurd r
    go (either A C) p other q r facts e = absurd r
    go (implies A C) p other q r facts e = absurd r
    go (equal A t v) p other q r facts e = absurd r
    go (for_all A F) p other q r facts e = absurd r
    go (exists A F) p other q r facts e = absurd r
    go (nabla A F) p other q r facts e = absurd r

-- WHERE THE SEARCH ISN'T BLIND no part in focus and no goal has a head that may be replaced

abbrev pub FocusSeen : List (Variable ℕ) → Option Read → Type 0
FocusSeen ys None = Unit {0}
FocusSeen ys (Some F) = list_any (λ (p : Part). hides_head ys p.atom) (parts_of F) ≡ false

abbrev pub IsSeen : List (Variable ℕ) → Judgement → Type 0
IsSeen ys j = FocusSeen ys j.focus × (hides_head ys j.goal ≡ false)

seen_as : (ys : List (Variable ℕ)) (m : Sign) (t : Read) (j : Judgement) → judgement_as m t ≡ Some j → hides ys t ≡ false → IsSeen ys j
seen_as ys m (spine (logical plain.judgement) (term L (term G no_terms))) j e h =
    let found : record { sign = m; context = L; focus = None; goal = G } ≡ j = cc in
    subst (IsSeen ys) found (tt, h)
seen_as ys m (spine (logical plain.focused_judgement) (term L (term F (term G no_terms)))) j e h =
    let found : record { sign = m; context = L; focus = Some F; goal = G } ≡ j = cc in
    subst (IsSeen ys) found (or_parts (list_any (λ (p : Part). hides_head ys p.atom) (parts_of F)) (hides_head ys G) h)
seen_as ys m t j e h = absurd (let bad : None ≡ Some j = e in cc)

hidden_as : (ys : List (Variable ℕ)) (m : Sign) (t : Read) (j : Judgement) → judgement_as m t ≡ Some j → (is_blind ys t ≡ hides ys t) × (j.sign ≡ m)
hidden_as ys m (spine (logical plain.judgement) (term L (term G no_terms))) j e =
    let found : record { sign = m; context = L; focus = None; goal = G } ≡ j = cc in
    (refl, ap (λ (j : Judgement). j.sign) (sym found))
hidden_as ys m (spine (logical plain.focused_judgement) (term L (term F (term G no_terms)))) j e =
    let found : record { sign = m; context = L; focus = Some F; goal = G } ≡ j = cc in
    (refl, ap (λ (j : Judgement). j.sign) (sym found))
hidden_as ys m t j e = absurd (let bad : None ≡ Some j = e in cc)

marked_seen : (ys : List (Variable ℕ)) (m : Sign) (t : Read) (j : Judgement) → judgement_as m t ≡ Some j → unfolds m ≡ true → is_blind ys (with_mark m t) ≡ false → IsSeen ys j
marked_seen ys signs.plain t j e u h = seen_as ys signs.plain t j e (sym (hidden_as ys signs.plain t j e).0 ∙ h)
marked_seen ys (signs.hash_of i) t j e u h = seen_as ys (signs.hash_of i) t j e h
marked_seen ys (signs.star_of i) t j e u h = absurd (false≢true u)
marked_seen ys (signs.at_of i) t j e u h = absurd (false≢true u)
marked_seen ys (signs.plus_of i) t j e u h = absurd (false≢true u)

pub judgement_seen : (ys : List (Variable ℕ)) (C : Read) (j : Judgement) → as_judgement C ≡ Some j → unfolds j.sign ≡ true → is_blind ys C ≡ false → IsSeen ys j
judgement_seen ys C j e u h = go (form_of C) refl e
  where
    go : (p : Form) → form_of C ≡ p → judgement_in p C ≡ Some j → IsSeen ys j
    go (marked m A) p e = marked_seen ys m A j e (subst (λ s. unfolds s ≡ true) (hidden_as ys m A j e).1 u) (ap (is_blind ys) (sym (marked_form C m A p).0) ∙ h)
    go other p e = marked_seen ys signs.plain C j e refl h
    go truth p e = absurd (let bad : None ≡ Some j = e in cc)
    go falsity p e = absurd (let bad : None ≡ Some j = e in cc)
    go (both A B) p e = absurd (let bad : None ≡ Some j = e in cc)
    go (either A B) p e = absurd (let bad : None ≡ Some j = e in cc)
    go (implies A B) p e = absurd (let bad : None ≡ Some j = e in cc)
    go (equal A t v) p e = absurd (let bad : None ≡ Some j = e in cc)
    go (for_all A F) p e = absurd (let bad : None ≡ Some j = e in cc)
    go (exists A F) p e = absurd (let bad : None ≡ Some j = e in cc)
    go (nabla A F) p e = absurd (let bad : None ≡ Some j = e in cc)
