-- A PROBLEM IN WHICH `nil` IS TO BE A LIST `X :: Y` is apart, whatever else it asks for: the equation stays until it is found.
use Rattle.std.specs.Prelude.{◌⊎◌, Option, Some, None, codes}
use Rattle.std.proofs.Common.{◌≡◌, inl, inr, ℕ, List, [], ◌∷◌, ◌++◌, map, refl, sym, ◌∙◌, ap, subst}
use Rattle.ab_term.specs.Terms.{Variable, constant, spine, Terms, Read}
use Rattle.ab_term.specs.Variables.{Substitution, image, image_all, composition}
use Rattle.ab_term.specs.Sameness.{same_number}
use Rattle.ab_unifiers.specs.Replacements.{Cell}
use Rattle.ab_unifiers.specs.Unification.{Equation, State, Answer, apart, Result, clash, parts, replaced, rule, Found, found_at, first_found, image_of, carried, next_by, finished, goes_on, Solves, at_end, by_step}
use Rattle.ab_unifiers.proofs.Ending.{answered}

abbrev Equations : Type 0
Equations = List (Equation (List ℕ))

pub data HasClash : Equations → Type 0 where
  at_first : {e : Equation (List ℕ)} {es : Equations} (ts us : Terms ℕ (List ℕ)) → e.left ≡ spine (constant (codes "nil")) ts → e.right ≡ spine (constant (codes "::")) us → HasClash (e ∷ es)
  later : {e : Equation (List ℕ)} {es : Equations} → HasClash es → HasClash (e ∷ es)

behind_others : (ds es : Equations) → HasClash es → HasClash (ds ++ es)
behind_others [] es h = h
behind_others (d ∷ ds) es h = later (behind_others ds es h)

in_image : (r : Substitution ℕ (List ℕ)) (es : Equations) → HasClash es → HasClash (map (image_of r) es)
in_image r [] h = elim h [ ]
in_image r (e ∷ es) (at_first ts us l k) = at_first (image_all same_number r ts) (image_all same_number r us) (ap (image same_number r) l) (ap (image same_number r) k)
in_image r (e ∷ es) (later h) = later (in_image r es h)

module _ (x : List ℕ) (cells : List (Cell (List ℕ))) (ys : List (Variable ℕ)) where
  clashes : (e : Equation (List ℕ)) (ts us : Terms ℕ (List ℕ)) → e.left ≡ spine (constant (codes "nil")) ts → e.right ≡ spine (constant (codes "::")) us → rule x cells ys e ≡ Some clash
  clashes e ts us l k = ap (λ (t : Read). rule x cells ys (record { place = e.place; left = t; right = e.right })) l ∙ ap (λ (t : Read). rule x cells ys (record { place = e.place; left = spine (constant (codes "nil")) ts; right = t })) k

  abbrev Finds : Equations → Type 0
  Finds es = (f : Found (List ℕ)) × (first_found (rule x cells ys) es ≡ Some f) × ((f.result ≡ clash) ⊎ HasClash f.behind)

  finds : (es : Equations) → HasClash es → Finds es
  finds [] h = elim h [ ]
  finds (e ∷ es) (at_first ts us l k) = (record { before = []; result = clash; behind = es }, ap (λ o. found_at e es o (first_found (rule x cells ys) es)) (clashes e ts us l k), inl refl)
  finds (e ∷ es) (later h) = go (rule x cells ys e) refl (finds es h)
    where
      go : (o : Option (Result (List ℕ))) → rule x cells ys e ≡ o → Finds es → Finds (e ∷ es)
      go (Some r) q f = (record { before = []; result = r; behind = es }, ap (λ o. found_at e es o (first_found (rule x cells ys) es)) q, inr h)
      go None q f =
          (record { before = e ∷ (f.0).before; result = (f.0).result; behind = (f.0).behind }, ap (λ o. found_at e es o (first_found (rule x cells ys) es)) q ∙ ap (λ o. found_at e es None o) f.1, f.2)

module _ (x : List ℕ) where
  ended : (s : State (List ℕ)) (f : Found (List ℕ)) (r : Result (List ℕ)) (a : Answer (List ℕ)) → carried s f r ≡ finished a → a ≡ apart
  ended s f clash a e = let same : apart ≡ a = cc in sym same
  ended s f (parts es) a e = absurd (cc)
  ended s f (replaced c) a e = absurd (cc)

  kept : (s r : State (List ℕ)) (f : Found (List ℕ)) (k : Result (List ℕ)) → carried s f k ≡ goes_on r → (k ≡ clash) ⊎ HasClash f.behind → HasClash r.equations
  kept s r f clash e h = absurd (cc)
  kept s r f (parts es) e (inl q) = absurd (cc)
  kept s r f (parts es) e (inr h) =
      let same : record { equations = f.before ++ es ++ f.behind; cells = s.cells; flexible = s.flexible; pairs = s.pairs } ≡ r = cc in
      subst (λ (z : State (List ℕ)). HasClash z.equations) same (behind_others (f.before ++ es) f.behind h)
  kept s r f (replaced c) e (inl q) = absurd (cc)
  kept s r f (replaced c) e (inr h) =
      let same : record { equations = map (image_of c.pairs) (f.before ++ f.behind); cells = c.cells; flexible = c.flexible; pairs = composition same_number s.pairs c.pairs } ≡ r = cc in
      subst (λ (z : State (List ℕ)). HasClash z.equations) same (in_image c.pairs (f.before ++ f.behind) (behind_others f.before f.behind h))

  pub clash_apart : {s : State (List ℕ)} {a : Answer (List ℕ)} → Solves x s a → HasClash s.equations → a ≡ apart
  clash_apart (at_end {s = s} {a = a} e) h =
      let f = finds x s.cells s.flexible s.equations h in
      ended s f.0 (f.0).result a (sym (ap (λ o. next_by s o) f.1) ∙ e)
  clash_apart (by_step {s = s} {r = r} e rest) h =
      let f = finds x s.cells s.flexible s.equations h in
      clash_apart rest (kept s r f.0 (f.0).result (sym (ap (λ o. next_by s o) f.1) ∙ e) f.2)

  pub solved_apart : (s : State (List ℕ)) → HasClash s.equations → Solves x s apart
  solved_apart s h = let k = answered x s in subst (Solves x s) (clash_apart k.1 h) k.1
