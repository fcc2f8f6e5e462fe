-- Each variable is replaced once: what was replaced is no longer flexible, and what is made is new.
use Rattle.std.proofs.Common.{◌≡◌, ℕ, ◌+◌, ◌<◌, ◌≤◌, ◌⊎◌, inl, inr, List, [], ◌∷◌, ◌++◌, map, length, Bool, true, false, cond, ◌||◌, not, Option, Some, None, refl, sym, ◌∙◌, ap, subst, arith, length-append}
use Rattle.std.specs.List.{list_all}
use Rattle.std.proofs.lemmas.Bool.{false≢true, or_cases, false_from_ne_true}
use Rattle.ab_term.specs.Terms.{Variable, Head, constant, logical, nominal, variable, index, Term, lam, spine, Terms, no_terms, term}
use Rattle.ab_term.specs.Variables.{Substitution, image, composition}
use Rattle.ab_term.specs.Sameness.{same_numbered, same_number}
use Rattle.ab_term.specs.Abstraction.{among, under}
use Rattle.ab_term.proofs.Same.{same_numbered-Decides}
use Rattle.ab_unifiers.specs.Patterns.{pattern, applied, kept, kept_type}
use Rattle.ab_unifiers.specs.Replacements.{Change, without, holds, is_flexible, made, next_variable, one, narrowed, pruned_names, pruned_here, pruned, pruned_all}
pub use Rattle.ab_unifiers.specs.Unifiers.{keys, AreDifferent, Comes}
use Rattle.ab_unifiers.proofs.Avoiding.{not_held, without_held}

pub keys-composition : {Hint : Type 0} (s r : Substitution ℕ Hint) → keys (composition same_number s r) ≡ keys s ++ keys r
keys-composition [] r = refl
keys-composition (p ∷ s) r = ap (λ l. p.0 ∷ l) (keys-composition s r)

pub different_both : (ys zs : List (Variable ℕ)) → AreDifferent ys → AreDifferent zs → ((y : Variable ℕ) → holds ys y ≡ true → holds zs y ≡ true → ⊥) → AreDifferent (ys ++ zs)
different_both [] zs a b n = b
different_both (y ∷ ys) zs a b n = (
  false_from_ne_true (holds (ys ++ zs) y) (λ e. elim (not_held ys zs y e) [ inl f ↦ false≢true (sym a.0 ∙ f) | inr f ↦ n y (ap (λ t. t || holds ys y) ((same_numbered-Decides y y).1 refl)) f ]),
  different_both ys zs a.1 b (λ v e f. n v (right (same_numbered y v) e) f),
)
  where
    right : {c : Bool} (b : Bool) → c ≡ true → (b || c) ≡ true
    right true e = refl
    right false e = e

pub not_itself : (y : Variable ℕ) (ys : List (Variable ℕ)) → holds (without y ys) y ≡ true → ⊥
not_itself y [] e = false≢true e
not_itself y (v ∷ vs) e = go (same_numbered v y) refl (not_itself y vs) e
  where
    go : (b : Bool) → same_numbered v y ≡ b → (holds (without y vs) y ≡ true → ⊥) → holds (cond (not b) (v ∷ without y vs) (without y vs)) y ≡ true → ⊥
    go true s rest e = rest e
    go false s rest e = elim (or_cases (same_numbered v y) (holds (without y vs) y) e) [ inl a ↦ false≢true (sym s ∙ a) | inr a ↦ rest a ]

pub only_one : (w v : Variable ℕ) → holds (w ∷ []) v ≡ true → w ≡ v
only_one w v e = elim (or_cases (same_numbered w v) false e) [ inl a ↦ (same_numbered-Decides w v).0 a | inr a ↦ absurd (false≢true a) ]

module _ {Hint : Type 0} where
  pub record KeysFine (n : ℕ) (ys : List (Variable ℕ)) (c : Change Hint) : Type 0 where
    pub longer : n ≤ length c.cells
    pub replaced : (y : Variable ℕ) → holds (keys c.pairs) y ≡ true → Comes n ys (length c.cells) y
    pub left : (y : Variable ℕ) → holds c.flexible y ≡ true → Comes n ys (length c.cells) y
    pub gone : (y : Variable ℕ) → holds (keys c.pairs) y ≡ true → holds c.flexible y ≡ true → ⊥
    pub different : AreDifferent (keys c.pairs)

module _ {Hint : Type 0} (x : Hint) (n : ℕ) (ys : List (Variable ℕ)) (known : (y : Variable ℕ) → holds ys y ≡ true → y.name < n) where
  later : (m now : ℕ) (y : Variable ℕ) → m ≤ now → Comes n ys m y → Comes n ys now y
  later m now y l (inl a) = inl a
  later m now y l (inr a) = inr (a.0, omega (arith, a.1, l))

  numbered : (now : ℕ) (y : Variable ℕ) → n ≤ now → Comes n ys now y → y.name < now
  numbered now y l (inl a) = omega (arith, known y a, l)
  numbered now y l (inr a) = a.1

  pub narrowed_keys : (z : Variable ℕ) (gs : List (Head ℕ)) (keep : List Bool) (c : Change Hint) → holds c.flexible z ≡ true → KeysFine n ys c → KeysFine n ys (narrowed x z gs keep c)
  narrowed_keys z gs keep c h k =
      let w = next_variable x c.cells (kept_type keep z.type) in
      let cell = made x c.cells z (kept_type keep z.type) in
      let more = one x z gs (applied x w (kept keep gs)) in
      let now = length (c.cells ++ cell ∷ []) in
      let longer : now ≡ length c.cells + 1 = length-append c.cells (cell ∷ []) in
      let up : length c.cells ≤ now = omega (arith, longer) in
      let split : (y : Variable ℕ) → holds (keys (composition same_number c.pairs more)) y ≡ true → (holds (keys c.pairs) y ≡ true) ⊎ (z ≡ y) = λ y e. splits y (subst (λ l. holds l y ≡ true) (keys-composition c.pairs more) e) in
      record {
        longer = omega (arith, k.longer, up);
        replaced = λ y e. elim (split y e) [ inl a ↦ later (length c.cells) now y up (k.replaced y a) | inr a ↦ later (length c.cells) now y up (k.left y (subst (λ v. holds c.flexible v ≡ true) a h)) ];
        left = λ y e. elim (not_held (without z c.flexible) (w ∷ []) y e) [ inl a ↦ later (length c.cells) now y up (k.left y (without_held z c.flexible y a)) | inr a ↦ inr (let name : length c.cells ≡ y.name = ap (λ v. v.name) (only_one w y a) in (omega (arith, name, k.longer), omega (arith, name, longer))) ];
        gone = λ y e f. elim (not_held (without z c.flexible) (w ∷ []) y f) [
          | inl a ↦ elim (split y e) [ inl b ↦ k.gone y b (without_held z c.flexible y a) | inr b ↦ not_itself z c.flexible (subst (λ v. holds (without z c.flexible) v ≡ true) (sym b) a) ]
          | inr a ↦ (let name : length c.cells ≡ y.name = ap (λ v. v.name) (only_one w y a) in
              elim (split y e) [ inl b ↦ (let low = numbered (length c.cells) y k.longer (k.replaced y b) in absurd (omega (arith, name, low))) | inr b ↦ (let low = numbered (length c.cells) y k.longer (k.left y (subst (λ v. holds c.flexible v ≡ true) b h)) in absurd (omega (arith, name, low))) ])
        ];
        different = subst AreDifferent (sym (keys-composition c.pairs more)) (different_both (keys c.pairs) (z ∷ []) k.different (refl, tt) (λ y e f. k.gone y e (subst (λ v. holds c.flexible v ≡ true) (only_one z y f) h)));
      }
    where
      splits : (y : Variable ℕ) → holds (keys c.pairs ++ z ∷ []) y ≡ true → (holds (keys c.pairs) y ≡ true) ⊎ (z ≡ y)
      splits y e = elim (not_held (keys c.pairs) (z ∷ []) y e) [ inl a ↦ inl a | inr a ↦ inr (only_one z y a) ]

  names_keys : (names : List (Head ℕ)) (y : Variable ℕ) (o : Option (List (Head ℕ))) (c : Change Hint) → holds c.flexible y ≡ true → KeysFine n ys c → KeysFine n ys (pruned_names x names y o c)
  names_keys names y None c h k = k
  names_keys names y (Some bs) c h k = go (list_all (among names) bs)
    where
      go : (b : Bool) → KeysFine n ys (cond b c (narrowed x y bs (map (among names) bs) c))
      go true = k
      go false = narrowed_keys y bs (map (among names) bs) c h k

  here_keys : (names : List (Head ℕ)) (t : Term ℕ Hint) (c : Change Hint) → KeysFine n ys c → KeysFine n ys (pruned_here x names t c)
  here_keys names (spine (variable y) ts) c k = go (holds c.flexible y) refl
    where
      go : (b : Bool) → holds c.flexible y ≡ b → KeysFine n ys (cond b (pruned_names x names y (pattern y.type ts) c) c)
      go true h = names_keys names y (pattern y.type ts) c h k
      go false h = k
  here_keys names (spine (constant d) ts) c k = k
  here_keys names (spine (logical d) ts) c k = k
  here_keys names (spine (nominal d) ts) c k = k
  here_keys names (spine (index d) ts) c k = k
  here_keys names (lam A y t) c k = k

  mutual
    pub pruned_keys : (vs : List (Variable ℕ)) (names : List (Head ℕ)) (t : Term ℕ Hint) (c : Change Hint) → KeysFine n ys c → KeysFine n ys (pruned x vs names t c)
    pruned_keys vs names (lam A y t) c k = pruned_keys vs (under names) t c k
    pruned_keys vs names (spine h ts) c k = go (is_flexible vs h) (pruned_all_keys vs names ts c k)
      where
        go : (b : Bool) → KeysFine n ys (pruned_all x vs names ts c) → KeysFine n ys (cond b (pruned_here x names (image same_number c.pairs (spine h ts)) c) (pruned_all x vs names ts c))
        go true rest = here_keys names (image same_number c.pairs (spine h ts)) c k
        go false rest = rest

    pruned_all_keys : (vs : List (Variable ℕ)) (names : List (Head ℕ)) (ts : Terms ℕ Hint) (c : Change Hint) → KeysFine n ys c → KeysFine n ys (pruned_all x vs names ts c)
    pruned_all_keys vs names no_terms c k = k
    pruned_all_keys vs names (term t ts) c k = pruned_all_keys vs names ts (pruned x vs names t c) (pruned_keys vs names t c k)
